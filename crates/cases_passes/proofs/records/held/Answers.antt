use Rattle.cases_passes.proofs.Marked.{part}
use Rattle.cases_passes.proofs.Called.{held_in, no_name, no_image, no_output}
use Rattle.cases_passes.proofs.records.held.Goals as goal

pub returns-then-name-a : goal.returns-then-name-a
returns-then-name-a g c =
    let a = c.args in
    no_name a.head.now a.name.now a.image.now a.want.now a.s c.if-name-a.true

pub returns-then-image-b : goal.returns-then-image-b
returns-then-image-b g c =
    let a = c.args in
    no_image a.head.now a.name.now a.image.now a.want.now a.s c.if-image-b.true

pub returns-then-want-c : goal.returns-then-want-c
returns-then-want-c g c =
    let a = c.args in
    no_output a.head.now a.name.now a.image.now a.want.now a.s c.if-want-c.true

pub returns : goal.returns
returns g c =
    let a = c.args in
    held_in a.head.now a.name.now a.image.now a.want.now a.s _ c.if-name-a.false c.if-image-b.false c.if-want-c.false c.holds.ensures

pub slice_bounds-holds-end : goal.slice_bounds-holds-end
slice_bounds-holds-end g c = part _ _ c.if-name-a.false

pub slice_bounds-holds-end-2 : goal.slice_bounds-holds-end-2
slice_bounds-holds-end-2 g c = part _ _ c.if-image-b.false

pub slice_bounds-holds-end-3 : goal.slice_bounds-holds-end-3
slice_bounds-holds-end-3 g c = part _ _ c.if-want-c.false
