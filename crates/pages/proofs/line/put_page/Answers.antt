-- `pages::line::put_page` meets its contract.
use mathlib.Core.Path.{◌≡◌, ◌∙◌, ap}
use mathlib.Core.List.{[], append-nil}
use Prim.Native.Nat.{◌+◌, ◌/◌}
use native.Mathlib.Omega.{arith}
use lib.ListN.{length, take}
use Rattle.cells.specs.Cells.{flat}
use Rattle.listing.proofs.Pieces.{written_start}
use Rattle.pages.specs.Pages.{heading, new_page}
use Rattle.pages.proofs.Lines.{page_none, page_some, length-heading}
use Rattle.pages.proofs.line.put_page.Goals as goal
use Rattle.pages.proofs.line.put_page.Goals.{then-position-eq0-via-then-position-eq0, then-position-eq0-via-else-position-eq0+then-position-ne0}

pub returns-then-position-eq0 : goal.returns-then-position-eq0
returns-then-position-eq0 c =
    let a = c.args in
    let none : flat (new_page a.name a.position) ≡ [] = elim c.then-position-eq0.branch [
      | then-position-eq0-via-then-position-eq0 w ↦ let e : a.position ≡ 0 = omega (arith, w.if-position-eq0.true) in rw e
      | then-position-eq0-via-else-position-eq0+then-position-ne0 w ↦ ap flat (page_none a.name a.position (λ e. omega (arith, w.if-position-ne0.true)))
    ] in
    rw (none, append-nil (take a.at a.text.now)) (written_start a.text.now a.at (omega arith))

pub put_heading-requires : goal.put_heading-requires
put_heading-requires c =
    let a = c.args in
    let e = ap flat (page_some a.name a.position (omega arith) (omega arith)) in
    let n = ap length (e ∙ append-nil (heading a.name (a.position / 49 + 1))) in
    omega (arith, n, length-heading a.name (a.position / 49 + 1))

pub returns : goal.returns
returns c =
    let a = c.args in
    let e = ap flat (page_some a.name a.position (omega arith) (omega arith)) in
    rw (e ∙ append-nil (heading a.name (a.position / 49 + 1))) c.put_heading.ensures
