-- `pages::line::put_line` meets its contract.
use native.Mathlib.Omega.{arith}
use lib.ListN.{length-take, length-drop, length-set}
use Rattle.pages.proofs.Laying.{title_end, bytes_end, line-written}
use Rattle.pages.proofs.Lines.{length_title}
use Rattle.pages.proofs.line.put_line.Goals as goal

pub append-b-requires : goal.append-b-requires
append-b-requires c =
    let u = c.put_title-a in
    omega (arith, u.ensures.end, length_title c.args.p c.args.position c.args.cell.now c.requires.0.0 c.requires.1, u.auto)

pub put_hex-c-requires : goal.put_hex-c-requires
put_hex-c-requires c =
    let u = c.put_title-a in
    let v = c.append-b in
    simp (length-take, length-drop) (omega (arith, title_end c.args.p c.args.position c.args.cell.now c.requires.0 c.requires.1 u.ensures v.ensures, c.requires.0.1, u.auto, v.auto))

pub bounds-line-c : goal.bounds-line-c
bounds-line-c c =
    let u = c.put_title-a in
    let v = c.append-b in
    let z = c.put_hex-c in
    omega (arith, bytes_end c.args.p c.args.position c.args.cell.now c.requires.0 c.requires.1 u.ensures v.ensures z.ensures, u.auto, v.auto, z.auto)

pub overflow_add-result : goal.overflow_add-result
overflow_add-result c =
    let u = c.put_title-a in
    let v = c.append-b in
    let z = c.put_hex-c in
    record { fits = omega (arith, bytes_end c.args.p c.args.position c.args.cell.now c.requires.0 c.requires.1 u.ensures v.ensures z.ensures) }

pub shape_of-line : goal.shape_of-line
shape_of-line c = simp length-set (omega (arith, c.put_title-a.auto, c.append-b.auto, c.put_hex-c.auto))

pub returns : goal.returns
returns c =
    let u = c.put_title-a in
    let v = c.append-b in
    let z = c.put_hex-c in
    line-written c.args.p c.args.position c.args.cell.now c.requires.0 c.requires.1 u.ensures v.ensures z.ensures c.requires.2
