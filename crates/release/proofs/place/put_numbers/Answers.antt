-- `release::place::put_numbers` meets its contract.
use mathlib.Core.Path.{refl}
use mathlib.Core.List.{◌++◌}
use Rattle.cells.specs.Bytes.{bytes}
use Rattle.cells.proofs.Over.{over-part}
use borrow.Author.Rules.{rules}
use Rattle.release.proofs.place.put_numbers.Goals as goal

pub returns : goal.returns
returns c =
    let x = c.args.x in
    let buffer = c.args.buffer.now in
    over-part (bytes 4 x.number ++ bytes 4 x.position) (bytes 4 x.detail) buffer _ _ 8 refl (search rules)
    (over-part (bytes 4 x.number) (bytes 4 x.position) buffer _ _ 4 refl (search rules) c.put_number.ensures c.put_number-2.ensures)
    c.put_number-3.ensures
