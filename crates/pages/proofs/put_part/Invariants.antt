-- `pages::put_part` meets its contract.
use Rattle.cells.specs.Cells.{cells}
use Rattle.pages.proofs.Laying.{PartPut}
use Rattle.pages.proofs.put_part.Given as goal

abbrev pub invariant-loop-i : goal.invariant-loop-i
invariant-loop-i l = PartPut l.p l.name l.position (cells l.part) l.initial.text l.at l.text l.to l.i
