-- CrystalFold of a well-formed function is well-formed, whatever the rules, and has as many cells.
use mathlib.Core.Path.{◌≡◌, ◌∙◌}
use mathlib.Core.List.{List}
use Prim.Native.Nat.{ℕ, ◌<◌}
use native.Mathlib.Omega.{arith}
use lib.ListN.{length, length-append}
use Rattle.cells.specs.Cells.{Cell, Full}
use Rattle.cells.specs.Ins.{comp}
use Rattle.cells.specs.View.{view, Registers}
use Rattle.cells.specs.Lists.{All}
use Rattle.cells.specs.Check.{registers}
use Rattle.cells.specs.Functions.{Function, cells_of}
use Rattle.cells.specs.WellFormed.{InstructionGood, WellFormed}
use Rattle.cells.proofs.Lists.{all_append, all_parts}
use Rattle.cells.proofs.Views.{view-registers}
use Rattle.cells.proofs.GoodCells.{load_good, load_length}
use Rattle.crystalfold.specs.Rules.{Rules}
use Rattle.crystalfold.specs.CrystalFold.{fold_code, fold_function}
use Rattle.crystalfold.proofs.FoldCounts.{length-folded}
use Rattle.crystalfold.proofs.EachFolded.{all-folded}

module _ (f : Rules) where
  -- a fold writes a load of the register that its command wrote
  pub folded-good : (cs : List Cell) → All InstructionGood cs → All InstructionGood (fold_code f cs)
  folded-good = all-folded InstructionGood f (λ c k o d a b v g e. load_good d v (dst_small c k o d a b g e))
    where
      dst_small : (c k : Cell) (o d a b : ℕ) → InstructionGood c → view c ≡ comp k o d a b → d < registers
      dst_small c k o d a b g e = let r : Registers (comp k o d a b) = rw e at (view-registers 0 0 c (g 0 0)) in r.0

  pub folded_full : (cs : List Cell) → Full cs → Full (fold_code f cs)
  folded_full = all-folded (λ c. length c ≡ 16) f (λ c k o d a b v g e. load_length d v)

  pub fold_well_formed : (g : Function) → WellFormed g → WellFormed (fold_function f g)
  unfolding fold_function
  fold_well_formed g w =
      let e = length-folded f g.code in
      let s = all_parts (λ c. length c ≡ 16) g.code g.events w.full.1 in
      record {
        head = λ p d. rw e (w.head p d);
        code = folded-good g.code w.code;
        events = w.events;
        counted = (e ∙ w.counted.0, w.counted.1);
        full = (w.full.0, all_append (λ c. length c ≡ 16) (fold_code f g.code) g.events (folded_full g.code s.0) s.1);
      }

  pub fold-cells : (g : Function) → length (cells_of (fold_function f g)) ≡ length (cells_of g)
  unfolding fold_function
  fold-cells g = omega (arith, length-append (fold_code f g.code) g.events, length-append g.code g.events, length-folded f g.code)
