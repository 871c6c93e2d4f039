-- The rewriting operations refuse alike: what one refuses, with an output of n bytes, every other refuses by the same refusal.
use mathlib.Core.Path.{◌≡◌}
use mathlib.Core.List.{List}
use Prim.Native.Nat.{ℕ}
use native.Mathlib.Omega.{arith}
use Rattle.cells.specs.declared.refusal.Refusal.{Refusal}
use Rattle.passes.specs.Passes.{pass_bytes, pass_count, pass_check, answer_as, pass_answer}
use Rattle.passes.specs.declared.Pass.{Pass}
use lib.ListN.{length}
use Rattle.std.specs.Prelude.{Ok, Err}
use Rattle.cells.specs.Checked.{Checked}

pub refuses-alike : (p q : Pass) (s : List ℕ) (n : ℕ) (x : Refusal) → pass_answer p s n ≡ Err x → pass_answer q s n ≡ Err x
unfolding pass_answer
refuses-alike p q s n x = go (pass_check s n)
  where
    go : (a : Checked) → answer_as a (length (pass_bytes p s)) (pass_count p s) ≡ Err x → answer_as a (length (pass_bytes q s)) (pass_count q s) ≡ Err x
    go (Ok tt) e = let z : ◌≡◌ {A = ℕ} 0 1 = cc in absurd (omega arith)
    go (Err y) e = e
