-- `sealing::check_function` meets its contract.
use Rattle.std.specs.Prelude.{◌≡◌, ℕ, List, Bool, true, false, Err, length}
use Rattle.std.proofs.Common.{◌∙◌, ◌+◌, ◌<◌, ◌∷◌, sym, get_or, drop, eqb}
use Rattle.std.proofs.lemmas.List.{at_drop_more}
use Rattle.cells.proofs.Facts.{by_test}
use Rattle.cells.proofs.Lists.{any_no, no_any}
use Rattle.sites.specs.Numbered.{one_of, count_in}
use Rattle.sites.specs.declared.Which.{Which}
use Rattle.sealing.specs.Answer.{Sealing}
use Rattle.sealing.specs.Steps.{repeat_among}
use Rattle.sealing.specs.declared.SealingError.TheVariants.{Repeated}
use Rattle.sealing.proofs.check_function.Goals as goal

-- the own number at i, and those behind it
module _ (w : Which) (position : ℕ) (earlier own : List ℕ) {i : ℕ} (l : i < length own) {answer : Sealing} (h : answer ≡ repeat_among w position earlier (drop i own)) where
  abbrev x : ℕ
  x = get_or own i 0

  at : repeat_among w position earlier (drop i own) ≡ repeat_among w position earlier (x ∷ drop (i + 1) own)
  at = at_drop_more (repeat_among w position earlier) own i 0 l

  stands : {r : ℕ} → r ≡ count_in earlier x → (r ≡ 0 → ⊥) → Err (Repeated w position x) ≡ answer
  stands e z =
      let y : one_of x earlier ≡ true = by_test (one_of x earlier) (λ y. y) (λ y. absurd (z (e ∙ any_no (λ (y : ℕ). eqb y x) earlier y))) in
      sym (h ∙ at ∙ rw y)

  stands_nowhere : {r : ℕ} → r ≡ count_in earlier x → r ≡ 0 → answer ≡ repeat_among w position earlier (drop (i + 1) own)
  stands_nowhere e z = let n : one_of x earlier ≡ false = no_any (λ (y : ℕ). eqb y x) earlier (sym e ∙ z) in h ∙ at ∙ rw n

pub returns-then-count-ne0 : goal.returns-then-count-ne0
returns-then-count-ne0 c = stands c.args.w c.args.position c.args.earlier.now c.args.own.now c.loop-x-test.true c.loop-x.invariant c.count.ensures c.if-count-ne0.true

pub loop-x-preserved : goal.loop-x-preserved
loop-x-preserved c = stands_nowhere c.args.w c.args.position c.args.earlier.now c.args.own.now c.loop-x-test.true c.loop-x.invariant c.count.ensures c.if-count-ne0.false
