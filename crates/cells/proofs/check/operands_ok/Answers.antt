-- `cells::check::operands_ok` meets its contract. The invariant of its loop: what is left of the number is the packed form of a row's end,
-- whose operands fit the rest of the cell, and what that end says of the rest is what the whole row says from byte 1 on.
use mathlib.Core.Path.{◌≡◌, refl, ap, sym, ◌∙◌, subst}
use mathlib.Core.List.{List, [], ◌∷◌}
use mathlib.Core.Bool.{true, false}
use Prim.Native.Nat.{ℕ, ◌+◌, ◌%◌, ◌/◌, ◌≤◌}
use native.Mathlib.Omega.{arith}
use lib.ListN.{length, drop}
use Rattle.cells.specs.Bytes.{zeros}
use Rattle.cells.specs.Table.{row_at, row_of, total, width_of}
use Rattle.cells.specs.RowNumbers.{packed}
use Rattle.cells.specs.RowNumbers.{kind_of}
use Rattle.cells.specs.Check.{operand_ok, operands_ok}
use Rattle.cells.specs.declared.table.Kind.{Kind}
use Rattle.cells.proofs.Rows.{row_operands, packed-first, packed-rest, packed_some}
use Rattle.cells.proofs.check.operands_ok.Invariants.{End}
use Rattle.cells.proofs.check.operands_ok.Goals as goal
use Rattle.cells.proofs.check.operands_ok.Goals.{After-from-k}

-- what a turn finds at the operand of kind k
record Turn (c : List ℕ) (row left at : ℕ) (k : Kind) : Type 0 where
  room : at + width_of k ≤ length c
  stop : operand_ok k c at ≡ false → operands_ok (row_of row) c 1 ≡ false
  next : (w : ℕ) → w ≡ width_of k → operand_ok k c at ≡ true → End c row (left / 16) (at + w)

turn_of : (c : List ℕ) (row left at : ℕ) (ks : List Kind) → left ≡ packed ks → at + total ks ≤ length c → operands_ok (row_of row) c 1 ≡ operands_ok ks c at
    → (left ≡ 0 → ⊥) → (k : Kind) → k ≡ kind_of (left % 16) → Turn c row left at k
turn_of c row left at [] is fits says some k e = absurd (some is)
turn_of c row left at (k₁ ∷ ks) is fits says some k e =
    let same : k ≡ k₁ = e ∙ ap (λ (n : ℕ). kind_of (n % 16)) is ∙ packed-first k₁ ks in
    subst (λ (x : Kind). Turn c row left at x) (sym same)
    (record {
      room = omega arith;
      stop = λ no. says ∙ simp no;
      next = λ w e yes. record {
        ks = ks;
        is = ap (λ (n : ℕ). n / 16) is ∙ packed-rest k₁ ks;
        fits = omega arith;
        says = says ∙ simp (yes, e);
      };
    })

turn : {c : List ℕ} {row left at : ℕ} → End c row left at → (left ≡ 0 → ⊥) → (k : Kind) → k ≡ kind_of (left % 16) → Turn c row left at k
turn {c} {row} {left} {at} e = turn_of c row left at e.ks e.is e.fits e.says

-- nothing is left
done_of : (c : List ℕ) (row left at : ℕ) (ks : List Kind) → left ≡ packed ks → at + total ks ≤ length c → operands_ok (row_of row) c 1 ≡ operands_ok ks c at
    → left ≡ 0 → (at ≤ length c) × (operands_ok (row_of row) c 1 ≡ zeros (drop at c))
done_of c row left at [] is fits says none = (omega arith, says)
done_of c row left at (k ∷ ks) is fits says none = absurd (packed_some k ks (sym is ∙ none))

done : {c : List ℕ} {row left at : ℕ} → End c row left at → left ≡ 0 → (at ≤ length c) × (operands_ok (row_of row) c 1 ≡ zeros (drop at c))
done {c} {row} {left} {at} e = done_of c row left at e.ks e.is e.fits e.says

pub loop-left-init : goal.loop-left-init
loop-left-init c =
    let p = c in
    record { ks = row_of p.args.row; is = ap (λ (n : ℕ). n / 16) c.row_at-left.ensures ∙ row_operands (row_at p.args.row); fits = p.requires.0; says = refl }

-- what the turn finds, once its kind is known
at-kind : (c : After-from-k) → Turn c.args.c.now c.args.row
    c.loop-left.left c.loop-left.at c.from-k.result
at-kind c = turn c.loop-left.invariant c.loop-left-test.true c.from-k.result c.from-k.ensures

pub returns-then-not-operand_ok : goal.returns-then-not-operand_ok
returns-then-not-operand_ok c = sym ((at-kind (goal.at.returns-then-not-operand_ok c).After-from-k).stop (sym c.operand_ok.ensures ∙ c.if-not-operand_ok.true))

pub loop-left-preserved : goal.loop-left-preserved
loop-left-preserved c =
    (at-kind (goal.at.loop-left-preserved c).After-from-k).next c.width-at.result c.width-at.ensures (sym c.operand_ok.ensures ∙ c.if-not-operand_ok.false)

pub zeros_from-requires : goal.zeros_from-requires
zeros_from-requires c = (done c.loop-left.invariant c.loop-left-test.false).0

pub returns : goal.returns
returns c = c.zeros_from.ensures ∙ sym (done c.loop-left.invariant c.loop-left-test.false).1

pub operand_ok-requires : goal.operand_ok-requires
operand_ok-requires c = (at-kind c).room

pub overflow_add-at : goal.overflow_add-at
overflow_add-at c = omega (arith, (at-kind (goal.at.overflow_add-at c).After-from-k).room)
