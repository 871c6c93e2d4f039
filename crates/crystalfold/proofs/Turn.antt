-- One turn of the fold's loop.
use Rattle.std.specs.Prelude.{Option, None, Some}
use Prim.Native.Nat.{ℕ, suc, ◌+◌, ◌-◌, ◌*◌, ◌/◌, ◌≤◌, ◌<◌}
use mathlib.Core.Path.{◌≡◌, refl, sym, ap, ap₂, subst, ◌∙◌}
use mathlib.Core.Bool.{true, false≢true}
use mathlib.Core.List.{List, [], ◌++◌, append_assoc, append-nil}
use native.Mathlib.Nat.{add-zero, add_assoc, zero-add, sub-zero}
use native.Mathlib.Omega.{arith}
use lib.ListN.{length, get_or, set, take, drop, length-append, length-take, length-drop, take-append-drop}
use lib.Seq.{take_at, drop_at, length-take-le, take_all, drop-drop}
use Rattle.leaves.specs.declared.constant.ConstVal.{ConstVal}
use Rattle.leaves.specs.declared.constant.ConstVal.TheVariants.{Unknown, Quad as QuadV, Bool as BoolV, F64, I32, U32, Fx}
use Rattle.leaves.specs.Constants.{is_known}
use Rattle.leaves.specs.Verdicts.{value_in}
use Rattle.cells.specs.Lists.{All}
use Rattle.cells.specs.Cells.{Cell, chunks, cell_at, flat}
use Rattle.cells.specs.Check.{registers}
use Rattle.cells.specs.Ins.{Const}
use Rattle.cells.specs.View.{view, load_cell, Registers}
use Rattle.cells.proofs.GoodCells.{load_length}
use Rattle.machine.specs.Values.{written_of}
use Rattle.machine.specs.Evaluate.{evaluate}
use Rattle.crystalfold.specs.Rules.{Rules, fold₂, rules_of}
use Rattle.crystalfold.specs.Fold.{Table, unknown, note, folded_to, dst_of, known_after, one_if, fold, fold_count, as_load}
use Rattle.crystalfold.specs.CrystalFold.{fold_code, folds_of}
use Rattle.crystalfold.specs.Known.{NothingKnown}
use Rattle.crystalfold.specs.Commands.{command_of}
use Rattle.crystalfold.specs.InPlace.{Foldable, Folded, Computed, cell_or, load_or_zeros}
use Rattle.crystalfold.specs.declared.rules.RuleSet.{RuleSet}
use Rattle.crystalfold.specs.declared.command.Command.{Command}
use Rattle.crystalfold.specs.declared.command.Command.TheVariants.{Barrier, Load, Compute, Forget, Other}
use Rattle.crystalfold.proofs.FoldCounts.{at_most_one}
use Rattle.crystalfold.proofs.Agreement.{Agree, agree_note}
use Rattle.crystalfold.proofs.Effects.{Effect, effect, Within, within}

-- n cells of s, folded from the table t on, as bytes; and how many folds that is
abbrev fold_from : Rules → ℕ → Table → List ℕ → List ℕ
fold_from f n t s = flat (fold view f load_cell t (chunks n s))

abbrev count_from : Rules → ℕ → Table → List ℕ → ℕ
count_from f n t s = fold_count view f t (chunks n s)

abbrev InRange : ℕ → List ℕ → Type 0
InRange n s = All (λ (c : Cell). Registers (view c)) (chunks n s)

-- i of the n cells are done: those stand as they will, and the rest, folded from a table that agrees with what the code holds, gives what
-- all give
pub record Done (s : RuleSet) (bytes₀ : List ℕ) (n : ℕ) (bytes : List ℕ) (held : List ConstVal) (count i : ℕ) : Type 0 where
  pub table : Table
  pub agree : Agree held table
  pub upto : i ≤ n
  pub room : 16 * n ≡ length bytes₀
  pub same : length bytes ≡ length bytes₀
  pub few : count ≤ i
  pub in_range : InRange (n - i) (drop (16 * i) bytes)
  pub joined : take (16 * i) bytes ++ fold_from (rules_of s) (n - i) table (drop (16 * i) bytes) ≡ fold_from (rules_of s) n unknown bytes₀
  pub counted : count + count_from (rules_of s) (n - i) table (drop (16 * i) bytes) ≡ count_from (rules_of s) n unknown bytes₀

pub or-length : (c : Cell) (d : ℕ) (k : Option Const) → length c ≡ 16 → length (cell_or c d k) ≡ 16
or-length c d None h = h
or-length c d (Some k) h = load_length d k

-- a known value is written: its load stands in place of the cell, and counts 1
has_bits : (v : ConstVal) → is_known v ≡ true → (k : Const) × (written_of v ≡ Some k)
has_bits Unknown h = absurd (false≢true h)
has_bits (QuadV q) h = (_, refl)
has_bits (BoolV b) h = (_, refl)
has_bits (F64 x) h = (_, refl)
has_bits (I32 z) h = (_, refl)
has_bits (U32 n) h = (_, refl)
has_bits (Fx z) h = (_, refl)

pub load_stands : (c : Cell) (d : ℕ) (v : ConstVal) → is_known v ≡ true → load_or_zeros d (written_of v) ≡ cell_or c d (written_of v)
load_stands c d v h = let (k, e) = has_bits v h in rw e

pub counts-one : (v : ConstVal) → is_known v ≡ true → 1 ≡ one_if (written_of v)
counts-one v h = let (k, e) = has_bits v h in rw e

-- the first of the cells, and those behind it
module _ (f : Rules) (t : Table) (s : List ℕ) (m : ℕ) where
  as_load_lem : (d : ℕ) (k : Option Const) → as_load view f load_cell (take 16 s) d k ≡ cell_or (take 16 s) d k
  as_load_lem d None = refl
  as_load_lem d (Some k) = refl

  module _ (d : ℕ) (k : Option Const) (t' : Table) (ed : dst_of (view (take 16 s)) ≡ d) (ek : folded_to f t (view (take 16 s)) ≡ k) (et : known_after f t (view (take 16 s)) ≡ t') where
    fold_suc : fold_from f (suc m) t s ≡ cell_or (take 16 s) d k ++ fold_from f m t' (drop 16 s)
    fold_suc =
        ap₂ (λ (c : Cell) (u : Table). c ++ fold_from f m u (drop 16 s))
        (ap₂ (λ (e : ℕ) (j : Option Const). as_load view f load_cell (take 16 s) e j) ed ek ∙ as_load_lem d k)
        et

    count_suc : count_from f (suc m) t s ≡ one_if k + count_from f m t' (drop 16 s)
    count_suc = ap₂ (λ (j : Option Const) (u : Table). one_if j + count_from f m u (drop 16 s)) ek et

-- the cell at k, put back as it was
pub kept : (k : ℕ) (s : List ℕ) → take k s ++ (take 16 (drop k s) ++ drop (k + 16) s) ≡ s
kept k s =
    ap (λ (r : List ℕ). take k s ++ (take 16 (drop k s) ++ r)) (sym (drop-drop 16 k s))
    ∙ ap (λ (r : List ℕ). take k s ++ r) (take-append-drop 16 (drop k s))
    ∙ take-append-drop k s

module _ {s : RuleSet} {bytes₀ : List ℕ} {n : ℕ} {bytes : List ℕ} {held : List ConstVal} {count i : ℕ} where
  -- the next cell, its command, and what it does
  next_in_range : (d : Done s bytes₀ n bytes held count i) → i < n → InRange (suc (n - (i + 1))) (drop (16 * i) bytes)
  next_in_range d h =
      let nm : n - i ≡ suc (n - (i + 1)) = omega arith in
      subst (λ (j : ℕ). InRange j (drop (16 * i) bytes)) nm d.in_range

  within_now : (d : Done s bytes₀ n bytes held count i) → i < n → {r r' : Command} → r ≡ command_of (cell_at bytes i) → r ≡ r' → Within r'
  unfolding command_of
  within_now d h e e' = subst Within (sym e ∙ e') (within (view (cell_at bytes i)) (next_in_range d h).0)

  effect_now : (d : Done s bytes₀ n bytes held count i) → {r r' : Command} → r ≡ command_of (cell_at bytes i) → r ≡ r'
      → Effect (rules_of s) d.table (view (cell_at bytes i)) r'
  unfolding command_of
  effect_now d e e' = subst (Effect (rules_of s) d.table (view (cell_at bytes i))) (sym e ∙ e') (effect (rules_of s) d.table (view (cell_at bytes i)))

  turn : (d : Done s bytes₀ n bytes held count i) → i < n → (dst : ℕ) (k : Option Const) (t' : Table) {held' : List ConstVal}
      → dst_of (view (cell_at bytes i)) ≡ dst → folded_to (rules_of s) d.table (view (cell_at bytes i)) ≡ k
      → known_after (rules_of s) d.table (view (cell_at bytes i)) ≡ t' → Agree held' t'
      → (count' : ℕ) → count' ≡ count + one_if k
      → Done s bytes₀ n (take (16 * i) bytes ++ (cell_or (cell_at bytes i) dst k ++ drop (16 * i + 16) bytes)) held' count' (i + 1)
  turn d h dst k t' ed ek et a count' ec =
      let f = rules_of s in
      let o = 16 * i in
      let m = n - (i + 1) in
      let rest = drop o bytes in
      let c = cell_or (take 16 rest) dst k in
      let p = take o bytes ++ c in
      let room = d.room in
      let same = d.same in
      let few = d.few in
      let most = at_most_one k in
      let l16 : length (take 16 rest) ≡ 16 = length-take-le 16 rest (simp length-drop (omega arith)) in
      let lc : length c ≡ 16 = or-length (take 16 rest) dst k l16 in
      let lo : length (take o bytes) ≡ o = length-take-le o bytes (omega arith) in
      let lp : length p ≡ 16 * (i + 1) = length-append (take o bytes) c ∙ omega arith in
      let all : take o bytes ++ (c ++ drop (o + 16) bytes) ≡ p ++ drop (o + 16) bytes = sym (append_assoc (take o bytes) c (drop (o + 16) bytes)) in
      let tk : take (16 * (i + 1)) (take o bytes ++ (c ++ drop (o + 16) bytes)) ≡ p = ap (take (16 * (i + 1))) all ∙ take_at p (drop (o + 16) bytes) (16 * (i + 1)) lp in
      let dk : drop (16 * (i + 1)) (take o bytes ++ (c ++ drop (o + 16) bytes)) ≡ drop 16 rest =
      ap (drop (16 * (i + 1))) all ∙ drop_at p (drop (o + 16) bytes) (16 * (i + 1)) lp ∙ sym (drop-drop 16 o bytes) in
      let nm : suc m ≡ n - i = omega arith in
      let ff : fold_from f (n - i) d.table rest ≡ c ++ fold_from f m t' (drop 16 rest) =
      ap (λ (j : ℕ). fold_from f j d.table rest) (sym nm) ∙ fold_suc f d.table rest m dst k t' ed ek et in
      let cf : count_from f (n - i) d.table rest ≡ one_if k + count_from f m t' (drop 16 rest) =
      ap (λ (j : ℕ). count_from f j d.table rest) (sym nm) ∙ count_suc f d.table rest m dst k t' ed ek et in
      record {
        table = t';
        agree = a;
        upto = omega arith;
        room = room;
        same = simp (length-append, length-take, length-drop) (omega arith);
        few = omega arith;
        in_range = subst (InRange m) (sym dk) (next_in_range d h).1;
        joined =
            ap₂ (λ (x y : List ℕ). x ++ fold_from f m t' y) tk dk
            ∙ append_assoc (take o bytes) c (fold_from f m t' (drop 16 rest))
            ∙ ap (λ (x : List ℕ). take o bytes ++ x) (sym ff)
            ∙ d.joined;
        counted =
            ap (λ (x : List ℕ). count' + count_from f m t' x) dk
            ∙ ap (λ (x : ℕ). x + count_from f m t' (drop 16 rest)) ec
            ∙ add_assoc count (one_if k) (count_from f m t' (drop 16 rest))
            ∙ ap (λ (x : ℕ). count + x) (sym cf)
            ∙ d.counted;
      }

  turn_kept : (d : Done s bytes₀ n bytes held count i) → i < n → (t' : Table) {held' : List ConstVal}
      → folded_to (rules_of s) d.table (view (cell_at bytes i)) ≡ None
      → known_after (rules_of s) d.table (view (cell_at bytes i)) ≡ t' → Agree held' t'
      → Done s bytes₀ n bytes held' count (i + 1)
  turn_kept d h t' {held'} ek et a =
      subst (λ (x : List ℕ). Done s bytes₀ n x held' count (i + 1)) (kept (16 * i) bytes)
      (turn d h (dst_of (view (cell_at bytes i))) None t' refl ek et a count (sym (add-zero count)))

  -- by command
  module _ (d : Done s bytes₀ n bytes held count i) (h : i < n) {r : Command} (e : r ≡ command_of (cell_at bytes i)) where
    pub bound : {r' : Command} → r ≡ r' → Within r'
    bound = within_now d h e

    pub turn_barrier : {held' : List ConstVal} → r ≡ Barrier → Agree held' unknown → Done s bytes₀ n bytes held' count (i + 1)
    turn_barrier b a =
        let (none-folded, after) = effect_now d e b in
        turn_kept d h unknown none-folded after a

    pub turn_other : r ≡ Other → Done s bytes₀ n bytes held count (i + 1)
    turn_other b =
        let (none-folded, after) = effect_now d e b in
        turn_kept d h d.table none-folded after d.agree

    -- commands that write an entry
    module _ (size : registers ≤ length held) where
      in_table : {x : ℕ} → x < registers → x < length held
      in_table {x} b = omega arith

      pub turn_load : {x : ℕ} {v : ConstVal} → r ≡ Load x v → Done s bytes₀ n bytes (set held x v) count (i + 1)
      turn_load {x} {v} b =
          let (none-folded, (k, kv, after)) = effect_now d e b in
          turn_kept d h (note x (Some k) d.table) none-folded after (agree_note held d.table x v (Some k) (in_table (bound b)) kv d.agree)

      pub turn_forget : {x : ℕ} → r ≡ Forget x → Done s bytes₀ n bytes (set held x Unknown) count (i + 1)
      turn_forget {x} b =
          let (none-folded, after) = effect_now d e b in
          turn_kept d h (note x None d.table) none-folded after (agree_note held d.table x Unknown None (in_table (bound b)) refl d.agree)

      -- v is what the command comes to, or Unknown
      pub turn_compute : {o x a b : ℕ} {v : ConstVal} {bytes' : List ℕ} → r ≡ Compute o x a b
          → Computed (rules_of s o) (get_or held a Unknown) (get_or held b Unknown) i x bytes bytes' v → (count' : ℕ) → count' ≡ count + one_if (written_of v)
          → Done s bytes₀ n bytes' (set held x v) count' (i + 1)
      turn_compute {o} {x} {a} {b} {v} c p count' ec =
          let t = d.table in
          let (folded, dst, after) = effect_now d e c in
          let w : fold₂ (rules_of s o) (t a) (t b) ≡ written_of v =
          ap written_of (sym (p.value ∙ ap₂ (λ (l r : ConstVal). value_in (evaluate (rules_of s o) l r)) (d.agree a) (d.agree b))) in
          subst (λ (y : List ℕ). Done s bytes₀ n y (set held x v) count' (i + 1)) (sym p.put.bytes)
          (turn d h x (written_of v) (note x (written_of v) t) dst (folded ∙ w) (after ∙ ap (λ (k : Option Const). note x k t) w)
          (agree_note held t x v (written_of v) (in_table (bound c).0) p.put.read_back d.agree) count' ec)

pub start : {s : RuleSet} {bytes : List ℕ} {held : List ConstVal} → Foldable bytes → NothingKnown held → Done s bytes (length bytes / 16) bytes held 0 0
start {s} {bytes} {held} h u =
    let z : length bytes / 16 ≡ length bytes / 16 - 0 = sym (sub-zero (length bytes / 16)) in
    let whole = h.whole in
    record {
      table = unknown;
      agree = u.at;
      upto = omega arith;
      room = omega arith;
      same = refl;
      few = omega arith;
      in_range = subst (λ (j : ℕ). InRange j bytes) z h.in_range;
      joined = ap (λ (j : ℕ). fold_from (rules_of s) j unknown bytes) (sym z);
      counted = zero-add _ ∙ ap (λ (j : ℕ). count_from (rules_of s) j unknown bytes) (sym z);
    }

pub ended : {s : RuleSet} {bytes₀ bytes : List ℕ} {held : List ConstVal} {count i : ℕ}
    → Done s bytes₀ (length bytes₀ / 16) bytes held count i → length bytes₀ / 16 ≤ i → Folded s bytes₀ bytes count
unfolding fold_code folds_of
ended {s} {bytes₀} {bytes} {held} {count} {i} d h =
    let n = length bytes₀ / 16 in
    let f = rules_of s in
    let z : n - i ≡ 0 = omega arith in
    let upto = d.upto in
    let room = d.room in
    let same = d.same in
    let all : length bytes ≤ 16 * i = omega arith in
    record {
      bytes =
          sym (append-nil bytes)
          ∙ ap (λ (x : List ℕ). x ++ []) (sym (take_all (16 * i) bytes all))
          ∙ ap (λ (j : ℕ). take (16 * i) bytes ++ fold_from f j d.table (drop (16 * i) bytes)) (sym z)
          ∙ d.joined;
      folds = sym (add-zero count) ∙ ap (λ (j : ℕ). count + count_from f j d.table (drop (16 * i) bytes)) (sym z) ∙ d.counted;
    }
