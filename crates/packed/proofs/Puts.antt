-- What the copies write: the start of a cell over an output, and a cell over one.
use mathlib.Core.Path.{◌≡◌, refl, ap, ap₂, sym, ◌∙◌}
use mathlib.Core.List.{List, ◌++◌, append_assoc, append-nil}
use Prim.Native.Nat.{ℕ, zero, suc, ◌+◌, ◌-◌, ◌≤◌, ◌<◌}
use native.Mathlib.Nat.{le_of_suc-le-suc, not-suc-le-zero}
use native.Mathlib.Omega.{arith}
use borrow.Author.Tests.{lt-ltb, le-ltb, ltb-true, ltb-false}
use lib.Dec.{ltb}
use lib.ListN.{length, take, drop, replicate, length-append, length-drop, length-replicate, drop_of_length-le, take-append-drop, replicate-append-replicate}
use lib.Seq.{take_all, take-append-le, take-append_seam, drop-append-le, length-take-le, take-take, take-add}
use Rattle.cells.specs.Cells.{Cell, over}
use Rattle.cells.proofs.Over.{over-take, over-drop, over-part, length_over, copied}
use Rattle.cells.proofs.Facts.{by_test}
use Rattle.packed.specs.Reading.{padded}
use Rattle.packed.specs.Steps.{put_kept, put_restored}

-- over something just as long it is all
pub over-all : (b out : List ℕ) → length b ≡ length out → over b out ≡ b
unfolding over
over-all b out e = ap (λ (t : List ℕ). b ++ t) (drop_of_length-le out {i = length b} (omega arith)) ∙ append-nil b

-- the rest of a slice
pub rest_is : (s : List ℕ) (at : ℕ) → take (length s - at) (drop at s) ≡ drop at s
rest_is s at = take_all (length s - at) (drop at s) (omega (arith, length-drop at s))

-- copied to an array of its length
pub own_copy : (b own t : List ℕ) → length b ≡ length own → t ≡ take (length b) b ++ drop (length b) own → t ≡ b
own_copy b own t n e = e ∙ copied b own ∙ over-all b own n

-- written again, as far or farther
over_again : (xs w out : List ℕ) → length w ≤ length xs → over xs (over w out) ≡ over xs out
unfolding over
over_again xs w out h = ap (λ (t : List ℕ). xs ++ t) (over-drop w out (length xs) h)

over_start : (k : ℕ) (w out : List ℕ) → k ≤ length w → over w out ≡ over (take k w) (over w out)
unfolding over
over_start k w out h =
    let n : length (take k w) ≡ k = length-take-le k w h in
    ap (λ (t : List ℕ). t ++ drop (length w) out) (sym (take-append-drop k w)) ∙ append_assoc (take k w) (drop k w) (drop (length w) out)
    ∙ ap (λ (t : List ℕ). take k w ++ t) (sym (drop-append-le k w (drop (length w) out) h))
    ∙ ap (λ (j : ℕ). take k w ++ drop j (over w out)) (sym n)

-- bytes w, then others behind the first k of them, as far or farther, in the part `&mut out[k..]`
pub put-behind : (w z out mid part : List ℕ) (k : ℕ) → k ≤ length w → length w ≤ k + length z → k ≤ length mid → mid ≡ over w out
    → part ≡ over z (take (length mid - k) (drop k mid)) → take k mid ++ (part ++ drop (length mid - k) (drop k mid)) ≡ over (take k w ++ z) out
put-behind w z out mid part k few far room e f =
    let n : length (take k w) ≡ k = length-take-le k w few in
    let m : mid ≡ over (take k w) mid = rw e (over_start k w out few) in
    let l : length w ≤ length (take k w ++ z) = omega (arith, length-append (take k w) z) in
    over-part (take k w) z mid mid part k n room m f ∙ rw e (over_again (take k w ++ z) w out l)

-- ---- the first k bytes: their first w and their last w

module _ (s out : List ℕ) (w k : ℕ) (few : w ≤ k) (most : k ≤ w + w) (there : k ≤ length s) (room : k ≤ length out) where
  ends_are : take (k - w) (take w s) ++ take (k - (k - w)) (drop (k - w) s) ≡ take k s
  ends_are =
      let e : k - w + (k - (k - w)) ≡ k = omega arith in
      ap (λ (t : List ℕ). t ++ take (k - (k - w)) (drop (k - w) s)) (take-take (k - w) w s (omega arith))
      ∙ sym (take-add (k - w) (k - (k - w)) s) ∙ ap (λ (j : ℕ). take j s) e

  -- each by way of an array
  pub two_ends : (own₁ own₂ first last mid part : List ℕ) → length own₁ ≡ w → length own₂ ≡ w
      → first ≡ take (length (take w s)) (take w s) ++ drop (length (take w s)) own₁
      → last ≡ take (length (take (k - (k - w)) (drop (k - w) s))) (take (k - (k - w)) (drop (k - w) s)) ++ drop (length (take (k - (k - w)) (drop (k - w) s))) own₂
      → mid ≡ take (length first) first ++ drop (length first) out
      → part ≡ take (length last) last ++ drop (length last) (take (length mid - (k - w)) (drop (k - w) mid))
      → take (k - w) mid ++ (part ++ drop (length mid - (k - w)) (drop (k - w) mid)) ≡ over (take k s) out
  two_ends own₁ own₂ first last mid part n₁ n₂ e f g h =
      let at : ℕ = k - w in
      let z = take (k - at) (drop at s) in
      let lw : length (take w s) ≡ w = length-take-le w s (omega arith) in
      let lz : length z ≡ w = length-take-le (k - at) (drop at s) (omega (arith, length-drop at s)) ∙ omega arith in
      let i : first ≡ take w s = own_copy (take w s) own₁ first (lw ∙ sym n₁) e in
      let j : last ≡ z = own_copy z own₂ last (lz ∙ sym n₂) f in
      let m : mid ≡ over (take w s) out = g ∙ copied first out ∙ ap (λ (t : List ℕ). over t out) i in
      put-behind (take w s) z out mid part at (omega arith) (omega arith) (omega (arith, ap length m, length_over (take w s) out (omega arith))) m
      (h ∙ copied last (take (length mid - at) (drop at mid)) ∙ ap (λ (t : List ℕ). over t (take (length mid - at) (drop at mid))) j)
      ∙ ap (λ (t : List ℕ). over t out) ends_are

-- ---- the start of a cell

module _ (c : Cell) (k left : ℕ) (out : List ℕ) where
  pub put_short : left < 16 → put_kept c k left out ≡ over (take k c) out
  put_short h = rw (lt-ltb _ _ h)

  pub put_whole : length c ≡ 16 → 16 ≤ left → put_kept c k left out ≡ over (take 16 c) out
  put_whole full h = rw (le-ltb _ _ h) (ap (λ (t : List ℕ). over t out) (sym (take_all 16 c (omega arith))))

  module _ (full : length c ≡ 16) (few : k ≤ 16) (room : k ≤ length out) (whole : 16 ≤ left → 16 ≤ length out) where
    -- it is written over the start: these bytes, k or 16
    pub record Written (b : List ℕ) : Type 0 where
      pub is : put_kept c k left out ≡ over b out
      pub starts : take k b ≡ take k c
      pub some : k ≤ length b
      pub fits : length b ≤ length out
      pub most : (n : ℕ) → k ≤ n → (16 ≤ left → 16 ≤ n) → length b ≤ n

    written_short : left < 16 → Written (take k c)
    written_short h =
        let n : length (take k c) ≡ k = length-take-le k c (omega arith) in
        record { is = put_short h; starts = take_all k (take k c) (omega arith); some = omega arith; fits = omega arith; most = λ m l f. omega arith }

    written-whole : 16 ≤ left → Written c
    written-whole h =
        record { is = rw (le-ltb _ _ h); starts = refl; some = omega arith; fits = omega (arith, whole h); most = λ m l f. omega (arith, f h) }

    module _ {b : List ℕ} (w : Written b) where
      start_by : take k (put_kept c k left out) ≡ take k c
      unfolding over
      start_by = ap (take k) w.is ∙ take-append-le k b (drop (length b) out) w.some ∙ w.starts

      long_by : length (put_kept c k left out) ≡ length out
      long_by = ap length w.is ∙ length_over b out w.fits

      rest_by : (n : ℕ) → k ≤ n → (16 ≤ left → 16 ≤ n) → drop n (put_kept c k left out) ≡ drop n out
      rest_by n l f = ap (drop n) w.is ∙ over-drop b out n (w.most n l f)

    -- its first k bytes are there, the output is as long as before, and what stands behind is as it was
    pub put_start : take k (put_kept c k left out) ≡ take k c
    put_start = by_test (ltb left 16) (λ y. start_by (written_short (ltb-true _ _ y))) (λ n. start_by (written-whole (ltb-false _ _ n)))

    pub put_length : length (put_kept c k left out) ≡ length out
    put_length = by_test (ltb left 16) (λ y. long_by (written_short (ltb-true _ _ y))) (λ n. long_by (written-whole (ltb-false _ _ n)))

    pub put_rest : (n : ℕ) → k ≤ n → (16 ≤ left → 16 ≤ n) → drop n (put_kept c k left out) ≡ drop n out
    put_rest n l f = by_test (ltb left 16) (λ y. rest_by (written_short (ltb-true _ _ y)) n l f) (λ m. rest_by (written-whole (ltb-false _ _ m)) n l f)

-- ---- a cell

drop-replicate : (k n : ℕ) → k ≤ n → drop {A = ℕ} k (replicate n 0) ≡ replicate (n - k) 0
drop-replicate zero n l = let e : n ≡ n - 0 = omega arith in ap (λ (m : ℕ). replicate m 0) e
drop-replicate (suc k) zero l = absurd (not-suc-le-zero l)
drop-replicate (suc k) (suc n) l =
    let e : n - k ≡ suc n - suc k = omega arith in
    drop-replicate k n (le_of_suc-le-suc l) ∙ ap (λ (m : ℕ). replicate m 0) e

pub padded-length : (b : List ℕ) → length b ≤ 16 → length (padded b) ≡ 16
padded-length b l = omega (arith, length-append b (replicate (16 - length b) 0), length-replicate {A = ℕ} (16 - length b) 0)

-- bytes over zeros, which are over an output
pub put-padded : (b out : List ℕ) → length b ≤ 16 → over b (over (replicate 16 0) out) ≡ over (padded b) out
unfolding over
put-padded b out l =
    let n : length (padded b) ≡ length {A = ℕ} (replicate 16 0) = padded-length b l ∙ sym (length-replicate {A = ℕ} 16 0) in
    ap (λ (t : List ℕ). b ++ t) (drop-append-le (length b) (replicate 16 0) (drop (length {A = ℕ} (replicate 16 0)) out) (omega (arith, length-replicate {A = ℕ} 16 0))
    ∙ ap₂ (λ (x : List ℕ) (j : ℕ). x ++ drop j out) (drop-replicate (length b) 16 l) (sym n))
    ∙ sym (append_assoc b (replicate (16 - length b) 0) (drop (length (padded b)) out))

module _ (s : List ℕ) (k : ℕ) (out : List ℕ) where
  pub restored_more : 16 ≤ length s → 32 ≤ length out → put_restored s k out ≡ over (take k s ++ replicate 16 0) out
  restored_more h l = rw (le-ltb _ _ h, le-ltb _ _ l)

  -- in two copies, the last one in the part `&mut out[k..]`
  pub restored_put : (mid part : List ℕ) → 16 ≤ length s → 32 ≤ length out → k ≤ 16 → mid ≡ over (take 16 s) out
      → part ≡ take (length {A = ℕ} (replicate 16 0)) (replicate 16 0) ++ drop (length {A = ℕ} (replicate 16 0)) (take (length mid - k) (drop k mid))
      → take k mid ++ (part ++ drop (length mid - k) (drop k mid)) ≡ put_restored s k out
  restored_put mid part h l few e f =
      let m : length (take 16 s) ≡ 16 = length-take-le 16 s h in
      let z : length mid ≡ length out = ap length e ∙ length_over (take 16 s) out (omega arith) in
      put-behind (take 16 s) (replicate 16 0) out mid part k (omega arith) (omega (arith, length-replicate {A = ℕ} 16 0)) (omega arith) e
      (f ∙ copied (replicate 16 0) (take (length mid - k) (drop k mid)))
      ∙ ap (λ (t : List ℕ). over (t ++ replicate 16 0) out) (take-take k 16 s few) ∙ sym (restored_more h l)

  module _ (there : k ≤ length s) (few : k ≤ 16) (room : 16 ≤ length out) where
    kept : length (take k s) ≡ k
    kept = length-take-le k s there

    cell-by : (t : List ℕ) → t ≡ over (padded (take k s)) out → take 16 t ≡ padded (take k s)
    cell-by t e =
        let n : length (padded (take k s)) ≡ 16 = padded-length (take k s) (omega (arith, kept)) in
        ap₂ take (sym n) e ∙ over-take (padded (take k s)) out

    length-by : (t : List ℕ) → t ≡ over (padded (take k s)) out → length t ≡ length out
    length-by t e = ap length e ∙ length_over (padded (take k s)) out (omega (arith, padded-length (take k s) (omega (arith, kept))))

    zeros-more : replicate {A = ℕ} 16 0 ≡ replicate (16 - k) 0 ++ replicate k 0
    zeros-more =
        let e : (16 - k) + k ≡ 16 = omega arith in
        ap (λ (n : ℕ). replicate n 0) (sym e) ∙ sym (replicate-append-replicate (16 - k) k 0)

    cell-more : (t : List ℕ) → t ≡ over (take k s ++ replicate 16 0) out → take 16 t ≡ padded (take k s)
    unfolding over
    cell-more t e =
        let rest : List ℕ = drop (length (take k s ++ replicate 16 0)) out in
        let n : length (padded (take k s)) ≡ 16 = padded-length (take k s) (omega (arith, kept)) in
        let z : replicate {A = ℕ} 16 0 ≡ replicate (16 - length (take k s)) 0 ++ replicate k 0 = zeros-more ∙ ap (λ (j : ℕ). replicate (16 - j) 0 ++ replicate k 0) (sym kept) in
        let f : t ≡ padded (take k s) ++ (replicate k 0 ++ rest) =
        e ∙ ap (λ (u : List ℕ). (take k s ++ u) ++ rest) z ∙ ap (λ (u : List ℕ). u ++ rest) (sym (append_assoc (take k s) (replicate (16 - length (take k s)) 0) (replicate k 0)))
        ∙ append_assoc (padded (take k s)) (replicate k 0) rest in
        ap₂ take (sym n) f ∙ take-append_seam (padded (take k s)) (replicate k 0 ++ rest)

    length_more : (t : List ℕ) → 32 ≤ length out → t ≡ over (take k s ++ replicate 16 0) out → length t ≡ length out
    length_more t l e =
        ap length e ∙ length_over (take k s ++ replicate 16 0) out (omega (arith, length-append (take k s) (replicate 16 0), length-replicate {A = ℕ} 16 0, kept))

    -- the cell is there, and the output is as long as before
    pub restored_cell : take 16 (put_restored s k out) ≡ padded (take k s)
    restored_cell =
        by_test (ltb (length s) 16) (λ y. cell-by (put_restored s k out) (rw y))
        (λ n. by_test (ltb (length out) 32) (λ y. cell-by (put_restored s k out) (rw (n, y))) (λ m. cell-more (put_restored s k out) (rw (n, m))))

    pub restored_length : length (put_restored s k out) ≡ length out
    restored_length =
        by_test (ltb (length s) 16) (λ y. length-by (put_restored s k out) (rw y))
        (λ n. by_test (ltb (length out) 32) (λ y. length-by (put_restored s k out) (rw (n, y))) (λ m. length_more (put_restored s k out) (ltb-false (length out) 32 m) (rw (n, m))))
