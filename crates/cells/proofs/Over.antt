-- A list written over the start of another, or over a part of it.
use mathlib.Core.Path.{◌≡◌, refl, sym, ◌∙◌, ap, ap₂}
use mathlib.Core.List.{List, [], ◌∷◌, ◌++◌, append_assoc, append-nil}
use Prim.Native.Nat.{ℕ, suc, ◌+◌, ◌-◌, ◌≤◌, ◌<◌}
use native.Mathlib.Omega.{arith}
use lib.ListN.{length, get_or, set, take, drop, length-append, length-drop, drop_of_length-le}
use lib.Seq.{take-length, take_all, take-append_seam, drop-append-add, drop-drop, drop-cons, set-append_seam, get_or-append-add, get_or-drop}
use Rattle.cells.specs.Cells.{over}

module _ {A : Type 0} where
  pub over_nil : (ys : List A) → over [] ys ≡ ys
  unfolding over
  over_nil ys = refl

  pub length_over : (xs ys : List A) → length xs ≤ length ys → length (over xs ys) ≡ length ys
  unfolding over
  length_over xs ys h = simp (length-append, length-drop) (omega arith)

  pub over-take : (xs ys : List A) → take (length xs) (over xs ys) ≡ xs
  unfolding over
  over-take xs ys = take-append_seam xs (drop (length xs) ys)

  -- what stands behind is as it was
  pub over-drop : (xs ys : List A) (k : ℕ) → length xs ≤ k → drop k (over xs ys) ≡ drop k ys
  unfolding over
  over-drop xs ys k h =
      let e : length xs + (k - length xs) ≡ k = omega arith in
      ap (λ (j : ℕ). drop j (over xs ys)) (sym e) ∙ drop-append-add xs (drop (length xs) ys) (k - length xs)
      ∙ drop-drop (k - length xs) (length xs) ys ∙ ap (λ (j : ℕ). drop j ys) e

  pub over_read : (xs ys : List A) (k : ℕ) (d : A) → length xs ≤ k → get_or (over xs ys) k d ≡ get_or ys k d
  unfolding over
  over_read xs ys k d h =
      let e : length xs + (k - length xs) ≡ k = omega arith in
      ap (λ (j : ℕ). get_or (over xs ys) j d) (sym e) ∙ get_or-append-add xs (drop (length xs) ys) (k - length xs) d
      ∙ get_or-drop (length xs) ys (k - length xs) d ∙ ap (λ (j : ℕ). get_or ys j d) e

  -- more written right behind
  pub over-over : (xs zs ys : List A) → xs ++ over zs (drop (length xs) ys) ≡ over (xs ++ zs) ys
  unfolding over
  over-over xs zs ys = rw (drop-drop, length-append, append_assoc)

  -- the same in the part `&mut out[a..]`
  pub over-part : (xs zs ys out part : List A) (a : ℕ) → length xs ≡ a → a ≤ length out → out ≡ over xs ys → part ≡ over zs (take (length out - a) (drop a out))
      → take a out ++ (part ++ drop (length out - a) (drop a out)) ≡ over (xs ++ zs) ys
  over-part xs zs ys out part a e h x y =
      let l : length (drop a out) ≤ length out - a = omega (arith, length-drop a out) in
      let n : length xs ≤ a = omega arith in
      let d : drop a out ≡ drop a ys = rw x (over-drop xs ys a n) in
      let t : take a out ≡ xs = rw (x, ← e) (over-take xs ys) in
      let p : part ≡ over zs (drop (length xs) ys) = y ∙ ap (over zs) (take_all (length out - a) (drop a out) l ∙ d ∙ ap (λ (j : ℕ). drop j ys) (sym e)) in
      let z : drop (length out - a) (drop a out) ≡ [] = drop_of_length-le (drop a out) l in
      ap₂ (λ (u v : List A). u ++ v) t (ap₂ (λ (u v : List A). u ++ v) p z ∙ append-nil (over zs (drop (length xs) ys))) ∙ over-over xs zs ys

  -- a copy is written over the start
  pub copied : (xs ys : List A) → take (length xs) xs ++ drop (length xs) ys ≡ over xs ys
  unfolding over
  copied xs ys = ap (λ (u : List A). u ++ drop (length xs) ys) (take-length xs)

  behind : (xs zs ys : List A) (at : ℕ) → length xs ≡ at → xs ++ (zs ++ drop (at + length zs) ys) ≡ over (xs ++ zs) ys
  unfolding over
  behind xs zs ys at e = rw (← e, length-append, append_assoc)

  pub over_add : (xs zs ys : List A) (at : ℕ) → length xs ≡ at → take at (over xs ys) ++ (zs ++ drop (at + length zs) (over xs ys)) ≡ over (xs ++ zs) ys
  over_add xs zs ys at e =
      let h : length xs ≤ at + length zs = omega arith in
      let t : take at (over xs ys) ≡ xs = rw (← e) (over-take xs ys) in
      ap₂ (λ (p q : List A). p ++ (zs ++ q)) t (over-drop xs ys (at + length zs) h) ∙ behind xs zs ys at e

  pub over-set : (xs ys : List A) (x : A) (k : ℕ) → length xs ≡ k → k < length ys → set (over xs ys) k x ≡ over (xs ++ x ∷ []) ys
  unfolding over
  over-set xs ys x k e h =
      let d : drop (length xs) ys ≡ get_or ys k x ∷ drop (suc k) ys = ap (λ (j : ℕ). drop j ys) e ∙ drop-cons ys k x h in
      let l : length (xs ++ x ∷ []) ≡ suc k = simp length-append (omega arith) in
      rw (d, l, append_assoc, ← e) (set-append_seam xs (get_or ys (length xs) x) (drop (suc (length xs)) ys) x)

  -- a part from at on, k long, over which a copy of `source` was written
  pub put_at : (s xs source last part : List A) (at k n : ℕ) → source ≡ xs → length part ≡ length xs → k ≡ n
      → last ≡ take (length source) source ++ drop (length source) part
      → take at s ++ (last ++ drop k (drop at s)) ≡ take at s ++ (xs ++ drop (at + n) s)
  put_at s xs source last part at k n es lp ek e =
      let l : length part ≤ length source = omega (arith, ap length es) in
      let r : last ≡ xs = e ∙ ap₂ (λ (x y : List A). x ++ y) (take-length source) (drop_of_length-le part l) ∙ append-nil source ∙ es in
      let d : drop k (drop at s) ≡ drop (at + n) s = ap (λ (j : ℕ). drop j (drop at s)) ek ∙ drop-drop n at s in
      ap₂ (λ (x y : List A). take at s ++ (x ++ y)) r d
