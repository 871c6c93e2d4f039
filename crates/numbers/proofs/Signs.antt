-- A sign put before a size and taken off, at 64 bits.
use mathlib.Core.Path.{◌≡◌, refl, sym, ◌∙◌, ap, subst}
use mathlib.Core.Bool.{true, false}
use mathlib.Core.List.{List, [], ◌∷◌, ◌++◌}
use Prim.Native.Nat.{ℕ, ◌≤◌, ◌<◌}
use native.Mathlib.Omega.{arith}
use borrow.Author.Tests.{ltb-true, lt-ltb}
use Rattle.std.specs.Prelude.{Result, Ok, Err}
use Rattle.std.specs.Result.{OkIff, result_ok}
use Rattle.cells.proofs.Facts.{by_test}
use Rattle.leaves.specs.Signed.{in_i32}
use lib.Dec.{T}
use lib.ListN.{length, take, length-append}
use lib.IntN.{ℤ, pos, negsuc, neg_ℤ, nat_abs, ◌-ℤ◌, +ℤ_idl}
use lib.Signed.{lt_z, mag}
use mir.Syntax.{w32, w64}
use mir.Val.{SFits, of_z, to_z}
use mir.Facts.{to_z-of_z}
use Rattle.leaves.proofs.Integers.{fits64}
use Rattle.leaves.proofs.Ranges.{abs_neg, small, sfits_in}
use Rattle.listing.specs.Decimal.{decimal}
use Rattle.listing.specs.Promises.{TextWritten}
use Rattle.listing.specs.Text.{line_feed}
use Rattle.listing.proofs.Numerals.{length-decimal}
use Rattle.listing.proofs.Pieces.{written_next}
use Rattle.numbers.specs.Numbers.{minus, ranged, signed}
use Rattle.numbers.specs.Sizes.{sign_of}

-- a number that 64 bits hold is what they say
kept : {x z : ℤ} → nat_abs z ≤ 2147483648 → x ≡ z → to_z w64 (of_z w64 x) ≡ z
kept {x} {z} h e = ap (λ (y : ℤ). to_z w64 (of_z w64 y)) e ∙ to_z-of_z (small z (omega arith))

held : {x z : ℤ} → nat_abs z ≤ 2147483648 → x ≡ z → SFits w64 x
held {x} {z} h e = subst (SFits w64) (sym e) (small z (omega arith))

-- ---- a size, with its sign

module _ (n : ℕ) (h : n ≤ 2147483648) where
  pub size_held : SFits w64 (pos n)
  size_held = fits64 n (omega arith)

  pub size-kept : to_z w64 (of_z w64 (pos n)) ≡ pos n
  size-kept = to_z-of_z size_held

  negated : pos 0 -ℤ to_z w64 (of_z w64 (pos n)) ≡ neg_ℤ (pos n)
  negated = ap (λ (z : ℤ). pos 0 -ℤ z) size-kept ∙ +ℤ_idl (neg_ℤ (pos n))

  bound : nat_abs (neg_ℤ (pos n)) ≤ 2147483648
  bound = omega (arith, abs_neg (pos n))

  pub negative_held : SFits w64 (pos 0 -ℤ to_z w64 (of_z w64 (pos n)))
  negative_held = held bound negated

  pub negative-kept : to_z w64 (of_z w64 (pos 0 -ℤ to_z w64 (of_z w64 (pos n)))) ≡ neg_ℤ (pos n)
  negative-kept = kept bound negated

-- what the standard library's conversion to an i32 makes of a number
pub narrowed : {E : Type 0} (r : Result ℤ E) (z : ℤ) → OkIff r (SFits w32 z) z → result_ok r ≡ ranged z
narrowed (Ok x) z h = rw (lt-ltb (mag z) 2147483648 h.0.sfits, h.1)
narrowed (Err e) z h = by_test (in_i32 z) (λ t. absurd (h (sfits_in z t))) (λ t. rw t)

-- ---- its text

sign_negative : (z : ℤ) → lt_z z (pos 0) ≡ true → sign_of z ≡ minus ∷ []
sign_negative (pos n) t = let k : n < 0 = ltb-true n 0 t in absurd (omega arith)
sign_negative (negsuc n) t = refl

sign_none : (z : ℤ) → lt_z z (pos 0) ≡ false → sign_of z ≡ []
sign_none (pos n) t = refl
sign_none (negsuc n) t = absurd (subst T t tt)

-- as a test of an i32 has it
pub sign_by_test : (z : ℤ) → SFits w32 z → lt_z (to_z w32 (of_z w32 z)) (pos 0) ≡ true → sign_of z ≡ minus ∷ []
sign_by_test z h t = sign_negative z (simp (to_z-of_z h) at t)

pub none-by_test : (z : ℤ) → SFits w32 z → lt_z (to_z w32 (of_z w32 z)) (pos 0) ≡ false → sign_of z ≡ []
none-by_test z h t = sign_none z (simp (to_z-of_z h) at t)

pub signed_parts : (z : ℤ) → signed z ≡ sign_of z ++ decimal (nat_abs z)
unfolding signed
signed_parts (pos n) = refl
signed_parts (negsuc n) = refl

length_sign : (z : ℤ) → length (sign_of z) ≤ 1
length_sign (pos n) = omega arith
length_sign (negsuc n) = omega arith

-- 21 bytes at most, and 22 with a line feed
pub length-signed : (z : ℤ) → length (signed z) ≤ 21
length-signed z = rw (signed_parts z, length-append) (omega (arith, length_sign z, length-decimal (nat_abs z)))

pub length-line : (z : ℤ) → length (signed z ++ line_feed ∷ []) ≤ 22
length-line z = simp length-append (omega (arith, length-signed z))

-- a sign, and a size behind it, as an i32 has them
module _ (z : ℤ) {a : ℕ} {before one : List ℕ} (p : TextWritten (sign_of (to_z w32 (of_z w32 z))) before one a) where
  pub sign_room : a ≤ 1
  sign_room = omega (arith, p.end, length_sign (to_z w32 (of_z w32 z)))

  pub signed-written : {n b : ℕ} {two : List ℕ} → SFits w32 z → n ≡ nat_abs (to_z w32 (of_z w32 z)) → TextWritten (take a one ++ decimal n) one two b
      → TextWritten (signed z) before two b
  signed-written {n} h e q =
      let f : n ≡ nat_abs z = e ∙ ap nat_abs (to_z-of_z h) in
      rw (signed_parts z) (rw (to_z-of_z h, f) at (written_next p (decimal n) q))
