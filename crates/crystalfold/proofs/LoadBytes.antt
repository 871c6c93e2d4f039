-- The bytes of a number as std writes them are those of the cell that loads it.
use Rattle.std.proofs.Common.{◌≡◌, ℕ, ◌/◌, ◌%◌, ◌<◌, ◌^◌, Bool, true, false, refl, arith, w16, w64}
use Rattle.std.specs.Int.{to_le_bytes, from_bool}
use Rattle.cells.specs.Bytes.{bytes}
use Rattle.cells.specs.View.{load_bytes, bool_number}
use Rattle.leaves.specs.declared.quad.Quad.{Quad}
use Rattle.leaves.specs.declared.quad.Quad.TheVariants.{N, F, T, S}
use Rattle.leaves.specs.Quads.{number_of}

pub to_le_bytes_2 : (n : ℕ) → n < 65536 → to_le_bytes w16 n ≡ bytes 2 n
to_le_bytes_2 n h = let e : n / 256 % 256 ≡ n / 256 = omega arith in rw e

pub to_le_bytes_8 : (n : ℕ) → n < 2 ^ 64 → to_le_bytes w64 n ≡ bytes 8 n
to_le_bytes_8 n h =
    let e₂ : n / 65536 ≡ n / 256 / 256 = omega arith in
    let e₃ : n / 16777216 ≡ n / 256 / 256 / 256 = omega arith in
    let e₄ : n / 4294967296 ≡ n / 256 / 256 / 256 / 256 = omega arith in
    let e₅ : n / 1099511627776 ≡ n / 256 / 256 / 256 / 256 / 256 = omega arith in
    let e₆ : n / 281474976710656 ≡ n / 256 / 256 / 256 / 256 / 256 / 256 = omega arith in
    let e₇ : n / 72057594037927936 % 256 ≡ n / 256 / 256 / 256 / 256 / 256 / 256 / 256 = omega arith in
    rw (e₇, e₆, e₅, e₄, e₃, e₂)

-- a number of few bytes, at 8
pub load_bytes-1 : (c d n : ℕ) → n < 256 → load_bytes c d 8 n ≡ load_bytes c d 1 n
load_bytes-1 c d n h =
    let e₀ : n % 256 ≡ n = omega arith in
    let e₁ : n / 256 ≡ 0 = omega arith in
    rw (e₁, e₀)

pub load_bytes-4 : (c d n : ℕ) → n < 4294967296 → load_bytes c d 8 n ≡ load_bytes c d 4 n
load_bytes-4 c d n h =
    let e₃ : n / 256 / 256 / 256 % 256 ≡ n / 256 / 256 / 256 = omega arith in
    let e₄ : n / 256 / 256 / 256 / 256 ≡ 0 = omega arith in
    rw (e₄, e₃)

pub number_below : (q : Quad) → number_of q < 256
number_below N = omega arith
number_below F = omega arith
number_below T = omega arith
number_below S = omega arith

-- a bool as std makes it a number
pub bool_is : (b : Bool) → (from_bool b ≡ bool_number b) × (bool_number b < 256)
bool_is false = (refl, omega arith)
bool_is true = (refl, omega arith)
