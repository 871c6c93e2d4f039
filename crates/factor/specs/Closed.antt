-- Inner: the same answers without a search, which is what the functions compute. That they are the search's is proved (factor/proofs/Thousandths.antt
-- and Halvings.antt).
use Rattle.std.specs.Prelude.{ℕ, zero, suc, ◌+◌, ◌-◌, ◌*◌, ◌/◌, ◌%◌, ◌^◌, cond, ◌&&◌, eqb, leb, ltb, ℤ, pos, negsuc, neg_ℤ, nat_abs, Option, Some, None}
use Rattle.std.specs.Int.{w32}
use Rattle.std.proofs.Common.{of_z}
use Rattle.leaves.specs.Signed.{in_i32, is_zero}

-- z, where it is an i32
abbrev pub found_if : ℤ → Option ℤ
found_if z = cond (in_i32 z) (Some z) None

-- ---- MulFx

-- the least size whose product with a reaches w thousands: their quotient rounded up
abbrev pub least_size : ℕ → ℕ → ℕ
least_size w a = (w * 1000 + a - 1) / a

-- the number of the size y with the sign that makes a product with a have w's
abbrev pub along : ℤ → ℤ → ℕ → ℤ
along (pos w) (pos a) y = pos y
along (pos w) (negsuc a) y = neg_ℤ (pos y)
along (negsuc w) (pos a) y = neg_ℤ (pos y)
along (negsuc w) (negsuc a) y = pos y

-- of the size y: none where its product is past w already
abbrev pub of_size : ℤ → ℤ → ℕ → Option ℤ
of_size w a y = cond (ltb (nat_abs w) (y * nat_abs a / 1000)) None (found_if (along w a y))

unfoldable pub closed_fx : ℤ → ℤ → Option ℤ
closed_fx w a = cond (is_zero w) (Some (pos 0)) (cond (is_zero a) None (of_size w a (least_size (nat_abs w) (nat_abs a))))

-- ---- MulI32, on bits

-- y * (2 - a * y) modulo 2^32
abbrev pub newton_step : ℕ → ℕ → ℕ
newton_step a y = y * ((4294967298 - a * y % 4294967296) % 4294967296) % 4294967296

-- five steps from 1: of an odd a, its inverse modulo 2^32
unfoldable pub inverse_of : ℕ → ℕ
inverse_of a = newton_step a (newton_step a (newton_step a (newton_step a (newton_step a 1))))

-- the i32 nearest zero that is x modulo m
abbrev pub nearest_to : ℕ → ℕ → Option ℤ
nearest_to m x = cond (leb (x * 2) m && ltb x 2147483648) (found_if (pos x)) (found_if (neg_ℤ (pos (m - x))))

-- the x nearest zero with a * x = w modulo 2^k: of an odd a by its inverse; of an even a and w with both halved, modulo half as much
unfoldable pub factor_modulo : ℕ → ℕ → ℕ → Option ℤ
factor_modulo zero w a = Some (pos 0)
factor_modulo (suc k) w a =
    cond (eqb (a % 2) 1) (nearest_to (2 ^ suc k) (inverse_of a * (w % 2 ^ suc k) % 2 ^ suc k))
    (cond (eqb (w % 2) 1) None (factor_modulo k (w / 2) (a / 2)))

unfoldable pub closed_i32 : ℤ → ℤ → Option ℤ
closed_i32 w a = factor_modulo 32 (of_z w32 w) (of_z w32 a)
