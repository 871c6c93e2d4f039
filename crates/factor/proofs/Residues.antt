-- Products modulo a power of two, and the inverse of an odd number.
use mathlib.Core.Path.{◌≡◌, refl, sym, ◌∙◌, ap, subst}
use Prim.Native.Nat.{ℕ, zero, suc, ◌+◌, ◌-◌, ◌*◌, ◌/◌, ◌%◌, ◌^◌, ◌≤◌, ◌<◌}
use native.Mathlib.Nat.{mod-add-div, mod-lt, mod-mod, mod-eq_of_lt, add-mul-mod_self_left, mul-le-mul_left, mod-mod_of_dvd, dvd-mul_left, dvd-mul_right}
use native.Mathlib.Decide.{dec_le}
use native.Mathlib.Omega.{arith}
use lib.Pow.{pow-add}
use Rattle.factor.specs.Closed.{newton_step, inverse_of}

pub product_mod : (a z m : ℕ) → a * z % m ≡ a * (z % m) % m
product_mod a z m =
    let e : a * z ≡ a * (z % m) + m * (a * (z / m)) = omega (arith, ap (λ (n : ℕ). a * n) (sym (mod-add-div z m))) in
    ap (λ (n : ℕ). n % m) e ∙ add-mul-mod_self_left (a * (z % m)) m (a * (z / m))

-- ---- halves: both sides and the modulus h * 2

twice_mod : (n h : ℕ) → 0 < h → (2 * n) % (h * 2) ≡ 2 * (n % h)
twice_mod n h l =
    let e : 2 * n ≡ 2 * (n % h) + h * 2 * (n / h) = omega (arith, mod-add-div n h) in
    ap (λ (k : ℕ). k % (h * 2)) e ∙ add-mul-mod_self_left (2 * (n % h)) (h * 2) (n / h) ∙ mod-eq_of_lt (omega (arith, mod-lt n l))

-- an even number times z is twice its half times z
even_product : (a z : ℕ) → a % 2 ≡ 0 → a * z ≡ 2 * (a / 2 * z)
even_product a z p = let d : a ≡ 2 * (a / 2) = omega arith in omega (arith, ap (λ (n : ℕ). n * z) d)

module _ (a w h z : ℕ) (l : 0 < h) (p : a % 2 ≡ 0) (q : w % 2 ≡ 0) where
  left-half : a * z % (h * 2) ≡ 2 * (a / 2 * z % h)
  left-half = ap (λ (n : ℕ). n % (h * 2)) (even_product a z p) ∙ twice_mod (a / 2 * z) h l

  right-half : w % (h * 2) ≡ 2 * (w / 2 % h)
  right-half = let v : w ≡ 2 * (w / 2) = omega arith in ap (λ (n : ℕ). n % (h * 2)) v ∙ twice_mod (w / 2) h l

  pub halve_forth : a * z % (h * 2) ≡ w % (h * 2) → a / 2 * z % h ≡ w / 2 % h
  halve_forth e = let f : 2 * (a / 2 * z % h) ≡ 2 * (w / 2 % h) = sym left-half ∙ e ∙ right-half in omega (arith, f)

  pub halve_back : a / 2 * z % h ≡ w / 2 % h → a * z % (h * 2) ≡ w % (h * 2)
  halve_back e = left-half ∙ ap (λ (n : ℕ). 2 * n) e ∙ sym right-half

-- an even number times anything is never odd
pub odd_never : (a w h z : ℕ) → a % 2 ≡ 0 → w % 2 ≡ 1 → a * z % (h * 2) ≡ w % (h * 2) → ⊥
odd_never a w h z p q e =
    let f : a * z % 2 ≡ w % 2 = sym (mod-mod_of_dvd 2 (a * z) (dvd-mul_left 2 h)) ∙ ap (λ (n : ℕ). n % 2) e ∙ mod-mod_of_dvd 2 w (dvd-mul_left 2 h) in
    omega (arith, even_product a z p, f)

-- ---- the inverse modulo 2^32, by Newton's steps

-- (1 + hs) u and 1 differ by a multiple of h * h, where 1 + hs and u add up to 2 and a multiple of h * h * k
expand : (h s u q d k : ℕ) → 1 + h * s + u + h * h * k * q ≡ 2 + h * h * k * d → (1 + h * s) * u + h * h * (s * s + k * q * (1 + h * s)) ≡ 1 + h * h * (k * d * (1 + h * s))
expand h s u q d k e = omega (arith, ap (λ (n : ℕ). (1 + h * s) * n) e)

newton_one : (h p u q d k : ℕ) → 1 < h * h → p % h ≡ 1 → p + u + h * h * k * q ≡ 2 + h * h * k * d → p * u % (h * h) ≡ 1
newton_one h p u q d k l o e =
    let s : ℕ = p / h in
    let f : p ≡ 1 + h * s = sym (mod-add-div p h) ∙ ap (λ (n : ℕ). n + h * s) o in
    let g : 1 + h * s + u + h * h * k * q ≡ 2 + h * h * k * d = ap (λ (n : ℕ). n + u + h * h * k * q) (sym f) ∙ e in
    let x : ℕ = s * s + k * q * (1 + h * s) in
    let y : ℕ = k * d * (1 + h * s) in
    ap (λ (n : ℕ). n * u % (h * h)) f
    ∙ sym (add-mul-mod_self_left ((1 + h * s) * u) (h * h) x)
    ∙ ap (λ (n : ℕ). n % (h * h)) (expand h s u q d k g)
    ∙ add-mul-mod_self_left 1 (h * h) y
    ∙ mod-eq_of_lt l

-- a step squares the modulus
newton_step_lem : (h k a y : ℕ) → h * h * k ≡ 4294967296 → 1 < h * h → a * y % h ≡ 1 → a * newton_step a y % (h * h) ≡ 1
newton_step_lem h k a y n l o =
    let p : ℕ = a * y in
    let v : ℕ = 4294967298 - p % 4294967296 in
    let u : ℕ = v % 4294967296 in
    let b : p % 4294967296 < 4294967296 = mod-lt p (omega arith) in
    let e : p + u + 4294967296 * (v / 4294967296) ≡ 2 + 4294967296 * (1 + p / 4294967296) = omega arith in
    let f : p + u + h * h * k * (v / 4294967296) ≡ 2 + h * h * k * (1 + p / 4294967296) = ap (λ (m : ℕ). p + u + m * (v / 4294967296)) n ∙ e ∙ ap (λ (m : ℕ). 2 + m * (1 + p / 4294967296)) (sym n) in
    let g : a * (y * u) ≡ p * u = omega arith in
    sym (down (a * newton_step a y))
    ∙ ap (λ (m : ℕ). m % (h * h)) (sym (product_mod a (y * u) 4294967296))
    ∙ down (a * (y * u))
    ∙ ap (λ (m : ℕ). m % (h * h)) g
    ∙ newton_one h p u (v / 4294967296) (1 + p / 4294967296) k l o f
  where
    down : (m : ℕ) → m % 4294967296 % (h * h) ≡ m % (h * h)
    down m = subst (λ (b : ℕ). m % b % (h * h) ≡ m % (h * h)) n (mod-mod_of_dvd (h * h) m (dvd-mul_right (h * h) k))

-- five of them, from 1
pub inverse_is : (a : ℕ) → a % 2 ≡ 1 → a * inverse_of a % 4294967296 ≡ 1
unfolding inverse_of
inverse_is a o =
    let y₁ : ℕ = newton_step a 1 in
    let y₂ : ℕ = newton_step a y₁ in
    let y₃ : ℕ = newton_step a y₂ in
    let y₄ : ℕ = newton_step a y₃ in
    let e₁ : a * y₁ % 4 ≡ 1 = newton_step_lem 2 1073741824 a 1 refl (omega arith) (omega arith) in
    let e₂ : a * y₂ % 16 ≡ 1 = newton_step_lem 4 268435456 a y₁ refl (omega arith) e₁ in
    let e₃ : a * y₃ % 256 ≡ 1 = newton_step_lem 16 16777216 a y₂ refl (omega arith) e₂ in
    let e₄ : a * y₄ % 65536 ≡ 1 = newton_step_lem 256 65536 a y₃ refl (omega arith) e₃ in
    newton_step_lem 65536 1 a y₄ refl (omega arith) e₄

-- ---- powers of two that divide 2^32

pub whole : (k : ℕ) → k ≤ 32 → 2 ^ k * 2 ^ (32 - k) ≡ 4294967296
whole k l = let e : k + (32 - k) ≡ 32 = omega arith in sym (pow-add 2 k (32 - k)) ∙ ap (λ (n : ℕ). 2 ^ n) e

module _ (m n : ℕ) (e : m * n ≡ 4294967296) where
  down : (b : ℕ) → b % 4294967296 % m ≡ b % m
  down b = subst (λ (c : ℕ). b % c % m ≡ b % m) e (mod-mod_of_dvd m b (dvd-mul_right m n))

  -- where a and v are inverse, z is v times its product with a
  module _ (a v : ℕ) (f : a * v % 4294967296 ≡ 1) where
    one : a * v % m ≡ 1 % m
    one = sym (down (a * v)) ∙ ap (λ (b : ℕ). b % m) f

    times-one : (z : ℕ) → z * (a * v) % m ≡ z % m
    times-one z = let g : z * 1 ≡ z = omega arith in product_mod z (a * v) m ∙ ap (λ (b : ℕ). z * b % m) one ∙ sym (product_mod z 1 m) ∙ ap (λ (b : ℕ). b % m) g

    pub solves_only : (z w : ℕ) → a * z % m ≡ w % m → z % m ≡ v * (w % m) % m
    solves_only z w g =
        let d : z * (a * v) ≡ v * (a * z) = omega arith in
        sym (times-one z) ∙ ap (λ (b : ℕ). b % m) d ∙ product_mod v (a * z) m ∙ ap (λ (b : ℕ). v * b % m) g

    pub solves : (z w : ℕ) → z % m ≡ v * (w % m) % m → a * z % m ≡ w % m
    solves z w g =
        let d : a * (v * (w % m)) ≡ w % m * (a * v) = omega arith in
        product_mod a z m ∙ ap (λ (b : ℕ). a * b % m) g ∙ sym (product_mod a (v * (w % m)) m) ∙ ap (λ (b : ℕ). b % m) d ∙ times-one (w % m) ∙ mod-mod w m

  -- what is x modulo m and lies d below 2^32 lies at least m - x below it
  pub far : (x d : ℕ) → 0 < d → d ≤ 4294967296 → (4294967296 - d) % m ≡ x → m ≤ d + x
  far x d l b f =
      let t : ℕ = (4294967296 - d) / m in
      let g : (4294967296 - d) % m + m * t ≡ 4294967296 - d = mod-add-div (4294967296 - d) m in
      go t (omega (arith, g, f, e)) (dec_le n t)
    where
      go : (t : ℕ) → m * n ≡ d + x + m * t → Dec (n ≤ t) → m ≤ d + x
      go t g (yes h) = absurd (omega (arith, g, mul-le-mul_left m h))
      go t g (no h) = let i : m * suc t ≤ m * n = mul-le-mul_left m (omega arith) in omega (arith, g, i)

pub far_is : (m n x : ℕ) → m * n ≡ 4294967296 → x < m → (4294967296 - (m - x)) % m ≡ x
far_is m zero x e l = absurd (omega arith)
far_is m (suc n) x e l =
    let f : 4294967296 - (m - x) ≡ x + m * n = omega (arith, e) in
    ap (λ (b : ℕ). b % m) f ∙ add-mul-mod_self_left x m n ∙ mod-eq_of_lt l
