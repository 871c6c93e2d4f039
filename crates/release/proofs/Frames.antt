-- How a release is read: image by image, from any place on; what is framed is read back, and nothing else is.
use Rattle.std.specs.Prelude.{Option, None, Some}
use mathlib.Core.Path.{◌≡◌, refl, sym, ◌∙◌, ap, ap₂}
use mathlib.Core.List.{List, [], ◌∷◌, ◌++◌, append_assoc}
use mathlib.Core.Bool.{Bool, cond}
use Prim.Native.Nat.{ℕ, zero, suc, ◌+◌, ◌*◌, ◌/◌, ◌%◌, ◌≤◌, ◌<◌}
use native.Mathlib.Omega.{arith}
use borrow.Author.Tests.{eq-eqb, ne_eqb, le-leb, lt-leb, leb-true, leb-false}
use lib.Dec.{leb}
use lib.ListN.{length, take, drop, get_or, length-append, length-drop, take-append-drop}
use lib.Seq.{take-append_seam, drop-append_seam, length-take-le, drop-drop, get_or-drop}
use Rattle.cells.specs.Bytes.{byte, word, bytes}
use Rattle.cells.specs.Lists.{All}
use Rattle.cells.proofs.Facts.{by_test, eqb_true}
use Rattle.cells.proofs.Lists.{nothing_in}
use Rattle.release.specs.Frames.{Image, framed, ends, first_image, behind_first, join, at_end, images_within, images_of}
use Rattle.release.specs.Claim.{ReadBack, OnlyFramed}

-- ---- the limit on their number decides nothing

behind_shorter : (s : List ℕ) (n : ℕ) → length s ≤ suc n → length (behind_first s) ≤ n
behind_shorter s n h = omega (arith, length-drop (4 + word s 0) s)

enough : (n m : ℕ) (s : List ℕ) → length s ≤ n → length s ≤ m → images_within n s ≡ images_within m s
unfolding images_within
enough zero zero s h k = refl
enough zero (suc m) s h k = rw (eq-eqb (length s) 0 (omega arith)) refl
enough (suc n) zero s h k = rw (eq-eqb (length s) 0 (omega arith)) refl
enough (suc n) (suc m) s h k =
    ap (λ (t : Option (List Image)). cond (at_end s) (Some []) (cond (ends s) (join (first_image s) t) None))
    (enough n m (behind_first s) (behind_shorter s n h) (behind_shorter s m k))

pub images_end : images_of [] ≡ Some []
unfolding images_of images_within
images_end = refl

-- the first image, and those behind it
step : (s : List ℕ) → 0 < length s → images_of s ≡ cond (ends s) (join (first_image s) (images_of (behind_first s))) None
unfolding images_of images_within
step s h =
    let b = behind_shorter s (length s) (omega arith) in
    enough (length s) (suc (length s)) s (omega arith) (omega arith)
    ∙ ap (λ (t : Bool). cond t (Some []) (cond (ends s) (join (first_image s) (images_within (length s) (behind_first s))) None)) (ne_eqb (length s) 0 (λ e. absurd (omega arith)))
    ∙ ap (λ (t : Option (List Image)). cond (ends s) (join (first_image s) t) None) (enough (length s) (length (behind_first s)) (behind_first s) b (omega arith))

-- ---- from a place on

-- the image whose length stands at a place
abbrev pub image_at : List ℕ → ℕ → Image
image_at s at = take (word s at) (drop (at + 4) s)

word-drop : (s : List ℕ) (at : ℕ) → word (drop at s) 0 ≡ word s at
word-drop s at =
    let b : (i : ℕ) → byte (drop at s) i ≡ byte s (at + i) = λ i. get_or-drop at s i 0 in
    let b₀ : byte (drop at s) 0 ≡ byte s at = b 0 ∙ ap (byte s) (omega arith) in
    let b₃ : byte (drop at s) 3 ≡ byte s (at + 2 + 1) = b 3 ∙ ap (byte s) (omega arith) in
    omega (arith, b₀, b 1, b 2, b₃)

module _ (s : List ℕ) (at : ℕ) (h : at < length s) where
  here : 0 < length (drop at s)
  here = omega (arith, length-drop at s)

  -- a length or an image goes past the end
  pub past_end : length s < at + 4 + word s at → images_of (drop at s) ≡ None
  past_end k =
      step (drop at s) here
      ∙ ap (λ (t : Bool). cond t (join (first_image (drop at s)) (images_of (behind_first (drop at s)))) None)
      (lt-leb (4 + word (drop at s) 0) (length (drop at s)) (omega (arith, length-drop at s, word-drop s at)))

  pub next : at + 4 + word s at ≤ length s → images_of (drop at s) ≡ join (image_at s at) (images_of (drop (at + 4 + word s at) s))
  next k =
      let w = word-drop s at in
      let a : first_image (drop at s) ≡ image_at s at = ap₂ (λ (n : ℕ) (t : List ℕ). take n t) w (drop-drop 4 at s) in
      let e : at + (4 + word (drop at s) 0) ≡ at + 4 + word s at = omega (arith, w) in
      let b : behind_first (drop at s) ≡ drop (at + 4 + word s at) s = drop-drop (4 + word (drop at s) 0) at s ∙ ap (λ (n : ℕ). drop n s) e in
      step (drop at s) here
      ∙ ap (λ (t : Bool). cond t (join (first_image (drop at s)) (images_of (behind_first (drop at s)))) None)
      (le-leb (4 + word (drop at s) 0) (length (drop at s)) (omega (arith, length-drop at s, w)))
      ∙ ap₂ (λ (i : Image) (t : List ℕ). join i (images_of t)) a b

-- ---- how many there are: the images before a place, and those from there on

abbrev behind : List Image → Option (List Image) → Option (List Image)
behind is None = None
behind is (Some js) = Some (is ++ js)

behind_nothing : (o : Option (List Image)) → o ≡ behind [] o
behind_nothing None = refl
behind_nothing (Some is) = refl

behind_more : (is : List Image) (i : Image) (o : Option (List Image)) → behind is (join i o) ≡ behind (is ++ i ∷ []) o
behind_more is i None = refl
behind_more is i (Some js) = ap Some (sym (append_assoc is (i ∷ []) js))

-- n images are counted, and the bytes `left` are still to come
pub record Counted (s left : List ℕ) (n : ℕ) : Type 0 where
  pub done : List Image
  pub count : length done ≡ n
  pub few : n + length left ≤ length s
  pub whole : images_of s ≡ behind done (images_of left)

pub counted_start : (s : List ℕ) → Counted s s 0
counted_start s = record { done = []; count = refl; few = omega arith; whole = behind_nothing (images_of s) }

module _ {s left : List ℕ} {n : ℕ} (c : Counted s left n) where
  pub counted_next : 0 < length left → 4 + word left 0 ≤ length left → Counted s (drop (word left 0) (drop 4 left)) (n + 1)
  counted_next h k =
      let i = first_image left in
      let o = images_of (behind_first left) in
      let d : drop (word left 0) (drop 4 left) ≡ behind_first left = drop-drop (word left 0) 4 left in
      let e : images_of left ≡ join i o = step left h ∙ ap (λ (t : Bool). cond t (join i o) None) (le-leb (4 + word left 0) (length left) k) in
      record {
        done = c.done ++ i ∷ [];
        count = omega (arith, length-append c.done (i ∷ []), c.count);
        few = omega (arith, c.few, ap length d, length-drop (4 + word left 0) left);
        whole = c.whole ∙ ap (behind c.done) e ∙ behind_more c.done i o ∙ ap (λ (t : List ℕ). behind (c.done ++ i ∷ []) (images_of t)) (sym d);
      }

  pub counted_past : 0 < length left → length left < 4 + word left 0 → images_of s ≡ None
  counted_past h k =
      c.whole
      ∙ ap (behind c.done)
      (step left h ∙ ap (λ (t : Bool). cond t (join (first_image left) (images_of (behind_first left))) None) (lt-leb (4 + word left 0) (length left) k))

  pub counted-all : length left ≡ 0 → (is : List Image) × (images_of s ≡ Some is) × (length is ≡ n)
  counted-all h =
      let d : left ≡ [] = nothing_in left h in (
        c.done ++ [],
        c.whole ∙ ap (λ (t : List ℕ). behind c.done (images_of t)) d ∙ ap (behind c.done) images_end,
        omega (arith, length-append c.done [], c.count),
      )

-- ---- where there are more images, the next one is whole

join_some : (i : Image) (o : Option (List Image)) (rest : List Image) → join i o ≡ Some rest → (others : List Image) × (o ≡ Some others) × (rest ≡ i ∷ others)
join_some i None rest e = let z : ◌≡◌ {A = ℕ} 0 1 = cc in absurd (omega arith)
join_some i (Some js) rest e = (js, refl, cc)

pub record Next (s : List ℕ) (at : ℕ) (rest : List Image) : Type 0 where
  pub within : at + 4 + word s at ≤ length s
  pub others : List Image
  pub are : rest ≡ image_at s at ∷ others
  pub read : images_of (drop (at + 4 + word s at) s) ≡ Some others

pub next-whole : (s : List ℕ) (at : ℕ) (rest : List Image) → at < length s → images_of (drop at s) ≡ Some rest → Next s at rest
next-whole s at rest h e =
    by_test (leb (at + 4 + word s at) (length s))
    (λ t. let k = leb-true (at + 4 + word s at) (length s) t in
    let (others, o, r) = join_some (image_at s at) (images_of (drop (at + 4 + word s at) s)) rest (sym (next s at h k) ∙ e) in
    record { within = k; others = others; are = r; read = o })
    (λ t. let n : None ≡ Some rest = sym (past_end s at h (leb-false (at + 4 + word s at) (length s) t)) ∙ e in
    let z : ◌≡◌ {A = ℕ} 0 1 = cc in absurd (omega arith))

-- the last image ends where the release does
pub none_left : (s : List ℕ) (at : ℕ) (rest : List Image) → length s ≤ at → images_of (drop at s) ≡ Some rest → rest ≡ []
none_left s at rest h e =
    let d : drop at s ≡ [] = nothing_in (drop at s) (omega (arith, length-drop at s)) in
    let n : Some rest ≡ Some [] = sym e ∙ ap images_of d ∙ images_end in
    cc

-- ---- framed images are read back

-- the bytes of a number read back as it
pub four_back : (n : ℕ) → n % 256 + 256 * (n / 256 % 256) + 65536 * (n / 256 / 256 % 256 + 256 * (n / 256 / 256 / 256)) ≡ n
four_back n = omega arith

pub read_back : ReadBack
read_back [] = images_end
read_back (i ∷ is) =
    let s = framed (i ∷ is) in
    let t = i ++ framed is in
    let w : word s 0 ≡ length i = four_back (length i) in
    let l : length s ≡ 4 + length t = omega arith in
    let a : first_image s ≡ i = ap (λ (n : ℕ). take n t) w ∙ take-append_seam i (framed is) in
    let b : behind_first s ≡ framed is = sym (drop-drop (word s 0) 4 s) ∙ ap (λ (n : ℕ). drop n t) w ∙ drop-append_seam i (framed is) in
    step s (omega (arith, l))
    ∙ ap (λ (x : Bool). cond x (join (first_image s) (images_of (behind_first s))) None) (le-leb (4 + word s 0) (length s) (omega (arith, w, l, length-append i (framed is))))
    ∙ ap₂ (λ (j : Image) (u : List ℕ). join j (images_of u)) a b ∙ ap (join i) (read_back is)

-- ---- and nothing else is, among bytes

abbrev pub Byte : List ℕ → Type 0
Byte s = (i : ℕ) → get_or s i 0 < 256

pub byte-all : (s : List ℕ) → All (λ (b : ℕ). b < 256) s → Byte s
byte-all [] a i = omega arith
byte-all (b ∷ s) a zero = a.0
byte-all (b ∷ s) a (suc i) = byte-all s a.1 i

pub byte-drop : (s : List ℕ) (k : ℕ) → Byte s → Byte (drop k s)
byte-drop s k b i = omega (arith, get_or-drop k s i 0, b (k + i))

pub four_cons : {a b c d a' b' c' d' : ℕ} → a ≡ a' → b ≡ b' → c ≡ c' → d ≡ d' → ◌≡◌ {A = List ℕ} (a ∷ b ∷ c ∷ d ∷ []) (a' ∷ b' ∷ c' ∷ d' ∷ [])
four_cons e f g h = cc

-- the length's own bytes
four_bytes : (s : List ℕ) → 4 ≤ length s → Byte s → bytes 4 (word s 0) ≡ take 4 s
four_bytes [] h f = absurd (omega arith)
four_bytes (a ∷ []) h f = absurd (omega arith)
four_bytes (a ∷ b ∷ []) h f = absurd (omega arith)
four_bytes (a ∷ b ∷ c ∷ []) h f = absurd (omega arith)
four_bytes (a ∷ b ∷ c ∷ d ∷ t) h f =
    let x : a < 256 = f 0 in
    let y : b < 256 = f 1 in
    let z : c < 256 = f 2 in
    four_cons (omega arith) (omega arith) (omega arith) (omega arith)

framed_within : (n : ℕ) (s : List ℕ) (is : List Image) → length s ≤ n → Byte s → images_within n s ≡ Some is → s ≡ framed is
unfolding images_within
framed_within zero s is h f e =
    let i : [] ≡ is = cc in
    nothing_in s (omega arith) ∙ ap framed i
framed_within (suc n) s is h f e =
    by_test (at_end s)
    (λ t. let i : Some [] ≡ Some is = sym (ap (λ (x : Bool). cond x (Some []) (cond (ends s) (join (first_image s) (images_within n (behind_first s))) None)) t) ∙ e in
    let j : [] ≡ is = cc in
    nothing_in s (eqb_true (length s) 0 t) ∙ ap framed j)
    (λ t. let e₁ : cond (ends s) (join (first_image s) (images_within n (behind_first s))) None ≡ Some is = sym (ap (λ (x : Bool). cond x (Some []) (cond (ends s) (join (first_image s) (images_within n (behind_first s))) None)) t) ∙ e in
    by_test (ends s)
    (λ u. let e₂ = sym (ap (λ (x : Bool). cond x (join (first_image s) (images_within n (behind_first s))) None) u) ∙ e₁ in
    let (others, o, r) = join_some (first_image s) (images_within n (behind_first s)) is e₂ in
    let k = leb-true (4 + word s 0) (length s) u in
    let b : behind_first s ≡ framed others = framed_within n (behind_first s) others (behind_shorter s n h) (byte-drop s (4 + word s 0) f) o in
    let l : length (first_image s) ≡ word s 0 = length-take-le (word s 0) (drop 4 s) (omega (arith, length-drop 4 s)) in
    let c : bytes 4 (length (first_image s)) ≡ take 4 s = ap (bytes 4) l ∙ four_bytes s (omega arith) f in
    let d : drop 4 s ≡ first_image s ++ framed others = sym (take-append-drop (word s 0) (drop 4 s)) ∙ ap (λ (x : List ℕ). first_image s ++ x) (drop-drop (word s 0) 4 s ∙ b) in
    sym (take-append-drop 4 s) ∙ ap₂ (λ (x y : List ℕ). x ++ y) (sym c) d ∙ sym (append_assoc (bytes 4 (length (first_image s))) (first_image s) (framed others)) ∙ ap framed (sym r))
    (λ u. let m : None ≡ Some is = sym (ap (λ (x : Bool). cond x (join (first_image s) (images_within n (behind_first s))) None) u) ∙ e₁ in
    let z : ◌≡◌ {A = ℕ} 0 1 = cc in absurd (omega arith)))

pub framed-bytes : (s : List ℕ) (is : List Image) → Byte s → images_of s ≡ Some is → s ≡ framed is
unfolding images_of
framed-bytes s is f e = framed_within (length s) s is (omega arith) f e

pub only-framed : OnlyFramed
only-framed s is a e = framed-bytes s is (byte-all s a) e
