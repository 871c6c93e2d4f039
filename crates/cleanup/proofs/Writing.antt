-- Cells written one after another over the start of an output.
use mathlib.Core.Path.{◌≡◌, refl, sym, ◌∙◌, ap, ap₂}
use mathlib.Core.Bool.{Bool, true, false}
use mathlib.Core.List.{List, [], ◌∷◌, ◌++◌, map, map-append, append_assoc, append-nil}
use Prim.Native.Nat.{ℕ, suc, ◌+◌, ◌-◌, ◌*◌, ◌/◌, ◌≤◌, ◌<◌}
use native.Mathlib.Omega.{arith}
use native.Mathlib.Numerals.{add-one}
use lib.ListN.{length, get_or, take, drop, length-append, drop_of_length-le}
use lib.Seq.{take-suc, drop-cons}
use Rattle.cells.specs.Cells.{Cell, cells, cell_at, flat, over}
use Rattle.cells.specs.Lists.{only}
use Rattle.cells.proofs.Cells.{length-cells, cell_at_lem, length-cell_at, flat_append}
use Rattle.cells.proofs.Over.{over_nil, over_add, over-part, length_over}
use Rattle.cleanup.specs.Output.{Kept}

-- the cells cs, as many as are kept, stand over the start of the output
pub record Writing (out₀ out : List ℕ) (cs : List Cell) (kept : ℕ) : Type 0 where
  pub long : length out ≡ length out₀
  pub size : length (flat cs) ≡ 16 * kept
  pub is : out ≡ over (flat cs) out₀

pub writing_start : (out₀ : List ℕ) → Writing out₀ out₀ [] 0
writing_start out₀ = record { long = refl; size = refl; is = sym (over_nil out₀) }

pub writing_more : {out₀ out : List ℕ} {cs : List Cell} {k : ℕ} → Writing out₀ out cs k → (out' : List ℕ) (c : Cell) → length c ≡ 16 → k < length out₀ / 16
    → out' ≡ take (16 * k) out ++ (c ++ drop (16 * k + 16) out) → Writing out₀ out' (cs ++ c ∷ []) (k + 1)
writing_more {out₀} {out} {cs} {k} w out' c l h e = record { long = rw is' (length_over (flat (cs ++ c ∷ [])) out₀ (omega (arith, size'))); size = size'; is = is' }
  where
    bytes : flat (cs ++ c ∷ []) ≡ flat cs ++ c
    bytes = flat_append cs (c ∷ []) ∙ ap (λ (t : List ℕ). flat cs ++ t) (append-nil c)

    size' : length (flat (cs ++ c ∷ [])) ≡ 16 * (k + 1)
    size' = rw (bytes, length-append) (omega (arith, w.size))

    is' : out' ≡ over (flat (cs ++ c ∷ [])) out₀
    is' =
        e ∙ rw (bytes, w.is)
        (ap (λ (j : ℕ). take (16 * k) (over (flat cs) out₀) ++ (c ++ drop (16 * k + j) (over (flat cs) out₀))) (sym l)
        ∙ over_add (flat cs) c out₀ (16 * k) w.size)

-- one more of the positions in a list
pub listed_more : (s list : List ℕ) (i : ℕ) → i < length list → map (cell_at s) (take (i + 1) list) ≡ map (cell_at s) (take i list) ++ cell_at s (get_or list i 0) ∷ []
listed_more s list i h = rw (add-one, take-suc list i 0) (map-append (cell_at s) (take i list) (get_or list i 0 ∷ []))

-- the cells from i on
pub cells_cons : (s : List ℕ) (i : ℕ) → i < length s / 16 → drop i (cells s) ≡ cell_at s i ∷ drop (i + 1) (cells s)
cells_cons s i h =
    let l : i < length (cells s) = omega (arith, length-cells s) in
    let e : suc i ≡ i + 1 = omega arith in
    drop-cons (cells s) i [] l ∙ ap₂ (λ (c : Cell) (t : List Cell). c ∷ t) (cell_at_lem s i h) (ap (λ (j : ℕ). drop j (cells s)) e)

pub cells-none : (s : List ℕ) (i : ℕ) → length s / 16 ≤ i → drop i (cells s) ≡ []
cells-none s i h =
    let l : length (cells s) ≤ i = omega (arith, length-cells s) in
    drop_of_length-le (cells s) l

-- the cells of s that pass a test f, as far as they are looked at
pub record Sorting (f : Cell → Bool) (s out₀ out : List ℕ) (i kept : ℕ) : Type 0 where
  pub in_range : i ≤ length s / 16
  pub fewer : kept ≤ i
  pub long : length out ≡ length out₀
  pub done : List Cell
  pub count : length done ≡ kept
  pub written : Writing out₀ out done kept
  pub parts : only f (cells s) ≡ done ++ only f (drop i (cells s))

pub sorting_start : (f : Cell → Bool) (s out₀ : List ℕ) → Sorting f s out₀ out₀ 0 0
sorting_start f s out₀ = record { in_range = omega arith; fewer = omega arith; long = refl; done = []; count = refl; written = writing_start out₀; parts = refl }

module _ {f : Cell → Bool} {s out₀ out : List ℕ} {i kept : ℕ} (g : Sorting f s out₀ out i kept) where
  pub sorting_keep : (out' : List ℕ) → i < length s / 16 → length s / 16 ≤ length out₀ / 16 → f (cell_at s i) ≡ true
      → out' ≡ take (16 * kept) out ++ (cell_at s i ++ drop (16 * kept + 16) out) → Sorting f s out₀ out' (i + 1) (kept + 1)
  sorting_keep out' h r t e =
      let w = writing_more g.written out' (cell_at s i) (length-cell_at s i (omega arith)) (omega (arith, g.fewer)) e in
      record {
        in_range = omega arith;
        fewer = omega (arith, g.fewer);
        long = w.long;
        done = g.done ++ cell_at s i ∷ [];
        count = simp length-append (omega (arith, g.count));
        written = w;
        parts = g.parts ∙ rw (cells_cons s i h, t, append_assoc);
      }

  pub sorting_drop : i < length s / 16 → f (cell_at s i) ≡ false → Sorting f s out₀ out (i + 1) kept
  sorting_drop h t = record {
    in_range = omega arith;
    fewer = omega (arith, g.fewer);
    long = g.long;
    done = g.done;
    count = g.count;
    written = g.written;
    parts = g.parts ∙ rw (cells_cons s i h, t);
  }

  pub sorting_end : length s / 16 ≤ i → Kept (only f (cells s)) out₀ out kept
  sorting_end h =
      let w : only f (cells s) ≡ g.done = g.parts ∙ rw (cells-none s i h) (append-nil g.done) in
      record { bytes = rw w g.written.is; count = rw w (sym g.count) }

-- further cells in the part behind those written first
pub joined : (cs es : List Cell) (out₀ out part : List ℕ) (a : ℕ) → length (flat cs) ≡ a → a ≤ length out → out ≡ over (flat cs) out₀
    → part ≡ over (flat es) (take (length out - a) (drop a out))
    → take a out ++ (part ++ drop (length out - a) (drop a out)) ≡ over (flat (cs ++ es)) out₀
joined cs es out₀ out part a e h x y = over-part (flat cs) (flat es) out₀ out part a e h x y ∙ ap (λ (u : List ℕ). over u out₀) (sym (flat_append cs es))
