-- The sites on cells as a list of numbers: of the first cells, what counting in it finds, and what it means that there are none.
use mathlib.Core.Path.{◌≡◌, refl, sym, ◌∙◌, ap, fun_ext}
use mathlib.Core.Bool.{Bool, ◌||◌}
use mathlib.Core.List.{List, [], ◌∷◌, ◌++◌, append-nil}
use Prim.Native.Nat.{ℕ, ◌+◌, ◌≤◌, ◌<◌}
use native.Mathlib.Numerals.{add-one}
use native.Mathlib.Omega.{arith}
use lib.Dec.{eqb}
use lib.ListN.{length, get_or, take, drop, length-append, take-append-drop}
use lib.Seq.{take-suc, take-append_seam, take-length}
use mathlib.Core.Bool.{false}
use Rattle.cells.specs.Check.{max_instructions}
use Rattle.cells.specs.Answers.{scan}
use Rattle.cells.specs.Cells.{Cell, Put}
use Rattle.cells.specs.Lists.{one}
use Rattle.cells.specs.declared.refusal.Refusal.{Refusal}
use Rattle.cells.proofs.Answers.{or-both}
use Rattle.cells.proofs.Facts.{by_test}
use Rattle.cells.proofs.Going.{put_first}
use Rattle.cells.proofs.Lists.{any_no, no_any}
use Rattle.sites.specs.Sites.{site_by, is_site, stands, times, with_site, sites_on}
use Rattle.sites.specs.Numbered.{SitesListed, one_of, count_in, search_end, list_over, list_after}
use Rattle.sites.specs.Validators.{standing}
use Rattle.cells.specs.declared.walk.Part.{Part}
use Rattle.sites.specs.declared.Which.{Which}
use Rattle.sites.specs.declared.Which.TheVariants.{Activation, Write}
use Rattle.std.specs.Prelude.{Option, Some, None, Ok, Err}
use Rattle.cells.specs.Checked.{Checked}

with_append : (s : Option ℕ) (xs ys : List ℕ) → with_site s (xs ++ ys) ≡ with_site s xs ++ ys
with_append None xs ys = refl
with_append (Some x) xs ys = refl

with-any : (x : ℕ) (s : Option ℕ) (xs : List ℕ) → one_of x (with_site s xs) ≡ (is_site x s || one_of x xs)
with-any x None xs = refl
with-any x (Some y) xs = refl

with_count : (x : ℕ) (s : Option ℕ) (xs : List ℕ) → count_in (with_site s xs) x ≡ one (is_site x s) + count_in xs x
with_count x None xs = omega arith
with_count x (Some y) xs = refl

with_few : (s : Option ℕ) (xs : List ℕ) → length (with_site s xs) ≤ 1 + length xs
with_few None xs = omega arith
with_few (Some x) xs = omega arith

with_none : (s : Option ℕ) (xs : List ℕ) → length (with_site s xs) ≡ 0 → (s ≡ None) × (length xs ≡ 0)
with_none None xs e = (refl, e)
with_none (Some x) xs e = absurd (omega arith)

module _ (f : Cell → Option ℕ) where
  sites_append : (cs ds : List Cell) → sites_on f (cs ++ ds) ≡ sites_on f cs ++ sites_on f ds
  sites_append [] ds = refl
  sites_append (c ∷ cs) ds = ap (with_site (f c)) (sites_append cs ds) ∙ with_append (f c) (sites_on f cs) (sites_on f ds)

  pub sites_any : (x : ℕ) (cs : List Cell) → one_of x (sites_on f cs) ≡ stands f x cs
  sites_any x [] = refl
  sites_any x (c ∷ cs) = with-any x (f c) (sites_on f cs) ∙ ap (λ (b : Bool). is_site x (f c) || b) (sites_any x cs)

  sites_count : (x : ℕ) (cs : List Cell) → count_in (sites_on f cs) x ≡ times f x cs
  sites_count x [] = refl
  sites_count x (c ∷ cs) = with_count x (f c) (sites_on f cs) ∙ ap (λ (n : ℕ). one (is_site x (f c)) + n) (sites_count x cs)

  pub sites_few : (cs : List Cell) → length (sites_on f cs) ≤ length cs
  sites_few [] = omega arith
  sites_few (c ∷ cs) = omega (arith, with_few (f c) (sites_on f cs), sites_few cs)

  -- one more cell, with a site and without
  sites_next : (cs : List Cell) (i : ℕ) (s : Option ℕ) → i < length cs → f (get_or cs i []) ≡ s → sites_on f (take (i + 1) cs) ≡ sites_on f (take i cs) ++ with_site s []
  sites_next cs i s h e = rw (← e, add-one, take-suc cs i []) (sites_append (take i cs) (get_or cs i [] ∷ []))

  pub sites_with : (cs : List Cell) (i x : ℕ) → i < length cs → f (get_or cs i []) ≡ Some x → length (sites_on f (take (i + 1) cs)) ≡ length (sites_on f (take i cs)) + 1
  sites_with cs i x h e = ap length (sites_next cs i (Some x) h e) ∙ length-append (sites_on f (take i cs)) (x ∷ [])

  pub sites_without : (cs : List Cell) (i : ℕ) → i < length cs → f (get_or cs i []) ≡ None → length (sites_on f (take (i + 1) cs)) ≡ length (sites_on f (take i cs))
  sites_without cs i h e = ap length (sites_next cs i None h e ∙ append-nil (sites_on f (take i cs)))

  -- no site on the cells: a judge that passes each cell without one passes them all
  pub no_sites : (judge : List Cell → Cell → Checked) → ((es : List Cell) (c : Cell) → f c ≡ None → judge es c ≡ Ok tt)
      → (es cs : List Cell) → length (sites_on f cs) ≡ 0 → scan judge es cs ≡ Ok tt
  no_sites judge g es [] e = refl
  no_sites judge g es (c ∷ cs) e =
      let w = with_none (f c) (sites_on f cs) e in
      or-both (judge es c) (scan judge (es ++ c ∷ []) cs) (g es c w.0) (no_sites judge g (es ++ c ∷ []) cs w.1)

-- a list that was collected
pub collected : {p : Part} {w : Which} {cs : List Cell} {before after : List ℕ} {r : ℕ} → length cs ≤ max_instructions → Put (sites_on (site_by p w) cs) before after r → SitesListed p w cs (take r after)
collected {p} {w} {cs} h s = record {
  few = omega (arith, ap length (put_first s), sites_few (site_by p w) cs);
  same = put_first s;
}

module _ {p : Part} {w : Which} {cs : List Cell} {list : List ℕ} (l : SitesListed p w cs list) where
  listed_count : length (sites_on (site_by p w) cs) ≡ length list
  listed_count = sym (ap length l.same)

  -- nothing in it: no site on the cells
  pub listed-none : length list ≡ 0 → length (sites_on (site_by p w) cs) ≡ 0
  listed-none e = listed_count ∙ e

  -- how often each site stands on the cells
  pub listed-counts : count_in list ≡ standing p w cs
  listed-counts = fun_ext λ x. ap (λ (xs : List ℕ). count_in xs x) l.same ∙ sites_count (site_by p w) x cs

  -- the sites on the first i cells, k of them, are its first k
  module _ (i k : ℕ) (e : length (sites_on (site_by p w) (take i cs)) ≡ k) where
    parts : sites_on (site_by p w) cs ≡ sites_on (site_by p w) (take i cs) ++ sites_on (site_by p w) (drop i cs)
    parts = ap (sites_on (site_by p w)) (sym (take-append-drop i cs)) ∙ sites_append (site_by p w) (take i cs) (drop i cs)

    pub listed_few : k ≤ length list
    listed_few = omega (arith, listed_count, ap length parts, length-append (sites_on (site_by p w) (take i cs)) (sites_on (site_by p w) (drop i cs)))

    listed-first : take k list ≡ sites_on (site_by p w) (take i cs)
    listed-first =
        ap (take k) (l.same ∙ parts)
        ∙ ap (λ (j : ℕ). take j (sites_on (site_by p w) (take i cs) ++ sites_on (site_by p w) (drop i cs))) (sym e) ∙ take-append_seam (sites_on (site_by p w) (take i cs)) (sites_on (site_by p w) (drop i cs))

    pub listed-stands : (x : ℕ) → stands (site_by p w) x (take i cs) ≡ one_of x (take k list)
    listed-stands x = sym (ap (one_of x) listed-first ∙ sites_any (site_by p w) x (take i cs))

-- a search for x: it ends among those searched, and finds x if it is one of them
module _ (list : List ℕ) (x : ℕ) where
  pub search_within : {r : ℕ} → r ≡ search_end list x → r ≤ length list
  search_within e = rw e (by_test (one_of x list) (λ y. rw y (omega arith)) (λ y. rw y (omega arith)))

  pub search-none : one_of x (take (search_end list x) list) ≡ false → one_of x list ≡ false
  search-none e = by_test (one_of x list) (λ y. let k : search_end list x ≡ length list = rw y in rw (k, take-length list) at e) (λ y. y)

  pub counted_end : {r : ℕ} → r ≡ count_in list x → r ≡ 0 → 0 ≡ search_end list x
  counted_end e z = rw (no_any (λ (y : ℕ). eqb y x) list (sym e ∙ z))

  pub counted-all : {r : ℕ} → r ≡ count_in list x → (r ≡ 0 → ⊥) → length list ≡ search_end list x
  counted-all e z = by_test (one_of x list) (λ y. rw y) (λ y. absurd (z (e ∙ any_no (λ (y : ℕ). eqb y x) list y)))

-- a lent list after both validators, the first of which answered r
module _ (p : Part) (s list : List ℕ) {r a : Checked} (e : r ≡ a) where
  pub list_refused : {x : Refusal} {list' : List ℕ} → r ≡ Err x → list' ≡ list_over p Activation s list → list' ≡ list_after p s a list
  list_refused f g = rw (← e, f) g

  pub list_passed : {list₁ list₂ : List ℕ} → r ≡ Ok tt → list₁ ≡ list_over p Activation s list → list₂ ≡ list_over p Write s list₁ → list₂ ≡ list_after p s a list
  list_passed f g h = rw (← e, f) (rw g at h)
