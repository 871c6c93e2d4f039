-- What the answer says: where a cell stands, and that its fate is true there.
use mathlib.Core.Path.{◌≡◌, refl, sym, ◌∙◌, ap, ap₂, subst}
use mathlib.Core.Logic.{◌↔◌, ◌⊎◌, inl, inr}
use mathlib.Core.List.{List, [], ◌∷◌, ◌++◌, map}
use Prim.Native.Nat.{ℕ, zero, suc, ◌+◌, ◌-◌, ◌/◌, ◌≤◌, ◌<◌}
use native.Mathlib.Nat.{le_of_suc-le-suc, not-suc-le-zero}
use native.Mathlib.Omega.{arith}
use borrow.Author.Tests.{ltb-true, ltb-false}
use lib.Dec.{ltb}
use lib.ListN.{length, get_or, length-append}
use Rattle.cells.specs.Cells.{Cell, cells}
use Rattle.cells.specs.Functions.{Function, functions, cells_of, cells_of_all}
use Rattle.cells.specs.declared.refusal.Refusal.{Refusal}
use Rattle.cells.proofs.Cells.{length-cells}
use Rattle.cells.proofs.Facts.{by_test}
use Rattle.cells.proofs.Functions.{cells_of_functions}
use Rattle.image.specs.SiteCheck.{site_answer, SitesPass}
use Rattle.image.proofs.Good.{site-good}
use Rattle.cleanup.specs.Positions.{up_from}
use Rattle.cleanup.proofs.Positions.{length_up_from}
use Rattle.fates.specs.Fates.{code_fate, see_in, code_fates, event_fate, event_fates, function_fates}
use Rattle.fates.specs.Answer.{fates_from, image_fates, told, or_tell, fate_answer}
use Rattle.fates.specs.Claim.{CodeTrue, EventTrue}
use Rattle.fates.specs.Promises.{reply_of, HeadAt, CellAt, TrueOf, FateTold}
use Rattle.fates.specs.declared.Fate.{Fate}
use Rattle.fates.specs.declared.Fate.TheVariants.{RepeatedLabel}
use Rattle.fates.proofs.CodeTrue.{code_true}
use Rattle.fates.proofs.EventTrue.{event_true}
use Rattle.fates.proofs.GivesBack.{gives_back}
use Rattle.fates.proofs.Finding.{get_or-cell, get_or-behind}
use Rattle.fates.proofs.Whole.{length_fates, length_code_fates}
use Rattle.std.specs.Prelude.{Ok, Err, Option, None, Some}
use Rattle.cells.specs.Checked.{Checked}
use Rattle.fates.specs.Told.{CellFate}
use Rattle.fates.specs.declared.FateError.TheVariants.{Refused, NothingToTell}

-- ---- the entry of a cell, by where it stands among functions fs whose first head is the cell d

abbrev own : ℕ → Function → List Fate
own d f = function_fates (d + 1) f.code f.events

length_own : (d : ℕ) (f : Function) → length (cells_of f) ≡ suc (length (own d f))
length_own d f = ap suc (length-append f.code f.events ∙ sym (length_fates (d + 1) f.code f.events))

-- behind the cells of the earlier functions
behind_earlier : (d : ℕ) (earlier fs : List Function) (k : ℕ)
    → get_or (fates_from d (earlier ++ fs)) (length (cells_of_all earlier) + k) None ≡ get_or (fates_from (d + length (cells_of_all earlier)) fs) k None
behind_earlier d [] fs k =
    let e : 0 + k ≡ k = omega arith in
    let g : d + 0 ≡ d = omega arith in
    rw (e, g)
behind_earlier d (f ∷ earlier) fs k =
    let n = length (own d f) in
    let m = length (cells_of_all earlier) in
    let l : length (cells_of f ++ cells_of_all earlier) ≡ suc (n + m) = length-append (cells_of f) (cells_of_all earlier) ∙ ap (λ (j : ℕ). j + m) (length_own d f) ∙ omega arith in
    let a : d + 1 + length f.code + length f.events ≡ d + suc n = omega (arith, length_fates (d + 1) f.code f.events) in
    let e : length (cells_of f ++ cells_of_all earlier) + k ≡ suc (n + (m + k)) = omega arith in
    let g : d + suc n + m ≡ d + length (cells_of f ++ cells_of_all earlier) = omega arith in
    ap (λ (j : ℕ). get_or (fates_from d (f ∷ (earlier ++ fs))) j None) e
    ∙ get_or-behind (own d f) (fates_from (d + 1 + length f.code + length f.events) (earlier ++ fs)) (m + k)
    ∙ ap (λ (j : ℕ). get_or (fates_from j (earlier ++ fs)) (m + k) None) a
    ∙ behind_earlier (d + suc n) earlier fs k
    ∙ ap (λ (j : ℕ). get_or (fates_from j fs) k None) g

head_entry : (d : ℕ) (earlier : List Function) (f : Function) (later : List Function) → get_or (fates_from d (earlier ++ f ∷ later)) (length (cells_of_all earlier)) None ≡ None
head_entry d earlier f later =
    let e : length (cells_of_all earlier) ≡ length (cells_of_all earlier) + 0 = omega arith in
    ap (λ (j : ℕ). get_or (fates_from d (earlier ++ f ∷ later)) j None) e ∙ behind_earlier d earlier (f ∷ later) 0

cell_entry : (d : ℕ) (earlier : List Function) (f : Function) (later : List Function) (place : ℕ) → place < length f.code + length f.events
    → get_or (fates_from d (earlier ++ f ∷ later)) (length (cells_of_all earlier) + 1 + place) None ≡ Some (get_or (own (d + length (cells_of_all earlier)) f) place RepeatedLabel)
cell_entry d earlier f later place h =
    let e : length (cells_of_all earlier) + 1 + place ≡ length (cells_of_all earlier) + suc place = omega arith in
    ap (λ (j : ℕ). get_or (fates_from d (earlier ++ f ∷ later)) j None) e ∙ behind_earlier d earlier (f ∷ later) (suc place)
    ∙ get_or-cell (own (d + length (cells_of_all earlier)) f) _ place (omega (arith, length_fates (d + length (cells_of_all earlier) + 1) f.code f.events))

past_entry : (d : ℕ) (fs : List Function) (k : ℕ) → length (cells_of_all fs) ≤ k → get_or (fates_from d fs) k None ≡ None
past_entry d [] k h = refl
past_entry d (f ∷ fs) k h =
    let n = length (own d f) in
    let l : length (cells_of f ++ cells_of_all fs) ≡ suc (n + length (cells_of_all fs)) = length-append (cells_of f) (cells_of_all fs) ∙ ap (λ (j : ℕ). j + length (cells_of_all fs)) (length_own d f) ∙ omega arith in
    let e : k ≡ suc (n + (k - suc n)) = omega arith in
    ap (λ (j : ℕ). get_or (fates_from d (f ∷ fs)) j None) e ∙ get_or-behind (own d f) _ (k - suc n) ∙ past_entry (d + 1 + length f.code + length f.events) fs (k - suc n) (omega arith)

-- ---- each position is a head's, a cell's, or past the end

data Place (fs : List Function) (k : ℕ) : Type 0 where
  head : (earlier : List Function) (f : Function) (later : List Function) → fs ≡ earlier ++ f ∷ later → k ≡ length (cells_of_all earlier) → Place fs k
  cell : (earlier : List Function) (f : Function) (later : List Function) → fs ≡ earlier ++ f ∷ later → (place : ℕ) → k ≡ length (cells_of_all earlier) + 1 + place
      → place < length f.code + length f.events → Place fs k
  past : length (cells_of_all fs) ≤ k → Place fs k

-- a place among functions behind another one
further : (f : Function) (fs : List Function) (k m : ℕ) → k ≡ length (cells_of f) + m → Place fs m → Place (f ∷ fs) k
further f fs k m e (head earlier g later p i) = head (f ∷ earlier) g later (ap (◌∷◌ f) p) (e ∙ ap (◌+◌ (length (cells_of f))) i ∙ sym (length-append (cells_of f) (cells_of_all earlier)))
further f fs k m e (cell earlier g later p place i h) =
    cell (f ∷ earlier) g later (ap (◌∷◌ f) p) place
    (e ∙ ap (◌+◌ (length (cells_of f))) i ∙ omega (arith, length-append (cells_of f) (cells_of_all earlier))) h
further f fs k m e (past h) = past (omega (arith, length-append (cells_of f) (cells_of_all fs)))

place_of : (fs : List Function) (k : ℕ) → Place fs k
place_of [] k = past (omega arith)
place_of (f ∷ fs) zero = head [] f fs refl refl
place_of (f ∷ fs) (suc k) = by_test (ltb k (length f.code + length f.events))
    (λ y. cell [] f fs refl k (omega arith) (ltb-true k _ y))
    (λ y.
    let h : length f.code + length f.events ≤ k = ltb-false k _ y in
    further f fs (suc k) (k - (length f.code + length f.events)) (omega (arith, length-append f.code f.events)) (place_of fs (k - (length f.code + length f.events))))

-- ---- the fate at a place is true

get_or_mapped : {A : Type 0} (f : A → Fate) (d : A) (xs : List A) (k : ℕ) → k < length xs → get_or (map f xs) k RepeatedLabel ≡ f (get_or xs k d)
get_or_mapped f d [] k h = absurd (not-suc-le-zero h)
get_or_mapped f d (x ∷ xs) zero h = refl
get_or_mapped f d (x ∷ xs) (suc k) h = get_or_mapped f d xs k (le_of_suc-le-suc h)

get_or_positions : (m n k : ℕ) → k < n → get_or (up_from m n) k 0 ≡ m + k
get_or_positions m zero k h = absurd (not-suc-le-zero h)
get_or_positions m (suc n) zero h = omega arith
get_or_positions m (suc n) (suc k) h = get_or_positions (m + 1) n k (le_of_suc-le-suc h) ∙ omega arith

get_d_front : (xs ys : List Fate) (k : ℕ) → k < length xs → get_or (xs ++ ys) k RepeatedLabel ≡ get_or xs k RepeatedLabel
get_d_front [] ys k h = absurd (not-suc-le-zero h)
get_d_front (x ∷ xs) ys zero h = refl
get_d_front (x ∷ xs) ys (suc k) h = get_d_front xs ys k (le_of_suc-le-suc h)

get_or_back : (xs ys : List Fate) (k : ℕ) → get_or (xs ++ ys) (length xs + k) RepeatedLabel ≡ get_or ys k RepeatedLabel
get_or_back [] ys k = let e : 0 + k ≡ k = omega arith in rw e
get_or_back (x ∷ xs) ys k = let e : suc (length xs) + k ≡ suc (length xs + k) = omega arith in rw e (get_or_back xs ys k)

code_at : (first : ℕ) (cs es : List Cell) (k : ℕ) → k < length cs → get_or (function_fates first cs es) k RepeatedLabel ≡ code_fate (see_in cs) (length cs) first k
unfolding function_fates code_fates
code_at first cs es k h =
    get_d_front (code_fates first cs) (event_fates cs es) k (omega (arith, length_code_fates first cs))
    ∙ get_or_mapped (code_fate (see_in cs) (length cs) first) 0 (up_from 0 (length cs)) k (omega (arith, length_up_from 0 (length cs)))
    ∙ ap (code_fate (see_in cs) (length cs) first) (get_or_positions 0 (length cs) k h ∙ omega arith)

event_at : (first : ℕ) (cs es : List Cell) (i : ℕ) → i < length es → get_or (function_fates first cs es) (length cs + i) RepeatedLabel ≡ event_fate cs (get_or es i [])
unfolding function_fates event_fates
event_at first cs es i h =
    ap (λ (j : ℕ). get_or (code_fates first cs ++ event_fates cs es) (j + i) RepeatedLabel) (sym (length_code_fates first cs))
    ∙ get_or_back (code_fates first cs) (event_fates cs es) i ∙ get_or_mapped (event_fate cs) [] es i h

pub true_at : (first : ℕ) (f : Function) (place : ℕ) → place < length f.code + length f.events → TrueOf first f place (get_or (function_fates first f.code f.events) place RepeatedLabel)
true_at first f place h = record {
  instruction = λ b. subst (CodeTrue first f.code place) (sym (code_at first f.code f.events place b)) (code_true first f.code place b);
  event = λ i e.
      let b : i < length f.events = omega arith in
      subst (EventTrue f.code f.events (get_or f.events i []))
      (sym (ap (λ (j : ℕ). get_or (function_fates first f.code f.events) j RepeatedLabel) e ∙ event_at first f.code f.events i b))
      (event_true f.code f.events (get_or f.events i []) (i, b, refl));
}

-- ---- the answer

all-cells : (s : List ℕ) → length (cells_of_all (functions (cells s))) ≡ length s / 16
all-cells s = ap length (cells_of_functions (cells s)) ∙ length-cells s

-- the fate of a cell that stands somewhere
fate_there : {s : List ℕ} {k : ℕ} (c : CellAt s k) → get_or (image_fates s) k None ≡ Some (get_or (own (length (cells_of_all c.earlier)) c.this) c.place RepeatedLabel)
unfolding image_fates
fate_there {s} {k} c =
    ap₂ (λ (fs : List Function) (j : ℕ). get_or (fates_from 0 fs) j None) c.parts c.is
    ∙ cell_entry 0 c.earlier c.this c.later c.place c.inside
    ∙ ap (λ (j : ℕ). Some (get_or (own j c.this) c.place RepeatedLabel)) (omega arith)

data At (s : List ℕ) (k : ℕ) : Type 0 where
  nothing : (HeadAt s k ⊎ (length s / 16 ≤ k)) → get_or (image_fates s) k None ≡ None → At s k
  some_cell : CellAt s k → At s k

at : (s : List ℕ) (k : ℕ) → At s k
unfolding image_fates
at s k = go (place_of (functions (cells s)) k)
  where
    go : Place (functions (cells s)) k → At s k
    go (head earlier f later p i) =
        nothing (inl (record { earlier = earlier; this = f; later = later; parts = p; is = i }))
        (ap₂ (λ (fs : List Function) (j : ℕ). get_or (fates_from 0 fs) j None) p i ∙ head_entry 0 earlier f later)
    go (cell earlier f later p place i h) = some_cell (record { earlier = earlier; this = f; later = later; parts = p; place = place; is = i; inside = h })
    go (past h) = nothing (inr (omega (arith, all-cells s))) (past_entry 0 (functions (cells s)) k h)

no_entry : (s : List ℕ) (k : ℕ) → (HeadAt s k ⊎ (length s / 16 ≤ k)) → get_or (image_fates s) k None ≡ None
unfolding image_fates
no_entry s k (inl h) =
    ap₂ (λ (fs : List Function) (j : ℕ). get_or (fates_from 0 fs) j None) h.parts h.is ∙ head_entry 0 h.earlier h.this h.later
no_entry s k (inr h) = past_entry 0 (functions (cells s)) k (omega (arith, all-cells s))

-- by the site check's answer and the entry
refused-by : (c : Checked) (o : Option Fate) (x : Refusal) → (or_tell c (told o) ≡ Err (Refused x)) ↔ (c ≡ Err x)
refused-by (Ok tt) None x = (λ e. cc, λ e. cc)
refused-by (Ok tt) (Some y) x = (λ e. cc, λ e. cc)
refused-by (Err y) o x = (λ e. cc, λ e. cc)

nothing_by : (c : Checked) (o : Option Fate) → (or_tell c (told o) ≡ Err NothingToTell) ↔ ((c ≡ Ok tt) × (o ≡ None))
nothing_by (Ok tt) None = (λ e. (refl, refl), λ e. refl)
nothing_by (Ok tt) (Some y) = (λ e. (refl, cc), λ e. let z = e.1 in cc)
nothing_by (Err y) o = (λ e. let z : ◌≡◌ {A = ℕ} 0 1 = cc in absurd (omega arith), λ e. let z = e.0 in cc)

told-by : (c : Checked) (o : Option Fate) (x : Fate) → (or_tell c (told o) ≡ Ok x) ↔ ((c ≡ Ok tt) × (o ≡ Some x))
told-by (Ok tt) None x = (λ e. (refl, cc), λ e. let z = e.1 in cc)
told-by (Ok tt) (Some y) x = (λ e. (refl, cc), λ e. let z = e.1 in cc)
told-by (Err y) o x = (λ e. let z : ◌≡◌ {A = ℕ} 0 1 = cc in absurd (omega arith), λ e. let z = e.0 in cc)

none_some : {x : Fate} (o : Option Fate) → o ≡ None → o ≡ Some x → ⊥
none_some o e f = let z : ◌≡◌ {A = ℕ} 0 1 = cc in omega arith

same_some : (o : Option Fate) (x y : Fate) → o ≡ Some x → o ≡ Some y → x ≡ y
same_some o x y e f = cc

pub fate_told : (s : List ℕ) (k : ℕ) {r : CellFate} → r ≡ fate_answer s k → FateTold s k r
unfolding fate_answer
fate_told s k {r} e = record {
  answer = e;
  reply = ap reply_of e;
  refused = λ x. let b = refused-by (site_answer s) o x in (λ y. b.0 (sym e ∙ y), λ y. e ∙ b.1 y);
  nothing = (to_nothing, λ p. e ∙ (nothing_by (site_answer s) o).1 ((site-good s).1 p.0, no_entry s k p.1));
  every_cell = λ p c. (_, e ∙ (told-by (site_answer s) o _).1 ((site-good s).1 p, fate_there c));
  true_fate = to_true;
  gives_back = λ c. gives_back (length (cells_of_all c.earlier) + 1) c.this;
}
  where
    o : Option Fate
    o = get_or (image_fates s) k None

    to_nothing : r ≡ Err NothingToTell → SitesPass s × (HeadAt s k ⊎ (length s / 16 ≤ k))
    to_nothing y = let (g, n) = (nothing_by (site_answer s) o).0 (sym e ∙ y) in ((site-good s).0 g, place (at s k) n)
      where
        place : At s k → o ≡ None → HeadAt s k ⊎ (length s / 16 ≤ k)
        place (nothing h _) n = h
        place (some_cell c) n = absurd (none_some o n (fate_there c))

    to_true : (x : Fate) → r ≡ Ok x → SitesPass s × CellAt s k × ((c : CellAt s k) → TrueOf (length (cells_of_all c.earlier) + 1) c.this c.place x)
    to_true x y =
        let (g, n) = (told-by (site_answer s) o x).0 (sym e ∙ y) in (
          (site-good s).0 g,
          place (at s k) n,
          λ c.
              subst (TrueOf (length (cells_of_all c.earlier) + 1) c.this c.place) (same_some o _ x (fate_there c) n)
              (true_at (length (cells_of_all c.earlier) + 1) c.this c.place c.inside),
        )
      where
        place : At s k → o ≡ Some x → CellAt s k
        place (nothing _ m) n = absurd (none_some o m n)
        place (some_cell c) n = c
