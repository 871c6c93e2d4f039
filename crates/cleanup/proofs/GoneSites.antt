-- The sites on the cells that the second sweep removes: gathered from the cells as they were sent, and as the definition has them.
use mathlib.Core.Path.{◌≡◌, refl, sym, ◌∙◌, ap, ap₂, fun_ext}
use mathlib.Core.Bool.{Bool, true, false, ◌||◌, not}
use mathlib.Core.List.{List, [], ◌∷◌}
use Prim.Native.Nat.{ℕ, ◌+◌, ◌/◌, ◌≤◌, ◌<◌}
use native.Mathlib.Omega.{arith}
use borrow.Author.Tests.{not-true}
use lib.ListN.{length, get_or, drop}
use Rattle.cells.specs.Cells.{Cell, cells, cell_at}
use Rattle.cells.specs.Ins.{Ins, load, comp, label, jmp, jmp_if, ret, act, label_of, alike}
use Rattle.cells.specs.Lists.{only}
use Rattle.cells.specs.View.{view}
use Rattle.cells.proofs.Cells.{cell_at_lem}
use Rattle.cells.proofs.Facts.{by_test, clash, and_true, alike_true}
use Rattle.cells.proofs.Over.{over_nil}
use Rattle.sites.specs.Sites.{site_of, event_site, site_by, sites_on}
use Rattle.cells.specs.declared.walk.Part.TheVariants.{Code, Events}
use Rattle.sites.specs.declared.Which.{Which}
use Rattle.sites.specs.declared.Which.TheVariants.{Activation, Write}
use Rattle.sites.proofs.Counted.{sites_any}
use Rattle.cleanup.specs.Marks.{terminal, is_there}
use Rattle.cleanup.specs.Sweeps.{dedupe, cut_off, unreached, removed}
use Rattle.cleanup.specs.Cleanup.{on_gone, stays, clean_events}
use Rattle.cleanup.specs.Receipts.{among, spared}
use Rattle.cleanup.specs.Output.{Kept}
use Rattle.cleanup.proofs.Writing.{cells_cons, cells-none}
use Rattle.std.specs.Prelude.{Option, Some, None}

-- ---- repeated labels make no difference to the second sweep

label_goes_on : (i : Ins) → is_there (label_of i) ≡ true → terminal i ≡ false
label_goes_on (load d v) e = refl
label_goes_on (comp c o d a b) e = refl
label_goes_on (label l) e = refl
label_goes_on (jmp l) e = sym e
label_goes_on (jmp_if c l) e = refl
label_goes_on (ret s) e = sym e
label_goes_on (act c d b) e = refl

alike-there : (a b : Option ℕ) → alike a b ≡ true → (is_there a ≡ true) × (is_there b ≡ true)
alike-there a b e = let (l, u, v) = alike_true a b e in (rw u, rw v)

module _ {C : Type 0} (see : C → Ins) where
  unreached-dedupe : (k : Option ℕ) (b : Bool) (p : List C) → (is_there k ≡ true → b ≡ false) → unreached see b (dedupe see k p) ≡ unreached see b p
  unreached-dedupe k b [] h = refl
  unreached-dedupe k b (c ∷ p) h = by_test (alike k (label_of (see c)))
      (λ y.
      let z = alike-there k (label_of (see c)) y in
      let e : b ≡ false = h z.0 in
      let f : terminal (see c) ≡ false = label_goes_on (see c) z.1 in
      rw (y, e, f) (unreached-dedupe k false p (λ _. refl)))
      (λ y. by_test (cut_off see b c)
      (λ z. rw (y, z) (ap (◌∷◌ c) (unreached-dedupe (label_of (see c)) b p (λ t. clash (is_there (label_of (see c))) t (not-true _ (and_true b _ z).1)))))
      (λ z. rw (y, z) (unreached-dedupe (label_of (see c)) (terminal (see c)) p (label_goes_on (see c)))))

  removed_is : (p : List C) → removed see p ≡ unreached see false p
  removed_is p = unreached-dedupe None false p (λ _. refl)

-- ---- the sites as the code reads them

site_read : (s : List ℕ) (k : ℕ) (f : Cell → Option ℕ) → k < length s / 16 → {r : Option ℕ} → r ≡ f (get_or (cells s) k []) → f (cell_at s k) ≡ r
site_read s k f h e = ap f (sym (cell_at_lem s k h)) ∙ sym e

pub code_site : (s : List ℕ) (k : ℕ) (w : Which) → k < length s / 16 → {r : Option ℕ} → r ≡ site_by Code w (get_or (cells s) k []) → site_of w (cell_at s k) ≡ r
unfolding site_by
code_site s k w h e = site_read s k (site_of w) h e

pub event_site_lem : (s : List ℕ) (k : ℕ) (w : Which) → k < length s / 16 → {r : Option ℕ} → r ≡ site_by Events w (get_or (cells s) k []) → event_site w (cell_at s k) ≡ r
unfolding site_by
event_site_lem s k w h e = site_read s k (event_site w) h e

-- ---- the sites, gathered

-- from the cell k on
abbrev pub gone : Which → List ℕ → Bool → ℕ → List ℕ
gone w s cut k = sites_on (site_of w) (unreached view cut (drop k (cells s)))

pub gone_all : (w : Which) (s : List ℕ) → sites_on (site_of w) (removed view (cells s)) ≡ gone w s false 0
gone_all w s = ap (sites_on (site_of w)) (removed_is view (cells s))

module _ (w : Which) (s : List ℕ) (cut : Bool) (k : ℕ) where
  module _ (h : k < length s / 16) where
    pub gone_site : (x : ℕ) → cut_off view cut (cell_at s k) ≡ true → site_of w (cell_at s k) ≡ Some x → gone w s cut k ≡ x ∷ gone w s cut (k + 1)
    gone_site x t e = rw (cells_cons s k h, t, e)

    pub gone_bare : cut_off view cut (cell_at s k) ≡ true → site_of w (cell_at s k) ≡ None → gone w s cut k ≡ gone w s cut (k + 1)
    gone_bare t e = rw (cells_cons s k h, t, e)

    pub gone_kept : (b : Bool) → cut_off view cut (cell_at s k) ≡ false → terminal (view (cell_at s k)) ≡ b → gone w s cut k ≡ gone w s b (k + 1)
    gone_kept b t e = rw (cells_cons s k h, t, e)

  pub gone_end : length s / 16 ≤ k → gone w s cut k ≡ []
  gone_end h = rw (cells-none s k h)

-- ---- the events that they spare are those that stay

pub among_sites : (w : Which) (cs : List Cell) (s : Option ℕ) → among (sites_on (site_of w) cs) s ≡ on_gone w cs s
among_sites w cs None = refl
among_sites w cs (Some x) = sites_any (site_of w) x cs

spared-stays : (cs es : List Cell) → only (spared (sites_on (site_of Activation) cs) (sites_on (site_of Write) cs)) es ≡ only (stays cs) es
spared-stays cs es = ap (λ (f : Cell → Bool). only f es) (fun_ext λ e. ap₂ (λ (a b : Bool). not (a || b)) (among_sites Activation cs (event_site Activation e)) (among_sites Write cs (event_site Write e)))

-- the events written, by the two lists that the code gathered
pub kept_events : (cs es : List Cell) {xs ys before after : List ℕ} {r : ℕ} → xs ≡ sites_on (site_of Activation) (removed view cs) → ys ≡ sites_on (site_of Write) (removed view cs)
    → Kept (only (spared xs ys) es) before after r → Kept (clean_events cs es) before after r
unfolding clean_events
kept_events cs es {xs} {ys} p q k =
    let e : only (spared xs ys) es ≡ only (stays (removed view cs)) es =
    ap₂ (λ (u v : List ℕ). only (spared u v) es) p q ∙ spared-stays (removed view cs) es in
    rw e at k

pub no_events : (cs : List Cell) (s out : List ℕ) → length s < 16 → Kept (clean_events cs (cells s)) out out 0
unfolding clean_events
no_events cs s out h =
    let e : cells s ≡ [] = cells-none s 0 (omega arith) in
    rw e (record { bytes = sym (over_nil out); count = refl })
