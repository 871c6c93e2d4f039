-- CrystalFold leaves every StoreVar and MakeRecord as it is, and in order, whatever its rules: so both validators answer as before, and the
-- Rust's fingerprints are unchanged.
use mathlib.Core.Path.{◌≡◌, refl, sym, ◌∙◌, ap}
use mathlib.Core.Bool.{false}
use mathlib.Core.List.{List, [], ◌∷◌}
use Prim.Native.Nat.{ℕ}
use Rattle.cells.specs.Cells.{Cell}
use Rattle.cells.specs.Functions.{Function}
use Rattle.cells.specs.Ins.{Const, quad, bool, f64, i32, u32, fx}
use Rattle.cells.specs.View.{view, load_cell}
use Rattle.cells.specs.Lists.{only}
use Rattle.cells.proofs.Facts.{by_test}
use Rattle.sites.specs.Sites.{is_store_var, site_of, times, write_capable}
use Rattle.sites.specs.Validators.{validate_activation_sites, validate_write_sites, site_check}
use Rattle.sites.specs.declared.Which.{Which}
use Rattle.cells.proofs.Lists.{only-only}
use Rattle.sites.proofs.SameSites.{sites_same, same_passes, same_activation, same_write}
use Rattle.sites.proofs.Actions.{not_capable}
use Rattle.crystalfold.specs.Rules.{Rules}
use Rattle.crystalfold.specs.Fold.{Table, unknown, folded_to, dst_of, known_after, as_load, fold}
use Rattle.crystalfold.specs.CrystalFold.{fold_code, fold_function}
use Rattle.crystalfold.specs.Fingerprints.{store_var_fingerprint, write_site_fingerprint}
use Rattle.std.specs.Prelude.{Ok, Option, None, Some}

-- the cell of a load is neither
load_bare : (d : ℕ) (v : Const) → write_capable (load_cell d v) ≡ false
unfolding load_cell
load_bare d (quad q) = refl
load_bare d (bool b) = refl
load_bare d (f64 n) = refl
load_bare d (i32 n) = refl
load_bare d (u32 n) = refl
load_bare d (fx n) = refl

module _ (f : Rules) where
  pub only-fold : (t : Table) (p : List Cell) → only write_capable (fold view f load_cell t p) ≡ only write_capable p
  only-fold t [] = refl
  only-fold t (c ∷ p) = go (folded_to f t (view c)) refl (fold view f load_cell (known_after f t (view c)) p) (only-fold (known_after f t (view c)) p)
    where
      go : (k : Option Const) → folded_to f t (view c) ≡ k → (q : List Cell) → only write_capable q ≡ only write_capable p
          → only write_capable (as_load view f load_cell c (dst_of (view c)) k ∷ q) ≡ only write_capable (c ∷ p)
      go None e q h = by_test (write_capable c) (λ z. rw z (ap (◌∷◌ c) h)) (λ z. rw z h)
      go (Some v) e q h = rw (load_bare (dst_of (view c)) v, not_capable (folded_to f t) (λ m d b. refl) c v e) h

  pub only-folded : (cs : List Cell) → only write_capable (fold_code f cs) ≡ only write_capable cs
  unfolding fold_code
  only-folded cs = only-fold unknown cs

  -- the same sites stand
  pub sites_folded : (w : Which) (x : ℕ) (cs : List Cell) → times (site_of w) x (fold_code f cs) ≡ times (site_of w) x cs
  sites_folded w x cs = sites_same cs (fold_code f cs) [] (only-folded cs) w x

  -- each validator by itself, and both
  pub fold_activation : (position : ℕ) (cs es : List Cell) → validate_activation_sites position cs es ≡ Ok tt → validate_activation_sites position (fold_code f cs) es ≡ Ok tt
  fold_activation position cs es = same_activation cs (fold_code f cs) es (only-folded cs) position

  pub fold_write : (position : ℕ) (cs es : List Cell) → validate_write_sites position cs es ≡ Ok tt → validate_write_sites position (fold_code f cs) es ≡ Ok tt
  fold_write position cs es = same_write cs (fold_code f cs) es (only-folded cs) position

  pub fold_passes : (position : ℕ) (cs es : List Cell) → site_check position cs es ≡ Ok tt → site_check position (fold_code f cs) es ≡ Ok tt
  fold_passes position cs es = same_passes cs (fold_code f cs) es (only-folded cs) position

  pub fold-function_passes : (position : ℕ) (g : Function) → site_check position g.code g.events ≡ Ok tt
      → site_check position (fold_function f g).code (fold_function f g).events ≡ Ok tt
  unfolding fold_function
  fold-function_passes position g = fold_passes position g.code g.events

  -- whatever is known before
  pub fold_from_lem : (t : Table) (position : ℕ) (cs es : List Cell) → site_check position cs es ≡ Ok tt → site_check position (fold view f load_cell t cs) es ≡ Ok tt
  fold_from_lem t position cs es = same_passes cs (fold view f load_cell t cs) es (only-fold t cs) position

  -- "CrystalFold must pass every StoreVar's name and activation site through unchanged and in order"; so the write sites
  pub stores_kept : (cs : List Cell) → store_var_fingerprint (fold_code f cs) ≡ store_var_fingerprint cs
  stores_kept cs =
      let e : only is_store_var (fold_code f cs) ≡ only is_store_var cs =
      sym (only-only is_store_var write_capable (λ c y. rw y) (fold_code f cs)) ∙ ap (only is_store_var) (only-folded cs) ∙ only-only is_store_var write_capable (λ c y. rw y) cs in
      rw e

  pub writes_kept : (cs : List Cell) → write_site_fingerprint (fold_code f cs) ≡ write_site_fingerprint cs
  writes_kept cs = rw (only-folded cs)
