-- A StoreVar and a MakeRecord are outside actions.
use Rattle.std.specs.Prelude.{Option, None, Some}
use mathlib.Core.Path.{◌≡◌, sym, ◌∙◌, ap}
use mathlib.Core.Bool.{Bool, true, false}
use Prim.Native.Nat.{ℕ}
use Rattle.cells.specs.Bytes.{byte, half}
use Rattle.cells.specs.Cells.{Cell}
use Rattle.cells.specs.Ins.{Ins, act}
use Rattle.cells.specs.Table.{rows, class_of}
use Rattle.cells.specs.View.{barrier, view_as, view}
use Rattle.cells.proofs.Facts.{by_test, eqb_true}
use Rattle.sites.specs.Sites.{is_store_var, write_capable}

abbrev pub Action : Cell → Type 0
Action c = (d : Option ℕ) × (b : Bool) × (view c ≡ act c d b)

pub capable_action : (c : Cell) → write_capable c ≡ true → Action c
unfolding view class_of rows
capable_action c e = by_test (is_store_var c)
    (λ y. let k = eqb_true (byte c 0) 0x4d y in (None, barrier c, ap (λ (n : ℕ). view_as (class_of n) c) k))
    (λ y. let k = eqb_true (byte c 0) 0x32 (rw y at e) in (Some (half c 1), barrier c, ap (λ (n : ℕ). view_as (class_of n) c) k))

-- so a cell with something that no action has is neither
pub not_capable : {A : Type 0} (g : Ins → Option A) → ((c : Cell) (d : Option ℕ) (b : Bool) → g (act c d b) ≡ None) → (c : Cell) (l : A) → g (view c) ≡ Some l → write_capable c ≡ false
not_capable g u c l e = by_test (write_capable c)
    (λ y. let (d, b, v) = capable_action c y in let z : None ≡ Some l = sym (u c d b) ∙ ap g (sym v) ∙ e in cc)
    (λ y. y)
