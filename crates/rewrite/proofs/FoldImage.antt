-- CrystalFold in one go over all cells of an image, heads and events among them, is CrystalFold function by function: a head is a barrier, so that
-- nothing is known where a function starts, and neither a head nor an event is folded.
use Rattle.std.specs.Prelude.{None}
use mathlib.Core.Path.{◌≡◌, refl, ap, ap₂, ◌∙◌}
use mathlib.Core.Bool.{true}
use mathlib.Core.List.{List, [], ◌∷◌, ◌++◌}
use Prim.Native.Nat.{◌+◌}
use native.Mathlib.Omega.{arith}
use Rattle.cells.specs.Cells.{Cell}
use Rattle.cells.specs.Functions.{Function, there, cells_of, cells_of_all}
use Rattle.cells.specs.Ins.{act}
use Rattle.cells.specs.Lists.{All}
use Rattle.cells.specs.View.{view, load_cell, Registers}
use Rattle.cells.specs.WellFormed.{InstructionGood, EventGood, WellFormed}
use Rattle.cells.proofs.Lists.{all_append, all_each}
use Rattle.cells.proofs.Views.{view-registers, head-view, event_view}
use Rattle.crystalfold.specs.Rules.{Rules}
use Rattle.crystalfold.specs.Fold.{Table, unknown, folded_to, dst_of, known_after, fold_count, as_load, fold}
use Rattle.crystalfold.specs.CrystalFold.{fold_code, folds_of, fold_function}
use Rattle.rewrite.specs.AllFunctions.{fold_all, folds_of_all}

module _ (f : Rules) where
  -- what is known behind cells
  abbrev known_behind : Table → List Cell → Table
  known_behind t [] = t
  known_behind t (c ∷ p) = known_behind (known_after f t (view c)) p

  fold-append : (t : Table) (p q : List Cell) → fold view f load_cell t (p ++ q) ≡ fold view f load_cell t p ++ fold view f load_cell (known_behind t p) q
  fold-append t [] q = refl
  fold-append t (c ∷ p) q = ap (◌∷◌ (as_load view f load_cell c (dst_of (view c)) (folded_to f t (view c)))) (fold-append (known_after f t (view c)) p q)

  count_append : (t : Table) (p q : List Cell) → fold_count view f t (p ++ q) ≡ fold_count view f t p + fold_count view f (known_behind t p) q
  count_append t [] q = omega arith
  count_append t (c ∷ p) q = omega (arith, count_append (known_after f t (view c)) p q)

  -- barriers stay as they are
  abbrev Still : Cell → Type 0
  Still c = view c ≡ act c None true

  still-fold : (t : Table) (p : List Cell) → All Still p → fold view f load_cell t p ≡ p
  still-fold t [] a = refl
  still-fold t (c ∷ p) a = rw a.0 (ap (◌∷◌ c) (still-fold unknown p a.1))

  still_count : (t : Table) (p : List Cell) → All Still p → fold_count view f t p ≡ 0
  still_count t [] a = refl
  still_count t (c ∷ p) a = rw a.0 (omega (arith, still_count unknown p a.1))

  head-still : (g : Function) → WellFormed g → Still g.head
  head-still g w = head-view 0 0 (there g) g.head (w.head 0 0)

  events_still : (g : Function) → WellFormed g → All Still g.events
  events_still g w = all_each EventGood Still (λ c e. event_view 0 0 c (e 0 0)) g.events w.events

  -- from any table: the first cell is a head
  fold-functions : (t : Table) (gs : List Function) → All WellFormed gs → fold view f load_cell t (cells_of_all gs) ≡ cells_of_all (fold_all f gs)
  unfolding fold_function fold_code
  fold-functions t [] a = refl
  fold-functions t (g ∷ gs) a =
      let known = known_behind unknown g.code in
      rw (head-still g a.0)
      (ap (◌∷◌ g.head)
      (fold-append unknown (g.code ++ g.events) (cells_of_all gs)
      ∙ ap₂ ◌++◌ (fold-append unknown g.code g.events ∙ ap (λ (es : List Cell). fold_code f g.code ++ es) (still-fold known g.events (events_still g a.0))) (fold-functions (known_behind unknown (g.code ++ g.events)) gs a.1)))

  count_functions : (t : Table) (gs : List Function) → All WellFormed gs → fold_count view f t (cells_of_all gs) ≡ folds_of_all f gs
  unfolding folds_of
  count_functions t [] a = refl
  count_functions t (g ∷ gs) a =
      rw (head-still g a.0)
      (omega
      (arith, count_append unknown (g.code ++ g.events) (cells_of_all gs), count_append unknown g.code g.events, still_count (known_behind unknown g.code) g.events (events_still g a.0), count_functions (known_behind unknown (g.code ++ g.events)) gs a.1))

  pub fold_image : (gs : List Function) → All WellFormed gs → fold_code f (cells_of_all gs) ≡ cells_of_all (fold_all f gs)
  unfolding fold_code
  fold_image gs a = fold-functions unknown gs a

  pub folds_image : (gs : List Function) → All WellFormed gs → folds_of f (cells_of_all gs) ≡ folds_of_all f gs
  unfolding folds_of
  folds_image gs a = count_functions unknown gs a

-- every register that a cell of the image names is below the limit
abbrev Named : Cell → Type 0
Named c = Registers (view c)

pub image_registers : (gs : List Function) → All WellFormed gs → All (λ (c : Cell). Registers (view c)) (cells_of_all gs)
image_registers [] a = tt
image_registers (g ∷ gs) a =
    let code = all_each InstructionGood Named (λ c e. view-registers 0 0 c (e 0 0)) g.code a.0.code in
    let events = all_each EventGood Named (λ c e. rw (event_view 0 0 c (e 0 0)) tt) g.events a.0.events in
    all_append Named (cells_of g) (cells_of_all gs) (rw (head-view 0 0 (there g) g.head (a.0.head 0 0)) tt, all_append Named g.code g.events code events) (image_registers gs a.1)
