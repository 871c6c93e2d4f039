-- What a jump finds, and the sweeps over what the cells are.
use Rattle.std.specs.Prelude.{Option, None, Some, option_map}
use Rattle.std.proofs.lemmas.Option.{same_Some}
use mathlib.Core.Path.{◌≡◌, refl, ap}
use mathlib.Core.List.{List, [], ◌∷◌, ◌++◌}
use Prim.Native.Nat.{ℕ}
use Rattle.cells.specs.Ins.{Ins, label_of, alike}
use Rattle.cells.proofs.Facts.{by_test, label_is}
use Rattle.machine.specs.Values.{Regs}
use Rattle.machine.specs.Run.{seek, exec, on}
use Rattle.machine.proofs.Simulation.{Rel, Both}

-- the passes of a list of `Ins` see each as it is
abbrev pub plain : Ins → Ins
plain i = i

-- where a pass moves with the jumps, they stay related
pub both-map : (ρ : Rel) (r : Regs) (f : List Ins → List Ins) (a : Option (List Ins)) → ((p : List Ins) → a ≡ Some p → ρ p r (f p) r) → Both ρ r a (option_map f a)
both-map ρ r f None x = tt
both-map ρ r f (Some p) x = x p refl

-- a jump goes to cells of the function's own end
pub seek_end : (l : ℕ) (P p : List Ins) → seek l P ≡ Some p → (a : List Ins) × (P ≡ a ++ p)
seek_end l [] p e = ([], cc)
seek_end l (i ∷ P) p e = by_test (alike (Some l) (label_of i))
    (λ y. ([], same_Some (i ∷ P) p (rw y at e)))
    (λ y. let (a, x) = seek_end l P p (rw y at e) in (i ∷ a, ap (◌∷◌ i) x))

-- a label does nothing
pub exec_label : (i : Ins) (l : ℕ) (r : Regs) → label_of i ≡ Some l → exec i r ≡ on r
unfolding exec
exec_label i l r e = rw (label_is i l e)
