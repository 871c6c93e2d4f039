-- The general simulation lemma. A relation between what P and Q still have to run gives `SameRecords P Q` if it holds at the start, at jumps,
-- and after each step: both step, or P steps, Q stays and less lies ahead of P.
use Rattle.std.specs.Prelude.{Option, None, Some}
use mathlib.Core.Path.{◌≡◌, refl, sym, ap}
use mathlib.Core.Logic.{◌⊎◌, inl, inr}
use mathlib.Core.List.{List, [], ◌∷◌, ◌++◌, head-eq_of_cons-eq, tail-eq_of_cons-eq}
use Prim.Native.Nat.{ℕ, zero, suc, ◌≤◌, ◌<◌}
use native.Mathlib.Omega.{arith}
use lib.ListN.{length}
use Rattle.cells.specs.Ins.{Ins}
use Rattle.machine.specs.Values.{Value, Regs, put, shown}
use Rattle.machine.specs.Run.{did, Entry, Answer, stop, go, Outside, Move, on, to, halt, ask, State, live, dead, record_of, fall, seek, goto, reply, exec, move, step, run, after}
use Rattle.machine.specs.Records.{SameRecords}
use Rattle.machine.proofs.Growth.{same_of}

-- the registers after a cell, where the run goes on to the next one
abbrev pub After : Move → Regs → Regs → Type 0
After (on r₁) r r' = r' ≡ r₁
After (to l) r r' = ⊥
After (halt c) r r' = ⊥
After (ask c d) r r' = (v : Value) × (r' ≡ put d v r)

-- a relation of the cells to run and the registers of P to those of Q
abbrev pub Rel : Type 1
Rel = List Ins → Regs → List Ins → Regs → Type 0

-- where a jump comes to in P and in Q, with the same registers: nowhere in both, or to related cells
abbrev pub Both : Rel → Regs → Option (List Ins) → Option (List Ins) → Type 0
Both ρ r None None = Unit {0}
Both ρ r None (Some q) = ⊥
Both ρ r (Some p) None = ⊥
Both ρ r (Some p) (Some q) = ρ p r q r

-- two states with one record: both about to run related cells, or both ended
abbrev pub Related : Rel → State → State → Type 0
Related ρ (live i p r h) (live j q s g) = ρ (i ∷ p) r (j ∷ q) s × (h ≡ g)
Related ρ (live i p r h) (dead g) = ⊥
Related ρ (dead h) (live j q s g) = ⊥
Related ρ (dead h) (dead g) = h ≡ g

-- how many cells lie ahead
abbrev size : State → ℕ
size (live i p r h) = suc (length p)
size (dead h) = 0

-- what a step of P, at i before p, is to Q at q:
--   stays: P goes on to p', which is shorter, and Q stays
--   same: Q has the same cell and the same registers
--   alike: both go on, to the same registers
pub data Advance (P : List Ins) (ρ : Rel) (i : Ins) (p : List Ins) (r : Regs) (q : List Ins) (s : Regs) : Type 0 where
  stays : (p' : List Ins) (r' : Regs) → ((O : Outside) (h : List Entry) → step P O (live i p r h) ≡ fall p' r' h) → ρ p' r' q s → length p' ≤ length p → Advance P ρ i p r q s
  same : (q' : List Ins) → q ≡ i ∷ q' → r ≡ s → ((r' : Regs) → After (exec i r) r r' → ρ p r' q' r') → Advance P ρ i p r q s
  alike : (j : Ins) (q' : List Ins) (r' : Regs) → q ≡ j ∷ q' → exec i r ≡ on r' → exec j s ≡ on r' → ρ p r' q' r' → Advance P ρ i p r q s

-- what a relation has to keep: where P has no cell left, Q has none either, and the same registers; where P has one, so has Q; jumps; steps
pub record Simulation (P Q : List Ins) (ρ : Rel) : Type 0 where
  pub at_end_lem : (r : Regs) (q : List Ins) (s : Regs) → ρ [] r q s → (q ≡ []) × (r ≡ s)
  pub at_cell : (i : Ins) (p : List Ins) (r s : Regs) → ρ (i ∷ p) r [] s → ⊥
  pub at_jump : (l : ℕ) (r : Regs) → Both ρ r (seek l P) (seek l Q)
  pub at_step : (i : Ins) (p : List Ins) (r : Regs) (q : List Ins) (s : Regs) → ρ (i ∷ p) r q s → Advance P ρ i p r q s

module _ (P Q : List Ins) (ρ : Rel) (σ : Simulation P Q ρ) (O : Outside) where
  fall_related : (p : List Ins) (r : Regs) (q : List Ins) (s : Regs) (h : List Entry) → ρ p r q s → Related ρ (fall p r h) (fall q s h)
  fall_related [] r q s h x = rw (σ.at_end_lem r q s x).0 (rw (σ.at_end_lem r q s x).1)
  fall_related (i ∷ p) r [] s h x = absurd (σ.at_cell i p r s x)
  fall_related (i ∷ p) r (j ∷ q) s h x = (x, refl)

  goto_related : (a b : Option (List Ins)) (r : Regs) (h : List Entry) → Both ρ r a b → Related ρ (goto a r h) (goto b r h)
  goto_related None None r h x = refl
  goto_related None (Some q) r h x = absurd x
  goto_related (Some p) None r h x = absurd x
  goto_related (Some p) (Some q) r h x = fall_related p r q r h x

  reply_related : (a : Answer) (d : Option ℕ) (p q : List Ins) (r : Regs) (h : List Entry) → ((v : Value) → ρ p (put d v r) q (put d v r)) → Related ρ (reply a d p r h) (reply a d q r h)
  reply_related stop d p q r h x = refl
  reply_related (go v) d p q r h x = fall_related p (put d v r) q (put d v r) h (x v)

  move_related : (m : Move) (p q : List Ins) (r : Regs) (h : List Entry) → ((r' : Regs) → After m r r' → ρ p r' q r') → Related ρ (move P O p r h m) (move Q O q r h m)
  move_related (on r₁) p q r h x = fall_related p r₁ q r₁ h (x r₁ refl)
  move_related (to l) p q r h x = goto_related (seek l P) (seek l Q) r h (σ.at_jump l r)
  move_related (halt c) p q r h x = refl
  move_related (ask c d) p q r h x = reply_related (O (h ++ (did c (shown r) ∷ []))) d p q r (h ++ (did c (shown r) ∷ [])) (λ v. x (put d v r) (v, refl))

  size-fall : (p : List Ins) (r : Regs) (h : List Entry) → size (fall p r h) ≤ length p
  size-fall [] r h = omega arith
  size-fall (i ∷ p) r h = omega arith

  -- both step, or P alone, and then less lies ahead of it
  abbrev Progress : State → State → Type 0
  Progress s t = Related ρ (step P O s) (step Q O t) ⊎ (Related ρ (step P O s) t × (size (step P O s) < size s))

  progress_live : (i : Ins) (p : List Ins) (r : Regs) (j : Ins) (q : List Ins) (s : Regs) (h : List Entry) → Advance P ρ i p r (j ∷ q) s → Progress (live i p r h) (live j q s h)
  progress_live i p r j q s h (stays p' r' e x l) = inr (rw (e O h) (fall_related p' r' (j ∷ q) s h x), omega (arith, size-fall p' r' h, ap size (e O h)))
  progress_live i p r j q s h (same q' e f x) = inl (rw (head-eq_of_cons-eq e, tail-eq_of_cons-eq e, ← f) (move_related (exec i r) p q' r h x))
  progress_live i p r j q s h (alike j' q' r' e f g x) = inl (rw (head-eq_of_cons-eq e, tail-eq_of_cons-eq e, f, g) (fall_related p r' q' r' h x))

  progress : (s t : State) → Related ρ s t → Progress s t
  progress (live i p r h) (live j q s g) x = rw (← x.1) (progress_live i p r j q s h (σ.at_step i p r (j ∷ q) s x.0))
  progress (live i p r h) (dead g) x = absurd x
  progress (dead h) (live j q s g) x = absurd x
  progress (dead h) (dead g) x = inl x

  record_related : (s t : State) → Related ρ s t → record_of t ≡ record_of s
  record_related (live i p r h) (live j q s g) x = sym x.1
  record_related (live i p r h) (dead g) x = absurd x
  record_related (dead h) (live j q s g) x = absurd x
  record_related (dead h) (dead g) x = sym x

  module _ (r : Regs) (start : ρ P r Q r) where
    -- after n steps of P, Q stands beside it after some m ≤ n
    beside : (n : ℕ) → (m : ℕ) × (m ≤ n) × Related ρ (run P O r n) (run Q O r m)
    beside zero = (0, omega arith, fall_related P r Q r [] start)
    beside (suc n) =
        let (m, l, x) = beside n in
        go m l (progress (run P O r n) (run Q O r m) x)
      where
        go : (m : ℕ) → m ≤ n → Progress (run P O r n) (run Q O r m) → (k : ℕ) × (k ≤ suc n) × Related ρ (run P O r (suc n)) (run Q O r k)
        go m l (inl y) = (suc m, omega arith, y)
        go m l (inr y) = (m, omega arith, y.0)

    -- from where they stand beside each other, P comes to stand beside the next step of Q
    catch_up : (k n m : ℕ) → size (run P O r n) ≤ k → Related ρ (run P O r n) (run Q O r m) → (n' : ℕ) × Related ρ (run P O r n') (run Q O r (suc m))
    catch_up zero n m l x = go (progress (run P O r n) (run Q O r m) x)
      where
        go : Progress (run P O r n) (run Q O r m) → (n' : ℕ) × Related ρ (run P O r n') (run Q O r (suc m))
        go (inl y) = (suc n, y)
        go (inr y) = absurd (omega (arith, y.1))
    catch_up (suc k) n m l x = go (λ l' y. catch_up k (suc n) m l' y) (progress (run P O r n) (run Q O r m) x)
      where
        go : (size (run P O r (suc n)) ≤ k → Related ρ (run P O r (suc n)) (run Q O r m) → (n' : ℕ) × Related ρ (run P O r n') (run Q O r (suc m)))
            → Progress (run P O r n) (run Q O r m) → (n' : ℕ) × Related ρ (run P O r n') (run Q O r (suc m))
        go again (inl y) = (suc n, y)
        go again (inr y) = again (omega (arith, y.1)) y.0

    -- after m steps of Q, P comes to stand beside it after some n
    met : (m : ℕ) → (n : ℕ) × Related ρ (run P O r n) (run Q O r m)
    met zero = (0, fall_related P r Q r [] start)
    met (suc m) =
        let (n, x) = met m in
        catch_up (size (run P O r n)) n m (omega arith) x

    simulation_forth : (n : ℕ) → (m : ℕ) × (m ≤ n) × (after Q O r m ≡ after P O r n)
    simulation_forth n =
        let (m, l, x) = beside n in
        (m, l, record_related (run P O r n) (run Q O r m) x)

    simulation_back : (m : ℕ) → (n : ℕ) × (after Q O r m ≡ after P O r n)
    simulation_back m =
        let (n, x) = met m in
        (n, record_related (run P O r n) (run Q O r m) x)

-- all three claims, for every outside and all registers
pub same_by : (P Q : List Ins) (ρ : Rel) → Simulation P Q ρ → ((r : Regs) → ρ P r Q r) → SameRecords P Q
same_by P Q ρ σ start = same_of P Q (λ O r n. simulation_forth P Q ρ σ O r (start r) n) (λ O r m. simulation_back P Q ρ σ O r (start r) m)
