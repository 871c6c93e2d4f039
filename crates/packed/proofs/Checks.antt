-- A packed form checked function by function: the head, the run of its instructions and the run of its events.
use mathlib.Core.Path.{◌≡◌, refl, ap, ap₂, sym, ◌∙◌}
use mathlib.Core.List.{List, [], ◌∷◌, ◌++◌, append-nil}
use mathlib.Core.Bool.{true, false}
use Prim.Native.Nat.{ℕ, zero, suc, ◌+◌, ◌-◌, ◌*◌, ◌≤◌, ◌<◌}
use native.Mathlib.Omega.{arith}
use lib.ListN.{length, drop, replicate, length-append, length-drop}
use lib.Seq.{drop-drop}
use Rattle.cells.specs.Check.{code_count, event_count}
use Rattle.cells.specs.declared.refusal.Refusal.TheVariants.{Length}
use Rattle.packed.specs.Form.{Role, Head, Code, Event, size}
use Rattle.packed.specs.Reading.{Result, bytes, refused, ends, and_then, finished, next_cell, read_cell, next_position, unpack_from, unpacked}
use Rattle.packed.specs.Steps.{counted, taken, taken_as, run_of, sizes_of, taken_run}
use Rattle.packed.proofs.Widths.{cell-length}
use Rattle.packed.proofs.Walk.{cell_read, then_bytes, then_nil, then_then, step_done, step_full, step-more}
use Rattle.packed.proofs.Turns.{Went}
use Rattle.std.specs.Prelude.{Ok, Err}
use Rattle.packed.specs.Answer.{Packing}
use Rattle.packed.specs.declared.PackingError.TheVariants.{Refused}

-- ---- promised cells of one role, before others

then_assoc : (t u v : Result) → and_then t (and_then u v) ≡ and_then (and_then t u) v
then_assoc (bytes a) (bytes b) v = then_then a b v
then_assoc (bytes a) (refused x) v = refl
then_assoc (bytes a) (ends p d) v = refl
then_assoc (refused x) u v = refl
then_assoc (ends p d) u v = refl

run_from : (r : Role) (n room p d : ℕ) (rest : List Role) (s : List ℕ)
    → unpack_from room (next_position p (replicate n r ++ rest)) d (replicate n r ++ rest) s
    ≡ and_then (run_of r n room p d s) (unpack_from (room - n) (next_position p rest) (d + n) rest (drop (sizes_of r n s) s))
run_from r zero room p d rest s =
    let e : room ≡ room - 0 = omega arith in
    let f : d ≡ d + 0 = omega arith in
    sym (then_nil (unpack_from room (next_position p rest) d rest s)) ∙ ap₂ (λ (j c : ℕ). and_then (bytes []) (unpack_from j (next_position p rest) c rest s)) e f
run_from r (suc n) zero p d rest s = step_full p d (r ∷ (replicate n r ++ rest)) s refl
run_from r (suc n) (suc room) p d rest s =
    let t = drop (size r s) s in
    let from : ℕ → ℕ → List ℕ → Result = λ (j c : ℕ) (x : List ℕ). unpack_from j (next_position p rest) c rest x in
    let e : room - n ≡ suc room - suc n = omega arith in
    let f : d + 1 + n ≡ d + suc n = omega arith in
    step-more p d (r ∷ (replicate n r ++ rest)) s room refl
    ∙ ap (and_then (read_cell r p d s)) (run_from r n room p (d + 1) rest t)
    ∙ then_assoc (read_cell r p d s) (run_of r n room p (d + 1) t) (from (room - n) (d + 1 + n) (drop (sizes_of r n t) t))
    ∙ ap₂ (λ (j c : ℕ). and_then (and_then (read_cell r p d s) (run_of r n room p (d + 1) t)) (from j c (drop (sizes_of r n t) t))) e f
    ∙ ap (λ (x : List ℕ). and_then (and_then (read_cell r p d s) (run_of r n room p (d + 1) t)) (from (suc room - suc n) (d + suc n) x)) (drop-drop (sizes_of r n t) (size r s) s)

-- what stands behind the head, and behind the instructions
abbrev after_head : List ℕ → List ℕ
after_head t = drop (size Head t) t

abbrev after_code : List ℕ → List ℕ
after_code t = drop (sizes_of Code (code_count t) (after_head t)) (after_head t)

abbrev after_events : List ℕ → List ℕ
after_events t = drop (sizes_of Event (event_count t) (after_code t)) (after_code t)

module _ (room p d : ℕ) (t : List ℕ) where
  abbrev n₀ : ℕ
  n₀ = code_count t

  abbrev m₀ : ℕ
  m₀ = event_count t

  function_from_lem : finished [] t ≡ false → unpack_from (suc room) p d [] t
      ≡ and_then (read_cell Head p d t) (and_then (run_of Code n₀ room p (d + 1) (after_head t)) (and_then (run_of Event m₀ (room - n₀) p (d + 1 + n₀) (after_code t)) (unpack_from (room - n₀ - m₀) (p + 1) (d + 1 + n₀ + m₀) [] (after_events t))))
  function_from_lem f =
      step-more p d [] t room f
      ∙ ap (and_then (read_cell Head p d t)) (run_from Code n₀ room p (d + 1) (replicate m₀ Event) (after_head t)
      ∙ ap (and_then (run_of Code n₀ room p (d + 1) (after_head t)))
      (ap (λ (q : List Role). unpack_from (room - n₀) (next_position p q) (d + 1 + n₀) q (after_code t)) (sym (append-nil (replicate m₀ Event)))
      ∙ run_from Event m₀ (room - n₀) p (d + 1 + n₀) [] (after_code t)))

-- ---- a run that is good

pub record Ran (r : Role) (n p d : ℕ) (s : List ℕ) (k : ℕ) : Type 0 where
  pub b : List ℕ
  pub is : run_of r n (4096 - d) p d s ≡ bytes b
  pub takes : k ≡ sizes_of r n s
  pub room : n ≤ 4096 - d
  pub long : length b ≡ 16 * n
  pub fits : sizes_of r n s ≤ length s

none_ran : {b c : List ℕ} → bytes b ≡ bytes c → b ≡ c
none_ran e = cc

run-good : (r : Role) (n room p d : ℕ) (s b : List ℕ) → run_of r n room p d s ≡ bytes b → (n ≤ room) × (length b ≡ 16 * n) × (sizes_of r n s ≤ length s)
run-good r zero room p d s b e = (omega arith, ap length (sym (none_ran e)), omega arith)
run-good r (suc n) zero p d s b e = let z : ◌≡◌ {A = ℕ} 0 1 = cc in absurd (omega arith)
run-good r (suc n) (suc room) p d s b e =
    let t = then_bytes (read_cell r p d s) (run_of r n room p (d + 1) (drop (size r s) s)) b e in
    let c = cell_read r p d s t.first t.first_is in
    let g = run-good r n room p (d + 1) (drop (size r s) s) t.rest t.rest_is in (
      omega (arith, g.0),
      omega (arith, ap length (sym t.is), length-append t.first t.rest, ap length c.is, cell-length r s c.fits, g.1),
      omega (arith, c.fits, g.2, length-drop (size r s) s),
    )

ran_by : (r : Role) (n p d : ℕ) (s : List ℕ) (k : ℕ) (t : Result) → run_of r n (4096 - d) p d s ≡ t → Ok k ≡ taken t (sizes_of r n s) → Ran r n p d s k
ran_by r n p d s k (bytes b) i e =
    let g = run-good r n (4096 - d) p d s b i in
    record { b = b; is = i; takes = cc; room = g.0; long = g.1; fits = g.2 }
ran_by r n p d s k (refused x) i e = let z : ◌≡◌ {A = ℕ} 0 1 = cc in absurd (omega arith)
ran_by r n p d s k (ends q c) i e = let z : ◌≡◌ {A = ℕ} 0 1 = cc in absurd (omega arith)

pub ran : (r : Role) (n p d : ℕ) (s : List ℕ) (k : ℕ) → Ok k ≡ taken_run r n p d s → Ran r n p d s k
ran r n p d s k e = ran_by r n p d s k (run_of r n (4096 - d) p d s) refl e

-- ---- the whole, where this has been read and that comes next

abbrev Left : List ℕ → List ℕ → Result → Type 0
Left s b t = unpacked s ≡ and_then (bytes b) t

left_fault : (s b : List ℕ) (t u : Result) (k : ℕ) (x : Packing) → Left s b (and_then t u) → x ≡ taken t k → ((n : ℕ) → x ≡ Ok n → ⊥) → x ≡ counted (unpacked s)
left_fault s b (bytes a) u k x l e h = absurd (h k e)
left_fault s b (refused y) u k x l e h = e ∙ sym (ap counted l)
left_fault s b (ends p d) u k x l e h = e ∙ sym (ap counted l)

left_on : (s b c : List ℕ) (t u : Result) → Left s b (and_then t u) → t ≡ bytes c → Left s (b ++ c) u
left_on s b c t u l e = l ∙ ap (λ (x : Result). and_then (bytes b) (and_then x u)) e ∙ then_then b c u

pub record Going (s : List ℕ) (position at cell : ℕ) : Type 0 where
  pub done : List ℕ
  pub says : Left s done (unpack_from (4096 - cell) position cell [] (drop at s))
  pub long : length done ≡ 16 * cell
  pub within : at ≤ length s
  pub place : position ≤ cell
  pub few : cell ≤ 4096

pub going_none : (s : List ℕ) → Going s 0 0 0
unfolding unpacked
going_none s = record { done = []; says = sym (then_nil (unpack_from 4096 0 0 [] s)); long = refl; within = omega arith; place = omega arith; few = omega arith }

none_left : (t : List ℕ) → length t ≡ 0 → finished [] t ≡ true
none_left [] e = refl
none_left (b ∷ t) e = absurd (omega arith)

some_left : (t : List ℕ) → 0 < length t → finished [] t ≡ false
some_left [] h = absurd (omega arith)
some_left (b ∷ t) h = refl

module _ (s : List ℕ) (p at d : ℕ) (g : Going s p at d) where
  abbrev left : List ℕ
  left = drop at s

  pub going_end : length s ≤ at → Ok (16 * d) ≡ counted (unpacked s)
  going_end h =
      let f : finished [] left ≡ true = none_left left (omega (arith, length-drop at s)) in
      sym (ap counted (g.says ∙ ap (and_then (bytes g.done)) (step_done p d [] left (4096 - d) f)) ∙ ap (λ (b : List ℕ). Ok (length b)) (append-nil g.done) ∙ ap Ok g.long)

  module _ (h : at < length s) where
    more : finished [] left ≡ false
    more = some_left left (omega (arith, length-drop at s))

    pub going_full : d ≡ 4096 → Err (Refused Length) ≡ counted (unpacked s)
    going_full e =
        let z : 4096 - d ≡ 0 = omega arith in
        sym (ap counted (g.says ∙ ap (λ (j : ℕ). and_then (bytes g.done) (unpack_from j p d [] left)) z ∙ ap (and_then (bytes g.done)) (step_full p d [] left more)))

    module _ (l : d < 4096) where
      abbrev room₁ : ℕ
      room₁ = 4096 - (d + 1)

      abbrev n₁ : ℕ
      n₁ = code_count left

      abbrev m₁ : ℕ
      m₁ = event_count left

      abbrev behind_events : Result
      behind_events = unpack_from (room₁ - n₁ - m₁) (p + 1) (d + 1 + n₁ + m₁) [] (after_events left)

      abbrev behind_code : Result
      behind_code = and_then (run_of Event m₁ (room₁ - n₁) p (d + 1 + n₁) (after_code left)) behind_events

      abbrev behind_head : Result
      behind_head = and_then (run_of Code n₁ room₁ p (d + 1) (after_head left)) behind_code

      at_head : Left s g.done (and_then (read_cell Head p d left) behind_head)
      at_head =
          let z : 4096 - d ≡ suc room₁ = omega arith in
          g.says ∙ ap (λ (j : ℕ). and_then (bytes g.done) (unpack_from j p d [] left)) z ∙ ap (and_then (bytes g.done)) (function_from_lem room₁ p d left more)

      pub head_fault : (x : Packing) → x ≡ taken_as Head p d left → ((n : ℕ) → x ≡ Ok n → ⊥) → x ≡ counted (unpacked s)
      head_fault x e f = left_fault s g.done (read_cell Head p d left) behind_head (size Head left) x at_head e f

      module _ (k : ℕ) (w : Went Head p d left k) where
        at_code : Left s (g.done ++ next_cell Head left) behind_head
        at_code = left_on s g.done (next_cell Head left) (read_cell Head p d left) behind_head at_head w.cell_is

        -- the bytes behind the head
        code_left : after_head left ≡ drop (at + k) s
        code_left = ap (λ (j : ℕ). drop j left) (sym w.is) ∙ drop-drop k at s

        pub behind-head : at + k ≤ length s
        behind-head = omega (arith, w.fits, length-drop at s, g.within)

        pub code_fault : (x : Packing) → x ≡ taken_run Code n₁ p (d + 1) (drop (at + k) s) → ((n : ℕ) → x ≡ Ok n → ⊥) → x ≡ counted (unpacked s)
        code_fault x e f =
            left_fault s (g.done ++ next_cell Head left) (run_of Code n₁ room₁ p (d + 1) (after_head left)) behind_code (sizes_of Code n₁ (after_head left)) x at_code
            (e ∙ ap (taken_run Code n₁ p (d + 1)) (sym code_left)) f

        module _ (k₂ : ℕ) (c : Ran Code n₁ p (d + 1) (drop (at + k) s) k₂) where
          at_events : Left s ((g.done ++ next_cell Head left) ++ c.b) behind_code
          at_events =
              left_on s (g.done ++ next_cell Head left) c.b (run_of Code n₁ room₁ p (d + 1) (after_head left)) behind_code at_code
              (ap (run_of Code n₁ room₁ p (d + 1)) code_left ∙ c.is)

          -- the bytes behind the instructions
          events_left : after_code left ≡ drop (at + k + k₂) s
          events_left =
              ap (λ (x : List ℕ). drop (sizes_of Code n₁ x) x) code_left ∙ ap (λ (j : ℕ). drop j (drop (at + k) s)) (sym c.takes) ∙ drop-drop k₂ (at + k) s

          room_is : room₁ - n₁ ≡ 4096 - (d + 1 + n₁)
          room_is = omega arith

          pub behind_code_lem : (at + k + k₂ ≤ length s) × (d + 1 + n₁ ≤ 4096)
          behind_code_lem = (omega (arith, behind-head, c.takes, c.fits, length-drop (at + k) s), omega (arith, c.room))

          events_run : run_of Event m₁ (room₁ - n₁) p (d + 1 + n₁) (after_code left) ≡ run_of Event m₁ (4096 - (d + 1 + n₁)) p (d + 1 + n₁) (drop (at + k + k₂) s)
          events_run = ap₂ (λ (j : ℕ) (x : List ℕ). run_of Event m₁ j p (d + 1 + n₁) x) room_is events_left

          pub event_fault : (x : Packing) → x ≡ taken_run Event m₁ p (d + 1 + n₁) (drop (at + k + k₂) s) → ((n : ℕ) → x ≡ Ok n → ⊥) → x ≡ counted (unpacked s)
          event_fault x e f =
              left_fault s ((g.done ++ next_cell Head left) ++ c.b) (run_of Event m₁ (room₁ - n₁) p (d + 1 + n₁) (after_code left)) behind_events
              (sizes_of Event m₁ (drop (at + k + k₂) s)) x at_events
              (e ∙ ap (λ (t : Result). taken t (sizes_of Event m₁ (drop (at + k + k₂) s))) (sym events_run)) f

          module _ (k₃ : ℕ) (v : Ran Event m₁ p (d + 1 + n₁) (drop (at + k + k₂) s) k₃) where
            rest-left : after_events left ≡ drop (at + k + k₂ + k₃) s
            rest-left =
                ap (λ (x : List ℕ). drop (sizes_of Event m₁ x) x) events_left ∙ ap (λ (j : ℕ). drop j (drop (at + k + k₂) s)) (sym v.takes)
                ∙ drop-drop k₃ (at + k + k₂) s

            pub going_function : Going s (p + 1) (at + k + k₂ + k₃) (d + 1 + n₁ + m₁)
            going_function =
                let b = ((g.done ++ next_cell Head left) ++ c.b) ++ v.b in
                let z : room₁ - n₁ - m₁ ≡ 4096 - (d + 1 + n₁ + m₁) = omega arith in
                record {
                  done = b;
                  says = left_on s ((g.done ++ next_cell Head left) ++ c.b) v.b (run_of Event m₁ (room₁ - n₁) p (d + 1 + n₁) (after_code left)) behind_events at_events (events_run ∙ v.is)
                      ∙ ap₂ (λ (j : ℕ) (x : List ℕ). and_then (bytes b) (unpack_from j (p + 1) (d + 1 + n₁ + m₁) [] x)) z rest-left;
                  long = omega (arith, length-append ((g.done ++ next_cell Head left) ++ c.b) v.b, length-append (g.done ++ next_cell Head left) c.b, length-append g.done (next_cell Head left), g.long, w.full, c.long, v.long);
                  within = omega (arith, behind_code_lem.0, v.takes, v.fits, length-drop (at + k + k₂) s);
                  place = omega (arith, g.place);
                  few = omega (arith, v.room, behind_code_lem.1);
                }
