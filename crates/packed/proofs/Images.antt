-- The cells of a good image are right one after another, and right cells are a good image's.
use mathlib.Core.Path.{◌≡◌, refl, ap, sym, ◌∙◌}
use mathlib.Core.List.{List, [], ◌∷◌, ◌++◌, append_assoc, append-nil}
use Prim.Native.Nat.{ℕ, zero, suc, ◌+◌, ◌*◌, ◌≤◌}
use native.Mathlib.Nat.{le_refl, le_of_suc-le-suc, not-suc-le-zero}
use native.Mathlib.Omega.{arith}
use borrow.Author.Tests.{le-leb}
use lib.ListN.{length, take, drop, replicate, length-drop}
use lib.Seq.{length-take-le, drop-drop}
use Rattle.cells.specs.Cells.{Cell, Full, cells, flat}
use Rattle.cells.specs.Check.{code_count, event_count, head_check, max_image}
use Rattle.cells.specs.Functions.{Function, function_at, behind as past, functions, cells_of, cells_of_all, there}
use Rattle.cells.specs.Lists.{All}
use Rattle.cells.specs.WellFormed.{WellFormed, InstructionGood, EventGood}
use Rattle.cells.proofs.Checks.{head_fits, head_room}
use Rattle.cells.proofs.Functions.{functions_nil, functions_cons, cells_of_functions}
use Rattle.cells.proofs.Lists.{all_append, all_both, all_each, all_parts}
use Rattle.image.specs.Image.{GoodImage}
use Rattle.image.proofs.Again.{image_formed, formed_image}
use Rattle.packed.specs.Form.{Role, Code, Event, due_behind}
use Rattle.packed.proofs.Walk.{Right, Fine}
use Rattle.std.specs.Prelude.{Ok}

-- ---- a run of cells of one role

pub run_fine : (r : Role) (due : List Role) (cs rest : List Cell) → All (Right r) cs → Fine due rest → Fine (replicate (length cs) r ++ due) (cs ++ rest)
run_fine r due [] rest a f = f
run_fine r due (c ∷ cs) rest a f = (a.0, run_fine r due cs rest a.1 f)

pub record Run (r : Role) (n : ℕ) (due : List Role) (cs : List Cell) : Type 0 where
  pub enough : n ≤ length cs
  pub right : All (Right r) (take n cs)
  pub then : Fine due (drop n cs)

pub fine_run : (r : Role) (n : ℕ) (due : List Role) (cs : List Cell) → Fine (replicate n r ++ due) cs → Run r n due cs
fine_run r zero due cs f = record { enough = omega arith; right = tt; then = f }
fine_run r (suc n) due [] f = let z : ◌≡◌ {A = ℕ} 0 1 = cc in absurd (omega arith)
fine_run r (suc n) due (c ∷ cs) f =
    let t = fine_run r n due cs f.1 in
    record { enough = omega (arith, t.enough); right = (f.0, t.right); then = t.then }

-- ---- a good image's cells are fine

-- a head is right with room for just what it promises
head_own : (p d after : ℕ) (h : Cell) → head_check p d after h ≡ Ok tt → head_check p d (code_count h + event_count h) h ≡ Ok tt
head_own p d after h g =
    let n : ℕ = code_count h + event_count h in
    let fits = (head_fits p d after h g).2 in
    sym (head_room p d h after n (le-leb n after fits ∙ sym (le-leb n n (le_refl n)))) ∙ g

function_fine : (f : Function) (rest : List Cell) → WellFormed f → Fine [] rest → Fine [] (cells_of f ++ rest)
function_fine f rest w t =
    let full = all_parts (λ d. length d ≡ 16) f.code f.events w.full.1 in
    let code : All (Right Code) f.code = (all_both (λ c. length c ≡ 16) InstructionGood f.code).1 (full.0, w.code) in
    let events : All (Right Event) f.events = (all_both (λ c. length c ≡ 16) EventGood f.events).1 (full.1, w.events) in
    let e : Fine (replicate (length f.events) Event) (f.events ++ rest) = rw append-nil at (run_fine Event [] f.events rest events t) in
    let c = run_fine Code (replicate (length f.events) Event) f.code (f.events ++ rest) code e in
    ((w.full.0, λ p d. head_own p d (there f) f.head (w.head p d)), rw (append_assoc f.code f.events rest, ← w.counted.0, ← w.counted.1) c)

all_fine : (fs : List Function) → All WellFormed fs → Fine [] (cells_of_all fs)
all_fine [] a = refl
all_fine (f ∷ fs) a = function_fine f (cells_of_all fs) a.0 (all_fine fs a.1)

pub image_fine : (s : List ℕ) → GoodImage s → Fine [] (cells s)
image_fine s g = rw (cells_of_functions (cells s)) at (all_fine (functions (cells s)) (image_formed s g))

-- ---- fine cells are a good image's

fine_function : (h : Cell) (cs : List Cell) → Fine [] (h ∷ cs) → WellFormed (function_at h cs) × Fine [] (past h cs)
fine_function h cs f =
    let n = code_count h in
    let m = event_count h in
    let a = fine_run Code n (replicate m Event) cs f.1 in
    let b = fine_run Event m [] (drop n cs) (rw (append-nil (replicate m Event)) a.then) in
    let code : length (take n cs) ≡ n = length-take-le n cs a.enough in
    let events : length (take m (drop n cs)) ≡ m = length-take-le m (drop n cs) b.enough in
    let fits : n + m ≡ there (function_at h cs) = omega arith in (
      record {
        head = λ p d. ap (λ (k : ℕ). head_check p d k h) (sym fits) ∙ f.0.1 p d;
        code = all_each (Right Code) InstructionGood (λ c g. g.1) (take n cs) a.right;
        events = all_each (Right Event) EventGood (λ c g. g.1) (take m (drop n cs)) b.right;
        counted = (code, events);
        full = (f.0.0, all_append (λ c. length c ≡ 16) (take n cs) (take m (drop n cs)) (all_each (Right Code) (λ c. length c ≡ 16) (λ c g. g.0) (take n cs) a.right) (all_each (Right Event) (λ c. length c ≡ 16) (λ c g. g.0) (take m (drop n cs)) b.right));
      },
      rw (drop-drop m n cs) at b.then,
    )

fine_functions : (k : ℕ) (cs : List Cell) → length cs ≤ k → Fine [] cs → All WellFormed (functions cs)
fine_functions zero [] l f = rw functions_nil tt
fine_functions zero (h ∷ cs) l f = absurd (not-suc-le-zero l)
fine_functions (suc k) [] l f = rw functions_nil tt
fine_functions (suc k) (h ∷ cs) l f =
    let (w, t) = fine_function h cs f in
    let l2 : length (past h cs) ≤ k = omega (arith, length-drop (code_count h + event_count h) cs, le_of_suc-le-suc l) in
    rw (functions_cons h cs) (w, fine_functions k (past h cs) l2 t)

pub fine_full : (due : List Role) (cs : List Cell) → Fine due cs → Full cs
fine_full due [] f = tt
fine_full due (c ∷ cs) f = (f.0.0, fine_full (due_behind due c) cs f.1)

pub fine_image : (cs : List Cell) → Fine [] cs → length cs ≤ 4096 → GoodImage (flat cs)
fine_image cs f l =
    let e = cells_of_functions cs in
    let n : 16 * length (cells_of_all (functions cs)) ≤ max_image = omega (arith, ap length e) in
    rw e at (formed_image (functions cs) (fine_functions (length cs) cs (le_refl (length cs)) f) n)
