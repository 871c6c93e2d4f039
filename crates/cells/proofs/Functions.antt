-- Laws of an image's functions: the two equations that say all of `functions`, with no count of steps in them; the functions of two
-- images joined; and functions as cells.
use mathlib.Core.Path.{◌≡◌, refl, ap, ap₂, sym, ◌∙◌}
use mathlib.Core.List.{List, [], ◌∷◌, ◌++◌, append_assoc}
use Prim.Native.Nat.{ℕ, zero, suc, ◌+◌, ◌≤◌}
use native.Mathlib.Nat.{le_refl, not-suc-le-zero, le_of_suc-le-suc}
use native.Mathlib.Omega.{arith}
use lib.ListN.{length, drop, length-take, length-drop, length-append, length-set, take-append-drop}
use lib.Seq.{take-append-le, drop-append-le, take_at, drop_at, take-add}
use Rattle.cells.specs.Cells.{Cell}
use Rattle.cells.specs.Lists.{All}
use Rattle.cells.specs.Check.{code_count, event_count}
use Rattle.cells.specs.Functions.{Function, Counted, function_at, behind, split, functions, new_head, cells_of, cells_of_all}

behind_le : (h : Cell) (cs : List Cell) {n : ℕ} → length cs ≤ n → length (behind h cs) ≤ n
behind_le h cs l = omega (arith, length-drop (code_count h + event_count h) cs)

split_enough : (n m : ℕ) (cs : List Cell) → length cs ≤ n → length cs ≤ m → split n cs ≡ split m cs
split_enough zero zero cs a b = refl
split_enough zero (suc m) [] a b = refl
split_enough zero (suc m) (h ∷ cs) a b = absurd (not-suc-le-zero a)
split_enough (suc n) zero [] a b = refl
split_enough (suc n) zero (h ∷ cs) a b = absurd (not-suc-le-zero b)
split_enough (suc n) (suc m) [] a b = refl
split_enough (suc n) (suc m) (h ∷ cs) a b =
    ap (λ (fs : List Function). function_at h cs ∷ fs)
    (split_enough n m (behind h cs) (behind_le h cs (le_of_suc-le-suc a)) (behind_le h cs (le_of_suc-le-suc b)))

pub functions_nil : functions [] ≡ []
unfolding functions
functions_nil = refl

pub functions_cons : (h : Cell) (cs : List Cell) → functions (h ∷ cs) ≡ function_at h cs ∷ functions (behind h cs)
unfolding functions
functions_cons h cs =
    ap (λ (fs : List Function). function_at h cs ∷ fs) (split_enough (length cs) (length (behind h cs)) (behind h cs) (behind_le h cs (le_refl (length cs))) (le_refl (length (behind h cs))))

-- ---- two images joined: the functions of one that ends with a whole function stand before those of the other

counted_room : (h : Cell) (cs : List Cell) → Counted (function_at h cs) → code_count h + event_count h ≤ length cs
counted_room h cs c =
    omega (arith, c.0, c.1, length-take (code_count h) cs, length-take (event_count h) (drop (code_count h) cs), length-drop (code_count h) cs)

module _ (h : Cell) (cs ds : List Cell) (room : code_count h + event_count h ≤ length cs) where
  same-function : function_at h (cs ++ ds) ≡ function_at h cs
  same-function =
      let a : code_count h ≤ length cs = omega arith in
      let b : event_count h ≤ length (drop (code_count h) cs) = omega (arith, length-drop (code_count h) cs) in
      rw (take-append-le (code_count h) cs ds a, drop-append-le (code_count h) cs ds a, take-append-le (event_count h) (drop (code_count h) cs) ds b)

  same-behind : behind h (cs ++ ds) ≡ behind h cs ++ ds
  same-behind = drop-append-le (code_count h + event_count h) cs ds room

joined : (n : ℕ) (cs ds : List Cell) → length cs ≤ n → All Counted (functions cs) → functions (cs ++ ds) ≡ functions cs ++ functions ds
joined zero [] ds l g = rw functions_nil
joined zero (h ∷ cs) ds l g = absurd (not-suc-le-zero l)
joined (suc n) [] ds l g = rw functions_nil
joined (suc n) (h ∷ cs) ds l g =
    let q : All Counted (function_at h cs ∷ functions (behind h cs)) = rw (functions_cons h cs) at g in
    let room = counted_room h cs q.0 in
    let l2 : length (behind h cs) ≤ n = omega (arith, length-drop (code_count h + event_count h) cs, le_of_suc-le-suc l) in
    functions_cons h (cs ++ ds)
    ∙ ap (λ (x : Function). x ∷ functions (behind h (cs ++ ds))) (same-function h cs ds room)
    ∙ ap (λ (t : List Function). function_at h cs ∷ t) (ap functions (same-behind h cs ds room) ∙ joined n (behind h cs) ds l2 q.1)
    ∙ sym (ap (λ (t : List Function). t ++ functions ds) (functions_cons h cs))

pub functions-append : (cs ds : List Cell) → All Counted (functions cs) → functions (cs ++ ds) ≡ functions cs ++ functions ds
functions-append cs ds g = joined (length cs) cs ds (le_refl (length cs)) g

-- ---- functions as cells, and back

function-cells : (h : Cell) (cs : List Cell) → cells_of (function_at h cs) ++ behind h cs ≡ h ∷ cs
function-cells h cs =
    let k = code_count h in
    let e = event_count h in
    ap (◌∷◌ h) (ap (λ (t : List Cell). t ++ drop (k + e) cs) (sym (take-add k e cs)) ∙ take-append-drop (k + e) cs)

split-cells : (n : ℕ) (cs : List Cell) → length cs ≤ n → cells_of_all (functions cs) ≡ cs
split-cells zero [] l = rw functions_nil
split-cells zero (h ∷ cs) l = absurd (not-suc-le-zero l)
split-cells (suc n) [] l = rw functions_nil
split-cells (suc n) (h ∷ cs) l =
    ap cells_of_all (functions_cons h cs)
    ∙ ap (λ (t : List Cell). cells_of (function_at h cs) ++ t) (split-cells n (behind h cs) (behind_le h cs (le_of_suc-le-suc l)))
    ∙ function-cells h cs

pub cells_of_functions : (cs : List Cell) → cells_of_all (functions cs) ≡ cs
cells_of_functions cs = split-cells (length cs) cs (le_refl (length cs))

module _ (f : Function) (ds : List Cell) (c : Counted f) where
  whole-function : function_at f.head ((f.code ++ f.events) ++ ds) ≡ f
  whole-function =
      rw (append_assoc f.code f.events ds, take_at f.code (f.events ++ ds) (code_count f.head) c.0, drop_at f.code (f.events ++ ds) (code_count f.head) c.0, take_at f.events ds (event_count f.head) c.1)

  whole-behind : behind f.head ((f.code ++ f.events) ++ ds) ≡ ds
  whole-behind =
      drop_at (f.code ++ f.events) ds (code_count f.head + event_count f.head) (omega (arith, length-append f.code f.events, c.0, c.1))

pub functions_of_cells : (fs : List Function) → All Counted fs → functions (cells_of_all fs) ≡ fs
functions_of_cells [] c = functions_nil
functions_of_cells (f ∷ fs) c =
    functions_cons f.head ((f.code ++ f.events) ++ cells_of_all fs)
    ∙ ap₂ (λ (g : Function) (t : List Cell). g ∷ functions t) (whole-function f (cells_of_all fs) c.0) (whole-behind f (cells_of_all fs) c.0)
    ∙ ap (◌∷◌ f) (functions_of_cells fs c.1)

-- a head with other counts has these, and as many bytes as before
pub new_head-length : (h : Cell) (n m : ℕ) → length (new_head h n m) ≡ length h
new_head-length h n m = simp length-set

pub new_head-counts : (h : Cell) (n m : ℕ) → 7 ≤ length h → (code_count (new_head h n m) ≡ n) × (event_count (new_head h n m) ≡ m)
new_head-counts [] n m l = absurd (omega arith)
new_head-counts (a ∷ []) n m l = absurd (omega arith)
new_head-counts (a ∷ b ∷ []) n m l = absurd (omega arith)
new_head-counts (a ∷ b ∷ c ∷ []) n m l = absurd (omega arith)
new_head-counts (a ∷ b ∷ c ∷ d ∷ []) n m l = absurd (omega arith)
new_head-counts (a ∷ b ∷ c ∷ d ∷ e ∷ []) n m l = absurd (omega arith)
new_head-counts (a ∷ b ∷ c ∷ d ∷ e ∷ f ∷ []) n m l = absurd (omega arith)
new_head-counts (a ∷ b ∷ c ∷ d ∷ e ∷ f ∷ g ∷ t) n m l = (omega arith, omega arith)
