-- What the two checks pass: an answer is good exactly if the image is.
use mathlib.Core.Path.{◌≡◌, refl, ap, sym, ◌∙◌}
use mathlib.Core.Logic.{◌↔◌}
use mathlib.Core.List.{List, [], ◌∷◌, ◌++◌}
use mathlib.Core.Bool.{true}
use Prim.Native.Nat.{ℕ, zero, suc, ◌+◌, ◌≤◌}
use native.Mathlib.Nat.{le_refl, not-suc-le-zero, le_of_suc-le-suc}
use native.Mathlib.Omega.{arith}
use lib.ListN.{length, drop, length-take, length-drop}
use Rattle.cells.specs.Answers.{or_else}
use Rattle.cells.specs.Bytes.{byte}
use Rattle.cells.specs.Cells.{Cell, cells}
use Rattle.cells.specs.Lists.{All}
use Rattle.cells.specs.Table.{event_row}
use Rattle.cells.specs.Check.{code_count, event_count, is_command, is_event_kind, row_ok, head_check}
use Rattle.cells.specs.Functions.{Function, Counted, there, function_at, behind, functions}
use Rattle.cells.specs.Refusals.{numbers_in}
use Rattle.cells.specs.View.{view, Registers}
use Rattle.cells.proofs.Answers.{or_left, or_right, or-both}
use Rattle.cells.proofs.Cells.{cells-append}
use Rattle.cells.proofs.Checks.{instruction_good, event_good, head-good, head_fits}
use Rattle.cells.proofs.Functions.{functions_nil, functions_cons, functions-append}
use Rattle.cells.proofs.Lists.{all_each}
use Rattle.cells.proofs.Views.{view-registers}
use Rattle.sites.specs.Validators.{validate_activation_sites, validate_write_sites, site_check}
use Rattle.cells.specs.declared.walk.Part.{Part}
use Rattle.cells.specs.declared.walk.Part.TheVariants.{Code, Events}
use Rattle.sites.proofs.SitesFit.{activation_anywhere, write_anywhere}
use Rattle.image.specs.Image.{cell_check, cells_answer, function_answer, functions_answer, image_answer, GoodFunction, GoodImage}
use Rattle.image.specs.SiteCheck.{sites_answer, site_answer, GoodSites, SitesPass}
use Rattle.image.specs.Operations.{ImageChecked, SiteChecked}
use Rattle.image.proofs.Steps.{image_even, accepted}
use Rattle.std.specs.Prelude.{Ok}
use Rattle.cells.specs.Checked.{Checked}

-- ---- the image check

abbrev CellOk : Part → Cell → Type 0
CellOk Code c = (is_command c ≡ true) × (row_ok (byte c 0) c ≡ true)
CellOk Events c = (is_event_kind c ≡ true) × (row_ok event_row c ≡ true)

cell-good : (q : Part) (p d : ℕ) (c : Cell) → (cell_check q p d c ≡ Ok tt) ↔ CellOk q c
cell-good Code p d c = instruction_good p d c
cell-good Events p d c = event_good p d c

cells-good : (q : Part) (p d : ℕ) (cs : List Cell) → (cells_answer q p d cs ≡ Ok tt) ↔ All (CellOk q) cs
cells-good q p d [] = ((λ e. tt), (λ t. refl))
cells-good q p d (c ∷ cs) =
    let rest = cells_answer q p (d + 1) cs in (
      (λ e. ((cell-good q p d c).0 (or_left (cell_check q p d c) rest e), (cells-good q p (d + 1) cs).0 (or_right (cell_check q p d c) rest e))),
      (λ t. or-both (cell_check q p d c) rest ((cell-good q p d c).1 t.0) ((cells-good q p (d + 1) cs).1 t.1)),
    )

function-good : (p d : ℕ) (f : Function) → (function_answer p d f ≡ Ok tt) ↔ GoodFunction f
function-good p d f =
    let h = head_check p d (there f) f.head in
    let k = cells_answer Code p (d + 1) f.code in
    let v = cells_answer Events p (d + 1 + length f.code) f.events in (
      (λ e.
          let g = (head-good p d (there f) f.head).0 (or_left h (or_else k v) e) in
          let r = or_right h (or_else k v) e in
          record {
            head = g.0;
            spare = g.1;
            code = (cells-good Code p (d + 1) f.code).0 (or_left k v r);
            events = (cells-good Events p (d + 1 + length f.code) f.events).0 (or_right k v r);
          }),
      (λ g.
          or-both h (or_else k v) ((head-good p d (there f) f.head).1 (g.head, g.spare))
          (or-both k v ((cells-good Code p (d + 1) f.code).1 g.code) ((cells-good Events p (d + 1 + length f.code) f.events).1 g.events))),
    )

functions-good : (p d : ℕ) (fs : List Function) → (functions_answer p d fs ≡ Ok tt) ↔ All GoodFunction fs
functions-good p d [] = ((λ e. tt), (λ t. refl))
functions-good p d (f ∷ fs) =
    let n = d + 1 + length f.code + length f.events in
    let rest = functions_answer (p + 1) n fs in (
      (λ e. ((function-good p d f).0 (or_left (function_answer p d f) rest e), (functions-good (p + 1) n fs).0 (or_right (function_answer p d f) rest e))),
      (λ t. or-both (function_answer p d f) rest ((function-good p d f).1 t.0) ((functions-good (p + 1) n fs).1 t.1)),
    )

pub image_good : (s : List ℕ) → (image_answer s ≡ Ok tt) ↔ GoodImage s
image_good s = (
  (λ e.
      let a = accepted s e in
      record { short = a.0; even = a.1; all = (functions-good 0 0 (functions (cells s))).0 a.2 }),
  (λ g. sym (image_even s g.short g.even) ∙ (functions-good 0 0 (functions (cells s))).1 g.all),
)

-- ---- the site check

function_sites : (p : ℕ) (f : Function) → (site_check p f.code f.events ≡ Ok tt) ↔ GoodSites f
function_sites p f =
    let a = validate_activation_sites p f.code f.events in
    let w = validate_write_sites p f.code f.events in (
      (λ e. record {
        activation = λ q. activation_anywhere p q f.code f.events (or_left a w e);
        write = λ q. write_anywhere p q f.code f.events (or_right a w e);
      }),
      (λ g. or-both a w (g.activation p) (g.write p)),
    )

sites_good : (p : ℕ) (fs : List Function) → (sites_answer p fs ≡ Ok tt) ↔ All GoodSites fs
sites_good p [] = ((λ e. tt), (λ t. refl))
sites_good p (f ∷ fs) =
    let h = site_check p f.code f.events in
    let rest = sites_answer (p + 1) fs in (
      (λ e. ((function_sites p f).0 (or_left h rest e), (sites_good (p + 1) fs).0 (or_right h rest e))),
      (λ t. or-both h rest ((function_sites p f).1 t.0) ((sites_good (p + 1) fs).1 t.1)),
    )

pub site-good : (s : List ℕ) → (site_answer s ≡ Ok tt) ↔ SitesPass s
unfolding site_answer
site-good s =
    let i = image_answer s in
    let v = sites_answer 0 (functions (cells s)) in (
      (λ e. record {
        image = (image_good s).0 (or_left i v e);
        sites = (sites_good 0 (functions (cells s))).0 (or_right i v e);
      }),
      (λ g. or-both i v ((image_good s).1 g.image) ((sites_good 0 (functions (cells s))).1 g.sites)),
    )

-- ---- the contracts follow from the answers

same_good : {P : Type 0} (r a : Checked) → r ≡ a → (a ≡ Ok tt) ↔ P → (r ≡ Ok tt) ↔ P
same_good r a e i = ((λ g. i.0 (sym e ∙ g)), (λ p. e ∙ i.1 p))

pub image_checked : (s : List ℕ) (r : Checked) → r ≡ image_answer s → ImageChecked s r
image_checked s r e = record { answer = e; reply = ap numbers_in e; accepted = same_good r (image_answer s) e (image_good s) }

pub site_checked : (s : List ℕ) (r : Checked) → r ≡ site_answer s → SiteChecked s r
site_checked s r e = record { answer = e; reply = ap numbers_in e; accepted = same_good r (site_answer s) e (site-good s) }

-- ---- for later passes

-- in a good image every function has as many cells as its head says
head-counted : (h : Cell) (cs : List Cell) → GoodFunction (function_at h cs) → Counted (function_at h cs)
head-counted h cs g =
    let f = function_at h cs in
    let t = (head_fits 0 0 (there f) h ((head-good 0 0 (there f) h).1 (g.head, g.spare))).2 in
    let a = length-take (code_count h) cs in
    let b = length-take (event_count h) (drop (code_count h) cs) in
    (omega (arith, t, a, b), omega (arith, t, a, b))

counted-by : (n : ℕ) (cs : List Cell) → length cs ≤ n → All GoodFunction (functions cs) → All Counted (functions cs)
counted-by zero [] l g = rw functions_nil tt
counted-by zero (h ∷ cs) l g = absurd (not-suc-le-zero l)
counted-by (suc n) [] l g = rw functions_nil tt
counted-by (suc n) (h ∷ cs) l g =
    let q : All GoodFunction (function_at h cs ∷ functions (behind h cs)) = rw (functions_cons h cs) at g in
    let l2 : length (behind h cs) ≤ n = omega (arith, length-drop (code_count h + event_count h) cs, le_of_suc-le-suc l) in
    rw (functions_cons h cs) (head-counted h cs q.0, counted-by n (behind h cs) l2 q.1)

pub good-counted : (s : List ℕ) → GoodImage s → All Counted (functions (cells s))
good-counted s g = counted-by (length (cells s)) (cells s) (le_refl (length (cells s))) g.all

-- the functions of two images joined are the functions of both
pub functions_joined : (s t : List ℕ) → GoodImage s → functions (cells (s ++ t)) ≡ functions (cells s) ++ functions (cells t)
functions_joined s t g = ap functions (cells-append s t g.even) ∙ functions-append (cells s) (cells t) (good-counted s g)

-- every register that an instruction of a good image names is below the limit
abbrev pub InRange : Function → Type 0
InRange f = All (λ (c : Cell). Registers (view c)) f.code

pub good-registers : (s : List ℕ) → GoodImage s → All InRange (functions (cells s))
good-registers s g =
    all_each GoodFunction InRange
    (λ f h. all_each (CellOk Code) (λ (c : Cell). Registers (view c)) (λ c k. view-registers 0 0 c ((instruction_good 0 0 c).1 k)) f.code h.code)
    (functions (cells s)) g.all
