-- The image check and the site check with the limit of registers as a parameter. At today's limit they are today's; below a lower one, as document
-- 01's 256, they answer as today, or refused 4.
use mathlib.Core.Path.{◌≡◌, refl, ap, ap₂}
use mathlib.Core.Logic.{inl}
use mathlib.Core.Bool.{cond}
use mathlib.Core.List.{List, [], ◌∷◌}
use Prim.Native.Nat.{ℕ, ◌+◌, ◌≤◌}
use lib.ListN.{length}
use Rattle.cells.specs.Answers.{or_else}
use Rattle.cells.specs.Cells.{Cell, cells}
use Rattle.cells.specs.Check.{registers, head_check}
use Rattle.cells.specs.Functions.{Function, there, functions}
use Rattle.cells.specs.declared.refusal.Refusal.TheVariants.{Length}
use Rattle.cells.specs.declared.walk.Part.TheVariants.{Code, Events}
use Rattle.cells.proofs.WiderRegisters.{instruction_below, instruction_today, AsBefore, or_as_before, test_as_before, instruction_as_before}
use Rattle.image.specs.Image.{cells_answer, function_answer, functions_answer, good_length, image_answer}
use Rattle.image.specs.SiteCheck.{site_answer, sites_answer}
use Rattle.std.specs.Prelude.{Ok, Err}
use Rattle.cells.specs.Checked.{Checked}

-- ---- with a limit

abbrev pub code_below : ℕ → ℕ → ℕ → List Cell → Checked
code_below limit position d [] = Ok tt
code_below limit position d (c ∷ cs) = or_else (instruction_below limit position d c) (code_below limit position (d + 1) cs)

abbrev pub function_below : ℕ → ℕ → ℕ → Function → Checked
function_below limit position d f =
    or_else (head_check position d (there f) f.head)
    (or_else (code_below limit position (d + 1) f.code)
    (cells_answer Events position (d + 1 + length f.code) f.events))

abbrev pub functions_below : ℕ → ℕ → ℕ → List Function → Checked
functions_below limit position d [] = Ok tt
functions_below limit position d (f ∷ fs) =
    or_else (function_below limit position d f) (functions_below limit (position + 1) (d + 1 + length f.code + length f.events) fs)

abbrev pub image_below : ℕ → List ℕ → Checked
image_below limit s = cond (good_length s) (functions_below limit 0 0 (functions (cells s))) (Err Length)

abbrev pub sites_below : ℕ → List ℕ → Checked
sites_below limit s = or_else (image_below limit s) (sites_answer 0 (functions (cells s)))

-- ---- at today's

code_today : (position d : ℕ) (cs : List Cell) → code_below registers position d cs ≡ cells_answer Code position d cs
code_today position d [] = refl
code_today position d (c ∷ cs) = ap₂ or_else (instruction_today position d c) (code_today position (d + 1) cs)

function_today : (position d : ℕ) (f : Function) → function_below registers position d f ≡ function_answer position d f
function_today position d f =
    ap (λ (r : Checked). or_else (head_check position d (there f) f.head) (or_else r (cells_answer Events position (d + 1 + length f.code) f.events)))
    (code_today position (d + 1) f.code)

functions_today : (position d : ℕ) (fs : List Function) → functions_below registers position d fs ≡ functions_answer position d fs
functions_today position d [] = refl
functions_today position d (f ∷ fs) =
    ap₂ or_else (function_today position d f) (functions_today (position + 1) (d + 1 + length f.code + length f.events) fs)

pub image_today : (s : List ℕ) → image_below registers s ≡ image_answer s
unfolding image_answer
image_today s = ap (λ (r : Checked). cond (good_length s) r (Err Length)) (functions_today 0 0 (functions (cells s)))

pub sites_today : (s : List ℕ) → sites_below registers s ≡ site_answer s
unfolding site_answer
sites_today s = ap (λ (r : Checked). or_else r (sites_answer 0 (functions (cells s)))) (image_today s)

-- ---- below a lower one

module _ (limit : ℕ) (lower : limit ≤ registers) where
  code_as_before : (position d : ℕ) (cs : List Cell) → AsBefore (code_below limit position d cs) (cells_answer Code position d cs)
  code_as_before position d [] = inl refl
  code_as_before position d (c ∷ cs) = or_as_before _ _ _ _ (instruction_as_before limit lower position d c) (code_as_before position (d + 1) cs)

  function_as_before : (position d : ℕ) (f : Function) → AsBefore (function_below limit position d f) (function_answer position d f)
  function_as_before position d f =
      let head = head_check position d (there f) f.head in
      let events = cells_answer Events position (d + 1 + length f.code) f.events in
      or_as_before head head _ _ (inl refl) (or_as_before _ _ events events (code_as_before position (d + 1) f.code) (inl refl))

  functions_as_before : (position d : ℕ) (fs : List Function) → AsBefore (functions_below limit position d fs) (functions_answer position d fs)
  functions_as_before position d [] = inl refl
  functions_as_before position d (f ∷ fs) =
      or_as_before _ _ _ _ (function_as_before position d f) (functions_as_before (position + 1) (d + 1 + length f.code + length f.events) fs)

  pub image_as_before : (s : List ℕ) → AsBefore (image_below limit s) (image_answer s)
  unfolding image_answer
  image_as_before s = test_as_before (good_length s) _ _ Length (functions_as_before 0 0 (functions (cells s)))

  pub sites_as_before : (s : List ℕ) → AsBefore (sites_below limit s) (site_answer s)
  unfolding site_answer
  sites_as_before s = let sites = sites_answer 0 (functions (cells s)) in or_as_before _ _ sites sites (image_as_before s) (inl refl)
