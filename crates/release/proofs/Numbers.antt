-- Each number of an answer has room in 4 bytes: positions and cells are fewer than an image's bytes, and a site has 4 bytes itself.
use mathlib.Core.Path.{◌≡◌, refl, ◌∙◌, ap}
use mathlib.Core.List.{List, [], ◌∷◌, ◌++◌}
use mathlib.Core.Bool.{Bool, true, false, cond, not, ◌&&◌}
use Prim.Native.Nat.{ℕ, zero, suc, ◌+◌, ◌/◌, ◌≤◌, ◌<◌}
use native.Mathlib.Omega.{arith}
use borrow.Author.Tests.{le-leb, leb-true}
use lib.Dec.{eqb, leb}
use lib.ListN.{length, take, drop, length-append}
use Rattle.cells.specs.Answers.{or_else, unless, scan}
use Rattle.cells.specs.Bytes.{byte, word}
use Rattle.cells.specs.Cells.{Cell, cells, chunks}
use Rattle.cells.specs.Check.{max_image, instruction_check, event_check, head_check, is_command, is_event_kind, is_head, row_ok}
use Rattle.cells.specs.Functions.{Function, functions, cells_of, cells_of_all, there}
use Rattle.cells.specs.Lists.{All}
use Rattle.cells.specs.Refusals.{numbered, numbers_of}
use Rattle.cells.specs.Table.{event_row, head_row}
use Rattle.cells.specs.declared.refusal.Numbers.{Numbers}
use Rattle.cells.specs.declared.refusal.Refusal.TheVariants.{Length, OutputTooShort}
use Rattle.cells.specs.declared.walk.Part.{Part}
use Rattle.cells.specs.declared.walk.Part.TheVariants.{Code, Events}
use Rattle.cells.proofs.Cells.{length-cells}
use Rattle.cells.proofs.Facts.{by_test, and_true}
use Rattle.cells.proofs.Functions.{cells_of_functions}
use Rattle.cells.proofs.Lists.{all_parts}
use Rattle.sites.specs.Sites.{site_at, site_of, event_site, site_by, is_store_var, is_make_record, is_write, stands}
use Rattle.sites.specs.Validators.{judge_site, judge_command, repeat_answer, judge_activation, judge_event, activation_answer, judge_met, judge_kind, judge_claim, judge_by, rule_answer, standing, validate_activation_sites, validate_write_sites, site_check}
use Rattle.sites.specs.AllSites.{sites_answer}
use Rattle.sites.specs.declared.Rule.{Rule}
use Rattle.sites.specs.declared.Rule.TheVariants.{StoreVarClaimed, BorrowKnown, EventKind, WriteClaimed, WriteKnown}
use Rattle.sites.specs.declared.Which.{Which}
use Rattle.sites.specs.declared.Which.TheVariants.{Activation, Write}
use Rattle.image.specs.Image.{good_length, image_answer, cell_check, cells_answer, function_answer, functions_answer}
use Rattle.image.specs.SiteCheck.{site_answer}
use Rattle.passes.specs.Passes.{pass_check}
use Rattle.release.specs.Steps.{Small}
use Rattle.release.proofs.Frames.{Byte, byte-drop}
use Rattle.std.specs.Prelude.{Option, Some, None, Ok, Err}
use Rattle.cells.specs.Checked.{Checked}

-- ---- an answer whose numbers are small, where it refuses, and which is another refusal than 5

pub record Fine (x : Numbers) : Type 0 where
  pub small : Small x
  pub other : eqb x.number 5 ≡ false

abbrev pub Fit : Checked → Type 0
Fit (Ok tt) = Unit {0}
Fit (Err x) = Fine (numbers_of x)

or_fit : (a b : Checked) → Fit a → Fit b → Fit (or_else a b)
or_fit (Ok tt) b p q = q
or_fit (Err x) b p q = p

test_fit : (t : Bool) (a b : Checked) → Fit a → Fit b → Fit (cond t a b)
test_fit true a b p q = p
test_fit false a b p q = q

scan_fit : (Q : Cell → Type 0) (judge : List Cell → Cell → Checked) → ((es : List Cell) (c : Cell) → Q c → Fit (judge es c))
    → (es cs : List Cell) → All Q cs → Fit (scan judge es cs)
scan_fit Q judge f es [] a = tt
scan_fit Q judge f es (c ∷ cs) a = or_fit (judge es c) (scan judge (es ++ c ∷ []) cs) (f es c a.0) (scan_fit Q judge f (es ++ c ∷ []) cs a.1)

abbrev Under : ℕ → Type 0
Under n = n < 4294967296

fine : (n p d : ℕ) → Under n → eqb n 5 ≡ false → Under p → Under d → Fine (numbered n p d)
fine n p d h e k l = record { small = record { number = h; position = k; detail = l }; other = e }

-- ---- sites

abbrev Sited : Option ℕ → Type 0
Sited None = Unit {0}
Sited (Some x) = Under x

test_sited : (t : Bool) (a b : Option ℕ) → Sited a → Sited b → Sited (cond t a b)
test_sited true a b p q = p
test_sited false a b p q = q

site_at_lem : (c : Cell) (at : ℕ) → Byte c → Sited (site_at c at)
site_at_lem c at f =
    test_sited (eqb (byte c at) 1) (Some (word c (at + 1))) None
    (omega (arith, f (at + 1), f (at + 1 + 1), f (at + 1 + 2), f (at + 1 + 2 + 1))) tt

site_of_lem : (w : Which) (c : Cell) → Byte c → Sited (site_of w c)
unfolding site_of
site_of_lem Activation c f = test_sited (is_store_var c) (site_at c 5) None (site_at_lem c 5 f) tt
site_of_lem Write c f =
    test_sited (is_store_var c) (site_at c 10) (cond (is_make_record c) (site_at c 7) None) (site_at_lem c 10 f)
    (test_sited (is_make_record c) (site_at c 7) None (site_at_lem c 7 f) tt)

event_site_lem : (w : Which) (c : Cell) → Byte c → Sited (event_site w c)
unfolding event_site
event_site_lem Activation c f = site_at_lem c 1 f
event_site_lem Write c f = site_at_lem c 6 f

site-by : (p : Part) (w : Which) (c : Cell) → Byte c → Sited (site_by p w c)
unfolding site_by
site-by Code w c f = site_of_lem w c f
site-by Events w c f = event_site_lem w c f

-- ---- the validators of the function at a position

module _ (position : ℕ) (p : Under position) where
  judged-site : (w : Which) (before : List Cell) (x : Option ℕ) → Sited x → Fit (judge_site w position before x)
  judged-site w before None s = tt
  judged-site Activation before (Some x) s = test_fit (stands (site_of Activation) x before) _ (Ok tt) (fine 11 position x (omega arith) refl p s) tt
  judged-site Write before (Some x) s = test_fit (stands (site_of Write) x before) _ (Ok tt) (fine 21 position x (omega arith) refl p s) tt

  judged_activation : (before : List Cell) (write : Bool) (x : Option ℕ) → Sited x → Fit (judge_activation position before write x)
  judged_activation before write None s = tt
  judged_activation before true (Some x) s = fine 12 position x (omega arith) refl p s
  judged_activation before false (Some x) s = test_fit (stands (event_site Activation) x before) _ (Ok tt) (fine 13 position x (omega arith) refl p s) tt

  judged_met : (w : Which) (count : ℕ → ℕ) (x : Option ℕ) → Sited x → Fit (judge_met w position count x)
  judged_met w count None s = tt
  judged_met Activation count (Some x) s = test_fit (eqb (count x) 0) _ (Ok tt) (fine 14 position 0 (omega arith) refl p (omega arith)) tt
  judged_met Write count (Some x) s = test_fit (eqb (count x) 0) _ (Ok tt) (fine 26 position x (omega arith) refl p s) tt

  judged_kind : (write : Bool) (x : Option ℕ) → Sited x → Fit (judge_kind position write x)
  judged_kind write None s = test_fit write _ (Ok tt) (fine 23 position 0 (omega arith) refl p (omega arith)) tt
  judged_kind write (Some x) s = test_fit write (Ok tt) _ tt (fine 22 position x (omega arith) refl p s)

  judged_claim : (count : ℕ → ℕ) (store : Bool) (x : Option ℕ) → Sited x → Fit (judge_claim position count store x)
  judged_claim count store None s = tt
  judged_claim count store (Some x) s =
      test_fit (eqb (count x) 0) _ _ (fine 24 position x (omega arith) refl p s)
      (test_fit (store && not (eqb (count x) 1)) _ (Ok tt) (fine 25 position x (omega arith) refl p s) tt)

  judged-by : (rule : Rule) (count : ℕ → ℕ) (c : Cell) → Byte c → Fit (judge_by rule position count c)
  unfolding judge_by
  judged-by StoreVarClaimed count c f = judged_met Activation count (site_by Code Activation c) (site-by Code Activation c f)
  judged-by BorrowKnown count c f = judged_met Activation count (site_by Events Activation c) (site-by Events Activation c f)
  judged-by EventKind count c f = judged_kind (is_write c) (site_by Events Write c) (site-by Events Write c f)
  judged-by WriteClaimed count c f = judged_claim count (is_store_var c) (site_by Code Write c) (site-by Code Write c f)
  judged-by WriteKnown count c f = judged_met Write count (site_by Events Write c) (site-by Events Write c f)

  rule_fit : (rule : Rule) (count : ℕ → ℕ) (cs : List Cell) → All Byte cs → Fit (rule_answer rule position count cs)
  rule_fit rule count cs a = scan_fit Byte (λ (_ : List Cell) (c : Cell). judge_by rule position count c) (λ es c f. judged-by rule count c f) [] cs a

  repeat_fit : (w : Which) (cs : List Cell) → All Byte cs → Fit (repeat_answer w position cs)
  unfolding repeat_answer
  repeat_fit w cs a = scan_fit Byte (judge_command w position) (λ es c f. judged-site w es (site_of w c) (site_of_lem w c f)) [] cs a

  activation_fit : (es : List Cell) → All Byte es → Fit (activation_answer position es)
  unfolding activation_answer
  activation_fit es a =
      scan_fit Byte (judge_event position) (λ before e f. judged_activation before (is_write e) (event_site Activation e) (event_site_lem Activation e f)) [] es a

  sites_fit : (cs es : List Cell) → All Byte cs → All Byte es → Fit (site_check position cs es)
  sites_fit cs es a b =
      or_fit (validate_activation_sites position cs es) (validate_write_sites position cs es)
      (or_fit (repeat_answer Activation position cs) _ (repeat_fit Activation cs a)
      (or_fit (activation_answer position es) _ (activation_fit es b)
      (or_fit (rule_answer StoreVarClaimed position (standing Events Activation es) cs) _ (rule_fit StoreVarClaimed (standing Events Activation es) cs a)
      (rule_fit BorrowKnown (standing Code Activation cs) es b))))
      (or_fit (repeat_answer Write position cs) _ (repeat_fit Write cs a)
      (or_fit (rule_answer EventKind position (standing Events Write es) es) _ (rule_fit EventKind (standing Events Write es) es b)
      (or_fit (rule_answer WriteClaimed position (standing Events Write es) cs) _ (rule_fit WriteClaimed (standing Events Write es) cs a)
      (rule_fit WriteKnown (standing Code Write cs) es b))))

  -- ---- the check of a cell, the cell d of the image

  module _ (d : ℕ) (l : Under d) where
    cell_fit : (part : Part) (c : Cell) → Fit (cell_check part position d c)
    unfolding instruction_check event_check
    cell_fit Code c =
        test_fit (is_command c) _ _ (test_fit (row_ok (byte c 0) c) (Ok tt) _ tt (fine 4 position d (omega arith) refl p l)) (fine 3 position d (omega arith) refl p l)
    cell_fit Events c =
        test_fit (is_event_kind c) _ _ (test_fit (row_ok event_row c) (Ok tt) _ tt (fine 4 position d (omega arith) refl p l)) (fine 3 position d (omega arith) refl p l)

    head_fit : (after : ℕ) (c : Cell) → Fit (head_check position d after c)
    unfolding head_check
    head_fit after c =
        test_fit (is_head after c) _ _ (test_fit (row_ok head_row c) (Ok tt) _ tt (fine 4 position d (omega arith) refl p l)) (fine 2 position d (omega arith) refl p l)

  cells_fit : (part : Part) (d : ℕ) (cs : List Cell) → d + length cs < 4294967296 → Fit (cells_answer part position d cs)
  cells_fit part d [] l = tt
  cells_fit part d (c ∷ cs) l = or_fit (cell_check part position d c) (cells_answer part position (d + 1) cs) (cell_fit d (omega arith) part c) (cells_fit part (d + 1) cs (omega arith))

-- ---- all functions

functions_fit : (position d : ℕ) (fs : List Function) → position + length fs < 4294967296 → d + length (cells_of_all fs) < 4294967296 → Fit (functions_answer position d fs)
functions_fit position d [] h k = tt
functions_fit position d (f ∷ fs) h k =
    let n : length (cells_of_all (f ∷ fs)) ≡ 1 + length f.code + length f.events + length (cells_of_all fs) = omega (arith, length-append (cells_of f) (cells_of_all fs), length-append f.code f.events) in
    let p : Under position = omega arith in
    or_fit (function_answer position d f) (functions_answer (position + 1) (d + 1 + length f.code + length f.events) fs)
    (or_fit (head_check position d (there f) f.head) _ (head_fit position p d (omega (arith, n)) (there f) f.head)
    (or_fit (cells_answer Code position (d + 1) f.code) _ (cells_fit position p Code (d + 1) f.code (omega (arith, n)))
    (cells_fit position p Events (d + 1 + length f.code) f.events (omega (arith, n)))))
    (functions_fit (position + 1) (d + 1 + length f.code + length f.events) fs (omega arith) (omega (arith, n)))

all_sites_fit : (position : ℕ) (fs : List Function) → position + length fs < 4294967296 → All Byte (cells_of_all fs) → Fit (sites_answer position fs)
all_sites_fit position [] h a = tt
all_sites_fit position (f ∷ fs) h a =
    let parts = all_parts Byte (cells_of f) (cells_of_all fs) a in
    let both = all_parts Byte f.code f.events parts.0.1 in
    or_fit (site_check position f.code f.events) (sites_answer (position + 1) fs)
    (sites_fit position (omega arith) f.code f.events both.0 both.1)
    (all_sites_fit (position + 1) fs (omega arith) parts.1)

-- ---- of an image of bytes

byte-take : (n : ℕ) (s : List ℕ) → Byte s → Byte (take n s)
byte-take zero s f i = omega arith
byte-take (suc n) [] f i = omega arith
byte-take (suc n) (b ∷ s) f zero = f 0
byte-take (suc n) (b ∷ s) f (suc i) = byte-take n s (λ j. f (suc j)) i

chunks-byte : (n : ℕ) (s : List ℕ) → Byte s → All Byte (chunks n s)
chunks-byte zero s f = tt
chunks-byte (suc n) s f = (byte-take 16 s f, chunks-byte n (drop 16 s) (byte-drop s 16 f))

functions_few : (fs : List Function) → length fs ≤ length (cells_of_all fs)
functions_few [] = omega arith
functions_few (f ∷ fs) = omega (arith, length-append (cells_of f) (cells_of_all fs), functions_few fs)

-- refused or not, with an output as long as the image
pub check_fit : (s : List ℕ) → Byte s → Fit (pass_check s (length s))
unfolding pass_check site_answer image_answer
check_fit s f =
    let long = fine 1 0 0 (omega arith) refl (omega arith) (omega arith) in
    by_test (good_length s)
    (λ e. let short = leb-true (length s) max_image (and_true (leb (length s) max_image) _ e).0 in
    let fs : List Function = functions (cells s) in
    let c : length (cells_of_all fs) ≡ length s / 16 = ap length (cells_of_functions (cells s)) ∙ length-cells s in
    let b : All Byte (cells_of_all fs) = rw (cells_of_functions (cells s)) (chunks-byte (length s / 16) s f) in
    test_fit (good_length s) _ _
    (or_fit (unless (leb (length s) (length s)) OutputTooShort) _ (rw (le-leb (length s) (length s) (omega arith)) tt)
    (or_fit (cond (good_length s) (functions_answer 0 0 fs) (Err Length)) _
    (test_fit (good_length s) _ _ (functions_fit 0 0 fs (omega (arith, functions_few fs, c)) (omega (arith, c))) long)
    (all_sites_fit 0 fs (omega (arith, functions_few fs, c)) b)))
    long)
    (λ e. rw e long)
