-- The functions of an accepted image in the output: cleaned, each written behind the one before; as they are; and folded there.
use mathlib.Core.Path.{◌≡◌, refl, sym, ◌∙◌, ap, ap₂}
use mathlib.Core.List.{List, [], ◌∷◌, ◌++◌, map, append-nil, append_assoc}
use Prim.Native.Nat.{ℕ, ◌+◌, ◌-◌, ◌*◌, ◌/◌, ◌%◌, ◌≤◌}
use native.Mathlib.Nat.{le_refl, zero-add}
use native.Mathlib.Omega.{arith}
use lib.ListN.{length, take, drop, length-append}
use Rattle.cells.specs.Check.{max_image}
use Rattle.cells.specs.Cells.{Cell, cells, flat, over, Full}
use Rattle.cells.specs.Functions.{Function, functions, function_of, cells_of, cells_of_all}
use Rattle.cells.specs.Lists.{All}
use Rattle.cells.specs.WellFormed.{WellFormed}
use Rattle.cells.proofs.Cells.{length-cells, length-flat, cells-flat, flat-cells, flat_append}
use Rattle.cells.proofs.Functions.{cells_of_functions}
use Rattle.cells.proofs.Over.{over_nil, over-take, over-drop, length_over, copied}
use Rattle.cells.proofs.Spans.{length_part}
use Rattle.cells.proofs.Walking.{cells_taken}
use Rattle.cleanup.specs.Cleanup.{clean_function, clean_count}
use Rattle.cleanup.specs.Output.{Holds}
use Rattle.cleanup.specs.declared.FunctionReport.{FunctionReport}
use Rattle.cleanup.proofs.CleanWellFormed.{clean_well_formed, clean_cells-fewer}
use Rattle.cleanup.proofs.CleanupCounts.{clean_count_lem}
use Rattle.cleanup.proofs.Writing.{joined}
use Rattle.crystalfold.specs.Rules.{rules_of}
use Rattle.crystalfold.specs.CrystalFold.{fold_code, folds_of, fold_function}
use Rattle.crystalfold.specs.InPlace.{Folded}
use Rattle.crystalfold.specs.declared.rules.RuleSet.{RuleSet}
use Rattle.crystalfold.proofs.FoldCounts.{length-folded, folds_few}
use Rattle.crystalfold.proofs.FoldWellFormed.{fold_well_formed, fold-cells}
use Rattle.image.specs.SiteCheck.{site_answer, SitesPass}
use Rattle.image.proofs.Again.{image_formed, all_full, map_formed}
use Rattle.image.proofs.Good.{site-good}
use Rattle.rewrite.specs.AllFunctions.{sum_of, clean_all, fold_all, clean_count_all, folds_of_all}
use Rattle.rewrite.proofs.FoldImage.{fold_image, folds_image, image_registers}
use Rattle.passes.specs.Steps.{Room, AllWritten, Folding, FoldedStart}
use Rattle.passes.specs.declared.Pass.TheVariants.{Cleanup}
use Rattle.passes.specs.declared.Total.{Total}
use Rattle.passes.proofs.Done.{bytes-length, bytes_shorter}
use Rattle.std.specs.Prelude.{Ok}

-- ---- cleaned

-- what cleanup counts of a function
abbrev cleaned : Function → ℕ
cleaned f = clean_count f.code

-- `to` cells are written and so many rewrites counted; the functions of the bytes `left` are still to come
pub record Walked (s out₀ out left : List ℕ) (to rewrites : ℕ) : Type 0 where
  pub formed : All WellFormed (functions (cells left))
  pub done : List Cell
  pub count : length done ≡ to
  pub size : length (flat done) ≡ 16 * to
  pub fewer : to + length left / 16 ≤ length s / 16
  pub few : rewrites + length left / 16 ≤ length s / 16
  pub long : length out ≡ length out₀
  pub is : out ≡ over (flat done) out₀
  pub parts : cells_of_all (map clean_function (functions (cells s))) ≡ done ++ cells_of_all (map clean_function (functions (cells left)))
  pub sum : rewrites + sum_of cleaned (functions (cells left)) ≡ sum_of cleaned (functions (cells s))

pub short_image : (s : List ℕ) → site_answer s ≡ Ok tt → length s ≤ max_image
short_image s g = ((site-good s).0 g).image.short

pub walked_start : (s out₀ : List ℕ) → site_answer s ≡ Ok tt → {left : List ℕ} → left ≡ s → Walked s out₀ out₀ left 0 0
walked_start s out₀ g {left} e =
    let q = (site-good s).0 g in
    let n : length left ≡ length s = ap length e in
    record {
      formed = rw e (image_formed s q.image);
      done = [];
      count = refl;
      size = refl;
      fewer = omega arith;
      few = omega arith;
      long = refl;
      is = sym (over_nil out₀);
      parts = ap (λ (t : List ℕ). cells_of_all (map clean_function (functions (cells t)))) (sym e);
      sum = omega (arith, ap (λ (t : List ℕ). sum_of cleaned (functions (cells t))) e);
    }

-- ---- a turn: the function of the head h, the instructions' bytes code and the events' bytes evs, behind which the bytes `behind` are left

module _ {s out₀ out left : List ℕ} {to rewrites : ℕ} (w : Walked s out₀ out left to rewrites) (behind h code evs : List ℕ)
    (z : functions (cells left) ≡ function_of h code evs ∷ functions (cells behind)) (code_even : length code % 16 ≡ 0) (events_even : length evs % 16 ≡ 0)
    (enough : length s ≤ length out₀) where
  abbrev this : Function
  this = function_of h code evs

  taken : length left / 16 ≡ 1 + length code / 16 + length evs / 16 + length behind / 16
  taken = cells_taken left behind h code evs z

  all_formed : All WellFormed (this ∷ functions (cells behind))
  all_formed = rw z at w.formed

  -- it has room in what is left of the output
  pub room : Room h code evs (take (length out - 16 * to) (drop (16 * to) out))
  room = record {
    formed = all_formed.0;
    code_even = code_even;
    events_even = events_even;
    room =
        rw (length_part out (16 * to) (length out) (omega (arith, w.fewer, w.long, enough)) (le_refl (length out)))
        (omega (arith, taken, code_even, events_even, w.fewer, w.long, enough));
  }

  module _ (last : List ℕ) (r : FunctionReport) (x : Holds (clean_function this) (cleaned this) (take (length out - 16 * to) (drop (16 * to) out)) last r) where
    -- it takes no more cells than before, and counts no more than its instructions
    pub turn_few : (to + (1 + r.instructions + r.events) + length behind / 16 ≤ length s / 16) × (rewrites + r.rewrites + length behind / 16 ≤ length s / 16)
        × (length (cells_of (clean_function this)) ≡ 1 + r.instructions + r.events)
    turn_few =
        let n = length-append (clean_function this).code (clean_function this).events in
        let m = length-append this.code this.events in
        let c = length-cells code in
        let e = length-cells evs in (
          omega (arith, n, m, clean_cells-fewer this, x.instructions, x.events, c, e, taken, w.fewer),
          omega (arith, x.rewrites, clean_count_lem this.code, c, taken, w.few),
          omega (arith, n, x.instructions, x.events),
        )

    pub walked_next : Walked s out₀ (take (16 * to) out ++ (last ++ drop (length out - 16 * to) (drop (16 * to) out))) behind (to + (1 + r.instructions + r.events)) (rewrites + r.rewrites)
    walked_next =
        let h : Function = clean_function this in
        let rest : List Function = functions (cells behind) in
        let done : List Cell = w.done ++ cells_of h in
        let l = length-flat (cells_of h) (clean_well_formed this all_formed.0).full in
        let size : length (flat done) ≡ 16 * (to + (1 + r.instructions + r.events)) =
        rw (flat_append w.done (cells_of h)) (omega (arith, length-append (flat w.done) (flat (cells_of h)), w.size, l, turn_few.2)) in
        let is : take (16 * to) out ++ (last ++ drop (length out - 16 * to) (drop (16 * to) out)) ≡ over (flat done) out₀ =
        joined w.done (cells_of h) out₀ out last (16 * to) w.size (omega (arith, w.fewer, w.long, enough)) w.is x.bytes in
        record {
          formed = all_formed.1;
          done = done;
          count = omega (arith, length-append w.done (cells_of h), w.count, turn_few.2);
          size = size;
          fewer = turn_few.0;
          few = turn_few.1;
          long = rw is (length_over (flat done) out₀ (omega (arith, size, turn_few.0, enough)));
          is = is;
          parts = w.parts ∙ ap (λ (fs : List Function). w.done ++ cells_of_all (map clean_function fs)) z ∙ sym (append_assoc w.done (cells_of h) (cells_of_all (map clean_function rest)));
          sum = omega (arith, w.sum, ap (sum_of cleaned) z, x.rewrites);
        }

pub walked_end : (s out₀ out left : List ℕ) (t : Total) → Walked s out₀ out left t.cells t.rewrites → functions (cells left) ≡ []
    → AllWritten (clean_all (functions (cells s))) (clean_count_all (functions (cells s))) out₀ out t
walked_end s out₀ out left t w n =
    let c : cells_of_all (clean_all (functions (cells s))) ≡ w.done =
    w.parts ∙ ap (λ (fs : List Function). w.done ++ cells_of_all (map clean_function fs)) n ∙ append-nil w.done in
    record {
      bytes = w.is ∙ ap (λ (cs : List Cell). over (flat cs) out₀) (sym c);
      count = sym w.count ∙ ap length (sym c);
      rewrites = omega (arith, w.sum, ap (sum_of cleaned) n);
    }

-- ---- the functions as they are

pub copied_functions : (s out : List ℕ) → site_answer s ≡ Ok tt → (last : List ℕ) → last ≡ take (length s) s ++ drop (length s) out
    → AllWritten (functions (cells s)) 0 out last (record { cells = length s / 16; rewrites = 0 })
copied_functions s out g last e =
    let q = ((site-good s).0 g).image in
    let c = cells_of_functions (cells s) in
    record {
      bytes = e ∙ copied s out ∙ ap (λ (u : List ℕ). over u out) (sym (ap flat c ∙ flat-cells s q.even));
      count = sym (ap length c ∙ length-cells s);
      rewrites = refl;
    }

-- ---- folded where they stand

-- no more folds than cells
pub folds_fit : {k : RuleSet} {before after : List ℕ} {count : ℕ} → Folded k before after count → count ≤ length before / 16
folds_fit {k} {before} f = omega (arith, f.folds, folds_few (rules_of k) (cells before), length-cells before)

pub folded_start : (k : RuleSet) (t : Total) (out last : List ℕ) (count : ℕ) → Folded k (take (16 * t.cells) out) last count
    → FoldedStart k t out (last ++ drop (16 * t.cells) out) (record { cells = t.cells; rewrites = t.rewrites + count })
folded_start k t out last count f = record {
  bytes = ap (λ (u : List ℕ). u ++ drop (16 * t.cells) out) f.bytes;
  count = refl;
  rewrites = ap (λ (m : ℕ). t.rewrites + m) f.folds;
}

module _ {gs : List Function} {n : ℕ} {before after : List ℕ} {t : Total} (formed : All WellFormed gs) (w : AllWritten gs n before after t) where
  cells_full : Full (cells_of_all gs)
  cells_full = all_full gs formed

  size : length (flat (cells_of_all gs)) ≡ 16 * t.cells
  size = omega (arith, length-flat (cells_of_all gs) cells_full, w.count)

  start : take (16 * t.cells) after ≡ flat (cells_of_all gs)
  start = ap₂ (λ (m : ℕ) (u : List ℕ). take m u) (sym size) w.bytes ∙ over-take (flat (cells_of_all gs)) before

  behind : drop (16 * t.cells) after ≡ drop (16 * t.cells) before
  behind = ap (drop (16 * t.cells)) w.bytes ∙ over-drop (flat (cells_of_all gs)) before (16 * t.cells) (omega (arith, size))

  start_cells : cells (take (16 * t.cells) after) ≡ cells_of_all gs
  start_cells = ap cells start ∙ cells-flat (cells_of_all gs) cells_full

  -- what the fold asks
  pub folding : 16 * t.cells ≤ length before → n ≤ max_image → Folding t after
  folding room few = record {
    room = rw w.bytes (rw (length_over (flat (cells_of_all gs)) before (omega (arith, size, room))) room);
    foldable = record {
      whole = rw (start, size) (omega arith);
      in_range = rw start_cells (image_registers gs formed);
    };
    few = rw w.rewrites few;
  }

  -- what it leaves
  pub folded-functions : {k : RuleSet} {last : List ℕ} {r : Total} → FoldedStart k t after last r
      → AllWritten (fold_all (rules_of k) gs) (n + folds_of_all (rules_of k) gs) before last r
  unfolding over
  folded-functions {k} {last} {r} p =
      let f = rules_of k in
      let c : fold_code f (cells (take (16 * t.cells) after)) ≡ cells_of_all (fold_all f gs) = ap (fold_code f) start_cells ∙ fold_image f gs formed in
      let l : length (flat (cells_of_all (fold_all f gs))) ≡ 16 * t.cells =
      length-flat (cells_of_all (fold_all f gs)) (all_full (fold_all f gs) (map_formed (fold_function f) (fold_well_formed f) (λ g. omega (arith, fold-cells f g)) gs formed))
      ∙ omega (arith, ap length (fold_image f gs formed), length-folded f (cells_of_all gs), w.count) in
      record {
        bytes = p.bytes ∙ ap₂ (λ (x y : List ℕ). x ++ y) (ap flat c) (behind ∙ ap (λ (m : ℕ). drop m before) (sym l));
        count = p.count ∙ w.count ∙ sym (length-folded f (cells_of_all gs)) ∙ ap length (fold_image f gs formed);
        rewrites = p.rewrites ∙ ap₂ (λ (a b : ℕ). a + b) w.rewrites (ap (folds_of f) start_cells ∙ folds_image f gs formed);
      }

-- ---- by pass: both write what can be folded

sum_few : (fs : List Function) → clean_count_all fs ≤ length (cells_of_all fs)
sum_few [] = omega arith
sum_few (f ∷ fs) = omega (arith, clean_count_lem f.code, length-append (cells_of f) (cells_of_all fs), length-append f.code f.events, sum_few fs)

module _ (s out : List ℕ) (good : site_answer s ≡ Ok tt) (enough : length s ≤ length out) where
  sites : SitesPass s
  sites = (site-good s).0 good

  few_cells : length (cells_of_all (functions (cells s))) ≡ length s / 16
  few_cells = ap length (cells_of_functions (cells s)) ∙ length-cells s

  formed : All WellFormed (functions (cells s))
  formed = image_formed s sites.image

  clean_formed : All WellFormed (clean_all (functions (cells s)))
  clean_formed = map_formed clean_function clean_well_formed clean_cells-fewer (functions (cells s)) formed

  module _ {after : List ℕ} {t : Total} (w : AllWritten (clean_all (functions (cells s))) (clean_count_all (functions (cells s))) out after t) where
    pub cleaned_ready : Folding t after
    cleaned_ready =
        folding clean_formed w (omega (arith, w.count, bytes-length Cleanup s sites, bytes_shorter Cleanup s sites, enough))
        (omega (arith, sum_few (functions (cells s)), few_cells, sites.image.short))

    pub cleaned_folded : {k : RuleSet} {last : List ℕ} {r : Total} → FoldedStart k t after last r
        → AllWritten (fold_all (rules_of k) (clean_all (functions (cells s)))) (clean_count_all (functions (cells s)) + folds_of_all (rules_of k) (clean_all (functions (cells s)))) out last r
    cleaned_folded p = folded-functions clean_formed w p

  module _ {after : List ℕ} {t : Total} (w : AllWritten (functions (cells s)) 0 out after t) where
    pub copied_ready : Folding t after
    copied_ready = folding formed w (omega (arith, w.count, few_cells, enough)) (omega arith)

    pub copied_folded : {k : RuleSet} {last : List ℕ} {r : Total} → FoldedStart k t after last r
        → AllWritten (fold_all (rules_of k) (functions (cells s))) (folds_of_all (rules_of k) (functions (cells s))) out last r
    copied_folded {k} p =
        let q = folded-functions formed w p in
        record { bytes = q.bytes; count = q.count; rewrites = q.rewrites ∙ zero-add (folds_of_all (rules_of k) (functions (cells s))) }
