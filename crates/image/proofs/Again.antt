-- What a pass hands back is accepted again: functions that are well-formed make a good image, and a pass that keeps each function so, keeps it
-- passing both validators and makes it no longer keeps the image so.
use mathlib.Core.Path.{◌≡◌, ◌∙◌, ap}
use mathlib.Core.List.{List, [], ◌∷◌, map}
use Prim.Native.Nat.{ℕ, ◌*◌, ◌/◌, ◌≤◌}
use native.Mathlib.Omega.{arith}
use lib.ListN.{length, drop, length-append}
use Rattle.cells.specs.Cells.{cells, flat, Full}
use Rattle.cells.specs.Check.{max_image, max_instructions, max_events}
use Rattle.cells.specs.Functions.{Function, there, Counted, function_of, function_from, functions, cells_of, cells_of_all}
use Rattle.cells.specs.Lists.{All}
use Rattle.cells.specs.Spans.{part, SpanAt}
use Rattle.cells.specs.declared.walk.Span.{Span}
use Rattle.cells.specs.WellFormed.{InstructionGood, EventGood, WellFormed}
use Rattle.cells.proofs.Answers.{or_left, or_right, or-both}
use Rattle.cells.proofs.Cells.{length-cells, full_cells, length-flat, cells-flat, flat-cells}
use Rattle.cells.proofs.Checks.{instruction_good, event_good, head-good, head_fits}
use Rattle.cells.proofs.Functions.{cells_of_functions, functions_of_cells}
use Rattle.cells.proofs.Lists.{all_append, all_each, all_parts}
use Rattle.cells.proofs.Spans.{length_part}
use Rattle.sites.specs.Validators.{validate_activation_sites, validate_write_sites, site_check}
use Rattle.image.specs.Image.{GoodFunction, GoodImage}
use Rattle.image.specs.SiteCheck.{GoodSites, SitesPass}
use Rattle.image.proofs.Good.{good-counted}
use Rattle.std.specs.Prelude.{Ok}

-- a good function that its head counts, with all bytes of its cells
well_formed : (f : Function) → GoodFunction f → Counted f → Full (cells_of f) → WellFormed f
well_formed f g c l = record {
  head = λ p d. (head-good p d (there f) f.head).1 (g.head, g.spare);
  code = all_each _ InstructionGood (λ c k p d. (instruction_good p d c).1 k) f.code g.code;
  events = all_each _ EventGood (λ c k p d. (event_good p d c).1 k) f.events g.events;
  counted = c;
  full = l;
}

good-function : (f : Function) → WellFormed f → GoodFunction f
good-function f w =
    let h = (head-good 0 0 (there f) f.head).0 (w.head 0 0) in
    record {
      head = h.0;
      spare = h.1;
      code = all_each InstructionGood _ (λ c k. (instruction_good 0 0 c).0 (k 0 0)) f.code w.code;
      events = all_each EventGood _ (λ c k. (event_good 0 0 c).0 (k 0 0)) f.events w.events;
    }

all_formed : (fs : List Function) → All GoodFunction fs → All Counted fs → Full (cells_of_all fs) → All WellFormed fs
all_formed [] g c l = tt
all_formed (f ∷ fs) g c l =
    let s = all_parts (λ d. length d ≡ 16) (cells_of f) (cells_of_all fs) l in
    (well_formed f g.0 c.0 s.0, all_formed fs g.1 c.1 s.1)

-- every function of a good image is well-formed
pub image_formed : (s : List ℕ) → GoodImage s → All WellFormed (functions (cells s))
image_formed s g = all_formed (functions (cells s)) g.all (good-counted s g) (rw (cells_of_functions (cells s)) (full_cells s))

-- a turn of the walk: the function at a cell is well-formed, and those behind it are
pub formed_next : {s : List ℕ} {at : ℕ} {r : Span} → SpanAt s at r → All WellFormed (functions (drop at (cells s))) → All WellFormed (function_from (cells s) at ∷ functions (drop (r.end / 16) (cells s)))
formed_next z a = rw z.next at a

-- so its parts are within the limits
pub few_cells : {s : List ℕ} {at : ℕ} {r : Span} → SpanAt s at r → All WellFormed (functions (drop at (cells s)))
    → (length (part s r.code r.events) / 16 ≤ max_instructions) × (length (part s r.events r.end) / 16 ≤ max_events)
few_cells {s} {at} {r} z a =
    let w : WellFormed (function_from (cells s) at) = (formed_next z a).0 in
    let f : Function = function_from (cells s) at in
    let t = head_fits 0 0 (there f) f.head (w.head 0 0) in
    let c = length_part s r.code r.events (omega (arith, z.events)) (omega (arith, z.within, z.end)) in
    let e = length_part s r.events r.end (omega (arith, z.end)) z.within in
    (omega (arith, c, z.events, w.counted.0, t.0), omega (arith, e, z.end, w.counted.1, t.1))

-- the parts of a well-formed function are within the limits
pub parts_fit : (h c e : List ℕ) → WellFormed (function_of h c e) → (length c / 16 ≤ max_instructions) × (length e / 16 ≤ max_events)
parts_fit h c e w =
    let f : Function = function_of h c e in
    let t = head_fits 0 0 (there f) f.head (w.head 0 0) in
    (omega (arith, length-cells c, w.counted.0, t.0), omega (arith, length-cells e, w.counted.1, t.1))

-- and such functions, one after another, are a good image if they are not too many
pub all_full : (fs : List Function) → All WellFormed fs → Full (cells_of_all fs)
all_full [] a = tt
all_full (f ∷ fs) a = all_append (λ d. length d ≡ 16) (cells_of f) (cells_of_all fs) a.0.full (all_full fs a.1)

-- its functions are these
pub formed_functions : (fs : List Function) → All WellFormed fs → functions (cells (flat (cells_of_all fs))) ≡ fs
formed_functions fs a = ap functions (cells-flat (cells_of_all fs) (all_full fs a)) ∙ functions_of_cells fs (all_each WellFormed Counted (λ f w. w.counted) fs a)

pub formed_image : (fs : List Function) → All WellFormed fs → 16 * length (cells_of_all fs) ≤ max_image → GoodImage (flat (cells_of_all fs))
formed_image fs a l =
    let n = length-flat (cells_of_all fs) (all_full fs a) in
    record {
      short = rw n l;
      even = rw n (omega arith);
      all = rw (formed_functions fs a) (all_each WellFormed GoodFunction good-function fs a);
    }

-- ---- a pass over every function

module _ (h : Function → Function) (formed : (f : Function) → WellFormed f → WellFormed (h f)) (fewer : (f : Function) → length (cells_of (h f)) ≤ length (cells_of f)) where
  -- the image that it hands back
  abbrev pub handed : List ℕ → List ℕ
  handed s = flat (cells_of_all (map h (functions (cells s))))

  pub map_formed : (fs : List Function) → All WellFormed fs → All WellFormed (map h fs)
  map_formed [] a = tt
  map_formed (f ∷ fs) a = (formed f a.0, map_formed fs a.1)

  map-fewer : (fs : List Function) → length (cells_of_all (map h fs)) ≤ length (cells_of_all fs)
  map-fewer [] = omega arith
  map-fewer (f ∷ fs) = omega (arith, fewer f, map-fewer fs, length-append (cells_of (h f)) (cells_of_all (map h fs)), length-append (cells_of f) (cells_of_all fs))

  module _ (s : List ℕ) (g : GoodImage s) where
    pub handed_formed : All WellFormed (map h (functions (cells s)))
    handed_formed = map_formed (functions (cells s)) (image_formed s g)

    -- the function at a position in it is that of the function sent at this position
    pub handed_functions : functions (cells (handed s)) ≡ map h (functions (cells s))
    handed_functions = formed_functions (map h (functions (cells s))) handed_formed

    pub handed_shorter : length (handed s) ≤ length s
    handed_shorter =
        let a = length-flat (cells_of_all (map h (functions (cells s)))) (all_full (map h (functions (cells s))) handed_formed) in
        let b = length-flat (cells s) (full_cells s) in
        let e = ap length (flat-cells s g.even) in
        let c = ap length (cells_of_functions (cells s)) in
        omega (arith, a, b, e, c, map-fewer (functions (cells s)))

    pub image_again : GoodImage (handed s)
    image_again =
        let a = length-flat (cells_of_all (map h (functions (cells s)))) (all_full (map h (functions (cells s))) handed_formed) in
        formed_image (map h (functions (cells s))) handed_formed (omega (arith, a, handed_shorter, g.short))

  module _ (passes : (position : ℕ) (f : Function) → site_check position f.code f.events ≡ Ok tt → site_check position (h f).code (h f).events ≡ Ok tt) where
    function_again : (f : Function) → GoodSites f → GoodSites (h f)
    function_again f g =
        let e : (position : ℕ) → site_check position (h f).code (h f).events ≡ Ok tt =
        λ p. passes p f (or-both (validate_activation_sites p f.code f.events) (validate_write_sites p f.code f.events) (g.activation p) (g.write p)) in
        record {
          activation = λ p. or_left (validate_activation_sites p (h f).code (h f).events) (validate_write_sites p (h f).code (h f).events) (e p);
          write = λ p. or_right (validate_activation_sites p (h f).code (h f).events) (validate_write_sites p (h f).code (h f).events) (e p);
        }

    map_again : (fs : List Function) → All GoodSites fs → All GoodSites (map h fs)
    map_again [] a = tt
    map_again (f ∷ fs) a = (function_again f a.0, map_again fs a.1)

    pub sites_again : (s : List ℕ) → SitesPass s → SitesPass (handed s)
    sites_again s g = record {
      image = image_again s g.image;
      sites = rw (handed_functions s g.image) (map_again (functions (cells s)) g.sites);
    }
