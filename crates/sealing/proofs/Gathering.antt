-- The walk over an image's functions: their numbers are gathered in a list, each function's behind those of the earlier ones, and what is said of a
-- function by that list is what the definition says.
use mathlib.Core.Path.{◌≡◌, refl, sym, ◌∙◌, ap, ap₂}
use mathlib.Core.List.{List, [], ◌∷◌, ◌++◌, append-nil, append_assoc}
use Prim.Native.Nat.{ℕ, ◌+◌, ◌-◌, ◌/◌, ◌≤◌, ◌<◌}
use native.Mathlib.Nat.{le_refl}
use native.Mathlib.Omega.{arith}
use lib.ListN.{length, take, drop, length-append}
use lib.Seq.{take_at, drop_at, length-take-le}
use Rattle.cells.specs.Cells.{cells, over, Put}
use Rattle.cells.specs.Functions.{Function, function_of, functions}
use Rattle.cells.specs.Lists.{any}
use Rattle.cells.specs.declared.walk.Part.TheVariants.{Code}
use Rattle.cells.proofs.Lists.{only_same, all_of}
use Rattle.cells.proofs.Over.{over_nil, over-part, length_over}
use Rattle.cells.proofs.Spans.{length_part}
use Rattle.sites.specs.Numbered.{one_of}
use Rattle.sites.specs.Sites.{site_of, site_by, sites_on}
use Rattle.sites.specs.declared.Which.{Which}
use Rattle.sites.proofs.Counted.{sites_few}
use Rattle.cells.proofs.Walking.{cells_taken}
use Rattle.cells.proofs.Cells.{length-cells}
use Rattle.sealing.specs.Sealing.{numbers_on, stands_in, repeated_numbers, repeated_or, numbering_from, numbering_answer}
use Rattle.sealing.specs.Steps.{numbers_of_all, repeat_among, gathered}
use Rattle.sealing.proofs.Numbers.{stands-among, numbers_append}
use Rattle.std.specs.Prelude.{Ok, Err}
use Rattle.sealing.specs.Answer.{Sealing}
use Rattle.sealing.specs.declared.SealingError.{SealingError}
use Rattle.sealing.specs.declared.SealingError.TheVariants.{Repeated}

-- `position` functions are done and `met` numbers gathered; the functions of the bytes `left` are still to come
pub record Gathering (w : Which) (s list₀ list left : List ℕ) (position met : ℕ) : Type 0 where
  pub places : position + length left / 16 ≤ length s / 16
  pub few : met + length left / 16 ≤ length s / 16
  pub long : length list ≡ length list₀
  pub done : List Function
  pub place : position ≡ length done
  pub count : length (numbers_of_all w done) ≡ met
  pub is : list ≡ over (numbers_of_all w done) list₀
  pub parts : functions (cells s) ≡ done ++ functions (cells left)
  pub answer : numbering_answer w (functions (cells s)) ≡ numbering_from w done (functions (cells left))

pub gathering_start : (w : Which) (s list₀ : List ℕ) {left : List ℕ} → left ≡ s → Gathering w s list₀ list₀ left 0 0
unfolding numbering_answer
gathering_start w s list₀ {left} e =
    let n : length left ≡ length s = ap length e in
    record {
      places = omega arith;
      few = omega arith;
      long = refl;
      done = [];
      place = refl;
      count = refl;
      is = sym (over_nil list₀);
      parts = ap (λ (t : List ℕ). functions (cells t)) (sym e);
      answer = ap (λ (t : List ℕ). numbering_from w [] (functions (cells t))) (sym e);
    }

pub gathering_end : {w : Which} {s list₀ list left : List ℕ} {position met : ℕ} → Gathering w s list₀ list left position met → functions (cells left) ≡ []
    → (Ok tt ≡ numbering_answer w (functions (cells s))) × (list ≡ over (numbers_of_all w (functions (cells s))) list₀)
gathering_end {w} {s} {list₀} {list} {left} g e =
    let d : functions (cells s) ≡ g.done = g.parts ∙ rw e (append-nil g.done) in
    (sym (g.answer ∙ rw e), g.is ∙ rw d)

-- ---- what is said of a function, with those behind it

module _ (w : Which) (position : ℕ) (behind : Sealing) where
  passes : (l : List ℕ) {r : Sealing} → r ≡ repeated_or w position l (Ok tt) → r ≡ Ok tt → repeated_or w position l behind ≡ behind
  passes [] e g = refl
  passes (y ∷ ys) e g = absurd (cc)

  refuses : (l : List ℕ) {x : SealingError} → Err x ≡ repeated_or w position l (Ok tt) → (Err x ≡ repeated_or w position l behind) × ((y : ℕ) × (x ≡ Repeated w position y))
  refuses [] e = absurd (cc)
  refuses (y ∷ ys) e = (e, (y, cc))

-- ---- a turn: the function of the head h, the instructions' bytes code and the events' bytes evs, behind which the bytes `behind` are left

module _ {w : Which} {s list₀ list left : List ℕ} {position met : ℕ} (g : Gathering w s list₀ list left position met) (behind h code evs : List ℕ)
    (z : functions (cells left) ≡ function_of h code evs ∷ functions (cells behind)) (enough : length s / 16 ≤ length list₀) where
  abbrev f : Function
  f = function_of h code evs

  abbrev rest : List Function
  rest = functions (cells behind)

  taken : length left / 16 ≡ 1 + length code / 16 + length evs / 16 + length behind / 16
  taken = cells_taken left behind h code evs z

  own_numbers : sites_on (site_by Code w) (cells code) ≡ numbers_on w f
  unfolding site_by
  own_numbers = refl

  met_within : met ≤ length list
  met_within = omega (arith, g.few, g.long, enough)

  -- its numbers have room in what is left of the list
  pub own_room : length code / 16 ≤ length (take (length list - met) (drop met list))
  own_room =
      rw (length_part list met (length list) met_within (le_refl (length list)))
      (omega (arith, taken, g.few, g.long, enough))

  module _ {last : List ℕ} {own : ℕ} (x : Put (sites_on (site_by Code w) (cells code)) (take (length list - met) (drop met list)) last own) where
    abbrev next : List ℕ
    next = take met list ++ (last ++ drop (length list - met) (drop met list))

    abbrev through : List Function
    through = g.done ++ f ∷ []

    own_count : own ≡ length (numbers_on w f)
    own_count = x.count ∙ ap length own_numbers

    -- the numbers so far are fewer than the cells
    pub all_few : met + own + length behind / 16 < length s / 16
    all_few = omega (arith, own_count, sites_few (site_of w) f.code, length-cells code, g.few, taken)

    numbers_through : numbers_of_all w through ≡ numbers_of_all w g.done ++ numbers_on w f
    numbers_through = numbers_append w g.done (f ∷ []) ∙ ap (λ (xs : List ℕ). numbers_of_all w g.done ++ xs) (append-nil (numbers_on w f))

    next_is : next ≡ over (numbers_of_all w g.done ++ numbers_on w f) list₀
    next_is =
        over-part (numbers_of_all w g.done) (numbers_on w f) list₀ list last met g.count met_within g.is
        (x.list ∙ ap (λ (xs : List ℕ). over xs (take (length list - met) (drop met list))) own_numbers)

    pub next-long : length next ≡ length list₀
    next-long = rw next_is (length_over (numbers_of_all w g.done ++ numbers_on w f) list₀ (omega (arith, length-append (numbers_of_all w g.done) (numbers_on w f), g.count, own_count, all_few, enough)))

    -- the two parts of it that are handed on
    abbrev tail : List ℕ
    tail = drop (length (numbers_of_all w g.done ++ numbers_on w f)) list₀

    -- there are as many of them in the list
    pub gathered_fit : (met + own ≤ length next) × (met + own ≡ length (take (met + own) next))
    gathered_fit =
        let n : met + own ≤ length next = omega (arith, next-long, all_few, enough) in
        (n, sym (length-take-le (met + own) next n))

    gathered_numbers : take (met + own) next ≡ numbers_of_all w g.done ++ numbers_on w f
    unfolding over
    gathered_numbers =
        ap (take (met + own)) next_is
        ∙ take_at (numbers_of_all w g.done ++ numbers_on w f) tail (met + own) (omega (arith, length-append (numbers_of_all w g.done) (numbers_on w f), g.count, own_count))

    said : {a : Sealing} {earlier these : List ℕ} → a ≡ repeat_among w position earlier these → earlier ≡ take met (take (met + own) next)
        → these ≡ drop met (take (met + own) next) → a ≡ repeated_or w position (repeated_numbers w g.done f) (Ok tt)
    said e p q =
        let first = p ∙ ap (take met) gathered_numbers ∙ take_at (numbers_of_all w g.done) (numbers_on w f) met g.count in
        let second = q ∙ ap (drop met) gathered_numbers ∙ drop_at (numbers_of_all w g.done) (numbers_on w f) met g.count in
        e ∙ ap₂ (repeat_among w position) first second
        ∙ ap (λ (l : List ℕ). repeated_or w position l (Ok tt))
        (only_same (λ (y : ℕ). one_of y (numbers_of_all w g.done)) (λ (y : ℕ). any (stands_in w y) g.done) (numbers_on w f)
        (all_of (λ (y : ℕ). one_of y (numbers_of_all w g.done) ≡ any (stands_in w y) g.done) (λ y. sym (stands-among w y g.done)) (numbers_on w f)))

    whole : numbering_answer w (functions (cells s)) ≡ repeated_or w position (repeated_numbers w g.done f) (numbering_from w through rest)
    whole = g.answer ∙ ap (numbering_from w g.done) z ∙ ap (λ (n : ℕ). repeated_or w n (repeated_numbers w g.done f) (numbering_from w through rest)) (sym g.place)

    parts_through : functions (cells s) ≡ through ++ rest
    parts_through = g.parts ∙ ap (λ (fs : List Function). g.done ++ fs) z ∙ sym (append_assoc g.done (f ∷ []) rest)

    pub gathering_next : {a : Sealing} {earlier these : List ℕ} → a ≡ repeat_among w position earlier these → earlier ≡ take met (take (met + own) next)
        → these ≡ drop met (take (met + own) next) → a ≡ Ok tt → Gathering w s list₀ next behind (position + 1) (met + own)
    gathering_next e p q n = record {
      places = omega (arith, g.places, taken);
      few = omega (arith, all_few);
      long = next-long;
      done = through;
      place = omega (arith, g.place, length-append g.done (f ∷ []));
      count = omega (arith, ap length numbers_through, length-append (numbers_of_all w g.done) (numbers_on w f), g.count, own_count);
      is = next_is ∙ ap (λ (xs : List ℕ). over xs list₀) (sym numbers_through);
      parts = parts_through;
      answer = whole ∙ passes w position (numbering_from w through rest) (repeated_numbers w g.done f) (said e p q) n;
    }

    pub gathering_refused : {a : Sealing} {x : SealingError} {earlier these : List ℕ} → a ≡ repeat_among w position earlier these
        → earlier ≡ take met (take (met + own) next) → these ≡ drop met (take (met + own) next) → a ≡ Err x
        → (Err x ≡ numbering_answer w (functions (cells s))) × (next ≡ over (gathered w (Err x) (functions (cells s))) list₀)
    gathering_refused {a} {x} e p q n =
        let (t, (y, k)) = refuses w position (numbering_from w through rest) (repeated_numbers w g.done f) (sym n ∙ said e p q) in
        let l : length through ≡ position + 1 = omega (arith, g.place, length-append g.done (f ∷ [])) in
        let m : gathered w (Err x) (functions (cells s)) ≡ numbers_of_all w g.done ++ numbers_on w f =
        ap (λ (y : SealingError). gathered w (Err y) (functions (cells s))) k ∙ ap (λ (fs : List Function). numbers_of_all w (take (position + 1) fs)) parts_through
        ∙ ap (numbers_of_all w) (take_at through rest (position + 1) l) ∙ numbers_through in
        (t ∙ sym whole, next_is ∙ ap (λ (xs : List ℕ). over xs list₀) (sym m))
