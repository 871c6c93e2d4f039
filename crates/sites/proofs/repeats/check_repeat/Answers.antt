-- `sites::repeats::check_repeat` meets its contract.
use mathlib.Core.Path.{◌≡◌, refl, ap, sym, ◌∙◌}
use mathlib.Core.List.{List, []}
use Prim.Native.Nat.{ℕ, ◌+◌, ◌≤◌, ◌<◌}
use native.Mathlib.Omega.{arith}
use lib.ListN.{length, get_or, take}
use lib.Seq.{length-take-le, take-take, get_or-take}
use mathlib.Core.Bool.{false}
use lib.Dec.{eqb}
use borrow.Author.Tests.{ne_eqb, eq-eqb}
use Rattle.cells.proofs.Lists.{any_at, any-not}
use Rattle.std.proofs.lemmas.Bool.Decides.{nat_tests}
use Rattle.cells.specs.Cells.{Cell, cells}
use Rattle.cells.proofs.Answers.{scan_passes, scan-refuses, scan-ends}
use Rattle.cells.proofs.Cells.{Walked, walk_turn, walk_end}
use Rattle.sites.specs.Sites.{site_by, stands}
use Rattle.sites.specs.Numbered.{barred, one_of, search_end, judge_repeat}
use Rattle.sites.proofs.Counted.{sites_with, sites_without, listed-none, listed_few, listed-stands, search_within, search-none}
use Rattle.sites.proofs.Loops.{none_passes, barred-refuses, fresh_passes, repeat_refuses, fresh_none}
use Rattle.sites.proofs.repeats.check_repeat.Goals as goal
use Rattle.sites.proofs.repeats.check_repeat.Goals.{At-sites, After-cell_site, After-search_end-end}
use Rattle.cells.specs.Checked.{Checked}
use Rattle.std.specs.Prelude.{Option}
use Rattle.std.proofs.lemmas.List.{length_push}

-- a turn, with the sites met before it
module _ (l : At-sites) where
  abbrev cs : List Cell
  cs = cells l.args.part.now

  abbrev i : ℕ
  i = length l.sites.yielded

  abbrev cell : Cell
  cell = get_or cs i []

  abbrev judge : List Cell → Cell → Checked
  judge = judge_repeat l.args.p l.args.w l.args.position

  -- they are among those listed
  few : l.sites.met ≤ length l.args.sites.now
  few = listed_few l.requires i l.sites.met l.sites.invariant.2

  stood : (x : ℕ) → stands (site_by l.args.p l.args.w) x (take i cs) ≡ one_of x (take l.sites.met l.args.sites.now)
  stood = listed-stands l.requires i l.sites.met l.sites.invariant.2

turn : (t : After-cell_site) → Walked t.args.part.now (length t.sites.yielded) t.in-Some.cell.now t.next.new.self.rest.now
turn t =
    let i = t.sites.invariant in
    let h = t.in-Some.ensures.steps.1 in
    walk_turn t.args.part.now (length t.sites.yielded) i.1 h.0 (h.1 ∙ i.0)

-- the cell's site
site-is : (t : After-cell_site) {s : Option ℕ} → t.cell_site.result ≡ s → site_by t.args.p t.args.w (get_or (cells t.args.part.now) (length t.sites.yielded) []) ≡ s
site-is t e = ap (site_by t.args.p t.args.w) (sym (turn t).is) ∙ sym t.cell_site.ensures ∙ e

pub returns-then-is_empty : goal.returns-then-is_empty
returns-then-is_empty c =
    let none : length c.args.sites.now ≡ 0 = grind (arith, nat_tests) in
    fresh_none c.args.p c.args.w c.args.position (cells c.args.part.now) (listed-none c.requires none)

pub slice_bounds-search_end-end : goal.slice_bounds-search_end-end
slice_bounds-search_end-end c = sym (length-take-le c.sites.met c.args.sites.now (few (goal.at.slice_bounds-search_end-end c).At-sites))

-- the sites met before are searched, or none of them
module _ (r : After-search_end-end) (f : r.sites.met ≤ length r.args.sites.now) where
  abbrev all_met : List ℕ
  all_met = take r.sites.met r.args.sites.now

  met_are : length all_met ≡ r.sites.met
  met_are = length-take-le r.sites.met r.args.sites.now f

  searched : r.search_end-end.result ≤ r.sites.met
  searched = let k = search_within all_met r.in-Some-cell_site.x r.search_end-end.ensures in omega (arith, k, met_are)

  first_searched : length (take r.search_end-end.result r.args.sites.now) ≡ r.search_end-end.result
  first_searched = length-take-le r.search_end-end.result r.args.sites.now (omega (arith, searched, f))

pub loop-earlier-init : goal.loop-earlier-init
loop-earlier-init c = (c.sites.invariant.4, refl)

pub overflow_add-met : goal.overflow_add-met
overflow_add-met c = omega (arith, few (goal.at.overflow_add-met c).At-sites)

pub returns-then-barred : goal.returns-then-barred
returns-then-barred c =
    let t = goal.at.returns-then-barred c in
    let l = t.At-sites in
    let k = turn t.After-cell_site in
    scan-refuses (judge l) (cs l) (i l) k.inside c.sites.invariant.3
    (barred-refuses c.args.p c.args.w c.args.position (take (i l) (cs l)) (cell l) c.in-Some-cell_site.x (site-is t.After-cell_site c.in-Some-cell_site.is)
    (ap (barred c.args.p) (sym k.is) ∙ sym c.barred.ensures ∙ c.if-barred.true))

pub loop-earlier-preserved : goal.loop-earlier-preserved
loop-earlier-preserved c =
    let l = (goal.at.loop-earlier-preserved c).At-sites in
    let r = (goal.at.loop-earlier-preserved c).After-search_end-end in
    let s = c.args.sites.now in
    let i = c.loop-earlier.earlier-index in
    let x = c.in-Some-cell_site.x in
    let h : i < c.search_end-end.result = omega (arith, c.loop-earlier-test.true, first_searched r (few l)) in
    let n : i < length s = omega (arith, h, searched r (few l), few l) in
    (c.loop-earlier.invariant.0, any-not (λ (y : ℕ). eqb y x) 0 s i n c.loop-earlier.invariant.1 (ne_eqb _ _ (rw (get_or-take c.search_end-end.result s i 0 h) at c.if-earlier-x.false)))

pub returns-then-earlier-x : goal.returns-then-earlier-x
returns-then-earlier-x c =
    let t = goal.at.returns-then-earlier-x c in
    let l = t.At-sites in
    let r = t.After-search_end-end in
    let k = turn t.After-cell_site in
    let s = c.args.sites.now in
    let i0 = c.loop-earlier.earlier-index in
    let x = c.in-Some-cell_site.x in
    let h : i0 < c.search_end-end.result = omega (arith, c.loop-earlier-test.true, first_searched r (few l)) in
    let j : i0 < c.sites.met = omega (arith, h, searched r (few l)) in
    let n : i0 < length s = omega (arith, j, few l) in
    let found = any_at (λ (y : ℕ). eqb y x) 0 s c.sites.met i0 j n (eq-eqb _ _ (rw (get_or-take c.search_end-end.result s i0 0 h) at c.if-earlier-x.true)) in
    scan-refuses (judge l) (cs l) (i l) k.inside c.sites.invariant.3
    (repeat_refuses c.args.p c.args.w c.args.position (take (i l) (cs l)) (cell l) x c.repeated.result c.repeated.ensures
    (site-is t.After-cell_site c.in-Some-cell_site.is) (ap (barred c.args.p) (sym k.is) ∙ sym c.barred.ensures ∙ c.if-barred.false) (stood l x ∙ found))

pub sites-init : goal.sites-init
sites-init c = (cc, cc, refl, refl, refl)

pub sites-preserved-in-Some-cell_site : goal.sites-preserved-in-Some-cell_site
sites-preserved-in-Some-cell_site c =
    let t = goal.at.sites-preserved-in-Some-cell_site c in
    let l = t.At-sites in
    let a = c.args in
    let k = turn t.After-cell_site in
    let n = length_push c.sites.yielded c.in-Some.cell in
    let x = c.in-Some-cell_site.x in
    let site = site-is t.After-cell_site c.in-Some-cell_site.is in
    let met = sites_with (site_by a.p a.w) (cs l) (i l) x k.inside site ∙ ap (λ (j : ℕ). j + 1) c.sites.invariant.2 in
    let r = t.After-search_end-end in
    let s = a.sites.now in
    let e = c.search_end-end.result in
    let all : c.loop-earlier.earlier-index ≡ e = omega (arith, c.loop-earlier-test.false, c.loop-earlier.auto.earlier-index-end, first_searched r (few l)) in
    let none : one_of x (take (search_end (all_met r (few l)) x) (all_met r (few l))) ≡ false =
    ap (λ (j : ℕ). one_of x (take j (all_met r (few l)))) (sym c.search_end-end.ensures) ∙ ap (one_of x) (take-take e c.sites.met s (searched r (few l))) ∙ ap (λ (j : ℕ). one_of x (take j s)) (sym all) ∙ c.loop-earlier.invariant.1 in
    let fresh =
    fresh_passes a.p a.w a.position (take (i l) (cs l)) (cell l) x site (ap (barred a.p) (sym k.is) ∙ sym c.barred.ensures ∙ c.if-barred.false) (stood l x ∙ search-none (all_met r (few l)) x none) in (
      c.in-Some.ensures.steps.0 ∙ c.sites.invariant.0,
      rw n k.next_is,
      rw n met,
      rw n (scan_passes (judge l) (cs l) (i l) k.inside c.sites.invariant.3 fresh),
      c.loop-earlier.invariant.0,
    )

pub sites-preserved : goal.sites-preserved
sites-preserved c =
    let t = goal.at.sites-preserved c in
    let l = t.At-sites in
    let a = c.args in
    let k = turn t.After-cell_site in
    let n = length_push c.sites.yielded c.in-Some.cell in
    let none = site-is t.After-cell_site c.in_default.is in
    let met = sites_without (site_by a.p a.w) (cs l) (i l) k.inside none ∙ c.sites.invariant.2 in (
      c.in-Some.ensures.steps.0 ∙ c.sites.invariant.0,
      rw n k.next_is,
      rw n met,
      rw n (scan_passes (judge l) (cs l) (i l) k.inside c.sites.invariant.3 (none_passes a.p a.w a.position (take (i l) (cs l)) (cell l) none)),
      c.sites.invariant.4,
    )

pub returns-in-None : goal.returns-in-None
returns-in-None c =
    let l = (goal.at.returns-in-None c).At-sites in
    let h = c.in-None.ensures.steps.1 in
    c.sites.invariant.4 ∙ scan-ends (judge l) (cs l) (i l) (walk_end c.args.part.now _ c.sites.invariant.1 (omega (arith, h.0, c.sites.invariant.0))) c.sites.invariant.3
