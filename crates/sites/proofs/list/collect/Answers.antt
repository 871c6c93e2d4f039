-- `sites::list::collect` meets its contract.
use mathlib.Core.Path.{◌≡◌, refl, sym, ◌∙◌, ap}
use mathlib.Core.List.{List}
use Prim.Native.Nat.{ℕ, ◌+◌, ◌/◌, ◌<◌}
use native.Mathlib.Omega.{arith}
use lib.ListN.{length, drop, drop_of_length-le}
use Rattle.cells.specs.Cells.{Cell, cells}
use Rattle.cells.proofs.Cells.{length-cells, Walked, walk_turn, walk_end}
use Rattle.cells.proofs.Going.{going_start, going_put, going_drop, going_end}
use Rattle.cells.proofs.Spans.{drop-next}
use Rattle.sites.specs.Sites.{site_by, with_site, sites_on}
use Rattle.sites.proofs.list.collect.Goals as goal
use Rattle.sites.proofs.list.collect.Goals.{After-cell_site}
use Rattle.std.specs.Prelude.{Option}
use Rattle.std.proofs.lemmas.List.{length_push}

-- a turn over the cells: what was read is the site on the one at i
cells_turn : (s : List ℕ) (i : ℕ) {c next : List ℕ} → Walked s i c next → (f : Cell → Option ℕ) {r t : Option ℕ} → r ≡ f c → r ≡ t
    → sites_on f (drop i (cells s)) ≡ with_site t (sites_on f (drop (i + 1) (cells s)))
cells_turn s i k f e g =
    ap (sites_on f) (drop-next (cells s) i k.inside) ∙ ap (λ (x : Option ℕ). with_site x (sites_on f (drop (i + 1) (cells s)))) (ap f (sym k.is) ∙ sym e ∙ g)

turn : (t : After-cell_site) → Walked t.args.s.now (length t.loop-cell.yielded) t.in-Some.cell.now t.next.new.self.rest.now
turn t =
    let i = t.loop-cell.invariant in
    let h = t.in-Some.ensures.steps.1 in
    walk_turn t.args.s.now (length t.loop-cell.yielded) i.1 h.0 (h.1 ∙ i.0)

pub loop-cell-init : goal.loop-cell-init
loop-cell-init c = (cc, cc, going_start c.args.list.now (length c.args.s.now / 16) refl)

inside : (t : After-cell_site) → length t.loop-cell.yielded < length t.args.s.now / 16
inside t = omega (arith, (turn t).inside, length-cells t.args.s.now)

pub loop-cell-preserved-in-Some-cell_site : goal.loop-cell-preserved-in-Some-cell_site
loop-cell-preserved-in-Some-cell_site c =
    let l = c.loop-cell in
    let t = (goal.at.loop-cell-preserved-in-Some-cell_site c).After-cell_site in
    let n = length_push l.yielded c.in-Some.cell in (
      c.in-Some.ensures.steps.0 ∙ l.invariant.0,
      rw n (turn t).next_is,
      rw n (going_put l.invariant.2 c.in-Some-cell_site.x c.requires (inside t) (cells_turn c.args.s.now (length l.yielded) (turn t) (site_by c.args.p c.args.w) c.cell_site.ensures c.in-Some-cell_site.is)),
    )

pub loop-cell-preserved : goal.loop-cell-preserved
loop-cell-preserved c =
    let l = c.loop-cell in
    let t = (goal.at.loop-cell-preserved c).After-cell_site in
    let n = length_push l.yielded c.in-Some.cell in (
      c.in-Some.ensures.steps.0 ∙ l.invariant.0,
      rw n (turn t).next_is,
      rw n (going_drop l.invariant.2 (inside t) (cells_turn c.args.s.now (length l.yielded) (turn t) (site_by c.args.p c.args.w) c.cell_site.ensures c.in_default.is)),
    )

pub returns : goal.returns
returns c =
    let i = c.loop-cell.invariant in
    let h = c.in-None.ensures.steps.1 in
    going_end i.2 (ap (sites_on (site_by c.args.p c.args.w)) (drop_of_length-le (cells c.args.s.now) (walk_end c.args.s.now _ i.1 (omega (arith, h.0, i.0)))))
