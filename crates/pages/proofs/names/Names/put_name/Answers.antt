-- `Names::put_name` meets its contract.
use mathlib.Core.Path.{◌≡◌, ◌∙◌, ap, ap₂}
use mathlib.Core.List.{List}
use Prim.Native.Nat.{ℕ, ◌+◌, ◌-◌, ◌*◌}
use native.Mathlib.Omega.{arith}
use lib.ListN.{length, take, drop}
use Rattle.cells.specs.Names.{name_of}
use Rattle.listing.specs.Places.{ascii, fill}
use Rattle.pages.specs.Steps.{name_table}
use Rattle.pages.proofs.NameTable.{row_small, table_at, table-length}
use Rattle.pages.proofs.names.Names.put_name.Goals as goal

pub overflow_mul-a : goal.overflow_mul-a
overflow_mul-a c =
    record { fits = omega (arith, c.row_of-a.ensures, row_small c.args.p c.args.cell.now c.requires.0.0) }

pub overflow_add-b : goal.overflow_add-b
overflow_add-b c =
    record { fits = omega (arith, c.row_of-a.ensures, row_small c.args.p c.args.cell.now c.requires.0.0) }

pub slice_bounds-append-end : goal.slice_bounds-append-end
slice_bounds-append-end c =
    omega (arith, c.row_of-a.ensures, row_small c.args.p c.args.cell.now c.requires.0.0, ap length c.args.self.now.all, table-length)

pub returns : goal.returns
returns c =
    let r = c.row_of-a in
    let d : 18 * r.result + 18 - 18 * r.result ≡ 18 = omega arith in
    let e : take (18 * r.result + 18 - 18 * r.result) (drop (18 * r.result) c.args.self.now.bytes) ≡ fill 18 (ascii (name_of c.args.p c.args.cell.now)) =
    ap₂ (λ (n : ℕ) (t : List ℕ). take n (drop (18 * r.result) t)) d c.args.self.now.all ∙ ap (λ (k : ℕ). take 18 (drop (18 * k) name_table)) r.ensures
    ∙ table_at c.args.p c.args.cell.now c.requires.0.0 in
    rw e at c.append.ensures
