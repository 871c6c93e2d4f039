-- `packed::pack` meets its contract.
use Rattle.std.proofs.lemmas.Result.{err_from_is_err_and}
use borrow.Author.Rules.{rules}
use mathlib.Core.Path.{◌≡◌, sym, ◌∙◌}
use Prim.Native.Nat.{◌≤◌}
use native.Mathlib.Omega.{arith}
use lib.ListN.{length}
use Rattle.cells.specs.Check.{max_image}
use Rattle.image.specs.Image.{image_answer}
use Rattle.image.proofs.Good.{image_good}
use Rattle.image.proofs.Steps.{image_uneven}
use Rattle.cells.specs.declared.refusal.Refusal.TheVariants.{Length}
use Rattle.packed.specs.Form.{packed}
use Rattle.packed.proofs.Lengths.{packed-most}
use Rattle.packed.proofs.Undo.{pack_nothing, pack_refused, pack_too_long, pack_written}
use Rattle.packed.proofs.pack.Goals as goal
use Rattle.packed.proofs.pack.Goals.{In_ok-check_image, Joined-else-out-most_kept, else-out-most_kept-via-then-out-most_kept+else-out-length_kept, else-out-most_kept-via-else-out-most_kept}
use Rattle.std.specs.Prelude.{Ok}

-- no cells
pub returns-then-is_empty : goal.returns-then-is_empty
returns-then-is_empty c =
    let a = c.args in
    pack_nothing a.image.now a.out.now (search rules)

-- a part of a cell
pub returns-then-image-lt-CELL : goal.returns-then-image-lt-CELL
returns-then-image-lt-CELL c =
    let a = c.args in
    let s = a.image.now in
    let some : length s ≡ 0 → ⊥ = search rules in
    pack_refused s a.out.now Length (sym (image_uneven s (omega arith) (λ e. omega (arith, some, e))))

pub returns-in_err-check_image : goal.returns-in_err-check_image
returns-in_err-check_image c =
    let a = c.args in
    let p = err_from_is_err_and c.from_residual.result c.from_residual.ensures.1 in
    rw (p.1, p.2) (pack_refused a.image.now a.out.now _ (sym c.check_image.ensures ∙ c.in_err-check_image.was))

-- past the check, the image is good
good : (c : In_ok-check_image) → image_answer c.args.image.now ≡ Ok tt
good c = sym c.check_image.ensures ∙ c.in_ok-check_image.was

short : (c : In_ok-check_image) → length c.args.image.now ≤ max_image
short c = ((image_good c.args.image.now).0 (good c)).short

pub returns-then-out-length_kept : goal.returns-then-out-length_kept
returns-then-out-length_kept c =
    let a = c.args in
    pack_too_long a.image.now a.out.now (good (goal.at.returns-then-out-length_kept c).In_ok-check_image) (omega (arith, c.length_kept.ensures))

-- past both tests, the output has the room: for whatever that many cells keep, or for what these keep
room : (c : Joined-else-out-most_kept) → length (packed c.args.image.now) ≤ length c.args.out.now
room c =
    elim c.else-out-most_kept.branch [
      | else-out-most_kept-via-then-out-most_kept+else-out-length_kept w ↦ omega (arith, w.length_kept.ensures, w.if-out-length_kept.false)
      | else-out-most_kept-via-else-out-most_kept w ↦ omega (arith, packed-most c.args.image.now, c.most_kept.ensures, w.if-out-most_kept.false)
    ]

pub returns : goal.returns
returns c =
    let a = c.args in
    let k = c.keep_cells in
    pack_written a.image.now a.out.now k.result _ (good (goal.at.returns c).In_ok-check_image) k.ensures.0 (omega (arith, k.ensures.0, room (goal.at.returns c).Joined-else-out-most_kept)) k.ensures.1

pub most_kept-requires : goal.most_kept-requires
most_kept-requires c = omega (arith, short c)

pub keep_cells-requires : goal.keep_cells-requires
keep_cells-requires c = (short (goal.at.keep_cells-requires c).In_ok-check_image, room (goal.at.keep_cells-requires c).Joined-else-out-most_kept)
