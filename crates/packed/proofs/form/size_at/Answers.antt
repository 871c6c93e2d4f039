-- `packed::form::size_at` meets its contract.
use mathlib.Core.Path.{ap, ◌∙◌}
use Prim.Native.Nat.{ℕ, ◌*◌, ◌/◌, ◌%◌, ◌^◌}
use Rattle.packed.proofs.Widths.{size-digit}
use Rattle.packed.proofs.form.size_at.Goals as goal

pub returns : goal.returns
returns c =
    let row = c.args.row in
    ap (λ (n : ℕ). n / 2 ^ (4 * (row % 16)) % 16) c.sizes_from.ensures ∙ size-digit row
