-- `sites::site_by` meets its contract.
use mathlib.Core.Path.{refl, ap, ◌∙◌}
use Prim.Native.Nat.{◌+◌, ◌*◌}
use Rattle.cells.proofs.Cells.{part-cell}
use Rattle.sites.specs.Sites.{site_by}
use Rattle.sites.proofs.site_by.Goals as goal

pub returns : goal.returns
returns c =
    let a = c.args in
    c.cell_site.ensures ∙ ap (site_by a.p a.w) (part-cell a.s.now (16 * a.i) (16 * a.i + 16) a.i refl refl c.requires)
