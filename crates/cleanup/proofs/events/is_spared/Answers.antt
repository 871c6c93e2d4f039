-- `cleanup::events::is_spared` meets its contract.
use mathlib.Core.Path.{sym, ◌∙◌, ap, ap₂}
use mathlib.Core.Bool.{Bool, ◌||◌, not}
use Rattle.cleanup.proofs.GoneSites.{event_site_lem}
use Rattle.cleanup.specs.Receipts.{among}
use Rattle.sites.specs.declared.Which.TheVariants.{Activation, Write}
use Rattle.cleanup.proofs.events.is_spared.Goals as goal

pub returns : goal.returns
returns c =
    let a = c.args in
    let s = a.events.now in
    sym (ap₂ (λ (x y : Bool). not (x || y))
    (ap (among a.activations.now) (event_site_lem s a.i Activation c.requires c.site_by-borrow.ensures) ∙ sym c.among.ensures)
    (ap (among a.writes.now) (event_site_lem s a.i Write c.requires c.site_by-write.ensures) ∙ sym c.among-2.ensures))
