-- Neither validator alone is kept by cleanup: an event with both sites goes with the one, and the other loses its event. The other validator
-- refuses such an event, by 22 and by 12; so both together are kept (`cleanup_passes`).
use mathlib.Core.Path.{◌≡◌, refl}
use mathlib.Core.List.{List, [], ◌∷◌}
use Prim.Native.Nat.{ℕ}
use Rattle.cells.specs.Cells.{Cell}
use Rattle.cells.specs.View.{view}
use Rattle.cells.specs.Table.{rows, class_of}
use Rattle.cells.specs.declared.refusal.Refusal.TheVariants.{ActivationSiteOnWrite, ActivationSitesDiffer, WriteSiteOnBorrow, WriteSiteUnclaimed}
use Rattle.sites.specs.Sites.{site_of, event_site, site_by}
use Rattle.sites.specs.Validators.{judge_by, repeat_answer, activation_answer, validate_activation_sites, validate_write_sites, site_check}
use Rattle.cleanup.specs.Cleanup.{clean_code, clean_events}
use Rattle.std.specs.Prelude.{Ok, Err}

-- Ret; a StoreVar with the activation site 1; a MakeRecord with the write site 2
abbrev pub ret_cell : Cell
ret_cell = 0x0c ∷ 0 ∷ 0 ∷ 0 ∷ 0 ∷ 0 ∷ 0 ∷ 0 ∷ 0 ∷ 0 ∷ 0 ∷ 0 ∷ 0 ∷ 0 ∷ 0 ∷ 0 ∷ []

abbrev pub store_cell : Cell
store_cell = 0x4d ∷ 0 ∷ 0 ∷ 0 ∷ 0 ∷ 1 ∷ 1 ∷ 0 ∷ 0 ∷ 0 ∷ 0 ∷ 0 ∷ 0 ∷ 0 ∷ 0 ∷ 0 ∷ []

abbrev pub record_cell : Cell
record_cell = 0x32 ∷ 0 ∷ 0 ∷ 0 ∷ 0 ∷ 0 ∷ 0 ∷ 1 ∷ 2 ∷ 0 ∷ 0 ∷ 0 ∷ 0 ∷ 0 ∷ 0 ∷ 0 ∷ []

-- an event of a kind, with the activation site 1 and the write site 2
abbrev pub event_cell : ℕ → Cell
event_cell kind = kind ∷ 1 ∷ 1 ∷ 0 ∷ 0 ∷ 0 ∷ 1 ∷ 2 ∷ 0 ∷ 0 ∷ 0 ∷ 0 ∷ 0 ∷ 0 ∷ 0 ∷ 0 ∷ []

-- the StoreVar before the Ret, the MakeRecord behind it, and the other way round
abbrev pub store_first : List Cell
store_first = store_cell ∷ ret_cell ∷ record_cell ∷ []

abbrev pub record_first : List Cell
record_first = record_cell ∷ ret_cell ∷ store_cell ∷ []

pub activation_alone : (validate_activation_sites 0 store_first (event_cell 0 ∷ []) ≡ Ok tt)
    × (validate_activation_sites 0 (clean_code store_first) (clean_events store_first (event_cell 0 ∷ [])) ≡ Err (ActivationSitesDiffer 0))
    × (site_check 0 store_first (event_cell 0 ∷ []) ≡ Err (WriteSiteOnBorrow 0 2))
unfolding site_of event_site site_by judge_by repeat_answer activation_answer clean_code clean_events view class_of rows
activation_alone = (refl, refl, refl)

pub write_alone : (validate_write_sites 0 record_first (event_cell 1 ∷ []) ≡ Ok tt)
    × (validate_write_sites 0 (clean_code record_first) (clean_events record_first (event_cell 1 ∷ [])) ≡ Err (WriteSiteUnclaimed 0 2))
    × (site_check 0 record_first (event_cell 1 ∷ []) ≡ Err (ActivationSiteOnWrite 0 1))
unfolding site_of event_site site_by judge_by repeat_answer activation_answer clean_code clean_events view class_of rows
write_alone = (refl, refl, refl)
