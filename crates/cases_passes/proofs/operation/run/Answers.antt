use mathlib.Core.Path.{refl}
use Rattle.cases_passes.proofs.operation.run.Goals as goal

pub returns-in-ImageCheck : goal.returns-in-ImageCheck
returns-in-ImageCheck c = simp (c.from.ensures, c.image_check.ensures.answer, c.in-ImageCheck.is) (record { value = refl; out_after = refl })

pub returns-in-SiteCheck : goal.returns-in-SiteCheck
returns-in-SiteCheck c = simp (c.from-in-SiteCheck.ensures, c.site_check.ensures.answer, c.in-SiteCheck.is) (record { value = refl; out_after = refl })

pub returns-in-Cleanup : goal.returns-in-Cleanup
returns-in-Cleanup c =
    let d = c.cleanup.ensures in
    simp (c.from-in-Cleanup.ensures, d.answer, d.bytes, c.in-Cleanup.is) (record { value = refl; out_after = refl })

pub returns-in-CrystalFold : goal.returns-in-CrystalFold
returns-in-CrystalFold c =
    let d = c.crystalfold.ensures in
    simp (c.from-in-CrystalFold.ensures, d.answer, d.bytes, c.in-CrystalFold.is) (record { value = refl; out_after = refl })

pub returns-in-Default : goal.returns-in-Default
returns-in-Default c =
    let d = c.run_default_opt_passes.ensures.done in
    simp (c.from-in-Default.ensures, d.answer, d.bytes, c.in-Default.is) (record { value = refl; out_after = refl })

pub returns-in-Fuller : goal.returns-in-Fuller
returns-in-Fuller c =
    let d = c.run_fuller_opt_passes.ensures.done in
    simp (c.from-in-Fuller.ensures, d.answer, d.bytes, c.in-Fuller.is) (record { value = refl; out_after = refl })

pub returns-in-Pages : goal.returns-in-Pages
returns-in-Pages c =
    let d = c.pages.ensures in
    simp (c.from-in-Pages.ensures, d.answer, d.bytes, c.in-Pages.is) (record { value = refl; out_after = refl })

pub returns-in-Pack : goal.returns-in-Pack
returns-in-Pack c =
    let d = c.pack.ensures.done in
    simp (c.from-in-Pack.ensures, d.answer, d.bytes, c.in-Pack.is) (record { value = refl; out_after = refl })

pub returns-in-Unpack : goal.returns-in-Unpack
returns-in-Unpack c =
    let d = c.unpack.ensures.done in
    simp (c.from-in-Unpack.ensures, d.answer, d.bytes, c.in-Unpack.is) (record { value = refl; out_after = refl })

pub returns-in-Rest : goal.returns-in-Rest
returns-in-Rest c =
    let d = c.rewrite_until_rest.ensures in
    simp (c.from-in-Rest.ensures, d.answer, d.bytes, c.in-Rest.is) (record { value = refl; out_after = refl })

pub returns-in-Seal : goal.returns-in-Seal
returns-in-Seal c = simp (c.from-in-Seal.ensures, c.sealing_check.ensures.answer, c.in-Seal.is) (record { value = refl; out_after = refl })

pub returns-in-Release : goal.returns-in-Release
returns-in-Release c =
    let d = c.rewrite_release.ensures in
    rw c.in-Release.is (record { value = d.value; out_after = d.lent_after })
