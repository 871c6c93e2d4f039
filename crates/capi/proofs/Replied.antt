-- The promises follow from those of the operations, and from the numbers that their answers are.
use Prim.Native.Nat.{ℕ}
use mathlib.Core.Path.{◌≡◌, refl, sym, ◌∙◌, ap}
use mathlib.Core.Logic.{◌↔◌}
use mathlib.Core.Bool.{true, true≢false}
use mathlib.Core.List.{List}
use native.Mathlib.Omega.{arith}
use lib.IntN.{ℤ}
use mir.Syntax.{w32}
use mir.Val.{SFits, of_z, to_z}
use Rattle.cells.specs.Refusals.{numbers_of}
use Rattle.cells.specs.declared.refusal.Refusal.{Refusal}
use Rattle.cells.specs.declared.refusal.Refusal.TheVariants.{Length, Head, UnknownCommand, Operand, OutputTooShort, ActivationSiteRepeated, ActivationSiteOnWrite, ActivationSiteClaimedTwice, ActivationSitesDiffer, WriteSiteRepeated, WriteSiteOnBorrow, WriteWithoutSite, WriteSiteUnclaimed, StoreVarSiteClaimedTwice, WriteSiteUnknown}
use Rattle.image.specs.Operations.{ImageChecked, SiteChecked}
use Rattle.pages.specs.Promises.{is_laid, PagesDone}
use Rattle.packed.specs.Operations.{PackDone, UnpackDone, is_written as is_packed}
use Rattle.passes.specs.Promises.{is_written, PassDone, RewriteDone}
use Rattle.passes.specs.declared.Pass.{Pass}
use Rattle.crystalfold.specs.declared.rules.RuleSet.{RuleSet}
use Rattle.release.specs.Promises.{is_written as is_released, ReleaseDone}
use Rattle.rest.specs.Promises.{RestDone}
use Rattle.sealing.specs.Promises.{SealingChecked}
use Rattle.sites.specs.declared.Which.TheVariants.{Activation, Write}
use Rattle.factor.specs.Claim.{FactorFound}
use Rattle.factor.specs.Factor.{factor_fx, factor_i32}
use Rattle.factor.proofs.Claim.{factors_found-fx, factors_found-i32}
use Rattle.leaves.specs.Fixed.{mul_fx}
use Rattle.leaves.specs.Signed.{mul_i32}
use Rattle.leaves.specs.declared.constant.ConstVal.TheVariants.{I32, Fx}
use Rattle.leaves.proofs.Ranges.{passed}
use Rattle.leaves.specs.declared.constant.ConstVal.{ConstVal}
use Rattle.capi.specs.Replies.{three, two, check_reply, sealing_reply, rewrite_reply, release_reply, pages_reply, packing_reply, factor_reply}
use Rattle.capi.specs.Promises.{ImageReplied, SitesReplied, SealingReplied, PassReplied, RewriteReplied, RestReplied, ReleaseReplied, PagesReplied, PackReplied, UnpackReplied, FactorReplied}
use Rattle.capi.specs.declared.FactorReply.{FactorReply}
use Rattle.capi.specs.declared.Reply.{Reply}
use Rattle.std.specs.Prelude.{Option, Some, None, Ok, Err}
use Rattle.cells.specs.Checked.{Checked}
use Rattle.pages.specs.Answer.{Paged}
use Rattle.pages.specs.declared.PagesError.TheVariants.{Refused as RefusedPages, TooShort}
use Rattle.packed.specs.Answer.{Packing}
use Rattle.packed.specs.declared.PackingError.TheVariants.{Refused as RefusedPacking, Ends}
use Rattle.passes.specs.Rewrite.{Rewrite}
use Rattle.sealing.specs.Answer.{Sealing}
use Rattle.sealing.specs.declared.SealingError.TheVariants.{Refused as RefusedSealing, Repeated}
use Rattle.leaves.specs.Verdict.{Verdict}

-- ---- 0 is no refusal's number

refused : (x : Refusal) → (numbers_of x).number ≡ 0 → ⊥
refused Length e = omega (arith, e)
refused (Head p d) e = omega (arith, e)
refused (UnknownCommand p d) e = omega (arith, e)
refused (Operand p d) e = omega (arith, e)
refused OutputTooShort e = omega (arith, e)
refused (ActivationSiteRepeated p d) e = omega (arith, e)
refused (ActivationSiteOnWrite p d) e = omega (arith, e)
refused (ActivationSiteClaimedTwice p d) e = omega (arith, e)
refused (ActivationSitesDiffer p) e = omega (arith, e)
refused (WriteSiteRepeated p d) e = omega (arith, e)
refused (WriteSiteOnBorrow p d) e = omega (arith, e)
refused (WriteWithoutSite p) e = omega (arith, e)
refused (WriteSiteUnclaimed p d) e = omega (arith, e)
refused (StoreVarSiteClaimedTwice p d) e = omega (arith, e)
refused (WriteSiteUnknown p d) e = omega (arith, e)

check_zero : (r : Checked) → ((check_reply r).number ≡ 0) ↔ (r ≡ Ok tt)
check_zero (Ok tt) = ((λ e. refl), (λ e. refl))
check_zero (Err x) = ((λ e. absurd (refused x e)), (λ e. ap (λ (r : Checked). (check_reply r).number) e))

sealing_zero : (r : Sealing) → ((sealing_reply r).number ≡ 0) ↔ (r ≡ Ok tt)
sealing_zero (Ok tt) = ((λ e. refl), (λ e. refl))
sealing_zero (Err (RefusedSealing x)) = ((λ e. absurd (refused x e)), (λ e. ap (λ (r : Sealing). (sealing_reply r).number) e))
sealing_zero (Err (Repeated Activation p x)) = ((λ e. absurd (omega (arith, e))), (λ e. ap (λ (r : Sealing). (sealing_reply r).number) e))
sealing_zero (Err (Repeated Write p x)) = ((λ e. absurd (omega (arith, e))), (λ e. ap (λ (r : Sealing). (sealing_reply r).number) e))

rewrite_zero : (r : Rewrite) → ((rewrite_reply r).number ≡ 0) ↔ (is_written r ≡ true)
rewrite_zero (Ok w) = ((λ e. refl), (λ e. refl))
rewrite_zero (Err x) = ((λ e. absurd (refused x e)), (λ e. absurd (true≢false (sym e))))

release_zero : (r : Option ℕ) → ((release_reply r).number ≡ 0) ↔ (is_released r ≡ true)
release_zero (Some n) = ((λ e. refl), (λ e. refl))
release_zero None = ((λ e. absurd (omega (arith, e))), (λ e. absurd (true≢false (sym e))))

pages_zero : (r : Paged) → ((pages_reply r).number ≡ 0) ↔ (is_laid r ≡ true)
pages_zero (Ok n) = ((λ e. refl), (λ e. refl))
pages_zero (Err (RefusedPages x)) = ((λ e. absurd (refused x e)), (λ e. absurd (true≢false (sym e))))
pages_zero (Err TooShort) = ((λ e. absurd (omega (arith, e))), (λ e. absurd (true≢false (sym e))))

packing_zero : (r : Packing) → ((packing_reply r).number ≡ 0) ↔ (is_packed r ≡ true)
packing_zero (Ok n) = ((λ e. refl), (λ e. refl))
packing_zero (Err (RefusedPacking x)) = ((λ e. absurd (refused x e)), (λ e. absurd (true≢false (sym e))))
packing_zero (Err (Ends p d)) = ((λ e. absurd (omega (arith, e))), (λ e. absurd (true≢false (sym e))))

-- ---- the promises, for the three numbers of an answer r

abbrev number_of : Reply → ℕ
number_of q = q.number

via : {P Q : Type 0} {q t : Reply} → q ≡ t → (t.number ≡ 0) ↔ P → P ↔ Q → (q.number ≡ 0) ↔ Q
via e f g = ((λ z. g.0 (f.0 (sym (ap number_of e) ∙ z))), (λ z. ap number_of e ∙ f.1 (g.1 z)))

pub image_replied : (s : List ℕ) (r : Checked) (n a b : ℕ) → ImageChecked s r → three n a b ≡ check_reply r → ImageReplied s n a b
image_replied s r n a b h e = record { reply = e ∙ ap check_reply h.answer; accepted = via e (check_zero r) h.accepted }

pub sites_replied : (s : List ℕ) (r : Checked) (n a b : ℕ) → SiteChecked s r → three n a b ≡ check_reply r → SitesReplied s n a b
sites_replied s r n a b h e = record { reply = e ∙ ap check_reply h.answer; accepted = via e (check_zero r) h.accepted }

pub sealing_replied : (s : List ℕ) (r : Sealing) (n a b : ℕ) → SealingChecked s r → three n a b ≡ sealing_reply r → SealingReplied s n a b
sealing_replied s r n a b h e = record {
  reply = e ∙ ap sealing_reply h.answer;
  accepted = via e (sealing_zero r) h.accepted;
  checked = rw (sym h.answer) h;
}

pub pass_replied : (p : Pass) (s before after : List ℕ) (r : Rewrite) (n a b : ℕ) → PassDone p s before after r → three n a b ≡ rewrite_reply r
    → PassReplied p s before after n a b
pass_replied p s before after r n a b h e = record {
  reply = e ∙ ap rewrite_reply h.answer;
  accepted = via e (rewrite_zero r) h.accepted;
  done = rw (sym h.answer) h;
}

pub rewrite_replied : (k : RuleSet) (s before after : List ℕ) (r : Rewrite) (n a b : ℕ) → RewriteDone k s before after r → three n a b ≡ rewrite_reply r
    → RewriteReplied k s before after n a b
rewrite_replied k s before after r n a b h e = record {
  reply = e ∙ ap rewrite_reply h.done.answer;
  accepted = via e (rewrite_zero r) h.done.accepted;
  done = rw (sym h.done.answer) h;
}

pub rest_replied : (k : RuleSet) (s before after : List ℕ) (r : Rewrite) (n a b : ℕ) → RestDone k s before after r → three n a b ≡ rewrite_reply r
    → RestReplied k s before after n a b
rest_replied k s before after r n a b h e = record {
  reply = e ∙ ap rewrite_reply h.answer;
  accepted = via e (rewrite_zero r) h.accepted;
  done = rw (sym h.answer) h;
}

pub release_replied : (s out out' answers answers' : List ℕ) (r : Option ℕ) (n a b : ℕ) → ReleaseDone s out out' answers answers' r → three n a b ≡ release_reply r
    → ReleaseReplied s out out' answers answers' n a b
release_replied s out out' answers answers' r n a b h e = record {
  reply = e ∙ ap release_reply h.answer;
  accepted = via e (release_zero r) h.accepted;
  done = rw (sym h.answer) h;
}

pub pages_replied : (s before after : List ℕ) (r : Paged) (n a b : ℕ) → PagesDone s before after r → three n a b ≡ pages_reply r
    → PagesReplied s before after n a b
pages_replied s before after r n a b h e = record {
  reply = e ∙ ap pages_reply h.answer;
  accepted = via e (pages_zero r) h.accepted;
  done = rw (sym h.answer) h;
}

pub pack_replied : (s before after : List ℕ) (r : Packing) (n a b : ℕ) → PackDone s before after r → three n a b ≡ packing_reply r
    → PackReplied s before after n a b
pack_replied s before after r n a b h e = record {
  reply = e ∙ ap packing_reply h.done.answer;
  accepted = via e (packing_zero r) h.accepted;
  done = rw (sym h.done.answer) h;
}

pub unpack_replied : (s before after : List ℕ) (r : Packing) (n a b : ℕ) → UnpackDone s before after r → three n a b ≡ packing_reply r
    → UnpackReplied s before after n a b
unpack_replied s before after r n a b h e = record {
  reply = e ∙ ap packing_reply h.done.answer;
  accepted = via e (packing_zero r) h.accepted;
  done = rw (sym h.done.answer) h;
}

-- ---- of a factor, whatever the product

right_replied : (product : ℤ → ℤ → Verdict) (wanted : ConstVal) (factor : ℤ) (r : Option ℤ) → FactorFound product wanted factor r
    → FactorReplied product wanted factor r (factor_reply r).number (factor_reply r).other
right_replied product wanted factor (Some x) h = record {
  reply = refl;
  accepted = ((λ e. (x, h.right.is)), (λ f. refl));
  nearest = λ e. h.right;
  refused = ((λ e. absurd (omega (arith, e))), (λ n. absurd (n x h.right.is)));
}
right_replied product wanted factor None h = record {
  reply = refl;
  accepted = ((λ e. absurd (omega (arith, e))), (λ f. absurd (h.right f.0 f.1)));
  nearest = λ e. absurd (omega (arith, e));
  refused = ((λ e. h.right), (λ n. refl));
}

factor_replied : (product : ℤ → ℤ → Verdict) (kind : ℤ → ConstVal) (find : ℤ → ℤ → Option ℤ) → ((w a : ℤ) → FactorFound product (kind w) a (find w a))
    → {w a x : ℤ} {n : ℕ} {r : Option ℤ} → SFits w32 w → SFits w32 a
    → r ≡ find (to_z w32 (of_z w32 w)) (to_z w32 (of_z w32 a)) → two n x ≡ factor_reply r → FactorReplied product (kind w) a (find w a) n x
factor_replied product kind find right {w} {a} {x} {n} h k e f =
    let g : two n x ≡ factor_reply (find w a) = f ∙ ap factor_reply (e ∙ passed find w a h.sfits k.sfits) in
    rw (ap (λ (q : FactorReply). q.number) g, ap (λ (q : FactorReply). q.other) g) (right_replied product (kind w) a (find w a) (right w a))

pub fx_replied : {w a x : ℤ} {n : ℕ} {r : Option ℤ} → SFits w32 w → SFits w32 a
    → r ≡ factor_fx (to_z w32 (of_z w32 w)) (to_z w32 (of_z w32 a)) → two n x ≡ factor_reply r → FactorReplied mul_fx (Fx w) a (factor_fx w a) n x
fx_replied = factor_replied mul_fx Fx factor_fx factors_found-fx

pub i32_replied : {w a x : ℤ} {n : ℕ} {r : Option ℤ} → SFits w32 w → SFits w32 a
    → r ≡ factor_i32 (to_z w32 (of_z w32 w)) (to_z w32 (of_z w32 a)) → two n x ≡ factor_reply r → FactorReplied mul_i32 (I32 w) a (factor_i32 w a) n x
i32_replied = factor_replied mul_i32 I32 factor_i32 factors_found-i32
