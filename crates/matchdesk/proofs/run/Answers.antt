use mathlib.Core.Path.{refl}
use native.Mathlib.Omega.{arith}
use Rattle.crystalfold.specs.declared.rules.RuleSet.TheVariants.{Default}
use Rattle.packed.specs.Operations.{pack_result, unpack_result}
use Rattle.matchdesk.specs.Program.{answer_text, answer_bytes, program_texts, work_after}
use Rattle.matchdesk.proofs.PackedTexts.{pack_short, unpack_short, packing_said}
use Rattle.passes.specs.declared.Pass.TheVariants.{Both}
use Rattle.matchdesk.proofs.Replies.{reply_fits, said, rest_fits, rest_said}
use Rattle.matchdesk.proofs.Texts.{none-counted, only-output}
use Rattle.matchdesk.proofs.run.Goals as goal

pub answer_text-requires : goal.answer_text-requires
answer_text-requires c =
    let w = c.run_opt_passes-reply in
    reply_fits c.args.input.now c.args.work.now _ _ _ w.ensures.done (omega (arith, w.auto)) _ c.requires.for_output

pub answer_text-requires-in-Rest : goal.answer_text-requires-in-Rest
answer_text-requires-in-Rest c =
    let w = c.rewrite_until_rest-reply in
    rest_fits c.args.input.now c.args.work.now _ Default _ w.ensures (omega (arith, w.auto)) _ c.requires.for_output

pub answer_bytes-requires : goal.answer_bytes-requires
answer_bytes-requires c =
    let w = c.run_default_opt_passes-reply in
    (reply_fits c.args.input.now c.args.work.now _ (Both Default) _ w.ensures.done (omega (arith, w.auto)) _ c.requires.for_output, c.requires.for_error)

pub returns-in-Rewrite : goal.returns-in-Rewrite
unfolding program_texts work_after
returns-in-Rewrite c =
    let rules = c.in-Rewrite.rules in
    let w = c.run_opt_passes-reply.ensures in
    let v = c.answer_text.ensures in rw c.on_output.ensures (record {
      prefix_len = (v.prefix_len, none-counted c.args.error.now);
      says = rw (c.in-Rewrite.is, said c.args.input.now c.args.work.now _ (Both rules) answer_text (λ x s t. refl) _ w.done c.requires.for_work) (only-output v.text_written c.args.error.now);
      work_after = rw c.in-Rewrite.is w.done.bytes;
    })

pub returns-in-Rest : goal.returns-in-Rest
unfolding program_texts work_after
returns-in-Rest c =
    let e = c.in-Rest.is in
    let w = c.rewrite_until_rest-reply.ensures in
    let v = c.answer_text-in-Rest.ensures in rw c.on_output-in-Rest.ensures (record {
      prefix_len = (v.prefix_len, none-counted c.args.error.now);
      says = rw (e, rest_said c.args.input.now c.args.work.now _ Default answer_text (λ x s t. refl) _ w c.requires.for_work) (only-output v.text_written c.args.error.now);
      work_after = rw e w.bytes;
    })

pub returns-in-Bytes : goal.returns-in-Bytes
unfolding program_texts work_after
returns-in-Bytes c =
    let e = c.in-Bytes.is in
    let w = c.run_default_opt_passes-reply.ensures in
    let v = c.answer_bytes.ensures in record {
      prefix_len = v.prefix_len;
      says = rw (e, said c.args.input.now c.args.work.now _ (Both Default) answer_bytes (λ x s t. refl) _ w.done c.requires.for_work) v.says;
      work_after = rw e w.done.bytes;
    }

pub returns-in-Check : goal.returns-in-Check
unfolding program_texts work_after
returns-in-Check c =
    let e = c.in-Check.is in
    let v = c.check_line.ensures in rw c.on_output-in-Check.ensures (record {
      prefix_len = (v.prefix_len, none-counted c.args.error.now);
      says = rw (e, ← c.site_check.ensures.answer) (only-output v.text_written c.args.error.now);
      work_after = rw e refl;
    })

pub returns-in-Pages : goal.returns-in-Pages
unfolding program_texts work_after
returns-in-Pages c =
    let e = c.in-Pages.is in
    let v = c.lay_out.ensures in rw c.on_output-in-Pages.ensures (record {
      prefix_len = (v.prefix_len, none-counted c.args.error.now);
      says = rw e (only-output v.text_written c.args.error.now);
      work_after = rw e refl;
    })

pub returns-in-Pack : goal.returns-in-Pack
unfolding program_texts work_after
returns-in-Pack c =
    let e = c.in-Pack.is in
    let v = c.answer_packing.ensures in
    let t = packing_said (pack_result c.args.input.now) (pack_short c.args.input.now) (omega (arith, c.requires.for_output)) c.pack.ensures.done (record { output = v.output_value.0; error_text = v.text_written }) in
    record { prefix_len = (t.0, v.output_value.1); says = rw e t.1; work_after = rw e refl }

pub returns-in-Unpack : goal.returns-in-Unpack
unfolding program_texts work_after
returns-in-Unpack c =
    let e = c.in-Unpack.is in
    let v = c.answer_packing-in-Unpack.ensures in
    let t = packing_said (unpack_result c.args.input.now) (unpack_short c.args.input.now) (omega (arith, c.requires.for_output)) c.unpack.ensures.done (record { output = v.output_value.0; error_text = v.text_written }) in
    record { prefix_len = (t.0, v.output_value.1); says = rw e t.1; work_after = rw e refl }

pub returns-in-Seal : goal.returns-in-Seal
unfolding program_texts work_after
returns-in-Seal c =
    let e = c.in-Seal.is in
    let v = c.seal_line.ensures in rw c.on_output-in-Seal.ensures (record {
      prefix_len = (v.prefix_len, none-counted c.args.error.now);
      says = rw (e, ← c.sealing_check.ensures.answer) (only-output v.text_written c.args.error.now);
      work_after = rw e refl;
    })
