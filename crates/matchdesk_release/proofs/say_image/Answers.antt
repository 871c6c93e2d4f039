use mathlib.Core.Path.{sym, ◌∙◌, ap}
use native.Mathlib.Omega.{arith}
use Rattle.cells.specs.Bytes.{word}
use Rattle.listing.specs.Promises.{TextWritten}
use Rattle.release.specs.Frames.{frame}
use Rattle.release.specs.Release.{outcome, handed_back, numbers_as}
use Rattle.release.proofs.Alone.{back_shorter}
use Rattle.matchdesk_release.specs.Program.{image_texts}
use Rattle.matchdesk_release.proofs.Lines.{first_back, second_back, third_back, numbers_are, counted}
use Rattle.matchdesk_release.proofs.say_image.Goals as goal

pub returns : goal.returns
unfolding image_texts
returns c =
    let l = c in
    let w₃ = l in
    let w₂ = w₃ in
    let w₁ = w₂ in
    let r = w₁ in
    let q = r in
    let i = q.args.image.now in
    let x = numbers_as (outcome i) in
    let p = r.rewrite_image-n.ensures in
    let e = numbers_are x w₁.word.result w₂.word-2.result w₃.word-3.result
    (w₁.word.ensures.0 ∙ ap (λ s. word s 0) p.numbers ∙ first_back x _)
    (w₂.word-2.ensures.0 ∙ ap (λ s. word s 4) p.numbers ∙ second_back x _)
    (w₃.word-3.ensures.0 ∙ ap (λ s. word s 8) p.numbers ∙ third_back x _) in
    let t : TextWritten (frame (handed_back i)) q.args.frame.now r.rewrite_image-n.new.out r.rewrite_image-n.result = record { end = p.count; bytes = p.bytes } in
    record {
      prefix_len = (counted (frame (handed_back i)) q.args.frame.now _ r.rewrite_image-n.result t (omega (arith, back_shorter i, q.requires.0)), l.image_line.ensures.prefix_len);
      says = record { on_output = t; on_error = rw (sym e) l.image_line.ensures.text_written };
    }
