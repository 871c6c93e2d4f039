-- `release::place::rewrite_image` meets its contract.
use Prim.Native.Nat.{ℕ, ◌+◌, ◌-◌, ◌≤◌, min}
use mathlib.Core.Path.{◌≡◌, ◌∙◌, ap}
use mathlib.Core.List.{List}
use native.Mathlib.Omega.{arith}
use lib.ListN.{length, take, drop}
use Rattle.cells.specs.Cells.{over}
use Rattle.cells.specs.Check.{max_image}
use Rattle.cells.specs.declared.refusal.Numbers.{Numbers}
use Rattle.crystalfold.specs.declared.rules.RuleSet.TheVariants.{Default}
use Rattle.passes.specs.Promises.{RewriteDone, length_written}
use Rattle.release.specs.Frames.{Image}
use Rattle.release.specs.Release.{outcome, handed_back, numbers_as, three_numbers}
use Rattle.release.specs.Steps.{Small}
use Rattle.release.proofs.Alone.{back_length, back_shorter, numbers_small, same_answer, enough_lent, frame-placed}
use borrow.Author.Rules.{rules}
use Rattle.release.proofs.place.rewrite_image.Goals as goal
use Rattle.passes.specs.Rewrite.{Rewrite}

-- the rewrite of an image in its place, in the part of the output that it is lent
module _ (i : Image) (out : List ℕ) {part : List ℕ} {r : Rewrite} (room : 4 + min (length i) max_image ≤ length out)
    (d : RewriteDone Default i (take (length out - 4) (drop 4 out)) part r) where
  -- the answer is that of the image alone
  reply-is : r ≡ outcome i
  reply-is = d.done.answer ∙ same_answer i (take (length out - 4) (drop 4 out)) (enough_lent i out room)

  -- and so is the length
  length-is : {n : ℕ} → n ≡ length_written r → n ≡ length (handed_back i)
  length-is e = e ∙ ap length_written reply-is ∙ back_length i

pub put_number-requires : goal.put_number-requires
put_number-requires c =
    let i = c.args.image.now in
    (omega (arith, length-is i c.args.out.now c.requires.room c.run_default_opt_passes-reply.ensures c.length_written-n.ensures, back_shorter i), search rules)

pub put_numbers-requires : goal.put_numbers-requires
put_numbers-requires c =
    let i = c.args.image.now in
    let s : Small c.numbers_as.result = rw (c.numbers_as.ensures, reply-is i c.args.out.now c.requires.room c.run_default_opt_passes-reply.ensures) (numbers_small i (λ k. (c.type_inv.image k).fits)) in
    (s, c.requires.numbers)

pub returns : goal.returns
returns c =
    let i = c.args.image.now in
    let reply = reply-is i c.args.out.now c.requires.room c.run_default_opt_passes-reply.ensures in
    let l = length-is i c.args.out.now c.requires.room c.run_default_opt_passes-reply.ensures c.length_written-n.ensures in
    record {
      bytes = frame-placed i c.args.out.now c.requires.room _ _ c.length_written-n.result c.run_default_opt_passes-reply.ensures.done.bytes l c.put_number.ensures;
      numbers = c.put_numbers.ensures ∙ ap (λ (x : Numbers). over (three_numbers x) c.args.answer.now) (c.numbers_as.ensures ∙ ap numbers_as reply);
      count = omega (arith, l);
    }
