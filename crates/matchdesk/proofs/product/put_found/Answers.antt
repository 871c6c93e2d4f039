use native.Mathlib.Nat.{le_trans}
use native.Mathlib.Omega.{arith}
use borrow.Author.Rules.{rules}
use mir.Syntax.{w32}
use mir.Val.{SFits}
use mir.Facts.{to_z-of_z}
use Rattle.numbers.proofs.Signs.{length-line}
use Rattle.matchdesk.proofs.Texts.{counted}
use Rattle.matchdesk.proofs.product.put_found.Goals as goal

pub returns-in-Some : goal.returns-in-Some
returns-in-Some c =
    let ok : SFits w32 c.in-Some.z = search rules in
    let w = rw (to_z-of_z ok) at c.put_i32.ensures in
    rw c.in-Some.is (record { prefix_len = counted w (le_trans (length-line _) (omega arith)); text_written = w })

pub returns-in-None : goal.returns-in-None
returns-in-None c =
    let w = c.refused_line.ensures in
    rw c.in-None.is (record { prefix_len = w.prefix_len; text_written = w.text_written })
