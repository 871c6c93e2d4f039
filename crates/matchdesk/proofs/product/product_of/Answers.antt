use mathlib.Core.Path.{sym, ◌∙◌}
use Rattle.matchdesk.specs.Program.{fx_word, i32_word, product_for}
use Rattle.matchdesk.proofs.Words.{same_test}
use Rattle.matchdesk.proofs.product.product_of.Goals as goal

pub returns-then-same : goal.returns-then-same
unfolding product_for
returns-then-same c = sym (rw (same_test _ _ fx_word c.same.ensures ∙ c.if-same.true))

pub returns-then-same-2 : goal.returns-then-same-2
unfolding product_for
returns-then-same-2 c = sym (rw (same_test _ _ fx_word c.same.ensures ∙ c.if-same.false, same_test _ _ i32_word c.same-2.ensures ∙ c.if-same-2.true))

pub returns : goal.returns
unfolding product_for
returns c = sym (rw (same_test _ _ fx_word c.same.ensures ∙ c.if-same.false, same_test _ _ i32_word c.same-2.ensures ∙ c.if-same-2.false))
