-- `matchdesk::job_of` meets its contract: past a test, the word is none of those before.
use mathlib.Core.Path.{sym, ◌∙◌}
use Rattle.matchdesk.specs.Program.{rewrite_word, fuller_word, rest_word, bytes_word, check_word, pages_word, pack_word, unpack_word, seal_word, asked_for}
use Rattle.matchdesk.proofs.Words.{same_test}
use Rattle.matchdesk.proofs.job_of.Goals as goal

pub returns-then-same : goal.returns-then-same
unfolding asked_for
returns-then-same c = sym (rw (same_test _ _ rewrite_word c.same.ensures ∙ c.if-same.true))

pub returns-then-same-2 : goal.returns-then-same-2
unfolding asked_for
returns-then-same-2 c = sym (rw (
  same_test _ _ rewrite_word c.same.ensures ∙ c.if-same.false,
  same_test _ _ fuller_word c.same-2.ensures ∙ c.if-same-2.true,
))

pub returns-then-same-3 : goal.returns-then-same-3
unfolding asked_for
returns-then-same-3 c = sym (rw (
  same_test _ _ rewrite_word c.same.ensures ∙ c.if-same.false,
  same_test _ _ fuller_word c.same-2.ensures ∙ c.if-same-2.false,
  same_test _ _ rest_word c.same-3.ensures ∙ c.if-same-3.true,
))

pub returns-then-same-4 : goal.returns-then-same-4
unfolding asked_for
returns-then-same-4 c = sym (rw (
  same_test _ _ rewrite_word c.same.ensures ∙ c.if-same.false,
  same_test _ _ fuller_word c.same-2.ensures ∙ c.if-same-2.false,
  same_test _ _ rest_word c.same-3.ensures ∙ c.if-same-3.false,
  same_test _ _ bytes_word c.same-4.ensures ∙ c.if-same-4.true,
))

pub returns-then-same-5 : goal.returns-then-same-5
unfolding asked_for
returns-then-same-5 c = sym (rw (
  same_test _ _ rewrite_word c.same.ensures ∙ c.if-same.false,
  same_test _ _ fuller_word c.same-2.ensures ∙ c.if-same-2.false,
  same_test _ _ rest_word c.same-3.ensures ∙ c.if-same-3.false,
  same_test _ _ bytes_word c.same-4.ensures ∙ c.if-same-4.false,
  same_test _ _ check_word c.same-5.ensures ∙ c.if-same-5.true,
))

pub returns-then-same-6 : goal.returns-then-same-6
unfolding asked_for
returns-then-same-6 c = sym (rw (
  same_test _ _ rewrite_word c.same.ensures ∙ c.if-same.false,
  same_test _ _ fuller_word c.same-2.ensures ∙ c.if-same-2.false,
  same_test _ _ rest_word c.same-3.ensures ∙ c.if-same-3.false,
  same_test _ _ bytes_word c.same-4.ensures ∙ c.if-same-4.false,
  same_test _ _ check_word c.same-5.ensures ∙ c.if-same-5.false,
  same_test _ _ pages_word c.same-6.ensures ∙ c.if-same-6.true,
))

pub returns-then-same-7 : goal.returns-then-same-7
unfolding asked_for
returns-then-same-7 c = sym (rw (
  same_test _ _ rewrite_word c.same.ensures ∙ c.if-same.false,
  same_test _ _ fuller_word c.same-2.ensures ∙ c.if-same-2.false,
  same_test _ _ rest_word c.same-3.ensures ∙ c.if-same-3.false,
  same_test _ _ bytes_word c.same-4.ensures ∙ c.if-same-4.false,
  same_test _ _ check_word c.same-5.ensures ∙ c.if-same-5.false,
  same_test _ _ pages_word c.same-6.ensures ∙ c.if-same-6.false,
  same_test _ _ pack_word c.same-7.ensures ∙ c.if-same-7.true,
))

pub returns-then-same-8 : goal.returns-then-same-8
unfolding asked_for
returns-then-same-8 c = sym (rw (
  same_test _ _ rewrite_word c.same.ensures ∙ c.if-same.false,
  same_test _ _ fuller_word c.same-2.ensures ∙ c.if-same-2.false,
  same_test _ _ rest_word c.same-3.ensures ∙ c.if-same-3.false,
  same_test _ _ bytes_word c.same-4.ensures ∙ c.if-same-4.false,
  same_test _ _ check_word c.same-5.ensures ∙ c.if-same-5.false,
  same_test _ _ pages_word c.same-6.ensures ∙ c.if-same-6.false,
  same_test _ _ pack_word c.same-7.ensures ∙ c.if-same-7.false,
  same_test _ _ unpack_word c.same-8.ensures ∙ c.if-same-8.true,
))

pub returns-then-same-9 : goal.returns-then-same-9
unfolding asked_for
returns-then-same-9 c = sym (rw (
  same_test _ _ rewrite_word c.same.ensures ∙ c.if-same.false,
  same_test _ _ fuller_word c.same-2.ensures ∙ c.if-same-2.false,
  same_test _ _ rest_word c.same-3.ensures ∙ c.if-same-3.false,
  same_test _ _ bytes_word c.same-4.ensures ∙ c.if-same-4.false,
  same_test _ _ check_word c.same-5.ensures ∙ c.if-same-5.false,
  same_test _ _ pages_word c.same-6.ensures ∙ c.if-same-6.false,
  same_test _ _ pack_word c.same-7.ensures ∙ c.if-same-7.false,
  same_test _ _ unpack_word c.same-8.ensures ∙ c.if-same-8.false,
  same_test _ _ seal_word c.same-9.ensures ∙ c.if-same-9.true,
))

pub returns : goal.returns
unfolding asked_for
returns c = sym (rw (
  same_test _ _ rewrite_word c.same.ensures ∙ c.if-same.false,
  same_test _ _ fuller_word c.same-2.ensures ∙ c.if-same-2.false,
  same_test _ _ rest_word c.same-3.ensures ∙ c.if-same-3.false,
  same_test _ _ bytes_word c.same-4.ensures ∙ c.if-same-4.false,
  same_test _ _ check_word c.same-5.ensures ∙ c.if-same-5.false,
  same_test _ _ pages_word c.same-6.ensures ∙ c.if-same-6.false,
  same_test _ _ pack_word c.same-7.ensures ∙ c.if-same-7.false,
  same_test _ _ unpack_word c.same-8.ensures ∙ c.if-same-8.false,
  same_test _ _ seal_word c.same-9.ensures ∙ c.if-same-9.false,
))
