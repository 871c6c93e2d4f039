-- Promise: what a command comes to at two operands: a value, or the first reason why there is none.
use Rattle.std.specs.Prelude.{Result}
use Rattle.leaves.specs.declared.constant.ConstVal.{ConstVal}
use Rattle.leaves.specs.declared.verdict.Decline.{Decline}

abbrev pub Verdict : Type 0
Verdict = Result ConstVal Decline
