use mathlib.Core.Path.{sym, ◌∙◌, ap}
use mir.Syntax.{w32}
use mir.Val.{SFits}
use borrow.Author.Rules.{rules}
use Rattle.leaves.proofs.Ranges.{passed}
use Rattle.matchdesk.specs.Program.{on_output, factor_by, found_text}
use Rattle.matchdesk.proofs.Factors.{wanted_none, factor_none, factor_some}
use Rattle.matchdesk.proofs.Texts.{only-output, only_error}
use Rattle.matchdesk.proofs.product.find_factor.Goals as goal
use Rattle.std.specs.Prelude.{ℤ, Option}

pub returns-in_default-clause-says : goal.returns-in_default-clause-says
returns-in_default-clause-says c =
    let e = wanted_none c.args.product c.args.wanted.now c.args.factor.now c.read_i32.ensures c.in_default.is in
    rw (c.on_error.ensures, e) (only_error c.append.ensures c.args.output.now)

pub returns-in_default-read_i32-clause-says : goal.returns-in_default-read_i32-clause-says
returns-in_default-read_i32-clause-says c =
    let e = factor_none c.args.product c.args.wanted.now c.args.factor.now c.read_i32.ensures c.in-Some.is c.read_i32-2.ensures c.in_default-read_i32.is in
    rw (c.on_error-in_default-read_i32.ensures, e) (only_error c.append-in_default-read_i32.ensures c.args.output.now)

pub returns-clause-says : goal.returns-clause-says
returns-clause-says c =
    let w : SFits w32 c.in-Some.w = search rules in
    let f : SFits w32 c.in-Some-read_i32.f = search rules in
    let q = c.factor_by.ensures ∙ passed (factor_by c.args.product) _ _ w.sfits f.sfits in
    let e = factor_some c.args.product c.args.wanted.now c.args.factor.now c.read_i32.ensures c.in-Some.is c.read_i32-2.ensures c.in-Some-read_i32.is
    ∙ ap (λ (x : Option ℤ). on_output (found_text x)) (sym q) in
    rw (c.on_output.ensures, e) (only-output c.put_found.ensures.text_written c.args.error.now)
