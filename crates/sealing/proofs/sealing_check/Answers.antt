-- `sealing::sealing_check` meets its contract.
use Rattle.std.proofs.lemmas.Result.{err_from_is_err_and}
use Rattle.sealing.proofs.Checking.{by-site_check, short, by_activation_numbers, by_write_numbers}
use Rattle.sealing.proofs.sealing_check.Goals as goal

pub returns-in_err-site_check : goal.returns-in_err-site_check
returns-in_err-site_check c =
    let p = err_from_is_err_and c.from_residual.result c.from_residual.ensures.1 in
    rw (p.1, p.2) (by-site_check c.args.image.now c.site_check.ensures c.in_err-site_check.was)

pub check_numbering-requires : goal.check_numbering-requires
check_numbering-requires c = short c.args.image.now c.site_check.ensures c.in_ok-site_check.was

pub returns-in_err-check_numbering : goal.returns-in_err-check_numbering
returns-in_err-check_numbering c =
    let p = err_from_is_err_and c.from_residual-in_err-check_numbering.result c.from_residual-in_err-check_numbering.ensures.1 in
    rw (p.1, p.2) (by_activation_numbers c.args.image.now c.site_check.ensures c.in_ok-site_check.was c.check_numbering.ensures c.in_err-check_numbering.was)

pub check_numbering-requires-2 : goal.check_numbering-requires-2
check_numbering-requires-2 c = short c.args.image.now c.site_check.ensures c.in_ok-site_check.was

pub returns : goal.returns
returns c =
    by_write_numbers c.args.image.now c.site_check.ensures c.in_ok-site_check.was c.check_numbering.ensures c.in_ok-check_numbering.was c.check_numbering-2.ensures
