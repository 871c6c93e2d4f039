-- `pages::line::put_heading` meets its contract.
use Rattle.pages.specs.Pages.{heading}
use Rattle.pages.proofs.line.put_heading.Goals as goal

pub returns : goal.returns
unfolding heading
returns c =
    rw (c.digit.ensures, c.digit-2.ensures, c.digit-3.ensures, c.digit-4.ensures, c.digit-5.ensures, c.digit-6.ensures, c.digit-7.ensures, c.digit-8.ensures) at c.append.ensures
