-- `sites::list::search_end` meets its contract.
use Rattle.sites.proofs.Counted.{counted_end, counted-all}
use Rattle.sites.proofs.list.search_end.Goals as goal

pub returns-then-count-eq0 : goal.returns-then-count-eq0
returns-then-count-eq0 c = counted_end c.args.list.now c.args.x c.count.ensures c.if-count-eq0.true

pub returns : goal.returns
returns c = counted-all c.args.list.now c.args.x c.count.ensures c.if-count-eq0.false
