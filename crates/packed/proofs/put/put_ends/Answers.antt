-- `packed::put::put_ends` meets its contract.
use Rattle.std.proofs.lemmas.List.{length-replicate}
use Rattle.packed.proofs.Puts.{two_ends}
use Rattle.packed.proofs.put.put_ends.Goals as goal

pub returns : goal.returns
returns g c =
    let q = c.requires in
    two_ends c.args.s.now c.args.out.now _ c.args.k q.0 q.1 q.2 q.3 _ _ _ _ _ _ (length-replicate g.row.W 0) (length-replicate g.row.W 0)
    c.copy.ensures.1
    c.copy-2.ensures.1
    c.copy-3.ensures.1
    c.copy-4.ensures.1
