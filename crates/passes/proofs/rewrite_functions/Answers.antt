-- `passes::rewrite_functions` meets its contract, pass by pass.
use Rattle.passes.proofs.WholeImage.{cleaned_ready, cleaned_folded, copied_ready, copied_folded}
use Rattle.passes.proofs.rewrite_functions.Goals as goal

pub fold_functions-requires : goal.fold_functions-requires
fold_functions-requires c =
    let k = c in
    let q = k in
    copied_ready q.args.image.now q.args.out.now q.requires.0 q.requires.1 k.copy_functions-t.ensures

pub fold_functions-requires-in-Both : goal.fold_functions-requires-in-Both
fold_functions-requires-in-Both c =
    let k = c in
    let q = k in
    cleaned_ready q.args.image.now q.args.out.now q.requires.0 q.requires.1 k.clean_functions-t.ensures

pub returns-in-Cleanup : goal.returns-in-Cleanup
returns-in-Cleanup c = rw c.in-Cleanup.is c.clean_functions.ensures

pub returns-in-CrystalFold : goal.returns-in-CrystalFold
returns-in-CrystalFold c =
    let w = c in
    let k = w in
    let q = k in
    rw k.in-CrystalFold.is
    (copied_folded q.args.image.now q.args.out.now q.requires.0 q.requires.1 k.copy_functions-t.ensures w.fold_functions.ensures)

pub returns-in-Both : goal.returns-in-Both
returns-in-Both c =
    let w = c in
    let k = w in
    let q = k in
    rw k.in-Both.is
    (cleaned_folded q.args.image.now q.args.out.now q.requires.0 q.requires.1 k.clean_functions-t.ensures w.fold_functions-in-Both.ensures)
