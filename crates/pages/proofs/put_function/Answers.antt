-- `pages::put_function` meets its contract.
use mathlib.Core.Path.{sym}
use native.Mathlib.Omega.{arith}
use Rattle.cells.specs.Functions.{Function, function_of}
use Rattle.cells.proofs.Cells.{length-cells}
use Rattle.pages.proofs.Laying.{function-length, code_room, events_room, function-written}
use Rattle.pages.proofs.put_function.Goals as goal

pub put_heading-a-requires : goal.put_heading-a-requires
put_heading-a-requires c =
    let f : Function = function_of c.args.f.head.now c.args.f.code.now c.args.f.events.now in
    omega (arith, c.requires.1.room, function-length f)

pub put_part-b-requires : goal.put_part-b-requires
put_part-b-requires c =
    let f : Function = function_of c.args.f.head.now c.args.f.code.now c.args.f.events.now in
    let n = c.half-name.ensures.0 in
    let u = c.put_heading-a in
    code_room f c.requires.1 n u.ensures (omega (arith, u.auto))

pub put_part-requires : goal.put_part-requires
put_part-requires c =
    let f : Function = function_of c.args.f.head.now c.args.f.code.now c.args.f.events.now in
    let n = c.half-name.ensures.0 in
    let u = c.put_heading-a in
    let e = sym (length-cells c.args.f.code.now) in
    let v = c.put_part-b in
    events_room f c.requires.1 n u.ensures (omega (arith, u.auto)) e v.ensures (omega (arith, v.auto))

pub returns : goal.returns
returns c =
    let f : Function = function_of c.args.f.head.now c.args.f.code.now c.args.f.events.now in
    let n = c.half-name.ensures.0 in
    let u = c.put_heading-a in
    let e = sym (length-cells c.args.f.code.now) in
    let v = c.put_part-b in
    function-written f c.requires.1 n u.ensures (omega (arith, u.auto)) e v.ensures (omega (arith, v.auto)) c.put_part.ensures
