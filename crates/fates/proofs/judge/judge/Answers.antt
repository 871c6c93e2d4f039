-- `judge::judge` meets its contract: each arm is one turn.
use Rattle.std.proofs.Common.{◌≡◌, ℕ, ◌<◌, ◌≤◌, ◌/◌, List, length, length-set, ◌∙◌, arith}
use Rattle.leaves.specs.declared.constant.ConstVal.{ConstVal}
use Rattle.cells.specs.Check.{registers}
use Rattle.crystalfold.specs.declared.command.Command.{Command}
use Rattle.crystalfold.specs.declared.command.Command.TheVariants.{Compute}
use Rattle.crystalfold.proofs.Effects.{Within}
use Rattle.fates.specs.declared.Fate.{Fate}
use Rattle.fates.proofs.Judging.{JudgedTo, judged_start, judged_end, position_below, bound, turn_barrier, turn_load, turn_forget, turn_other, turn_compute, unwrapped}
use Rattle.fates.proofs.judge.judge.Goals as goal
use Rattle.fates.proofs.judge.judge.Goals.{After-decode_at, After-from-p, In-Compute, in-Barrier, in-Load, in-Compute, in-Forget, in-Other}

pub loop-at-init : goal.loop-at-init
loop-at-init c =
    let a = c.args in
    record {
      judged = judged_start a.code.now a.list.now a.fates.now _ c.nothing-known.ensures.nothing;
      size = c.nothing-known.ensures.size;
    }

-- the position of a turn
module _ (p : After-from-p) where
  inside : p.loop-at.at-index < length p.args.list.now
  inside = omega (arith, p.loop-at-test.true)

  below : p.from-p.result < length p.args.code.now / 16
  below = omega (arith, p.from-p.ensures, position_below p.requires p.loop-at.at-index inside)

pub bounds-fates-p : goal.bounds-fates-p
bounds-fates-p c = omega (arith, below (goal.at.bounds-fates-p c).After-from-p, c.requires.room, c.loop-at.invariant.judged.as_many)

pub decode_at-requires : goal.decode_at-requires
decode_at-requires c = omega (arith, below (goal.at.decode_at-requires c).After-from-p)

-- at an arm: that the command's registers are in the table
module _ (d : After-decode_at) where
  left : d.loop-at.at-index < length d.args.list.now
  left = omega (arith, d.loop-at-test.true)

  size : registers ≤ length d.loop-at.known
  size = d.loop-at.invariant.size

  large : registers ≤ length d.loop-at.known
  large = size

  registers_of_lem : {command : Command} → d.decode_at.result ≡ command → Within command
  registers_of_lem = bound d.loop-at.invariant.judged d.requires left d.from-p.ensures d.decode_at.ensures

pub note-requires : goal.note-requires
note-requires c = registers_of_lem (goal.at.note-requires c).After-decode_at c.in-Load.is

module _ (t : In-Compute) where
  abbrev told : Command
  told = let p = t.in-Compute in Compute p.op p.dst p.lhs p.rhs

  all_within : Within told
  all_within =
      let left : t.loop-at.at-index < length t.args.list.now = omega (arith, t.loop-at-test.true) in
      bound t.loop-at.invariant.judged t.requires left t.from-p.ensures t.decode_at.ensures t.in-Compute.is

pub of-requires : goal.of-requires
of-requires c = (all_within (goal.at.of-requires c).In-Compute).1

pub of-requires-in-Compute : goal.of-requires-in-Compute
of-requires-in-Compute c = (all_within (goal.at.of-requires-in-Compute c).In-Compute).2

pub note-requires-in-Compute : goal.note-requires-in-Compute
note-requires-in-Compute c = (all_within (goal.at.note-requires-in-Compute c).In-Compute).0

pub forget-requires : goal.forget-requires
forget-requires c = registers_of_lem (goal.at.forget-requires c).After-decode_at c.in-Forget.is

-- the state after an arm
moved : {code list : List ℕ} {i : ℕ} {fates₀ fates fates' : List Fate} {held held' : List ConstVal}
    → fates' ≡ fates → held' ≡ held → registers ≤ length held → JudgedTo code list fates₀ fates held i
    → record { judged : JudgedTo code list fates₀ fates' held' i; size : registers ≤ length held' }
moved e g z j = rw (e, g) (record { judged = j; size = z })

pub loop-at-preserved : goal.loop-at-preserved
loop-at-preserved c =
    let d = (goal.at.loop-at-preserved c).After-decode_at in
    let j = c.loop-at.invariant.judged in
    let p = c.from-p.ensures in
    let e = c.decode_at.ensures in
    elim c.match-decode_at.branch [
      | in-Barrier w ↦ moved w.fates-is w.known-is w.clear.ensures.size (turn_barrier j c.requires (left d) p e w.in-Barrier.is w.clear.ensures.nothing.at)
      | in-Load w ↦ moved w.fates-is (w.known-is ∙ w.note.ensures) (rw length-set (size d)) (turn_load j c.requires (left d) p e (large d) w.in-Load.is)
      | in-Compute w ↦ moved w.fates-is (w.known-is ∙ w.note-in-Compute.ensures) (rw length-set (size d))
          (turn_compute j c.requires (left d) p e (large d) w.in-Compute.is (rw (w.of.ensures, w.of-in-Compute.ensures) at w.fold_value-v.ensures) w.of_verdict.ensures (w.unwrap_or.ensures ∙ unwrapped w.fold_value-v.result))
      | in-Forget w ↦ moved w.fates-is (w.known-is ∙ w.forget.ensures) (rw length-set (size d)) (turn_forget j c.requires (left d) p e (large d) w.in-Forget.is)
      | in-Other w ↦ moved w.fates-is w.known-is (size d) (turn_other j c.requires (left d) p e w.in-Other.is)
    ]

pub returns : goal.returns
returns c = judged_end c.loop-at.invariant.judged (omega (arith, c.loop-at-test.false))
