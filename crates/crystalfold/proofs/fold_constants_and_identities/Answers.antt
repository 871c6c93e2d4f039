-- `fold_constants_and_identities` meets its contract: each arm is one turn.
use Rattle.std.proofs.Common.{◌≡◌, ℕ, ◌+◌, ◌<◌, ◌≤◌, ◌/◌, List, length, length-set, ap, ◌∙◌, arith, rules}
use Rattle.leaves.specs.declared.constant.ConstVal.{ConstVal}
use Rattle.cells.specs.Check.{registers}
use Rattle.crystalfold.specs.declared.rules.RuleSet.{RuleSet}
use Rattle.crystalfold.specs.declared.command.Command.{Command}
use Rattle.crystalfold.specs.declared.command.Command.TheVariants.{Compute}
use Rattle.crystalfold.proofs.Effects.{Within}
use Rattle.crystalfold.proofs.Turn.{Done, bound, turn_barrier, turn_load, turn_forget, turn_other, turn_compute, start, ended}
use Rattle.crystalfold.proofs.fold_constants_and_identities.Goals as goal
use Rattle.crystalfold.proofs.fold_constants_and_identities.Goals.{After-decode_at, In-Compute, in-Barrier, in-Load, in-Compute, in-Forget, in-Other}

-- at an arm: the turn's state, that cells are left, and that the command's registers are in the table
module _ (d : After-decode_at) where
  inv : Done d.args.rules d.args.instrs.now (length d.args.instrs.now / 16) d.loop-at.instrs d.loop-at.known d.loop-at.rewrites d.loop-at.at
  inv = d.loop-at.invariant.done

  left : d.loop-at.at < length d.args.instrs.now / 16
  left = d.loop-at-test.true

  size : registers ≤ length d.loop-at.known
  size = d.loop-at.invariant.size

  large : registers ≤ length d.loop-at.known
  large = size

  registers_of_lem : {command : Command} → d.decode_at.result ≡ command → Within command
  registers_of_lem = bound inv left d.decode_at.ensures

pub loop-at-init : goal.loop-at-init
loop-at-init c = record {
  done = start c.requires c.nothing-known.ensures.nothing;
  size = c.nothing-known.ensures.size;
}

pub note-requires : goal.note-requires
note-requires c = registers_of_lem (goal.at.note-requires c).After-decode_at c.in-Load.is

-- a computed command's registers
module _ (t : In-Compute) where
  abbrev told : Command
  told = let p = t.in-Compute in Compute p.op p.dst p.lhs p.rhs

  all_within : Within told
  all_within = registers_of_lem t.before t.in-Compute.is

pub of-requires : goal.of-requires
of-requires c = (all_within (goal.at.of-requires c).In-Compute).1

pub of-requires-in-Compute : goal.of-requires-in-Compute
of-requires-in-Compute c = (all_within (goal.at.of-requires-in-Compute c).In-Compute).2

pub fold_command-v-requires : goal.fold_command-v-requires
fold_command-v-requires c = (search rules, omega (arith, (all_within (goal.at.fold_command-v-requires c).In-Compute).0))

pub note-requires-in-Compute : goal.note-requires-in-Compute
note-requires-in-Compute c = (all_within (goal.at.note-requires-in-Compute c).In-Compute).0

pub forget-requires : goal.forget-requires
forget-requires c = registers_of_lem (goal.at.forget-requires c).After-decode_at c.in-Forget.is

-- the state after an arm
moved : {s : RuleSet} {bytes₀ : List ℕ} {n i : ℕ} {bytes bytes' : List ℕ} {held held' : List ConstVal} {count count' : ℕ}
    → bytes' ≡ bytes → held' ≡ held → count' ≡ count → registers ≤ length held → Done s bytes₀ n bytes held count i
    → record { done : Done s bytes₀ n bytes' held' count' i; size : registers ≤ length held' }
moved e f g z d = rw (e, f, g) (record { done = d; size = z })

pub loop-at-preserved : goal.loop-at-preserved
loop-at-preserved c =
    let d = (goal.at.loop-at-preserved c).After-decode_at in
    elim c.match-decode_at.branch [
      | in-Barrier w ↦ moved w.instrs-is w.known-is w.rewrites-is w.clear.ensures.size (turn_barrier (inv d) (left d) c.decode_at.ensures w.in-Barrier.is w.clear.ensures.nothing.at)
      | in-Load w ↦ moved w.instrs-is (w.known-is ∙ w.note.ensures) w.rewrites-is (rw length-set (size d)) (turn_load (inv d) (left d) c.decode_at.ensures (large d) w.in-Load.is)
      | in-Compute w ↦ moved w.instrs-is (w.known-is ∙ w.note-in-Compute.ensures) w.rewrites-is (rw length-set (size d))
          (turn_compute (inv d) (left d) c.decode_at.ensures (large d) w.in-Compute.is (rw (w.of.ensures, w.of-in-Compute.ensures) at w.fold_command-v.ensures) _ (ap (λ (x : ℕ). c.loop-at.rewrites + x) w.one_if-rewrites.ensures))
      | in-Forget w ↦ moved w.instrs-is (w.known-is ∙ w.forget.ensures) w.rewrites-is (rw length-set (size d)) (turn_forget (inv d) (left d) c.decode_at.ensures (large d) w.in-Forget.is)
      | in-Other w ↦ moved w.instrs-is w.known-is w.rewrites-is (size d) (turn_other (inv d) (left d) c.decode_at.ensures w.in-Other.is)
    ]

pub returns : goal.returns
returns c = ended c.loop-at.invariant.done c.loop-at-test.false
