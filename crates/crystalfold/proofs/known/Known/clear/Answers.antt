-- `Known::clear` meets its contract.
use Rattle.std.proofs.Common.{◌≤◌, length, refl, ◌∙◌, arith, length-set}
use Rattle.cells.specs.Check.{registers}
use Rattle.crystalfold.specs.Known.{NothingKnown}
use Rattle.crystalfold.proofs.Written.{nothing_known, known_from-next, known_from-end, known_from-take, since_nothing}
use Rattle.crystalfold.proofs.known.Known.clear.Goals as goal
use Rattle.crystalfold.proofs.known.Known.clear.Goals.{After-self-2-1, then-self-eq-LISTED, else-self-eq-LISTED+else-loop-register-test}

pub loop-register-init : goal.loop-register-init
loop-register-init c =
    let s = c.self.invariant in
    (known_from-take (omega (arith, s.few, c.self.told)) (s.rest (omega (arith, s.few, c.if-self-eq-LISTED.false))), refl)

pub loop-register-preserved : goal.loop-register-preserved
loop-register-preserved c = let i = c.loop-register.invariant in (known_from-next i.0, length-set _ _ _ ∙ i.1)

-- both ways
nothing : (c : After-self-2-1) → NothingKnown c.if-self-eq-LISTED.self-inside.values × (registers ≤ length c.if-self-eq-LISTED.self-inside.values)
nothing c = elim c.if-self-eq-LISTED.branch [
  | then-self-eq-LISTED w ↦ let e = w.self-inside-is in rw e (nothing_known _ refl, omega arith)
  | else-self-eq-LISTED+else-loop-register-test w ↦ let e = w.self-inside-is in rw e (known_from-end w.loop-register.invariant.0 w.loop-register-test.false, omega (arith, w.loop-register.invariant.1, c.self.invariant.size))
]

pub invariant_of-self : goal.invariant_of-self
invariant_of-self c = let n = nothing c in since_nothing n.1 n.0

pub returns-clause-nothing : goal.returns-clause-nothing
returns-clause-nothing c = (nothing c).0

pub returns-clause-size : goal.returns-clause-size
returns-clause-size c = (nothing c).1
