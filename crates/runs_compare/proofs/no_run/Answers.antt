-- `runs_compare::no_run` meets its contract.
use native.Mathlib.Omega.{arith}
use Rattle.std.proofs.lemmas.Bool.Decides.{nat_tests}
use Rattle.runs.specs.Call.{no_run}
use Rattle.runs.proofs.NoRun.{by_last}
use Rattle.runs_compare.proofs.no_run.Goals as goal
use Rattle.runs_compare.proofs.no_run.Goals.{then-n-eq0, else-n-eq0, then-n-ne0, else-n-ne0}

pub returns-then-first-eq0 : goal.returns-then-first-eq0
unfolding no_run
returns-then-first-eq0 c = elim c.if-n-ne0.branch [
  | then-n-ne0 w ↦ elim c.if-n-eq0.branch [ then-n-eq0 v ↦ grind (arith, nat_tests) | else-n-eq0 v ↦ grind (arith, nat_tests) ]
  | else-n-ne0 w ↦ elim c.if-n-eq0.branch [ then-n-eq0 v ↦ grind (arith, nat_tests) | else-n-eq0 v ↦ grind (arith, nat_tests) ]
]

pub returns-else-first-eq0 : goal.returns-else-first-eq0
returns-else-first-eq0 c = elim c.if-n-ne0.branch [
  | then-n-ne0 w ↦ grind (arith, nat_tests)
  | else-n-ne0 w ↦ elim c.if-n-eq0.branch [ then-n-eq0 v ↦ grind (arith, nat_tests) | else-n-eq0 v ↦ by_last c.args.first c.args.values.now v.if-n-eq0.false (grind (arith, nat_tests)) (grind (arith, nat_tests)) c.ranges.first.fits ]
]
