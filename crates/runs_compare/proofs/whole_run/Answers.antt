-- `runs_compare::whole_run` meets its contract.
use mathlib.Core.Path.{sym, ◌∙◌}
use Rattle.runs.proofs.NoRun.{run-reaches}
use Rattle.runs_compare.proofs.whole_run.Goals as goal

pub invariant_of-result : goal.invariant_of-result
invariant_of-result c = record { reaches = (run-reaches c.args.first c.args.values.now (sym c.no_run.ensures ∙ c.if-no_run.false)).1 }
