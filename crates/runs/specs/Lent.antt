-- The runs that the program holds.
use Rattle.runs.specs.Run.{Run, run}
use Rattle.runs.specs.declared.Run.{Run as LentRun}
use Rattle.runs.specs.declared.WholeRun.{WholeRun}

-- a run as it is lent
abbrev pub lent : LentRun → Run
lent r = run r.start.now r.first r.values.now

-- and one that is not refused
abbrev pub whole : WholeRun → Run
whole r = run r.start.now r.first r.values.now
