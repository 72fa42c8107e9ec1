-- `a2m_truncate::truncate` meets its contract. Assumes nothing.
use Prim.Native.Nat.{ℕ}
use mathlib.Core.Path.{◌≡◌, refl, ap, ap₂}
use Rattle.std.specs.Prelude.{Ok, Err}
use Rattle.a2m.specs.Call.{truncate, done}
use Rattle.a2m.specs.TableCalls.{table_step}
use Rattle.a2m.specs.Opened.{Opened}
use Rattle.a2m.proofs.Answered.{as_err, changed, changed_not, same-change}
use Rattle.a2m.proofs.CallLaws.{truncate-sized, truncate-outside, truncate-done, unopened}
use Rattle.a2m.proofs.OpenedLaws.{opened}
use mathlib.Core.Bool.{true}
use Rattle.refusal.specs.Unwritten.{unwritten, counts}
use Rattle.a2m_truncate.proofs.truncate.Code.Mir.{function}
use Rattle.a2m_truncate.proofs.truncate.Goals as goal
use Rattle.a2m_truncate.proofs.truncate.Goals.{In_ok-view}

-- no literal of the body becomes the count
pub counted : unwritten counts function.body ≡ true
counted = refl

-- the table is opened at the log
at : (c : goal.In_ok-view) → Opened c.args.table.now c.in_ok-view.view × (c.in_ok-view.view.log ≡ c.args.log)
at c = opened c.args.table.now c.args.log c.in_ok-view.view c.in_ok-view.ensures

-- the call, at the log that was opened
same : (c : goal.In_ok-view) → truncate c.in_ok-view.view.log c.args.position ≡ truncate c.args.log c.args.position
same c = ap (λ (g : ℕ). truncate g c.args.position) (at c).1

pub returns-in_err-view : goal.returns-in_err-view
returns-in_err-view c =
    let call = truncate c.args.log c.args.position in
    changed_not (table_step c.args.table.now call) _ (as_err _ c.from_residual.ensures) (unopened c.args.table.now c.args.log _ call c.in_err-view.ensures refl (truncate-sized c.args.table.now c.args.position c.args.log))

pub returns-then-position-view : goal.returns-then-position-view
returns-then-position-view c =
    let k = goal.at.returns-then-position-view c in
    same-change c.args.table.now (same k.In_ok-view)
    (changed_not (table_step c.args.table.now (truncate c.in_ok-view.view.log c.args.position)) _ (ap Err c.into.ensures) (truncate-outside c.args.table.now c.args.position c.in_ok-view.view (at k.In_ok-view).0 c.then-position-view.either))

pub returns : goal.returns
returns c =
    let k = goal.at.returns c in
    same-change c.args.table.now (same k.In_ok-view)
    (changed (table_step c.args.table.now (truncate c.in_ok-view.view.log c.args.position)) (Ok _) (truncate-done c.args.table.now c.args.position c.in_ok-view.view (at k.In_ok-view).0 c.if-position-view.false c.if-view-position.false _ _ _ (ap₂ done c.strike.ensures.low c.strike.ensures.high) refl c.strike.ensures.bytes))

pub strike-requires-clause-opened : goal.strike-requires-clause-opened
strike-requires-clause-opened c = (at (goal.at.strike-requires-clause-opened c).In_ok-view).0
