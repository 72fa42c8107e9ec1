-- `a2m_put::advance::advance_sized` meets its contract. Assumes nothing.
use native.Mathlib.Omega.{arith}
use Prim.Native.Nat.{ℕ}
use mathlib.Core.Path.{◌≡◌, refl, ap, ap₂, ◌∙◌}
use mathlib.Core.Logic.{◌≢◌}
use Rattle.std.specs.Prelude.{Ok, Err}
use Rattle.a2m.specs.Call.{advance, done}
use Rattle.a2m.specs.TableCalls.{table_step}
use Rattle.a2m.specs.Opened.{Opened}
use Rattle.a2m.proofs.Answered.{as_err, changed, changed_not, same-change}
use Rattle.a2m.proofs.CallLaws.{advance-sized, advance-position, advance-crowded, advance-done, advance-high, has_room, unopened}
use Rattle.a2m.proofs.OpenedLaws.{opened}
use mathlib.Core.Bool.{true}
use Rattle.refusal.specs.Unwritten.{unwritten, counts}
use Rattle.a2m_put.proofs.advance.advance_sized.Code.Mir.{function}
use Rattle.a2m_put.proofs.advance.advance_sized.Goals as goal
use Rattle.a2m_put.proofs.advance.advance_sized.Goals.{In_ok-view}

-- no literal of the body becomes the count
pub counted : unwritten counts function.body ≡ true
counted = refl

-- the table is opened at the log
at : (c : goal.In_ok-view) → Opened c.args.table.now c.in_ok-view.view × (c.in_ok-view.view.log ≡ c.args.log)
at c = opened c.args.table.now c.args.log c.in_ok-view.view c.in_ok-view.ensures

-- the call, at the log that was opened
same : (c : goal.In_ok-view) → advance c.in_ok-view.view.log c.args.position c.args.digest.now c.args.value.now ≡ advance c.args.log c.args.position c.args.digest.now c.args.value.now
same c = ap (λ (g : ℕ). advance g c.args.position c.args.digest.now c.args.value.now) (at c).1

pub returns-in_err-view : goal.returns-in_err-view
returns-in_err-view c =
    let call = advance c.args.log c.args.position c.args.digest.now c.args.value.now in
    changed_not (table_step c.args.table.now call) _ (as_err _ c.from_residual.ensures) (unopened c.args.table.now c.args.log _ call c.in_err-view.ensures refl (advance-sized c.args.table.now c.args.position c.args.digest.now c.args.value.now c.args.log (omega arith) (omega arith)))

pub returns-then-position-view : goal.returns-then-position-view
returns-then-position-view c =
    let k = goal.at.returns-then-position-view c in
    same-change c.args.table.now (same k.In_ok-view)
    (changed_not (table_step c.args.table.now (advance c.in_ok-view.view.log c.args.position c.args.digest.now c.args.value.now)) _ (ap Err c.into.ensures) (advance-position c.args.table.now c.args.position c.args.digest.now c.args.value.now c.in_ok-view.view (at k.In_ok-view).0 (omega arith) (omega arith) c.if-position-view.true))

pub returns-in_err-room : goal.returns-in_err-room
returns-in_err-room c =
    let k = goal.at.returns-in_err-room c in
    same-change c.args.table.now (same k.In_ok-view)
    (changed_not (table_step c.args.table.now (advance c.in_ok-view.view.log c.args.position c.args.digest.now c.args.value.now)) _ (as_err _ c.from_residual-in_err-room.ensures) (advance-crowded c.args.table.now c.args.position c.args.digest.now c.args.value.now c.in_ok-view.view (at k.In_ok-view).0 (omega arith) (omega arith) c.if-position-view.false _ c.in_err-room.ensures))

pub enter-requires : goal.enter-requires
enter-requires c =
    let v = c.in_ok-view.view in
    let f : v.free ≢ 0 = (has_room v c.in_ok-room.ensures).0 in
    let h = advance-high v.row c.advance-after.result c.args.position v.free c.advance-after.ensures in
    record { opened = (at (goal.at.enter-requires c).In_ok-view).0; le_free = omega arith; after_value = h.0; high_bound = omega (arith, h.1, c.ranges.position) }

pub returns : goal.returns
returns c =
    let k = goal.at.returns c in
    let v = c.in_ok-view.view in
    same-change c.args.table.now (same k.In_ok-view)
    (changed (table_step c.args.table.now (advance v.log c.args.position c.args.digest.now c.args.value.now)) (Ok c.enter.result)
    (advance-done c.args.table.now c.args.position c.args.digest.now c.args.value.now v (at k.In_ok-view).0 (omega arith) (omega arith) c.if-position-view.false c.in_ok-room.ensures c.advance-after.result c.entry_digest-own.result.value c.advance-after.ensures c.entry_digest-own.ensures.0
    _ _ _ (ap₂ done c.enter.ensures.low c.enter.ensures.high) (c.enter.ensures.blocks ∙ c.entry_digest-own.ensures.1) c.enter.ensures.bytes))
