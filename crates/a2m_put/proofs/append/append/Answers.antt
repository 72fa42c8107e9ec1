-- `a2m_put::append::append` meets its contract. Assumes nothing.
use native.Mathlib.Omega.{arith}
use lib.ListN.{length}
use mathlib.Core.Logic.{◌≢◌}
use mathlib.Core.Path.{◌≡◌, refl, ap, ap₂, ◌∙◌}
use Prim.Native.Nat.{ℕ}
use Rattle.std.specs.Prelude.{Ok, Err}
use Rattle.layout.specs.Image.{slot_at}
use Rattle.layout.specs.Layout.{read_table}
use Rattle.entry.specs.Digest.{entry_digest}
use Rattle.a2m.specs.Call.{append, done}
use Rattle.a2m.specs.TableCalls.{table_step}
use Rattle.a2m.specs.Opened.{Opened}
use Rattle.refusal.specs.declared.Refusal.TheVariants as why
use Rattle.receipt.proofs.Parsed.{parsed, unparsed}
use Rattle.a2m.proofs.Answered.{as_err, changed, changed_not, same-change}
use Rattle.a2m.proofs.CallLaws.{append-length, append-sized, append-spent, append-crowded, append-done, append-high, append-fits, has_room, unopened}
use Rattle.a2m.proofs.OpenedLaws.{opened, opened-counted, last-within}
use mathlib.Core.Bool.{true}
use Rattle.refusal.specs.Unwritten.{unwritten, counts}
use Rattle.a2m_put.proofs.append.append.Code.Mir.{function}
use Rattle.a2m_put.proofs.append.append.Goals as goal
use Rattle.a2m_put.proofs.append.append.Goals.{In_ok-value, In_ok-view}

-- no literal of the body becomes the count
pub counted : unwritten counts function.body ≡ true
counted = refl

-- the value is the one that was lent, of 32 bytes
sized : (c : goal.In_ok-value) → (c.in_ok-value.value.now ≡ c.args.value.now) × (length c.args.value.now ≡ 32)
sized c = parsed c.args.value.now 32 why.Length c.as_array.result _ c.as_array.ensures.cases c.ok_or.ensures.value c.in_ok-value.was

-- the table is opened at the log
at : (c : goal.In_ok-view) → Opened c.args.table.now c.in_ok-view.view × (c.in_ok-view.view.log ≡ c.args.log)
at c = opened c.args.table.now c.args.log c.in_ok-view.view c.in_ok-view.ensures

-- the call, by what was parsed and opened
same : (c : goal.In_ok-view) → append c.in_ok-view.view.log c.in_ok-value.value.now ≡ append c.args.log c.args.value.now
same c = ap₂ append (at c).1 (sized (goal.at.In_ok-view c).In_ok-value).0

long : (c : goal.In_ok-value) → length c.in_ok-value.value.now ≡ 32
long c = ap length (sized c).0 ∙ (sized c).1

pub returns-in_err-value : goal.returns-in_err-value
returns-in_err-value c =
    let p = unparsed c.args.value.now 32 why.Length c.as_array.result _ c.from_residual.result c.as_array.ensures.cases c.ok_or.ensures.value c.in_err-value.was c.from_residual.ensures.1 in
    changed_not (table_step c.args.table.now (append c.args.log c.args.value.now)) _ p.0 (append-length c.args.table.now c.args.value.now c.args.log p.1)

pub returns-in_err-view : goal.returns-in_err-view
returns-in_err-view c =
    let p = sized (goal.at.returns-in_err-view c).In_ok-value in
    let call = append c.args.log c.args.value.now in
    changed_not (table_step c.args.table.now call) _ (as_err _ c.from_residual-in_err-view.ensures) (unopened c.args.table.now c.args.log _ call c.in_err-view.ensures refl (append-sized c.args.table.now c.args.value.now c.args.log p.1))

pub returns-then-view : goal.returns-then-view
returns-then-view c =
    let k = goal.at.returns-then-view c in
    same-change c.args.table.now (same k.In_ok-view)
    (changed_not (table_step c.args.table.now (append c.in_ok-view.view.log c.in_ok-value.value.now)) _ (ap Err c.into.ensures) (append-spent c.args.table.now c.in_ok-value.value.now c.in_ok-view.view (at k.In_ok-view).0 (long k.In_ok-value) c.if-view.true))

pub returns-in_err-room : goal.returns-in_err-room
returns-in_err-room c =
    let k = goal.at.returns-in_err-room c in
    same-change c.args.table.now (same k.In_ok-view)
    (changed_not (table_step c.args.table.now (append c.in_ok-view.view.log c.in_ok-value.value.now)) _ (as_err _ c.from_residual-in_err-room.ensures) (append-crowded c.args.table.now c.in_ok-value.value.now c.in_ok-view.view (at k.In_ok-view).0 (long k.In_ok-value) c.if-view.false _ c.in_err-room.ensures))

pub invariant_of-before : goal.invariant_of-before
invariant_of-before c = record { counted = opened-counted c.args.table.now c.in_ok-view.view (at (goal.at.invariant_of-before c).In_ok-view).0 }

pub digest_after-own-requires : goal.digest_after-own-requires
digest_after-own-requires c = last-within c.args.table.now c.in_ok-view.view (at (goal.at.digest_after-own-requires c).In_ok-view).0 c.last_slot.result c.last_slot.ensures.number c.last_slot.ensures.slot

pub enter-requires : goal.enter-requires
enter-requires c =
    let v = c.in_ok-view.view in
    let f : v.free ≢ 0 = (has_room v c.in_ok-room.ensures).0 in
    record {
      opened = (at (goal.at.enter-requires c).In_ok-view).0;
      le_free = omega arith;
      after_value = append-high v.row c.append-after.result v.free c.append-after.ensures;
      high_bound = append-fits v.row c.append-after.result v.free c.append-after.ensures (omega arith) c.if-view.false;
    }

pub returns : goal.returns
returns c =
    let k = goal.at.returns c in
    let x = c.in_ok-value.value.now in
    let v = c.in_ok-view.view in
    same-change c.args.table.now (same k.In_ok-view)
    (changed (table_step c.args.table.now (append v.log x)) (Ok c.enter.result)
    (append-done c.args.table.now x v (at k.In_ok-view).0 (long k.In_ok-value) c.if-view.false c.in_ok-room.ensures c.append-after.result c.digest_after-own.result.value c.append-after.ensures
    (c.digest_after-own.ensures.digest ∙ ap (λ (s : ℕ). entry_digest c.append-after.result.high x (slot_at (read_table c.args.table.now).slots s).digest) c.last_slot.ensures.number)
    _ _ _ (ap₂ done c.enter.ensures.low c.enter.ensures.high) (c.enter.ensures.blocks ∙ c.digest_after-own.ensures.blocks) c.enter.ensures.bytes))
