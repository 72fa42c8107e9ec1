-- `a2m_read::end::end_open` meets its contract. Assumes nothing.
use native.Mathlib.Omega.{arith}
use mathlib.Core.Path.{◌≡◌, refl, ◌∙◌}
use Rattle.a2m.specs.Opened.{slot_number}
use lib.ListN.{length}
use Rattle.std.specs.Prelude.{Ok}
use Rattle.a2m.specs.Call.{end}
use Rattle.a2m.specs.TableCalls.{table_step}
use Rattle.a2m.proofs.Answered.{ended}
use Rattle.a2m.proofs.ReadLaws.{end-done}
use Rattle.a2m.proofs.OpenedLaws.{opened-counted, opened-long, opened-log, last-within}
use mathlib.Core.Bool.{true}
use Rattle.refusal.specs.Unwritten.{unwritten, counts}
use Rattle.a2m_read.proofs.end.end_open.Code.Mir.{function}
use Rattle.a2m_read.proofs.end.end_open.Goals as goal

-- no literal of the body becomes the count
pub counted : unwritten counts function.body ≡ true
counted = refl

pub keeper_of-requires : goal.keeper_of-requires
keeper_of-requires c = opened-long c.args.opened.table.now c.args.opened.view c.args.opened.opened

pub overflow_cast-facts : goal.overflow_cast-facts
overflow_cast-facts c = let l = opened-log c.args.opened.table.now c.args.opened.view c.args.opened.opened in let k = (opened-counted c.args.opened.table.now c.args.opened.view c.args.opened.opened).logs-most in omega arith

pub invariant_of-lent : goal.invariant_of-lent
invariant_of-lent c = record { counted = opened-counted c.args.opened.table.now c.args.opened.view c.args.opened.opened }

pub attest-blocks-requires : goal.attest-blocks-requires
attest-blocks-requires c = last-within c.args.opened.table.now c.args.opened.view c.args.opened.opened c.last_slot-last.result c.last_slot-last.ensures.number c.last_slot-last.ensures.slot

pub returns : goal.returns
returns c =
    ended (table_step c.args.opened.table.now (end c.args.opened.view.log c.args.nonce.now (length c.args.receipt.now))) (Ok _)
    (end-done c.args.opened.table.now c.args.nonce.now c.args.receipt.now c.args.opened.view c.args.opened.opened (omega arith) (omega arith) c.from.result c.keeper_of.result c.attest-blocks.result (slot_number c.last_slot-last.result) c.attest-blocks.new.receipt
    c.last_slot-last.ensures.number (c.from.ensures ∙ c.kind_at.ensures) c.keeper_of.ensures c.attest-blocks.ensures.blocks c.attest-blocks.ensures.bytes)
