-- `a2m_read::lookup::lookup_open` meets its contract. Assumes nothing.
use native.Mathlib.Omega.{arith}
use mathlib.Core.Path.{◌≡◌, refl, ap}
use lib.ListN.{length}
use Rattle.std.specs.Prelude.{Ok, Err}
use Rattle.a2m.specs.Call.{lookup}
use Rattle.a2m.specs.TableCalls.{table_step}
use Rattle.a2m.proofs.Answered.{looked, looked_not}
use Rattle.a2m.proofs.ReadLaws.{lookup-zero, lookup-done}
use Rattle.a2m.proofs.OpenedLaws.{opened-counted, opened-long, opened-log}
use mathlib.Core.Bool.{true}
use Rattle.refusal.specs.Unwritten.{unwritten, counts}
use Rattle.a2m_read.proofs.lookup.lookup_open.Code.Mir.{function}
use Rattle.a2m_read.proofs.lookup.lookup_open.Goals as goal

-- no literal of the body becomes the count
pub counted : unwritten counts function.body ≡ true
counted = refl

pub returns-then-position-eq0 : goal.returns-then-position-eq0
returns-then-position-eq0 c = looked_not (table_step c.args.opened.table.now (lookup c.args.opened.view.log c.args.position c.args.nonce.now (length c.args.receipt.now))) _ (ap Err c.into.ensures) (lookup-zero c.args.opened.table.now c.args.nonce.now c.args.receipt.now c.args.position c.args.opened.view c.args.opened.opened (omega arith) (omega arith) c.if-position-eq0.true)

pub keeper_of-requires : goal.keeper_of-requires
keeper_of-requires c = opened-long c.args.opened.table.now c.args.opened.view c.args.opened.opened

pub overflow_cast-facts : goal.overflow_cast-facts
overflow_cast-facts c = let l = opened-log c.args.opened.table.now c.args.opened.view c.args.opened.opened in let k = (opened-counted c.args.opened.table.now c.args.opened.view c.args.opened.opened).logs-most in omega arith

pub invariant_of-lent : goal.invariant_of-lent
invariant_of-lent c = record { counted = opened-counted c.args.opened.table.now c.args.opened.view c.args.opened.opened }

pub returns : goal.returns
returns c =
    looked (table_step c.args.opened.table.now (lookup c.args.opened.view.log c.args.position c.args.nonce.now (length c.args.receipt.now))) (Ok _)
    (lookup-done c.args.opened.table.now c.args.nonce.now c.args.receipt.now c.args.position c.args.opened.view c.args.opened.opened (omega arith) (omega arith) c.if-position-eq0.false c.find-hit.result c.from.result c.keeper_of.result c.attest-blocks.result c.attest-blocks.new.receipt
    c.from.ensures c.find-hit.ensures.found c.keeper_of.ensures c.attest-blocks.ensures.blocks c.attest-blocks.ensures.bytes)
