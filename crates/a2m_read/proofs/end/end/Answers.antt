-- `a2m_read::end::end` meets its contract. Assumes nothing.
use mathlib.Core.Path.{◌≡◌, refl}
use lib.ListN.{length}
use Rattle.a2m.specs.Call.{end}
use Rattle.a2m.specs.TableCalls.{table_step}
use Rattle.refusal.specs.declared.Refusal.TheVariants as why
use Rattle.receipt.proofs.Parsed.{parsed, unparsed, parsed_mut, unparsed_mut}
use Rattle.a2m.proofs.Answered.{as_err, came_back, ended_not, same-end}
use Rattle.a2m.proofs.ReadLaws.{end-nonce, end-receipt, end-sized, read_unopened}
use Rattle.a2m.proofs.OpenedLaws.{opened}
use mathlib.Core.Bool.{true}
use Rattle.refusal.specs.Unwritten.{unwritten, counts}
use Rattle.a2m_read.proofs.end.end.Code.Mir.{function}
use Rattle.a2m_read.proofs.end.end.Goals as goal

-- no literal of the body becomes the count
pub counted : unwritten counts function.body ≡ true
counted = refl

pub returns-in_err-nonce : goal.returns-in_err-nonce
returns-in_err-nonce c =
    let p = unparsed c.args.nonce.now 32 why.Length c.as_array.result _ c.from_residual.result c.as_array.ensures.cases c.ok_or.ensures.value c.in_err-nonce.was c.from_residual.ensures.1 in
    ended_not (table_step c.args.table.now (end c.args.log c.args.nonce.now (length c.args.receipt.now))) _ p.0 (end-nonce c.args.table.now c.args.nonce.now c.args.receipt.now c.args.log p.1)

pub returns-in_err-receipt : goal.returns-in_err-receipt
returns-in_err-receipt c =
    let p = parsed c.args.nonce.now 32 why.Length c.as_array.result _ c.as_array.ensures.cases c.ok_or.ensures.value c.in_ok-nonce.was in
    let u = unparsed_mut c.args.receipt.now 160 why.Length c.as_mut_array.result _ c.from_residual-in_err-receipt.result c.as_mut_array.ensures.cases c.ok_or-2.ensures.value c.in_err-receipt.was c.from_residual-in_err-receipt.ensures.1 in
    ended_not (table_step c.args.table.now (end c.args.log c.args.nonce.now (length c.args.receipt.now))) _ u.0 (end-receipt c.args.table.now c.args.nonce.now c.args.receipt.now c.args.log p.1 u.1)

pub returns-in_err-view : goal.returns-in_err-view
returns-in_err-view c =
    let p = parsed c.args.nonce.now 32 why.Length c.as_array.result _ c.as_array.ensures.cases c.ok_or.ensures.value c.in_ok-nonce.was in
    let q = parsed_mut c.args.receipt.now 160 why.Length c.as_mut_array.result _ c.as_mut_array.ensures.cases c.ok_or-2.ensures.value c.in_ok-receipt.was in
    let call = end c.args.log c.args.nonce.now (length c.args.receipt.now) in
    ended_not (table_step c.args.table.now call) _ (as_err _ c.from_residual-in_err-view.ensures) (came_back (table_step c.args.table.now call) q.0 (read_unopened c.args.table.now c.args.log _ call c.args.receipt.now c.in_err-view.ensures refl (end-sized c.args.table.now c.args.nonce.now c.args.receipt.now c.args.log (length c.args.receipt.now) p.1 q.1)))

pub invariant_of-end_open : goal.invariant_of-end_open
invariant_of-end_open c = record { opened = (opened c.args.table.now c.args.log c.in_ok-view.view c.in_ok-view.ensures).0 }

pub returns : goal.returns
returns c =
    let p = parsed c.args.nonce.now 32 why.Length c.as_array.result _ c.as_array.ensures.cases c.ok_or.ensures.value c.in_ok-nonce.was in
    let q = parsed_mut c.args.receipt.now 160 why.Length c.as_mut_array.result _ c.as_mut_array.ensures.cases c.ok_or-2.ensures.value c.in_ok-receipt.was in
    let o = opened c.args.table.now c.args.log c.in_ok-view.view c.in_ok-view.ensures in
    same-end c.args.table.now (λ i. end (o.1 i) (p.0 i) (length (q.0 i))) q.0 c.end_open.ensures
