-- `survey_calls::lookup::lookup` meets its contract. Assumes nothing.
use mathlib.Core.Path.{◌≡◌, refl}
use lib.ListN.{length}
use Rattle.a2m.specs.Call.{lookup}
use Rattle.a2m.specs.TableCalls.{table_step}
use Rattle.refusal.specs.declared.Refusal.TheVariants as why
use Rattle.receipt.proofs.Parsed.{parsed, unparsed, parsed_mut, unparsed_mut}
use Rattle.a2m.proofs.Answered.{as_err, came_back, looked_not, same-look}
use Rattle.survey.specs.Requests.{looks, request_step}
use Rattle.survey.proofs.CallLaws.{looks-nonce, looks-receipt, looks-made, looks-away}
use mathlib.Core.Bool.{true}
use Rattle.refusal.specs.Unwritten.{unwritten, counts}
use Rattle.survey_calls.proofs.lookup.lookup.Code.Mir.{function}
use Rattle.survey_calls.proofs.lookup.lookup.Goals as goal

-- no literal of the body becomes the count
pub counted : unwritten counts function.body ≡ true
counted = refl

pub returns-in_err-nonce : goal.returns-in_err-nonce
returns-in_err-nonce c =
    let p = unparsed c.args.nonce.now 32 why.Length c.as_array.result _ c.from_residual.result c.as_array.ensures.cases c.ok_or.ensures.value c.in_err-nonce.was c.from_residual.ensures.1 in
    looked_not (request_step table_step c.args.table.now (looks c.args.log c.args.survey.0 c.args.reading.0 c.args.nonce.now (length c.args.receipt.now))) _ p.0 (looks-nonce c.args.table.now c.args.log c.args.survey.0 c.args.reading.0 c.args.nonce.now c.args.receipt.now p.1)

pub returns-in_err-receipt : goal.returns-in_err-receipt
returns-in_err-receipt c =
    let p = parsed c.args.nonce.now 32 why.Length c.as_array.result _ c.as_array.ensures.cases c.ok_or.ensures.value c.in_ok-nonce.was in
    let u = unparsed_mut c.args.receipt.now 160 why.Length c.as_mut_array.result _ c.from_residual-in_err-receipt.result c.as_mut_array.ensures.cases c.ok_or-2.ensures.value c.in_err-receipt.was c.from_residual-in_err-receipt.ensures.1 in
    looked_not (request_step table_step c.args.table.now (looks c.args.log c.args.survey.0 c.args.reading.0 c.args.nonce.now (length c.args.receipt.now))) _ u.0 (looks-receipt c.args.table.now c.args.log c.args.survey.0 c.args.reading.0 c.args.nonce.now c.args.receipt.now p.1 u.1)

pub returns-in_err-position : goal.returns-in_err-position
returns-in_err-position c =
    let p = parsed c.args.nonce.now 32 why.Length c.as_array.result _ c.as_array.ensures.cases c.ok_or.ensures.value c.in_ok-nonce.was in
    let q = parsed_mut c.args.receipt.now 160 why.Length c.as_mut_array.result _ c.as_mut_array.ensures.cases c.ok_or-2.ensures.value c.in_ok-receipt.was in
    looked_not (request_step table_step c.args.table.now (looks c.args.log c.args.survey.0 c.args.reading.0 c.args.nonce.now (length c.args.receipt.now))) _ (as_err _ c.from_residual-in_err-position.ensures) (came_back (request_step table_step c.args.table.now (looks c.args.log c.args.survey.0 c.args.reading.0 c.args.nonce.now (length c.args.receipt.now))) q.0 (looks-away c.args.table.now c.args.log c.args.survey.0 c.args.reading.0 c.args.nonce.now c.args.receipt.now p.1 q.1 _ c.in_err-position.ensures))

pub returns : goal.returns
returns c =
    let p = parsed c.args.nonce.now 32 why.Length c.as_array.result _ c.as_array.ensures.cases c.ok_or.ensures.value c.in_ok-nonce.was in
    let q = parsed_mut c.args.receipt.now 160 why.Length c.as_mut_array.result _ c.as_mut_array.ensures.cases c.ok_or-2.ensures.value c.in_ok-receipt.was in
    looks-made c.args.table.now c.args.log c.args.survey.0 c.args.reading.0 c.args.nonce.now c.args.receipt.now p.1 q.1 c.in_ok-position.position.0 c.in_ok-position.ensures (same-look c.args.table.now (λ i. lookup c.args.log c.in_ok-position.position.0 (p.0 i) (length (q.0 i))) q.0 c.lookup_sized.ensures)
