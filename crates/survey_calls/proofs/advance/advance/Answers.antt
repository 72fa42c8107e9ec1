-- `survey_calls::advance::advance` meets its contract. Assumes nothing.
use mathlib.Core.Path.{◌≡◌, refl, ap₂}
use Rattle.a2m.specs.Call.{advance}
use Rattle.a2m.specs.TableCalls.{table_step}
use Rattle.refusal.specs.declared.Refusal.TheVariants as why
use Rattle.receipt.proofs.Parsed.{parsed, unparsed}
use Rattle.a2m.proofs.Answered.{as_err, changed_not, same-change}
use Rattle.survey.specs.Requests.{advances, request_step}
use Rattle.survey.proofs.CallLaws.{advances-digest, advances-value, advances-made, advances-away}
use mathlib.Core.Bool.{true}
use Rattle.refusal.specs.Unwritten.{unwritten, counts}
use Rattle.survey_calls.proofs.advance.advance.Code.Mir.{function}
use Rattle.survey_calls.proofs.advance.advance.Goals as goal

-- no literal of the body becomes the count
pub counted : unwritten counts function.body ≡ true
counted = refl

pub returns-in_err-digest : goal.returns-in_err-digest
returns-in_err-digest c =
    let p = unparsed c.args.digest.now 32 why.Length c.as_array.result _ c.from_residual.result c.as_array.ensures.cases c.ok_or.ensures.value c.in_err-digest.was c.from_residual.ensures.1 in
    changed_not (request_step table_step c.args.table.now (advances c.args.log c.args.survey.0 c.args.reading.0 c.args.digest.now c.args.value.now)) _ p.0 (advances-digest c.args.table.now c.args.log c.args.survey.0 c.args.reading.0 c.args.digest.now c.args.value.now p.1)

pub returns-in_err-value : goal.returns-in_err-value
returns-in_err-value c =
    let d = parsed c.args.digest.now 32 why.Length c.as_array.result _ c.as_array.ensures.cases c.ok_or.ensures.value c.in_ok-digest.was in
    let p = unparsed c.args.value.now 32 why.Length c.as_array-2.result _ c.from_residual-in_err-value.result c.as_array-2.ensures.cases c.ok_or-2.ensures.value c.in_err-value.was c.from_residual-in_err-value.ensures.1 in
    changed_not (request_step table_step c.args.table.now (advances c.args.log c.args.survey.0 c.args.reading.0 c.args.digest.now c.args.value.now)) _ p.0 (advances-value c.args.table.now c.args.log c.args.survey.0 c.args.reading.0 c.args.digest.now c.args.value.now d.1 p.1)

pub returns-in_err-position : goal.returns-in_err-position
returns-in_err-position c =
    let d = parsed c.args.digest.now 32 why.Length c.as_array.result _ c.as_array.ensures.cases c.ok_or.ensures.value c.in_ok-digest.was in
    let x = parsed c.args.value.now 32 why.Length c.as_array-2.result _ c.as_array-2.ensures.cases c.ok_or-2.ensures.value c.in_ok-value.was in
    changed_not (request_step table_step c.args.table.now (advances c.args.log c.args.survey.0 c.args.reading.0 c.args.digest.now c.args.value.now)) _ (as_err _ c.from_residual-in_err-position.ensures) (advances-away c.args.table.now c.args.log c.args.survey.0 c.args.reading.0 c.args.digest.now c.args.value.now d.1 x.1 _ c.in_err-position.ensures)

pub returns : goal.returns
returns c =
    let d = parsed c.args.digest.now 32 why.Length c.as_array.result _ c.as_array.ensures.cases c.ok_or.ensures.value c.in_ok-digest.was in
    let x = parsed c.args.value.now 32 why.Length c.as_array-2.result _ c.as_array-2.ensures.cases c.ok_or-2.ensures.value c.in_ok-value.was in
    advances-made c.args.table.now c.args.log c.args.survey.0 c.args.reading.0 c.args.digest.now c.args.value.now d.1 x.1 c.in_ok-position.position.0 c.in_ok-position.ensures (same-change c.args.table.now (ap₂ (advance c.args.log c.in_ok-position.position.0) d.0 x.0) c.advance_sized.ensures)
