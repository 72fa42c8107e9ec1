-- `a2m_put::advance::advance` meets its contract. Assumes nothing.
use mathlib.Core.Path.{◌≡◌, refl}
use Rattle.a2m.specs.Call.{advance}
use Rattle.a2m.specs.TableCalls.{table_step}
use Rattle.refusal.specs.declared.Refusal.TheVariants as why
use Rattle.receipt.proofs.Parsed.{parsed, unparsed}
use Rattle.a2m.proofs.Answered.{changed_not}
use Rattle.a2m.proofs.CallLaws.{advance-digest, advance-value}
use mathlib.Core.Bool.{true}
use Rattle.refusal.specs.Unwritten.{unwritten, counts}
use Rattle.a2m_put.proofs.advance.advance.Code.Mir.{function}
use Rattle.a2m_put.proofs.advance.advance.Goals as goal

-- no literal of the body becomes the count
pub counted : unwritten counts function.body ≡ true
counted = refl

pub returns-in_err-digest : goal.returns-in_err-digest
returns-in_err-digest c =
    let p = unparsed c.args.digest.now 32 why.Length c.as_array.result _ c.from_residual.result c.as_array.ensures.cases c.ok_or.ensures.value c.in_err-digest.was c.from_residual.ensures.1 in
    changed_not (table_step c.args.table.now (advance c.args.log c.args.position c.args.digest.now c.args.value.now)) _ p.0 (advance-digest c.args.table.now c.args.position c.args.digest.now c.args.value.now c.args.log p.1)

pub returns-in_err-value : goal.returns-in_err-value
returns-in_err-value c =
    let d = parsed c.args.digest.now 32 why.Length c.as_array.result _ c.as_array.ensures.cases c.ok_or.ensures.value c.in_ok-digest.was in
    let p = unparsed c.args.value.now 32 why.Length c.as_array-2.result _ c.from_residual-in_err-value.result c.as_array-2.ensures.cases c.ok_or-2.ensures.value c.in_err-value.was c.from_residual-in_err-value.ensures.1 in
    changed_not (table_step c.args.table.now (advance c.args.log c.args.position c.args.digest.now c.args.value.now)) _ p.0 (advance-value c.args.table.now c.args.position c.args.digest.now c.args.value.now c.args.log d.1 p.1)
