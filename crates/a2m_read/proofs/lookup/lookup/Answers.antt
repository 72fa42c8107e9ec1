-- `a2m_read::lookup::lookup` meets its contract. Assumes nothing.
use mathlib.Core.Path.{◌≡◌, refl}
use lib.ListN.{length}
use Rattle.a2m.specs.Call.{lookup}
use Rattle.a2m.specs.TableCalls.{table_step}
use Rattle.refusal.specs.declared.Refusal.TheVariants as why
use Rattle.receipt.proofs.Parsed.{parsed, unparsed, unparsed_mut}
use Rattle.a2m.proofs.Answered.{looked_not}
use Rattle.a2m.proofs.ReadLaws.{lookup-nonce, lookup-receipt}
use mathlib.Core.Bool.{true}
use Rattle.refusal.specs.Unwritten.{unwritten, counts}
use Rattle.a2m_read.proofs.lookup.lookup.Code.Mir.{function}
use Rattle.a2m_read.proofs.lookup.lookup.Goals as goal

-- no literal of the body becomes the count
pub counted : unwritten counts function.body ≡ true
counted = refl

pub returns-in_err-nonce : goal.returns-in_err-nonce
returns-in_err-nonce c =
    let p = unparsed c.args.nonce.now 32 why.Length c.as_array.result _ c.from_residual.result c.as_array.ensures.cases c.ok_or.ensures.value c.in_err-nonce.was c.from_residual.ensures.1 in
    looked_not (table_step c.args.table.now (lookup c.args.log c.args.position c.args.nonce.now (length c.args.receipt.now))) _ p.0 (lookup-nonce c.args.table.now c.args.nonce.now c.args.receipt.now c.args.position c.args.log p.1)

pub returns-in_err-receipt : goal.returns-in_err-receipt
returns-in_err-receipt c =
    let p = parsed c.args.nonce.now 32 why.Length c.as_array.result _ c.as_array.ensures.cases c.ok_or.ensures.value c.in_ok-nonce.was in
    let u = unparsed_mut c.args.receipt.now 160 why.Length c.as_mut_array.result _ c.from_residual-in_err-receipt.result c.as_mut_array.ensures.cases c.ok_or-2.ensures.value c.in_err-receipt.was c.from_residual-in_err-receipt.ensures.1 in
    looked_not (table_step c.args.table.now (lookup c.args.log c.args.position c.args.nonce.now (length c.args.receipt.now))) _ u.0 (lookup-receipt c.args.table.now c.args.nonce.now c.args.receipt.now c.args.position c.args.log p.1 u.1)
