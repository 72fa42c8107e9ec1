-- `receipt_write::write` meets its contract.
use Rattle.std.proofs.Common.{◌≡◌, refl, ap, ◌∙◌, true, List, ℕ}
use Rattle.refusal.proofs.WorkLaws.{refused-works, done-works}
use Rattle.refusal.specs.Work.{worked_number, worked_blocks}
use Rattle.refusal.specs.declared.Refusal.TheVariants.{Length}
use Rattle.refusal.specs.Unwritten.{unwritten, counts}
use Rattle.receipt.specs.Attestation.{receipt_bytes}
use Rattle.receipt.specs.Writer.{attestation_of}
use Rattle.receipt.specs.declared.Facts.{Facts}
use Rattle.receipt.proofs.Parsed.{parsed, unparsed, parsed_mut, unparsed_mut}
use Rattle.receipt.proofs.Writing.{other_key, other-nonce, other-value, other-digest, other-buffer, writes}
use Rattle.receipt_write.proofs.write.Code.Mir.{function}
use Rattle.receipt_write.proofs.write.Goals as goal

-- no literal of the body becomes the count
pub counted : unwritten counts function.body ≡ true
counted = refl

same_receipt : (f : Facts) {k k' n n' v v' d d' : List ℕ} → k ≡ k' → n ≡ n' → v ≡ v' → d ≡ d'
    → receipt_bytes k (attestation_of f n v d) ≡ receipt_bytes k' (attestation_of f n' v' d')
same_receipt f a b c d = cc

pub returns-in_err-key : goal.returns-in_err-key
returns-in_err-key c =
    let u = unparsed c.args.key.now 32 Length c.as_array.result c.in_err-key.field-0.0 c.from_residual.result c.as_array.ensures.cases c.ok_or.ensures.value c.in_err-key.was c.from_residual.ensures.1 in
    let d = refused-works 7 6 _ c.args.out.now (other_key c.args.key.now c.args.nonce.now c.args.value.now c.args.digest.now c.args.out.now u.1) in record { answer = ap worked_number u.0 ∙ d.0; blocks = ap worked_blocks u.0 ∙ d.1.0; bytes = d.1.1 }

pub returns-in_err-nonce : goal.returns-in_err-nonce
returns-in_err-nonce c =
    let p0 = parsed c.args.key.now 32 Length c.as_array.result c.in_ok-key.key c.as_array.ensures.cases c.ok_or.ensures.value c.in_ok-key.was in
    let u = unparsed c.args.nonce.now 32 Length c.as_array-2.result c.in_err-nonce.field-0.0 c.from_residual-in_err-nonce.result c.as_array-2.ensures.cases c.ok_or-2.ensures.value c.in_err-nonce.was c.from_residual-in_err-nonce.ensures.1 in
    let d = refused-works 7 6 _ c.args.out.now (other-nonce c.args.key.now c.args.nonce.now c.args.value.now c.args.digest.now c.args.out.now p0.1 u.1) in record { answer = ap worked_number u.0 ∙ d.0; blocks = ap worked_blocks u.0 ∙ d.1.0; bytes = d.1.1 }

pub returns-in_err-value : goal.returns-in_err-value
returns-in_err-value c =
    let p0 = parsed c.args.key.now 32 Length c.as_array.result c.in_ok-key.key c.as_array.ensures.cases c.ok_or.ensures.value c.in_ok-key.was in
    let p1 = parsed c.args.nonce.now 32 Length c.as_array-2.result c.in_ok-nonce.nonce c.as_array-2.ensures.cases c.ok_or-2.ensures.value c.in_ok-nonce.was in
    let u = unparsed c.args.value.now 32 Length c.as_array-3.result c.in_err-value.field-0.0 c.from_residual-in_err-value.result c.as_array-3.ensures.cases c.ok_or-3.ensures.value c.in_err-value.was c.from_residual-in_err-value.ensures.1 in
    let d = refused-works 7 6 _ c.args.out.now (other-value c.args.key.now c.args.nonce.now c.args.value.now c.args.digest.now c.args.out.now p0.1 p1.1 u.1) in record { answer = ap worked_number u.0 ∙ d.0; blocks = ap worked_blocks u.0 ∙ d.1.0; bytes = d.1.1 }

pub returns-in_err-digest : goal.returns-in_err-digest
returns-in_err-digest c =
    let p0 = parsed c.args.key.now 32 Length c.as_array.result c.in_ok-key.key c.as_array.ensures.cases c.ok_or.ensures.value c.in_ok-key.was in
    let p1 = parsed c.args.nonce.now 32 Length c.as_array-2.result c.in_ok-nonce.nonce c.as_array-2.ensures.cases c.ok_or-2.ensures.value c.in_ok-nonce.was in
    let p2 = parsed c.args.value.now 32 Length c.as_array-3.result c.in_ok-value.value c.as_array-3.ensures.cases c.ok_or-3.ensures.value c.in_ok-value.was in
    let u = unparsed c.args.digest.now 32 Length c.as_array-4.result c.in_err-digest.field-0.0 c.from_residual-in_err-digest.result c.as_array-4.ensures.cases c.ok_or-4.ensures.value c.in_err-digest.was c.from_residual-in_err-digest.ensures.1 in
    let d = refused-works 7 6 _ c.args.out.now (other-digest c.args.key.now c.args.nonce.now c.args.value.now c.args.digest.now c.args.out.now p0.1 p1.1 p2.1 u.1) in record { answer = ap worked_number u.0 ∙ d.0; blocks = ap worked_blocks u.0 ∙ d.1.0; bytes = d.1.1 }

pub returns-in_err-out : goal.returns-in_err-out
returns-in_err-out c =
    let p0 = parsed c.args.key.now 32 Length c.as_array.result c.in_ok-key.key c.as_array.ensures.cases c.ok_or.ensures.value c.in_ok-key.was in
    let p1 = parsed c.args.nonce.now 32 Length c.as_array-2.result c.in_ok-nonce.nonce c.as_array-2.ensures.cases c.ok_or-2.ensures.value c.in_ok-nonce.was in
    let p2 = parsed c.args.value.now 32 Length c.as_array-3.result c.in_ok-value.value c.as_array-3.ensures.cases c.ok_or-3.ensures.value c.in_ok-value.was in
    let p3 = parsed c.args.digest.now 32 Length c.as_array-4.result c.in_ok-digest.digest c.as_array-4.ensures.cases c.ok_or-4.ensures.value c.in_ok-digest.was in
    let u = unparsed_mut c.args.out.now 160 Length c.as_mut_array.result c.in_err-out.field-0.0 c.from_residual-in_err-out.result c.as_mut_array.ensures.cases c.ok_or-5.ensures.value c.in_err-out.was c.from_residual-in_err-out.ensures.1 in
    let d = refused-works 7 6 _ c.args.out.now (other-buffer c.args.key.now c.args.nonce.now c.args.value.now c.args.digest.now c.args.out.now p0.1 p1.1 p2.1 p3.1 u.1) in record { answer = ap worked_number u.0 ∙ d.0; blocks = ap worked_blocks u.0 ∙ d.1.0; bytes = d.1.1 }

pub returns : goal.returns
returns c =
    let p0 = parsed c.args.key.now 32 Length c.as_array.result c.in_ok-key.key c.as_array.ensures.cases c.ok_or.ensures.value c.in_ok-key.was in
    let p1 = parsed c.args.nonce.now 32 Length c.as_array-2.result c.in_ok-nonce.nonce c.as_array-2.ensures.cases c.ok_or-2.ensures.value c.in_ok-nonce.was in
    let p2 = parsed c.args.value.now 32 Length c.as_array-3.result c.in_ok-value.value c.as_array-3.ensures.cases c.ok_or-3.ensures.value c.in_ok-value.was in
    let p3 = parsed c.args.digest.now 32 Length c.as_array-4.result c.in_ok-digest.digest c.as_array-4.ensures.cases c.ok_or-4.ensures.value c.in_ok-digest.was in
    let p4 = parsed_mut c.args.out.now 160 Length c.as_mut_array.result c.in_ok-out.out c.as_mut_array.ensures.cases c.ok_or-5.ensures.value c.in_ok-out.was in
    let d = done-works 6 (receipt_bytes c.args.key.now (attestation_of c.args.facts c.args.nonce.now c.args.value.now c.args.digest.now)) c.args.out.now (writes c.args.key.now c.args.nonce.now c.args.value.now c.args.digest.now c.args.out.now p0.1 p1.1 p2.1 p3.1 p4.1) in
    record { answer = d.0; blocks = c.put_receipt-blocks.ensures.blocks ∙ d.1.0; bytes = c.put_receipt-blocks.ensures.bytes ∙ same_receipt c.args.facts p0.0 p1.0 p2.0 p3.0 ∙ d.1.1 }
