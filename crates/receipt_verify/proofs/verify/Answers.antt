-- `receipt_verify::verify` meets its contract.
use Rattle.std.proofs.Common.{◌≡◌, refl, sym, ap, ap₂, ◌∙◌, List, ℕ, true, Ok, Err, arith}
use Rattle.refusal.specs.Answer.{answer}
use Rattle.refusal.specs.declared.Refusal.TheVariants.{Length, NoReceipt, Tag, OtherQuestion}
use Rattle.refusal.specs.Unwritten.{unwritten, counts}
use Rattle.receipt.specs.Attestation.{read_attestation}
use Rattle.receipt.specs.Possible.{possible}
use Rattle.receipt.specs.Verdict.{answers, carried, is_tagged}
use Rattle.receipt.proofs.Cases.{key-length, nonce-length, receipt-length, impossible, wrong-tag, other-question, accepts}
use Rattle.receipt.proofs.Parsed.{parsed, unparsed, there, missing}
use Rattle.receipt.proofs.Verifier.{verdict_exactly}
use borrow.Author.Tests.{not-true, not-false}
use Rattle.receipt_verify.proofs.verify.Code.Mir.{function}
use Rattle.receipt_verify.proofs.verify.Goals as goal

-- no literal of the body becomes the count
pub counted : unwritten counts function.body ≡ true
counted = refl

pub returns-in_err-key : goal.returns-in_err-key
returns-in_err-key c =
    let u = unparsed c.args.key.now 32 Length c.as_array.result c.in_err-key.field-0.0 c.from_residual.result c.as_array.ensures.cases c.ok_or.ensures.value c.in_err-key.was c.from_residual.ensures.1 in
    let d = verdict_exactly _ (λ i. omega (arith, c.type_inv.receipt i)) u.0 (key-length c.args.key.now c.args.receipt.now c.args.nonce.now c.args.q u.1) in
    record { answer = d.0; exactly = d.1.0; blocks = d.1.1 }

pub returns-in_err-nonce : goal.returns-in_err-nonce
returns-in_err-nonce c =
    let k = parsed c.args.key.now 32 Length c.as_array.result c.in_ok-key.key c.as_array.ensures.cases c.ok_or.ensures.value c.in_ok-key.was in
    let u = unparsed c.args.nonce.now 32 Length c.as_array-2.result c.in_err-nonce.field-0.0 c.from_residual-in_err-nonce.result c.as_array-2.ensures.cases c.ok_or-2.ensures.value c.in_err-nonce.was c.from_residual-in_err-nonce.ensures.1 in
    let d = verdict_exactly _ (λ i. omega (arith, c.type_inv.receipt i)) u.0 (nonce-length c.args.key.now c.args.receipt.now c.args.nonce.now c.args.q k.1 u.1) in
    record { answer = d.0; exactly = d.1.0; blocks = d.1.1 }

pub returns-in_err-receipt : goal.returns-in_err-receipt
returns-in_err-receipt c =
    let k = parsed c.args.key.now 32 Length c.as_array.result c.in_ok-key.key c.as_array.ensures.cases c.ok_or.ensures.value c.in_ok-key.was in
    let n = parsed c.args.nonce.now 32 Length c.as_array-2.result c.in_ok-nonce.nonce c.as_array-2.ensures.cases c.ok_or-2.ensures.value c.in_ok-nonce.was in
    let u = unparsed c.args.receipt.now 160 NoReceipt c.as_array-3.result c.in_err-receipt.field-0.0 c.from_residual-in_err-receipt.result c.as_array-3.ensures.cases c.ok_or-3.ensures.value c.in_err-receipt.was c.from_residual-in_err-receipt.ensures.1 in
    let d = verdict_exactly _ (λ i. omega (arith, c.type_inv.receipt i)) u.0 (receipt-length c.args.key.now c.args.receipt.now c.args.nonce.now c.args.q k.1 n.1 u.1) in
    record { answer = d.0; exactly = d.1.0; blocks = d.1.1 }

pub returns-in_err-kind : goal.returns-in_err-kind
returns-in_err-kind c =
    let k = parsed c.args.key.now 32 Length c.as_array.result c.in_ok-key.key c.as_array.ensures.cases c.ok_or.ensures.value c.in_ok-key.was in
    let n = parsed c.args.nonce.now 32 Length c.as_array-2.result c.in_ok-nonce.nonce c.as_array-2.ensures.cases c.ok_or-2.ensures.value c.in_ok-nonce.was in
    let r = parsed c.args.receipt.now 160 NoReceipt c.as_array-3.result c.in_ok-receipt.receipt c.as_array-3.ensures.cases c.ok_or-3.ensures.value c.in_ok-receipt.was in
    let u = missing _ _ NoReceipt c.possible_kind.result c.in_err-kind.field-0.0 c.from_residual-in_err-kind.result c.possible_kind.ensures c.ok_or-4.ensures.value c.in_err-kind.was c.from_residual-in_err-kind.ensures.1 in
    let p = ap (λ (x : List ℕ). possible (read_attestation x)) (sym r.0) ∙ u.1 in
    let d = verdict_exactly _ (λ i. omega (arith, c.type_inv.receipt i)) u.0 (impossible c.args.key.now c.args.receipt.now c.args.nonce.now c.args.q k.1 n.1 r.1 p) in
    record { answer = d.0; exactly = d.1.0; blocks = d.1.1 }

pub accepted-requires : goal.accepted-requires
accepted-requires c = (there _ _ NoReceipt c.possible_kind.result c.in_ok-kind.kind c.possible_kind.ensures c.ok_or-4.ensures.value c.in_ok-kind.was).1

pub returns-then-not-tag : goal.returns-then-not-tag
returns-then-not-tag c =
    let k = parsed c.args.key.now 32 Length c.as_array.result c.in_ok-key.key c.as_array.ensures.cases c.ok_or.ensures.value c.in_ok-key.was in
    let n = parsed c.args.nonce.now 32 Length c.as_array-2.result c.in_ok-nonce.nonce c.as_array-2.ensures.cases c.ok_or-2.ensures.value c.in_ok-nonce.was in
    let r = parsed c.args.receipt.now 160 NoReceipt c.as_array-3.result c.in_ok-receipt.receipt c.as_array-3.ensures.cases c.ok_or-3.ensures.value c.in_ok-receipt.was in
    let p = ap (λ (x : List ℕ). possible (read_attestation x)) (sym r.0) ∙ (there _ _ NoReceipt c.possible_kind.result c.in_ok-kind.kind c.possible_kind.ensures c.ok_or-4.ensures.value c.in_ok-kind.was).0 in
    let t = ap₂ is_tagged (sym k.0) (sym r.0) ∙ sym c.is_tagged-tag.ensures.0 ∙ not-true _ c.if-not-tag.true in
    let w = wrong-tag c.args.key.now c.args.receipt.now c.args.nonce.now c.args.q k.1 n.1 r.1 p t in
    let d = verdict_exactly (Err (record { why = Tag; blocks = c.is_tagged-tag.result.blocks })) (λ i. omega (arith, c.type_inv.receipt i)) refl (w.0, c.is_tagged-tag.ensures.1 ∙ w.1) in
    record { answer = d.0; exactly = d.1.0; blocks = d.1.1 }

pub returns-then-not-is_answer : goal.returns-then-not-is_answer
returns-then-not-is_answer c =
    let k = parsed c.args.key.now 32 Length c.as_array.result c.in_ok-key.key c.as_array.ensures.cases c.ok_or.ensures.value c.in_ok-key.was in
    let n = parsed c.args.nonce.now 32 Length c.as_array-2.result c.in_ok-nonce.nonce c.as_array-2.ensures.cases c.ok_or-2.ensures.value c.in_ok-nonce.was in
    let r = parsed c.args.receipt.now 160 NoReceipt c.as_array-3.result c.in_ok-receipt.receipt c.as_array-3.ensures.cases c.ok_or-3.ensures.value c.in_ok-receipt.was in
    let p = ap (λ (x : List ℕ). possible (read_attestation x)) (sym r.0) ∙ (there _ _ NoReceipt c.possible_kind.result c.in_ok-kind.kind c.possible_kind.ensures c.ok_or-4.ensures.value c.in_ok-kind.was).0 in
    let t = ap₂ is_tagged (sym k.0) (sym r.0) ∙ sym c.is_tagged-tag.ensures.0 ∙ not-false _ c.if-not-tag.false in
    let a = ap₂ (λ (x y : List ℕ). answers (read_attestation x) c.args.q y) (sym r.0) (sym n.0) ∙ sym c.is_answer.ensures ∙ c.if-not-is_answer.true in
    let w = other-question c.args.key.now c.args.receipt.now c.args.nonce.now c.args.q k.1 n.1 r.1 p t a in
    let d = verdict_exactly (Err (record { why = OtherQuestion; blocks = c.is_tagged-tag.result.blocks })) (λ i. omega (arith, c.type_inv.receipt i)) refl (w.0, c.is_tagged-tag.ensures.1 ∙ w.1) in
    record { answer = d.0; exactly = d.1.0; blocks = d.1.1 }

pub returns : goal.returns
returns c =
    let k = parsed c.args.key.now 32 Length c.as_array.result c.in_ok-key.key c.as_array.ensures.cases c.ok_or.ensures.value c.in_ok-key.was in
    let n = parsed c.args.nonce.now 32 Length c.as_array-2.result c.in_ok-nonce.nonce c.as_array-2.ensures.cases c.ok_or-2.ensures.value c.in_ok-nonce.was in
    let r = parsed c.args.receipt.now 160 NoReceipt c.as_array-3.result c.in_ok-receipt.receipt c.as_array-3.ensures.cases c.ok_or-3.ensures.value c.in_ok-receipt.was in
    let p = ap (λ (x : List ℕ). possible (read_attestation x)) (sym r.0) ∙ (there _ _ NoReceipt c.possible_kind.result c.in_ok-kind.kind c.possible_kind.ensures c.ok_or-4.ensures.value c.in_ok-kind.was).0 in
    let t = ap₂ is_tagged (sym k.0) (sym r.0) ∙ sym c.is_tagged-tag.ensures.0 ∙ not-false _ c.if-not-tag.false in
    let a = ap₂ (λ (x y : List ℕ). answers (read_attestation x) c.args.q y) (sym r.0) (sym n.0) ∙ sym c.is_answer.ensures ∙ c.if-not-is_answer.false in
    let w = accepts c.args.key.now c.args.receipt.now c.args.nonce.now c.args.q k.1 n.1 r.1 p t a in
    let e = c.accepted.ensures ∙ ap (λ (x : List ℕ). carried (read_attestation x)) r.0 in
    let d = verdict_exactly (Ok (record { value = c.accepted.result; blocks = c.is_tagged-tag.result.blocks })) (λ i. omega (arith, c.type_inv.receipt i)) refl (ap (answer 0) e ∙ w.0, c.is_tagged-tag.ensures.1 ∙ w.1) in
    record { answer = d.0; exactly = d.1.0; blocks = d.1.1 }
