-- `quorum_certify::certify` meets its contract.
use Rattle.std.proofs.Common.{refl, sym, ap, ◌∙◌, arith, Ok, Err}
use Rattle.refusal.specs.declared.Refusal.TheVariants.{Length, Roster, NoReceipt, TooFew}
use Rattle.receipt.proofs.Parsed.{parsed, unparsed, there, missing}
use Rattle.roster.specs.Roster.{size}
use Rattle.roster.proofs.Profiles.{permitted-exactly}
use Rattle.quorum.proofs.Tallies.{other-nonce, no-profile, no-roster, no-receipts, members-most, tally-bounded, by_slices, receipts-exactly}
use Rattle.quorum.proofs.Certificates.{certificate_exactly}
use Rattle.quorum.specs.Tally.{found_answer}
use Rattle.std.specs.List.{concat}
use Rattle.std.specs.Prelude.{length}
use Rattle.quorum_certify.proofs.certify.Goals as goal

pub returns-in_err-nonce : goal.returns-in_err-nonce
returns-in_err-nonce c =
    let u = unparsed c.args.nonce.now 32 Length c.as_array.result c.in_err-nonce.field-0.0 c.from_residual.result c.as_array.ensures.cases c.ok_or.ensures.value c.in_err-nonce.was c.from_residual.ensures.1 in
    let d = certificate_exactly _ (λ i. omega (arith, c.type_inv.cert i)) u.0 (other-nonce c.args.members c.args.needed c.args.roster.now c.args.nonce.now c.args.log c.args.position c.args.cert.now u.1) in
    record { answer = d.0; exactly = d.1.0; blocks = d.1.1 }

pub returns-then-not-is_permitted : goal.returns-then-not-is_permitted
returns-then-not-is_permitted c =
    let n = parsed c.args.nonce.now 32 Length c.as_array.result c.in_ok-nonce.nonce c.as_array.ensures.cases c.ok_or.ensures.value c.in_ok-nonce.was in
    let d = certificate_exactly _ (λ i. omega (arith, c.type_inv.cert i)) (ap Err c.into.ensures) (no-profile c.args.members c.args.needed c.args.roster.now c.args.nonce.now c.args.log c.args.position c.args.cert.now n.1 (sym c.is_permitted.ensures ∙ c.if-not-is_permitted.true)) in
    record { answer = d.0; exactly = d.1.0; blocks = d.1.1 }

pub returns-in_err-items : goal.returns-in_err-items
returns-in_err-items c =
    let n = parsed c.args.nonce.now 32 Length c.as_array.result c.in_ok-nonce.nonce c.as_array.ensures.cases c.ok_or.ensures.value c.in_ok-nonce.was in
    let p = sym c.is_permitted.ensures ∙ c.if-not-is_permitted.false in
    let u = missing _ _ Roster c.items.result c.in_err-items.field-0.0 c.from_residual-in_err-items.result c.items.ensures c.ok_or-2.ensures.value c.in_err-items.was c.from_residual-in_err-items.ensures.1 in
    let d = certificate_exactly _ (λ i. omega (arith, c.type_inv.cert i)) u.0 (no-roster c.args.members c.args.needed c.args.roster.now c.args.nonce.now c.args.log c.args.position c.args.cert.now n.1 p u.1) in
    record { answer = d.0; exactly = d.1.0; blocks = d.1.1 }

pub returns-in_err-receipts : goal.returns-in_err-receipts
returns-in_err-receipts c =
    let n = parsed c.args.nonce.now 32 Length c.as_array.result c.in_ok-nonce.nonce c.as_array.ensures.cases c.ok_or.ensures.value c.in_ok-nonce.was in
    let p = sym c.is_permitted.ensures ∙ c.if-not-is_permitted.false in
    let r = there _ _ Roster c.items.result c.in_ok-items.items c.items.ensures c.ok_or-2.ensures.value c.in_ok-items.was in
    let u = missing _ _ NoReceipt c.receipts_in.result c.in_err-receipts.field-0.0 c.from_residual-in_err-receipts.result c.receipts_in.ensures c.ok_or-3.ensures.value c.in_err-receipts.was c.from_residual-in_err-receipts.ensures.1 in
    let d = certificate_exactly _ (λ i. omega (arith, c.type_inv.cert i)) u.0 (no-receipts c.args.members c.args.needed c.args.roster.now c.args.nonce.now c.args.log c.args.position c.args.cert.now n.1 p r.0 u.1) in
    record { answer = d.0; exactly = d.1.0; blocks = d.1.1 }

pub tally_of-tally-requires : goal.tally_of-tally-requires
tally_of-tally-requires c =
    let n = parsed c.args.nonce.now 32 Length c.as_array.result c.in_ok-nonce.nonce c.as_array.ensures.cases c.ok_or.ensures.value c.in_ok-nonce.was in
    let p = sym c.is_permitted.ensures ∙ c.if-not-is_permitted.false in
    let r = there _ _ Roster c.items.result c.in_ok-items.items c.items.ensures c.ok_or-2.ensures.value c.in_ok-items.was in
    let q = there _ _ NoReceipt c.receipts_in.result c.in_ok-receipts.receipts c.receipts_in.ensures c.ok_or-3.ensures.value c.in_ok-receipts.was in
    let m = members-most c.args.members c.args.needed c.args.roster.now c.args.nonce.now c.args.log c.args.position c.args.cert.now n.1 p r.0 in
    let few = ((receipts-exactly c.args.cert.now).0 q.0).most in
    (omega (arith, m, r.1.1), omega (arith, few, q.1.1))

pub overflow_cast-needed : goal.overflow_cast-needed
overflow_cast-needed c =
    let p = (permitted-exactly c.args.members c.args.needed).0 (sym c.is_permitted.ensures ∙ c.if-not-is_permitted.false) in omega (arith, p.most, p.not_more)

pub invariant_of-read : goal.invariant_of-read
invariant_of-read c =
    let n = parsed c.args.nonce.now 32 Length c.as_array.result c.in_ok-nonce.nonce c.as_array.ensures.cases c.ok_or.ensures.value c.in_ok-nonce.was in
    let p = sym c.is_permitted.ensures ∙ c.if-not-is_permitted.false in
    let r = there _ _ Roster c.items.result c.in_ok-items.items c.items.ensures c.ok_or-2.ensures.value c.in_ok-items.was in
    let q = there _ _ NoReceipt c.receipts_in.result c.in_ok-receipts.receipts c.receipts_in.ensures c.ok_or-3.ensures.value c.in_ok-receipts.was in
    let m = members-most c.args.members c.args.needed c.args.roster.now c.args.nonce.now c.args.log c.args.position c.args.cert.now n.1 p r.0 in
    let few = ((receipts-exactly c.args.cert.now).0 q.0).most in
    record {
      few = omega (arith, few, q.1.1);
      bounded = tally-bounded (concat c.in_ok-items.items.now) c.in_ok-nonce.nonce.now c.args.log c.args.position (concat c.in_ok-receipts.receipts.now) c.tally_of-tally.result.value (length c.in_ok-receipts.receipts.now) (omega (arith, m, ap size r.1.0)) c.tally_of-tally.ensures.members;
    }

pub returns-in_default : goal.returns-in_default
returns-in_default c =
    let n = parsed c.args.nonce.now 32 Length c.as_array.result c.in_ok-nonce.nonce c.as_array.ensures.cases c.ok_or.ensures.value c.in_ok-nonce.was in
    let p = sym c.is_permitted.ensures ∙ c.if-not-is_permitted.false in
    let r = there _ _ Roster c.items.result c.in_ok-items.items c.items.ensures c.ok_or-2.ensures.value c.in_ok-items.was in
    let q = there _ _ NoReceipt c.receipts_in.result c.in_ok-receipts.receipts c.receipts_in.ensures c.ok_or-3.ensures.value c.in_ok-receipts.was in
    let j = by_slices c.args.members c.args.needed c.args.roster.now c.args.nonce.now c.args.log c.args.position c.args.cert.now n.1 p r.0 c.tally_of-tally.result.value _ _ _ _ r.1.0 n.0 q.1.0 q.1.1 q.0 c.tally_of-tally.ensures.members (ap found_answer (sym c.in_default.is) ∙ c.first_place.ensures) c.tally_of-tally.ensures.blocks in
    let d = certificate_exactly (Err (record { why = TooFew; blocks = c.tally_of-tally.result.blocks })) (λ i. omega (arith, c.type_inv.cert i)) refl j in
    record { answer = d.0; exactly = d.1.0; blocks = d.1.1 }

pub returns : goal.returns
returns c =
    let n = parsed c.args.nonce.now 32 Length c.as_array.result c.in_ok-nonce.nonce c.as_array.ensures.cases c.ok_or.ensures.value c.in_ok-nonce.was in
    let p = sym c.is_permitted.ensures ∙ c.if-not-is_permitted.false in
    let r = there _ _ Roster c.items.result c.in_ok-items.items c.items.ensures c.ok_or-2.ensures.value c.in_ok-items.was in
    let q = there _ _ NoReceipt c.receipts_in.result c.in_ok-receipts.receipts c.receipts_in.ensures c.ok_or-3.ensures.value c.in_ok-receipts.was in
    let j = by_slices c.args.members c.args.needed c.args.roster.now c.args.nonce.now c.args.log c.args.position c.args.cert.now n.1 p r.0 c.tally_of-tally.result.value _ _ _ _ r.1.0 n.0 q.1.0 q.1.1 q.0 c.tally_of-tally.ensures.members (ap found_answer (sym c.in-Some.is) ∙ c.first_place.ensures) c.tally_of-tally.ensures.blocks in
    let d = certificate_exactly (Ok (record { value = c.in-Some.value; blocks = c.tally_of-tally.result.blocks })) (λ i. omega (arith, c.type_inv.cert i)) refl j in
    record { answer = d.0; exactly = d.1.0; blocks = d.1.1 }
