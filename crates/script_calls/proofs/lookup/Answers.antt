-- `script_calls::lookup` meets its contract.
use Rattle.std.proofs.Common.{ℕ, [], ◌∷◌, Result, refl, sym, ap, ◌∙◌, arith}
use Rattle.octets.specs.Octets.{zeros}
use Rattle.refusal.specs.declared.Hashed.{Hashed}
use Rattle.refusal.specs.declared.Refused.{Refused}
use Rattle.a2m.specs.Call.{lookup}
use Rattle.a2m.specs.ImageCalls.{wrong_length}
use Rattle.a2m.specs.Opened.{finding_reply}
use Rattle.script.proofs.CallLaws.{refused-named}
use Rattle.script.proofs.AnswerLaws.{reply-answers, reply-accepted, found-not}
use Rattle.octets.specs.Undivided.{Undivided}
use Rattle.script_calls.proofs.lookup.Code.Mir.{function}
use Rattle.script_calls.proofs.lookup.Goals as goal

pub undivided : Undivided ("a2m_read::lookup::lookup_sized" ∷ "script_calls::attested" ∷ "script_calls::refused" ∷ []) function
undivided = refl

pub attested-requires : goal.attested-requires
unfolding zeros
attested-requires c =
    let e = ap (λ (x : Result (Hashed ℕ) Refused). finding_reply x c.lookup_sized.new.receipt) (sym c.in-Ok.is) ∙ c.lookup_sized.ensures.answer in
    reply-accepted c.args.table.now (lookup c.args.log c.args.position (zeros 32) 160) (λ k h. found-not c.lookup_sized.new.receipt _ k (e ∙ h))

pub refused-requires : goal.refused-requires
unfolding zeros wrong_length
refused-requires c =
    let e = ap (λ (x : Result (Hashed ℕ) Refused). finding_reply x c.lookup_sized.new.receipt) (sym c.in-Err.is) ∙ c.lookup_sized.ensures.answer in
    refused-named c.args.table.now (lookup c.args.log c.args.position (zeros 32) 160) _ refl (sym e)

pub returns-in-Ok : goal.returns-in-Ok
unfolding zeros
returns-in-Ok c =
    let e = ap (λ (x : Result (Hashed ℕ) Refused). finding_reply x c.lookup_sized.new.receipt) (sym c.in-Ok.is) ∙ c.lookup_sized.ensures.answer in
    c.attested.ensures ∙ reply-answers c.args.table.now (λ i. omega (arith, c.type_inv.table i)) (lookup c.args.log c.args.position (zeros 32) 160) tt _ e

pub returns-in-Err : goal.returns-in-Err
unfolding zeros
returns-in-Err c =
    let e = ap (λ (x : Result (Hashed ℕ) Refused). finding_reply x c.lookup_sized.new.receipt) (sym c.in-Err.is) ∙ c.lookup_sized.ensures.answer in
    c.refused.ensures ∙ reply-answers c.args.table.now (λ i. omega (arith, c.type_inv.table i)) (lookup c.args.log c.args.position (zeros 32) 160) tt _ e
