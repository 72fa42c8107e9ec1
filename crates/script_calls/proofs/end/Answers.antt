-- `script_calls::end` meets its contract.
use Rattle.std.proofs.Common.{[], ◌∷◌, Result, refl, sym, ap, ◌∙◌, arith}
use Rattle.octets.specs.Octets.{zeros}
use Rattle.refusal.specs.declared.Hashed.{Hashed}
use Rattle.refusal.specs.declared.Refused.{Refused}
use Rattle.a2m.specs.Call.{end}
use Rattle.a2m.specs.ImageCalls.{wrong_length}
use Rattle.a2m.specs.Opened.{end_reply}
use Rattle.script.proofs.CallLaws.{refused-named}
use Rattle.script.proofs.AnswerLaws.{reply-answers, reply-accepted, ended-not}
use Rattle.octets.specs.Undivided.{Undivided}
use Rattle.script_calls.proofs.end.Code.Mir.{function}
use Rattle.script_calls.proofs.end.Goals as goal

pub undivided : Undivided ("a2m_read::end::end" ∷ "script_calls::attested" ∷ "script_calls::refused" ∷ []) function
undivided = refl

pub attested-requires : goal.attested-requires
unfolding zeros
attested-requires c =
    let e = ap (λ (x : Result (Hashed Unit) Refused). end_reply x c.end.new.receipt) (sym c.in-Ok.is) ∙ c.end.ensures.answer in
    reply-accepted c.args.table.now (end c.args.log (zeros 32) 160) (λ k h. ended-not c.end.new.receipt k (e ∙ h))

pub refused-requires : goal.refused-requires
unfolding zeros wrong_length
refused-requires c =
    let e = ap (λ (x : Result (Hashed Unit) Refused). end_reply x c.end.new.receipt) (sym c.in-Err.is) ∙ c.end.ensures.answer in
    refused-named c.args.table.now (end c.args.log (zeros 32) 160) _ refl (sym e)

pub returns-in-Ok : goal.returns-in-Ok
unfolding zeros
returns-in-Ok c =
    let e = ap (λ (x : Result (Hashed Unit) Refused). end_reply x c.end.new.receipt) (sym c.in-Ok.is) ∙ c.end.ensures.answer in
    c.attested.ensures ∙ reply-answers c.args.table.now (λ i. omega (arith, c.type_inv.table i)) (end c.args.log (zeros 32) 160) tt _ e

pub returns-in-Err : goal.returns-in-Err
unfolding zeros
returns-in-Err c =
    let e = ap (λ (x : Result (Hashed Unit) Refused). end_reply x c.end.new.receipt) (sym c.in-Err.is) ∙ c.end.ensures.answer in
    c.refused.ensures ∙ reply-answers c.args.table.now (λ i. omega (arith, c.type_inv.table i)) (end c.args.log (zeros 32) 160) tt _ e
