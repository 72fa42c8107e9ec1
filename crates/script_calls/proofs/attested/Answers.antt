-- `script_calls::attested` meets its contract.
use Rattle.std.proofs.Common.{[], ◌∷◌, refl, ap, ◌∙◌}
use Rattle.receipt.specs.Attestation.{read_attestation}
use Rattle.script.specs.Answer.{letter_of}
use Rattle.script.proofs.AnswerLaws.{attested-fields, value_read}
use Rattle.octets.specs.Undivided.{Undivided}
use Rattle.script_calls.proofs.attested.Code.Mir.{function}
use Rattle.script_calls.proofs.attested.Goals as goal

pub undivided : Undivided ("bigendian::number_at" ∷ "receipt_fields::kind_of" ∷ "receipt_fields::position_of" ∷ "receipt_fields::reference_of" ∷ "receipt_fields::value_of" ∷ "script_calls::letter" ∷ "script_calls::row_of" ∷ []) function
undivided = refl

pub returns : goal.returns
returns c =
    let a = read_attestation c.args.receipt.now in
    attested-fields a c.row_of-row.result _ c.letter.result c.position_of.result c.reference_of.result c.number_at.result c.row_of-row.ensures (c.letter.ensures ∙ ap letter_of c.kind_of.ensures) c.position_of.ensures c.reference_of.ensures (value_read c.value_of.result.now a.value c.number_at.result c.number_at.ensures.0 c.value_of.ensures)
