-- `script_calls::truncate` meets its contract.
use Rattle.std.proofs.Common.{[], ◌∷◌, refl, ◌∙◌, arith, rules}
use Rattle.a2m.specs.Call.{truncate}
use Rattle.a2m.specs.ImageCalls.{wrong_length}
use Rattle.script.proofs.CallLaws.{truncate_changes}
use Rattle.script.proofs.AnswerLaws.{change-named, change-answers}
use Rattle.octets.specs.Undivided.{Undivided}
use Rattle.script_calls.proofs.truncate.Code.Mir.{function}
use Rattle.script_calls.proofs.truncate.Goals as goal

pub undivided : Undivided ("a2m_truncate::truncate" ∷ "script_calls::changed" ∷ []) function
undivided = refl

pub changed-requires : goal.changed-requires
unfolding wrong_length
changed-requires c = change-named c.args.table.now c.truncate-change.new.table (truncate c.args.log c.args.position) c.truncate-change.result refl c.truncate-change.ensures.answer c.truncate-change.ensures.bytes

pub returns : goal.returns
unfolding wrong_length
returns c = record { answer = c.changed.ensures ∙ change-answers c.args.table.now c.truncate-change.new.table (truncate c.args.log c.args.position) c.truncate-change.result refl c.truncate-change.ensures.answer c.truncate-change.ensures.bytes (search rules) (omega arith) (truncate_changes c.args.log c.args.position); bytes = c.truncate-change.ensures.bytes }
