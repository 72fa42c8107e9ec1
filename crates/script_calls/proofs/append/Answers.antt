-- `script_calls::append` meets its contract.
use Rattle.std.proofs.Common.{[], ◌∷◌, refl, ap, ◌∙◌, arith}
use Rattle.bigendian.specs.BigEndian.{placed}
use Rattle.a2m.specs.Call.{append}
use Rattle.a2m.proofs.Answered.{same-change}
use Rattle.script.proofs.CallLaws.{append_changes}
use Rattle.script.proofs.AnswerLaws.{append-sized, change-named, change-answers}
use Rattle.octets.specs.Undivided.{Undivided}
use Rattle.script_calls.proofs.append.Code.Mir.{function}
use Rattle.script_calls.proofs.append.Goals as goal
use Rattle.script_calls.proofs.append.Goals.{After-placed-x}

pub undivided : Undivided ("a2m_put::append::append" ∷ "script_calls::changed" ∷ "script_calls::placed" ∷ []) function
undivided = refl

pub changed-requires : goal.changed-requires
changed-requires c =
    let d = same-change c.args.table.now (ap (append c.args.log) c.placed-x.ensures) c.append-change.ensures in
    change-named c.args.table.now c.append-change.new.table (append c.args.log (placed c.args.value)) c.append-change.result (append-sized c.args.log c.args.value) d.answer d.bytes

pub returns : goal.returns
returns c =
    let d = same-change c.args.table.now (ap (append c.args.log) c.placed-x.ensures) c.append-change.ensures in
    record {
      answer = c.changed.ensures ∙ change-answers c.args.table.now c.append-change.new.table (append c.args.log (placed c.args.value)) c.append-change.result (append-sized c.args.log c.args.value) d.answer d.bytes (λ i. omega (arith, (goal.at.returns c).After-placed-x.type_inv.table i)) tt (append_changes c.args.log (placed c.args.value));
      bytes = d.bytes;
    }
