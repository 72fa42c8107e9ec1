-- `script_calls::advance` meets its contract.
use Rattle.std.proofs.Common.{[], ◌∷◌, refl, ap₂, ◌∙◌, arith}
use Rattle.bigendian.specs.BigEndian.{placed}
use Rattle.a2m.specs.Call.{advance}
use Rattle.a2m.proofs.Answered.{same-change}
use Rattle.script.proofs.CallLaws.{advance_changes}
use Rattle.script.proofs.AnswerLaws.{advance-sized, change-named, change-answers}
use Rattle.octets.specs.Undivided.{Undivided}
use Rattle.script_calls.proofs.advance.Code.Mir.{function}
use Rattle.script_calls.proofs.advance.Goals as goal
use Rattle.script_calls.proofs.advance.Goals.{After-placed-x}

pub undivided : Undivided ("a2m_put::advance::advance_sized" ∷ "script_calls::changed" ∷ "script_calls::placed" ∷ []) function
undivided = refl

pub changed-requires : goal.changed-requires
changed-requires c =
    let d = same-change c.args.table.now (ap₂ (advance c.args.log c.args.position) c.placed-d.ensures c.placed-x.ensures) c.advance_sized-change.ensures in
    change-named c.args.table.now c.advance_sized-change.new.table (advance c.args.log c.args.position (placed c.args.digest) (placed c.args.value)) c.advance_sized-change.result (advance-sized c.args.log c.args.position c.args.digest c.args.value) d.answer d.bytes

pub returns : goal.returns
returns c =
    let d = same-change c.args.table.now (ap₂ (advance c.args.log c.args.position) c.placed-d.ensures c.placed-x.ensures) c.advance_sized-change.ensures in
    record {
      answer =
          c.changed.ensures
          ∙ change-answers c.args.table.now c.advance_sized-change.new.table (advance c.args.log c.args.position (placed c.args.digest) (placed c.args.value)) c.advance_sized-change.result (advance-sized c.args.log c.args.position c.args.digest c.args.value) d.answer d.bytes (λ i. omega (arith, (goal.at.returns c).After-placed-x.type_inv.table i)) (omega arith) (advance_changes c.args.log c.args.position (placed c.args.digest) (placed c.args.value));
      bytes = d.bytes;
    }
