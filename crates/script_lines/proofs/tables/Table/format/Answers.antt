-- `script_lines::tables::Table::format` meets its contract.
use Rattle.std.proofs.Common.{◌≡◌, ℕ, List, [], ◌∷◌, Some, take, refl, sym, ap, subst, ◌∙◌, arith}
use Rattle.std.proofs.Math.Seq.{length-take-le}
use borrow.Rule.Slice.PartMut.{put_mid}
use Rattle.octets.specs.Octets.{zeros}
use Rattle.refusal.specs.Work.{worked_number}
use Rattle.refusal.specs.Number.{number_of}
use Rattle.refusal.proofs.NumberLaws.{number_of-positive}
use Rattle.line.specs.declared.Command.TheVariants.{Format}
use Rattle.script.specs.declared.Answer.{Answer}
use Rattle.script.specs.declared.Answer.TheVariants.{Plain}
use Rattle.script.specs.Script.{Turns}
use Rattle.script.proofs.TurnLaws.{many-logs, many-slots, format-counts, format-done, format-refused, came-back, untouched}
use Rattle.octets.specs.Undivided.{Undivided}
use Rattle.script_lines.proofs.tables.Table.format.Code.Mir.{function}
use Rattle.script_lines.proofs.tables.Table.format.Goals as goal
use Rattle.script_lines.proofs.tables.Table.format.Goals.{then-logs-gt16-via-then-logs-gt16, then-logs-gt16-via-else-logs-gt16+then-slots-gt800}

pub undivided : Undivided ("layout::Counts::size" ∷ "script::AnswerFromRefusal::from" ∷ "table_format::format" ∷ []) function
undivided = refl

pub returns-then-logs-gt16 : goal.returns-then-logs-gt16
returns-then-logs-gt16 c =
    let rs : List ℕ = take c.args.logs c.args.reserves in
    subst (Turns c.args.self.now (Some (Format c.args.logs c.args.slots c.args.keeper c.args.reserves)) rs c.args.self.now) (sym c.from.ensures)
    (format-counts c.args.self.now c.args.logs c.args.slots c.args.keeper c.args.reserves rs
    (elim c.then-logs-gt16.branch [
      | then-logs-gt16-via-then-logs-gt16 w ↦ many-logs c.args.logs c.args.slots rs (omega (arith, w.if-logs-gt16.true))
      | then-logs-gt16-via-else-logs-gt16+then-slots-gt800 w ↦ many-slots c.args.logs c.args.slots rs (omega (arith, w.if-slots-gt800.true))
    ]))

pub returns-in-Ok : goal.returns-in-Ok
unfolding zeros
returns-in-Ok c =
    let l : List ℕ = c.self.inside.bytes in
    let k : ℕ = c.size-n.result in
    let t = format-done c.args.self.now (take k l) c.format.new.table k c.args.logs c.args.slots c.args.keeper c.args.reserves _ c.size-n.ensures (length-take-le k l (omega arith)) c.format.ensures.answer c.format.ensures.bytes (ap (worked_number {T = Unit}) c.in-Ok.is) in
    subst (λ (b : List ℕ). Turns c.args.self.now (Some (Format c.args.logs c.args.slots c.args.keeper c.args.reserves)) (take c.args.logs c.args.reserves) b (Plain 0)) (sym (came-back l c.format.new.table k (omega arith) c.format.auto.table)) t

pub returns-in-Err : goal.returns-in-Err
unfolding zeros
returns-in-Err c =
    let l : List ℕ = c.self.inside.bytes in
    let k : ℕ = c.size-n.result in
    let n : worked_number c.format.result ≡ number_of c.in-Err.r.why = ap (worked_number {T = Unit}) c.in-Err.is in
    let t = format-refused c.args.self.now (take k l) c.format.new.table k c.args.logs c.args.slots c.args.keeper c.args.reserves (worked_number c.format.result) c.size-n.ensures (length-take-le k l (omega arith)) c.format.ensures.answer c.format.ensures.bytes (omega (arith, n, number_of-positive c.in-Err.r.why)) in
    let b : take c.self.inside.size (put_mid 0 k l c.format.new.table) ≡ c.args.self.now = ap (take c.self.inside.size) (untouched l c.format.new.table k t.0) ∙ c.self.view_is in
    let P : List ℕ → Answer → Type 0 = λ (b : List ℕ) (a : Answer). Turns c.args.self.now (Some (Format c.args.logs c.args.slots c.args.keeper c.args.reserves)) (take c.args.logs c.args.reserves) b a in
    subst (λ (x : List ℕ). P x c.from-in-Err.result) (sym b) (subst (P c.args.self.now) (ap Plain n ∙ sym c.from-in-Err.ensures) t.1)
