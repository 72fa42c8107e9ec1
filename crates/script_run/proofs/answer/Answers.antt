-- `script_run::answer` meets its contract.
use Rattle.std.proofs.Common.{List, ℕ, [], ◌∷◌, take, length-take, refl, subst, arith}
use Rattle.std.specs.Io.KnownBytes.{Appends}
use Rattle.script.specs.Stream.{answered}
use Rattle.script_run.proofs.StepLaws.{missing, handed}
use Rattle.octets.specs.Undivided.{Undivided}
use Rattle.script_run.proofs.answer.Code.Mir.{function}
use Rattle.script_run.proofs.answer.Goals as goal

pub undivided : Undivided ("program::write_out" ∷ "script_pieces::pieces::Script::feed" ∷ "script_run::line_after" ∷ []) function
undivided = refl

pub returns-in-Err-clause-answers : goal.returns-in-Err-clause-answers
returns-in-Err-clause-answers g c = missing c.in-Err.field-0.done c.line_after.result c.feed-to.ensures (omega (arith, c.in-Err.ensures.short, length-take c.feed-to.result c.feed-to.new.out)) c.line_after.ensures

pub returns-in-Err-clause-written : goal.returns-in-Err-clause-written
returns-in-Err-clause-written g c =
    let f = c.feed-to.ensures in
    (c.in-Err.field-0.done, subst (λ (x : List ℕ). Appends (g.W.Write.contents c.args.output.now) (g.W.Write.contents c.write_out.new.output) (take c.in-Err.field-0.done x)) (handed c.args.out.now (answered c.args.script.now.table c.args.script.now.held c.args.script.now.number c.args.piece.now) c.feed-to.result f.text f.place) c.in-Err.ensures.part)

pub returns-clause-written : goal.returns-clause-written
returns-clause-written g c =
    let f = c.feed-to.ensures in
    subst (Appends (g.W.Write.contents c.args.output.now) (g.W.Write.contents c.write_out.new.output)) (handed c.args.out.now (answered c.args.script.now.table c.args.script.now.held c.args.script.now.number c.args.piece.now) c.feed-to.result f.text f.place) c.in_default.ensures.whole
