-- `script_run::answer_last` meets its contract.
use Rattle.std.proofs.Common.{List, ℕ, [], ◌∷◌, take, length, ◌∙◌, refl, sym, subst, arith}
use Rattle.std.specs.Io.KnownBytes.{Appends}
use Rattle.script.specs.Stream.{last_answer}
use Rattle.script_run.proofs.StepLaws.{handed}
use Rattle.std.proofs.Math.Seq.{length-take-le, take_all}
use Rattle.octets.specs.Undivided.{Undivided}
use Rattle.script_run.proofs.answer_last.Code.Mir.{function}
use Rattle.script_run.proofs.answer_last.Goals as goal

pub undivided : Undivided ("program::write_out" ∷ "script_pieces::pieces::Script::finish" ∷ "script_run::gap" ∷ []) function
undivided = refl

pub slice_bounds-write_out-end-2 : goal.slice_bounds-write_out-end-2
slice_bounds-write_out-end-2 g c = sym (length-take-le c.finish-to.result c.finish-to.new.out (omega arith))

pub returns-in-Err : goal.returns-in-Err
returns-in-Err g c =
    let f = c.finish-to.ensures in
    (c.in-Err.cut.done, subst (λ (x : List ℕ). Appends (g.W.Write.contents c.args.output.now) (g.W.Write.contents c.write_out.new.output) (take c.in-Err.cut.done x)) (handed c.args.out.now (last_answer c.args.script.now.table c.args.script.now.held c.args.script.now.number) c.finish-to.result f.text f.place) c.in-Err.ensures.part)

pub returns-in_default : goal.returns-in_default
returns-in_default g c =
    let f = c.finish-to.ensures in
    let L : List ℕ = (last_answer c.args.script.now.table c.args.script.now.held c.args.script.now.number) in
    (length L, subst (Appends (g.W.Write.contents c.args.output.now) (g.W.Write.contents c.write_out.new.output)) (handed c.args.out.now L c.finish-to.result f.text f.place ∙ sym (take_all (length L) L (omega arith))) c.in_default.ensures.whole)
