-- `script_run::run` meets its contract.
use Rattle.std.proofs.Common.{[], ◌∷◌, refl, arith}
use Rattle.script.proofs.Reading.{after_none}
use Rattle.script_run.proofs.StepLaws.{ran-none, ran-over, ran-all}
use Rattle.octets.specs.Undivided.{Undivided}
use Rattle.script_run.proofs.run.Code.Mir.{function}
use Rattle.script_run.proofs.run.Goals as goal

pub undivided : Undivided ("program::buffer" ∷ "program::fail" ∷ "program::write_out" ∷ "script_pieces::pieces::Script::new" ∷ "script_run::answer_last" ∷ "script_run::gap" ∷ "script_run::read_all" ∷ []) function
undivided = refl

pub read_all-requires : goal.read_all-requires
read_all-requires g c = (rw (c.new-script.ensures.table, c.new-script.ensures.held, c.new-script.ensures.number) after_none, omega arith)

pub returns-in-Err : goal.returns-in-Err
returns-in-Err g c = ran-none (g.R.Read.remaining c.args.input.now) (g.W.Write.contents c.args.output.now) (g.W.Write.contents c.write_out.new.output) c.in-Err.cut.done c.in-Err.ensures.part

pub returns-in-Ok : goal.returns-in-Ok
returns-in-Ok g c = ran-all (g.R.Read.remaining c.args.input.now) (g.R.Read.remaining c.read_all.new.input) (g.W.Write.contents c.args.output.now) (g.W.Write.contents c.write_out.new.output) (g.W.Write.contents c.read_all.new.output) c.in_default.ensures.whole (g.W.Write.contents c.answer_last.new.output) c.read_all.new.script c.in-Ok.ensures c.answer_last.ensures

pub returns-in-Err-Unread : goal.returns-in-Err-Unread
returns-in-Err-Unread g c = ran-over (g.R.Read.remaining c.args.input.now) (g.R.Read.remaining c.read_all.new.input) (g.W.Write.contents c.args.output.now) (g.W.Write.contents c.write_out.new.output) (g.W.Write.contents c.read_all.new.output) c.in_default.ensures.whole c.in-Err-Unread.field-0 c.read_all.new.script c.in-Err-Unread.ensures

pub returns-in-Err-Unwritten : goal.returns-in-Err-Unwritten
returns-in-Err-Unwritten g c = ran-over (g.R.Read.remaining c.args.input.now) (g.R.Read.remaining c.read_all.new.input) (g.W.Write.contents c.args.output.now) (g.W.Write.contents c.write_out.new.output) (g.W.Write.contents c.read_all.new.output) c.in_default.ensures.whole c.in-Err-Unwritten.field-0 c.read_all.new.script c.in-Err-Unwritten.ensures
