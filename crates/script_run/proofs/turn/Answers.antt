-- `script_run::turn` meets its contract.
use Rattle.std.proofs.Common.{rules, ℕ, [], ◌∷◌, Err, take, length-take, refl, ap, subst, arith}
use Rattle.std.specs.Io.KnownBytes.{Appends, Consumes}
use Rattle.script_run.specs.Steps.{Stepped}
use Rattle.script_run.proofs.StepLaws.{consumes-none, appends-none, stepped-more, stepped-over}
use Rattle.octets.specs.Undivided.{Undivided}
use Rattle.script_run.proofs.turn.Code.Mir.{function}
use Rattle.script_run.proofs.turn.Goals as goal

pub undivided : Undivided ("core::convert::AnyFrom::from" ∷ "core::result::ResultFromResidualErrResidual::from_residual" ∷ "core::result::ResultTry::branch" ∷ "script_run::answer" ∷ "script_run::ending::EndingFromIoError::from" ∷ []) function
undivided = refl

pub returns-in_err-n : goal.returns-in_err-n
returns-in_err-n g c = λ read a.
    let k : Consumes (g.R.Read.remaining c.args.input.now) (g.R.Read.remaining c.read.new.self) [] = consumes-none (g.R.Read.remaining c.args.input.now) (g.R.Read.remaining c.read.new.self) c.in_err-n.ensures.bytes in
    let p : Appends (g.W.Write.contents c.args.output.now) (g.W.Write.contents c.args.output.now) [] = appends-none (g.W.Write.contents c.args.output.now) in
    search rules

pub returns-then-n-eq0 : goal.returns-then-n-eq0
returns-then-n-eq0 g c = λ read a.
    (a, subst (Consumes (g.R.Read.remaining c.args.input.now) (g.R.Read.remaining c.read.new.self)) (ap (λ (k : ℕ). take k c.read.new.buf) c.if-n-eq0.true) c.in_ok-n.ensures.bytes.0, c.in_ok-n.ensures.bytes.1 c.if-n-eq0.true (omega (arith, c.read.auto.buf)), appends-none (g.W.Write.contents c.args.output.now))

pub returns-in_err-answer : goal.returns-in_err-answer
returns-in_err-answer g c = λ read a.
    let s : Stepped (Err c.in_err-answer.field-0.0) read c.answer.new.script c.answer.new.out (g.R.Read.remaining c.args.input.now) (g.R.Read.remaining c.read.new.self) (g.W.Write.contents c.args.output.now) (g.W.Write.contents c.answer.new.output) =
    stepped-over c.in_err-answer.field-0.0 (take c.in_ok-n.n c.read.new.buf) c.args.script.now c.args.out.now c.answer.new.script c.answer.new.out (g.R.Read.remaining c.args.input.now) (g.R.Read.remaining c.read.new.self) (g.W.Write.contents c.args.output.now) (g.W.Write.contents c.answer.new.output)
    c.in_err-answer.ensures.answers c.in_ok-n.ensures.bytes.0 c.in_err-answer.ensures.written read a in
    search rules

pub returns : goal.returns
returns g c = stepped-more (take c.in_ok-n.n c.read.new.buf) c.args.script.now c.args.out.now c.answer.new.script c.answer.new.out (g.R.Read.remaining c.args.input.now) (g.R.Read.remaining c.read.new.self) (g.W.Write.contents c.args.output.now) (g.W.Write.contents c.answer.new.output)
    (omega (arith, length-take c.in_ok-n.n c.read.new.buf, c.read.auto.buf)) c.in_ok-answer.ensures.answers c.in_ok-n.ensures.bytes.0 c.in_ok-answer.ensures.written
