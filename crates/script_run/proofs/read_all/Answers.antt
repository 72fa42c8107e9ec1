-- `script_run::read_all` meets its contract.
use Rattle.std.proofs.Common.{[], ◌∷◌, ◌++◌, Ok, Err, Bool, length-append, refl, sym, subst, ◌∙◌, arith, rules}
use Rattle.script_run.specs.Steps.{Stepped, Ended}
use Rattle.std.specs.Io.KnownBytes.{Appends}
use Rattle.script_run.proofs.StepLaws.{ready, ended, ended-ok, more-taken, more-wrote, consumes-nothing, answered-none, appends-none}
use Rattle.octets.specs.Undivided.{Undivided}
use Rattle.script_run.proofs.read_all.Code.Mir.{function}
use Rattle.script_run.proofs.read_all.Goals as goal

pub undivided : Undivided ("core::convert::AnyFrom::from" ∷ "core::result::ResultFromResidualErrResidual::from_residual" ∷ "core::result::ResultTry::branch" ∷ "script_run::turn" ∷ "std_io::io::error::Error::from_raw_os_error" ∷ []) function
undivided = refl

pub turn-requires : goal.turn-requires
turn-requires g c = ready c.loop.counter c.loop-test.true c.loop.invariant.1.1 c.loop.invariant.1.2 c.loop.invariant.0

pub returns-in_err-turn : goal.returns-in_err-turn
returns-in_err-turn g c =
    let e : Ended (Err c.in_err-turn.field-0.0) c.turn.new.script (g.R.Read.remaining c.args.input.now) (g.R.Read.remaining c.turn.new.input) (g.W.Write.contents c.args.output.now) (g.W.Write.contents c.turn.new.output) =
    ended (g.R.Read.remaining c.args.input.now) (g.R.Read.remaining c.loop.input) (g.R.Read.remaining c.turn.new.input) (g.W.Write.contents c.args.output.now) (g.W.Write.contents c.loop.output) (g.W.Write.contents c.turn.new.output) c.loop.invariant.1.0 c.loop.invariant.1.3 c.loop.invariant.1.4 c.in_err-turn.field-0.0 c.turn.new.script (c.in_err-turn.ensures c.loop.invariant.1.0 c.loop.invariant.1.1) in
    search rules

pub returns-then-not-branch : goal.returns-then-not-branch
returns-then-not-branch g c =
    ended-ok (g.R.Read.remaining c.args.input.now) (g.R.Read.remaining c.loop.input) (g.R.Read.remaining c.turn.new.input) (g.W.Write.contents c.args.output.now) (g.W.Write.contents c.loop.output) (g.W.Write.contents c.turn.new.output) c.loop.invariant.1.0 c.loop.invariant.1.3 c.loop.invariant.1.4 c.turn.new.script
    (subst (λ (b : Bool). Stepped (Ok b) c.loop.invariant.1.0 c.turn.new.script c.turn.new.out (g.R.Read.remaining c.loop.input) (g.R.Read.remaining c.turn.new.input) (g.W.Write.contents c.loop.output) (g.W.Write.contents c.turn.new.output)) c.if-not-branch.true (c.in_ok-turn.ensures c.loop.invariant.1.0 c.loop.invariant.1.1))

pub loop-init : goal.loop-init
loop-init g c = (omega arith, ([], c.requires.0, omega arith, consumes-nothing (g.R.Read.remaining c.args.input.now), subst (Appends (g.W.Write.contents c.args.output.now) (g.W.Write.contents c.args.output.now)) (sym answered-none) (appends-none (g.W.Write.contents c.args.output.now))))

pub loop-preserved : goal.loop-preserved
loop-preserved g c =
    let s = subst (λ (b : Bool). Stepped (Ok b) c.loop.invariant.1.0 c.turn.new.script c.turn.new.out (g.R.Read.remaining c.loop.input) (g.R.Read.remaining c.turn.new.input) (g.W.Write.contents c.loop.output) (g.W.Write.contents c.turn.new.output)) c.if-not-branch.false (c.in_ok-turn.ensures c.loop.invariant.1.0 c.loop.invariant.1.1) in
    (c.turn.auto.out ∙ c.loop.invariant.0, (c.loop.invariant.1.0 ++ s.0, s.2, omega (arith, s.1, length-append c.loop.invariant.1.0 s.0, c.loop.invariant.1.2), more-taken (g.R.Read.remaining c.args.input.now) (g.R.Read.remaining c.loop.input) (g.R.Read.remaining c.turn.new.input) (g.W.Write.contents c.args.output.now) (g.W.Write.contents c.loop.output) (g.W.Write.contents c.turn.new.output) c.loop.invariant.1.0 c.loop.invariant.1.3 c.loop.invariant.1.4 s.0 s.4, more-wrote (g.R.Read.remaining c.args.input.now) (g.R.Read.remaining c.loop.input) (g.R.Read.remaining c.turn.new.input) (g.W.Write.contents c.args.output.now) (g.W.Write.contents c.loop.output) (g.W.Write.contents c.turn.new.output) c.loop.invariant.1.0 c.loop.invariant.1.3 c.loop.invariant.1.4 s.0 s.5))

pub returns : goal.returns
returns g c = (c.loop.invariant.1.0, c.loop.invariant.1.3, c.loop.invariant.1.4)
