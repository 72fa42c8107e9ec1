-- `roster::find` meets its contract.
use Rattle.roster.proofs.RosterLaws.{found, below, none, keeper-item}
use Rattle.std.specs.List.{concat}
use Rattle.std.proofs.Common.{sym, ◌∙◌, arith}
use Rattle.roster.proofs.find.Goals as goal

pub returns-then-keeper_of-keeper : goal.returns-then-keeper_of-keeper
returns-then-keeper_of-keeper c =
    found (concat c.args.roster.now) c.args.keeper _ c.loop-i.i c.loop-i-test.true c.loop-i.invariant (sym (keeper-item c.args.roster.now c.told-roster _ (omega arith)) ∙ sym c.keeper_of.ensures ∙ c.if-keeper_of-keeper.true)

pub loop-i-preserved : goal.loop-i-preserved
loop-i-preserved c =
    c.loop-i.invariant ∙ below (concat c.args.roster.now) c.args.keeper c.loop-i.i c.loop-i-test.true (λ e. c.if-keeper_of-keeper.false (c.keeper_of.ensures ∙ keeper-item c.args.roster.now c.told-roster _ (omega arith) ∙ e))

pub returns : goal.returns
returns c = none (concat c.args.roster.now) c.args.keeper _ c.loop-i.i c.loop-i-test.false c.loop-i.invariant
