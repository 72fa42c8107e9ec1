-- `runs_compare::conclude` meets its contract.
use mathlib.Core.Path.{sym, ◌∙◌}
use Rattle.runs.specs.Lent.{whole}
use Rattle.runs.proofs.PassLaws.{differs, agrees, collides}
use Rattle.runs_compare.proofs.conclude.Goals as goal

pub returns-then-not-equal : goal.returns-then-not-equal
returns-then-not-equal c = differs (whole c.args.one.now) (whole c.args.two.now) c.args.scan c.args.out.now (sym c.equal.ensures ∙ c.if-not-equal.true)

pub returns-in_default : goal.returns-in_default
returns-in_default c = agrees (whole c.args.one.now) (whole c.args.two.now) c.args.scan c.args.out.now (sym c.equal.ensures ∙ c.if-not-equal.false) c.in_default.is

pub returns : goal.returns
returns c =
    collides (whole c.args.one.now) (whole c.args.two.now) c.args.scan c.args.out.now (sym c.equal.ensures ∙ c.if-not-equal.false) c.in-Some.pair c.in-Some.is c.requires.out_len
    c.put_block.ensures.size c.put_block-2.ensures.size c.put_block.ensures.bytes c.put_block-2.ensures.bytes
