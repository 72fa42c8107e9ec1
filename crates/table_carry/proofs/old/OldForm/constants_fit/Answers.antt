-- `table_carry::old::OldForm::constants_fit` meets its contract.
use Rattle.std.proofs.Common.{arith}
use Rattle.table.proofs.HeaderLaws01.{other-mark01, other-zero01, by-unused01}
use Rattle.table_carry.proofs.old.OldForm.constants_fit.Goals as goal
use Rattle.table_carry.proofs.old.OldForm.constants_fit.Goals.{then-number_at-ne-MARK01-via-then-number_at-ne-MARK01, then-number_at-ne-MARK01-via-else-number_at-ne-MARK01+then-number_at-ne0}

pub returns-then-number_at-ne-MARK01 : goal.returns-then-number_at-ne-MARK01
returns-then-number_at-ne-MARK01 c =
    elim c.then-number_at-ne-MARK01.branch [
      | then-number_at-ne-MARK01-via-then-number_at-ne-MARK01 w ↦ other-mark01 c.args.table.now (λ i. omega (arith, c.type_inv.table i)) c.requires c.number_at.ensures.0 w.if-number_at-ne-MARK01.true
      | then-number_at-ne-MARK01-via-else-number_at-ne-MARK01+then-number_at-ne0 w ↦
          other-zero01 c.args.table.now (λ i. omega (arith, c.type_inv.table i)) c.requires c.number_at.ensures.0 w.number_at-else-number_at-ne-MARK01.ensures.0 w.if-number_at-ne0.true
    ]

pub returns : goal.returns
returns c =
    by-unused01 c.args.table.now (λ i. omega (arith, c.type_inv.table i)) c.requires c.number_at.ensures.0 c.number_at-else-number_at-ne-MARK01.ensures.0
    c.if-number_at-ne-MARK01.false c.if-number_at-ne0.false c.number_at-2.ensures.0
