-- `table_carry::fill_rows` meets its contract.
use Rattle.std.proofs.Common.{ℕ, ◌*◌, arith, ap, sym, subst, ◌∙◌}
use Rattle.layout.specs.Fits.{RowFits}
use Rattle.layout.specs.Layout.{row_size}
use Rattle.layout.specs.Layout01.{read01}
use Rattle.layout.proofs.Layout01Laws.{rows_fit01}
use Rattle.layout.proofs.FillLaws.{rows-begin, rows-on, rows-end}
use Rattle.table.proofs.CarryFillLaws.{count}
use Rattle.table_carry.proofs.fill_rows.Goals as goal

pub loop-g-init : goal.loop-g-init
loop-g-init c = rows-begin (read01 c.args.old.now).rows c.args.part.now (c.requires.part_len ∙ ap (λ (n : ℕ). row_size * n) (sym (count c.args.old.now c.args.counts.logs c.args.counts.slots c.requires.counted01)))

pub write_row-requires-clause-row_fits : goal.write_row-requires-clause-row_fits
write_row-requires-clause-row_fits c = subst RowFits (sym c.row_at.ensures) (rows_fit01 c.args.old.now (λ i. omega (arith, c.type_inv.old i)) c.loop-g.g)

pub loop-g-preserved : goal.loop-g-preserved
loop-g-preserved c =
    let n = count c.args.old.now c.args.counts.logs c.args.counts.slots c.requires.counted01 in
    rows-on c.loop-g.invariant c.write_row.new.part c.row_at.result (omega (arith, c.loop-g-test.true, n)) c.row_at.ensures c.write_row.ensures

pub returns : goal.returns
returns c = let n = count c.args.old.now c.args.counts.logs c.args.counts.slots c.requires.counted01 in rows-end c.loop-g.invariant (omega (arith, c.loop-g-test.false, n))
