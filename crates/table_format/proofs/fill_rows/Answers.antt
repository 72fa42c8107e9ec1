-- `table_format::fill_rows` meets its contract.
use Rattle.std.proofs.Common.{ℕ, ◌*◌, map, get_or, arith, ap, sym, subst, ◌∙◌}
use lib.ListN.{length-map}
use Rattle.layout.specs.declared.Row.{Row}
use Rattle.layout.specs.Image.{fresh_row}
use Rattle.layout.specs.Fits.{RowFits}
use Rattle.layout.specs.Layout.{row_size}
use Rattle.layout.proofs.TableLaws.{fresh-fits}
use Rattle.layout.proofs.FillLaws.{rows-begin, rows-on, rows-end}
use Rattle.table.proofs.FillLaws.{reserve-fits, fresh-row_at}
use Rattle.table_format.proofs.fill_rows.Goals as goal

pub loop-g-init : goal.loop-g-init
loop-g-init c = rows-begin (map fresh_row c.args.reserves.now) c.args.part.now (c.requires.part_len ∙ ap (λ (n : ℕ). row_size * n) (sym (length-map c.args.reserves.now fresh_row)))

pub write_row-requires-clause-row_fits : goal.write_row-requires-clause-row_fits
write_row-requires-clause-row_fits c = subst (λ (r : Row). RowFits r) (sym c.fresh.ensures) (fresh-fits (get_or c.args.reserves.now c.loop-g.g 0) (reserve-fits c.args.reserves.now c.loop-g.g c.requires.reserves_len_bound.1))

pub loop-g-preserved : goal.loop-g-preserved
loop-g-preserved c = rows-on c.loop-g.invariant c.write_row.new.part c.fresh.result (omega (arith, c.loop-g-test.true, length-map c.args.reserves.now fresh_row)) (c.fresh.ensures ∙ sym (fresh-row_at c.args.reserves.now c.loop-g.g)) c.write_row.ensures

pub returns : goal.returns
returns c = rows-end c.loop-g.invariant (omega (arith, c.loop-g-test.false, length-map c.args.reserves.now fresh_row))
