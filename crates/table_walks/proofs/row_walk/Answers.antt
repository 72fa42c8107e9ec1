-- `table_walks::row_walk` meets its contract.
use Rattle.std.proofs.Common.{sym, ◌∙◌}
use Rattle.layout.specs.Strict.{strict_from}
use Rattle.table.proofs.WalkedLaws.{row_fresh, row-started, row_zero, row-crossed}
use Rattle.table_walks.proofs.row_walk.Goals as goal
use Rattle.table_walks.proofs.row_walk.Goals.{then-row-eq0-via-then-row-eq0, then-row-eq0-via-else-row-eq0+then-row}

pub returns-then-is_fresh : goal.returns-then-is_fresh
returns-then-is_fresh c = let t = c.args.cells in sym (row_fresh (strict_from t.table.now t.start t.slots) c.args.g c.args.row (sym c.is_fresh.ensures ∙ c.if-is_fresh.true))

pub returns-then-row-eq0 : goal.returns-then-row-eq0
returns-then-row-eq0 c =
    let t = c.args.cells in
    let old = sym c.is_fresh.ensures ∙ c.if-is_fresh.false in
    elim c.then-row-eq0.branch [
      | then-row-eq0-via-then-row-eq0 w ↦ sym (row_zero (strict_from t.table.now t.start t.slots) c.args.g c.args.row old w.if-row-eq0.true)
      | then-row-eq0-via-else-row-eq0+then-row w ↦ sym (row-crossed (strict_from t.table.now t.start t.slots) c.args.g c.args.row old w.if-row.true)
    ]

pub returns : goal.returns
returns c = let t = c.args.cells in c.log_walk.ensures ∙ sym (row-started (strict_from t.table.now t.start t.slots) c.args.g c.args.row (sym c.is_fresh.ensures ∙ c.if-is_fresh.false))
