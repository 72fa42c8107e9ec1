-- `table_walks::free_walk` meets its contract.
use Rattle.std.proofs.Common.{sym, ◌∙◌}
use Rattle.table.proofs.TurnLaws.{free-begin, free-end, free-long, free-out, free-owner, free-dirty, free_on}
use Rattle.table_walks.proofs.free_walk.Goals as goal
use Rattle.table_walks.proofs.free_walk.Goals.{then-count-cells-via-then-count-cells, then-count-cells-via-else-count-cells+then-cells-s, then-link-ne0-via-then-link-ne0, then-link-ne0-via-else-link-ne0+then-not-is_blank}

pub loop-s-init : goal.loop-s-init
loop-s-init c = free-begin c.args.cells.table.now c.args.cells.start c.args.cells.slots c.args.first

pub returns-then-count-cells : goal.returns-then-count-cells
returns-then-count-cells c =
    elim c.then-count-cells.branch [
      | then-count-cells-via-then-count-cells w ↦ free-long c.loop-s.invariant c.loop-s-test.true w.if-count-cells.true
      | then-count-cells-via-else-count-cells+then-cells-s w ↦ free-out c.loop-s.invariant c.loop-s-test.true w.if-cells-s.true
    ]

pub returns-then-link-ne0 : goal.returns-then-link-ne0
returns-then-link-ne0 c =
    elim c.then-link-ne0.branch [
      | then-link-ne0-via-then-link-ne0 w ↦ free-owner c.loop-s.invariant c.loop-s-test.true c.link-link.result c.link-link.ensures c.if-cells-s.false w.if-link-ne0.true
      | then-link-ne0-via-else-link-ne0+then-not-is_blank w ↦
          free-dirty c.loop-s.invariant c.loop-s-test.true c.link-link.result c.link-link.ensures c.if-cells-s.false c.if-count-cells.false w.if-link-ne0.false (sym w.is_blank.ensures ∙ w.if-not-is_blank.true)
    ]

pub loop-s-preserved : goal.loop-s-preserved
loop-s-preserved c = free_on c.loop-s.invariant c.loop-s-test.true c.link-link.result c.link-link.ensures c.if-cells-s.false c.if-count-cells.false c.if-link-ne0.false (sym c.is_blank.ensures ∙ c.if-not-is_blank.false)

pub returns : goal.returns
returns c = free-end c.loop-s.invariant c.loop-s-test.false
