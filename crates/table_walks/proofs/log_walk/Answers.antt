-- `table_walks::log_walk` meets its contract.
use Rattle.table.proofs.TurnLaws.{log-begin, log-other-high, log-other-last, log-done, log-long, log-out, log-owner, log-low, log-on}
use Rattle.table_walks.proofs.log_walk.Goals as goal
use Rattle.table_walks.proofs.log_walk.Goals.{then-count-cells-via-then-count-cells, then-count-cells-via-else-count-cells+then-cells-s, then-link-g-via-then-link-g, then-link-g-via-else-link-g+then-link-floor, then-floor-row-via-then-floor-row, then-floor-row-via-else-floor-row+then-last-row}

pub loop-s-init : goal.loop-s-init
loop-s-init c = log-begin c.args.cells.table.now c.args.cells.start c.args.cells.slots c.args.g c.args.row c.requires.le_low.0 c.requires.le_low.1

pub returns-then-count-cells : goal.returns-then-count-cells
returns-then-count-cells c =
    elim c.then-count-cells.branch [
      | then-count-cells-via-then-count-cells w ↦ log-long c.loop-s.invariant c.loop-s-test.true w.if-count-cells.true
      | then-count-cells-via-else-count-cells+then-cells-s w ↦ log-out c.loop-s.invariant c.loop-s-test.true w.if-cells-s.true
    ]

pub returns-then-link-g : goal.returns-then-link-g
returns-then-link-g c =
    elim c.then-link-g.branch [
      | then-link-g-via-then-link-g w ↦ log-owner c.loop-s.invariant c.loop-s-test.true c.link-link.result c.link-link.ensures c.if-cells-s.false w.if-link-g.true
      | then-link-g-via-else-link-g+then-link-floor w ↦
          log-low c.loop-s.invariant c.loop-s-test.true c.link-link.result c.link-link.ensures c.if-cells-s.false c.if-count-cells.false w.if-link-g.false w.if-link-floor.true
    ]

pub loop-s-preserved : goal.loop-s-preserved
loop-s-preserved c = log-on c.loop-s.invariant c.loop-s-test.true c.link-link.result c.link-link.ensures c.if-cells-s.false c.if-count-cells.false c.if-link-g.false c.if-link-floor.false

pub returns-then-floor-row : goal.returns-then-floor-row
returns-then-floor-row c =
    elim c.then-floor-row.branch [
      | then-floor-row-via-then-floor-row w ↦ log-other-high c.loop-s.invariant c.loop-s-test.false w.if-floor-row.true
      | then-floor-row-via-else-floor-row+then-last-row w ↦ log-other-last c.loop-s.invariant c.loop-s-test.false w.if-floor-row.false w.if-last-row.true
    ]

pub returns : goal.returns
returns c = log-done c.loop-s.invariant c.loop-s-test.false c.if-floor-row.false c.if-last-row.false
