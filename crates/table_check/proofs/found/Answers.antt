-- `table_check::found` meets its contract.
use Rattle.std.proofs.Common.{◌≤◌, length, ap, ◌∙◌}
use Rattle.std.specs.Option.{ok_or}
use Rattle.refusal.specs.declared.Refusal.TheVariants.{Torn}
use Rattle.layout.specs.Layout.{plan, header_size}
use Rattle.layout.specs.Fits.{Counted}
use Rattle.layout.specs.Tests.{constants_fit}
use Rattle.layout.proofs.CellLaws.{slotted}
use Rattle.layout.proofs.HeaderLaws.{fits_true, fits_false, header-long, counted}
use Rattle.table.proofs.CheckLaws.{Walked, torn-header, torn-free, torn-held, torn-over, torn-total, torn-lack, torn-number, torn-last, is_whole}
use Rattle.table_check.proofs.found.Goals as goal
use Rattle.table_check.proofs.found.Goals.{In_ok-counts, After-row_offset-start, In_ok-all, then-counts-all-via-then-counts-all, then-counts-all-via-else-counts-all+then-free-counts, then-counts-all-via-else-counts-all+else-free-counts+then-free-all, then-counts-all-via-else-counts-all+else-free-counts+else-free-all+then-free_of-free, then-counts-all-via-else-counts-all+else-free-counts+else-free-all+else-free_of-free+then-free_of-free-2}

counts : (c : goal.In_ok-counts) → Counted c.args.table.now c.in_ok-counts.counts.logs c.in_ok-counts.counts.slots
counts c = counted plan constants_fit c.args.table.now c.in_ok-counts.counts c.in_ok-counts.ensures

-- a header that fits is as long as a header
long : (c : goal.In_ok-counts) → header_size ≤ length c.args.table.now
long c = header-long plan constants_fit c.args.table.now (fits_true plan constants_fit c.args.table.now c.in_ok-counts.counts c.in_ok-counts.ensures)

-- both walks found their chains in order
walked : (c : goal.In_ok-all) → Walked c.args.table.now c.in_ok-counts.counts c.in_ok-free.free c.in_ok-all.all c.args.log
walked c =
    record {
      counted = counts (goal.at.In_ok-all c).In_ok-counts;
      start = c.row_offset-start.result;
      at = c.row_offset-start.ensures;
      first = c.free_of-first.result;
      is = c.free_of-first.ensures.0;
      free = c.in_ok-free.ensures;
      chains = c.in_ok-all.ensures;
    }

pub returns-in_err-counts : goal.returns-in_err-counts
returns-in_err-counts c =
    let b = c.args.table.now in
    ap (λ x. ok_or x Torn) c.from_residual.ensures ∙ torn-header b (fits_false plan constants_fit b c.in_err-counts.ensures) c.args.log

pub row_offset-start-requires : goal.row_offset-start-requires
row_offset-start-requires c = (counts c).logs-most

pub free_of-first-requires : goal.free_of-first-requires
free_of-first-requires c = long (goal.at.free_of-first-requires c).In_ok-counts

pub invariant_of-cells : goal.invariant_of-cells
invariant_of-cells c = record { slotted = slotted plan c.args.table.now c.in_ok-counts.counts.logs c.in_ok-counts.counts.slots c.row_offset-start.result (counts (goal.at.invariant_of-cells c).In_ok-counts) c.row_offset-start.ensures }

pub returns-in_err-free : goal.returns-in_err-free
returns-in_err-free c =
    ap (λ x. ok_or x Torn) c.from_residual-in_err-free.ensures
    ∙ torn-free c.args.table.now c.in_ok-counts.counts.logs c.in_ok-counts.counts.slots (counts (goal.at.returns-in_err-free c).In_ok-counts) c.row_offset-start.result c.row_offset-start.ensures c.free_of-first.result c.free_of-first.ensures.0 c.in_err-free.ensures c.args.log

pub held_walk-requires : goal.held_walk-requires
held_walk-requires c = counts (goal.at.held_walk-requires c).In_ok-counts

pub returns-in_err-all : goal.returns-in_err-all
returns-in_err-all c =
    ap (λ x. ok_or x Torn) c.from_residual-in_err-all.ensures
    ∙ torn-held c.args.table.now c.in_ok-counts.counts.logs c.in_ok-counts.counts.slots (counts (goal.at.returns-in_err-all c).In_ok-counts) c.row_offset-start.result c.row_offset-start.ensures c.args.log c.in_err-all.ensures

pub returns-then-counts-all : goal.returns-then-counts-all
returns-then-counts-all c =
    let f = walked (goal.at.returns-then-counts-all c).In_ok-all in
    elim c.then-counts-all.branch [
      | then-counts-all-via-then-counts-all w ↦ torn-over f w.if-counts-all.true
      | then-counts-all-via-else-counts-all+then-free-counts w ↦ torn-total f w.if-counts-all.false w.if-free-counts.true
      | then-counts-all-via-else-counts-all+else-free-counts+then-free-all w ↦ torn-lack f w.if-free-all.true
      | then-counts-all-via-else-counts-all+else-free-counts+else-free-all+then-free_of-free w ↦ torn-number f w.free_of.result w.free_of.ensures.0 w.if-free_of-free.true
      | then-counts-all-via-else-counts-all+else-free-counts+else-free-all+else-free_of-free+then-free_of-free-2 w ↦ torn-last f w.free_of-else-free_of-free.result w.free_of-else-free_of-free.ensures.0 w.if-free_of-free-2.true
    ]

pub returns : goal.returns
returns c =
    is_whole (walked (goal.at.returns c).In_ok-all) c.free_of.result c.free_of-else-free_of-free.result
    (fits_true plan constants_fit c.args.table.now c.in_ok-counts.counts c.in_ok-counts.ensures)
    c.if-counts-all.false c.if-free-counts.false c.if-free-all.false c.free_of.ensures.0 c.if-free_of-free.false c.free_of-else-free_of-free.ensures.0 c.if-free_of-free-2.false
