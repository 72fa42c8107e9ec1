-- `table_carry::check01` meets its contract.
use Rattle.std.proofs.Common.{ℕ, ap, ◌∙◌}
use Rattle.layout.specs.Layout.{plan01}
use Rattle.layout.specs.Fits.{Counted01}
use Rattle.layout.proofs.CellLaws.{slotted}
use Rattle.layout.proofs.HeaderLaws.{fits_true, fits_false, header-long, counted}
use Rattle.layout.specs.Strict.{strict_from}
use Rattle.table.specs.Walks.{free_walk}
use Rattle.table.specs.Whole01.{constants_fit01}
use Rattle.table.proofs.CheckLaws01.{Walked01, torn-header01, torn-free01, torn-held01, torn-over01, torn-total01, is-whole01}
use Rattle.table_carry.proofs.check01.Goals as goal
use Rattle.table_carry.proofs.check01.Goals.{In_ok-counts, In_ok-all, then-counts-all-via-then-counts-all, then-counts-all-via-else-counts-all+then-free-counts}

counts : (c : goal.In_ok-counts) → Counted01 c.args.old.now c.in_ok-counts.counts.logs c.in_ok-counts.counts.slots
counts c = counted plan01 constants_fit01 c.args.old.now c.in_ok-counts.counts c.in_ok-counts.ensures

-- both walks found their chains in order
walked : (c : goal.In_ok-all) → Walked01 c.args.old.now c.in_ok-counts.counts c.in_ok-free.free c.in_ok-all.all
walked c =
    record {
      counted = counts (goal.at.In_ok-all c).In_ok-counts;
      first = c.free_of-first.result;
      is = c.free_of-first.ensures.0;
      free = c.in_ok-free.ensures ∙ ap (λ (a : ℕ). free_walk (strict_from c.args.old.now a c.in_ok-counts.counts.slots) c.free_of-first.result) c.start-start.ensures;
      chains = c.in_ok-all.ensures;
    }

pub returns-in_err-counts : goal.returns-in_err-counts
returns-in_err-counts c = let b = c.args.old.now in c.from_residual.ensures ∙ torn-header01 b (fits_false plan01 constants_fit01 b c.in_err-counts.ensures)

pub start-start-requires : goal.start-start-requires
start-start-requires c = let f = counts (goal.at.start-start-requires c).In_ok-counts in f.logs-most

pub free_of-first-requires : goal.free_of-first-requires
free_of-first-requires c = let b = c.args.old.now in header-long plan01 constants_fit01 b (fits_true plan01 constants_fit01 b c.in_ok-counts.counts c.in_ok-counts.ensures)

pub invariant_of-cells : goal.invariant_of-cells
invariant_of-cells c = let n = c.in_ok-counts.counts in record { slotted = slotted plan01 c.args.old.now n.logs n.slots c.start-start.result (counts (goal.at.invariant_of-cells c).In_ok-counts) c.start-start.ensures }

pub returns-in_err-free : goal.returns-in_err-free
returns-in_err-free c =
    let n = c.in_ok-counts.counts in
    c.from_residual-in_err-free.ensures
    ∙ torn-free01 c.args.old.now n.logs n.slots (counts (goal.at.returns-in_err-free c).In_ok-counts) c.free_of-first.result c.free_of-first.ensures.0
    (c.in_err-free.ensures ∙ ap (λ (a : ℕ). free_walk (strict_from c.args.old.now a n.slots) c.free_of-first.result) c.start-start.ensures)

pub held_walk-requires : goal.held_walk-requires
held_walk-requires c = counts (goal.at.held_walk-requires c).In_ok-counts

pub returns-in_err-all : goal.returns-in_err-all
returns-in_err-all c =
    let n = c.in_ok-counts.counts in
    c.from_residual-in_err-all.ensures ∙ torn-held01 c.args.old.now n.logs n.slots (counts (goal.at.returns-in_err-all c).In_ok-counts) 0 c.in_err-all.ensures

pub returns-then-counts-all : goal.returns-then-counts-all
returns-then-counts-all c =
    let f = walked (goal.at.returns-then-counts-all c).In_ok-all in
    elim c.then-counts-all.branch [
      | then-counts-all-via-then-counts-all w ↦ torn-over01 f w.if-counts-all.true
      | then-counts-all-via-else-counts-all+then-free-counts w ↦ torn-total01 f w.if-counts-all.false w.if-free-counts.true
    ]

pub returns : goal.returns
returns c =
    let b = c.args.old.now in
    is-whole01 (walked (goal.at.returns c).In_ok-all) (fits_true plan01 constants_fit01 b c.in_ok-counts.counts c.in_ok-counts.ensures) c.if-counts-all.false c.if-free-counts.false
