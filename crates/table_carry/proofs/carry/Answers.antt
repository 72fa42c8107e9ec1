-- `table_carry::carry` meets its contract.
use Rattle.std.proofs.Common.{◌≡◌, true, length, refl, sym, ◌∙◌}
use mathlib.Core.Path.{ap₂}
use Rattle.layout.specs.Layout.{logs_of, slots_of, table_size}
use Rattle.layout.specs.Layout01.{read01}
use Rattle.layout.specs.Fits.{Counted01}
use Rattle.table.specs.Chains.{last_of}
use Rattle.table.specs.Free.{free_chain}
use Rattle.table.specs.Whole01.{whole01}
use Rattle.table.proofs.HeldLaws.{walk_broken, walk-met}
use Rattle.table.proofs.CarryLaws.{refused-torn, refused-length, accepted}
use Rattle.table.proofs.CarryFillLaws.{whole01-counted, whole01-long}
use Rattle.table_carry.proofs.carry.Goals as goal
use Rattle.table_carry.proofs.carry.Goals.{After-counts_of-counts, After-size, In-Some}

-- what the check found
met : (c : goal.In-Some) → (whole01 c.args.old.now ≡ true) × (length (free_chain (read01 c.args.old.now)) ≡ c.in-Some.free.count) × (last_of (free_chain (read01 c.args.old.now)) ≡ c.in-Some.free.last)
met c = walk-met (whole01 c.args.old.now) (free_chain (read01 c.args.old.now)) c.in-Some.free.count c.in-Some.free.last c.in-Some.ensures

counts : (c : goal.After-counts_of-counts) → Counted01 c.args.old.now c.counts_of-counts.result.logs c.counts_of-counts.result.slots
counts c = whole01-counted c.args.old.now c.counts_of-counts.result.logs c.counts_of-counts.result.slots (met (goal.at.After-counts_of-counts c).In-Some).0 c.counts_of-counts.ensures.are.0 c.counts_of-counts.ensures.are.1

size : (c : goal.After-size) → c.size.result ≡ table_size (logs_of c.args.old.now) (slots_of c.args.old.now)
size c = c.size.ensures ∙ ap₂ table_size c.counts_of-counts.ensures.are.0 c.counts_of-counts.ensures.are.1

pub returns-in_default : goal.returns-in_default
returns-in_default c = let e = refused-torn c.args.old.now c.args.table.now (walk_broken (whole01 c.args.old.now) (free_chain (read01 c.args.old.now)) c.in_default.ensures) in
    record { answer = rw c.into.ensures e.0; blocks = rw c.into.ensures refl; bytes = e.1 }

pub counts_of-counts-requires : goal.counts_of-counts-requires
counts_of-counts-requires c = whole01-long c.args.old.now (met (goal.at.counts_of-counts-requires c).In-Some).0

pub size-requires : goal.size-requires
size-requires c = let f = counts (goal.at.size-requires c).After-counts_of-counts in (f.logs-most, f.slots-most)

pub returns-then-table-size : goal.returns-then-table-size
returns-then-table-size c =
    let e = refused-length c.args.old.now c.args.table.now (met (goal.at.returns-then-table-size c).In-Some).0 (λ h. c.if-table-size.true (h ∙ sym (size (goal.at.returns-then-table-size c).After-size))) in
    record { answer = rw c.into-then-table-size.ensures e.0; blocks = rw c.into-then-table-size.ensures refl; bytes = e.1 }

pub fill-requires : goal.fill-requires
fill-requires c = let m = met (goal.at.fill-requires c).In-Some in
    record { counted01 = counts (goal.at.fill-requires c).After-counts_of-counts; value = m.0; table_len = c.if-table-size.false ∙ c.size.ensures; len = (m.1, m.2) }

pub returns : goal.returns
returns c =
    let e = accepted c.args.old.now c.args.table.now c.fill.new.table (met (goal.at.returns c).In-Some).0 (c.if-table-size.false ∙ size (goal.at.returns c).After-size) c.fill.ensures in
    record { answer = e.0; blocks = refl; bytes = e.1 }
