-- `table_carry::fill` meets its contract.
use Rattle.std.proofs.Common.{ℕ, ◌≡◌, arith, ap, ◌∙◌}
use mathlib.Core.Path.{ap₂}
use Rattle.layout.specs.Layout.{keeper_of, free_of, key_of, stocked, header_bytes}
use Rattle.table.proofs.CarryFillLaws.{whole01-long, few-free, last-free, carry-written}
use Rattle.table_carry.proofs.fill.Goals as goal
use Rattle.table_carry.proofs.fill.Goals.{After-key_of}

-- the header's operands are the old table's
header-as : (c : goal.After-key_of) → header_bytes c.args.counts.logs c.args.counts.slots c.keeper_of.result c.free_of.result (stocked c.args.free.count c.args.free.last) c.key_of.result.now ≡ header_bytes c.args.counts.logs c.args.counts.slots (keeper_of c.args.old.now) (free_of c.args.old.now) (stocked c.args.free.count c.args.free.last) (key_of c.args.old.now)
header-as c = ap₂ (λ (i j : ℕ). header_bytes c.args.counts.logs c.args.counts.slots i j (stocked c.args.free.count c.args.free.last) c.key_of.result.now) c.keeper_of.ensures c.free_of.ensures.0
    ∙ ap (header_bytes c.args.counts.logs c.args.counts.slots (keeper_of c.args.old.now) (free_of c.args.old.now) (stocked c.args.free.count c.args.free.last)) c.key_of.ensures

pub keeper_of-requires : goal.keeper_of-requires
keeper_of-requires c = whole01-long c.args.old.now c.requires.value

pub free_of-requires : goal.free_of-requires
free_of-requires c = whole01-long c.args.old.now c.requires.value

pub key_of-requires : goal.key_of-requires
key_of-requires c = whole01-long c.args.old.now c.requires.value

pub write_header-requires-clause-free_bound : goal.write_header-requires-clause-free_bound
write_header-requires-clause-free_bound c =
    let n = few-free c.args.old.now c.args.counts.logs c.args.counts.slots c.requires.counted01 in
    let l = last-free c.args.old.now c.args.counts.logs c.args.counts.slots c.requires.counted01 in
    (c.free_of.ensures.1, omega (arith, c.requires.len.0, c.requires.counted01.slots-most), omega (arith, c.requires.len.1, c.requires.counted01.slots-most))

pub returns : goal.returns
returns c =
    c.put.ensures
    ∙ carry-written c.args.old.now c.args.counts.logs c.args.counts.slots c.requires.counted01 (λ i. omega (arith, c.type_inv.old i)) c.requires.value c.args.table.now c.write_header.new.part c.fill_rows.new.part c.args.free.count c.args.free.last c.requires.table_len c.requires.len.0 c.requires.len.1
    (c.write_header.ensures ∙ header-as (goal.at.returns c).After-key_of) c.fill_rows.ensures c.start-from.result c.start-from.ensures
