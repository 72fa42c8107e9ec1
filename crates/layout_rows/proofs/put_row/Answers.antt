-- `layout_rows::put_row` meets its contract.
use Rattle.std.proofs.Common.{ℕ, ◌+◌, ◌-◌, ◌≡◌, List, refl, sym, subst}
use borrow.Rule.Slice.PartMut.{put_mid}
use Rattle.layout.specs.Layout.{row_size, put_row}
use Rattle.layout.specs.Fits.{Counted}
use Rattle.layout.proofs.CodeLaws.{row_put}
use Rattle.layout.proofs.CountedLaws.{counted-row}
use Rattle.layout_rows.proofs.put_row.Goals as goal
use Rattle.layout_rows.proofs.put_row.Goals.{After-write_row}

put : (c : goal.After-write_row) → put_mid c.row_offset-at.result (c.row_offset-at.result + row_size - c.row_offset-at.result) c.args.lent.now.table.now c.write_row.new.part ≡ put_row c.args.lent.now.table.now c.args.g c.args.row
put c = let t = c.args.lent.now in row_put t.table.now t.counts.logs t.counts.slots t.counted c.row_offset-at.result c.args.g c.write_row.new.part c.args.row c.row_offset-at.ensures c.write_row.ensures

pub invariant_of-lent : goal.invariant_of-lent
invariant_of-lent c =
    let t = c.args.lent.now in
    record { counted = subst (λ (b : List ℕ). Counted b t.counts.logs t.counts.slots) (sym (put (goal.at.invariant_of-lent c).After-write_row)) (counted-row t.table.now t.counts.logs t.counts.slots t.counted c.args.g c.args.row c.requires.g_lt_logs) }

pub returns : goal.returns
returns c = record { same = refl; counts = refl; bytes = put (goal.at.returns c).After-write_row }
