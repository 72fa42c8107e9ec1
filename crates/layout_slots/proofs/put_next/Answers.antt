-- `layout_slots::put_next` meets its contract.
use Rattle.std.proofs.Common.{ℕ, ◌≡◌, List, refl, sym, subst}
use Rattle.layout.specs.Layout.{put_next}
use Rattle.layout.specs.Fits.{Counted}
use Rattle.layout.proofs.CodeLaws.{next-put}
use Rattle.layout.proofs.CountedLaws.{counted-next}
use Rattle.layout_slots.proofs.put_next.Goals as goal
use Rattle.layout_slots.proofs.put_next.Goals.{After-put_number}

put : (c : goal.After-put_number) → c.put_number.new.out ≡ put_next c.args.lent.now.table.now c.args.s c.args.next
put c = let t = c.args.lent.now in next-put t.table.now t.counts.logs t.counts.slots t.counted c.slot_offset.result c.args.s c.args.next c.put_number.new.out c.slot_offset.ensures c.put_number.ensures

pub invariant_of-lent : goal.invariant_of-lent
invariant_of-lent c =
    let t = c.args.lent.now in
    record { counted = subst (λ (b : List ℕ). Counted b t.counts.logs t.counts.slots) (sym (put (goal.at.invariant_of-lent c).After-put_number)) (counted-next t.table.now t.counts.logs t.counts.slots t.counted c.args.s c.args.next c.requires.le_s.0 c.requires.le_s.1) }

pub returns : goal.returns
returns c = record { same = refl; counts = refl; bytes = put (goal.at.returns c).After-put_number }
