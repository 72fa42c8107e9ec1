-- `a2m_strike::strike` meets its contract. Assumes nothing.
use Rattle.std.proofs.Common.{ℕ, List, ◌≡◌}
use Rattle.octets.specs.Octets.{Bytes, zeros}
use Rattle.layout.specs.declared.Counts.{Counts}
use Rattle.layout.specs.Image.{slot_at}
use Rattle.layout.specs.Changes.{link_of}
use Rattle.layout.specs.Layout.{read_table}
use Rattle.a2m.proofs.ReleaseLaws.{Begins, begins, releasing-first, slot-within, last-most-free, count-most-free, next-bound, releasing-on, falls, cut-row, row-held, count_held, struck, struck-low, struck-high}
use Rattle.a2m.proofs.EnterLaws.{held-long}
use Rattle.a2m.proofs.OpenedLaws.{opened-counted, opened-log, last-free-most, first-most}
use native.Mathlib.Omega.{arith}
use borrow.Author.Rules.{rules}
use mathlib.Core.Path.{refl, ap, ◌∙◌}
use Rattle.a2m_strike.proofs.strike.Goals as goal
use Rattle.a2m_strike.proofs.strike.Goals.{After-join, After-link_at-l}

begun : (c : goal.After-join) → Bytes c.args.table.now → Begins c.args.table.now c.args.view c.args.n c.join.new.lent.table.now
begun c bytes = begins c.args.table.now c.args.view c.args.n c.join.new.lent.table.now c.requires.opened bytes c.requires.le_n.0 c.requires.le_n.1 c.join.ensures.bytes

-- what the slot at hand says, off the table as it is then
link : (c : goal.After-link_at-l) → c.link_at-l.result ≡ link_of (slot_at (read_table c.entries.lent.table.now).slots c.entries.s)
link c = c.link_at-l.ensures ∙ ap (λ (b : List ℕ). link_of (slot_at (read_table b).slots c.entries.s)) c.as_ref.ensures.0

pub invariant_of-lent : goal.invariant_of-lent
invariant_of-lent c = record { counted = opened-counted c.args.table.now c.args.view c.requires.opened }

pub join-requires : goal.join-requires
join-requires c = (last-free-most c.args.table.now c.args.view c.requires.opened, first-most c.args.table.now c.args.view c.requires.opened)

pub entries-init : goal.entries-init
entries-init c = (refl, c.join.ensures.counts, λ b B. releasing-first b c.args.view B.opened c.args.n B.least B.most B.bytes c.join.new.lent.table.now B.joined)

pub link_at-l-requires : goal.link_at-l-requires
link_at-l-requires c =
    let R = c.entries.invariant.2 c.args.table.now (begun (goal.at.link_at-l-requires c).After-join (search rules)) in
    let w = slot-within c.requires.opened R in
    let e = ap (λ (n : Counts). n.slots) (c.as_ref.ensures.1 ∙ c.entries.invariant.1) in
    (w.0, omega (arith, w.1, e))

pub put_slot-requires : goal.put_slot-requires
put_slot-requires c =
    let R = c.entries.invariant.2 c.args.table.now (begun (goal.at.put_slot-requires c).After-join (search rules)) in
    let w = slot-within c.requires.opened R in
    let e = ap (λ (n : Counts). n.slots) c.entries.invariant.1 in
    record { le_s = (w.0, omega (arith, w.1, e)); owner_bound = omega arith; next_bound = next-bound c.requires.opened R (link (goal.at.put_slot-requires c).After-link_at-l) }

pub overflow_add-count : goal.overflow_add-count
overflow_add-count c =
    let R = c.entries.invariant.2 c.args.table.now (begun (goal.at.overflow_add-count c).After-join (search rules)) in
    let m = count-most-free c.requires.opened R in
    let n = (opened-counted c.args.table.now c.args.view c.requires.opened).slots-most in
    omega arith

pub entries-smaller : goal.entries-smaller
unfolding zeros
entries-smaller c =
    let R = c.entries.invariant.2 c.args.table.now (begun (goal.at.entries-smaller c).After-join (search rules)) in
    falls c.requires.opened R (link (goal.at.entries-smaller c).After-link_at-l) c.if-n-l.false c.put_slot.ensures.bytes

pub entries-preserved : goal.entries-preserved
unfolding zeros
entries-preserved c =
    let k = (goal.at.entries-preserved c).After-link_at-l in
    let e = c.put_slot.ensures in
    (e.same ∙ c.entries.invariant.0, e.counts ∙ c.entries.invariant.1, λ b B. (releasing-on B.opened (c.entries.invariant.2 b B) (link k) c.if-n-l.false e.bytes).0)

pub join-requires-2 : goal.join-requires-2
join-requires-2 c =
    let R = c.entries.invariant.2 c.args.table.now (begun (goal.at.join-requires-2 c).After-join (search rules)) in
    let e = ap (λ (n : Counts). n.slots) c.entries.invariant.1 in
    (omega (arith, last-most-free c.requires.opened R, e), omega arith)

pub put_row-requires : goal.put_row-requires
put_row-requires c =
    let R = c.entries.invariant.2 c.args.table.now (begun (goal.at.put_row-requires c).After-join (search rules)) in
    let e = ap (λ (n : Counts). n.logs) (c.join-2.ensures.counts ∙ c.entries.invariant.1) in
    let l = opened-log c.args.table.now c.args.view c.requires.opened in
    record { g_lt_logs = omega (arith, e); row_fits = cut-row c.requires.opened R (search rules) (omega (arith, c.ranges.n)) c.truncate-after.ensures }

pub put_free-requires : goal.put_free-requires
put_free-requires c =
    let R = c.entries.invariant.2 c.args.table.now (begun (goal.at.put_free-requires c).After-join (search rules)) in
    let m = count-most-free c.requires.opened R in
    let n = (opened-counted c.args.table.now c.args.view c.requires.opened).slots-most in
    record { header_size_in_bounds = held-long _ _ _ _ _ (row-held c.requires.opened R (search rules) (omega (arith, c.ranges.n)) c.join-2.ensures.bytes c.truncate-after.ensures (search rules)); bound = omega arith }

pub put_free-requires-2 : goal.put_free-requires-2
put_free-requires-2 c =
    let R = c.entries.invariant.2 c.args.table.now (begun (goal.at.put_free-requires-2 c).After-join (search rules)) in
    let m = last-most-free c.requires.opened R in
    let n = (opened-counted c.args.table.now c.args.view c.requires.opened).slots-most in
    record { header_size_in_bounds = held-long _ _ _ _ _ (count_held c.requires.opened R (search rules) (omega (arith, c.ranges.n)) c.join-2.ensures.bytes c.truncate-after.ensures (search rules) c.put_free.ensures); bound = omega arith }

pub returns : goal.returns
returns c =
    let R = c.entries.invariant.2 c.args.table.now (begun (goal.at.returns c).After-join (search rules)) in
    record {
      low = struck-low c.args.view c.args.n c.entries.s c.truncate-after.result c.truncate-after.ensures;
      high = struck-high c.args.view c.args.n c.entries.s c.truncate-after.result c.truncate-after.ensures;
      bytes = struck c.requires.opened R (search rules) (omega (arith, c.ranges.n)) (link (goal.at.returns c).After-link_at-l) c.if-n-l.true c.join-2.ensures.bytes c.truncate-after.ensures (search rules) c.put_free.ensures c.put_free-2.ensures;
    }
