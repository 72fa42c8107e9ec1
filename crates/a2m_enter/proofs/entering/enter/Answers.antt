-- `a2m_enter::entering::enter` meets its contract. Assumes nothing.
use borrow.Author.Rules.{rules}
use Rattle.a2m.proofs.EnterLaws.{Entering, row-good, next-good, held-3, held-4, held-5, held-long, some-free, last-most-after, entered, entered-low}
use Rattle.a2m.proofs.OpenedLaws.{opened-counted, opened-log, free-most, count_most, last-most}
use Rattle.octets.specs.Octets.{Bytes}
use native.Mathlib.Omega.{arith}
use mathlib.Core.Path.{refl, ap, ◌≡◌, ◌∙◌}
use Rattle.layout.specs.declared.Counts.{Counts}
use mathlib.Core.Bool.{true}
use Rattle.refusal.specs.Unwritten.{unwritten, counts}
use Rattle.a2m_enter.proofs.entering.enter.Code.Mir.{function}
use Rattle.a2m_enter.proofs.entering.enter.Goals as goal
use Rattle.a2m_enter.proofs.entering.enter.Goals.{Start}

-- no literal of the body becomes the count
pub counted : unwritten counts function.body ≡ true
counted = refl

entering : (c : goal.Start) → Bytes c.args.table.now → Entering c.args.table.now c.args.view c.args.after c.args.value.now c.args.own.now.value
entering c bytes = record { opened = c.requires.opened; bytes = bytes; free = c.requires.le_free; rowed = c.requires.after_value; high = c.requires.high_bound; value = omega arith; digest = omega arith }

pub invariant_of-link_at : goal.invariant_of-link_at
invariant_of-link_at c = record { counted = opened-counted c.args.table.now c.args.view c.requires.opened }

pub link_at-l-requires : goal.link_at-l-requires
link_at-l-requires c = (c.requires.le_free, free-most c.args.table.now c.args.view c.requires.opened)

pub overflow_add-held : goal.overflow_add-held
overflow_add-held c = let l = opened-log c.args.table.now c.args.view c.requires.opened in let k = (opened-counted c.args.table.now c.args.view c.requires.opened).logs-most in omega arith

pub invariant_of-lent : goal.invariant_of-lent
invariant_of-lent c = record { counted = opened-counted c.args.table.now c.args.view c.requires.opened }

pub put_slot-requires : goal.put_slot-requires
put_slot-requires c =
    let l = opened-log c.args.table.now c.args.view c.requires.opened in
    let k = opened-counted c.args.table.now c.args.view c.requires.opened in
    record { le_s = (c.requires.le_free, free-most c.args.table.now c.args.view c.requires.opened); owner_bound = omega (arith, k.logs-most); next_bound = omega arith }

pub hook-requires : goal.hook-requires
hook-requires c =
    let e = ap (λ (n : Counts). n.slots) c.put_slot.ensures.counts in
    let l = last-most c.args.table.now c.args.view c.requires.opened in
    let f = free-most c.args.table.now c.args.view c.requires.opened in
    (omega (arith, e), omega (arith, e))

pub put_row-requires : goal.put_row-requires
put_row-requires c =
    let E = entering (goal.at.put_row-requires c).Start (search rules) in
    let e = ap (λ (n : Counts). n.logs) (c.hook.ensures.counts ∙ c.put_slot.ensures.counts) in
    let l = opened-log c.args.table.now c.args.view c.requires.opened in
    record { g_lt_logs = omega (arith, e); row_fits = row-good E }

pub put_free-requires : goal.put_free-requires
put_free-requires c =
    let E = entering (goal.at.put_free-requires c).Start (search rules) in
    record { header_size_in_bounds = held-long _ _ _ _ _ (held-3 E c.put_slot.ensures.bytes c.hook.ensures.bytes (search rules)); bound = next-good E c.link_at-l.ensures }

pub overflow_sub-view : goal.overflow_sub-view
overflow_sub-view c = some-free (entering (goal.at.overflow_sub-view c).Start (search rules))

pub put_free-requires-2 : goal.put_free-requires-2
put_free-requires-2 c =
    let E = entering (goal.at.put_free-requires-2 c).Start (search rules) in
    let m = count_most c.args.table.now c.args.view c.requires.opened in
    let n = (opened-counted c.args.table.now c.args.view c.requires.opened).slots-most in
    record { header_size_in_bounds = held-long _ _ _ _ _ (held-4 E c.link_at-l.ensures c.put_slot.ensures.bytes c.hook.ensures.bytes (search rules) c.put_free.ensures); bound = omega arith }

pub put_free-requires-3 : goal.put_free-requires-3
put_free-requires-3 c =
    let E = entering (goal.at.put_free-requires-3 c).Start (search rules) in
    let m = last-most-after E c.link_at-l.result.next in
    let z = (opened-counted c.args.table.now c.args.view c.requires.opened).slots-most in
    record { header_size_in_bounds = held-long _ _ _ _ _ (held-5 E c.link_at-l.ensures c.put_slot.ensures.bytes c.hook.ensures.bytes (search rules) c.put_free.ensures c.put_free-2.ensures); bound = omega (arith, c.last_after.ensures) }

pub returns : goal.returns
returns c =
    record {
      low = entered-low c.args.view c.args.after c.requires.after_value;
      high = refl;
      blocks = refl;
      bytes = entered (entering (goal.at.returns c).Start (search rules)) c.link_at-l.ensures c.put_slot.ensures.bytes c.hook.ensures.bytes (search rules) c.put_free.ensures c.put_free-2.ensures c.last_after.ensures c.put_free-3.ensures;
    }
