-- `roster::items` meets its contract.
use Rattle.roster.specs.Roster.{size}
use Rattle.roster.proofs.OnEnd.{cut, nothing_left, something_left}
use Rattle.roster.proofs.RosterLaws.{no_items, other-size, of-items}
use Rattle.std.proofs.Common.{◌%◌, length, sym, ◌∙◌}
use Rattle.roster.proofs.items.Goals.{else-is_empty-via-then-is_empty+then-items-members+else-are_distinct, else-is_empty-via-then-is_empty+else-items-members, else-is_empty-via-else-is_empty}
use Rattle.roster.proofs.items.Goals as goal

pub returns-then-are_distinct : goal.returns-then-are_distinct
unfolding size
returns-then-are_distinct c =
    let whole = nothing_left _ (length c.args.roster.now % 40) _ c.as_chunks.ensures.back_len c.is_empty.ensures c.if-is_empty.true in
    let bytes = cut 39 c.args.roster.now c.as_chunks.result.0.now c.as_chunks.ensures.front whole in
    (sym (of-items _ c.args.members _ whole c.as_chunks.ensures.front_len c.if-items-members.true bytes) ∙ sym c.are_distinct.ensures ∙ c.if-are_distinct.true, (bytes, c.as_chunks.ensures.front_len))

pub returns-else-is_empty : goal.returns-else-is_empty
returns-else-is_empty c = elim c.else-is_empty.branch [
  | else-is_empty-via-then-is_empty+then-items-members+else-are_distinct w ↦
      let whole = nothing_left _ (length c.args.roster.now % 40) _ c.as_chunks.ensures.back_len c.is_empty.ensures w.if-is_empty.true in
      let bytes = cut 39 c.args.roster.now c.as_chunks.result.0.now c.as_chunks.ensures.front whole in
      sym (of-items _ c.args.members _ whole c.as_chunks.ensures.front_len w.if-items-members.true bytes) ∙ sym w.are_distinct.ensures ∙ w.if-are_distinct.false
  | else-is_empty-via-then-is_empty+else-items-members w ↦
      let whole = nothing_left _ (length c.args.roster.now % 40) _ c.as_chunks.ensures.back_len c.is_empty.ensures w.if-is_empty.true in
      sym (other-size c.args.roster.now c.args.members whole (λ e. w.if-items-members.false (c.as_chunks.ensures.front_len ∙ e)))
  | else-is_empty-via-else-is_empty w ↦ sym (no_items c.args.roster.now c.args.members (something_left _ (length c.args.roster.now % 40) _ c.as_chunks.ensures.back_len c.is_empty.ensures w.if-is_empty.false))
]
