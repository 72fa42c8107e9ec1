-- `quorum_tally::member_of` meets its contract.
use Rattle.std.proofs.Common.{◌≡◌, ◌<◌, Bool, length, sym, ap, ◌∙◌, refl, arith, Some, None, Option}
use Rattle.std.specs.Bool.{then_some}
use Rattle.std.specs.List.{concat}
use Rattle.roster.proofs.RosterLaws.{member_below, size-items, key_handed}
use Rattle.quorum.proofs.BlockLaws.{stranger-blocks, member-blocks}
use Rattle.quorum.proofs.Good.{of_none, passed_over, other-kind, counted}
use Rattle.receipt.specs.Kind.{kind_number}
use Rattle.receipt.specs.declared.Kind.{Kind}
use Rattle.receipt.specs.declared.Kind.TheVariants.{Unassigned, Assigned, Skipped, Forgotten}
use Rattle.receipt.specs.contracts.Kind as kind
use denote.Enum.Bare.{sameb}
use Rattle.quorum_tally.proofs.member_of.Goals.{In-Some}
use Rattle.quorum_tally.proofs.member_of.Goals as goal

within : (c : goal.In-Some) → c.in-Some.i < length c.args.roster.now
within c = (member_below (concat c.args.roster.now) c.keeper_of-keeper.result (length c.args.roster.now) c.in-Some.i (sym c.find.ensures ∙ c.in-Some.is)).0

-- the kind tells whether the member counts
by_kind : {A : Type 0} (k : Kind) (i : A) {o m : Option A} → o ≡ then_some (sameb kind.the_type k Assigned) i
    → ((kind_number k ≡ 1 → ⊥) → None ≡ m) → (kind_number k ≡ 1 → Some i ≡ m) → o ≡ m
by_kind Unassigned i t f g = t ∙ f (λ z. omega arith)
by_kind Assigned i t f g = t ∙ g refl
by_kind Skipped i t f g = t ∙ f (λ z. omega arith)
by_kind Forgotten i t f g = t ∙ f (λ z. omega arith)

pub returns-in_default-clause-member : goal.returns-in_default-clause-member
returns-in_default-clause-member c =
    of_none (concat c.args.roster.now) c.args.nonce.now c.args.log c.args.position c.args.r.now (length c.args.roster.now) c.keeper_of-keeper.result (size-items c.args.roster.now c.told-roster)
    c.keeper_of-keeper.ensures (sym c.find.ensures ∙ c.in_default.is)

pub returns-in_default-clause-blocks : goal.returns-in_default-clause-blocks
returns-in_default-clause-blocks c =
    stranger-blocks (concat c.args.roster.now) c.args.r.now (length c.args.roster.now) (size-items c.args.roster.now c.told-roster) c.keeper_of-keeper.result c.keeper_of-keeper.ensures (sym c.find.ensures ∙ c.in_default.is)

pub offset_bounds-roster-i : goal.offset_bounds-roster-i
offset_bounds-roster-i c = omega (arith, within (goal.at.offset_bounds-roster-i c).In-Some, c.requires)

pub bounds-roster-i : goal.bounds-roster-i
bounds-roster-i c = within (goal.at.bounds-roster-i c).In-Some

pub returns-in-Ok-clause-member : goal.returns-in-Ok-clause-member
returns-in-Ok-clause-member c =
    let i = c.in-Some.i in
    let k = key_handed c.args.roster.now c.told-roster i (within (goal.at.returns-in-Ok-clause-member c).In-Some) in
    let v = c.in-Ok.done.value in
    by_kind v.kind i (c.then_some.ensures ∙ ap (λ (b : Bool). then_some b i) c.eq-assigned.ensures)
    (other-kind (concat c.args.roster.now) c.args.nonce.now c.args.log c.args.position c.args.r.now (length c.args.roster.now) c.keeper_of-keeper.result (size-items c.args.roster.now c.told-roster)
    c.keeper_of-keeper.ensures i _ (sym c.find.ensures ∙ c.in-Some.is) k.0 v.keeper v.log v.position (kind_number v.kind) v.reference c.in-Ok.ensures.answer)
    (counted (concat c.args.roster.now) c.args.nonce.now c.args.log c.args.position c.args.r.now (length c.args.roster.now) c.keeper_of-keeper.result (size-items c.args.roster.now c.told-roster)
    c.keeper_of-keeper.ensures i _ (sym c.find.ensures ∙ c.in-Some.is) k.0 v.keeper v.log v.position (kind_number v.kind) v.reference c.in-Ok.ensures.answer)

pub returns-in-Ok-clause-blocks : goal.returns-in-Ok-clause-blocks
returns-in-Ok-clause-blocks c =
    let k = key_handed c.args.roster.now c.told-roster c.in-Some.i (within (goal.at.returns-in-Ok-clause-blocks c).In-Some) in
    member-blocks (concat c.args.roster.now) c.args.r.now (length c.args.roster.now) (size-items c.args.roster.now c.told-roster) c.keeper_of-keeper.result c.keeper_of-keeper.ensures _ c.args.nonce.now c.in-Some.i
    (sym c.find.ensures ∙ c.in-Some.is) k.1 c.told-nonce c.told-r c.in-Ok.ensures.blocks

pub returns-in-Err-clause-member : goal.returns-in-Err-clause-member
returns-in-Err-clause-member c =
    let k = key_handed c.args.roster.now c.told-roster c.in-Some.i (within (goal.at.returns-in-Err-clause-member c).In-Some) in
    passed_over (concat c.args.roster.now) c.args.nonce.now c.args.log c.args.position c.args.r.now (length c.args.roster.now) c.keeper_of-keeper.result (size-items c.args.roster.now c.told-roster)
    c.keeper_of-keeper.ensures c.in-Some.i _ (sym c.find.ensures ∙ c.in-Some.is) k.0 c.in-Err.refused.why c.in-Err.ensures.answer

pub returns-in-Err-clause-blocks : goal.returns-in-Err-clause-blocks
returns-in-Err-clause-blocks c =
    let k = key_handed c.args.roster.now c.told-roster c.in-Some.i (within (goal.at.returns-in-Err-clause-blocks c).In-Some) in
    member-blocks (concat c.args.roster.now) c.args.r.now (length c.args.roster.now) (size-items c.args.roster.now c.told-roster) c.keeper_of-keeper.result c.keeper_of-keeper.ensures _ c.args.nonce.now c.in-Some.i
    (sym c.find.ensures ∙ c.in-Some.is) k.1 c.told-nonce c.told-r c.in-Err.ensures.blocks
