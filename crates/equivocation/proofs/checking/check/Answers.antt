-- `equivocation::checking::check` meets its contract.
use mathlib.Core.Path.{◌≡◌, refl, sym, ap, ◌∙◌}
use mathlib.Core.Bool.{true}
use Prim.Native.Nat.{◌<◌}
use native.Mathlib.Omega.{arith}
use lib.ListN.{length}
use Rattle.std.specs.List.{concat}
use Rattle.roster.proofs.RosterLaws.{member_below, size-items, key_handed}
use Rattle.quorum.proofs.BlockLaws.{stranger-blocks, member-blocks}
use Rattle.equivocation.proofs.CheckLaws.{nonce-size, stranger, of-member}
use Rattle.refusal.specs.Unwritten.{unwritten, counts}
use Rattle.equivocation.proofs.checking.check.Code.Mir.{function}
use Rattle.equivocation.proofs.checking.check.Goals.{In-Some}
use Rattle.equivocation.proofs.checking.check.Goals as goal

-- no literal of the body becomes the count
pub counted : unwritten counts function.body ≡ true
counted = refl

-- the member that was found is in the roster
within : (c : goal.In-Some) → c.in-Some.i < length c.args.roster.now
within c = (member_below (concat c.args.roster.now) _ (length c.args.roster.now) c.in-Some.i (sym c.find.ensures ∙ c.in-Some.is)).0

pub returns-in_default-clause-counts : goal.returns-in_default-clause-counts
returns-in_default-clause-counts c = stranger (concat c.args.roster.now) c.args.r.now _ (size-items c.args.roster.now c.told-roster) _ c.keeper_of-keeper.ensures (sym c.find.ensures ∙ c.in_default.is)

pub returns-in_default-clause-blocks : goal.returns-in_default-clause-blocks
returns-in_default-clause-blocks c = stranger-blocks (concat c.args.roster.now) c.args.r.now _ (size-items c.args.roster.now c.told-roster) _ c.keeper_of-keeper.ensures (sym c.find.ensures ∙ c.in_default.is)

pub bounds-roster-i : goal.bounds-roster-i
bounds-roster-i c = within (goal.at.bounds-roster-i c).In-Some

pub offset_bounds-roster-i : goal.offset_bounds-roster-i
offset_bounds-roster-i c = omega (arith, within (goal.at.offset_bounds-roster-i c).In-Some, c.requires, size-items c.args.roster.now c.told-roster)

pub returns-clause-counts : goal.returns-clause-counts
returns-clause-counts c =
    let k = key_handed c.args.roster.now c.told-roster c.in-Some.i (within (goal.at.returns-clause-counts c).In-Some) in
    c.is_ok.ensures.value
    ∙ of-member (concat c.args.roster.now) c.args.r.now _ (size-items c.args.roster.now c.told-roster) _ c.keeper_of-keeper.ensures c.in-Some.i _ _ _ _ c.verify-verdict.result
    (sym c.find.ensures ∙ c.in-Some.is) k.0 (c.from.ensures ∙ c.log_of.ensures) c.own_ask.ensures c.nonce_of.ensures c.verify-verdict.ensures.answer

pub returns-clause-blocks : goal.returns-clause-blocks
returns-clause-blocks c =
    let k = key_handed c.args.roster.now c.told-roster c.in-Some.i (within (goal.at.returns-clause-blocks c).In-Some) in
    c.worked_blocks.ensures
    ∙ member-blocks (concat c.args.roster.now) c.args.r.now _ (size-items c.args.roster.now c.told-roster) _ c.keeper_of-keeper.ensures _ c.nonce_of.result.now c.in-Some.i
    (sym c.find.ensures ∙ c.in-Some.is) k.1 (ap length c.nonce_of.ensures ∙ nonce-size c.args.r.now c.told-r) c.told-r c.verify-verdict.ensures.blocks
