-- `roster::are_distinct` meets its contract.
use Rattle.roster.specs.Roster.{absent, keeper_at, member, distinct}
use Rattle.roster.proofs.RosterLaws.{is_some-member, repeated, distinct-suc, keeper-item, absent-front}
use Rattle.std.specs.List.{concat}
use Rattle.std.specs.Option.{is_some}
use Rattle.std.proofs.lemmas.List.{length-take-le}
use Rattle.std.proofs.Common.{◌≡◌, ℕ, ◌<◌, Bool, not, List, [], get_or, take, length, refl, sym, ap, ◌∙◌, add-one, arith}
use borrow.Author.Tests.{not-true, not-false}
use Rattle.roster.proofs.OnEnd.{Each}
use Rattle.roster.proofs.are_distinct.Goals as goal

-- what the call of `find` tells of an item
looked : (items : List (List ℕ)) (i keeper : ℕ) (b : Bool) → Each 40 items → i < length items → keeper ≡ keeper_at (get_or items i []) 0
    → b ≡ is_some (member (concat (take i items)) keeper (length (take i items))) → b ≡ not (absent (concat items) (keeper_at (concat items) i) i)
looked items i keeper b each h e f =
    let l : length (take i items) ≡ i = length-take-le i items (omega arith) in
    let k : keeper ≡ keeper_at (concat items) i = e ∙ keeper-item items each i h in
    f ∙ ap (λ (n : ℕ). is_some (member (concat (take i items)) keeper n)) l ∙ is_some-member (concat (take i items)) keeper i
    ∙ ap not (absent-front items each i keeper i (omega arith) (omega arith) ∙ ap (λ (x : ℕ). absent (concat items) x i) k)

pub loop-i-init : goal.loop-i-init
unfolding distinct
loop-i-init c = refl

pub returns-then-is_some : goal.returns-then-is_some
returns-then-is_some c =
    let a = looked c.args.roster.now c.loop-i.i _ _ c.told-roster (omega arith) c.keeper_of.ensures (c.is_some.ensures ∙ ap is_some c.find.ensures) in sym (repeated (concat c.args.roster.now) (length c.args.roster.now) c.loop-i.i (omega arith) (not-true _ (sym a ∙ c.if-is_some.true)))

pub loop-i-preserved : goal.loop-i-preserved
loop-i-preserved c =
    let a = looked c.args.roster.now c.loop-i.i _ _ c.told-roster (omega arith) c.keeper_of.ensures (c.is_some.ensures ∙ ap is_some c.find.ensures) in rw add-one (distinct-suc (concat c.args.roster.now) c.loop-i.i (not-false _ (sym a ∙ c.if-is_some.false)) c.loop-i.invariant)
