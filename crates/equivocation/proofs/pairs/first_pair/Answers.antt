-- `equivocation::pairs::first_pair` meets its contract.
use mathlib.Core.Path.{◌≡◌, refl, sym, ◌∙◌}
use mathlib.Core.Bool.{true}
use native.Mathlib.Omega.{arith}
use Rattle.std.specs.List.{concat}
use Rattle.quorum.specs.Certificate.{receipt_count}
use Rattle.quorum.proofs.Piles.{count-of}
use Rattle.equivocation.proofs.SearchLaws.{first_found, first_on, first-none}
use Rattle.refusal.specs.Unwritten.{unwritten, counts}
use Rattle.equivocation.proofs.pairs.first_pair.Code.Mir.{function}
use Rattle.equivocation.proofs.pairs.first_pair.Goals as goal

-- no literal of the body becomes the count
pub counted : unwritten counts function.body ≡ true
counted = refl

pub returns-in-Some : goal.returns-in-Some
returns-in-Some c = sym (c.loop-first.invariant ∙ first_found c.args.marks.now (concat c.args.receipts.now) (receipt_count (concat c.args.receipts.now)) c.loop-first.first _ (omega (arith, count-of _ c.told-receipts)) c.second_of.ensures c.in-Some.is)

pub loop-first-preserved : goal.loop-first-preserved
loop-first-preserved c = c.loop-first.invariant ∙ first_on c.args.marks.now (concat c.args.receipts.now) (receipt_count (concat c.args.receipts.now)) c.loop-first.first (omega (arith, count-of _ c.told-receipts)) c.second_of.ensures c.in_default.is

pub returns : goal.returns
returns c = first-none c.args.marks.now (concat c.args.receipts.now) (receipt_count (concat c.args.receipts.now)) c.loop-first.first (omega (arith, count-of _ c.told-receipts)) ∙ sym c.loop-first.invariant

pub second_of-requires : goal.second_of-requires
second_of-requires c = (c.requires, omega (arith, count-of _ c.told-receipts))
