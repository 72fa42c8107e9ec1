-- `equivocation::checking::marks_of` meets its contract.
use mathlib.Core.Path.{◌≡◌, refl, ap, ◌∙◌}
use mathlib.Core.Bool.{true}
use mathlib.Core.List.{[]}
use Prim.Native.Nat.{ℕ, ◌+◌}
use lib.ListN.{get_or, length-set}
use native.Mathlib.Nat.{not-suc-le-zero}
use native.Mathlib.Omega.{arith}
use Rattle.std.specs.List.{concat}
use Rattle.quorum.specs.Certificate.{receipt_count}
use Rattle.quorum.specs.Tally.{blocks_below}
use Rattle.quorum.proofs.BlockLaws.{receipt-few, blocks_start, blocks_step, blocks-few}
use Rattle.quorum.proofs.Piles.{receipt-of, count-of}
use Rattle.equivocation.proofs.CheckLaws.{marks-step}
use Rattle.refusal.specs.Unwritten.{unwritten, counts}
use Rattle.equivocation.proofs.checking.marks_of.Code.Mir.{function}
use Rattle.equivocation.proofs.checking.marks_of.Goals as goal

-- no literal of the body becomes the count
pub counted : unwritten counts function.body ≡ true
counted = refl

pub loop-p-init : goal.loop-p-init
loop-p-init c = record { blocks = blocks_start (concat c.args.roster.now) (concat c.args.receipts.now); size = refl; marks = λ q h. absurd (not-suc-le-zero h) }

pub overflow_add-blocks : goal.overflow_add-blocks
overflow_add-blocks c = omega (arith, c.requires.1, count-of c.args.receipts.now c.told-receipts, c.loop-p.invariant.blocks, blocks-few (concat c.args.roster.now) (concat c.args.receipts.now) c.loop-p.p, c.check-one.ensures.blocks, receipt-few (concat c.args.roster.now) (get_or c.args.receipts.now c.loop-p.p []))

pub loop-p-preserved : goal.loop-p-preserved
loop-p-preserved c = let r = receipt-of c.args.receipts.now c.told-receipts c.loop-p.p (omega arith) in record {
  blocks = blocks_step (concat c.args.roster.now) (concat c.args.receipts.now) c.loop-p.p c.loop-p.invariant.blocks r (ap (λ (n : ℕ). c.loop-p.blocks + n) c.check-one.ensures.blocks);
  size = length-set c.loop-p.marks c.loop-p.p _ ∙ c.loop-p.invariant.size;
  marks = marks-step (concat c.args.roster.now) (concat c.args.receipts.now) c.loop-p.marks c.loop-p.p _ (omega (arith, c.requires.1, count-of c.args.receipts.now c.told-receipts, c.loop-p.invariant.size)) c.loop-p.invariant.marks r c.check-one.ensures.counts;
}

pub bounds-marks-p : goal.bounds-marks-p
bounds-marks-p c = omega (arith, c.requires.1, count-of c.args.receipts.now c.told-receipts, c.loop-p.invariant.size)

pub returns-clause-marks : goal.returns-clause-marks
returns-clause-marks c = λ p h. c.loop-p.invariant.marks p (omega (arith, h, count-of c.args.receipts.now c.told-receipts))

pub returns-clause-blocks : goal.returns-clause-blocks
returns-clause-blocks c = let e : c.loop-p.p ≡ receipt_count (concat c.args.receipts.now) = omega (arith, count-of c.args.receipts.now c.told-receipts) in
    c.loop-p.invariant.blocks ∙ ap (blocks_below (concat c.args.roster.now) (concat c.args.receipts.now)) e
