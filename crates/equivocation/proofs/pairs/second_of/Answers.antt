-- `equivocation::pairs::second_of` meets its contract.
use mathlib.Core.Path.{sym, ◌∙◌}
use native.Mathlib.Omega.{arith}
use Rattle.std.specs.List.{concat}
use Rattle.quorum.specs.Certificate.{receipt_count}
use Rattle.quorum.proofs.Piles.{receipt-of, count-of}
use Rattle.equivocation.proofs.SearchLaws.{second-found, second-on, second_none, unmarked, not-marked, by-conflict, by-later}
use Rattle.equivocation.proofs.pairs.second_of.Goals.{else-marks-q-via-then-marks-q+else-conflict, else-marks-q-via-else-marks-q}
use Rattle.equivocation.proofs.pairs.second_of.Goals as goal

pub returns-then-not-marks-p : goal.returns-then-not-marks-p
returns-then-not-marks-p c = unmarked _ _ _ _ c.if-not-marks-p.true

pub returns-then-conflict : goal.returns-then-conflict
returns-then-conflict c =
    let e = by-conflict c.args.marks.now (concat c.args.receipts.now) c.args.p c.loop-q.q c.if-marks-q.true (receipt-of _ c.told-receipts c.args.p (omega (arith, c.requires.1, count-of _ c.told-receipts))) (receipt-of _ c.told-receipts c.loop-q.q (omega (arith, count-of _ c.told-receipts))) c.conflict.ensures in
    sym (c.loop-q.invariant ∙ second-found c.args.marks.now (concat c.args.receipts.now) c.args.p (receipt_count (concat c.args.receipts.now)) c.loop-q.q (omega (arith, count-of _ c.told-receipts)) (sym e ∙ c.if-conflict.true))
    ∙ by-later _ _ c.args.p _ c.if-not-marks-p.false

pub loop-q-preserved : goal.loop-q-preserved
loop-q-preserved c = c.loop-q.invariant ∙ second-on c.args.marks.now (concat c.args.receipts.now) c.args.p (receipt_count (concat c.args.receipts.now)) c.loop-q.q (omega (arith, count-of _ c.told-receipts)) (elim c.else-marks-q.branch [
  | else-marks-q-via-then-marks-q+else-conflict w ↦
      sym (by-conflict c.args.marks.now (concat c.args.receipts.now) c.args.p c.loop-q.q w.if-marks-q.true (receipt-of _ c.told-receipts c.args.p (omega (arith, c.requires.1, count-of _ c.told-receipts))) (receipt-of _ c.told-receipts c.loop-q.q (omega (arith, count-of _ c.told-receipts))) w.conflict.ensures)
      ∙ w.if-conflict.false
  | else-marks-q-via-else-marks-q w ↦ sym (not-marked c.args.marks.now (concat c.args.receipts.now) c.args.p c.loop-q.q w.if-marks-q.false)
])

pub returns : goal.returns
returns c = sym (c.loop-q.invariant ∙ second_none c.args.marks.now (concat c.args.receipts.now) c.args.p (receipt_count (concat c.args.receipts.now)) c.loop-q.q (omega (arith, count-of _ c.told-receipts)))
    ∙ by-later _ _ c.args.p _ c.if-not-marks-p.false

pub bounds-marks-q : goal.bounds-marks-q
bounds-marks-q c = omega (arith, c.requires.0, count-of _ c.told-receipts)
