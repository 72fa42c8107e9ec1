-- `runs_scan::in_step` meets its contract.
use native.Mathlib.Omega.{arith}
use Rattle.runs.specs.Run.{count}
use Rattle.runs.specs.Lent.{whole}
use Rattle.runs.proofs.ScanLaws.{digest-behind, digest-more, keeps-none, keeps-this, keeps-that, scan-is}
use Rattle.runs_scan.proofs.in_step.Goals as goal
use Rattle.runs_scan.proofs.in_step.Goals.{then-not-alike, else-not-alike}

pub overflow_add-blocks : goal.overflow_add-blocks
unfolding count
overflow_add-blocks c = omega (arith, c.digest_at-behind1.ensures.1, c.digest_at-behind2.ensures.1)

pub loop-k-init : goal.loop-k-init
loop-k-init c = (
  digest-behind (whole c.args.one.now) c.args.i c.digest_at-behind1.ensures.0,
  digest-behind (whole c.args.two.now) c.args.j c.digest_at-behind2.ensures.0,
  omega (arith, c.digest_at-behind1.ensures.1, c.digest_at-behind2.ensures.1),
  keeps-none (whole c.args.one.now) (whole c.args.two.now) c.args.i c.args.j,
)

pub overflow_add-blocks-in-loop-k-2 : goal.overflow_add-blocks-in-loop-k-2
unfolding count
overflow_add-blocks-in-loop-k-2 c = omega (arith, c.walked-next1.ensures.1, c.walked-next2.ensures.1, c.loop-k.invariant.2)

pub loop-k-preserved : goal.loop-k-preserved
loop-k-preserved c = let a = whole c.args.one.now in
    let b = whole c.args.two.now in (
      digest-more a c.args.i c.loop-k.k c.loop-k.invariant.0 c.walked-next1.ensures.0,
      digest-more b c.args.j c.loop-k.k c.loop-k.invariant.1 c.walked-next2.ensures.0,
      omega (arith, c.walked-next1.ensures.1, c.walked-next2.ensures.1, c.loop-k.invariant.2),
      elim c.if-not-alike.branch [
        | then-not-alike w ↦ keeps-this a b c.args.i c.args.j c.loop-k.k c.loop-k.invariant.0 c.loop-k.invariant.1 c.same_block-alike.ensures w.if-not-alike.true w.unequal-is
        | else-not-alike w ↦ keeps-that a b c.args.i c.args.j c.loop-k.k c.loop-k.invariant.0 c.loop-k.invariant.1 c.same_block-alike.ensures c.loop-k.invariant.3 w.if-not-alike.false w.unequal-is
      ],
    )

pub returns : goal.returns
returns c =
    scan-is (whole c.args.one.now) (whole c.args.two.now) c.args.i c.args.j c.loop-k.k c.args.m (omega arith) c.loop-k.invariant.0 c.loop-k.invariant.1 c.loop-k.invariant.2 c.loop-k.invariant.3
