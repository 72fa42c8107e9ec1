-- `vectors::million` is safe: no more than a million bytes are absorbed.
use Rattle.std.proofs.Common.{◌≡◌, ℕ, ◌≤◌, ◌<◌, ◌^◌, length, take, replicate, arith, length-take, sym, subst}
use lib.ListN.{length-replicate}
use Rattle.sha256_running.proofs.Absorb.{holds-new, holds-count, holds-within, absorb-counts, absorb-within}
use Rattle.sha256_running.specs.declared.Running.{Running}
use Rattle.vectors.proofs.million.Goals as goal
use Rattle.vectors.proofs.million.Goals.{else-loop-at-test, then-loop-at-test+else-n-at}

first-size : (n : ℕ) → n ≤ 1000 → length {A = ℕ} (take n (replicate 1000 97)) ≡ n
first-size n h = simp (length-take, length-replicate) (omega arith)

pub loop-at-init : goal.loop-at-init
loop-at-init c = let h = holds-new _ c.new-s.ensures in
    let e = holds-count _ _ h in record { within = omega arith; behind = omega arith; blocks = holds-within _ _ h }

pub loop-at-preserved : goal.loop-at-preserved
loop-at-preserved c =
    let size = first-size c.min.result (omega (arith, c.min.ensures)) in
    let n = absorb-counts _ _ _ c.absorb-s.ensures in
    record {
      within = omega (arith, n, size, c.min.ensures);
      behind = omega (arith, n, size, c.min.ensures);
      blocks = absorb-within _ _ _ c.absorb-s.ensures c.loop-at.invariant.blocks;
    }

Finishes : Running → Type 0
Finishes s = (s.count < 2 ^ 61) × (s.blocks ≤ s.count)

-- the loop ends at a million, or where the next step would wrap
pub finish-requires : goal.finish-requires
unfolding Finishes
finish-requires c =
    let i = c.loop-at.invariant in
    elim c.loop-at-test.branch [
      | else-loop-at-test w ↦ subst Finishes (sym w.s-is) (omega (arith, i.within), i.blocks)
      | then-loop-at-test+else-n-at w ↦
          let size = first-size w.min.result (omega (arith, w.min.ensures)) in
          let n = absorb-counts _ _ _ w.absorb-s.ensures in
          subst Finishes (sym w.s-is) (omega (arith, n, size, w.min.ensures), absorb-within _ _ _ w.absorb-s.ensures i.blocks)
    ]
