-- Demand 3 on runs: "And for every two runs of readings with equal closing digests, whatever they hold, our comparison hands over
-- two different blocks with one SHA-256 exactly when the runs differ, as far back as both reach." By document 01 it "speaks of every
-- two runs that refusals 7 and 14 do not turn away": `hands-over-exactly`. Then what each verdict of such a call says.
use mathlib.Core.Path.{◌≡◌, sym, ap, ◌∙◌}
use mathlib.Core.Logic.{◌↔◌}
use Prim.Native.Nat.{ℕ, ◌+◌, ◌-◌, ◌^◌, ◌≤◌, ◌<◌}
use native.Mathlib.Omega.{arith}
use mathlib.Core.Bool.{false, not}
use mathlib.Core.Option.{none}
use mathlib.Core.List.{List}
use lib.Dec.{eqb}
use lib.ListN.{length}
use borrow.Author.Tests.{eqb-true, not-false}
use Rattle.refusal.specs.Order.{afterwards}
use Rattle.refusal.proofs.OrderLaws.{peel}
use Rattle.sha256.specs.Sha256.{sha256}
use Rattle.entry.proofs.DigestLaws.{length-block}
use Rattle.runs.specs.Run.{Run, count, value_at, digest_at, block_at, closing}
use Rattle.runs.specs.Compare.{Verdict, differ, agree, collision, reach, left, right, Unlike, comparison, handed_over}
use Rattle.runs.specs.Call.{Answer, no_run, compare_refusal, done, answered, compare_answer, compare_bytes}
use Rattle.runs.specs.Claim.{Collides, Agreement, HandsOver}
use Rattle.runs.proofs.NoRun.{run-reaches}
use Rattle.runs.proofs.ScanLaws.{digest-size}
use Rattle.runs.proofs.AgreeLaws.{agree-exactly}
use Rattle.runs.proofs.Verdicts.{value-size, differ-exactly, collision-exactly, collision-handed, untouched}

-- the size of a block
block_size : (r : Run) → length r.start ≡ 32 → (k : ℕ) → k < count r → length (block_at sha256 r k) ≡ 72
unfolding block_at
block_size r h k n = length-block (r.first + k) (value_at r k) (digest_at sha256 r k) (value-size r k n) (digest-size r h k)

-- a run that is one
record Whole (r : Run) : Type 0 where
  start : length r.start ≡ 32
  some-values : 0 < count r
  positions : r.first + count r ≤ 2 ^ 64

whole_is : (r : Run) → not (eqb (length r.start) 32) ≡ false → no_run r.first r.values ≡ false → Whole r
unfolding count
whole_is r s n =
    let w = run-reaches r.first r.values n in
    record { start = eqb-true (length r.start) 32 (not-false _ s); some-values = w.0; positions = w.1.positions }

module _ (a b : Run) (out : List ℕ) (ok : compare_refusal a b out ≡ none) where
  wholes : Whole a × Whole b
  unfolding compare_refusal
  wholes =
      let p1 = peel 7 (not (eqb (length a.start) 32)) _ ok in
      let p2 = peel 7 (not (eqb (length b.start) 32)) _ p1.1 in
      let p3 = peel 7 (not (eqb (length out) 144)) _ p2.1 in
      let p4 = peel 14 (no_run a.first a.values) _ p3.1 in
      let p5 = peel 14 (no_run b.first b.values) _ p4.1 in
      (whole_is a p1.0 p4.0, whole_is b p2.0 p5.0)

  reaches : (0 < reach a b) × ((reach a b ≤ count a) × (reach a b ≤ count b))
  unfolding reach
  reaches = (omega (arith, wholes.0.some-values, wholes.1.some-values), (omega arith, omega arith))

  answer-is : compare_answer a b out ≡ done (comparison sha256 a b)
  unfolding compare_answer answered
  answer-is = simp ok

  bytes-are : compare_bytes a b out ≡ handed_over sha256 a b out
  unfolding compare_bytes afterwards
  bytes-are = simp ok

  -- a verdict is answered exactly when the comparison gives it
  verdict-is : (v : Verdict) → compare_answer a b out ≡ done v ↔ comparison sha256 a b ≡ v
  verdict-is v = (λ h. let e : done (comparison sha256 a b) ≡ done v = sym answer-is ∙ h in cc (ap (λ (x : Answer). x.verdict) e), λ h. answer-is ∙ ap done h)

  left-size : (j : ℕ) → j < reach a b → length (left sha256 a b j) ≡ 72
  unfolding left
  left-size j h = block_size a wholes.0.start (count a - reach a b + j) (omega (arith, reaches.1.0))

  right-size : (j : ℕ) → j < reach a b → length (right sha256 a b j) ≡ 72
  unfolding right
  right-size j h = block_size b wholes.1.start (count b - reach a b + j) (omega (arith, reaches.1.1))

  -- "digests differ"
  pub call-differ : compare_answer a b out ≡ done differ ↔ (closing sha256 a ≡ closing sha256 b → ⊥)
  call-differ = let v = verdict-is differ in let d = differ-exactly sha256 a b in (λ h. d.0 (v.0 h), λ n. v.1 (d.1 n))

  -- "agree (equal positions and values back to the shorter run's first entry, and equal digest before it)"
  pub call-agree : compare_answer a b out ≡ done agree ↔ Agreement sha256 a b
  call-agree =
      let v = verdict-is agree in
      let g = agree-exactly sha256 a b wholes.0.positions wholes.1.positions reaches.0 in
      (λ h. g.0 (v.0 h), λ n. v.1 (g.1 n))

  -- only a collision touches the buffer
  pub call-untouched : (compare_answer a b out ≡ done collision → ⊥) → compare_bytes a b out ≡ out
  call-untouched n = bytes-are ∙ untouched sha256 a b out (λ h. n ((verdict-is collision).1 h))

  module _ (c : closing sha256 a ≡ closing sha256 b) where
    -- "a collision: of the blocks equally far from their runs' ends, the unequal pair nearest the ends"
    pub call-collision : compare_answer a b out ≡ done collision ↔ Unlike sha256 a b
    call-collision = let v = verdict-is collision in let e = collision-exactly sha256 a b c in (λ h. e.0 (v.0 h), λ u. v.1 (e.1 u))

    pub call-pair : compare_answer a b out ≡ done collision → (j : ℕ) × Collides sha256 a b (compare_bytes a b out) j
    call-pair h =
        let p = collision-handed sha256 a b c ((verdict-is collision).0 h) out in
        rw bytes-are p

    pub hands-over-exactly : HandsOver a b out ↔ Unlike sha256 a b
    hands-over-exactly = (
      λ o. call-collision.0 o.answer,
      λ u.
          let h = call-collision.1 u in
          let p = call-pair h in
          let w = p.1 in
          record {
            answer = h;
            first = left sha256 a b p.0;
            second = right sha256 a b p.0;
            sizes = (left-size p.0 w.place, right-size p.0 w.place);
            bytes = w.blocks;
            unequal = w.unequal;
            one-digest = w.one_hash;
          },
    )
