-- The conclusion of the pass over both runs: its cases, and that it is the comparison.
use mathlib.Core.Path.{◌≡◌, refl, ap, ap₂, ◌∙◌}
use Prim.Native.Nat.{ℕ, ◌+◌, ◌-◌, ◌*◌, ◌<◌, min}
use native.Mathlib.Omega.{arith}
use mathlib.Core.Bool.{Bool, true, false, cond}
use mathlib.Core.Option.{Option, none, some}
use mathlib.Core.List.{List, ◌++◌}
use lib.ListN.{length, length-append}
use Rattle.std.specs.Prelude as option
use Rattle.std.specs.Prelude.{IfSome}
use Rattle.sha256.specs.Sha256.{sha256}
use Rattle.octets.specs.Octets.{same, splice}
use Rattle.octets.proofs.Parts.{splice-then, splice-whole}
use Rattle.runs.specs.Run.{Run, count, digest_at, closing, block_from}
use Rattle.runs.specs.Compare.{reach, differ, left, right, nearest, pair_at, verdict_of, filled_with, comparison, handed_over}
use Rattle.runs.specs.Call.{verdict_named}
use Rattle.runs.specs.Scan.{unequal_in, kept, scanned, passed, concluded_by, left_by, concluded, left_in}
use Rattle.runs.proofs.LastUnequal.{Last, last-is}
use Rattle.runs.specs.declared.Comparison.{Comparison}
use Rattle.runs.specs.declared.Comparison.TheVariants.{Differ, Agree, Collision}
use Rattle.runs.specs.declared.UnequalPair.{UnequalPair}
use Rattle.runs.specs.declared.Scan.{Scan}
use Rattle.runs.proofs.ScanLaws.{block-is}

module _ (a b : Run) (s : Scan) (out : List ℕ) where
  abbrev pub Concludes : Comparison → List ℕ → Type 0
  Concludes v d = (v ≡ concluded s) × (d ≡ left_in a b s out)

  pub differs : same s.digest1 s.digest2 ≡ false → Concludes Differ out
  unfolding concluded left_in
  differs h = simp h (refl, refl)

  module _ (h : same s.digest1 s.digest2 ≡ true) where
    pub agrees : s.unequal ≡ option.None → Concludes Agree out
    unfolding concluded left_in
    agrees f = simp (h, f) (refl, refl)

    pub collides : (p : UnequalPair) → s.unequal ≡ option.Some p → length out ≡ 144 → length (block_from a p.at1 p.before1) ≡ 72
        → length (block_from b p.at2 p.before2) ≡ 72 → {c d : List ℕ} → c ≡ splice out 0 (block_from a p.at1 p.before1)
        → d ≡ splice c 72 (block_from b p.at2 p.before2) → Concludes Collision d
    unfolding concluded left_in
    collides p f n n1 n2 {d = d} ec ed =
        let x : List ℕ = block_from a p.at1 p.before1 in
        let y : List ℕ = block_from b p.at2 p.before2 in
        let e : d ≡ x ++ y = splice-then out x y 72 ec n1 (omega arith) ed ∙ splice-whole out (x ++ y) (length-append x y ∙ omega arith) in
        simp (h, f) (refl, e)

-- the conclusion of the whole pass is the comparison

module _ (a b : Run) where
  -- the values of each run behind which both go in step
  abbrev skip1 : ℕ
  skip1 = count a - reach a b

  abbrev skip2 : ℕ
  skip2 = count b - reach a b

  close-left : digest_at sha256 a (skip1 + reach a b) ≡ closing sha256 a
  unfolding closing reach
  close-left = ap (digest_at sha256 a) (omega arith)

  close-right : digest_at sha256 b (skip2 + reach a b) ≡ closing sha256 b
  unfolding closing reach
  close-right = ap (digest_at sha256 b) (omega arith)

  named : (t : Bool) (o : Option ℕ) → verdict_named (cond t (concluded_by (kept a b skip1 skip2 o)) Differ) ≡ cond t (verdict_of o) differ
  unfolding kept
  named true none = refl
  named true (some k) = refl
  named false o = refl

  concluded-is : verdict_named (concluded (passed a b)) ≡ comparison sha256 a b
  unfolding concluded passed scanned unequal_in comparison nearest left right
  concluded-is =
      ap₂ (λ (x y : List ℕ). verdict_named (cond (same x y) (concluded_by (passed a b).unequal) Differ)) close-left close-right
      ∙ named (same (closing sha256 a) (closing sha256 b)) (nearest sha256 a b)

  -- 2 for each value of either run
  pass-blocks : (passed a b).blocks ≡ 2 * (count a + count b)
  unfolding passed scanned reach
  pass-blocks = omega arith

  filled_is : (t : Bool) (o : Option ℕ) (out : List ℕ)
      → cond t (left_by a b (kept a b skip1 skip2 o) out) out ≡ cond t (filled_with (pair_at sha256 a b) o out) out
  unfolding kept pair_at left right
  filled_is true none out = refl
  filled_is true (some k) out = ap₂ (λ (x y : List ℕ). x ++ y) (block-is a (skip1 + k)) (block-is b (skip2 + k))
  filled_is false o out = refl

  left-in-is : (out : List ℕ) → left_in a b (passed a b) out ≡ handed_over sha256 a b out
  unfolding left_in passed scanned unequal_in handed_over nearest left right
  left-in-is out =
      ap₂ (λ (x y : List ℕ). cond (same x y) (left_by a b (passed a b).unequal out) out) close-left close-right
      ∙ filled_is (same (closing sha256 a) (closing sha256 b)) (nearest sha256 a b) out

  -- the pass of the program, by its smaller count
  pub pass-is : (m n : ℕ) {k : ℕ} {s : Scan} → m ≡ count a → n ≡ count b → k ≡ min m n → s ≡ scanned a b (m - k) (n - k) k → s ≡ passed a b
  unfolding passed reach
  pass-is m n em en ek e = cc

  -- a pair that is kept stands within both runs
  abbrev pub Within : option.Option UnequalPair → Type 0
  Within o = IfSome o (λ p. (p.at1 < count a) × (p.at2 < count b))

  kept-within : (o : Option ℕ) → Last (left sha256 a b) (right sha256 a b) (reach a b) o → Within (kept a b skip1 skip2 o)
  unfolding kept reach
  kept-within none l = tt
  kept-within (some k) l = (omega (arith, l.0), omega (arith, l.0))

  passed-within : Within (passed a b).unequal
  unfolding passed scanned unequal_in nearest left right
  passed-within = kept-within (nearest sha256 a b) (last-is (left sha256 a b) (right sha256 a b) (reach a b))

  -- the same for a caller, whose scan is the whole pass
  module _ {s : Scan} (e : s ≡ passed a b) where
    pub kept-inside : Within s.unequal
    kept-inside = rw e passed-within

    pub concludes : (out : List ℕ) {v : Comparison} {d : List ℕ} → Concludes a b s out v d
        → (verdict_named v ≡ comparison sha256 a b) × ((s.blocks ≡ 2 * (count a + count b)) × (d ≡ handed_over sha256 a b out))
    concludes out h = (
      ap verdict_named (h.0 ∙ ap concluded e) ∙ concluded-is,
      (
        ap (λ (t : Scan). t.blocks) e ∙ pass-blocks,
        h.1 ∙ ap (λ (t : Scan). left_in a b t out) e ∙ left-in-is out,
      ),
    )
