-- The verdict "agree", over any hash function: exactly when positions, values and the digest before them are equal.
use mathlib.Core.Path.{◌≡◌, refl, sym, ap, ap₂, ◌∙◌}
use mathlib.Core.Logic.{◌↔◌}
use Prim.Native.Nat.{ℕ, zero, suc, ◌+◌, ◌-◌, ◌^◌, ◌≤◌, ◌<◌}
use native.Mathlib.Nat.{add-zero, add-suc}
use native.Mathlib.Omega.{arith}
use mathlib.Core.Bool.{Bool, true, false, cond}
use mathlib.Core.Option.{Option, none, some}
use mathlib.Core.List.{List}
use Rattle.octets.specs.Octets.{same}
use Rattle.octets.proofs.Same.{same-eq}
use Rattle.entry.specs.Digest.{block}
use Rattle.entry.proofs.DigestLaws.{block-parts}
use Rattle.runs.specs.Run.{Run, count, value_at, digest_at, block_at, closing}
use Rattle.runs.specs.Compare.{differ, agree, reach, verdict_of, left, right, nearest, comparison}
use Rattle.runs.specs.Claim.{Agreement}
use Rattle.runs.proofs.LastUnequal.{Last}
use Rattle.runs.proofs.Verdicts.{value-size, fits, nearest-is, by-nearest}

module _ (hash : List ℕ → List ℕ) (a b : Run) where
  equal-blocks : (o : Option ℕ) → Last (left hash a b) (right hash a b) (reach a b) o → verdict_of o ≡ agree → (i : ℕ) → i < reach a b → left hash a b i ≡ right hash a b i
  equal-blocks none l h = l
  equal-blocks (some j) l h = let z : ◌≡◌ {A = ℕ} 0 1 = cc in absurd (omega arith)

  all-equal : (o : Option ℕ) → Last (left hash a b) (right hash a b) (reach a b) o → ((i : ℕ) → i < reach a b → left hash a b i ≡ right hash a b i) → verdict_of o ≡ agree
  all-equal none l h = refl
  all-equal (some j) l h = absurd (l.1.0 (h j l.0))

  agree-closing : comparison hash a b ≡ agree → closing hash a ≡ closing hash b
  unfolding comparison
  agree-closing h = go (same (closing hash a) (closing hash b)) refl h
    where
      go : (t : Bool) → same (closing hash a) (closing hash b) ≡ t → cond t (verdict_of (nearest hash a b)) differ ≡ agree → closing hash a ≡ closing hash b
      go true e k = same-eq (closing hash a) (closing hash b) e
      go false e k = let z : ◌≡◌ {A = ℕ} 0 1 = cc in absurd (omega arith)

  -- equal parts make equal digests
  digests : Agreement hash a b → (i : ℕ) → i ≤ reach a b → digest_at hash a (count a - reach a b + i) ≡ digest_at hash b (count b - reach a b + i)
  unfolding digest_at
  digests g zero h = ap (digest_at hash a) (add-zero (count a - reach a b)) ∙ g.before ∙ ap (digest_at hash b) (sym (add-zero (count b - reach a b)))
  digests g (suc i) h =
      let p = g.positions i (omega arith) in
      let v = g.values i (omega arith) in
      let d = digests g i (omega arith) in
      ap (digest_at hash a) (add-suc (count a - reach a b) i)
      ∙ ap hash (ap₂ (λ (n : ℕ) (x : List ℕ). block n x (digest_at hash a (count a - reach a b + i))) p v ∙ ap (block (b.first + (count b - reach a b + i)) (value_at b (count b - reach a b + i))) d)
      ∙ ap (digest_at hash b) (sym (add-suc (count b - reach a b) i))

  blocks-equal : Agreement hash a b → (i : ℕ) → i < reach a b → left hash a b i ≡ right hash a b i
  unfolding left right block_at
  blocks-equal g i h =
      ap₂ (λ (n : ℕ) (x : List ℕ). block n x (digest_at hash a (count a - reach a b + i))) (g.positions i h) (g.values i h)
      ∙ ap (block (b.first + (count b - reach a b + i)) (value_at b (count b - reach a b + i))) (digests g i (omega arith))

  closings-equal : Agreement hash a b → closing hash a ≡ closing hash b
  unfolding closing
  closings-equal g = ap (digest_at hash a) (omega (arith, fits hash a b)) ∙ digests g (reach a b) (omega arith) ∙ ap (digest_at hash b) (omega (arith, fits hash a b))

  -- equal blocks have equal parts
  module _ (ha : a.first + count a ≤ 2 ^ 64) (hb : b.first + count b ≤ 2 ^ 64) where
    parts : (i : ℕ) → i < reach a b → left hash a b i ≡ right hash a b i
        → (a.first + (count a - reach a b + i) ≡ b.first + (count b - reach a b + i))
        × ((value_at a (count a - reach a b + i) ≡ value_at b (count b - reach a b + i))
        × (digest_at hash a (count a - reach a b + i) ≡ digest_at hash b (count b - reach a b + i)))
    unfolding left right block_at
    parts i h e =
        let f = fits hash a b in
        block-parts (a.first + (count a - reach a b + i)) (b.first + (count b - reach a b + i)) (value_at a (count a - reach a b + i))
        (value_at b (count b - reach a b + i)) (digest_at hash a (count a - reach a b + i)) (digest_at hash b (count b - reach a b + i))
        (omega arith) (omega arith) (value-size a (count a - reach a b + i) (omega arith)) (value-size b (count b - reach a b + i) (omega arith)) e

    pub agree-exactly : 0 < reach a b → comparison hash a b ≡ agree ↔ Agreement hash a b
    agree-exactly n = (
      λ h.
          let e = equal-blocks (nearest hash a b) (nearest-is hash a b) (sym (by-nearest hash a b (agree-closing h)) ∙ h) in
          record {
            positions = λ i k. (parts i k (e i k)).0;
            values = λ i k. (parts i k (e i k)).1.0;
            before = ap (digest_at hash a) (sym (add-zero (count a - reach a b))) ∙ (parts 0 n (e 0 n)).1.1 ∙ ap (digest_at hash b) (add-zero (count b - reach a b));
          },
      λ g. by-nearest hash a b (closings-equal g) ∙ all-equal (nearest hash a b) (nearest-is hash a b) (blocks-equal g),
    )
