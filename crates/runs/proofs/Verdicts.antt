-- What the verdicts "digests differ" and a collision say of the runs, over any hash function.
use mathlib.Core.Path.{◌≡◌, refl, sym, ap, subst, ◌∙◌}
use mathlib.Core.Logic.{⊎_elim, ◌↔◌}
use Prim.Native.Nat.{ℕ, suc, ◌+◌, ◌-◌, ◌*◌, ◌≤◌, ◌<◌}
use native.Mathlib.Omega.{arith}
use mathlib.Core.Bool.{Bool, true, false, cond}
use mathlib.Core.Option.{Option, none, some}
use mathlib.Core.List.{List}
use lib.ListN.{length, drop}
use Rattle.octets.specs.Octets.{same}
use Rattle.octets.proofs.Tests.{equal_or_not}
use Rattle.octets.proofs.Same.{same-eq, eq-same}
use Rattle.octets.proofs.Parts.{length_part}
use Rattle.entry.proofs.DigestLaws.{block-previous}
use Rattle.runs.specs.Run.{Run, count, value_at, digest_at, block_at, closing}
use Rattle.runs.specs.Compare.{differ, collision, reach, verdict_of, filled_with, left, right, nearest, pair_at, Unlike, comparison, handed_over}
use Rattle.runs.specs.Claim.{Collides}
use Rattle.runs.proofs.LastUnequal.{Last, last-is}

pub value-size : (r : Run) (k : ℕ) → k < count r → length (value_at r k) ≡ 32
unfolding count
value-size r k h = length_part r.values (k * 32) 32 (omega arith)

module _ (hash : List ℕ → List ℕ) where
  -- the digest before a block stands in it
  previous : (r : Run) (k : ℕ) → k < count r → drop 40 (block_at hash r k) ≡ digest_at hash r k
  unfolding block_at
  previous r k h = block-previous (r.first + k) (value_at r k) (digest_at hash r k) (value-size r k h)

  after : (r : Run) (k : ℕ) → hash (block_at hash r k) ≡ digest_at hash r (suc k)
  unfolding block_at digest_at
  after r k = refl

  module _ (a b : Run) where
    pub fits : (reach a b ≤ count a) × (reach a b ≤ count b)
    unfolding reach
    fits = (omega arith, omega arith)

    left_after : (j : ℕ) → hash (left hash a b j) ≡ digest_at hash a (count a - reach a b + suc j)
    unfolding left
    left_after j = after a (count a - reach a b + j) ∙ ap (digest_at hash a) (omega arith)

    right-after : (j : ℕ) → hash (right hash a b j) ≡ digest_at hash b (count b - reach a b + suc j)
    unfolding right
    right-after j = after b (count b - reach a b + j) ∙ ap (digest_at hash b) (omega arith)

    left-before : (j : ℕ) → j < reach a b → drop 40 (left hash a b j) ≡ digest_at hash a (count a - reach a b + j)
    unfolding left
    left-before j h = previous a (count a - reach a b + j) (omega (arith, fits))

    right-before : (j : ℕ) → j < reach a b → drop 40 (right hash a b j) ≡ digest_at hash b (count b - reach a b + j)
    unfolding right
    right-before j h = previous b (count b - reach a b + j) (omega (arith, fits))

    -- where the next blocks are equal, or there are none and the closing digests are, the hashes are
    one_hash : closing hash a ≡ closing hash b → (j : ℕ) → j < reach a b → ((i : ℕ) → j < i → i < reach a b → left hash a b i ≡ right hash a b i)
        → hash (left hash a b j) ≡ hash (right hash a b j)
    unfolding closing
    one_hash c j h n =
        left_after j
        ∙ ⊎_elim
        (λ (z : suc j ≡ reach a b). ap (digest_at hash a) (omega (arith, fits)) ∙ c ∙ ap (digest_at hash b) (omega (arith, fits)))
        (λ z. sym (left-before (suc j) (omega arith)) ∙ ap (drop 40) (n (suc j) (omega arith) (omega arith)) ∙ right-before (suc j) (omega arith))
        (equal_or_not (suc j) (reach a b))
        ∙ sym (right-after j)

    pub nearest-is : Last (left hash a b) (right hash a b) (reach a b) (nearest hash a b)
    unfolding nearest
    nearest-is = last-is (left hash a b) (right hash a b) (reach a b)

    -- digests differ

    not_same : (x y : List ℕ) (t : Bool) → same x y ≡ t → (x ≡ y → ⊥) → same x y ≡ false
    not_same x y true e n = absurd (n (same-eq x y e))
    not_same x y false e n = e

    no-differ : (o : Option ℕ) → verdict_of o ≡ differ → ⊥
    no-differ none h = let z : ◌≡◌ {A = ℕ} 0 1 = cc in omega arith
    no-differ (some j) h = let z : ◌≡◌ {A = ℕ} 0 1 = cc in omega arith

    -- with one closing digest the verdict and the buffer go by the nearest unequal pair
    pub by-nearest : closing hash a ≡ closing hash b → comparison hash a b ≡ verdict_of (nearest hash a b)
    unfolding comparison
    by-nearest c = simp (eq-same (closing hash a) (closing hash b) c)

    filled : closing hash a ≡ closing hash b → (out : List ℕ) → handed_over hash a b out ≡ filled_with (pair_at hash a b) (nearest hash a b) out
    unfolding handed_over
    filled c out = simp (eq-same (closing hash a) (closing hash b) c)

    pub differ-exactly : comparison hash a b ≡ differ ↔ (closing hash a ≡ closing hash b → ⊥)
    unfolding comparison
    differ-exactly = (
      λ h c. no-differ (nearest hash a b) (sym (by-nearest c) ∙ h),
      λ n. simp (not_same (closing hash a) (closing hash b) (same (closing hash a) (closing hash b)) refl n),
    )

    -- a collision

    unlike : (o : Option ℕ) → Last (left hash a b) (right hash a b) (reach a b) o → verdict_of o ≡ collision ↔ Unlike hash a b
    unlike none l = (λ h. let z : ◌≡◌ {A = ℕ} 0 1 = cc in absurd (omega arith), λ u. absurd (u.2 (l u.0 u.1)))
    unlike (some j) l = (λ h. (j, l.0, l.1.0), λ u. refl)

    handed : closing hash a ≡ closing hash b → (o : Option ℕ) → Last (left hash a b) (right hash a b) (reach a b) o → verdict_of o ≡ collision → (out : List ℕ)
        → (j : ℕ) × Collides hash a b (filled_with (pair_at hash a b) o out) j
    unfolding pair_at
    handed c none l h out = let z : ◌≡◌ {A = ℕ} 0 1 = cc in absurd (omega arith)
    handed c (some j) l h out = (j, record { place = l.0; unequal = l.1.0; nearest = l.1.1; blocks = refl; one_hash = one_hash c j l.0 l.1.1 })

    -- of two runs with one closing digest: a collision exactly when they differ as far back as both reach
    pub collision-exactly : closing hash a ≡ closing hash b → comparison hash a b ≡ collision ↔ Unlike hash a b
    collision-exactly c =
        let n = by-nearest c in
        let u = unlike (nearest hash a b) nearest-is in
        (λ h. u.0 (sym n ∙ h), λ k. n ∙ u.1 k)

    -- and then the unequal pair nearest the ends is handed over, two blocks of one hash
    pub collision-handed : closing hash a ≡ closing hash b → comparison hash a b ≡ collision → (out : List ℕ)
        → (j : ℕ) × Collides hash a b (handed_over hash a b out) j
    collision-handed c h out =
        subst (λ (l : List ℕ). (j : ℕ) × Collides hash a b l j) (sym (filled c out)) (handed c (nearest hash a b) nearest-is (sym (by-nearest c) ∙ h) out)

    -- every other verdict leaves the buffer
    untouched-by : (t : Bool) (o : Option ℕ) (pair : ℕ → List ℕ) (out : List ℕ) → (cond t (verdict_of o) differ ≡ collision → ⊥) → cond t (filled_with pair o out) out ≡ out
    untouched-by true none pair out n = refl
    untouched-by true (some j) pair out n = absurd (n refl)
    untouched-by false o pair out n = refl

    pub untouched : (out : List ℕ) → (comparison hash a b ≡ collision → ⊥) → handed_over hash a b out ≡ out
    unfolding comparison handed_over
    untouched out n = untouched-by (same (closing hash a) (closing hash b)) (nearest hash a b) (pair_at hash a b) out n
