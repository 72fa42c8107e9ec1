-- The pass over both runs: the digests of each, and what is kept of the last unequal pair, turn by turn.
use mathlib.Core.Path.{◌≡◌, refl, sym, ap, ap₂, ◌∙◌}
use Prim.Native.Nat.{ℕ, zero, suc, ◌+◌, ◌*◌}
use native.Mathlib.Nat.{add-zero}
use native.Mathlib.Numerals.{add-one}
use native.Mathlib.Omega.{arith}
use mathlib.Core.Bool.{Bool, true, false, cond}
use mathlib.Core.Option.{some}
use mathlib.Core.List.{List}
use lib.ListN.{length}
use Rattle.std.specs.Prelude as option
use Rattle.sha256.specs.Sha256.{sha256}
use Rattle.sha256.proofs.Sizes.{length-sha256}
use Rattle.octets.specs.Octets.{same}
use Rattle.entry.specs.Digest.{block}
use Rattle.runs.specs.Run.{Run, value_at, digest_at, block_at, block_from}
use Rattle.runs.specs.Compare.{last_unequal}
use Rattle.runs.specs.Scan.{unequal_in, kept, scanned}
use Rattle.runs.specs.declared.UnequalPair.{UnequalPair}
use Rattle.runs.specs.declared.Scan.{Scan}

module _ (r : Run) where
  -- a run's digests have 32 bytes
  pub digest-size : length r.start ≡ 32 → (k : ℕ) → length (digest_at sha256 r k) ≡ 32
  unfolding digest_at
  digest-size h zero = h
  digest-size h (suc k) = length-sha256 (block (r.first + k) (value_at r k) (digest_at sha256 r k))

  -- no value
  pub digest-start : (d : List ℕ) → d ≡ r.start → d ≡ digest_at sha256 r 0
  unfolding digest_at
  digest-start d e = e

  pub block-is : (k : ℕ) → block_from r k (digest_at sha256 r k) ≡ block_at sha256 r k
  unfolding block_from block_at
  block-is k = refl

  next-is : (k : ℕ) → sha256 (block_from r k (digest_at sha256 r k)) ≡ digest_at sha256 r (suc k)
  unfolding digest_at block_from
  next-is k = refl

  -- one value further
  pub digest-step : (k : ℕ) {d e : List ℕ} → d ≡ digest_at sha256 r k → e ≡ sha256 (block_from r k d) → e ≡ digest_at sha256 r (k + 1)
  digest-step k h e =
      e ∙ ap (λ (x : List ℕ). sha256 (block_from r k x)) h ∙ next-is k ∙ ap (digest_at sha256 r) (sym (add-one k))

  -- the same behind the first i values
  pub digest-behind : (i : ℕ) {d : List ℕ} → d ≡ digest_at sha256 r i → d ≡ digest_at sha256 r (i + 0)
  digest-behind i e = e ∙ ap (digest_at sha256 r) (sym (add-zero i))

  pub digest-more : (i k : ℕ) {d e : List ℕ} → d ≡ digest_at sha256 r (i + k) → e ≡ sha256 (block_from r (i + k) d)
      → e ≡ digest_at sha256 r (i + (k + 1))
  digest-more i k h e = let n : i + k + 1 ≡ i + (k + 1) = omega arith in digest-step (i + k) h e ∙ ap (digest_at sha256 r) n

module _ (a b : Run) (i j : ℕ) where
  -- what the program keeps of the last unequal pair among k
  abbrev pub Keeps : ℕ → option.Option UnequalPair → Type 0
  Keeps k o = o ≡ kept a b i j (unequal_in a b i j k)

  -- none compared
  pub keeps-none : Keeps 0 option.None
  unfolding unequal_in last_unequal kept
  keeps-none = refl

  -- one more pair
  unequal-step : (k : ℕ) → unequal_in a b i j (suc k) ≡ cond (same (block_at sha256 a (i + k)) (block_at sha256 b (j + k))) (unequal_in a b i j k) (some k)
  unfolding unequal_in last_unequal
  unequal-step k = refl

  module _ (k : ℕ) {d e : List ℕ} (hd : d ≡ digest_at sha256 a (i + k)) (he : e ≡ digest_at sha256 b (j + k)) {t : Bool}
      (ht : t ≡ same (block_from a (i + k) d) (block_from b (j + k) e)) where
    after : unequal_in a b i j (k + 1) ≡ cond t (unequal_in a b i j k) (some k)
    after =
        let h : t ≡ same (block_at sha256 a (i + k)) (block_at sha256 b (j + k)) =
        ht ∙ ap₂ (λ (x y : List ℕ). same (block_from a (i + k) x) (block_from b (j + k) y)) hd he
        ∙ ap₂ same (block-is a (i + k)) (block-is b (j + k)) in
        ap (unequal_in a b i j) (add-one k) ∙ unequal-step k ∙ ap (λ (x : Bool). cond x (unequal_in a b i j k) (some k)) (sym h)

    abbrev pub this : List ℕ → List ℕ → option.Option UnequalPair
    this u v = option.Some (record { at1 = i + k; at2 = j + k; before1 = u; before2 = v })

    module _ {o : option.Option UnequalPair} where
      pub keeps-this : t ≡ false → o ≡ this d e → Keeps (k + 1) o
      unfolding kept
      keeps-this g h =
          h
          ∙ ap₂ this hd he
          ∙ sym (ap (kept a b i j) (after ∙ ap (λ (x : Bool). cond x (unequal_in a b i j k) (some k)) g))

      pub keeps-that : {before : option.Option UnequalPair} → Keeps k before → t ≡ true → o ≡ before → Keeps (k + 1) o
      keeps-that h g e = e ∙ h ∙ sym (ap (kept a b i j) (after ∙ ap (λ (x : Bool). cond x (unequal_in a b i j k) (some k)) g))

  -- after all m turns
  pub scan-is : (k m : ℕ) → k ≡ m → {x y : List ℕ} {n : ℕ} {o : option.Option UnequalPair} → x ≡ digest_at sha256 a (i + k) → y ≡ digest_at sha256 b (j + k)
      → n ≡ 2 * (i + k) + 2 * (j + k) → Keeps k o → ◌≡◌ {A = Scan} (record { digest1 = x; digest2 = y; blocks = n; unequal = o }) (scanned a b i j m)
  unfolding scanned
  scan-is k m e ex ey en eo = cc
