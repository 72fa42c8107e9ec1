-- The comparison of two runs (document 01, "Runs"), over any hash function.
use Rattle.std.specs.Prelude.{ℕ, zero, suc, ◌+◌, ◌-◌, ◌<◌, min, ◌≡◌, cond, List, ◌++◌}
use Rattle.std.proofs.Math.Option.{Option, none, some}
use Rattle.octets.specs.Octets.{same}
use Rattle.runs.specs.Run.{Run, count, block_at, closing}

-- "Comparison of two runs gives: digests differ; agree ..; or a collision"
pub data Verdict : Type 0 where
  differ : Verdict
  agree : Verdict
  collision : Verdict

-- "m being the shorter run's number of values"
unfoldable pub reach : Run → Run → ℕ
reach a b = min (count a) (count b)

-- the last of the first m places at which f and g are unequal
unfoldable pub last_unequal : (ℕ → List ℕ) → (ℕ → List ℕ) → ℕ → Option ℕ
last_unequal f g zero = none
last_unequal f g (suc j) = cond (same (f j) (g j)) (last_unequal f g j) (some j)

-- equal closing digests: agree where no pair is unequal
abbrev pub verdict_of : Option ℕ → Verdict
verdict_of none = agree
verdict_of (some j) = collision

-- "fills a lent buffer of 144 bytes, which the other verdicts do not touch"
abbrev pub filled_with : (ℕ → List ℕ) → Option ℕ → List ℕ → List ℕ
filled_with pair none out = out
filled_with pair (some j) out = pair j

module _ (hash : List ℕ → List ℕ) (a b : Run) where
  -- of each run's last m blocks the one at place j, the farthest from the ends first: "equally far from their runs' ends"
  unfoldable pub left : ℕ → List ℕ
  left j = block_at hash a (count a - reach a b + j)

  unfoldable pub right : ℕ → List ℕ
  right j = block_at hash b (count b - reach a b + j)

  -- "the unequal pair nearest the ends"
  unfoldable pub nearest : Option ℕ
  nearest = last_unequal left right (reach a b)

  -- "That pair, the first run's block before the second's"
  unfoldable pub pair_at : ℕ → List ℕ
  pair_at j = left j ++ right j

-- "Two runs differ, as far back as both reach, when of their last m blocks .. two equally far from the ends are unequal"
abbrev pub Unlike : (List ℕ → List ℕ) → Run → Run → Type 0
Unlike hash a b = (j : ℕ) × (j < reach a b) × (left hash a b j ≡ right hash a b j → ⊥)

module _ (hash : List ℕ → List ℕ) (a b : Run) where
  -- the verdict
  unfoldable pub comparison : Verdict
  comparison = cond (same (closing hash a) (closing hash b)) (verdict_of (nearest hash a b)) differ

  -- and the lent buffer after it
  unfoldable pub handed_over : List ℕ → List ℕ
  handed_over out = cond (same (closing hash a) (closing hash b)) (filled_with (pair_at hash a b) (nearest hash a b) out) out
