-- The program's own: the one forward pass over both runs, what it keeps and what it concludes. The product's contract cites `Call` and `Compare`.
use Rattle.std.specs.Prelude.{ℕ, ◌+◌, ◌-◌, ◌*◌, cond, List, ◌++◌}
use Rattle.std.specs.Prelude as option
use Rattle.std.proofs.Math.Option.{Option, none, some}
use Rattle.sha256.specs.Sha256.{sha256}
use Rattle.octets.specs.Octets.{same}
use Rattle.runs.specs.Run.{Run, count, digest_at, block_at, block_from}
use Rattle.runs.specs.Compare.{reach, last_unequal}
use Rattle.runs.specs.declared.Comparison.{Comparison}
use Rattle.runs.specs.declared.Comparison.TheVariants.{Differ, Agree, Collision}
use Rattle.runs.specs.declared.UnequalPair.{UnequalPair}
use Rattle.runs.specs.declared.Scan.{Scan}

-- k values of a behind its first i go in step with k of b behind its first j: the last of their blocks that are unequal
unfoldable pub unequal_in : Run → Run → ℕ → ℕ → ℕ → Option ℕ
unequal_in a b i j k = last_unequal (λ n. block_at sha256 a (i + n)) (λ n. block_at sha256 b (j + n)) k

-- the pair that the program keeps of an unequal place, and none where there is none
unfoldable pub kept : Run → Run → ℕ → ℕ → Option ℕ → option.Option UnequalPair
kept a b i j none = option.None
kept a b i j (some k) = option.Some (record {
  at1 = i + k;
  at2 = j + k;
  before1 = digest_at sha256 a (i + k);
  before2 = digest_at sha256 b (j + k);
})

-- what it has after them
unfoldable pub scanned : Run → Run → ℕ → ℕ → ℕ → Scan
scanned a b i j k = record {
  digest1 = digest_at sha256 a (i + k);
  digest2 = digest_at sha256 b (j + k);
  blocks = 2 * (i + k) + 2 * (j + k);
  unequal = kept a b i j (unequal_in a b i j k);
}

-- the whole pass: the longer run's surplus, then both in step
unfoldable pub passed : Run → Run → Scan
passed a b = scanned a b (count a - reach a b) (count b - reach a b) (reach a b)

-- the verdict where the digests are equal, and the bytes in the lent buffer
abbrev pub concluded_by : option.Option UnequalPair → Comparison
concluded_by option.None = Agree
concluded_by (option.Some pair) = Collision

abbrev pub left_by : Run → Run → option.Option UnequalPair → List ℕ → List ℕ
left_by a b option.None out = out
left_by a b (option.Some pair) out = block_from a pair.at1 pair.before1 ++ block_from b pair.at2 pair.before2

-- the verdict of a pass, and what it leaves in the lent buffer
unfoldable pub concluded : Scan → Comparison
concluded s = cond (same s.digest1 s.digest2) (concluded_by s.unequal) Differ

unfoldable pub left_in : Run → Run → Scan → List ℕ → List ℕ
left_in a b s out = cond (same s.digest1 s.digest2) (left_by a b s.unequal out) out
