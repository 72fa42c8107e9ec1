-- Runs (document 01, "Runs"): the blocks and digests of a run, over any hash function.
use Rattle.std.specs.Prelude.{ℕ, zero, suc, ◌+◌, ◌*◌, ◌/◌, ◌^◌, ◌≤◌, List, length}
use Rattle.octets.specs.Octets.{part}
use Rattle.entry.specs.Digest.{block}

-- "A run is a start digest, a first position and values, 32 bytes each, at consecutive positions"
pub record Run : Type 0 where
  pub start : List ℕ
  pub first : ℕ
  pub values : List ℕ

abbrev pub run : List ℕ → ℕ → List ℕ → Run
run start first values = record { start = start; first = first; values = values }

-- the number of values
unfoldable pub count : Run → ℕ
count r = length r.values / 32

-- value k, counted from 0
abbrev pub value_at : Run → ℕ → List ℕ
value_at r k = part r.values (k * 32) 32

-- the block of value k, with the digest before it
unfoldable pub block_from : Run → ℕ → List ℕ → List ℕ
block_from r k digest = block (r.first + k) (value_at r k) digest

-- n values are there, and their positions fit
pub record Reaches (first : ℕ) (values : List ℕ) (n : ℕ) : Type 0 where
  pub bytes : n * 32 ≤ length values
  pub positions : first + n ≤ 2 ^ 64

module _ (hash : List ℕ → List ℕ) where
  -- the digest after the first k values: by "the append rule"
  unfoldable pub digest_at : Run → ℕ → List ℕ
  digest_at r zero = r.start
  digest_at r (suc k) = hash (block (r.first + k) (value_at r k) (digest_at r k))

  -- "A run's blocks are the 72 bytes that the append rule hashes for each of its values, the start digest being the previous one
  -- of the first": the block of value k
  unfoldable pub block_at : Run → ℕ → List ℕ
  block_at r k = block (r.first + k) (value_at r k) (digest_at r k)

  -- "its closing digest"
  unfoldable pub closing : Run → List ℕ
  closing r = digest_at r (count r)
