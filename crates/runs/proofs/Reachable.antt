-- The collision verdict is reached for some hash function.
use mathlib.Core.Path.{◌≡◌, refl}
use Prim.Native.Nat.{ℕ}
use mathlib.Core.List.{List}
use lib.ListN.{replicate}
use Rattle.octets.specs.Octets.{same}
use Rattle.bigendian.specs.BigEndian.{be}
use Rattle.entry.specs.Digest.{block}
use Rattle.runs.specs.Run.{Run, run, count, digest_at, block_at, closing}
use Rattle.runs.specs.Compare.{collision, reach, last_unequal, left, right, nearest, comparison}

-- a hash that forgets everything, and two runs of one value each

abbrev forget : List ℕ → List ℕ
forget m = replicate 32 0

abbrev of_one : ℕ → Run
of_one x = run (replicate 32 0) 1 (replicate 32 x)

pub collision_reached : comparison forget (of_one 1) (of_one 2) ≡ collision
unfolding comparison closing nearest last_unequal left right block_at digest_at reach count same block be
collision_reached = refl
