-- Document 01: "A roster is N items of 40 bytes (keeper number 8, key 32), .. keeper numbers distinct." Document 02 [7]: "The roster
-- must have N items, otherwise 12, and the rule that N be odd ends".
use Rattle.std.specs.Prelude.{ℕ, zero, suc, ◌+◌, ◌*◌, ◌/◌, ◌%◌, ◌<◌, ◌≡◌, Bool, true, not, ◌&&◌, cond, Option, Some, None, List, length, eqb}
use Rattle.bigendian.specs.BigEndian.{unbe}
use Rattle.octets.specs.Octets.{part}

-- the number of items
unfoldable pub size : List ℕ → ℕ
size roster = length roster / 40

-- item i's keeper number
unfoldable pub keeper_at : List ℕ → ℕ → ℕ
keeper_at roster i = unbe (part roster (i * 40) 8)

-- item i's key
unfoldable pub key_at : List ℕ → ℕ → List ℕ
key_at roster i = part roster (i * 40 + 8) 32

-- the item with the keeper number x among the first n
unfoldable pub member : List ℕ → ℕ → ℕ → Option ℕ
member roster x zero = None
member roster x (suc n) = cond (eqb (keeper_at roster n) x) (Some n) (member roster x n)

-- none of the first n items has the keeper number x
unfoldable pub absent : List ℕ → ℕ → ℕ → Bool
absent roster x zero = true
absent roster x (suc n) = not (eqb (keeper_at roster n) x) && absent roster x n

-- x is "a roster member's keeper number"
unfoldable pub is_member : List ℕ → ℕ → Bool
is_member roster x = not (absent roster x (size roster))

-- the first n keeper numbers are distinct
unfoldable pub distinct : List ℕ → ℕ → Bool
distinct roster zero = true
distinct roster (suc n) = absent roster (keeper_at roster n) n && distinct roster n

-- the test: a roster of n items
unfoldable pub is_roster : ℕ → List ℕ → Bool
is_roster n roster = eqb (length roster % 40) 0 && (eqb (size roster) n && distinct roster (size roster))

-- the same as conditions; proofs/RosterLaws shows that they agree
pub record IsRoster (n : ℕ) (roster : List ℕ) : Type 0 where
  pub items : length roster % 40 ≡ 0
  pub members : size roster ≡ n
  pub distinct : (i j : ℕ) → i < size roster → j < size roster → keeper_at roster i ≡ keeper_at roster j → i ≡ j
