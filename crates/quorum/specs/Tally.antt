-- The program's own: the tally that it keeps, for each place the member by which its receipt is good, or none; and the blocks hashed.
use Rattle.std.specs.Prelude.{ℕ, zero, suc, ◌^◌, ◌<◌, ◌≡◌, Bool, false, ◌&&◌, ◌||◌, cond, Option, Some, None, is_some, List, [], ◌∷◌, get_or, eqb, leb}
use Rattle.std.specs.Int.Bits.{bit_or}
use Rattle.std.specs.Int.Count.{ones}
use Rattle.octets.specs.Octets.{same}
use Rattle.refusal.specs.Answer.{Answer, answer}
use Rattle.receipt.specs.Attestation.{read_attestation}
use Rattle.quorum.specs.Bits.{sum_below, mask_below}
use Rattle.roster.specs.Roster.{size, member}
use Rattle.quorum.specs.Certificate.{certified_values, good_by, receipt_at, pair_at, receipt_blocks}
use Rattle.quorum.specs.declared.Certified as declared

-- the member by which a receipt is good
module _ (roster nonce : List ℕ) (log position : ℕ) where
  abbrev pub if_good : List ℕ → Option ℕ → Option ℕ
  if_good r (Some i) = cond (good_by roster nonce log position r i) (Some i) None
  if_good r None = None

  unfoldable pub good_member : List ℕ → Option ℕ
  good_member r = if_good r (member roster (read_attestation r).keeper (size roster))

-- the tally has the first k places
abbrev pub Tallied : List ℕ → List ℕ → ℕ → ℕ → List ℕ → ℕ → List (Option ℕ) → Type 0
Tallied roster nonce log position cert k t = (p : ℕ) → p < k → get_or t p None ≡ good_member roster nonce log position (receipt_at cert p)

-- the blocks hashed for the first k places
abbrev pub blocks_below : List ℕ → List ℕ → ℕ → ℕ
blocks_below roster cert k = sum_below k (λ p. receipt_blocks roster (receipt_at cert p))

-- the members of the first k places have a bit each
abbrev pub Bounded : List (Option ℕ) → ℕ → Type 0
Bounded t k = (p i : ℕ) → p < k → get_or t p None ≡ Some i → i < 32

-- the mask with a receipt's member in it, if it is good and shows the pair
unfoldable pub with_member : ℕ → Option ℕ → Bool → ℕ
with_member mask None shows = mask
with_member mask (Some i) shows = cond shows (bit_or mask (2 ^ i)) mask

-- member i
unfoldable pub is_member_i : Option ℕ → ℕ → Bool
is_member_i None i = false
is_member_i (Some j) i = eqb j i

-- whether one of the first k places has member i and the pair v
unfoldable pub tally_shows : List (Option ℕ) → List ℕ → ℕ → List ℕ → ℕ → Bool
tally_shows t cert zero v i = false
tally_shows t cert (suc k) v i = tally_shows t cert k v i || (is_member_i (get_or t k None) i && same (pair_at cert k) v)

-- the members of the first k places that show the pair of place p
unfoldable pub mask_at : List (Option ℕ) → List ℕ → ℕ → ℕ → ℕ
mask_at t cert k p = mask_below 32 (tally_shows t cert k (pair_at cert p))

-- the mask, if the receipt at a place is good and its pair shown by `need` members
unfoldable pub tried_at : List (Option ℕ) → List ℕ → ℕ → ℕ → ℕ → Option ℕ
tried_at t cert need k p = cond (is_some (get_or t p None)) (cond (leb need (ones (mask_at t cert k p))) (Some (mask_at t cert k p)) None) None

abbrev pub or_else : Option ℕ → ℕ → Answer → Answer
or_else (Some mask) p a = answer 0 (p ∷ mask ∷ [])
or_else None p a = a

-- the first of j places from p on
unfoldable pub first_in : List (Option ℕ) → List ℕ → ℕ → ℕ → ℕ → ℕ → Answer
first_in t cert need k zero p = answer 13 []
first_in t cert need k (suc j) p = or_else (tried_at t cert need k p) p (first_in t cert need k j (suc p))

-- what the search answers
abbrev pub found_answer : Option declared.Certified → Answer
found_answer (Some c) = answer 0 (certified_values c)
found_answer None = answer 13 []
