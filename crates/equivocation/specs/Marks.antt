-- The program's own: a mark for each place, whether its receipt counts, and the search among marked places.
use Rattle.std.specs.Prelude.{ℕ, zero, suc, ◌<◌, ◌≡◌, Bool, false, ◌&&◌, cond, List, [], ◌∷◌, get_or, eqb, Option, Some, None}
use Rattle.refusal.specs.Answer.{Answer, answer}
use Rattle.receipt.specs.Attestation.{read_attestation}
use Rattle.receipt.specs.Verdict.{verdict}
use Rattle.roster.specs.Roster.{size, key_at, member}
use Rattle.quorum.specs.Certificate.{receipt_at}
use Rattle.equivocation.specs.Pairs.{own_question, conflicting}

-- the verifier's answer to a receipt's own question, under the key of the member found
abbrev pub checked_under : List ℕ → List ℕ → Option ℕ → Bool
checked_under roster r (Some i) = eqb (verdict (key_at roster i) r (read_attestation r).nonce (own_question (read_attestation r))).number 0
checked_under roster r None = false

-- of the member with the receipt's keeper number
unfoldable pub checked : List ℕ → List ℕ → Bool
checked roster r = checked_under roster r (member roster (read_attestation r).keeper (size roster))

-- the marks of the first k places
abbrev pub Marked : List ℕ → List ℕ → ℕ → List Bool → Type 0
Marked roster pile k marks = (p : ℕ) → p < k → get_or marks p false ≡ checked roster (receipt_at pile p)

module _ (marks : List Bool) (pile : List ℕ) where
  -- place p is marked
  abbrev pub marked : ℕ → Bool
  marked p = get_or marks p false

  -- place q is marked and contradicts place p
  unfoldable pub against : ℕ → ℕ → Bool
  against p q = marked q && conflicting (read_attestation (receipt_at pile p)) (read_attestation (receipt_at pile q))

  -- of j places from q on, the first that is against p
  unfoldable pub second_in : ℕ → ℕ → ℕ → Option ℕ
  second_in p zero q = None
  second_in p (suc j) q = cond (against p q) (Some q) (second_in p j (suc q))

  -- of the j places after p, the first that makes a pair with it
  unfoldable pub second_for : ℕ → ℕ → Option ℕ
  second_for p j = cond (marked p) (second_in p j (suc p)) None

  -- p with the place found for it, or what comes later
  abbrev pub or_else : ℕ → Option ℕ → Answer → Answer
  or_else p (Some q) later = answer 0 (p ∷ q ∷ [])
  or_else p None later = later

  -- the first pair of j places from p on
  unfoldable pub first_in : ℕ → ℕ → Answer
  first_in zero p = answer 0 []
  first_in (suc j) p = or_else p (second_for p j) (first_in j (suc p))
