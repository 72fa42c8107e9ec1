-- Document 02 [13], a keeper that contradicts itself: which receipts of a pile count, which two of them contradict each other, and the
-- answer, "the first pair, by first then second place".
use Rattle.std.specs.Prelude.{ℕ, zero, suc, ◌<◌, ◌≡◌, ◌↔◌, ◌⊎◌, Bool, not, ◌&&◌, ◌||◌, cond, List, [], ◌∷◌, length, eqb, Result, Ok, Err}
use Rattle.std.proofs.Math.Option.{Option, none, some}
use Rattle.octets.specs.Octets.{same}
use Rattle.refusal.specs.Number.{number_of}
use Rattle.refusal.specs.Order.{first_fault, afterwards}
use Rattle.refusal.specs.Answer.{Answer, answer, answer_with}
use Rattle.receipt.specs.Attestation.{Attestation, LOOKUP, read_attestation, receipt_bytes, Sized}
use Rattle.receipt.specs.Possible.{Admissible}
use Rattle.receipt.specs.Verdict.{verdict}
use Rattle.receipt.specs.declared.Ask.TheVariants.{Lookup, End}
use Rattle.receipt.specs.declared.Question.{Question}
use Rattle.roster.specs.Profile.{Permitted}
use Rattle.roster.specs.Roster.{size, keeper_at, key_at, IsRoster}
use Rattle.quorum.specs.Bits.{any_below}
use Rattle.quorum.specs.Certificate.{receipt_count, receipt_at, pile_faults, pile_blocks, IsCertificate}
use Rattle.refusal.specs.declared.Hashed.{Hashed}
use Rattle.refusal.specs.declared.Refused.{Refused}
use Rattle.std.specs.Prelude as rust
use Rattle.equivocation.specs.declared.Pair.{Pair}

-- the answer: the pair's places, or that there is none, or a refusal, with the blocks hashed for it
abbrev pub Contradiction : Type 0
Contradiction = Result (Hashed (rust.Option Pair)) Refused

-- the values of what was found: a pair is its two places; "If there is none, say so": none
abbrev pub pair_values : rust.Option Pair → List ℕ
pair_values (rust.Some pair) = pair.first ∷ pair.second ∷ []
pair_values rust.None = []

-- number and values of each answer: 0 and what was found
abbrev pub contradiction_answer : Contradiction → Answer
contradiction_answer (Ok done) = answer 0 (pair_values done.value)
contradiction_answer (Err refused) = answer (number_of refused.why) []

-- the blocks hashed for it
abbrev pub contradiction_blocks : Contradiction → ℕ
contradiction_blocks (Ok done) = done.blocks
contradiction_blocks (Err refused) = refused.blocks

-- "Each receipt is checked for the question it carries itself", LOOKUP of its position or END
unfoldable pub own_question : Attestation → Question
own_question a = record { keeper = a.keeper; log = a.log; ask = cond (same a.name LOOKUP) (Lookup a.position) End }

-- "roster members' accepted receipts": member i's number is in it, and the verifier accepts it under i's key for its own question, "its own
-- nonce included"
unfoldable pub accepted_by : List ℕ → List ℕ → ℕ → Bool
accepted_by roster r i =
    eqb (keeper_at roster i) (read_attestation r).keeper
    && eqb (verdict (key_at roster i) r (read_attestation r).nonce (own_question (read_attestation r))).number 0

-- the receipt at place p is some member's
unfoldable pub accepted_at : List ℕ → List ℕ → ℕ → Bool
accepted_at roster pile p = any_below (size roster) (accepted_by roster (receipt_at pile p))

-- "both assigned with different values or digests, or one assigned and one skipped"
unfoldable pub stories_differ : Attestation → Attestation → Bool
stories_differ a b =
    cond (eqb a.kind 1 && eqb b.kind 1) (not (same a.value b.value && same a.digest b.digest))
    ((eqb a.kind 1 && eqb b.kind 2) || (eqb a.kind 2 && eqb b.kind 1))

-- "with one keeper, log and position that are .."
unfoldable pub conflicting : Attestation → Attestation → Bool
conflicting a b = eqb a.keeper b.keeper && (eqb a.log b.log && (eqb a.position b.position && stories_differ a b))

module _ (roster pile : List ℕ) where
  -- the receipts at places p and q are such a pair
  unfoldable pub is_pair : ℕ → ℕ → Bool
  is_pair p q =
      accepted_at roster pile p
      && (accepted_at roster pile q && conflicting (read_attestation (receipt_at pile p)) (read_attestation (receipt_at pile q)))

  -- of j places from q on, the first that makes a pair with place p
  unfoldable pub second_of : ℕ → ℕ → ℕ → Option ℕ
  second_of p zero q = none
  second_of p (suc j) q = cond (is_pair p q) (some q) (second_of p j (suc q))

  -- p with the place found for it, or what comes later
  abbrev pub or_later : ℕ → Option ℕ → Option (ℕ × ℕ) → Option (ℕ × ℕ)
  or_later p (some q) later = some (p, q)
  or_later p none later = later

  -- of j places from p on, "the first pair, by first then second place"
  unfoldable pub first_of : ℕ → ℕ → Option (ℕ × ℕ)
  first_of zero p = none
  first_of (suc j) p = or_later p (second_of p j (suc p)) (first_of j (suc p))

  unfoldable pub first_pair : Option (ℕ × ℕ)
  first_pair = first_of (receipt_count pile) 0

-- the values of an answer: both places, or none
abbrev pub places_of : Option (ℕ × ℕ) → List ℕ
places_of none = []
places_of (some pq) = pq.0 ∷ pq.1 ∷ []

module _ (n k : ℕ) (roster pile : List ℕ) where
  -- "The refusals are those of a certificate, 13 excepted": of those 7 is for a nonce, and none is given
  unfoldable pub contradiction_refusal : Option ℕ
  contradiction_refusal = first_fault (pile_faults n k roster pile)

  -- the answer
  unfoldable pub contradiction : Answer
  contradiction = answer_with contradiction_refusal (places_of (first_pair roster pile))

  -- "its blocks are counted as a certificate's"
  unfoldable pub contradiction_blocks_of : ℕ
  contradiction_blocks_of = afterwards contradiction_refusal (pile_blocks roster pile) 0

-- ---- the same as conditions; proofs/PairLaws shows that they agree

-- what is asked before the receipts are looked at
pub record Admitted (n k : ℕ) (r c : List ℕ) : Type 0 where
  pub profile : Permitted n k
  pub roster : IsRoster n r
  pub receipts : IsCertificate c

-- a receipt of member i's that the verifier accepts
pub record AcceptedBy (roster r : List ℕ) (i : ℕ) : Type 0 where
  pub keeper : keeper_at roster i ≡ (read_attestation r).keeper
  pub accepted : (verdict (key_at roster i) r (read_attestation r).nonce (own_question (read_attestation r))).number ≡ 0

-- the same of bytes: they are those of a possible entry of member i's under its key. So no receipt is refused for its question
pub record EntryOf (roster r : List ℕ) (i : ℕ) : Type 0 where
  pub entry : Attestation
  pub sized : Sized entry
  pub possible : Admissible entry
  pub key : length (key_at roster i) ≡ 32
  pub bytes : r ≡ receipt_bytes (key_at roster i) entry
  pub keeper : keeper_at roster i ≡ entry.keeper

abbrev pub AcceptedAt : List ℕ → List ℕ → ℕ → Type 0
AcceptedAt roster pile p = (i : ℕ) × (i < size roster) × AcceptedBy roster (receipt_at pile p) i

-- "both assigned with different values or digests"
pub record Differ (a b : Attestation) : Type 0 where
  pub first : a.kind ≡ 1
  pub second : b.kind ≡ 1
  pub apart : a.value ≡ b.value → a.digest ≡ b.digest → ⊥

-- "one assigned and one skipped"
pub record Skips (a b : Attestation) : Type 0 where
  pub assigned : a.kind ≡ 1
  pub skipped : b.kind ≡ 2

pub record Conflicting (a b : Attestation) : Type 0 where
  pub keeper : a.keeper ≡ b.keeper
  pub log : a.log ≡ b.log
  pub position : a.position ≡ b.position
  pub stories : Differ a b ⊎ (Skips a b ⊎ Skips b a)

module _ (roster pile : List ℕ) where
  -- places p and q hold a pair
  pub record IsPair (p q : ℕ) : Type 0 where
    pub order : p < q
    pub within : q < receipt_count pile
    pub first : AcceptedAt roster pile p
    pub second : AcceptedAt roster pile q
    pub conflict : Conflicting (read_attestation (receipt_at pile p)) (read_attestation (receipt_at pile q))

  -- "the first pair, by first then second place": no other has a smaller first place, or the same and a smaller second
  pub record FirstPair (p q : ℕ) : Type 0 where
    pub pair : IsPair p q
    pub first : (i j : ℕ) → IsPair i j → i < p → ⊥
    pub second : (j : ℕ) → IsPair p j → j < q → ⊥

-- [13]'s sentences as one statement of an answer: it names places exactly when they are those of the first pair, and says that there is none
-- exactly when there is none; both only of a permitted profile, a roster and whole receipts
abbrev pub FindsExactly : ℕ → ℕ → List ℕ → List ℕ → Answer → Type 0
FindsExactly n k roster pile given =
    ((p q : ℕ) → given ≡ answer 0 (p ∷ q ∷ []) ↔ (Admitted n k roster pile × FirstPair roster pile p q))
    × (given ≡ answer 0 [] ↔ (Admitted n k roster pile × ((p q : ℕ) → IsPair roster pile p q → ⊥)))
