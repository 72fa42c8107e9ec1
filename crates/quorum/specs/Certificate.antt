-- Document 01, "Certificates": good receipts, the members whose good receipts show a pair, and the verdict; since document 02 [7] under a
-- station profile, n members of which k are needed.
use Rattle.std.specs.Prelude.{ℕ, zero, suc, ◌*◌, ◌/◌, ◌%◌, ◌^◌, ◌≤◌, ◌<◌, ◌≡◌, ◌↔◌, Bool, true, false, not, ◌&&◌, ◌||◌, cond, List, [], ◌∷◌, ◌++◌, length, eqb, leb, Result, Ok, Err}
use Rattle.std.proofs.Math.Option.{Option, none, some}
use Rattle.std.specs.Int.Count.{ones}
use Rattle.octets.specs.Octets.{part, same}
use Rattle.refusal.specs.Number.{number_of}
use Rattle.refusal.specs.declared.Hashed.{Hashed}
use Rattle.refusal.specs.declared.Refused.{Refused}
use Rattle.refusal.specs.Order.{Fault, fault, first_fault, afterwards}
use Rattle.refusal.specs.Answer.{Answer, answer, answer_with}
use Rattle.receipt.specs.Attestation.{receipt_size, Attestation, read_attestation, pair_in}
use Rattle.receipt.specs.Possible.{possible}
use Rattle.receipt.specs.Verdict.{verdict, Genuine}
use Rattle.receipt.specs.declared.Ask.TheVariants.{Lookup}
use Rattle.receipt.specs.declared.Question.{Question}
use Rattle.quorum.specs.Bits.{count_below, sum_below, any_below, mask_below}
use Rattle.roster.specs.Profile.{permitted, Permitted}
use Rattle.roster.specs.Roster.{size, keeper_at, key_at, is_member, is_roster, IsRoster}
use Rattle.quorum.specs.declared.Certified as declared

-- the verdict: what a certificate that stands names, or a refusal, with the blocks hashed for it
abbrev pub Station : Type 0
Station = Result (Hashed declared.Certified) Refused

-- "the first good receipt" and "the members"
abbrev pub certified_values : declared.Certified → List ℕ
certified_values c = c.place ∷ c.mask ∷ []

-- number and values of each verdict
abbrev pub station_answer : Station → Answer
station_answer (Ok done) = answer 0 (certified_values done.value)
station_answer (Err refused) = answer (number_of refused.why) []

-- the blocks hashed for it
abbrev pub station_blocks : Station → ℕ
station_blocks (Ok done) = done.blocks
station_blocks (Err refused) = refused.blocks

-- the number of receipts in a certificate
unfoldable pub receipt_count : List ℕ → ℕ
receipt_count cert = length cert / receipt_size

-- "A certificate is 0 to 32 receipts on end"
unfoldable pub is_certificate : List ℕ → Bool
is_certificate cert = eqb (length cert % receipt_size) 0 && leb (receipt_count cert) 32

-- the receipt at a place: "Places of receipts count from 0 too"
unfoldable pub receipt_at : List ℕ → ℕ → List ℕ
receipt_at cert p = part cert (p * receipt_size) receipt_size

-- its value and digest
unfoldable pub pair_at : List ℕ → ℕ → List ℕ
pair_at cert p = pair_in (receipt_at cert p)

-- what is asked of a profile, a roster and a pile of receipts before a receipt is looked at: 17, 12 and 9
abbrev pub pile_faults : ℕ → ℕ → List ℕ → List ℕ → List Fault
pile_faults n k roster pile =
    fault 17 (not (permitted n k)) ∷
    fault 12 (not (is_roster n roster)) ∷
    fault 9 (not (is_certificate pile)) ∷ []

-- and of a certificate: 7, "17 .. tested between 7 and 12", 12 and 9
unfoldable pub unread : ℕ → ℕ → List ℕ → List ℕ → List ℕ → List Fault
unread n k roster nonce cert = fault 7 (not (eqb (length nonce) 32)) ∷ pile_faults n k roster cert

-- document 02 [2], the blocks hashed: "6 for each of its receipts that is a possible entry with a roster member's keeper
-- number"
unfoldable pub receipt_blocks : List ℕ → List ℕ → ℕ
receipt_blocks roster r = cond (possible (read_attestation r) && is_member roster (read_attestation r).keeper) 6 0

-- the receipts of a pile together
unfoldable pub pile_blocks : List ℕ → List ℕ → ℕ
pile_blocks roster cert = sum_below (receipt_count cert) (λ p. receipt_blocks roster (receipt_at cert p))

-- "13 included"; and "0 .. for whatever is refused before it hashes"
unfoldable pub certificate_blocks : ℕ → ℕ → List ℕ → List ℕ → List ℕ → ℕ
certificate_blocks n k roster nonce cert = afterwards (first_fault (unread n k roster nonce cert)) (pile_blocks roster cert) 0

-- no place was found
abbrev pub is_none : Option ℕ → Bool
is_none none = true
is_none (some p) = false

module _ (roster nonce : List ℕ) (log position : ℕ) where
  -- the question to member i: "The question is log, position and nonce"
  abbrev pub asked_of : ℕ → Question
  asked_of i = record { keeper = keeper_at roster i; log = log; ask = Lookup position }

  -- "A receipt is good if the verifier accepts it for a LOOKUP by a roster member and its kind is assigned": by member i
  unfoldable pub good_by : List ℕ → ℕ → Bool
  good_by r i = eqb (verdict (key_at roster i) r nonce (asked_of i)).number 0 && eqb (read_attestation r).kind 1

  module _ (cert : List ℕ) where
    -- whether one of the first k receipts is good by member i and shows the pair v
    unfoldable pub shows_in : ℕ → List ℕ → ℕ → Bool
    shows_in zero v i = false
    shows_in (suc k) v i = shows_in k v i || (good_by (receipt_at cert k) i && same (pair_at cert k) v)

    -- the members whose good receipts show the pair v
    unfoldable pub shows : List ℕ → ℕ → Bool
    shows v i = shows_in (receipt_count cert) v i

    -- "A value and digest are certified when .. distinct members have good receipts showing both": k of them
    unfoldable pub certified : ℕ → List ℕ → Bool
    certified k v = leb k (count_below (size roster) (shows v))

    -- a good receipt stands at place p
    unfoldable pub good_at : ℕ → Bool
    good_at p = any_below (size roster) (good_by (receipt_at cert p))

    -- of j places from p on, "the first good receipt in order whose pair is certified"
    unfoldable pub first_of : ℕ → ℕ → ℕ → Option ℕ
    first_of k zero p = none
    first_of k (suc j) p = cond (good_at p && certified k (pair_at cert p)) (some p) (first_of k j (suc p))

    -- the place that a certificate's verdict names
    unfoldable pub first_place : ℕ → Option ℕ
    first_place k = first_of k (receipt_count cert) 0

    -- the values of a verdict: the place, "and the members whose good receipts show that pair"
    unfoldable pub named : Option ℕ → List ℕ
    named none = []
    named (some p) = p ∷ mask_below (size roster) (shows (pair_at cert p)) ∷ []

module _ (n k : ℕ) (roster nonce : List ℕ) (log position : ℕ) (cert : List ℕ) where
  -- "certificate 7, 12, 9, 13", and 17 between 7 and 12
  unfoldable pub certificate_refusal : Option ℕ
  certificate_refusal = first_fault (unread n k roster nonce cert ++ (fault 13 (is_none (first_place roster nonce log position cert k)) ∷ []))

  -- the verdict
  unfoldable pub certificate : Answer
  certificate = answer_with certificate_refusal (named roster nonce log position cert (first_place roster nonce log position cert k))

-- ---- the same as conditions; proofs/Certificates shows that they agree

-- "A certificate is 0 to 32 receipts on end"
pub record IsCertificate (cert : List ℕ) : Type 0 where
  pub whole : length cert % receipt_size ≡ 0
  pub most : receipt_count cert ≤ 32

-- what is asked before the receipts are looked at
pub record Admitted (n k : ℕ) (r x c : List ℕ) : Type 0 where
  pub nonce : length x ≡ 32
  pub profile : Permitted n k
  pub roster : IsRoster n r
  pub receipts : IsCertificate c

module _ (roster nonce : List ℕ) (log position : ℕ) where
  -- "A receipt is good if the verifier accepts it for a LOOKUP by a roster member and its kind is assigned": by member i
  pub record GoodBy (r : List ℕ) (i : ℕ) : Type 0 where
    pub accepted : (verdict (key_at roster i) r nonce (asked_of roster nonce log position i)).number ≡ 0
    pub assigned : (read_attestation r).kind ≡ 1

  -- the same of bytes: they are those of an assigned entry under member i's key that answers the question
  pub record GenuineBy (r : List ℕ) (i : ℕ) : Type 0 where
    pub entry : Attestation
    pub genuine : Genuine (key_at roster i) r nonce (asked_of roster nonce log position i) entry
    pub assigned : entry.kind ≡ 1

-- `Good r i` says that the receipt r is good by member i
module _ (roster cert : List ℕ) (Good : List ℕ → ℕ → Type 0) where
  -- a member has a good receipt at place p
  abbrev pub GoodAt : ℕ → Type 0
  GoodAt p = (i : ℕ) × (i < size roster) × Good (receipt_at cert p) i

  -- member i has a good receipt that shows the pair v: at place q
  pub record Shows (v : List ℕ) (i q : ℕ) : Type 0 where
    pub place : q < receipt_count cert
    pub good : Good (receipt_at cert q) i
    pub pair : pair_at cert q ≡ v

  -- the mask holds "the members whose good receipts show that pair": bit i for roster item i, and no bit beyond the roster
  pub record Members (v : List ℕ) (mask : ℕ) : Type 0 where
    pub bits : (i : ℕ) → i < size roster → mask / 2 ^ i % 2 ≡ 1 ↔ ((q : ℕ) × Shows v i q)
    pub none-else : mask < 2 ^ size roster

  -- "A value and digest are certified when .. distinct members have good receipts showing both": k of them
  abbrev pub Certified : ℕ → List ℕ → Type 0
  Certified k v = (mask : ℕ) × (Members v mask) × (k ≤ ones mask)

  -- "The verdict names the first good receipt in order whose pair is certified, and the members whose good receipts show that
  -- pair", where k members are needed
  pub record Named (k place mask : ℕ) : Type 0 where
    pub within : place < receipt_count cert
    pub good : GoodAt place
    pub members : Members (pair_at cert place) mask
    pub enough : k ≤ ones mask
    pub first : (q : ℕ) → q < place → GoodAt q → Certified k (pair_at cert q) → ⊥

-- "no member contradicts itself" over two certificates of one roster, each with its way to tell good receipts: what a member's good receipts
-- show in the one they show in the other. The same certificate twice: "no member has good receipts with different pairs"
abbrev pub Consistent : List ℕ → (c d : List ℕ) → (Good Good' : List ℕ → ℕ → Type 0) → Type 0
Consistent roster c d Good Good' =
    (i q r : ℕ) → i < size roster → q < receipt_count c → r < receipt_count d
    → Good (receipt_at c q) i → Good' (receipt_at d r) i → pair_at c q ≡ pair_at d r

-- the answer is 0 with a place and a mask exactly when nonce, profile, roster and receipts are as they must be, and those are named
abbrev pub NamesExactly : ℕ → ℕ → List ℕ → List ℕ → ℕ → ℕ → List ℕ → Answer → Type 0
NamesExactly n k roster nonce log position cert given =
    (place mask : ℕ) → given ≡ answer 0 (place ∷ mask ∷ [])
    ↔ ((Admitted n k roster nonce cert) × (Named roster cert (GenuineBy roster nonce log position) k place mask))
