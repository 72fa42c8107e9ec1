-- The verifier's verdict on a receipt.
use Rattle.std.specs.Prelude.{ℕ, ◌≡◌, ◌↔◌, Bool, not, ◌&&◌, List, [], ◌∷◌, ◌++◌, length, eqb, Result, Ok, Err}
use Rattle.std.proofs.Math.Option.{Option}
use Rattle.octets.specs.Octets.{same}
use Rattle.refusal.specs.Number.{number_of}
use Rattle.refusal.specs.declared.Hashed.{Hashed}
use Rattle.refusal.specs.declared.Refused.{Refused}
use Rattle.refusal.specs.Order.{Fault, fault, first_fault, afterwards}
use Rattle.hmac.specs.Hmac.{hmac}
use Rattle.refusal.specs.Answer.{Answer, answer, answer_with}
use Rattle.receipt.specs.Attestation.{receipt_size, Attestation, LOOKUP, END, read_attestation, attested_in, tag_in, receipt_bytes, Sized}
use Rattle.receipt.specs.Kind.{kind_number}
use Rattle.receipt.specs.Possible.{Admissible, possible}
use Rattle.receipt.specs.declared.Ask.{Ask}
use Rattle.receipt.specs.declared.Ask.TheVariants.{Lookup, End}
use Rattle.receipt.specs.declared.Question.{Question}
use Rattle.receipt.specs.declared.Accepted.{Accepted}

-- the verifier's verdict: what an accepted receipt carries, or a refusal, with the blocks hashed for it
abbrev pub Verdict : Type 0
Verdict = Result (Hashed Accepted) Refused

-- what is carried: keeper, log, position, kind and reference
abbrev pub accepted_values : Accepted → List ℕ
accepted_values a = a.keeper ∷ a.log ∷ a.position ∷ kind_number a.kind ∷ a.reference ∷ []

-- number and values of each verdict
abbrev pub verdict_answer : Verdict → Answer
verdict_answer (Ok done) = answer 0 (accepted_values done.value)
verdict_answer (Err refused) = answer (number_of refused.why) []

-- the blocks hashed for it
abbrev pub verdict_blocks : Verdict → ℕ
verdict_blocks (Ok done) = done.blocks
verdict_blocks (Err refused) = refused.blocks

-- the values of an accepted receipt that attests a
unfoldable pub carried : Attestation → List ℕ
carried a = a.keeper ∷ a.log ∷ a.position ∷ a.kind ∷ a.reference ∷ []

-- "A question names .. LOOKUP or END .. and for LOOKUP the position"
unfoldable pub asks : Ask → Attestation → Bool
asks (Lookup n) a = same a.name LOOKUP && eqb a.position n
asks End a = same a.name END

-- the two questions; their nonce stands beside them
abbrev pub lookup_of : ℕ → ℕ → ℕ → Question
lookup_of keeper log position = record { keeper = keeper; log = log; ask = Lookup position }

abbrev pub end_of : ℕ → ℕ → Question
end_of keeper log = record { keeper = keeper; log = log; ask = End }

-- "A question names keeper, log, LOOKUP or END, nonce, and for LOOKUP the position"
unfoldable pub answers : Attestation → Question → List ℕ → Bool
answers a q nonce = eqb a.keeper q.keeper && (eqb a.log q.log && (same a.nonce nonce && asks q.ask a))

-- "HMAC-SHA-256 of bytes 0–127 under the key follows"
unfoldable pub is_tagged : List ℕ → List ℕ → Bool
is_tagged key r = same (tag_in r) (hmac key (attested_in r))

-- what is asked before the tag is looked at: 7 and 9, "its receipt's length falling under 9"
unfoldable pub unread : List ℕ → List ℕ → List ℕ → List Fault
unread key r nonce =
    fault 7 (not (eqb (length key) 32)) ∷
    fault 7 (not (eqb (length nonce) 32)) ∷
    fault 9 (not (eqb (length r) receipt_size)) ∷
    fault 9 (not (possible (read_attestation r))) ∷ []

-- "verifier 7, 9, 10, 11"
unfoldable pub verify_refusal : List ℕ → List ℕ → List ℕ → Question → Option ℕ
verify_refusal key r nonce q =
    first_fault
    (unread key r nonce ++
    (fault 10 (not (is_tagged key r)) ∷
    fault 11 (not (answers (read_attestation r) q nonce)) ∷ []))

-- document 02 [2], the blocks hashed: "a verification that reaches the tag 6", and "0 .. for whatever is refused before it
-- hashes"
unfoldable pub verify_blocks : List ℕ → List ℕ → List ℕ → ℕ
verify_blocks key r nonce = afterwards (first_fault (unread key r nonce)) 6 0

-- the verdict
unfoldable pub verdict : List ℕ → List ℕ → List ℕ → Question → Answer
verdict key r nonce q = answer_with (verify_refusal key r nonce q) (carried (read_attestation r))

-- `asks` as a condition
abbrev pub Asks : Ask → Attestation → Type 0
Asks (Lookup n) a = (a.name ≡ LOOKUP) × (a.position ≡ n)
Asks End a = a.name ≡ END

-- the bytes r are those of the possible entry a under the key k, and a answers the question q with the nonce b
pub record Genuine (k r b : List ℕ) (q : Question) (a : Attestation) : Type 0 where
  pub key : length k ≡ 32
  pub sized : Sized a
  pub possible : Admissible a
  pub bytes : r ≡ receipt_bytes k a
  pub keeper : a.keeper ≡ q.keeper
  pub log : a.log ≡ q.log
  pub nonce : a.nonce ≡ b
  pub ask : Asks q.ask a

-- demand 2: the answer is 0 with the values vs exactly when r are the bytes of a possible entry under the key that answers the
-- question, and vs are its keeper, log, position, kind and reference
abbrev pub AcceptsExactly : List ℕ → List ℕ → List ℕ → Question → Answer → Type 0
AcceptsExactly key r nonce q given =
    (vs : List ℕ) → given ≡ answer 0 vs ↔ ((a : Attestation) × (Genuine key r nonce q a) × (carried a ≡ vs))
