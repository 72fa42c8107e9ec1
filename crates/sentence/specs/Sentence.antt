-- Document 02 [9]: "Write each verifier and certificate verdict as one English sentence of at most 200 bytes". The wording is in docs/SENTENCES.md.
use Rattle.std.specs.Prelude.{ℕ, zero, suc, ◌-◌, ◌/◌, ◌%◌, ◌^◌, ◌<◌, cond, not, List, [], ◌∷◌, ◌++◌, eqb, length, get_or}
use Rattle.std.proofs.Math.Option.{Option}
use Prim.Native.String.{String}
use Rattle.octets.specs.Octets.{zeros}
use Rattle.refusal.specs.Order.{fault, first_fault}
use Rattle.refusal.specs.Answer.{Answer}
use Rattle.sentence.specs.Text.{Piece, words, number, text_of}
use Rattle.sentence.specs.Words.{word_at, kind_words, reason}
use Rattle.sentence.specs.declared.Subject.{Subject}
use Rattle.sentence.specs.declared.Said.{Said}
use Rattle.sentence.specs.declared.Said.TheVariants.{Accepted, Certified, Refused}
use Rattle.sentence.specs.declared.Subject.TheVariants.{Receipt, Certificate}

-- what an answer of the verifier says, and one on a certificate: 0 with its values, or a refusal's number alone
abbrev pub receipt_said : Answer → Said
receipt_said a =
    cond (eqb a.number 0)
    (Accepted (get_or a.values 0 0) (get_or a.values 1 0) (get_or a.values 2 0) (get_or a.values 3 0) (get_or a.values 4 0))
    (Refused Receipt a.number)

abbrev pub station_said : Answer → Said
station_said a = cond (eqb a.number 0) (Certified (get_or a.values 0 0) (get_or a.values 1 0)) (Refused Certificate a.number)

-- the members of a mask below n, rising: "by places in the roster counted from 0"
unfoldable pub members_below : ℕ → ℕ → List ℕ
members_below zero mask = []
members_below (suc n) mask = members_below n mask ++ cond (eqb (mask / 2 ^ n % 2) 1) (n ∷ []) []

-- numbers, with a comma before each
unfoldable pub others : List ℕ → List Piece
others [] = []
others (n ∷ ns) = words ", " ∷ number n ∷ others ns

-- the member list; no certificate stands with an empty one
unfoldable pub agreed : List ℕ → List Piece
agreed [] = words ", agreed by none" ∷ []
agreed (n ∷ []) = words ", agreed by member " ∷ number n ∷ []
agreed (n ∷ m ∷ ns) = words ", agreed by members " ∷ number n ∷ others (m ∷ ns)

abbrev pub beginning : Subject → String
beginning Receipt = "The receipt is refused ("
beginning Certificate = "The certificate is refused ("

-- the sentence's words and numbers
unfoldable pub pieces_of : Said → List Piece
pieces_of (Accepted keeper log position kind reference) =
    words "The receipt is accepted (" ∷ number 0 ∷ words "): keeper " ∷ number keeper ∷ words " says of log " ∷ number log ∷
    words " that position " ∷ number position ∷ words " is " ∷ words (word_at kind_words kind) ∷ words " (kind " ∷ number kind ∷
    words "), reference " ∷ number reference ∷ words "." ∷ []
pieces_of (Certified place mask) =
    words "The certificate stands (" ∷ number 0 ∷ words ") on receipt " ∷ number place ∷ (agreed (members_below 32 mask) ++ (words "." ∷ []))
pieces_of (Refused s n) = words (beginning s) ∷ number n ∷ words "): " ∷ words (reason s n) ∷ words "." ∷ []

unfoldable pub sentence_of : Said → List ℕ
sentence_of x = text_of (pieces_of x)

-- "every number of the verdict .. but the blocks"
abbrev pub numbers_said : Said → List ℕ
numbers_said (Accepted keeper log position kind reference) = 0 ∷ keeper ∷ log ∷ position ∷ kind ∷ reference ∷ []
numbers_said (Certified place mask) = 0 ∷ place ∷ members_below 32 mask
numbers_said (Refused s n) = n ∷ []

-- the numbers fit their types, and a refusal's is not 0
abbrev pub Fits : Said → Type 0
Fits (Accepted keeper log position kind reference) = (keeper < 2 ^ 64) × (log < 2 ^ 64) × (position < 2 ^ 64) × (kind < 2 ^ 64) × (reference < 2 ^ 64)
Fits (Certified place mask) = (place < 2 ^ 64) × (mask < 2 ^ 32)
Fits (Refused s n) = (0 < n) × (n < 2 ^ 64)

-- "A buffer that isn't 200 bytes gives 7"
unfoldable pub sentence_refusal : List ℕ → Option ℕ
sentence_refusal out = first_fault (fault 7 (not (eqb (length out) 200)) ∷ [])

-- "bytes after the sentence become zero"
unfoldable pub padded : List ℕ → List ℕ
padded s = s ++ zeros (200 - length s)
