-- The words of a kind and of a refusal. No word has a digit, so that a sentence shows the verdict's numbers and no other.
use Rattle.std.specs.Prelude.{ℕ, zero, suc, cond, List, [], ◌∷◌, eqb}
use Prim.Native.String.{String}
use Rattle.sentence.specs.declared.Subject.{Subject}
use Rattle.sentence.specs.declared.Subject.TheVariants.{Receipt, Certificate}

-- the word at a place of a table of words
abbrev pub word_at : List String → ℕ → String
word_at [] n = "unknown"
word_at (w ∷ ws) zero = w
word_at (w ∷ ws) (suc n) = word_at ws n

-- a receipt's kinds, by their numbers
unfoldable pub kind_words : List String
kind_words = "unassigned" ∷ "assigned" ∷ "skipped" ∷ "forgotten" ∷ []

-- the papers' words for the numbers returned. 0 refuses nothing, and 6 "is not used again" (document 02 [6])
unfoldable pub refusal_words : List String
refusal_words =
    "unknown" ∷ "torn" ∷ "no log" ∷ "position" ∷ "spent" ∷ "full" ∷ "unknown" ∷ "length" ∷ "counts" ∷ "no receipt" ∷
    "tag" ∷ "other question" ∷ "roster" ∷ "too few" ∷ "no run" ∷ "line" ∷ "promised" ∷ "profile" ∷ "survey" ∷ "seed" ∷ []

-- a refusal's number, and what it means of a subject
pub record Meaning : Type 0 where
  pub number : ℕ
  pub words : String

abbrev pub means : ℕ → String → Meaning
means n w = record { number = n; words = w }

-- the refusals of the verifier, and of a certificate
unfoldable pub meanings : Subject → List Meaning
meanings Receipt =
    means 7 "the key or nonce has a wrong length" ∷
    means 9 "it is not a possible receipt" ∷
    means 10 "its tag is wrong" ∷
    means 11 "it answers another question" ∷ []
meanings Certificate =
    means 7 "the nonce has a wrong length" ∷
    means 17 "the profile is not permitted" ∷
    means 12 "the roster is not valid" ∷
    means 9 "it is not a pile of whole receipts, or too long" ∷
    means 13 "too few members agree" ∷ []

-- the meaning of a number; a number that the call never gives keeps its paper's word
unfoldable pub meaning_in : List Meaning → ℕ → String
meaning_in [] n = word_at refusal_words n
meaning_in (m ∷ ms) n = cond (eqb n m.number) m.words (meaning_in ms n)

-- why a receipt or a certificate is refused
abbrev pub reason : Subject → ℕ → String
reason s n = meaning_in (meanings s) n
