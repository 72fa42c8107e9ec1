-- The words of a kind and of a refusal: each has a byte, and none a digit.
use Prim.Native.Nat.{ℕ, zero, suc, ◌≤◌}
use Prim.Native.String.{String}
use mathlib.Core.Path.{◌≡◌, refl}
use mathlib.Core.Bool.{Bool, true, false, cond, ◌&&◌}
use mathlib.Core.List.{List, [], ◌∷◌}
use lib.ListN.{length}
use lib.Dec.{eqb, leb}
use borrow.Author.Tests.{leb-true}
use Rattle.octets.proofs.Tests.{and_left, and_right}
use Rattle.sentence.specs.Text.{ascii}
use Rattle.sentence.specs.Words.{word_at, kind_words, refusal_words, Meaning, meanings, meaning_in, reason}
use Rattle.sentence.specs.declared.Subject.{Subject}
use Rattle.sentence.specs.declared.Subject.TheVariants.{Receipt, Certificate}
use Rattle.sentence.proofs.TextLaws.{wordless, is_words}

-- a word of at most k bytes
abbrev short : ℕ → String → Bool
short k w = is_words (ascii w) && leb (length (ascii w)) k

abbrev pub Short : ℕ → String → Type 0
Short k w = (is_words (ascii w) ≡ true) × (length (ascii w) ≤ k)

is-short : (k : ℕ) (w : String) → short k w ≡ true → Short k w
is-short k w h =
    (and_left (is_words (ascii w)) (leb (length (ascii w)) k) h, leb-true (length (ascii w)) k (and_right (is_words (ascii w)) (leb (length (ascii w)) k) h))

-- each word of a table, and the word beyond it
unfoldable all_short : ℕ → List String → Bool
all_short k [] = short k "unknown"
all_short k (w ∷ ws) = short k w && all_short k ws

word-at : (k : ℕ) (ws : List String) → all_short k ws ≡ true → (n : ℕ) → Short k (word_at ws n)
unfolding all_short
word-at k [] h n = is-short k "unknown" h
word-at k (w ∷ ws) h zero = is-short k w (and_left (short k w) (all_short k ws) h)
word-at k (w ∷ ws) h (suc n) = word-at k ws (and_right (short k w) (all_short k ws) h) n

kinds-short : all_short 10 kind_words ≡ true
unfolding all_short kind_words ascii wordless
kinds-short = refl

refusals-short : all_short 47 refusal_words ≡ true
unfolding all_short refusal_words ascii wordless
refusals-short = refl

pub kind-short : (kind : ℕ) → Short 10 (word_at kind_words kind)
kind-short kind = word-at 10 kind_words kinds-short kind

pub refusal-short : (n : ℕ) → Short 47 (word_at refusal_words n)
refusal-short n = word-at 47 refusal_words refusals-short n

-- each meaning
unfoldable all_mean : List Meaning → Bool
all_mean [] = true
all_mean (m ∷ ms) = short 47 m.words && all_mean ms

meaning-in : (ms : List Meaning) → all_mean ms ≡ true → (n : ℕ) → Short 47 (meaning_in ms n)
unfolding all_mean meaning_in
meaning-in [] h n = refusal-short n
meaning-in (m ∷ ms) h n = go (eqb n m.number) (meaning-in ms (and_right (short 47 m.words) (all_mean ms) h) n)
  where
    go : (t : Bool) → Short 47 (meaning_in ms n) → Short 47 (cond t m.words (meaning_in ms n))
    go true q = is-short 47 m.words (and_left (short 47 m.words) (all_mean ms) h)
    go false q = q

means-all : (s : Subject) → all_mean (meanings s) ≡ true
unfolding all_mean meanings ascii wordless
means-all Receipt = refl
means-all Certificate = refl

pub reason-short : (s : Subject) (n : ℕ) → Short 47 (reason s n)
reason-short s n = meaning-in (meanings s) (means-all s) n
