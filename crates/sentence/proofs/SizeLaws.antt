-- "at most 200 bytes": for every number whatever; and what the sentences of our own verdicts take.
use Prim.Native.Nat.{ℕ, zero, suc, ◌+◌, ◌/◌, ◌%◌, ◌^◌, ◌≤◌, ◌<◌}
use mathlib.Core.Path.{◌≡◌, refl, ap, ◌∙◌}
use mathlib.Core.Logic.{◌⊎◌, inl, inr, ◌≢◌}
use mathlib.Core.Bool.{Bool, true, false, cond, ◌&&◌}
use mathlib.Core.List.{List, [], ◌∷◌, ◌++◌}
use native.Mathlib.Omega.{arith}
use native.Mathlib.Decide.{dec_le}
use lib.ListN.{length, length-append}
use lib.Dec.{eqb, leb}
use borrow.Author.Tests.{leb-true}
use Rattle.octets.proofs.Tests.{and_left, and_right, equal_or_not}
use Rattle.decimal.specs.Decimal.{decimal_of, decimal_from, digits_of}
use Rattle.decimal.proofs.Laws.{of_width, length-digits_of}
use Rattle.decimal.proofs.Theorems.{length-decimal}
use Rattle.sentence.specs.Text.{ascii, words, text_of}
use Rattle.sentence.specs.Words.{word_at, kind_words, refusal_words, meanings, meaning_in, reason}
use Rattle.sentence.specs.declared.Subject.{Subject}
use Rattle.sentence.specs.declared.Subject.TheVariants.{Receipt, Certificate}
use Rattle.sentence.specs.Sentence.{members_below, others, agreed, pieces_of, sentence_of}
use Rattle.sentence.specs.declared.Said.{Said}
use Rattle.sentence.specs.declared.Said.TheVariants.{Accepted, Certified, Refused}
use Rattle.sentence.proofs.WordLaws.{kind-short, reason-short}

-- ---- numbers

zero-size : length (decimal_of 0) ≡ 1
unfolding decimal_of decimal_from digits_of
zero-size = refl

-- a number of one digit, and of two
pub one-digit : (n : ℕ) → n < 10 → length (decimal_of n) ≡ 1
one-digit n h = ap length (of_width 1 n (omega arith) (omega arith) (omega arith) (λ q. absurd (omega arith))) ∙ length-digits_of 1 n

pub two_digits : (n : ℕ) → n < 100 → length (decimal_of n) ≤ 2
two_digits n h = go (dec_le 10 n)
  where
    go : Dec (10 ≤ n) → length (decimal_of n) ≤ 2
    go (yes q) = let e = ap length (of_width 2 n (omega arith) (omega arith) (omega arith) (λ p. q)) in omega (arith, length-digits_of 2 n)
    go (no q) = let e = one-digit n (omega arith) in omega arith

-- ---- members

-- what they take, with a comma and a blank each
unfoldable cost : List ℕ → ℕ
cost [] = 0
cost (n ∷ ns) = length (decimal_of n) + 2 + cost ns

-- all numbers below n
unfoldable full : ℕ → ℕ
full zero = 0
full (suc n) = full n + (length (decimal_of n) + 2)

cost-append : (a b : List ℕ) → cost (a ++ b) ≡ cost a + cost b
unfolding cost
cost-append [] b = omega arith
cost-append (n ∷ a) b = let h = cost-append a b in omega arith

cost-members : (n m : ℕ) → cost (members_below n m) ≤ full n
unfolding members_below cost full
cost-members zero m = omega arith
cost-members (suc n) m = let h = cost-members n m in let e = cost-append (members_below n m) (cond (eqb (m / 2 ^ n % 2) 1) (n ∷ []) []) in go (eqb (m / 2 ^ n % 2) 1) e h
  where
    go : (t : Bool) → cost (members_below n m ++ cond t (n ∷ []) []) ≡ cost (members_below n m) + cost (cond t (n ∷ []) []) → cost (members_below n m) ≤ full n → cost (members_below n m ++ cond t (n ∷ []) []) ≤ full n + (length (decimal_of n) + 2)
    go true e h = omega arith
    go false e h = omega arith

full-32 : full 32 ≡ 118
unfolding full decimal_of decimal_from digits_of
full-32 = refl

others-size : (ns : List ℕ) → length (text_of (others ns ++ (words "." ∷ []))) ≡ cost ns + 1
unfolding others text_of ascii cost
others-size [] = refl
others-size (n ∷ ns) = let h = others-size ns in omega (arith, length-append (decimal_of n) (text_of (others ns ++ (words "." ∷ []))))

agreed-size : (ns : List ℕ) → length (text_of (agreed ns ++ (words "." ∷ []))) ≤ cost ns + 19
unfolding agreed others text_of ascii cost
agreed-size [] = omega arith
agreed-size (n ∷ []) = omega (arith, length-append (decimal_of n) (46 ∷ []))
agreed-size (n ∷ m ∷ ns) = omega (arith, others-size (m ∷ ns), length-append (decimal_of n) (text_of (others (m ∷ ns) ++ (words "." ∷ []))))

pub members-size : (m : ℕ) → length (text_of (agreed (members_below 32 m) ++ (words "." ∷ []))) ≤ 137
members-size m = omega (arith, agreed-size (members_below 32 m), cost-members 32 m, full-32)

-- ---- sentences

certified-exact : (p m : ℕ) → length (sentence_of (Certified p m)) ≤ length (decimal_of p) + 175
unfolding sentence_of pieces_of text_of ascii
certified-exact p m =
    let q = members-size m in
    let t = text_of (agreed (members_below 32 m) ++ (words "." ∷ [])) in
    omega (arith, zero-size, length-append (decimal_of 0) (ascii ") on receipt " ++ (decimal_of p ++ t)), length-append (decimal_of p) t)

accepted-exact : (k g n kind r : ℕ)
    → length (sentence_of (Accepted k g n kind r)) ≡ 89 + length (ascii (word_at kind_words kind)) + length (decimal_of k) + length (decimal_of g) + length (decimal_of n) + length (decimal_of kind) + length (decimal_of r)
unfolding sentence_of pieces_of text_of ascii
accepted-exact k g n kind r =
    let t₆ = ascii "." in
    let t₅ = decimal_of r ++ t₆ in
    let t₄ = decimal_of kind ++ (ascii "), reference " ++ t₅) in
    let t₃ = ascii (word_at kind_words kind) ++ (ascii " (kind " ++ t₄) in
    let t₂ = decimal_of n ++ (ascii " is " ++ t₃) in
    let t₁ = decimal_of g ++ (ascii " that position " ++ t₂) in
    let t₀ = decimal_of k ++ (ascii " says of log " ++ t₁) in
    omega (
      arith,
      zero-size,
      length-append (decimal_of 0) (ascii "): keeper " ++ t₀),
      length-append (decimal_of k) (ascii " says of log " ++ t₁),
      length-append (decimal_of g) (ascii " that position " ++ t₂),
      length-append (decimal_of n) (ascii " is " ++ t₃),
      length-append (ascii (word_at kind_words kind)) (ascii " (kind " ++ t₄),
      length-append (decimal_of kind) (ascii "), reference " ++ t₅),
      length-append (decimal_of r) t₆,
    )

refused-exact : (s : Subject) (n : ℕ) → length (sentence_of (Refused s n)) ≤ 32 + length (decimal_of n) + length (ascii (reason s n))
unfolding sentence_of pieces_of text_of ascii
refused-exact Receipt n =
    let w = ascii (reason Receipt n) in
    omega (arith, length-append (decimal_of n) (ascii "): " ++ (w ++ ascii ".")), length-append w (ascii "."))
refused-exact Certificate n =
    let w = ascii (reason Certificate n) in
    omega (arith, length-append (decimal_of n) (ascii "): " ++ (w ++ ascii ".")), length-append w (ascii "."))

-- "one English sentence of at most 200 bytes"
pub sentence-size : (x : Said) → length (sentence_of x) ≤ 200
sentence-size (Accepted k g n kind r) =
    omega (arith, accepted-exact k g n kind r, (kind-short kind).1, length-decimal k, length-decimal g, length-decimal n, length-decimal kind, length-decimal r)
sentence-size (Certified p m) = omega (arith, certified-exact p m, length-decimal p)
sentence-size (Refused s n) = omega (arith, refused-exact s n, (reason-short s n).1, length-decimal n)

-- ---- our own verdicts

-- what the verifier accepts has a log of at most 15 and one of four kinds
pub accepted-size : (k g n kind r : ℕ) → g ≤ 15 → kind ≤ 3 → length (sentence_of (Accepted k g n kind r)) ≤ 162
accepted-size k g n kind r hg hk =
    omega (arith, accepted-exact k g n kind r, (kind-short kind).1, length-decimal k, two_digits g (omega arith), length-decimal n, one-digit kind (omega arith), length-decimal r)

-- a certificate stands on one of 32 receipts
pub certified-size : (p m : ℕ) → p < 32 → length (sentence_of (Certified p m)) ≤ 177
certified-size p m h = omega (arith, certified-exact p m, two_digits p (omega arith))

-- a test that holds below n
unfoldable below : (ℕ → Bool) → ℕ → Bool
below f zero = true
below f (suc n) = f n && below f n

below_at : (f : ℕ → Bool) (n i : ℕ) → below f n ≡ true → i < n → f i ≡ true
unfolding below
below_at f zero i h l = absurd (omega arith)
below_at f (suc n) i h l = go (equal_or_not i n) (below_at f n i (and_right (f n) (below f n) h))
  where
    go : (i ≡ n) ⊎ (i ≡ n → ⊥) → (i < n → f i ≡ true) → f i ≡ true
    go (inl e) ih = ap f e ∙ and_left (f n) (below f n) h
    go (inr e) ih = let q : i ≢ n = e in ih (omega arith)

refused-sizes : (s : Subject) → below (λ n. leb (length (sentence_of (Refused s n))) 80) 256 ≡ true
unfolding below sentence_of pieces_of text_of ascii decimal_of decimal_from digits_of meanings meaning_in refusal_words
refused-sizes Receipt = refl
refused-sizes Certificate = refl

-- a refusal's number is a byte
pub refused-size : (s : Subject) (n : ℕ) → n < 256 → length (sentence_of (Refused s n)) ≤ 80
refused-size s n h = leb-true (length (sentence_of (Refused s n))) 80 (below_at (λ k. leb (length (sentence_of (Refused s k))) 80) 256 n (refused-sizes s) h)
