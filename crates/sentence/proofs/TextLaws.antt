-- The numbers that stand in a text of words and numbers are its numbers.
use Prim.Native.Nat.{ℕ, ◌+◌, ◌*◌, ◌-◌, ◌^◌, ◌≤◌, ◌<◌}
use mathlib.Core.Path.{◌≡◌, refl, ap, ◌∙◌}
use mathlib.Core.Bool.{Bool, true, false, cond, not, ◌&&◌}
use mathlib.Core.List.{List, [], ◌∷◌, ◌++◌}
use mathlib.Core.Option.{none, some}
use native.Mathlib.Omega.{arith}
use lib.Dec.{leb}
use borrow.Author.Tests.{leb-true}
use Rattle.octets.proofs.Tests.{and_left, and_right}
use Rattle.decimal.specs.Decimal.{decimal_of, is_digit, all_digits, value_after, value_of, starts_well}
use Rattle.decimal.proofs.Theorems.{decimal-value, decimal-digits, decimal_starts}
use Rattle.sentence.specs.Text.{ascii, Piece, words, number, text_of, numbers_from, numbers_in}

-- a printed byte that is no digit
abbrev pub plain : ℕ → Bool
plain b = not (is_digit b) && leb 32 b

-- no byte is a digit; and there is a byte
unfoldable pub wordless : List ℕ → Bool
wordless [] = true
wordless (b ∷ l) = plain b && wordless l

no_digit : (b : ℕ) (l : List ℕ) → wordless (b ∷ l) ≡ true → not (is_digit b) ≡ true
unfolding wordless
no_digit b l h = and_left (not (is_digit b)) (leb 32 b) (and_left (plain b) (wordless l) h)

abbrev pub is_words : List ℕ → Bool
is_words [] = false
is_words (b ∷ l) = wordless (b ∷ l)

skip-words : (w t : List ℕ) → wordless w ≡ true → numbers_from none (w ++ t) ≡ numbers_from none t
unfolding numbers_from wordless
skip-words [] t h = refl
skip-words (b ∷ w) t h = go (is_digit b) (no_digit b w h) (skip-words w t (and_right (plain b) (wordless w) h))
  where
    go : (x : Bool) → not x ≡ true → numbers_from none (w ++ t) ≡ numbers_from none t → cond x (numbers_from (some (b - 48)) (w ++ t)) (numbers_from none (w ++ t)) ≡ numbers_from none t
    go true e q = absurd (let z : ◌≡◌ {A = ℕ} 0 1 = cc in omega arith)
    go false e q = q

end-number : (v : ℕ) (w t : List ℕ) → is_words w ≡ true → numbers_from (some v) (w ++ t) ≡ v ∷ numbers_from none t
unfolding numbers_from wordless
end-number v [] t h = absurd (let z : ◌≡◌ {A = ℕ} 0 1 = cc in omega arith)
end-number v (b ∷ w) t h = go (is_digit b) (no_digit b w h) (skip-words w t (and_right (plain b) (wordless w) h))
  where
    go : (x : Bool) → not x ≡ true → numbers_from none (w ++ t) ≡ numbers_from none t → cond x (numbers_from (some (v * 10 + (b - 48))) (w ++ t)) (v ∷ numbers_from none (w ++ t)) ≡ v ∷ numbers_from none t
    go true e q = absurd (let z : ◌≡◌ {A = ℕ} 0 1 = cc in omega arith)
    go false e q = ap {B = List ℕ} (λ (l : List ℕ). v ∷ l) q

run-digits : (v : ℕ) (d t : List ℕ) → all_digits d ≡ true → numbers_from (some v) (d ++ t) ≡ numbers_from (some (value_after v d)) t
unfolding numbers_from all_digits value_after
run-digits v [] t h = refl
run-digits v (b ∷ d) t h =
    let x : is_digit b ≡ true = and_left (is_digit b) (all_digits d) h in
    ap (λ (y : Bool). cond y (numbers_from (some (v * 10 + (b - 48))) (d ++ t)) (v ∷ numbers_from none (d ++ t))) x ∙ run-digits (v * 10 + (b - 48)) d t (and_right (is_digit b) (all_digits d) h)

first-digits : (d t : List ℕ) → all_digits d ≡ true → starts_well d ≡ true → numbers_from none (d ++ t) ≡ numbers_from (some (value_of d)) t
unfolding numbers_from all_digits value_after
first-digits [] t h s = absurd (let z : ◌≡◌ {A = ℕ} 0 1 = cc in omega arith)
first-digits (b ∷ d) t h s =
    let x : is_digit b ≡ true = and_left (is_digit b) (all_digits d) h in
    let z : b - 48 ≡ 0 * 10 + (b - 48) = omega arith in
    ap (λ (y : Bool). cond y (numbers_from (some (b - 48)) (d ++ t)) (numbers_from none (d ++ t))) x ∙ run-digits (b - 48) d t (and_right (is_digit b) (all_digits d) h) ∙ ap (λ (n : ℕ). numbers_from (some (value_after n d)) t) z

whole-number : (n : ℕ) → n < 2 ^ 64 → (t : List ℕ) → numbers_from none (decimal_of n ++ t) ≡ numbers_from (some n) t
whole-number n h t = first-digits (decimal_of n) t (decimal-digits n h) (decimal_starts n h) ∙ ap (λ (v : ℕ). numbers_from (some v) t) (decimal-value n h)

-- ---- pieces

unfoldable pub numbers_of : List Piece → List ℕ
numbers_of [] = []
numbers_of (words s ∷ ps) = numbers_of ps
numbers_of (number n ∷ ps) = n ∷ numbers_of ps

-- words between numbers; open: the last piece was a number
unfoldable pub parted : Bool → List Piece → Bool
parted x [] = true
parted x (words s ∷ ps) = is_words (ascii s) && parted false ps
parted true (number n ∷ ps) = false
parted false (number n ∷ ps) = parted true ps

abbrev pub Small : List Piece → Type 0
Small [] = Unit {0}
Small (words s ∷ ps) = Small ps
Small (number n ∷ ps) = (n < 2 ^ 64) × Small ps

is_wordless : (w : List ℕ) → is_words w ≡ true → wordless w ≡ true
is_wordless [] h = absurd (let z : ◌≡◌ {A = ℕ} 0 1 = cc in omega arith)
is_wordless (b ∷ l) h = h

mutual
  unfolding parted text_of numbers_of numbers_from

  pub shown : (ps : List Piece) → parted false ps ≡ true → Small ps → numbers_in (text_of ps) ≡ numbers_of ps
  shown [] h s = refl
  shown (words w ∷ ps) h s =
      skip-words (ascii w) (text_of ps) (is_wordless (ascii w) (and_left (is_words (ascii w)) (parted false ps) h)) ∙ shown ps (and_right (is_words (ascii w)) (parted false ps) h) s
  shown (number n ∷ ps) h s = whole-number n s.0 (text_of ps) ∙ shown-open n ps h s.1

  shown-open : (v : ℕ) (ps : List Piece) → parted true ps ≡ true → Small ps → numbers_from (some v) (text_of ps) ≡ v ∷ numbers_of ps
  shown-open v [] h s = refl
  shown-open v (words w ∷ ps) h s =
      end-number v (ascii w) (text_of ps) (and_left (is_words (ascii w)) (parted false ps) h) ∙ ap {B = List ℕ} (λ (l : List ℕ). v ∷ l) (shown ps (and_right (is_words (ascii w)) (parted false ps) h) s)
  shown-open v (number n ∷ ps) h s = absurd (let z : ◌≡◌ {A = ℕ} 0 1 = cc in omega arith)

-- ---- every byte is printed, so none is 0

unfoldable pub Printed : List ℕ → Type 0
Printed [] = Unit {0}
Printed (b ∷ l) = (32 ≤ b) × Printed l

printed-append : (a b : List ℕ) → Printed a → Printed b → Printed (a ++ b)
unfolding Printed
printed-append [] b p q = q
printed-append (x ∷ a) b p q = (p.0, printed-append a b p.1 q)

printed-digits : (l : List ℕ) → all_digits l ≡ true → Printed l
unfolding Printed all_digits
printed-digits [] h = tt
printed-digits (b ∷ l) h =
    let d = leb-true 48 b (and_left (leb 48 b) (leb b 57) (and_left (is_digit b) (all_digits l) h)) in
    (omega arith, printed-digits l (and_right (is_digit b) (all_digits l) h))

printed-words : (l : List ℕ) → wordless l ≡ true → Printed l
unfolding Printed wordless
printed-words [] h = tt
printed-words (b ∷ l) h =
    (leb-true 32 b (and_right (not (is_digit b)) (leb 32 b) (and_left (plain b) (wordless l) h)), printed-words l (and_right (plain b) (wordless l) h))

pub text_printed : (x : Bool) (ps : List Piece) → parted x ps ≡ true → Small ps → Printed (text_of ps)
unfolding parted text_of Printed
text_printed x [] h s = tt
text_printed x (words w ∷ ps) h s =
    printed-append (ascii w) (text_of ps) (printed-words (ascii w) (is_wordless (ascii w) (and_left (is_words (ascii w)) (parted false ps) h))) (text_printed false ps (and_right (is_words (ascii w)) (parted false ps) h) s)
text_printed true (number n ∷ ps) h s = absurd (let z : ◌≡◌ {A = ℕ} 0 1 = cc in omega arith)
text_printed false (number n ∷ ps) h s =
    printed-append (decimal_of n) (text_of ps) (printed-digits (decimal_of n) (decimal-digits n s.0)) (text_printed true ps h s.1)
