-- Document 01: "Numbers are decimal below 2^64 without leading zeros."
use Rattle.std.specs.Prelude.{ℕ, zero, suc, ◌+◌, ◌*◌, ◌-◌, ◌/◌, ◌%◌, ◌^◌, Bool, true, false, cond, ◌&&◌, List, [], ◌∷◌, Option, Some, None, leb, ltb, eqb}

-- k digits of a number below 10 ^ k, in ASCII, the most significant first
unfoldable pub digits_of : ℕ → ℕ → List ℕ
digits_of zero n = []
digits_of (suc k) n = (48 + n / 10 ^ k) ∷ digits_of k (n % 10 ^ k)

-- the fewest digits of n, at most k + 1, at least one
unfoldable pub decimal_from : ℕ → ℕ → List ℕ
decimal_from zero n = digits_of 1 n
decimal_from (suc k) n = cond (ltb n (10 ^ suc k)) (decimal_from k n) (digits_of (suc (suc k)) n)

-- the decimal of a number below 2^64, which has at most 20 digits
unfoldable pub decimal_of : ℕ → List ℕ
decimal_of n = decimal_from 19 n

-- '0' to '9'
abbrev pub is_digit : ℕ → Bool
is_digit b = leb 48 b && leb b 57

-- nothing else
unfoldable pub all_digits : List ℕ → Bool
all_digits [] = true
all_digits (b ∷ l) = is_digit b && all_digits l

-- the number that digits make, after digits that make v
unfoldable pub value_after : ℕ → List ℕ → ℕ
value_after v [] = v
value_after v (b ∷ l) = value_after (v * 10 + (b - 48)) l

-- the number that digits make
abbrev pub value_of : List ℕ → ℕ
value_of l = value_after 0 l

-- at least one byte, and no '0' before another
abbrev pub starts_well : List ℕ → Bool
starts_well [] = false
starts_well (b ∷ []) = true
starts_well (b ∷ c ∷ l) = cond (eqb b 48) false true

-- digits, no leading zeros, below 2^64
abbrev pub is_number : List ℕ → Bool
is_number l = starts_well l && (all_digits l && ltb (value_of l) (2 ^ 64))

-- what a field of a script line says
unfoldable pub number_of : List ℕ → Option ℕ
number_of l = cond (is_number l) (Some (value_of l)) None

-- the number v with the digit b after it
unfoldable pub more_of : ℕ → ℕ → Option ℕ
more_of v b = cond (is_digit b && ltb (v * 10 + (b - 48)) (2 ^ 64)) (Some (v * 10 + (b - 48))) None

-- digit after digit, after digits that make v
unfoldable pub read_after : ℕ → List ℕ → Option ℕ
read_after v [] = Some v
read_after v (b ∷ l) = cond (is_digit b && ltb (v * 10 + (b - 48)) (2 ^ 64)) (read_after (v * 10 + (b - 48)) l) None
