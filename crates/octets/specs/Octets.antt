-- Lists of bytes: a part, a part replaced, equality as a test, zeros.
use Rattle.std.specs.Prelude.{ℕ, ◌+◌, ◌<◌, Bool, true, false, ◌&&◌, List, [], ◌∷◌, ◌++◌, eqb, length, get_or, take, drop, replicate}

-- every element is below 256
abbrev pub Bytes : List ℕ → Type 0
Bytes l = (i : ℕ) → get_or l i 0 < 256

-- the n elements from at on
abbrev pub part : List ℕ → ℕ → ℕ → List ℕ
part l at n = take n (drop at l)

-- the list with x in the place of as many elements from at on
unfoldable pub splice : List ℕ → ℕ → List ℕ → List ℕ
splice l at x = take at l ++ (x ++ drop (at + length x) l)

-- whether two lists are equal
unfoldable pub same : List ℕ → List ℕ → Bool
same [] [] = true
same [] (y ∷ ys) = false
same (x ∷ xs) [] = false
same (x ∷ xs) (y ∷ ys) = eqb x y && same xs ys

-- n zero bytes
unfoldable pub zeros : ℕ → List ℕ
zeros n = replicate n 0
