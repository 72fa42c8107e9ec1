-- Document 01: "fields parted by commas, no quoting".
use Rattle.std.specs.Prelude.{ℕ, cond, List, [], ◌∷◌, Option, Some, None, eqb}
use Rattle.decimal.specs.Decimal.{number_of}

-- the same with a byte more before the first field
abbrev pub on_first : ℕ → List (List ℕ) → List (List ℕ)
on_first b [] = (b ∷ []) ∷ []
on_first b (f ∷ fs) = (b ∷ f) ∷ fs

-- the parts between marks: one more than there are marks
unfoldable pub parts_of : ℕ → List ℕ → List (List ℕ)
parts_of mark [] = [] ∷ []
parts_of mark (b ∷ l) = cond (eqb b mark) ([] ∷ parts_of mark l) (on_first b (parts_of mark l))

-- the fields of a line: one more than it has commas
abbrev pub fields_of : List ℕ → List (List ℕ)
fields_of l = parts_of 44 l

-- a number before others, if all are numbers
abbrev pub before : Option ℕ → Option (List ℕ) → Option (List ℕ)
before (Some v) (Some ns) = Some (v ∷ ns)
before (Some v) None = None
before None ns = None

-- the numbers that fields say, if each says one
unfoldable pub numbers_of : List (List ℕ) → Option (List ℕ)
numbers_of [] = Some []
numbers_of (f ∷ fs) = before (number_of f) (numbers_of fs)

-- the bytes before the first mark
unfoldable pub up_to : ℕ → List ℕ → List ℕ
up_to mark [] = []
up_to mark (b ∷ l) = cond (eqb b mark) [] (b ∷ up_to mark l)
