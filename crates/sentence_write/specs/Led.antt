-- The member list as a loop writes it: each member with what leads to it. proofs/LedLaws shows that it is `agreed`.
use Rattle.std.specs.Prelude.{ℕ, zero, suc, cond, List, [], ◌∷◌, eqb}
use Prim.Native.String.{String}
use Rattle.sentence.specs.Text.{Piece, words, number, text_of}
use Rattle.sentence.specs.Sentence.{members_below}

-- what stands before a member: k members stand before it, and there are `all`
unfoldable pub lead : ℕ → ℕ → String
lead all zero = cond (eqb all 1) ", agreed by member " ", agreed by members "
lead all (suc k) = ", "

unfoldable pub led : ℕ → ℕ → List ℕ → List Piece
led all k [] = []
led all k (n ∷ ns) = words (lead all k) ∷ number n ∷ led all (suc k) ns

-- the members below i
unfoldable pub list_text : ℕ → ℕ → ℕ → List ℕ
list_text all i mask = text_of (led all 0 (members_below i mask))
