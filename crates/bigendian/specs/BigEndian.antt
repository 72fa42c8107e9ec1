-- Big-endian numbers: the bytes of a number at a width, most significant first, and the number that bytes make.
use Rattle.std.specs.Prelude.{ℕ, zero, suc, ◌+◌, ◌*◌, ◌/◌, ◌%◌, ◌^◌, List, [], ◌∷◌, ◌++◌, length}
use Rattle.octets.specs.Octets.{zeros}

-- the low w bytes of n, most significant first
unfoldable pub be : ℕ → ℕ → List ℕ
be zero n = []
be (suc w) n = n / 256 ^ w % 256 ∷ be w n

-- the number that the bytes make, most significant first
unfoldable pub unbe : List ℕ → ℕ
unbe [] = 0
unbe (b ∷ bs) = b * 256 ^ length bs + unbe bs

-- "A value or digest is a number placed in the last 8 of 32 bytes, the rest zero."
unfoldable pub placed : ℕ → List ℕ
placed n = zeros 24 ++ be 8 n
