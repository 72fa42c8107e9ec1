-- When `hash` is refused: document 01's number 7.
use Rattle.std.specs.Prelude.{ℕ, ◌^◌, Bool, not, List, [], ◌∷◌, length, eqb, leb}
use Rattle.std.proofs.Math.Option.{Option}
use Rattle.refusal.specs.Order.{fault, first_fault}

-- a message of n bytes is "longer than FIPS 180-4 allows": it has 2^64 bits or more
abbrev pub too_long : ℕ → Bool
too_long n = leb (2 ^ 61) n

-- of a message m and the buffer for its digest
unfoldable pub hash_refusal : List ℕ → List ℕ → Option ℕ
hash_refusal m out = first_fault (fault 7 (not (eqb (length out) 32)) ∷ fault 7 (too_long (length m)) ∷ [])
