-- Zero bytes: how many there are, and what the loop of `is_zero` keeps.
use Prim.Native.Nat.{ℕ, ◌+◌, ◌≤◌, ◌<◌}
use mathlib.Core.Path.{◌≡◌, sym, ap, ◌∙◌}
use mathlib.Core.List.{List}
use native.Mathlib.Omega.{arith}
use lib.Bits.{bit_or, bit_xor, xor_zero_r}
use lib.Dec.{eqb}
use lib.ListN.{length, get_or, take, get_or-replicate, length-replicate}
use Rattle.octets.specs.Octets.{same, zeros}
use Rattle.octets.proofs.Same.{same_more, same-all}

pub length-zeros : (n : ℕ) → length (zeros n) ≡ n
unfolding zeros
length-zeros n = length-replicate n 0

-- the loop over bytes: one more
pub zero_more : (s : List ℕ) (i d : ℕ) → i < length s → eqb d 0 ≡ same (take i s) (take i (zeros (length s)))
    → eqb (bit_or d (get_or s i 0)) 0 ≡ same (take (i + 1) s) (take (i + 1) (zeros (length s)))
unfolding zeros
zero_more s i d h e =
    let z : bit_xor (get_or s i 0) (get_or (zeros (length s)) i 0) ≡ get_or s i 0 = ap (bit_xor (get_or s i 0)) (get_or-replicate (length s) i 0 0 h) ∙ xor_zero_r (get_or s i 0) in
    let l : i < length (zeros (length s)) = omega (arith, length-zeros (length s)) in
    ap (λ (x : ℕ). eqb (bit_or d x) 0) (sym z) ∙ same_more s (zeros (length s)) i d h l e

pub zero-all : (s : List ℕ) (i : ℕ) → length s ≤ i → same (take i s) (take i (zeros (length s))) ≡ same s (zeros (length s))
zero-all s i h = same-all s (zeros (length s)) i h (omega (arith, length-zeros (length s)))
