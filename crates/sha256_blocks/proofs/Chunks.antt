-- The blocks of a message, as the library cuts them and as the standard numbers them.
use Rattle.std.specs.Simd.{first_chunks}
use Rattle.std.proofs.Common.{◌≡◌, ℕ, zero, suc, ◌+◌, ◌-◌, ◌*◌, ◌<◌, ◌≤◌, List, get_or, take, drop, refl, ap, ap₂, ◌∙◌, arith, drop-drop}
use Rattle.std.proofs.lemmas.List.{take-take, drop-take}
use Rattle.sha256.specs.Sha256.{compress, blocks}

pub chunk-is : (k i : ℕ) (s d : List ℕ) → i < k → get_or (first_chunks 64 k s) i d ≡ take 64 (drop (i * 64) s)
chunk-is zero i s d h = absurd (omega arith)
chunk-is (suc k) zero s d h = refl
chunk-is (suc k) (suc i) s d h =
    let e : 64 + i * 64 ≡ suc i * 64 = omega arith in
    chunk-is k i (drop 64 s) d (omega arith) ∙ ap (take 64) (drop-drop (i * 64) 64 s ∙ ap (λ (n : ℕ). drop n s) e)

-- the first k blocks lie within the first n
pub blocks-within : (k n : ℕ) (h s : List ℕ) → k ≤ n → blocks k h (take (n * 64) s) ≡ blocks k h s
unfolding blocks
blocks-within zero n h s l = refl
blocks-within (suc k) n h s l =
    let m : ℕ = n * 64 - k * 64 in
    let e : n * 64 ≡ k * 64 + m = omega arith in
    let front : drop (k * 64) (take (n * 64) s) ≡ take m (drop (k * 64) s) = ap (λ (j : ℕ). drop (k * 64) (take j s)) e ∙ drop-take (k * 64) m s in
    ap₂ compress (blocks-within k n h s (omega arith)) (ap (take 64) front ∙ take-take 64 m (drop (k * 64) s) (omega arith))
