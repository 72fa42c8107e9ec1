-- Lists of bytes: a splice at a seam, the bytes of words, and the bytes of a hash written word by word.
--
use mathlib.Core.Path.{◌≡◌, refl, sym, ap, ap₂, ◌∙◌}
use Prim.Native.Nat.{ℕ, suc, ◌+◌, ◌*◌, ◌<◌}
use native.Mathlib.Omega.{arith}
use mathlib.Core.List.{List, [], ◌∷◌, ◌++◌, append_assoc, append-nil}
use lib.ListN.{length, get_or, take, drop, length-append}
use lib.Seq.{take_at, drop_at, drop-drop, take-suc, length-take-le}
use Rattle.bigendian.specs.BigEndian.{be}
use Rattle.octets.specs.Octets.{splice}
use Rattle.octets.proofs.Parts.{splice_nested}
use Rattle.bigendian.proofs.Laws.{length-be}
use Rattle.sha256.specs.Sha256.{bytes}

-- a splice where two lists meet
pub splice_seam : (p q vs : List ℕ) (n : ℕ) → length p ≡ n → splice (p ++ q) n vs ≡ p ++ vs ++ drop (length vs) q
unfolding splice
splice_seam p q vs n e =
    splice_nested (p ++ q) n vs
    ∙ ap₂ (λ (a b : List ℕ). a ++ vs ++ b) (take_at p q n e)
    (sym (drop-drop (length vs) n (p ++ q)) ∙ ap (drop (length vs)) (drop_at p q n e))

pub bytes-append : (a b : List ℕ) → bytes (a ++ b) ≡ bytes a ++ bytes b
unfolding bytes
bytes-append [] b = refl
bytes-append (x ∷ a) b = ap (λ (l : List ℕ). be 4 x ++ l) (bytes-append a b) ∙ sym (append_assoc (be 4 x) (bytes a) (bytes b))

pub length-bytes : (ws : List ℕ) → length (bytes ws) ≡ length ws * 4
unfolding bytes
length-bytes [] = refl
length-bytes (w ∷ ws) = rw length-append (omega (arith, length-be 4 w, length-bytes ws))

-- one more word written
pub word-written : (h z : List ℕ) (i : ℕ) → i < length h
    → splice (bytes (take i h) ++ drop (i * 4) z) (i * 4) (be 4 (get_or h i 0)) ≡ bytes (take (suc i) h) ++ drop (suc i * 4) z
unfolding bytes
word-written h z i k =
    let x : ℕ = get_or h i 0 in
    let size : length (bytes (take i h)) ≡ i * 4 = length-bytes (take i h) ∙ ap (λ (n : ℕ). n * 4) (length-take-le i h (omega arith)) in
    let four : i * 4 + length (be 4 x) ≡ suc i * 4 = omega (arith, length-be 4 x) in
    splice_seam (bytes (take i h)) (drop (i * 4) z) (be 4 x) (i * 4) size
    ∙ ap₂ (λ (a b : List ℕ). a ++ b)
    (ap (λ (l : List ℕ). bytes (take i h) ++ l) (sym (append-nil (be 4 x))) ∙ sym (bytes-append (take i h) (x ∷ [])) ∙ ap bytes (sym (take-suc h i 0 k)))
    (drop-drop (length (be 4 x)) (i * 4) z ∙ ap (λ (n : ℕ). drop n z) four)
