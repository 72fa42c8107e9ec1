-- `same` agrees with equality; and what the loop of `equal` keeps.
use mathlib.Core.Path.{◌≡◌, refl, sym, ap, ap₂, ◌∙◌}
use Prim.Native.Nat.{ℕ, zero, suc, ◌+◌, ◌≤◌, ◌<◌}
use native.Mathlib.Nat.{not-suc-le-zero}
use native.Mathlib.Numerals.{add-one}
use native.Mathlib.Omega.{arith}
use mathlib.Core.Bool.{Bool, true, false, ◌&&◌}
use mathlib.Core.List.{List, [], ◌∷◌}
use mathlib.Core.Logic.{⊎_elim}
use lib.Bits.{bit_or, bit_xor, or_add_and, xor_add_and, and_le_l, and_le_r, xor_self, or_zero_l}
use lib.Dec.{eqb}
use lib.ListN.{length, get_or, take}
use lib.Seq.{take_all}
use borrow.Author.Tests.{eqb-true, eq-eqb, ne_eqb}
use Rattle.octets.specs.Octets.{same}
use Rattle.octets.proofs.Tests.{and_left, and_right, and_both, and-true, and-false, and_assoc, equal_or_not}

pub same-eq : (a b : List ℕ) → same a b ≡ true → a ≡ b
unfolding same
same-eq [] [] h = refl
same-eq [] (y ∷ ys) h = let z : ◌≡◌ {A = ℕ} 0 1 = cc in absurd (omega arith)
same-eq (x ∷ xs) [] h = let z : ◌≡◌ {A = ℕ} 0 1 = cc in absurd (omega arith)
same-eq (x ∷ xs) (y ∷ ys) h =
    ap₂ (λ (p : ℕ) (q : List ℕ). p ∷ q) (eqb-true x y (and_left (eqb x y) (same xs ys) h)) (same-eq xs ys (and_right (eqb x y) (same xs ys) h))

pub same_refl : (a : List ℕ) → same a a ≡ true
unfolding same
same_refl [] = refl
same_refl (x ∷ xs) = simp (eq-eqb x x refl, same_refl xs)

pub eq-same : (a b : List ℕ) → a ≡ b → same a b ≡ true
eq-same a b h = ap (same a) (sym h) ∙ same_refl a

pub same_not : (a b : List ℕ) → same a b ≡ false → a ≡ b → ⊥
same_not a b h e = let t : same a b ≡ true = eq-same a b e in let z : ◌≡◌ {A = ℕ} 0 1 = cc in omega arith

-- lists of two lengths differ
pub same_length : (a b : List ℕ) → (length a ≡ length b → ⊥) → same a b ≡ false
unfolding same
same_length [] [] h = absurd (h refl)
same_length [] (y ∷ ys) h = refl
same_length (x ∷ xs) [] h = refl
same_length (x ∷ xs) (y ∷ ys) h = rw (same_length xs ys (λ e. h (ap suc e))) (and-false (eqb x y))

-- bits that differ

or-zero : (a b : ℕ) → bit_or a b ≡ 0 → (a ≡ 0) × (b ≡ 0)
or-zero a b h = (omega (arith, or_add_and a b, and_le_l a b, and_le_r a b), omega (arith, or_add_and a b, and_le_l a b, and_le_r a b))

xor-zero : (a b : ℕ) → bit_xor a b ≡ 0 → a ≡ b
xor-zero a b h = omega (arith, xor_add_and a b, and_le_l a b, and_le_r a b)

diff_step : (d x y : ℕ) → eqb (bit_or d (bit_xor x y)) 0 ≡ eqb d 0 && eqb x y
diff_step d x y =
    ⊎_elim
    (λ (z : d ≡ 0). ⊎_elim (λ (e : x ≡ y). both z e) (λ e. neither (λ h. e (xor-zero x y (or-zero d (bit_xor x y) h).1)) ∙ sym (ap (λ (b : Bool). eqb d 0 && b) (ne_eqb x y e) ∙ and-false (eqb d 0))) (equal_or_not x y))
    (λ z. neither (λ h. z (or-zero d (bit_xor x y) h).0) ∙ sym (ap (λ (b : Bool). b && eqb x y) (ne_eqb d 0 z))) (equal_or_not d 0)
  where
    neither : (bit_or d (bit_xor x y) ≡ 0 → ⊥) → eqb (bit_or d (bit_xor x y)) 0 ≡ false
    neither h = ne_eqb (bit_or d (bit_xor x y)) 0 h

    both : d ≡ 0 → x ≡ y → eqb (bit_or d (bit_xor x y)) 0 ≡ eqb d 0 && eqb x y
    both z e =
        eq-eqb (bit_or d (bit_xor x y)) 0 (ap₂ bit_or z (ap (bit_xor x) (sym e) ∙ xor_self x) ∙ or_zero_l 0)
        ∙ sym (and_both (eqb d 0) (eqb x y) (eq-eqb d 0 z) (eq-eqb x y e))

-- one element more
same-take : (a b : List ℕ) (i : ℕ) → i < length a → i < length b → same (take (suc i) a) (take (suc i) b) ≡ same (take i a) (take i b) && eqb (get_or a i 0) (get_or b i 0)
unfolding same
same-take [] b i h k = absurd (not-suc-le-zero h)
same-take (x ∷ a) [] i h k = absurd (not-suc-le-zero k)
same-take (x ∷ a) (y ∷ b) zero h k = and-true (eqb x y)
same-take (x ∷ a) (y ∷ b) (suc i) h k =
    ap (λ (t : Bool). eqb x y && t) (same-take a b i (omega arith) (omega arith))
    ∙ and_assoc (eqb x y) (same (take i a) (take i b)) (eqb (get_or a i 0) (get_or b i 0))

pub same_none : (a b : List ℕ) → eqb 0 0 ≡ same (take 0 a) (take 0 b)
unfolding same
same_none a b = refl

pub same_more : (a b : List ℕ) (i d : ℕ) → i < length a → i < length b → eqb d 0 ≡ same (take i a) (take i b)
    → eqb (bit_or d (bit_xor (get_or a i 0) (get_or b i 0))) 0 ≡ same (take (i + 1) a) (take (i + 1) b)
same_more a b i d h k e =
    rw add-one (diff_step d (get_or a i 0) (get_or b i 0) ∙ ap (λ (t : Bool). t && eqb (get_or a i 0) (get_or b i 0)) e ∙ sym (same-take a b i h k))

pub same-all : (a b : List ℕ) (i : ℕ) → length a ≤ i → length b ≤ i → same (take i a) (take i b) ≡ same a b
same-all a b i h k = ap₂ same (take_all i a h) (take_all i b k)
