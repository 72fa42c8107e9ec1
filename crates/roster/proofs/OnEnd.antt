-- Arrays of one length on end, as a roster's items and a certificate's receipts: each is a part of the bytes.
use mathlib.Core.Path.{◌≡◌, sym, ap, ◌∙◌}
use Prim.Native.Nat.{ℕ, zero, suc, ◌+◌, ◌*◌, ◌/◌, ◌%◌, ◌≤◌, ◌<◌}
use native.Mathlib.Nat.{suc-mul, zero-mul}
use native.Mathlib.Omega.{arith}
use mathlib.Core.Bool.{Bool, true, false}
use borrow.Author.Tests.{eqb-true, eqb-false}
use Rattle.std.specs.Bool.{◌==◌}
use mathlib.Core.List.{List, [], ◌∷◌, ◌++◌}
use lib.ListN.{length, get_or, take, drop, length-append, length-drop, take-append-drop}
use lib.Seq.{take-add}
use Rattle.std.proofs.lemmas.List.{nil_from_length}
use Rattle.std.specs.List.{concat}
use Rattle.std.specs.Simd.{first_chunks}
use Rattle.octets.specs.Octets.{part}
use Rattle.octets.proofs.Parts.{part-append-left, part-append-right}

-- each has n elements
abbrev pub Each : ℕ → List (List ℕ) → Type 0
Each n xs = (i : ℕ) → i < length xs → length (get_or xs i []) ≡ n

pub length-concat : (n : ℕ) (xs : List (List ℕ)) → Each n xs → length (concat xs) ≡ length xs * n
length-concat n [] h = sym (zero-mul n)
length-concat n (x ∷ xs) h = omega (arith, length-append x (concat xs), h 0 (omega arith), length-concat n xs (λ i k. h (suc i) (omega arith)), suc-mul (length xs) n)

pub part-concat : (n : ℕ) (xs : List (List ℕ)) (i at m : ℕ) → Each n xs → i < length xs → at + m ≤ n → part (concat xs) (i * n + at) m ≡ part (get_or xs i []) at m
part-concat n [] i at m h k l = absurd (omega arith)
part-concat n (x ∷ xs) zero at m h k l =
    let z : zero * n + at ≡ at = omega (arith, zero-mul n) in
    let e = h 0 (omega arith) in
    ap (λ (j : ℕ). part (x ++ concat xs) j m) z ∙ part-append-left x (concat xs) at m (omega arith)
part-concat n (x ∷ xs) (suc i) at m h k l =
    let e = h 0 (omega arith) in
    let z : suc i * n + at ≡ length x + (i * n + at) = omega (arith, suc-mul i n) in
    ap (λ (j : ℕ). part (x ++ concat xs) j m) z ∙ part-append-right x (concat xs) (i * n + at) m ∙ part-concat n xs i at m (λ i k. h (suc i) (omega arith)) (omega arith) l

-- what a slice is cut into, on end
pub concat-first_chunks : (n k : ℕ) (l : List ℕ) → length l ≡ k * n → concat (first_chunks n k l) ≡ l
concat-first_chunks n zero l h = sym (nil_from_length l (h ∙ zero-mul n))
concat-first_chunks n (suc k) l h =
    ap (λ (t : List ℕ). take n l ++ t) (concat-first_chunks n k (drop n l) (simp length-drop (omega (arith, suc-mul k n)))) ∙ take-append-drop n l

-- whatever stands behind them
pub concat-front : (n k : ℕ) (l : List ℕ) → concat (first_chunks n k l) ≡ take (k * n) l
concat-front n zero l = ap (λ (m : ℕ). take m l) (sym (zero-mul n))
concat-front n (suc k) l =
    let e : n + k * n ≡ suc k * n = omega (arith, suc-mul k n) in
    ap (λ (t : List ℕ). take n l ++ t) (concat-front n k (drop n l)) ∙ sym (take-add n (k * n) l) ∙ ap (λ (m : ℕ). take m l) e

pub cut : (n : ℕ) (l : List ℕ) (xs : List (List ℕ)) → xs ≡ first_chunks (suc n) (length l / suc n) l → length l % suc n ≡ 0 → concat xs ≡ l
cut n l xs e h = ap concat e ∙ concat-first_chunks (suc n) (length l / suc n) l (omega arith)

-- nothing is left behind the arrays: the rest that `as_chunks` gave is empty
pub nothing_left : (rest m : ℕ) (b : Bool) → rest ≡ m → b ≡ (rest == 0) → b ≡ true → m ≡ 0
nothing_left rest m b l e t = sym l ∙ eqb-true rest 0 (sym e ∙ t)

pub something_left : (rest m : ℕ) (b : Bool) → rest ≡ m → b ≡ (rest == 0) → b ≡ false → m ≡ 0 → ⊥
something_left rest m b l e f z = eqb-false rest 0 (sym e ∙ f) (l ∙ z)
