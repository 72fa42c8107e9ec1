-- Tests by what is known of their parts; a number in bytes compared, and bytes that are zero.
use Prim.Native.Nat.{ℕ, zero, suc, ◌+◌, ◌*◌, ◌^◌, ◌≤◌, ◌<◌}
use mathlib.Core.Path.{◌≡◌, refl, sym, ap, ◌∙◌}
use mathlib.Core.Bool.{Bool, true, false, ◌&&◌}
use mathlib.Core.List.{List, [], ◌∷◌, ◌++◌}
use native.Mathlib.Omega.{arith}
use borrow.Author.Tests.{ne_eqb, eqb-true, eqb-false}
use lib.Dec.{eqb}
use lib.ListN.{length, replicate-append-replicate}
use Rattle.octets.specs.Octets.{Bytes, part, same, zeros}
use Rattle.octets.proofs.Tests.{and-false, and_assoc}
pub use Rattle.std.proofs.lemmas.Bool.{and_parts as and_split}
use Rattle.octets.proofs.Same.{same-eq, eq-same}
use Rattle.bigendian.specs.BigEndian.{be, unbe}
use Rattle.bigendian.proofs.Laws.{base-pos, unbe-be, be-unbe-part}

-- a conjunction, one of whose tests is known

pub and_yes : {a : Bool} (b : Bool) → a ≡ true → a && b ≡ b
and_yes b e = ap (λ (x : Bool). x && b) e

pub and_no : {a : Bool} (b : Bool) → a ≡ false → a && b ≡ false
and_no b e = ap (λ (x : Bool). x && b) e

pub and-not : (a : Bool) {b : Bool} → b ≡ false → a && b ≡ false
and-not a e = ap (λ (x : Bool). a && x) e ∙ and-false a

-- lists that differ
pub ne_same : (a b : List ℕ) → (a ≡ b → ⊥) → same a b ≡ false
ne_same a b h = go (same a b) refl
  where
    go : (t : Bool) → same a b ≡ t → t ≡ false
    go true e = absurd (h (same-eq a b e))
    go false e = refl

-- a number compared is its bytes compared
pub field-same : (b : List ℕ) (at n v : ℕ) → Bytes b → at + n ≤ length b → v < 256 ^ n → eqb (unbe (part b at n)) v ≡ same (part b at n) (be n v)
field-same b at n v h k l = go (eqb (unbe (part b at n)) v) refl
  where
    go : (t : Bool) → eqb (unbe (part b at n)) v ≡ t → t ≡ same (part b at n) (be n v)
    go true e = sym (eq-same (part b at n) (be n v) (sym (be-unbe-part b at n h k) ∙ ap (be n) (eqb-true (unbe (part b at n)) v e)))
    go false e = sym (ne_same (part b at n) (be n v) (λ q. eqb-false (unbe (part b at n)) v e (ap unbe q ∙ unbe-be n v l)))

-- zero bytes

pub zeros-add : (m n : ℕ) → zeros (m + n) ≡ zeros m ++ zeros n
unfolding zeros
zeros-add m n = sym (replicate-append-replicate m n 0)

pub same-append : (p q x y : List ℕ) → length p ≡ length x → same (p ++ q) (x ++ y) ≡ same p x && same q y
unfolding same
same-append [] q [] y h = refl
same-append [] q (z ∷ x) y h = absurd (omega arith)
same-append (z ∷ p) q [] y h = absurd (omega arith)
same-append (z ∷ p) q (w ∷ x) y h = ap (λ (t : Bool). eqb z w && t) (same-append p q x y (omega arith)) ∙ and_assoc (eqb z w) (same p x) (same q y)

-- a number is zero when its bytes are
pub zero-bytes : (l : List ℕ) → eqb (unbe l) 0 ≡ same l (zeros (length l))
unfolding unbe same zeros
zero-bytes [] = refl
zero-bytes (zero ∷ l) = let e : 0 * 256 ^ length l + unbe l ≡ unbe l = omega arith in ap (λ (k : ℕ). eqb k 0) e ∙ zero-bytes l
zero-bytes (suc x ∷ l) =
    ne_eqb (suc x * 256 ^ length l + unbe l) 0 (λ e. omega (arith, base-pos (length l))) ∙ sym (and_no (same l (zeros (length l))) (ne_eqb (suc x) 0 (λ e. omega arith)))
