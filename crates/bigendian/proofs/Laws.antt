-- The laws of big-endian numbers, each over all widths.
use mathlib.Core.Path.{◌≡◌, refl, sym, ap, ap₂, ◌∙◌, subst}
use Prim.Native.Nat.{ℕ, zero, suc, ◌+◌, ◌-◌, ◌*◌, ◌/◌, ◌%◌, ◌^◌, ◌≤◌, ◌<◌, zero-le}
use native.Mathlib.Nat.{mod-one, mod-lt, mod-eq_of_lt, pow-succ', pow-le-pow_right, mul-add-div_right, mul-add-mod_self_right, mul_assoc, div-div-eq-div-mul, div-add-mod', zero-add, suc-add, add_comm, div-one}
use native.Mathlib.Omega.{arith}
use mathlib.Core.List.{List, [], ◌∷◌, ◌++◌, append-nil}
use Rattle.std.proofs.lemmas.List.{take-replicate}
use lib.Dec.{lit<}
use lib.ListN.{length, set, take, drop, replicate, length-append, length-take, length-drop, length-replicate, drop_of_length-le}
use lib.Seq.{take_all, drop_at}
use borrow.Rule.Slice.PartMut.{put_mid}
use mir.Syntax.{w64}
use Rattle.std.specs.Int.{from_be_bytes, to_be_bytes}
use lib.Arith.{digits_lt, digits_div, mod-mul}
use lib.Pow.{pow-add}
use Rattle.octets.specs.Octets.{Bytes, part, splice}
use Rattle.octets.proofs.Parts.{run, part-run, part-add, length_part, bytes-part, splice-byte}
use Rattle.bigendian.specs.BigEndian.{be, unbe}

pub base-pos : (w : ℕ) → 0 < 256 ^ w
base-pos w = pow-le-pow_right {n = 256} (lit< tt) {i = 0} {j = w} zero-le

pub length-be : (w n : ℕ) → length (be w n) ≡ w
unfolding be
length-be zero n = refl
length-be (suc w) n = ap suc (length-be w n)

-- every element is a byte
pub bytes-be : (w n : ℕ) → Bytes (be w n)
unfolding be
bytes-be zero n i = lit< tt
bytes-be (suc w) n zero = mod-lt (n / 256 ^ w) (lit< tt)
bytes-be (suc w) n (suc i) = bytes-be w n i

-- the low w bytes of n make n modulo 256^w
pub unbe-be-mod : (w n : ℕ) → unbe (be w n) ≡ n % 256 ^ w
unfolding be unbe
unbe-be-mod zero n = sym (mod-one n)
unbe-be-mod (suc w) n =
    ap₂ (λ (k u : ℕ). n / 256 ^ w % 256 * 256 ^ k + u) (length-be w n) (unbe-be-mod w n)
    ∙ sym (mod-mul n (lit< tt) (base-pos w))
    ∙ ap (λ (m : ℕ). n % m) (sym (pow-succ' 256 w))

-- a number that fits comes back
pub unbe-be : (w n : ℕ) → n < 256 ^ w → unbe (be w n) ≡ n
unbe-be w n h = unbe-be-mod w n ∙ mod-eq_of_lt h

-- w bytes make a number below 256^w
pub unbe-lt : (bs : List ℕ) → Bytes bs → unbe bs < 256 ^ length bs
unfolding unbe
unbe-lt [] h = lit< tt
unbe-lt (b ∷ bs) h =
    subst (λ (m : ℕ). b * 256 ^ length bs + unbe bs < m) (sym (pow-succ' 256 (length bs)))
    (digits_lt (h 0) (unbe-lt bs (λ i. h (suc i))))

-- what stands above the low w bytes does not count
pub be-high : (w q u : ℕ) → be w (q * 256 ^ w + u) ≡ be w u
unfolding be
be-high zero q u = refl
be-high (suc w) q u =
    let c : ℕ = 256 ^ w in
    let e : q * 256 ^ suc w ≡ q * 256 * c = ap (λ (m : ℕ). q * m) (pow-succ' 256 w) ∙ sym (mul_assoc q 256 c) in
    ap₂ (λ (a : ℕ) (l : List ℕ). a ∷ l)
    (ap (λ (m : ℕ). (m + u) / c % 256) e ∙ ap (λ (m : ℕ). m % 256) (mul-add-div_right (base-pos w) (q * 256) u) ∙ mul-add-mod_self_right q 256 (u / c))
    (ap (λ (m : ℕ). be w (m + u)) e ∙ be-high w (q * 256) u)

-- bytes come back
pub be-unbe : (bs : List ℕ) → Bytes bs → be (length bs) (unbe bs) ≡ bs
unfolding be unbe
be-unbe [] h = refl
be-unbe (b ∷ bs) h =
    let t : Bytes bs = λ i. h (suc i) in
    ap₂ (λ (a : ℕ) (l : List ℕ). a ∷ l)
    (ap (λ (m : ℕ). m % 256) (digits_div b (unbe-lt bs t)) ∙ mod-eq_of_lt (h 0))
    (be-high (length bs) b (unbe bs) ∙ be-unbe bs t)

-- the number of bytes after bytes
pub unbe-append : (a b : List ℕ) → unbe (a ++ b) ≡ unbe a * 256 ^ length b + unbe b
unfolding unbe
unbe-append [] b = omega arith
unbe-append (x ∷ a) b =
    let c : ℕ = 256 ^ length b in
    let p : ℕ = 256 ^ length a in
    let e : 256 ^ length (a ++ b) ≡ p * c = ap (λ (k : ℕ). 256 ^ k) (length-append a b) ∙ pow-add 256 (length a) (length b) in
    ap₂ (λ (m u : ℕ). x * m + u) e (unbe-append a b) ∙ omega (arith, mul_assoc x p c)

-- the bytes at the sum of two widths
pub be-add : (v w n : ℕ) → be (v + w) n ≡ be v (n / 256 ^ w) ++ be w n
unfolding be
be-add zero w n = ap (λ (k : ℕ). be k n) (zero-add w)
be-add (suc v) w n =
    let e : 256 ^ (v + w) ≡ 256 ^ w * 256 ^ v = ap (λ (k : ℕ). 256 ^ k) (add_comm v w) ∙ pow-add 256 w v in
    ap (λ (k : ℕ). be k n) (suc-add v w)
    ∙ ap₂ (λ (a : ℕ) (l : List ℕ). a ∷ l)
    (ap (λ (m : ℕ). n / m % 256) e ∙ ap (λ (m : ℕ). m % 256) (sym (div-div-eq-div-mul n (256 ^ w) (256 ^ v))))
    (be-add v w n)

-- a number and its remainder have the same low bytes
pub be-mod : (w n : ℕ) → be w (n % 256 ^ w) ≡ be w n
be-mod w n = sym (be-high w (n / 256 ^ w) (n % 256 ^ w)) ∙ ap (be w) (div-add-mod' n (256 ^ w))

-- the number that a part makes, from the numbers of its two parts
pub unbe-split : (m n at : ℕ) (l : List ℕ) → at + (m + n) ≤ length l → unbe (part l at (m + n)) ≡ unbe (part l at m) * 256 ^ n + unbe (part l (at + m) n)
unbe-split m n at l h =
    ap unbe (part-add l at m n)
    ∙ unbe-append (part l at m) (part l (at + m) n)
    ∙ ap (λ (k : ℕ). unbe (part l at m) * 256 ^ k + unbe (part l (at + m) n)) (length_part l (at + m) n (omega arith))

-- bytes in a part make a number below 256^n
pub unbe-part-lt : (l : List ℕ) (at n : ℕ) → Bytes l → unbe (part l at n) < 256 ^ n
unbe-part-lt l at n h =
    let k : length (part l at n) ≤ n = simp length-take (omega arith) in
    let p : 256 ^ length (part l at n) ≤ 256 ^ n = pow-le-pow_right {n = 256} (lit< tt) {i = length (part l at n)} {j = n} k in
    omega (arith, unbe-lt (part l at n) (bytes-part l at n h))

-- and come back
pub be-unbe-part : (l : List ℕ) (at n : ℕ) → Bytes l → at + n ≤ length l → be n (unbe (part l at n)) ≡ part l at n
be-unbe-part l at n h k = ap (λ (i : ℕ). be i (unbe (part l at n))) (sym (length_part l at n k)) ∙ be-unbe (part l at n) (bytes-part l at n h)

-- one byte stored
pub put_byte : (at n : ℕ) (l : List ℕ) → at + 1 ≤ length l → set l at (n % 256) ≡ splice l at (be 1 n)
unfolding be
put_byte at n l h = splice-byte l at (n % 256) (omega arith) ∙ ap (λ (b : ℕ). splice l at (b % 256 ∷ [])) (sym (div-one n))

-- the library's numbers of eight bytes, and bytes of a number

from_be_bytes-unbe : (l : List ℕ) → length l ≡ 8 → from_be_bytes w64 l ≡ unbe l
unfolding unbe
from_be_bytes-unbe l h =
    let e : unbe l ≡ unbe (run 8 0 l) = ap unbe (sym (take_all 8 l (omega arith)) ∙ part-run 8 0 l (omega arith)) in
    omega (arith, e)

unbe-zeros : (n : ℕ) → unbe (replicate n 0) ≡ 0
unfolding unbe
unbe-zeros zero = refl
unbe-zeros (suc n) = omega (arith, unbe-zeros n)

-- bytes at the end of eight, behind zeros
pub from_be_bytes-padded : (n : ℕ) (l : List ℕ) → length l ≡ n → n ≤ 8 → from_be_bytes w64 (put_mid (8 - n) (8 - (8 - n)) (replicate 8 0) l) ≡ unbe l
from_be_bytes-padded n l h k =
    let none : ◌≡◌ {A = List ℕ} (drop (8 - (8 - n)) (drop (8 - n) (replicate 8 0))) [] = drop_of_length-le (drop (8 - n) (replicate 8 0)) {i = 8 - (8 - n)} (simp (length-drop, length-replicate) (omega arith)) in
    let front : ◌≡◌ {A = List ℕ} (take (8 - n) (replicate 8 0)) (replicate (8 - n) 0) = take-replicate (8 - n) 8 0 (omega arith) in
    let eight : put_mid (8 - n) (8 - (8 - n)) (replicate 8 0) l ≡ replicate (8 - n) 0 ++ l = ap₂ (λ (p q : List ℕ). p ++ (l ++ q)) front none ∙ ap (λ (t : List ℕ). replicate (8 - n) 0 ++ t) (append-nil l) in
    ap (from_be_bytes w64) eight
    ∙ from_be_bytes-unbe (replicate (8 - n) 0 ++ l) (simp (length-append, length-replicate) (omega arith))
    ∙ unbe-append (replicate (8 - n) 0) l
    ∙ ap (λ (u : ℕ). u * 256 ^ length l + unbe l) (unbe-zeros (8 - n))
    ∙ omega arith

pub to_be_bytes-be : (n : ℕ) → to_be_bytes w64 n ≡ be 8 n
unfolding be
to_be_bytes-be n = simp div-one

-- the last of eight bytes
pub be-low : (n x : ℕ) → n ≤ 8 → take (8 - (8 - n)) (drop (8 - n) (be 8 x)) ≡ be n x
be-low n x k =
    let e : 8 - n + n ≡ 8 = omega arith in
    let all : be 8 x ≡ be (8 - n) (x / 256 ^ n) ++ be n x = ap (λ (w : ℕ). be w x) (sym e) ∙ be-add (8 - n) n x in
    ap (λ (l : List ℕ). take (8 - (8 - n)) (drop (8 - n) l)) all
    ∙ ap (take (8 - (8 - n))) (drop_at (be (8 - n) (x / 256 ^ n)) (be n x) (8 - n) (length-be (8 - n) (x / 256 ^ n)))
    ∙ take_all (8 - (8 - n)) (be n x) (rw length-be (omega arith))
