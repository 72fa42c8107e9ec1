-- The laws of `part` and `splice`: lengths, a part of a splice, a splice of a splice, and a part that was lent and came back.
use Prim.Native.Nat.{ℕ, zero, suc, ◌+◌, ◌-◌, ◌≤◌, ◌<◌}
use mathlib.Core.Path.{◌≡◌, refl, sym, ap, ap₂, subst, ◌∙◌}
use mathlib.Core.List.{List, [], ◌∷◌, ◌++◌, append_assoc, append-nil}
use native.Mathlib.Nat.{add-zero, zero-add}
use native.Mathlib.Numerals.{add-one}
use native.Mathlib.Omega.{arith}
use lib.ListN.{length, get_or, take, drop, set, length-append, length-take, length-drop, drop_of_length-le, take-append-drop}
use lib.Seq.{set_split, drop-cons, take-add, drop-drop, take-take, length-take-le, take_at, drop_at, take-length, take-append-le, take-append-add, drop-append-le, drop-append-add, take-append_seam, get_or-drop}
use borrow.Rule.Slice.PartMut.{put_mid}
use Rattle.octets.specs.Octets.{Bytes, part, splice}

-- parts

pub length_part : (l : List ℕ) (at n : ℕ) → at + n ≤ length l → length (part l at n) ≡ n
length_part l at n h = simp (length-take, length-drop) (omega arith)

pub part-append-left : (p q : List ℕ) (at n : ℕ) → at + n ≤ length p → part (p ++ q) at n ≡ part p at n
part-append-left p q at n h =
    ap (λ (l : List ℕ). take n l) (drop-append-le at p q (omega arith)) ∙ take-append-le n (drop at p) q (simp length-drop (omega arith))

pub part-append-right : (p q : List ℕ) (at n : ℕ) → part (p ++ q) (length p + at) n ≡ part q at n
part-append-right p q at n = ap (λ (l : List ℕ). take n l) (drop-append-add p q at)

-- the second of two lists
pub part-second : (p q : List ℕ) (at n : ℕ) → length p ≡ at → length q ≡ n → part (p ++ q) at n ≡ q
part-second p q at n h k = rw (drop_at p q at h) (rw (← k) (take-length q))

pub part-part : (l : List ℕ) (b n at m : ℕ) → at + m ≤ n → part (part l b n) at m ≡ part l (b + at) m
part-part l b n at m h = go (drop b l) n at h ∙ ap (λ (x : List ℕ). take m x) (drop-drop at b l)
  where
    go : (x : List ℕ) (n at : ℕ) → at + m ≤ n → part (take n x) at m ≡ part x at m
    go x n zero h = take-take m n x (omega arith)
    go x zero (suc at) h = absurd (omega arith)
    go [] (suc n) (suc at) h = refl
    go (y ∷ x) (suc n) (suc at) h = go x n at (omega arith)

-- the n elements from at on, one by one
abbrev pub run : ℕ → ℕ → List ℕ → List ℕ
run zero at l = []
run (suc n) at l = get_or l at 0 ∷ run n (suc at) l

pub part-run : (n at : ℕ) (l : List ℕ) → at + n ≤ length l → part l at n ≡ run n at l
part-run zero at l h = refl
part-run (suc n) at l h = rw (drop-cons l at 0 (omega arith)) (ap (λ (t : List ℕ). get_or l at 0 ∷ t) (part-run n (suc at) l (omega arith)))

-- a part as two
pub part-add : (l : List ℕ) (at m n : ℕ) → part l at (m + n) ≡ part l at m ++ part l (at + m) n
part-add l at m n = take-add m n (drop at l) ∙ ap (λ (t : List ℕ). part l at m ++ take n t) (drop-drop m at l)

-- a part of bytes is bytes

bytes_take : (n : ℕ) (l : List ℕ) → Bytes l → Bytes (take n l)
bytes_take zero l h i = omega arith
bytes_take (suc n) [] h i = omega arith
bytes_take (suc n) (x ∷ l) h zero = h 0
bytes_take (suc n) (x ∷ l) h (suc i) = bytes_take n l (λ j. h (suc j)) i

pub bytes-part : (l : List ℕ) (at n : ℕ) → Bytes l → Bytes (part l at n)
bytes-part l at n h = bytes_take n (drop at l) (λ i. subst (λ (x : ℕ). x < 256) (sym (get_or-drop at l i 0)) (h (at + i)))

pub bytes-append : (a b : List ℕ) → Bytes a → Bytes b → Bytes (a ++ b)
bytes-append [] b h k i = k i
bytes-append (x ∷ a) b h k zero = h 0
bytes-append (x ∷ a) b h k (suc i) = bytes-append a b (λ j. h (suc j)) k i

-- splices

module _ (l x : List ℕ) (at : ℕ) (fits : at + length x ≤ length l) where
  pub length-splice : length (splice l at x) ≡ length l
  unfolding splice
  length-splice = simp (length-append, length-drop, length-take) (omega arith)

  pub part-splice-same : part (splice l at x) at (length x) ≡ x
  unfolding splice
  part-splice-same =
      ap (λ (r : List ℕ). take (length x) r) (drop_at (take at l) (x ++ drop (at + length x) l) at (length-take-le at l (omega arith)))
      ∙ take-append_seam x (drop (at + length x) l)

  pub part-splice-before : (b n : ℕ) → b + n ≤ at → part (splice l at x) b n ≡ part l b n
  unfolding splice
  part-splice-before b n h =
      let e : b + n ≤ length (take at l) = simp length-take (omega arith) in
      part-append-left (take at l) (x ++ drop (at + length x) l) b n e
      ∙ sym (part-append-left (take at l) (drop at l) b n e)
      ∙ ap (λ (r : List ℕ). part r b n) (take-append-drop at l)

  pub part-splice-after : (b n : ℕ) → at + length x ≤ b → part (splice l at x) b n ≡ part l b n
  unfolding splice
  part-splice-after b n h =
      let k : ℕ = b - (at + length x) in
      let p : List ℕ = take at l ++ x in
      let e : length p + k ≡ b = simp (length-append, length-take) (omega arith) in
      let e₂ : at + length x + k ≡ b = omega arith in
      ap (λ (r : List ℕ). part r b n) (sym (append_assoc (take at l) x (drop (at + length x) l)))
      ∙ ap (λ (i : ℕ). part (p ++ drop (at + length x) l) i n) (sym e)
      ∙ part-append-right p (drop (at + length x) l) k n
      ∙ ap (λ (r : List ℕ). take n r) (drop-drop k (at + length x) l ∙ ap (λ (i : ℕ). drop i l) e₂)

pub splice-nil : (l : List ℕ) (at : ℕ) → splice l at [] ≡ l
unfolding splice
splice-nil l at = ap (λ (k : ℕ). take at l ++ drop k l) (add-zero at) ∙ take-append-drop at l

-- two splices, one behind the other
pub splice-append : (l : List ℕ) (at : ℕ) (x y : List ℕ) → at + (length x + length y) ≤ length l → splice (splice l at x) (at + length x) y ≡ splice l at (x ++ y)
unfolding splice
splice-append l at x y h =
    let hd : length (take at l ++ x) ≡ at + length x = simp (length-append, length-take) (omega arith) in
    let ends : at + length x + length y ≡ at + length (x ++ y) = rw length-append (omega arith) in
    let parted : splice l at x ≡ (take at l ++ x) ++ drop (at + length x) l = sym (append_assoc (take at l) x (drop (at + length x) l)) in
    let tl : drop (at + length x + length y) (splice l at x) ≡ drop (at + length (x ++ y)) l =
    sym (drop-drop (length y) (at + length x) (splice l at x))
    ∙ ap (drop (length y)) (ap (drop (at + length x)) parted ∙ drop_at (take at l ++ x) (drop (at + length x) l) (at + length x) hd)
    ∙ drop-drop (length y) (at + length x) l
    ∙ ap (λ (k : ℕ). drop k l) ends in
    ap₂ (λ (p q : List ℕ). p ++ (y ++ q)) (ap (take (at + length x)) parted ∙ take_at (take at l ++ x) (drop (at + length x) l) (at + length x) hd) tl
    ∙ append_assoc (take at l) x (y ++ drop (at + length (x ++ y)) l)
    ∙ ap (λ (p : List ℕ). take at l ++ p) (sym (append_assoc x y (drop (at + length (x ++ y)) l)))

-- the same, where the first was written from the start on and both are equations of a walk
pub splice-then : (l x y : List ℕ) (at : ℕ) {a b : List ℕ} → a ≡ splice l 0 x → length x ≡ at → at + length y ≤ length l → b ≡ splice a at y → b ≡ splice l 0 (x ++ y)
splice-then l x y at h n k e =
    e ∙ ap₂ (λ (p : List ℕ) (i : ℕ). splice p i y) h (sym (zero-add (length x) ∙ n)) ∙ splice-append l 0 x y (omega arith)

-- a splice of the whole list
pub splice-whole : (l x : List ℕ) → length x ≡ length l → splice l 0 x ≡ x
unfolding splice
splice-whole l x h = ap (λ (p : List ℕ). x ++ p) (drop_of_length-le l {i = 0 + length x} (omega arith)) ∙ append-nil x

-- one store
pub splice-byte : (l : List ℕ) (at b : ℕ) → at < length l → set l at b ≡ splice l at (b ∷ [])
unfolding splice
splice-byte l at b h = set_split l at b h ∙ ap (λ (k : ℕ). take at l ++ (b ∷ drop k l)) (sym (add-one at))

-- a byte, and bytes after it
pub byte-before : (l x : List ℕ) (at b : ℕ) → at + length (b ∷ x) ≤ length l → splice (set l at b) (at + 1) x ≡ splice l at (b ∷ x)
byte-before l x at b room = ap (λ (y : List ℕ). splice y (at + 1) x) (splice-byte l at b (omega arith)) ∙ splice-append l at (b ∷ []) x (omega arith)

-- parts that were lent: `&s[a..a + n]` and `&mut s[a..a + n]`

pub part-between : (l : List ℕ) (at n : ℕ) → take (at + n - at) (drop at l) ≡ part l at n
part-between l at n = let e : at + n - at ≡ n = omega arith in ap (λ (k : ℕ). take k (drop at l)) e

-- the whole after its part from at to at + n was lent and came back as y, which is x of n elements
pub put_back : (l y x : List ℕ) (at n : ℕ) → y ≡ x → length x ≡ n → put_mid at (at + n - at) l y ≡ splice l at x
unfolding splice
put_back l y x at n e h =
    let k : at + n - at ≡ length x = omega arith in
    ap₂ (λ (z : List ℕ) (m : ℕ). put_mid at m l z) e k ∙ ap (λ (t : List ℕ). take at l ++ (x ++ t)) (drop-drop (length x) at l)

-- the same bytes, nested to the left
pub splice_nested : (l : List ℕ) (at : ℕ) (x : List ℕ) → splice l at x ≡ take at l ++ x ++ drop (at + length x) l
unfolding splice
splice_nested l at x = sym (append_assoc (take at l) x (drop (at + length x) l))

-- a splice in the first or the second of two lists
pub splice-left : (p q : List ℕ) (at : ℕ) (x : List ℕ) → at + length x ≤ length p → splice (p ++ q) at x ≡ splice p at x ++ q
unfolding splice
splice-left p q at x h =
    ap₂ (λ (a b : List ℕ). a ++ (x ++ b)) (take-append-le at p q (omega arith)) (drop-append-le (at + length x) p q h)
    ∙ simp append_assoc

pub splice-right : (p q : List ℕ) (at : ℕ) (x : List ℕ) → splice (p ++ q) (length p + at) x ≡ p ++ splice q at x
unfolding splice
splice-right p q at x =
    let e : length p + at + length x ≡ length p + (at + length x) = omega arith in
    ap₂ (λ (a b : List ℕ). a ++ (x ++ b)) (take-append-add p q at) (ap (λ (k : ℕ). drop k (p ++ q)) e ∙ drop-append-add p q (at + length x))
    ∙ append_assoc p (take at q) (x ++ drop (at + length x) q)
