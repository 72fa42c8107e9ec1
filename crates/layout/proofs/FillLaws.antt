-- Laws for code that writes elements of n bytes one after the other.
use Prim.Native.Nat.{ℕ, zero, suc, ◌+◌, ◌-◌, ◌*◌, ◌≤◌, ◌<◌}
use mathlib.Core.Path.{◌≡◌, refl, sym, ap, ◌∙◌}
use mathlib.Core.List.{List, [], ◌∷◌, ◌++◌, append_assoc, append-nil}
use native.Mathlib.Nat.{mul-le-mul_left}
use native.Mathlib.Numerals.{add-one}
use native.Mathlib.Omega.{arith}
use borrow.Rule.Slice.PartMut.{put_mid}
use lib.ListN.{length, take, get_or, length-take}
use lib.Seq.{take-suc, take_all}
use Rattle.octets.specs.Octets.{splice}
use Rattle.octets.proofs.Parts.{length-splice, put_back, splice-nil, splice-then, splice-whole}
use Rattle.layout.specs.declared.Row.{Row}
use Rattle.layout.specs.Lists.{flat}
use Rattle.layout.specs.Image.{row_at, fresh_row}
use Rattle.layout.specs.Layout.{row_size, row_bytes}
use Rattle.layout.proofs.ListLaws.{length-flat}
use Rattle.layout.proofs.FieldLaws.{length-row_bytes}

-- elements of n bytes each, one after the other over o
module _ {A : Type 0} (f : A → List ℕ) (n : ℕ) (d : A) (l : List A) (sizes : (i : ℕ) → length (f (get_or l i d)) ≡ n) (default : length (f d) ≡ n) where
  taken-sizes : (l : List A) (i : ℕ) → ((j : ℕ) → length (f (get_or l j d)) ≡ n) → (j : ℕ) → length (f (get_or (take i l) j d)) ≡ n
  taken-sizes l zero h j = default
  taken-sizes [] (suc i) h j = default
  taken-sizes (x ∷ l) (suc i) h zero = h zero
  taken-sizes (x ∷ l) (suc i) h (suc j) = taken-sizes l i (λ k. h (suc k)) j

  length_taken : (i : ℕ) → i ≤ length l → length (flat f (take i l)) ≡ n * i
  length_taken i h =
      let e : length (take i l) ≡ i = rw length-take (omega arith) in
      length-flat f n d (take i l) (taken-sizes l i sizes) ∙ ap (λ (k : ℕ). n * k) e

  flat_append : (p q : List A) → flat f (p ++ q) ≡ flat f p ++ flat f q
  unfolding flat
  flat_append [] q = refl
  flat_append (x ∷ p) q = ap (λ (r : List ℕ). f x ++ r) (flat_append p q) ∙ sym (append_assoc (f x) (flat f p) (flat f q))

  flat-more : (i : ℕ) → i < length l → flat f (take (i + 1) l) ≡ flat f (take i l) ++ f (get_or l i d)
  unfolding flat
  flat-more i h =
      ap (λ (k : ℕ). flat f (take k l)) (add-one i)
      ∙ ap (flat f) (take-suc l i d h)
      ∙ flat_append (take i l) (get_or l i d ∷ [])
      ∙ ap (λ (x : List ℕ). flat f (take i l) ++ x) (append-nil (f (get_or l i d)))

  pub fill_none : (o : List ℕ) → o ≡ splice o 0 (flat f (take 0 l))
  unfolding flat
  fill_none o = sym (splice-nil o 0)

  -- the element's part was lent, and came back as y
  pub fill-turn : (o b y : List ℕ) (i : ℕ) → i < length l → length o ≡ n * length l → b ≡ splice o 0 (flat f (take i l)) → y ≡ f (get_or l i d)
      → put_mid (n * i) (n * i + n - n * i) b y ≡ splice o 0 (flat f (take (i + 1) l))
  fill-turn o b y i h z w e =
      let x : List ℕ = f (get_or l i d) in
      let m : i + 1 ≤ length l = omega arith in
      let below : n * (i + 1) ≤ n * length l = mul-le-mul_left n m in
      let room : n * i + length x ≤ length o = omega (arith, sizes i) in
      let p : splice b (n * i) x ≡ splice o 0 (flat f (take i l) ++ x) =
      splice-then o (flat f (take i l)) x (n * i) w (length_taken i (omega arith)) room refl in
      put_back b y x (n * i) n e (sizes i) ∙ p ∙ ap (splice o 0) (sym (flat-more i h))

  pub fill-length : (o b : List ℕ) (i : ℕ) → i ≤ length l → length o ≡ n * length l → b ≡ splice o 0 (flat f (take i l)) → length b ≡ length o
  fill-length o b i h z w =
      let below : n * i ≤ n * length l = mul-le-mul_left n h in
      ap length w ∙ length-splice o (flat f (take i l)) 0 (omega (arith, length_taken i h))

  pub fill_done : (o b : List ℕ) (i : ℕ) → length l ≤ i → i ≤ length l → length o ≡ n * length l → b ≡ splice o 0 (flat f (take i l)) → b ≡ flat f l
  fill_done o b i h k e w =
      w ∙ ap (λ (q : List A). splice o 0 (flat f q)) (take_all i l h) ∙ splice-whole o (flat f l) (length-flat f n d l sizes ∙ sym e)

-- the rows before row g written over o, which gives b
pub record RowsFilled (rows : List Row) (o b : List ℕ) (g : ℕ) : Type 0 where
  pub room : length o ≡ row_size * length rows
  pub within : g ≤ length rows
  pub sized : length b ≡ length o
  pub filled : b ≡ splice o 0 (flat row_bytes (take g rows))

sizes : (rows : List Row) (i : ℕ) → length (row_bytes (get_or rows i (fresh_row 0))) ≡ row_size
sizes rows i = length-row_bytes (get_or rows i (fresh_row 0))

pub rows-begin : (rows : List Row) (o : List ℕ) → length o ≡ row_size * length rows → RowsFilled rows o o 0
rows-begin rows o z = record { room = z; within = omega arith; sized = refl; filled = fill_none row_bytes row_size (fresh_row 0) rows (sizes rows) (length-row_bytes (fresh_row 0)) o }

module _ {rows : List Row} {o b : List ℕ} {g : ℕ} (t : RowsFilled rows o b g) where
  pub rows-on : (y : List ℕ) (r : Row) → g < length rows → r ≡ row_at rows g → y ≡ row_bytes r → RowsFilled rows o (put_mid (row_size * g) (row_size * g + row_size - row_size * g) b y) (g + 1)
  rows-on y r h e w =
      let f = fill-turn row_bytes row_size (fresh_row 0) rows (sizes rows) (length-row_bytes (fresh_row 0)) o b y g h t.room t.filled (w ∙ ap row_bytes e) in
      record {
        room = t.room;
        within = omega arith;
        sized = fill-length row_bytes row_size (fresh_row 0) rows (sizes rows) (length-row_bytes (fresh_row 0)) o _ (g + 1) (omega arith) t.room f;
        filled = f;
      }

  pub rows-end : length rows ≤ g → b ≡ flat row_bytes rows
  rows-end h = fill_done row_bytes row_size (fresh_row 0) rows (sizes rows) (length-row_bytes (fresh_row 0)) o b g h t.within t.room t.filled
