-- What logs lack of their reserves: all lack what the others lack and what one lacks; and on a whole table the free slots are no fewer.
use Prim.Native.Nat.{ℕ, zero, suc, ◌+◌, ◌≤◌, ◌<◌}
use mathlib.Core.Path.{◌≡◌, refl, ap, ap₂, ◌∙◌}
use mathlib.Core.Logic.{◌≢◌}
use mathlib.Core.List.{List, [], ◌∷◌}
use mathlib.Core.Bool.{Bool, true, false, cond, ◌&&◌}
use native.Mathlib.Omega.{arith}
use borrow.Author.Tests.{eq-eqb, ne_eqb, le-leb, leb-true}
use lib.Dec.{eqb, leb}
use lib.ListN.{length}
use Rattle.layout.specs.declared.Row.{Row}
use Rattle.layout.specs.Image.{Slot, Image, row_at}
use Rattle.layout.specs.Fits.{Unreserved}
use Rattle.octets.proofs.Tests.{and-true}
use Rattle.layout.proofs.TestLaws.{and_split}
use Rattle.table.specs.Free.{free_chain}
use Rattle.table.specs.Reserve.{held_in, lack_in, lack_from, lack_but, lack_all}
use Rattle.table.specs.WholeImage.{linked, whole_image}

pub whole-linked : (m : Image) → whole_image m ≡ true → linked m ≡ true
unfolding whole_image
whole-linked m w = (and_split (linked m) (leb (lack_all m) (length (free_chain m))) w).0

-- request [5]: "A table with fewer free slots than its logs together lack of their reserves is torn."
pub whole-lack : (m : Image) → whole_image m ≡ true → lack_all m ≤ length (free_chain m)
unfolding whole_image
whole-lack m w = leb-true (lack_all m) (length (free_chain m)) (and_split (linked m) (leb (lack_all m) (length (free_chain m))) w).1

module _ (slots : List Slot) where
  -- a log adds its lack unless it is the one left out
  pub lack-in : (g k : ℕ) (r : Row) → k ≢ g → cond (eqb k g) 0 (lack_in slots k r) ≡ lack_in slots k r
  lack-in g k r n = ap (λ (t : Bool). cond t 0 (lack_in slots k r)) (ne_eqb k g n)

  -- it does not matter which number is left out, where no log has it
  lack-same : (a b k : ℕ) (rs : List Row) → a < k → k + length rs ≤ b → lack_from slots b k rs ≡ lack_from slots a k rs
  unfolding lack_from
  lack-same a b k [] p q = refl
  lack-same a b k (r ∷ rs) p q =
      let e = lack-in a k r (λ x. omega arith) in
      let f = lack-in b k r (λ x. omega arith) in
      let h = lack-same a b (suc k) rs (omega arith) (omega arith) in
      omega arith

  lack-with : (top g k i : ℕ) (rs : List Row) → k + i ≡ g → i < length rs → k + length rs ≤ top → lack_from slots top k rs ≡ lack_from slots g k rs + lack_in slots g (row_at rs i)
  unfolding lack_from
  lack-with top g k i [] e h q = absurd (omega arith)
  lack-with top g k zero (r ∷ rs) e h q =
      let z : k ≡ g = omega arith in
      let f = lack-in top k r (λ x. omega arith) in
      let n : cond (eqb k g) 0 (lack_in slots k r) ≡ 0 = ap (λ (t : Bool). cond t 0 (lack_in slots k r)) (eq-eqb k g z) in
      let s = lack-same g top (suc k) rs (omega arith) (omega arith) in
      let v : lack_in slots k r ≡ lack_in slots g r = ap (λ (j : ℕ). lack_in slots j r) z in
      omega arith
  lack-with top g k (suc i) (r ∷ rs) e h q =
      let f = lack-in top k r (λ x. omega arith) in
      let n = lack-in g k r (λ x. omega arith) in
      let s = lack-with top g (suc k) i rs (omega arith) (omega arith) (omega arith) in
      omega arith

  -- logs without reserves lack nothing
  lack-none : (g k : ℕ) (rs : List Row) → ((i : ℕ) → (row_at rs i).reserve ≡ 0) → lack_from slots g k rs ≡ 0
  unfolding lack_from
  lack-none g k [] h = refl
  lack-none g k (r ∷ rs) h = ap₂ ◌+◌ (own (eqb k g)) (lack-none g (suc k) rs (λ i. h (suc i)))
    where
      own : (t : Bool) → cond t 0 (lack_in slots k r) ≡ 0
      own true = refl
      own false = omega (arith, h zero)

pub lack_unreserved : (m : Image) → Unreserved m → lack_all m ≡ 0
unfolding lack_all lack_but
lack_unreserved m u = lack-none m.slots (length m.rows) 0 m.rows u

-- so without reserves an image is whole that is linked
pub unreserved-whole : (m : Image) → Unreserved m → whole_image m ≡ linked m
unfolding whole_image
unreserved-whole m u =
    ap (λ (t : Bool). linked m && t) (le-leb (lack_all m) (length (free_chain m)) (omega (arith, lack_unreserved m u))) ∙ and-true (linked m)

module _ (m : Image) (g : ℕ) (h : g < length m.rows) where
  -- all logs lack what the others lack, and what log g does
  pub lack-own : lack_all m ≡ lack_but m g + lack_in m.slots g (row_at m.rows g)
  unfolding lack_all lack_but
  lack-own = lack-with m.slots (length m.rows) g 0 g m.rows (omega arith) h (omega arith)

  -- so on a whole table a log below its reserve finds more free slots than the others lack
  pub lack-below : whole_image m ≡ true → held_in m.slots g (row_at m.rows g) < (row_at m.rows g).reserve → lack_but m g < length (free_chain m)
  lack-below w k = omega (arith, lack-own, whole-lack m w)
