-- Numbers added up, and compared with a bound by taking one after the other from it, so that nothing wraps.
use Prim.Native.Nat.{ℕ, zero, suc, ◌+◌, ◌-◌, ◌≤◌, ◌<◌}
use mathlib.Core.Path.{◌≡◌, refl, sym, ap, ◌∙◌}
use mathlib.Core.List.{List, [], ◌∷◌}
use mathlib.Core.Bool.{Bool, true, false}
use native.Mathlib.Numerals.{add-one}
use native.Mathlib.Omega.{arith}
use borrow.Author.Tests.{le-leb, lt-leb, leb-true, leb-false}
use lib.Dec.{leb}
use lib.ListN.{length, get_or, drop, drop_of_length-le}
use lib.Seq.{drop-cons}
use Rattle.table.specs.Reserve.{sum}

-- no number passes the sum
pub at-most-sum : (l : List ℕ) (i : ℕ) → get_or l i 0 ≤ sum l
unfolding sum
at-most-sum [] i = omega arith
at-most-sum (x ∷ l) zero = omega arith
at-most-sum (x ∷ l) (suc i) = omega (arith, at-most-sum l i)

-- the numbers from i on, where left is left of the bound
module _ (l : List ℕ) (i left : ℕ) where
  sum_drop : i < length l → sum (drop i l) ≡ get_or l i 0 + sum (drop (i + 1) l)
  unfolding sum
  sum_drop h = ap sum (drop-cons l i 0 h) ∙ ap (λ (k : ℕ). get_or l i 0 + sum (drop k l)) (sym (add-one i))

  pub take-away : i < length l → get_or l i 0 ≤ left → leb (sum (drop i l)) left ≡ leb (sum (drop (i + 1) l)) (left - get_or l i 0)
  take-away h k = go (leb (sum (drop (i + 1) l)) (left - get_or l i 0)) refl
    where
      s : sum (drop i l) ≡ get_or l i 0 + sum (drop (i + 1) l)
      s = sum_drop h

      go : (t : Bool) → leb (sum (drop (i + 1) l)) (left - get_or l i 0) ≡ t → leb (sum (drop i l)) left ≡ t
      go true e = le-leb (sum (drop i l)) left (omega (arith, s, k, leb-true (sum (drop (i + 1) l)) (left - get_or l i 0) e))
      go false e = lt-leb (sum (drop i l)) left (omega (arith, s, k, leb-false (sum (drop (i + 1) l)) (left - get_or l i 0) e))

  pub too_much : i < length l → left < get_or l i 0 → false ≡ leb (sum (drop i l)) left
  too_much h k = sym (lt-leb (sum (drop i l)) left (omega (arith, sum_drop h)))

  pub none_left : length l ≤ i → true ≡ leb (sum (drop i l)) left
  unfolding sum
  none_left h = sym (ap (λ (r : List ℕ). leb (sum r) left) (drop_of_length-le l h) ∙ le-leb 0 left (omega arith))
