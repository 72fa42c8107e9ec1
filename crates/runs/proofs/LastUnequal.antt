-- What the last unequal place is.
use mathlib.Core.Path.{◌≡◌, refl, sym, ap, ◌∙◌}
use mathlib.Core.Logic.{⊎_elim}
use Prim.Native.Nat.{ℕ, zero, suc, ◌<◌}
use native.Mathlib.Nat.{not-suc-le-zero}
use native.Mathlib.Omega.{arith}
use mathlib.Core.Bool.{Bool, true, false, cond}
use mathlib.Core.Option.{Option, none, some}
use mathlib.Core.List.{List}
use Rattle.octets.specs.Octets.{same}
use Rattle.octets.proofs.Tests.{equal_or_not}
use Rattle.octets.proofs.Same.{same-eq, same_not}
use Rattle.runs.specs.Compare.{last_unequal}

abbrev pub Last : (ℕ → List ℕ) → (ℕ → List ℕ) → ℕ → Option ℕ → Type 0
Last f g m none = (i : ℕ) → i < m → f i ≡ g i
Last f g m (some j) = (j < m) × ((f j ≡ g j → ⊥) × ((i : ℕ) → j < i → i < m → f i ≡ g i))

module _ (f g : ℕ → List ℕ) where
  -- equal below m from some place on, and at m
  more : (m : ℕ) (P : ℕ → Type 0) → f m ≡ g m → ((i : ℕ) → P i → i < m → f i ≡ g i) → (i : ℕ) → P i → i < suc m → f i ≡ g i
  more m P e k i p h = ⊎_elim (λ (z : i ≡ m). ap f z ∙ e ∙ ap g (sym z)) (λ z. k i p (omega arith)) (equal_or_not i m)

  step : (m : ℕ) (b : Bool) (o : Option ℕ) → same (f m) (g m) ≡ b → Last f g m o → Last f g (suc m) (cond b o (some m))
  step m true none h l = λ i n. more m (λ (x : ℕ). Unit {0}) (same-eq (f m) (g m) h) (λ x u y. l x y) i tt n
  step m true (some j) h l = (omega (arith, l.0), (l.1.0, more m (λ (x : ℕ). j < x) (same-eq (f m) (g m) h) l.1.1))
  step m false o h l = (omega arith, (same_not (f m) (g m) h, λ i k n. absurd (omega arith)))

  pub last-is : (m : ℕ) → Last f g m (last_unequal f g m)
  unfolding last_unequal
  last-is zero = λ i h. absurd (not-suc-le-zero h)
  last-is (suc m) = step m (same (f m) (g m)) (last_unequal f g m) refl (last-is m)
