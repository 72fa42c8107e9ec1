-- A number that no fault of a list has is not the first that fits, and no answer has it.
use Prim.Native.Nat.{ℕ}
use native.Mathlib.Omega.{arith}
use mathlib.Core.Path.{◌≡◌, refl, sym, ap}
use mathlib.Core.Logic.{◌≢◌}
use mathlib.Core.Bool.{Bool, true, false, cond}
use mathlib.Core.List.{List, [], ◌∷◌}
use mathlib.Core.Option.{Option, none, some, none-ne-some, some-injective}
use lib.Dec.{eqb}
use borrow.Author.Tests.{eqb-false}
use Rattle.refusal.specs.Order.{Fault, first_fault, answer_of}
use Rattle.refusal.specs.Answer.{answer_with}

-- no fault of the list has the number k; of a list with written numbers this computes
abbrev pub unused : ℕ → List Fault → Bool
unused k [] = true
unused k (f ∷ fs) = cond (eqb f.number k) false (unused k fs)

pub never : (k : ℕ) (fs : List Fault) → unused k fs ≡ true → first_fault fs ≢ some k
unfolding first_fault
never k [] u h = none-ne-some k h
never k (f ∷ fs) u h = go (eqb f.number k) refl f.found u h (never k fs)
  where
    go : (t : Bool) → eqb f.number k ≡ t → (w : Bool) → cond t false (unused k fs) ≡ true → cond w (some f.number) (first_fault fs) ≡ some k
        → (unused k fs ≡ true → first_fault fs ≢ some k) → ⊥
    go true e w v q r = let z : ◌≡◌ {A = ℕ} 0 1 = cc in omega arith
    go false e true v q r = eqb-false f.number k e (some-injective f.number k q)
    go false e false v q r = r v q

module _ (k : ℕ) (z : k ≢ 0) where
  pub never-answered : (r : Option ℕ) → r ≢ some k → answer_of r ≢ k
  unfolding answer_of
  never-answered none h e = z (sym e)
  never-answered (some n) h e = h (ap some e)

  pub never-numbered : (r : Option ℕ) (vs : List ℕ) → r ≢ some k → (answer_with r vs).number ≢ k
  unfolding answer_with
  never-numbered none vs h e = z (sym e)
  never-numbered (some n) vs h e = h (ap some e)
