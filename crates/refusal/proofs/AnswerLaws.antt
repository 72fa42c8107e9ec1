-- An answer of number 0 says that no fault was found.
use Prim.Native.Nat.{ℕ}
use mathlib.Core.Path.{◌≡◌, refl}
use mathlib.Core.Bool.{Bool, true, false}
use mathlib.Core.List.{List, ◌∷◌}
use Rattle.refusal.specs.Order.{Fault, fault, first_fault}
use Rattle.refusal.specs.Answer.{answer_with}

-- the first fault was not found, and the rest decides
pub no-fault : (k : ℕ) (b : Bool) (fs : List Fault) (vs : List ℕ) → (k ≡ 0 → ⊥) → (answer_with (first_fault (fault k b ∷ fs)) vs).number ≡ 0
    → (b ≡ false) × ((answer_with (first_fault fs) vs).number ≡ 0)
unfolding first_fault answer_with
no-fault k true fs vs h e = absurd (h e)
no-fault k false fs vs h e = (refl, e)
