-- The laws of a list of faults, and the two ways a public call ends: refused, or done.
use Prim.Native.Nat.{ℕ}
use mathlib.Core.Path.{◌≡◌, refl, sym, ap, ◌∙◌}
use mathlib.Core.Bool.{Bool, true, false}
use mathlib.Core.List.{List, ◌∷◌}
use mathlib.Core.Option.{Option, none, some, some-ne-none}
use Rattle.refusal.specs.Order.{Fault, fault, first_fault, answer_of, afterwards}

module _ (k : ℕ) (b : Bool) (fs : List Fault) where
  -- a fault that is found
  pub found_first : b ≡ true → first_fault (fault k b ∷ fs) ≡ some k
  unfolding first_fault
  found_first h = rw h

  -- and one that is not
  pub passes : b ≡ false → first_fault (fault k b ∷ fs) ≡ first_fault fs
  unfolding first_fault
  passes h = rw h

  pub peel : first_fault (fault k b ∷ fs) ≡ none → (b ≡ false) × (first_fault fs ≡ none)
  unfolding first_fault
  peel h = go b refl
    where
      go : (t : Bool) → b ≡ t → (b ≡ false) × (first_fault fs ≡ none)
      go true e = absurd (some-ne-none k (sym (found_first e) ∙ h))
      go false e = (e, sym (passes e) ∙ h)

-- a refused call answers its number and leaves what was there
pub refused-is : {A : Type 0} {r : Option ℕ} (k : ℕ) (new old : A) → r ≡ some k → (k ≡ answer_of r) × (old ≡ afterwards r new old)
unfolding answer_of afterwards
refused-is k new old h = (sym (ap answer_of h), sym (ap (λ (t : Option ℕ). afterwards t new old) h))

-- an accepted one answers 0 and leaves the new
pub done-is : {A : Type 0} {r : Option ℕ} (new old : A) → r ≡ none → (0 ≡ answer_of r) × (new ≡ afterwards r new old)
unfolding answer_of afterwards
done-is new old h = (sym (ap answer_of h), sym (ap (λ (t : Option ℕ). afterwards t new old) h))
