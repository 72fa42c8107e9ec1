-- Document 01: "A call is refused with the first number that fits". The tests of a call are one list in the paper's order.
use Rattle.std.specs.Prelude.{ℕ, List, [], ◌∷◌, Bool, cond}
use Rattle.std.proofs.Math.Option.{Option, none, some}

-- a fault, and the number that it gives
pub record Fault : Type 0 where
  pub number : ℕ
  pub found : Bool

abbrev pub fault : ℕ → Bool → Fault
fault n b = record { number = n; found = b }

-- the first number that fits, or none
unfoldable pub first_fault : List Fault → Option ℕ
first_fault [] = none
first_fault (f ∷ fs) = cond f.found (some f.number) (first_fault fs)

-- the number answered: 0 "done" where no fault was found
unfoldable pub answer_of : Option ℕ → ℕ
answer_of none = 0
answer_of (some n) = n

-- what is there after a call: the new where no fault was found, else the old
unfoldable pub afterwards : {A : Type 0} → Option ℕ → A → A → A
afterwards none new old = new
afterwards (some n) new old = old
