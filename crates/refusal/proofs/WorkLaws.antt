-- The number and the blocks of an answer determine it, and the two ways out of a call that counts blocks.
use Prim.Native.Nat.{ℕ}
use mathlib.Core.Path.{◌≡◌, refl, sym, ap₂, ◌∙◌}
use mathlib.Core.Option.{Option, none, some}
use Rattle.refusal.specs.Number.{outcome_number}
use Rattle.refusal.specs.Order.{answer_of, afterwards}
use Rattle.refusal.specs.Work.{worked_number, worked_blocks}
use Rattle.std.specs.Prelude.{Result, Ok, Err}
use Rattle.refusal.specs.declared.Refusal.{Refusal}
use Rattle.refusal.specs.declared.Hashed.{Hashed}
use Rattle.refusal.specs.declared.Refused.{Refused}
use Rattle.refusal.proofs.NumberLaws.{outcome_number-injective}
use Rattle.refusal.proofs.OrderLaws.{refused-is, done-is}

abbrev Worked : Type 0
Worked = Result (Hashed Unit) Refused

-- done or refused
abbrev outcome_of : Worked → Result Unit Refusal
outcome_of (Ok done) = Ok tt
outcome_of (Err refused) = Err refused.why

number_is : (w : Worked) → worked_number w ≡ outcome_number (outcome_of w)
number_is (Ok done) = refl
number_is (Err refused) = refl

abbrev case_of : Result Unit Refusal → ℕ → Worked
case_of (Ok value) blocks = Ok (record { value = value; blocks = blocks })
case_of (Err r) blocks = Err (record { why = r; blocks = blocks })

back : (w : Worked) → case_of (outcome_of w) (worked_blocks w) ≡ w
back (Ok done) = refl
back (Err refused) = refl

pub worked-injective : (v w : Worked) → worked_number v ≡ worked_number w → worked_blocks v ≡ worked_blocks w → v ≡ w
worked-injective v w n b =
    let e : outcome_number (outcome_of v) ≡ outcome_number (outcome_of w) = sym (number_is v) ∙ n ∙ number_is w in
    sym (back v) ∙ ap₂ case_of (outcome_number-injective (outcome_of v) (outcome_of w) e) b ∙ back w

-- a call that is refused before it hashes: its number, 0 blocks, and what was there
pub refused-works : {A : Type 0} {r : Option ℕ} (k blocks : ℕ) (new old : A) → r ≡ some k
    → (k ≡ answer_of r) × ((0 ≡ afterwards r blocks 0) × (old ≡ afterwards r new old))
refused-works k blocks new old h = let e = refused-is k new old h in (e.0, ((refused-is k blocks 0 h).1, e.1))

-- an accepted one: 0, the blocks hashed, and the new
pub done-works : {A : Type 0} {r : Option ℕ} (blocks : ℕ) (new old : A) → r ≡ none
    → (0 ≡ answer_of r) × ((blocks ≡ afterwards r blocks 0) × (new ≡ afterwards r new old))
done-works blocks new old h = let e = done-is new old h in (e.0, ((done-is blocks 0 h).1, e.1))
