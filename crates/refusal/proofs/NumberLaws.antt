-- No two refusals have one number, and no refusal has 0, the number of "done", or 6, that of document 01's "nothing held".
use Prim.Native.Nat.{ℕ, zero, suc, ◌≤◌}
use native.Mathlib.Omega.{arith}
use mathlib.Core.Path.{◌≡◌, refl, sym, ap, ◌∙◌}
use mathlib.Core.Logic.{◌≢◌}
use mathlib.Core.List.{List, [], ◌∷◌}
use lib.ListN.{get_or}
use Rattle.refusal.specs.Number.{number_of, outcome_number}
use Rattle.refusal.specs.declared.Refusal.{Refusal}
use Rattle.refusal.specs.declared.Refusal.TheVariants.{Torn, NoLog, Position, Spent, Full, Length, Counts, NoReceipt, Tag, OtherQuestion, Roster, TooFew, NoRun, Line, Promised, Profile, Survey, Seed}
use Rattle.std.specs.Prelude.{Result, Ok, Err}

-- the words in the order of their numbers, the first of number 1; nobody has 6, so any word may stand in its place
abbrev words : List Refusal
words =
    Torn ∷ NoLog ∷ Position ∷ Spent ∷ Full ∷ Torn ∷ Length ∷ Counts ∷ NoReceipt ∷ Tag ∷
    OtherQuestion ∷ Roster ∷ TooFew ∷ NoRun ∷ Line ∷ Promised ∷ Profile ∷ Survey ∷ Seed ∷ []

abbrev Outcome : Type 0
Outcome = Result Unit Refusal

-- the outcome of a number
abbrev outcome_of : ℕ → Outcome
outcome_of zero = Ok tt
outcome_of (suc n) = Err (get_or words n Torn)

refused-back : (r : Refusal) → outcome_of (number_of r) ≡ Err r
refused-back Torn = refl
refused-back NoLog = refl
refused-back Position = refl
refused-back Spent = refl
refused-back Full = refl
refused-back Length = refl
refused-back Counts = refl
refused-back NoReceipt = refl
refused-back Tag = refl
refused-back OtherQuestion = refl
refused-back Roster = refl
refused-back TooFew = refl
refused-back NoRun = refl
refused-back Line = refl
refused-back Promised = refl
refused-back Profile = refl
refused-back Survey = refl
refused-back Seed = refl

outcome-back : (o : Outcome) → outcome_of (outcome_number o) ≡ o
outcome-back (Ok tt) = refl
outcome-back (Err r) = refused-back r

pub outcome_number-injective : (o p : Outcome) → outcome_number o ≡ outcome_number p → o ≡ p
outcome_number-injective o p e = sym (outcome-back o) ∙ ap outcome_of e ∙ outcome-back p

pub number_of-injective : (r s : Refusal) → number_of r ≡ number_of s → r ≡ s
number_of-injective r s e = let h : Err r ≡ Err s = outcome_number-injective (Err r) (Err s) e in cc

abbrev is_refused : Outcome → ℕ
is_refused (Ok tt) = 0
is_refused (Err r) = 1

pub number_of-positive : (r : Refusal) → 1 ≤ number_of r
number_of-positive r = go (number_of r) refl
  where
    go : (n : ℕ) → number_of r ≡ n → 1 ≤ n
    go zero e = let h : is_refused (Ok tt) ≡ is_refused (Err r) = ap is_refused (sym (ap outcome_of e) ∙ refused-back r) in omega arith
    go (suc n) e = omega arith

-- document 02 [6]: "Refusal 6 is shown never to occur and its number is not used again."
pub never_six : (r : Refusal) → number_of r ≢ 6
never_six r e =
    let h : Err r ≡ Err Torn = sym (refused-back r) ∙ ap outcome_of e in
    let q : r ≡ Torn = cc in
    let n : number_of r ≡ 1 = ap number_of q in
    omega arith
