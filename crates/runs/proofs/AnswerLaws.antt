-- No two answers of `compare` have one number, verdict and number of blocks.
use mathlib.Core.Path.{◌≡◌, refl, sym, ap, ap₂, ◌∙◌}
use Prim.Native.Nat.{ℕ}
use mathlib.Core.Option.{Option, none, some}
use Rattle.std.specs.Prelude.{Result, Ok, Err}
use Rattle.refusal.specs.declared.Hashed.{Hashed}
use Rattle.refusal.specs.declared.Refusal.{Refusal}
use Rattle.refusal.specs.declared.Refused.{Refused}
use Rattle.refusal.specs.Number.{outcome_number}
use Rattle.refusal.proofs.NumberLaws.{outcome_number-injective}
use Rattle.runs.specs.Compare.{Verdict, differ, agree, collision}
use Rattle.runs.specs.Call.{Answer, comparison_answer, comparison_blocks}
use Rattle.runs.specs.declared.Comparison.{Comparison}
use Rattle.runs.specs.declared.Comparison.TheVariants.{Differ, Agree, Collision}

abbrev Compared : Type 0
Compared = Result (Hashed Comparison) Refused

-- done or refused
abbrev outcome_of : Compared → Result (Unit {0}) Refusal
outcome_of (Ok compared) = Ok tt
outcome_of (Err refusal) = Err refusal.why

number_is : (r : Compared) → (comparison_answer r).number ≡ outcome_number (outcome_of r)
number_is (Ok compared) = refl
number_is (Err refusal) = refl

-- the case of an outcome, a verdict and a number of blocks
abbrev named : Option Verdict → Comparison
named none = Differ
named (some differ) = Differ
named (some agree) = Agree
named (some collision) = Collision

abbrev case_of : Result (Unit {0}) Refusal → Option Verdict → ℕ → Compared
case_of (Ok u) v blocks = Ok (record { value = named v; blocks = blocks })
case_of (Err why) v blocks = Err (record { why = why; blocks = blocks })

named-back : (v : Comparison) (n : ℕ) → ◌≡◌ {A = Compared} (case_of (Ok tt) (comparison_answer (Ok (record { value = v; blocks = n }))).verdict n) (Ok (record { value = v; blocks = n }))
named-back Differ n = refl
named-back Agree n = refl
named-back Collision n = refl

back : (r : Compared) → case_of (outcome_of r) (comparison_answer r).verdict (comparison_blocks r) ≡ r
back (Ok compared) = named-back compared.value compared.blocks
back (Err refusal) = refl

pub comparison-injective : (r s : Compared) → comparison_answer r ≡ comparison_answer s → comparison_blocks r ≡ comparison_blocks s → r ≡ s
comparison-injective r s e b =
    let n : outcome_number (outcome_of r) ≡ outcome_number (outcome_of s) = sym (number_is r) ∙ ap (λ (x : Answer). x.number) e ∙ number_is s in
    let o : outcome_of r ≡ outcome_of s = outcome_number-injective (outcome_of r) (outcome_of s) n in
    let v : (comparison_answer r).verdict ≡ (comparison_answer s).verdict = ap (λ (x : Answer). x.verdict) e in
    sym (back r) ∙ ap₂ (λ (x : Result (Unit {0}) Refusal) (y : Option Verdict). case_of x y (comparison_blocks r)) o v
    ∙ ap (case_of (outcome_of s) (comparison_answer s).verdict) b ∙ back s
