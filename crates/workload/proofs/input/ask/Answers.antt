-- `workload::input::ask` meets its contract.
use Rattle.std.proofs.Common.{◌≡◌, ℕ, List, Option, take, inl, inr, refl, sym, ap, ◌∙◌, arith}
use Rattle.octets.specs.Octets.{zeros}
use Rattle.line.specs.Fields.{fields_of, numbers_of, up_to}
use Rattle.line.proofs.CommandLaws.{counted, counted-not}
use Rattle.workload.proofs.AskedLaws.{asked-long, more-lines, long-line, first-line, not-numbers, two-numbers, other-numbers}
use mathlib.Core.List.{[], ◌∷◌}
use Rattle.octets.specs.Undivided.{Undivided}
use Rattle.workload.proofs.input.ask.Code.Mir.{function}
use Rattle.workload.proofs.input.ask.Goals as goal

pub undivided : Undivided ("line_fields::find" ∷ "line_fields::numbers" ∷ "workload::input::asked_by" ∷ []) function
undivided = refl

pub returns-then-text-gt201 : goal.returns-then-text-gt201
returns-then-text-gt201 c = sym (asked-long c.args.text.now (omega arith))

pub returns-then-e-text : goal.returns-then-e-text
returns-then-e-text c =
    let t : List ℕ = c.args.text.now in
    let e = c.find-e.ensures.0 in
    elim c.then-e-text.either [
      | inl h ↦ sym (more-lines t (omega arith))
      | inr h ↦ sym (long-line t (let k = h.0 in omega arith) (let k = h.1 in omega arith))
    ]

pub numbers-requires : goal.numbers-requires
unfolding zeros
numbers-requires c = (omega arith, refl)

-- another count of numbers
pub returns-in_default : goal.returns-in_default
returns-in_default c =
    let t : List ℕ = c.args.text.now in
    let e = c.find-e.ensures.0 in
    let o : Option (List ℕ) = numbers_of (fields_of (take c.find-e.result t)) in
    let l : o ≡ numbers_of (fields_of (up_to 10 t)) = ap (λ (x : List ℕ). numbers_of (fields_of x)) (first-line t c.find-e.result e) in
    let k = counted o _ _ c.in_default.ensures.value refl in
    other-numbers t (omega arith) (omega arith) k.0 (sym l ∙ k.1) (λ q. c.in_default.field-0-test.1 (sym k.2 ∙ q))

-- no numbers
pub returns-in_default-2 : goal.returns-in_default-2
returns-in_default-2 c =
    let t : List ℕ = c.args.text.now in
    let e = c.find-e.ensures.0 in
    let o : Option (List ℕ) = numbers_of (fields_of (take c.find-e.result t)) in
    let l : o ≡ numbers_of (fields_of (up_to 10 t)) = ap (λ (x : List ℕ). numbers_of (fields_of x)) (first-line t c.find-e.result e) in
    not-numbers t (omega arith) (omega arith) (sym l ∙ counted-not o c.numbers.result c.numbers.ensures.value c.in_default.is)

pub returns : goal.returns
returns c =
    let t : List ℕ = c.args.text.now in
    let e = c.find-e.ensures.0 in
    let o : Option (List ℕ) = numbers_of (fields_of (take c.find-e.result t)) in
    let l : o ≡ numbers_of (fields_of (up_to 10 t)) = ap (λ (x : List ℕ). numbers_of (fields_of x)) (first-line t c.find-e.result e) in
    let k = counted o c.numbers.result c.in-Some-eq2.field-0 c.numbers.ensures.value c.in-Some-eq2.is in
    c.asked_by.ensures ∙ two-numbers t (omega arith) (omega arith) k.0 _ (sym l ∙ k.1) (k.2 ∙ c.in-Some-eq2.field-0-test) (c.numbers.ensures.by_index k.0 k.1)
