-- What a call answers: document 01's number, and the values that come with it.
use Rattle.std.specs.Prelude.{ℕ, List, []}
use Rattle.std.proofs.Math.Option.{Option, none, some}

pub record Answer : Type 0 where
  pub number : ℕ
  pub values : List ℕ

abbrev pub answer : ℕ → List ℕ → Answer
answer n vs = record { number = n; values = vs }

-- "A refusal .. returns its number alone"; without one the number is 0, "done", and the values come with it
unfoldable pub answer_with : Option ℕ → List ℕ → Answer
answer_with none values = answer 0 values
answer_with (some n) values = answer n []
