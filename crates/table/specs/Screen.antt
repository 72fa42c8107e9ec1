-- Request [1]: "The screen's read refuses with 1 bytes shorter than a header or without that mark, and otherwise, even where demand 1 sees a torn table, answers 0 with the stored number."
use Rattle.std.specs.Prelude.{ℕ, List, [], ◌∷◌, not, length, ltb, Result, Ok, Err}
use Rattle.std.proofs.Math.Option.{Option}
use Rattle.refusal.specs.declared.Refusal.{Refusal}
use Rattle.refusal.specs.Number.{number_of}
use Rattle.refusal.specs.Answer.{Answer, answer, answer_with}
use Rattle.refusal.specs.Order.{fault, first_fault}
use Rattle.layout.specs.Layout.{header_size, stock_of}
use Rattle.layout.specs.Tests.{marked}

-- "refuses with 1 bytes shorter than a header or without that mark"
unfoldable pub screen_refusal : List ℕ → Option ℕ
screen_refusal b = first_fault (fault 1 (ltb (length b) header_size) ∷ fault 1 (not (marked b)) ∷ [])

-- "and otherwise .. answers 0 with the stored number"
unfoldable pub screen : List ℕ → Answer
screen b = answer_with (screen_refusal b) ((stock_of b).count ∷ [])

-- number and value of each reading
abbrev pub screen_answer : Result ℕ Refusal → Answer
screen_answer (Ok n) = answer 0 (n ∷ [])
screen_answer (Err why) = answer (number_of why) []
