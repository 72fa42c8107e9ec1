-- Request [10]: "A survey number and a reading number, 24 and 40 bits, together make a position: survey times 2^40 plus reading".
use Rattle.std.specs.Prelude.{ℕ, ◌+◌, ◌-◌, ◌*◌, ◌/◌, ◌%◌, ◌^◌, [], ◌∷◌, Bool, ◌||◌, leb, Result, Ok, Err}
use Rattle.refusal.specs.Order.{fault, first_fault}
use Rattle.refusal.specs.Answer.{Answer, answer, answer_with}
use Rattle.refusal.specs.Number.{number_of}
use Rattle.refusal.specs.declared.Refusal.{Refusal}
use Rattle.survey.specs.declared.Packed.{Packed}

unfoldable pub packed : ℕ → ℕ → ℕ
packed survey reading = survey * 2 ^ 40 + reading

-- "the split back"
unfoldable pub survey_of : ℕ → ℕ
survey_of n = n / 2 ^ 40

unfoldable pub reading_of : ℕ → ℕ
reading_of n = n % 2 ^ 40

-- 18 "survey": "a number too wide for its part"
unfoldable pub too_wide : ℕ → ℕ → Bool
too_wide survey reading = leb (2 ^ 24) survey || leb (2 ^ 40) reading

-- a survey's last reading, which closes it
unfoldable pub last_reading : ℕ
last_reading = 2 ^ 40 - 1

-- the packing alone: the position, or 18
unfoldable pub packing : ℕ → ℕ → Answer
packing survey reading = answer_with (first_fault (fault 18 (too_wide survey reading) ∷ [])) (packed survey reading ∷ [])

abbrev pub packing_answer : Result Packed Refusal → Answer
packing_answer (Ok p) = answer 0 (p.0 ∷ [])
packing_answer (Err why) = answer (number_of why) []
