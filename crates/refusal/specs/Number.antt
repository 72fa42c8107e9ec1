-- Document 01, "Numbers returned": the number of each word. Every contract that speaks of a refusal cites `number_of`. Document 02 [6], of 6, "nothing
-- held": "its number is not used again".
use Rattle.std.specs.Prelude.{ℕ, Result, Ok, Err}
use Rattle.refusal.specs.declared.Refusal.{Refusal}
use Rattle.refusal.specs.declared.Refusal.TheVariants.{Torn, NoLog, Position, Spent, Full, Length, Counts, NoReceipt, Tag, OtherQuestion, Roster, TooFew, NoRun, Line, Promised, Profile, Survey, Seed}

abbrev pub number_of : Refusal → ℕ
number_of Torn = 1
number_of NoLog = 2
number_of Position = 3
number_of Spent = 4
number_of Full = 5
number_of Length = 7
number_of Counts = 8
number_of NoReceipt = 9
number_of Tag = 10
number_of OtherQuestion = 11
number_of Roster = 12
number_of TooFew = 13
number_of NoRun = 14
number_of Line = 15
-- request [5]: "Turned away: 16 "promised""
number_of Promised = 16
-- document 02, [7]
number_of Profile = 17
-- document 02, [10]: "Turned away: 18 "survey""
number_of Survey = 18
-- document 02, [11]: "Turned away: 19 "seed""
number_of Seed = 19

-- 0 "done", or the refusal's number
abbrev pub outcome_number : Result Unit Refusal → ℕ
outcome_number (Ok done) = 0
outcome_number (Err r) = number_of r
