-- What the functions on a call's answer ask and give.
use Rattle.std.specs.Prelude.{ℕ, ◌<◌, ◌≡◌, ◌≢◌, true, List, Result, Ok, Err}
use Rattle.refusal.specs.Number.{number_of}
use Rattle.layout.specs.declared.Row.{Row}
use Rattle.layout.specs.Layout.{logs_of}
use Rattle.table.specs.Whole.{whole}
use Rattle.a2m.specs.Call.{refused}
use Rattle.refusal.specs.declared.Hashed.{Hashed}
use Rattle.refusal.specs.declared.Refused.{Refused}
use Rattle.a2m.specs.declared.Bounds.{Bounds}
use Rattle.script.specs.declared.Answer.{Answer}
use Rattle.script.specs.declared.Answer.TheVariants.{Bounded}
use Rattle.script.specs.Answer.{reply_answer}

-- a refusal other than 1 and 2 comes from a whole table that has the log
abbrev pub Named : List ℕ → ℕ → ℕ → Type 0
Named b g k = k ≢ 1 → k ≢ 2 → (whole b ≡ true) × (g < logs_of b)

-- the same of a change that was refused
abbrev pub ChangeNamed : List ℕ → ℕ → Result (Hashed Bounds) Refused → Type 0
ChangeNamed b g (Ok made) = Unit {0}
ChangeNamed b g (Err r) = Named b g (number_of r.why)

-- the answer to a change: with the low and high position that it gives, or with those of the row
abbrev pub change_answer : Result (Hashed Bounds) Refused → Row → Answer
change_answer (Ok made) row = Bounded 0 made.value.low made.value.high
change_answer (Err r) row = reply_answer (refused (number_of r.why)) row
