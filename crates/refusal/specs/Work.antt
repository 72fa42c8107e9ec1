-- Document 02 [2]: what a call that counts blocks answers.
use Rattle.std.specs.Prelude.{ℕ, Result, Ok, Err}
use Rattle.refusal.specs.Number.{number_of}
use Rattle.refusal.specs.declared.Refusal.{Refusal}
use Rattle.refusal.specs.declared.Hashed.{Hashed}
use Rattle.refusal.specs.declared.Refused.{Refused}

-- 0 "done", or the refusal's number
abbrev pub worked_number : {T : Type 0} → Result (Hashed T) Refused → ℕ
worked_number (Ok done) = 0
worked_number (Err refused) = number_of refused.why

-- "how many 64-byte blocks it compressed"
abbrev pub worked_blocks : {T : Type 0} → Result (Hashed T) Refused → ℕ
worked_blocks (Ok done) = done.blocks
worked_blocks (Err refused) = refused.blocks

-- "0 .. for whatever is refused before it hashes"
abbrev pub unhashed : Refusal → Refused
unhashed why = record { why = why; blocks = 0 }
