-- Document 02, [11]: the draws.
use Rattle.std.specs.Prelude.{◌≡◌, ℕ, zero, suc, ◌+◌, ◌*◌, ◌/◌, ◌%◌, ◌^◌, ◌≤◌, ◌<◌, cond, List, [], ◌∷◌, Option, None, Some, eqb, ltb}
use Rattle.std.specs.Int.Bits.{bit_xor}
use Rattle.workload.specs.declared.Draw.{Draw}
use Rattle.workload.specs.declared.Draw.TheVariants.{Append, Advance, Truncate, Lookup, End}
use Rattle.workload.specs.declared.Script.{Script}

-- a state mixed with itself, shifted left or right
abbrev pub mix_left : ℕ → ℕ → ℕ
mix_left n x = bit_xor x (x * 2 ^ n % 2 ^ 64)

abbrev pub mix_right : ℕ → ℕ → ℕ
mix_right n x = bit_xor x (x / 2 ^ n)

-- "the 64-bit xorshift generator with shifts left 13, right 7, left 17; each draw is the state after a step"
unfoldable pub next : ℕ → ℕ
next x = mix_left 17 (mix_right 7 (mix_left 13 x))

-- a call, and the state after its last draw
pub record Drawn : Type 0 where
  pub draw : Draw
  pub state : ℕ

-- "positions are the draw modulo 64, plus 1; values and digests are the whole draw"
abbrev pub position_of : ℕ → ℕ
position_of d = d % 64 + 1

-- "The next modulo 4 is the log"
abbrev pub log_of : ℕ → ℕ
log_of g = g % 4

-- "Then one draw for each field, in order", where g is the draw of the log; the state is the last draw
abbrev pub appended : ℕ → Drawn
appended g = record { draw = Append (log_of g) (next g); state = next g }

abbrev pub advanced : ℕ → Drawn
advanced g = record { draw = Advance (log_of g) (position_of (next g)) (next (next g)) (next (next (next g))); state = next (next (next g)) }

abbrev pub truncated : ℕ → Drawn
truncated g = record { draw = Truncate (log_of g) (position_of (next g)); state = next g }

abbrev pub looked_up : ℕ → Drawn
looked_up g = record { draw = Lookup (log_of g) (position_of (next g)); state = next g }

abbrev pub ended : ℕ → Drawn
ended g = record { draw = End (log_of g); state = g }

-- "0 to 3 append, 4 advance, 5 truncate, 6 lookup, 7 end"
abbrev pub picked : ℕ → ℕ → Drawn
picked k g = cond (ltb k 4) (appended g) (cond (eqb k 4) (advanced g) (cond (eqb k 5) (truncated g) (cond (eqb k 6) (looked_up g) (ended g))))

-- "One draw modulo 8 picks the call"
unfoldable pub drawn : ℕ → Drawn
drawn x = picked (next x % 8) (next (next x))

-- so many calls from a state on
unfoldable pub draws_from : ℕ → ℕ → List Draw
draws_from x zero = []
draws_from x (suc k) = (drawn x).draw ∷ draws_from (drawn x).state k

-- and the state after them
unfoldable pub state_after : ℕ → ℕ → ℕ
state_after x zero = x
state_after x (suc k) = state_after (drawn x).state k

-- the fields are in range: a log below 4, a position from 1 to 64, numbers below 2^64
abbrev pub InRange : Draw → Type 0
InRange (Append log value) = (log < 4) × (value < 2 ^ 64)
InRange (Advance log position digest value) = (log < 4) × (1 ≤ position) × (position ≤ 64) × (digest < 2 ^ 64) × (value < 2 ^ 64)
InRange (Truncate log position) = (log < 4) × (1 ≤ position) × (position ≤ 64)
InRange (Lookup log position) = (log < 4) × (1 ≤ position) × (position ≤ 64)
InRange (End log) = log < 4

-- a script draws its next call, and the calls after it are a script again
pub record Draws (s : Script) (d : Draw) (t : Script) : Type 0 where
  pub some : 0 < s.count
  pub draw : d ≡ (drawn s.seed).draw
  pub ranged : InRange d
  pub seed : t.seed ≡ (drawn s.seed).state
  pub count : t.count + 1 ≡ s.count

-- while one is left
abbrev pub DrawsNext : Script → Option Draw → Script → Type 0
DrawsNext s None t = (s.count ≡ 0) × (t ≡ s)
DrawsNext s (Some d) t = Draws s d t
