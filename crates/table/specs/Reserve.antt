-- Request [5]: what logs hold, and what they lack of the slots promised to them.
use Rattle.std.specs.Prelude.{ℕ, suc, ◌+◌, ◌-◌, List, [], ◌∷◌, cond, length, eqb}
use Rattle.layout.specs.declared.Row.{Row}
use Rattle.layout.specs.Image.{Slot, Image}
use Rattle.table.specs.Chains.{chain}

-- numbers added up
unfoldable pub sum : List ℕ → ℕ
sum [] = 0
sum (x ∷ xs) = x + sum xs

-- how many entries log g holds: its chain's length
abbrev pub held_in : List Slot → ℕ → Row → ℕ
held_in slots g r = length (chain slots (suc g) r.first)

-- what it lacks of its reserve; a log that holds more lacks nothing
abbrev pub lack_in : List Slot → ℕ → Row → ℕ
lack_in slots g r = r.reserve - held_in slots g r

-- what the logs from k on lack together, all but log g
unfoldable pub lack_from : List Slot → ℕ → ℕ → List Row → ℕ
lack_from slots g k [] = 0
lack_from slots g k (r ∷ rs) = cond (eqb k g) 0 (lack_in slots k r) + lack_from slots g (suc k) rs

-- "what the other logs still lack of their reserves": all but log g
unfoldable pub lack_but : Image → ℕ → ℕ
lack_but m g = lack_from m.slots g 0 m.rows

-- what "its logs together lack of their reserves": the logs are 0 to G - 1, so none is left out
unfoldable pub lack_all : Image → ℕ
lack_all m = lack_but m (length m.rows)
