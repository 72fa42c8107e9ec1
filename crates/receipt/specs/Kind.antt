-- Document 01's numbers of the kinds: 0 unassigned, 1 assigned, 2 skipped, 3 forgotten.
use Rattle.std.specs.Prelude.{ℕ, ◌≡◌, ◌<◌, Result, Ok, Err}
use Rattle.refusal.specs.declared.Refusal.{Refusal}
use Rattle.receipt.specs.declared.Kind.{Kind}
use Rattle.receipt.specs.declared.Kind.TheVariants.{Unassigned, Assigned, Skipped, Forgotten}

abbrev pub kind_number : Kind → ℕ
kind_number Unassigned = 0
kind_number Assigned = 1
kind_number Skipped = 2
kind_number Forgotten = 3

-- what a byte is read as: the kind that has it for its number, or none
abbrev pub IsKindOf : ℕ → Result Kind Refusal → Type 0
IsKindOf n (Ok kind) = n ≡ kind_number kind
IsKindOf n (Err why) = 3 < n
