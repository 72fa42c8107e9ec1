-- Chains of slots: what document 01's "chain" is.
use Rattle.std.specs.Prelude.{ℕ, zero, suc, List, [], ◌∷◌, map, Bool, true, false, cond, ◌&&◌, length, eqb, leb}
use Rattle.std.proofs.Math.Option
use Rattle.std.proofs.Math.Option.{Option, none, some}
use Rattle.layout.specs.Image.{Entry, Slot, slot_at, entry_of}

-- the slots from s to the chain's end, each of the given owner; none where the chain leaves the table or its owner, or is longer than the fuel
unfoldable pub walk : List Slot → ℕ → ℕ → ℕ → Option (List ℕ)
walk slots o zero s = cond (eqb s 0) (some []) none
walk slots o (suc fuel) s =
    elim (eqb s 0) [
      | true ↦ some []
      | false ↦
          elim (leb s (length slots) && eqb (slot_at slots s).owner o) [
            | true ↦ Option.map (λ (c : List ℕ). s ∷ c) (walk slots o fuel (slot_at slots s).next)
            | false ↦ none
          ]
    ]

-- the chain from s reaches 0; no chain is longer than the table
unfoldable pub reaches : List Slot → ℕ → ℕ → Bool
reaches slots o s = elim (walk slots o (length slots) s) [ none ↦ false | some c ↦ true ]

-- its slots in order; the empty list where it does not reach 0
unfoldable pub chain : List Slot → ℕ → ℕ → List ℕ
chain slots o s = elim (walk slots o (length slots) s) [ none ↦ [] | some c ↦ c ]

-- the last element, or 0
unfoldable pub last_of : List ℕ → ℕ
last_of [] = 0
last_of (x ∷ []) = x
last_of (x ∷ y ∷ rest) = last_of (y ∷ rest)

abbrev pub positions_of : List Slot → List ℕ → List ℕ
positions_of slots c = map (λ (s : ℕ). (slot_at slots s).position) c

-- the entries along a chain
abbrev pub entries_of : List Slot → List ℕ → List Entry
entries_of slots c = map (λ (s : ℕ). entry_of (slot_at slots s)) c
