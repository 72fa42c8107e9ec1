-- Document 01, "A table is whole if ..", and the clauses of requests [1], [4] and (in `whole_image`) [5], as a test on bytes.
use Rattle.std.specs.Prelude.{ℕ, List, [], ◌∷◌, Bool, true, false, not, ◌&&◌, length, eqb, Result, Ok, Err}
use Rattle.std.proofs.Math.Option.{Option}
use Rattle.refusal.specs.declared.Refusal.{Refusal}
use Rattle.refusal.specs.declared.Refusal.TheVariants.{Torn}
use Rattle.refusal.specs.Order.{fault, first_fault}
use Rattle.layout.specs.Layout.{read_table, stock_of}
use Rattle.layout.specs.Tests.{header_fits, pads_fit}
use Rattle.table.specs.declared.Whole.{Whole}
use Rattle.table.specs.Chains.{last_of}
use Rattle.table.specs.Free.{free_chain, joint}
use Rattle.table.specs.Reserve.{lack_but}
use Rattle.table.specs.WholeImage.{whole_image}

-- request [1]: "A table whose number differs is torn."; request [4], of the last free slot: "A table that names another is torn."
unfoldable pub stock_fits : List ℕ → Bool
stock_fits b = eqb (stock_of b).count (length (free_chain (read_table b))) && eqb (stock_of b).last (joint (read_table b))

-- "A table is whole if the length, constants and counts are as above, and: .. Anything else is torn."
unfoldable pub whole : List ℕ → Bool
whole b = header_fits b && pads_fit b && whole_image (read_table b) && stock_fits b

-- number 1: "table not whole"
unfoldable pub whole_refusal : List ℕ → Option ℕ
whole_refusal b = first_fault (fault 1 (not (whole b)) ∷ [])

-- what the check inside finds: torn; or whole, with the number of free slots, the last of the free chain, and what the other logs lack of their reserves
unfoldable pub checked : Bool → List ℕ → ℕ → Result Whole Refusal
checked true c others = Ok (record { free = length c; last = last_of c; others = others })
checked false c others = Err Torn

-- the check for a call on log g
unfoldable pub check_of : List ℕ → ℕ → Result Whole Refusal
check_of b g = checked (whole b) (free_chain (read_table b)) (lack_but (read_table b) g)
