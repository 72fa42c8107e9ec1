-- `script_calls::row_of` meets its contract.
use Rattle.std.proofs.Common.{[], ◌∷◌, refl, arith}
use Rattle.a2m.proofs.OpenedLaws.{whole_long, whole-counted}
use Rattle.octets.specs.Undivided.{Undivided}
use Rattle.script_calls.proofs.row_of.Code.Mir.{function}
use Rattle.script_calls.proofs.row_of.Goals as goal

pub undivided : Undivided ("layout_header::counts_of" ∷ "layout_rows::row_at" ∷ []) function
undivided = refl

pub counts_of-requires : goal.counts_of-requires
counts_of-requires c = whole_long c.args.table.now c.requires.0

pub invariant_of-lent : goal.invariant_of-lent
invariant_of-lent c = record { counted = whole-counted c.args.table.now c.counts_of.result.logs c.counts_of.result.slots c.requires.0 c.counts_of.ensures.are.0 c.counts_of.ensures.are.1 }

pub row_at-requires : goal.row_at-requires
row_at-requires c = omega (arith, c.requires.1, c.counts_of.ensures.are.0)
