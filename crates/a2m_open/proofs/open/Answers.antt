-- `a2m_open::open` meets its contract.
use Rattle.a2m.proofs.Answered.{as_same}
use Rattle.a2m.proofs.OpenedLaws.{open-torn, check-whole, open-beyond, open-found, whole_long, whole-counted}
use Rattle.table.specs.declared.Whole.{Whole}
use Rattle.table.specs.Whole.{check_of}
use native.Mathlib.Omega.{arith}
use Prim.Native.Nat.{ℕ, ◌-◌}
use mathlib.Core.Path.{◌≡◌, ap, ◌∙◌}
use mathlib.Core.List.{List}
use lib.ListN.{length, take, drop}
use lib.Seq.{take_all}
use Rattle.std.specs.Prelude.{Result}
use Rattle.refusal.specs.declared.Refusal.{Refusal}
use Rattle.a2m_open.proofs.open.Goals as goal

-- the part of the table that the check was lent is all of it
all_of : (b : List ℕ) (g : ℕ) {r : Result Whole Refusal} → r ≡ check_of (take (length b - 0) (drop 0 b)) g → r ≡ check_of b g
all_of b g e = e ∙ ap (λ (l : List ℕ). check_of l g) (take_all (length b - 0) b (omega arith))

pub returns-in_err-whole : goal.returns-in_err-whole
returns-in_err-whole c = as_same _ c.from_residual.ensures ∙ open-torn c.args.table.now c.args.log _ (all_of c.args.table.now c.args.log c.in_err-whole.ensures)

pub counts_of-counts-requires : goal.counts_of-counts-requires
counts_of-counts-requires c = whole_long c.args.table.now (check-whole c.args.table.now c.args.log _ (all_of c.args.table.now c.args.log c.in_ok-whole.ensures)).0

pub returns-then-counts-log : goal.returns-then-counts-log
returns-then-counts-log c = open-beyond c.args.table.now c.args.log (check-whole c.args.table.now c.args.log _ (all_of c.args.table.now c.args.log c.in_ok-whole.ensures)).0 (omega (arith, c.if-counts-log.true, c.counts_of-counts.ensures.are.0))

pub invariant_of-row_at : goal.invariant_of-row_at
invariant_of-row_at c =
    let w = check-whole c.args.table.now c.args.log _ (all_of c.args.table.now c.args.log c.in_ok-whole.ensures) in
    record { counted = whole-counted c.args.table.now _ _ w.0 c.counts_of-counts.ensures.are.0 c.counts_of-counts.ensures.are.1 }

pub free_of-free-requires : goal.free_of-free-requires
free_of-free-requires c = whole_long c.args.table.now (check-whole c.args.table.now c.args.log _ (all_of c.args.table.now c.args.log c.in_ok-whole.ensures)).0

pub returns : goal.returns
returns c =
    let w = check-whole c.args.table.now c.args.log _ (all_of c.args.table.now c.args.log c.in_ok-whole.ensures) in
    open-found c.args.table.now c.args.log w.0 c.counts_of-counts.result.logs c.counts_of-counts.result.slots c.free_of-free.result _ _ _ c.row_at-row.result c.if-counts-log.false c.counts_of-counts.ensures.are.0 c.counts_of-counts.ensures.are.1 c.row_at-row.ensures c.free_of-free.ensures.0 w.1 w.2 w.3
