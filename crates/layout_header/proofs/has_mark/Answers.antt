-- `layout_header::has_mark` meets its contract.
use mathlib.Core.Path.{ap, ◌∙◌}
use Prim.Native.Nat.{ℕ}
use native.Mathlib.Omega.{arith}
use lib.Dec.{eqb}
use Rattle.layout.specs.Layout.{mark_number}
use Rattle.layout.proofs.HeaderLaws.{mark-test}
use Rattle.layout_header.proofs.has_mark.Goals as goal

pub returns : goal.returns
returns c = ap (λ (n : ℕ). eqb n mark_number) c.number_at.ensures.0 ∙ mark-test c.args.table.now (λ i. omega (arith, c.type_inv.table i)) c.requires
