-- `printing::number` is safe: a decimal has at most 20 digits.
use mathlib.Core.Path.{refl}
use mathlib.Core.List.{[], ◌∷◌}
use native.Mathlib.Omega.{arith}
use lib.ListN.{length-take}
use Rattle.decimal.proofs.Theorems.{length-decimal, put-within}
use Rattle.octets.specs.Undivided.{Undivided}
use Rattle.printing.proofs.number.Code.Mir.{function}
use Rattle.printing.proofs.number.Goals as goal

pub undivided : Undivided ("decimal::write::put" ∷ "printing::text" ∷ []) function
undivided = refl

pub put-to-requires : goal.put-to-requires
put-to-requires g c = omega (arith, length-decimal c.args.n)

pub slice_bounds-digits-end : goal.slice_bounds-digits-end
slice_bounds-digits-end g c = let p = c.put-to in put-within _ p.new.out p.result c.args.n refl p.ensures.value p.ensures.out_after

pub slice_bounds-text-end : goal.slice_bounds-text-end
slice_bounds-text-end g c = let p = c.put-to in
    let q = put-within _ p.new.out p.result c.args.n refl p.ensures.value p.ensures.out_after in
    simp length-take (omega arith)
