-- `script_run::gap` is safe: a decimal has at most 20 digits.
use Rattle.std.proofs.Common.{[], ◌∷◌, length-take, refl, arith}
use Rattle.decimal.proofs.Theorems.{length-decimal, put-within}
use Rattle.octets.specs.Undivided.{Undivided}
use Rattle.script_run.proofs.gap.Code.Mir.{function}
use Rattle.script_run.proofs.gap.Goals as goal

pub undivided : Undivided ("decimal::write::put" ∷ "program::fail" ∷ []) function
undivided = refl

pub put-to-requires : goal.put-to-requires
put-to-requires g c = omega (arith, length-decimal c.args.number)

pub slice_bounds-digits-end : goal.slice_bounds-digits-end
slice_bounds-digits-end g c = put-within _ c.put-to.new.out c.put-to.result c.args.number refl c.put-to.ensures.value c.put-to.ensures.out_after

pub slice_bounds-write_all-end-2 : goal.slice_bounds-write_all-end-2
slice_bounds-write_all-end-2 g c = let q = put-within _ c.put-to.new.out c.put-to.result c.args.number refl c.put-to.ensures.value c.put-to.ensures.out_after in simp length-take (omega arith)
