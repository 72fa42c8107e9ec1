-- `workload_write::fill` meets its contract.
use Rattle.std.proofs.Common.{arith}
use Rattle.workload_write.proofs.FillLaws.{filling-none, line-fits, filling-more}
use mathlib.Core.List.{[], ◌∷◌}
use mathlib.Core.Path.{refl}
use Rattle.octets.specs.Undivided.{Undivided}
use Rattle.workload_write.proofs.fill.Code.Mir.{function}
use Rattle.workload_write.proofs.fill.Goals as goal

pub undivided : Undivided ("workload::ScriptIterator::next" ∷ "workload_write::put_line" ∷ []) function
undivided = refl

pub loop-out-init : goal.loop-out-init
loop-out-init c = filling-none c.args.out.now c.args.script.now

pub put_line-to-requires : goal.put_line-to-requires
put_line-to-requires c = omega (arith, c.loop-out.auto.out, line-fits c.loop-out.script c.next.new.self c.in-Some.draw c.in-Some.ensures.steps)

pub loop-out-preserved : goal.loop-out-preserved
loop-out-preserved c =
    let l = c.loop-out in
    let put = c.put_line-to in
    filling-more c.args.out.now c.args.script.now l.out l.script l.to l.invariant (omega (arith, l.auto.out)) c.in-Some.draw c.next.new.self c.in-Some.ensures.steps
    put.result put.new.out put.ensures.value put.ensures.out_after
