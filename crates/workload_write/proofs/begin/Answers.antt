-- `workload_write::begin` meets its contract.
use Rattle.std.proofs.Common.{sym, ◌∙◌, arith}
use Rattle.decimal.proofs.Theorems.{length-decimal}
use Rattle.workload_write.proofs.WriteLaws.{script-first, refused-first}
use mathlib.Core.List.{[], ◌∷◌}
use mathlib.Core.Path.{refl}
use Rattle.octets.specs.Undivided.{Undivided}
use Rattle.workload_write.proofs.begin.Code.Mir.{function}
use Rattle.workload_write.proofs.begin.Goals as goal

pub undivided : Undivided ("decimal::write::put" ∷ "octets::put" ∷ "refusal::U8FromRefusal::from" ∷ "workload::input::ask" ∷ []) function
undivided = refl

pub put-to-requires : goal.put-to-requires
put-to-requires c = omega (arith, length-decimal c.from.result)

pub bounds-out-to : goal.bounds-out-to
bounds-out-to c = omega (arith, c.put-to.ensures.value, c.put-to.auto.out, length-decimal c.from.result)

pub overflow_add-result : goal.overflow_add-result
overflow_add-result c = omega (arith, c.put-to.ensures.value, length-decimal c.from.result)

pub returns-in-Ok : goal.returns-in-Ok
returns-in-Ok c = let both = script-first _ c.in-Ok.script c.args.out.now c.put.new.out (sym c.ask.ensures ∙ c.in-Ok.is) c.put.ensures in record { value = both.0; out_after = both.1 }

pub returns-in-Err : goal.returns-in-Err
returns-in-Err c =
    let both = refused-first _ c.in-Err.why c.from.result c.put-to.result c.args.out.now (sym c.ask.ensures ∙ c.in-Err.is) c.from.ensures (omega arith) c.put-to.ensures.value c.put-to.ensures.out_after in
    record { value = both.0; out_after = both.1 }
