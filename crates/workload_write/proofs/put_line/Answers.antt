-- `workload_write::put_line` meets its contract.
use Rattle.std.proofs.Common.{List, ℕ, ◌+◌, length, ap, ◌∙◌, arith}
use Rattle.octets.specs.Octets.{splice}
use Rattle.workload_write.proofs.WriteLaws.{call_length, call-put}
use mathlib.Core.List.{[], ◌∷◌}
use mathlib.Core.Path.{refl}
use Rattle.octets.specs.Undivided.{Undivided}
use Rattle.workload_write.proofs.put_line.Code.Mir.{function}
use Rattle.workload_write.proofs.put_line.Goals as goal

pub undivided : Undivided ("octets::put" ∷ "workload_write::put_fields" ∷ "workload_write::word" ∷ []) function
undivided = refl

pub put-requires : goal.put-requires
put-requires c = omega (arith, call_length c.args.draw, ap length c.word-word.ensures)

pub put_fields-to-requires : goal.put_fields-to-requires
put_fields-to-requires c = omega (arith, call_length c.args.draw, ap length c.word-word.ensures, c.put.auto.out)

pub bounds-out-to : goal.bounds-out-to
bounds-out-to c = omega (arith, call_length c.args.draw, ap length c.word-word.ensures, c.put_fields-to.ensures.value, c.put_fields-to.auto.out, c.put.auto.out)

pub overflow_add-result : goal.overflow_add-result
overflow_add-result c = omega (arith, call_length c.args.draw, ap length c.word-word.ensures, c.put_fields-to.ensures.value)

pub returns : goal.returns
returns c =
    let word = c.word-word.ensures in
    let both =
    call-put c.args.draw c.args.out.now c.args.at (c.args.at + length c.word-word.result.now) c.put_fields-to.result c.requires
    (ap (λ (w : List ℕ). c.args.at + length w) word) (c.put.ensures ∙ ap (splice c.args.out.now c.args.at) word)
    c.put_fields-to.ensures.value c.put_fields-to.ensures.out_after
    in
    record { value = both.0; out_after = both.1 }
