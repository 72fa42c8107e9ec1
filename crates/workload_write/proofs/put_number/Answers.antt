-- `workload_write::put_number` meets its contract.
use Rattle.octets.proofs.Parts.{byte-before}
use Rattle.decimal.specs.Decimal.{decimal_of}
use Rattle.std.proofs.Common.{◌∙◌}
use mathlib.Core.List.{[], ◌∷◌}
use mathlib.Core.Path.{refl}
use Rattle.octets.specs.Undivided.{Undivided}
use Rattle.workload_write.proofs.put_number.Code.Mir.{function}
use Rattle.workload_write.proofs.put_number.Goals as goal

pub undivided : Undivided ("decimal::write::put" ∷ []) function
undivided = refl

pub returns-clause-out_after : goal.returns-clause-out_after
returns-clause-out_after c = c.put.ensures.out_after ∙ byte-before c.args.out.now (decimal_of c.args.n) c.args.at 44 c.requires
