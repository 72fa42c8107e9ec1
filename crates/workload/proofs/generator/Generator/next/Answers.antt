-- `workload::generator::Generator::next` meets its contract.
use Rattle.std.proofs.Common.{refl}
use Rattle.workload.specs.Generator.{next}
use mathlib.Core.List.{[]}
use Rattle.octets.specs.Undivided.{Undivided}
use Rattle.workload.proofs.generator.Generator.next.Code.Mir.{function}
use Rattle.workload.proofs.generator.Generator.next.Goals as goal

pub undivided : Undivided [] function
undivided = refl

pub returns : goal.returns
unfolding next
returns c = record { draw = refl; state = refl }
