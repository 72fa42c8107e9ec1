-- `workload::ScriptIterator::next` meets its contract.
use mathlib.Core.List.{[], ◌∷◌}
use Rattle.std.proofs.Common.{refl, arith}
use Rattle.octets.specs.Undivided.{Undivided}
use Rattle.workload.proofs.GeneratorLaws.{draw_ranges}
use Rattle.workload.proofs.ScriptIterator.next.Code.Mir.{function}
use Rattle.workload.proofs.ScriptIterator.next.Goals as goal

pub undivided : Undivided ("workload::generator::Generator::pick" ∷ []) function
undivided = refl

pub returns-clause-steps : goal.returns-clause-steps
returns-clause-steps c =
    let pick = c.pick-draw.ensures in
    record {
      some = omega arith;
      draw = pick.draw;
      ranged = rw pick.draw (draw_ranges c.args.self.now.seed (omega arith));
      seed = pick.state;
      count = omega arith;
    }
