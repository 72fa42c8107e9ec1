-- `runs::WholeRun::value` meets its contract: the first 32 bytes of those from value k on.
use mathlib.Core.Path.{ap, ◌∙◌}
use Prim.Native.Nat.{◌*◌}
use lib.ListN.{take}
use Rattle.std.proofs.lemmas.List.{take_rest}
use Rattle.runs.proofs.WholeRun.value.Goals as goal

pub returns : goal.returns
returns c =
    let chunk = rw c.unwrap.ensures at c.first_chunk.ensures.cases in
    chunk.same ∙ ap (take 32) (take_rest c.args.self.now.values.now (c.args.k * 32))
