use Rattle.std.proofs.Common.{◌≡◌, leb, drop}
use Rattle.table.specs.Reserve.{sum}
use Rattle.table_format.proofs.reserves_fit.Given as goal

abbrev pub invariant-loop-reserve : goal.invariant-loop-reserve
invariant-loop-reserve l = leb (sum l.reserves) l.slots ≡ leb (sum (drop l.reserve-index l.reserves)) l.left
