use Rattle.std.proofs.Common.{◌≤◌}
use Rattle.vectors.proofs.million.Given as given

abbrev pub invariant-loop-at : given.invariant-loop-at
invariant-loop-at l = record {
  within : l.s.count ≤ 1000000;
  behind : l.s.count ≤ l.at;
  blocks : l.s.blocks ≤ l.s.count;
}
