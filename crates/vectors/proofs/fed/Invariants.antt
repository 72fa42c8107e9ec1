use Rattle.sha256_digest.specs.Absorbed.{absorbed}
use Rattle.sha256_running.specs.Running.{state_of}
use Rattle.std.proofs.Common.{◌≡◌, ◌+◌, ◌≤◌, length}
use Rattle.vectors.proofs.fed.Given as given

abbrev pub invariant-loop-n : given.invariant-loop-n
invariant-loop-n l = record {
  growing : 1 ≤ l.n;
  counted : l.s.count + length l.rest ≡ l.initial.s.count + length l.m;
  within : l.s.blocks ≤ l.s.count;
  absorbs : absorbed (state_of l.s) l.rest ≡ absorbed (state_of l.initial.s) l.m;
}

abbrev pub decreases-loop-n : given.decreases-loop-n
decreases-loop-n l = length l.rest
