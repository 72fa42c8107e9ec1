use Rattle.std.proofs.Common.{◌≡◌, ◌+◌, length, take}
use Rattle.octets.specs.Octets.{splice}
use Rattle.workload.specs.Text.{numbers_text}
use Rattle.workload_write.proofs.put_numbers.Given as goal

abbrev pub invariant-loop-n : goal.invariant-loop-n
invariant-loop-n l = record {
  place : l.to ≡ l.at + length (numbers_text (take l.n-index l.numbers));
  text : l.out ≡ splice l.initial.out l.at (numbers_text (take l.n-index l.numbers));
}
