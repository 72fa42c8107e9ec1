use Rattle.std.proofs.Common.{◌≡◌, ◌+◌, ◌≤◌, length, drop}
use Rattle.line.specs.Fields.{fields_of}
use Rattle.line.proofs.FieldLaws.{Reading}
use Rattle.line_fields.proofs.numbers.Given as given

abbrev pub invariant-loop-v : given.invariant-loop-v
invariant-loop-v l = record {
  short : l.n + length l.rest ≤ length l.s;
  size : length l.values ≡ 19;
  come : drop l.n (fields_of (drop l.from l.s)) ≡ fields_of l.rest;
  reading : Reading (fields_of (drop l.from l.s)) l.n l.values;
}

abbrev pub decreases-loop-v : given.decreases-loop-v
decreases-loop-v l = length l.rest
