use Rattle.std.proofs.Common.{◌≡◌, ◌<◌, ◌-◌, ◌^◌, drop}
use Rattle.std.proofs.Math.Seq.{paste}
use Rattle.decimal.specs.Decimal.{digits_of}
use Rattle.decimal.proofs.write.put_digits.Given as goal

abbrev pub invariant-loop-i : goal.invariant-loop-i
invariant-loop-i l = (l.rest < 10 ^ (l.k - l.i)) × (drop l.i (digits_of l.k l.n) ≡ digits_of (l.k - l.i) l.rest) × (l.out ≡ paste l.initial.out l.at (digits_of l.k l.n) l.i)
