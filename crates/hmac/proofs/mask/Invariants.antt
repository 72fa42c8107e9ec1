use Rattle.std.specs.Int.Bits.{bit_xor}
use Rattle.std.proofs.Common.{◌≡◌, ◌≤◌, ◌++◌, map, take, drop}
use Rattle.hmac.proofs.mask.Given as given

abbrev pub invariant-loop-byte : given.invariant-loop-byte
invariant-loop-byte l = (l.byte-index ≤ 64) × (l.byte-items ≡ map (λ b. bit_xor b l.x) (take l.byte-index l.fn.block) ++ drop l.byte-index l.fn.block)
