-- `hmac::mask` meets its contract.
use Rattle.std.specs.Int.Bits.{bit_xor}
use Rattle.std.proofs.Common.{◌≡◌, ℕ, List, [], ◌++◌, length, get_or, take, drop, set, ap, ap₂, ◌∙◌, add-one, append-nil, arith, take_all, drop_of_length-le}
use Rattle.hmac.proofs.Keys.{map-step}
use Rattle.hmac.specs.Hmac.{masked}
use Rattle.hmac.proofs.mask.Goals as goal

pub loop-byte-preserved : goal.loop-byte-preserved
loop-byte-preserved c = let size : length c.args.block ≡ 64 = omega arith in
    let f : ℕ → ℕ = λ b. bit_xor b c.args.x in
    let i : ℕ = c.loop-byte.byte-index in
    (omega arith, rw add-one (ap (λ (b : List ℕ). set b i (f (get_or b i 0))) c.loop-byte.invariant.1 ∙ map-step f c.args.block i (omega arith)))

pub returns : goal.returns
unfolding masked
returns c = let i : ℕ = c.loop-byte.byte-index in
    let all : take i c.args.block ≡ c.args.block = take_all i c.args.block (omega arith) in
    let none : drop i c.args.block ≡ [] = drop_of_length-le c.args.block {i = i} (omega arith) in
    c.loop-byte.invariant.1 ∙ ap₂ (λ (p q : List ℕ). masked c.args.x p ++ q) all none ∙ append-nil (masked c.args.x c.args.block)
