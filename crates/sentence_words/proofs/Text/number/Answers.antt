-- `sentence_words::Text::number` meets its contract.
use Rattle.std.proofs.Common.{◌+◌, ◌≤◌, ◌≡◌, ◌++◌, take, length, ap, arith, length-append}
use Rattle.decimal.proofs.Theorems.{length-decimal}
use Rattle.sentence_words.proofs.TextLaws.{length-so_far, then, zeros-behind}
use Rattle.decimal.specs.Decimal.{decimal_of}
use mathlib.Core.List.{[], ◌∷◌}
use mathlib.Core.Path.{refl}
use Rattle.octets.specs.Undivided.{Undivided}
use Rattle.sentence_words.proofs.Text.number.Code.Mir.{function}
use Rattle.sentence_words.proofs.Text.number.Goals as goal

pub undivided : Undivided ("decimal::write::put" ∷ []) function
undivided = refl

pub put-self-inside-requires : goal.put-self-inside-requires
put-self-inside-requires c = omega (arith, length-decimal c.args.n, length-so_far c.self.inside.bytes c.args.self.now c.self.inside.len (omega arith) c.self.view_is)

pub invariant_of-self : goal.invariant_of-self
invariant_of-self c =
    let t = c.self.inside in
    let n = decimal_of c.args.n in
    let so_far = length-so_far t.bytes c.args.self.now t.len (omega arith) c.self.view_is in
    let room : t.len + length n ≤ 248 = omega (arith, length-decimal c.args.n) in
    let put = c.put-self-inside.ensures in
    (omega (arith, put.value), rw (put.value, put.out_after) (zeros-behind t.bytes c.args.self.now t.len (omega arith) c.self.view_is 248 c.self.invariant.1 n (omega arith)))

pub returns : goal.returns
returns c =
    let n = decimal_of c.args.n in
    let put = c.put-self-inside in
    let digits : take put.result put.new.out ≡ c.args.self.now ++ n =
    rw (put.ensures.value, put.ensures.out_after) (then c.self.inside.bytes c.args.self.now c.self.inside.len (omega arith) c.self.view_is n)
    in
    record { digits = digits; short = omega (arith, ap length digits, length-append c.args.self.now n, length-decimal c.args.n) }
