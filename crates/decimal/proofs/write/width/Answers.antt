-- `decimal::write::width` meets its contract.
use Rattle.std.proofs.Common.{◌≡◌, ℕ, ◌≤◌, ◌<◌, ◌-◌, ◌^◌, [], ◌∷◌, refl, subst, arith}
use Rattle.decimal.proofs.Laws.{of_width, below}
use Rattle.octets.specs.Undivided.{Undivided}
use Rattle.decimal.proofs.write.width.Code.Mir.{function}
use Rattle.decimal.proofs.write.width.Goals as goal

pub undivided : Undivided ("decimal::write::least_width" ∷ "decimal::write::power" ∷ []) function
undivided = refl

pub returns-then-n-power : goal.returns-then-n-power
returns-then-n-power c =
    let e : c.args.n < 10 ^ c.loop-k.k = omega arith in
    let l = c.loop-k.invariant.1 in
    (c.loop-k.invariant.0, omega arith, e, of_width c.loop-k.k c.args.n c.loop-k.invariant.0 (omega arith) e l, l)

pub returns : goal.returns
returns c =
    let e : c.args.n < 10 ^ 20 = below c.args.n 20 (omega arith) (omega arith) in
    let k : c.loop-k.k ≡ 20 = omega arith in
    let l : 1 < 20 → 10 ^ 19 ≤ c.args.n = subst (λ (j : ℕ). 1 < j → 10 ^ (j - 1) ≤ c.args.n) k c.loop-k.invariant.1 in
    (omega arith, omega arith, e, of_width 20 c.args.n (omega arith) (omega arith) e l, l)
