-- `decimal::write::put` meets its contract.
use Rattle.std.proofs.Common.{◌≡◌, ℕ, ◌+◌, ◌-◌, ◌^◌, [], ◌∷◌, set, length-set, refl, sym, ap, ◌∙◌, arith}
use Rattle.decimal.proofs.Laws.{length-digits_of, wide-as, twenty}
use Rattle.decimal.specs.Decimal.{digits_of, decimal_of}
use Rattle.octets.specs.Octets.{splice}
use Rattle.octets.proofs.Parts.{byte-before}
use Rattle.octets.specs.Undivided.{Undivided}
use Rattle.decimal.proofs.write.put.Code.Mir.{function}
use Rattle.decimal.proofs.write.put.Goals as goal
use Rattle.decimal.proofs.write.put.Goals.{then-k-eq20, else-k-eq20}

pub undivided : Undivided ("decimal::write::power" ∷ "decimal::write::put_digits" ∷ "decimal::write::width" ∷ []) function
undivided = refl

pub bounds-out-at : goal.bounds-out-at
bounds-out-at c = omega (arith, wide-as c.width-k.result c.args.n c.width-k.ensures.3)

pub put_digits-requires : goal.put_digits-requires
put_digits-requires c = (omega arith, omega arith, omega (arith, length-set c.args.out.now c.args.at 49, wide-as c.width-k.result c.args.n c.width-k.ensures.3))

pub put_digits-requires-else-k-eq20 : goal.put_digits-requires-else-k-eq20
put_digits-requires-else-k-eq20 c = (omega (arith, c.if-k-eq20.false), c.width-k.ensures.2, omega (arith, wide-as c.width-k.result c.args.n c.width-k.ensures.3))

pub returns-clause-value : goal.returns-clause-value
returns-clause-value c = ap (λ (k : ℕ). c.args.at + k) (sym (wide-as c.width-k.result c.args.n c.width-k.ensures.3))

pub returns-clause-out_after : goal.returns-clause-out_after
returns-clause-out_after c =
    elim c.if-k-eq20.branch [
      | then-k-eq20 w ↦
          let d : decimal_of c.args.n ≡ 49 ∷ digits_of 19 (c.args.n - 10 ^ 19) = twenty c.width-k.result c.args.n (omega arith) w.if-k-eq20.true c.width-k.ensures.3 (c.width-k.ensures.4 (omega arith)) in
          w.out-is
          ∙ w.put_digits.ensures
          ∙ ap (λ (m : ℕ). splice (set c.args.out.now c.args.at 49) (c.args.at + 1) (digits_of 19 (c.args.n - m))) w.power.ensures
          ∙ byte-before c.args.out.now (digits_of 19 (c.args.n - 10 ^ 19)) c.args.at 49 (omega (arith, length-digits_of 19 (c.args.n - 10 ^ 19), wide-as c.width-k.result c.args.n c.width-k.ensures.3, w.if-k-eq20.true))
          ∙ ap (splice c.args.out.now c.args.at) (sym d)
      | else-k-eq20 w ↦ w.out-is ∙ w.put_digits-else-k-eq20.ensures ∙ ap (splice c.args.out.now c.args.at) (sym c.width-k.ensures.3)
    ]
