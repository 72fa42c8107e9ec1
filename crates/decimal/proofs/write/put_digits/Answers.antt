-- `decimal::write::put_digits` meets its contract.
use Rattle.std.proofs.Common.{◌≡◌, ℕ, suc, ◌+◌, ◌-◌, ◌<◌, ◌^◌, ◌%◌, ◌/◌, List, [], ◌∷◌, drop, set, refl, ap, subst, ◌∙◌, arith}
use Rattle.std.proofs.Math.Seq.{paste}
use Rattle.decimal.specs.Decimal.{digits_of}
use Rattle.decimal.proofs.Laws.{times_ten, small_power, rest_lt, digits-left, put_next, pasted, length-digits_of}
use Rattle.octets.specs.Undivided.{Undivided}
use Rattle.decimal.proofs.write.put_digits.Code.Mir.{function}
use Rattle.decimal.proofs.write.put_digits.Goals as goal

pub undivided : Undivided ("decimal::write::divided" ∷ "decimal::write::power" ∷ []) function
undivided = refl

pub divided-digit-requires : goal.divided-digit-requires
divided-digit-requires c =
    let m : ℕ = c.args.k - 1 - c.loop-i.i in
    let e : c.args.k - c.loop-i.i ≡ suc m = omega arith in
    (times_ten c.loop-i.rest m c.power.result (subst (λ (j : ℕ). c.loop-i.rest < 10 ^ j) e c.loop-i.invariant.0) c.power.ensures, small_power m c.power.result (omega arith) c.power.ensures)

pub loop-i-preserved : goal.loop-i-preserved
loop-i-preserved c =
    let D : List ℕ = digits_of c.args.k c.args.n in
    let i : ℕ = c.loop-i.i in
    let m : ℕ = c.args.k - 1 - i in
    let e : c.args.k - i ≡ suc m = omega arith in
    let n : c.args.k - (i + 1) ≡ m = omega arith in
    let q : drop i D ≡ digits_of (suc m) c.loop-i.rest = c.loop-i.invariant.1 ∙ ap (λ (j : ℕ). digits_of j c.loop-i.rest) e in
    let r : c.divided-digit.result.1 ≡ c.loop-i.rest % 10 ^ m = c.divided-digit.ensures.1 ∙ ap (λ (p : ℕ). c.loop-i.rest % p) c.power.ensures in
    let d : c.divided-digit.result.0 ≡ c.loop-i.rest / 10 ^ m = c.divided-digit.ensures.0 ∙ ap (λ (p : ℕ). c.loop-i.rest / p) c.power.ensures in
    rw (n, r, d) (
      rest_lt m c.loop-i.rest,
      digits-left D i m c.loop-i.rest q,
      ap (λ (l : List ℕ). set l (c.args.at + i) (48 + c.loop-i.rest / 10 ^ m)) c.loop-i.invariant.2
          ∙ put_next c.args.out.now D c.args.at i m c.loop-i.rest (omega (arith, length-digits_of c.args.k c.args.n)) (omega (arith, length-digits_of c.args.k c.args.n)) q,
    )

pub returns : goal.returns
returns c =
    let D : List ℕ = digits_of c.args.k c.args.n in
    let e : c.loop-i.i ≡ c.args.k = omega arith in
    c.loop-i.invariant.2 ∙ ap (paste c.args.out.now c.args.at D) e ∙ pasted c.args.out.now D c.args.at c.args.k (length-digits_of c.args.k c.args.n)
