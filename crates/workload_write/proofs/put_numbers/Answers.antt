-- `workload_write::put_numbers` meets its contract.
use Rattle.std.proofs.Common.{◌≡◌, ℕ, List, ◌+◌, ◌≤◌, ◌∷◌, ◌++◌, length, take, get_or, sym, ap, ap₂, ◌∙◌, arith, length-append}
use Rattle.octets.specs.Octets.{splice}
use Rattle.octets.proofs.Parts.{splice-append, splice-nil}
use Rattle.decimal.specs.Decimal.{decimal_of}
use Rattle.workload.specs.Text.{numbers_text}
use Rattle.workload_write.proofs.WriteLaws.{numbers-start, numbers_more, numbers-part}
use mathlib.Core.List.{[]}
use mathlib.Core.Path.{refl}
use Rattle.octets.specs.Undivided.{Undivided}
use Rattle.workload_write.proofs.put_numbers.Code.Mir.{function}
use Rattle.workload_write.proofs.put_numbers.Goals as goal

pub undivided : Undivided ("workload_write::put_number" ∷ []) function
undivided = refl

pub loop-n-init : goal.loop-n-init
loop-n-init c =
    let none = numbers-start c.args.numbers.now in
    record { place = omega (arith, ap length none); text = sym (splice-nil c.args.out.now c.args.at) ∙ ap (splice c.args.out.now c.args.at) (sym none) }

pub put_number-to-requires : goal.put_number-to-requires
put_number-to-requires c =
    let l : List ℕ = c.args.numbers.now in
    let i : ℕ = c.loop-n.n-index in
    let y : List ℕ = 44 ∷ decimal_of (get_or l i 0) in
    let m : numbers_text (take (i + 1) l) ≡ numbers_text (take i l) ++ y = numbers_more l i (omega arith) in
    omega (arith, c.loop-n.invariant.place, c.loop-n.auto.out, ap length m, length-append (numbers_text (take i l)) y, numbers-part l (i + 1))

pub loop-n-preserved : goal.loop-n-preserved
loop-n-preserved c =
    let l : List ℕ = c.args.numbers.now in
    let i : ℕ = c.loop-n.n-index in
    let o : List ℕ = c.args.out.now in
    let at : ℕ = c.args.at in
    let x : List ℕ = numbers_text (take i l) in
    let y : List ℕ = 44 ∷ decimal_of (get_or l i 0) in
    let m : numbers_text (take (i + 1) l) ≡ x ++ y = numbers_more l i (omega arith) in
    let room : at + (length x + length y) ≤ length o = omega (arith, ap length m, length-append x y, numbers-part l (i + 1)) in
    let put = c.put_number-to.ensures in
    record {
      place = put.value ∙ omega (arith, ap length m, length-append x y, c.loop-n.invariant.place);
      text =
          put.out_after ∙ ap₂ (λ (t : List ℕ) (k : ℕ). splice t k y) c.loop-n.invariant.text c.loop-n.invariant.place
          ∙ splice-append o at x y room ∙ ap (splice o at) (sym m);
    }
