use mathlib.Core.List.{[]}
use Rattle.octets.specs.Octets.{splice}
use native.Mathlib.Numerals.{add-one}
use native.Mathlib.Omega.{arith}
use mathlib.Core.Path.{◌≡◌, refl, ap, ◌∙◌}
use Prim.Native.Nat.{ℕ, ◌+◌}
use mathlib.Core.List.{List, ◌++◌, append_assoc}
use lib.Seq.{paste, paste-suc, take-length}
use lib.ListN.{length, drop, take, set, get_or, length-set}
use Rattle.octets.specs.Undivided.{Undivided}
use Rattle.octets.proofs.put.Code.Mir.{function}
use Rattle.octets.proofs.put.Goals as goal

pub undivided : Undivided [] function
undivided = refl

pub loop-i-preserved : goal.loop-i-preserved
loop-i-preserved c = (
  length-set c.loop-i.out (c.args.at + c.loop-i.i) (get_or c.args.part.now c.loop-i.i 0) ∙ c.loop-i.invariant.0,
  rw add-one (ap (λ (b : List ℕ). set b (c.args.at + c.loop-i.i) (get_or c.args.part.now c.loop-i.i 0)) c.loop-i.invariant.1
      ∙ paste-suc c.args.out.now c.args.at c.args.part.now c.loop-i.i 0 (omega arith) (omega arith)),
)

pub returns : goal.returns
unfolding splice
returns c = let e : c.loop-i.i ≡ length c.args.part.now = omega arith in
    c.loop-i.invariant.1
    ∙ ap (λ (n : ℕ). paste c.args.out.now c.args.at c.args.part.now n) e
    ∙ ap (λ (p : List ℕ). take c.args.at c.args.out.now ++ p ++ drop (c.args.at + length c.args.part.now) c.args.out.now) (take-length c.args.part.now)
    ∙ append_assoc (take c.args.at c.args.out.now) c.args.part.now (drop (c.args.at + length c.args.part.now) c.args.out.now)
