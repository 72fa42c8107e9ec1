-- The columns of an answer line tell the answer.
use Prim.Native.Nat.{ℕ}
use mathlib.Core.Path.{◌≡◌}
use native.Mathlib.Omega.{arith}
use Rattle.script.specs.declared.Answer.{Answer}
use Rattle.script.specs.declared.Answer.TheVariants.{Plain, Bounded, Attested}
use Rattle.script.specs.Script.{cells_of}

pub cells-injective : (n : ℕ) (a b : Answer) → cells_of n a ≡ cells_of n b → a ≡ b
cells-injective n (Plain k) (Plain j) h = cc
cells-injective n (Plain k) (Bounded j low high) h = absurd (let z : ◌≡◌ {A = ℕ} 0 1 = cc in omega arith)
cells-injective n (Plain k) (Attested kind position reference value low high) h = absurd (let z : ◌≡◌ {A = ℕ} 0 1 = cc in omega arith)
cells-injective n (Bounded k l u) (Plain j) h = absurd (let z : ◌≡◌ {A = ℕ} 0 1 = cc in omega arith)
cells-injective n (Bounded k l u) (Bounded j low high) h = cc
cells-injective n (Bounded k l u) (Attested kind position reference value low high) h = absurd (let z : ◌≡◌ {A = ℕ} 0 1 = cc in omega arith)
cells-injective n (Attested a p r v l u) (Plain j) h = absurd (let z : ◌≡◌ {A = ℕ} 0 1 = cc in omega arith)
cells-injective n (Attested a p r v l u) (Bounded j low high) h = absurd (let z : ◌≡◌ {A = ℕ} 0 1 = cc in omega arith)
cells-injective n (Attested a p r v l u) (Attested kind position reference value low high) h = cc
