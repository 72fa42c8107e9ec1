-- `decimal::write::power` meets its contract: each number of the table is that power.
use Rattle.std.proofs.Common.{◌≡◌, ℕ, zero, suc, ◌+◌, ◌<◌, ◌^◌, Bool, true, ◌&&◌, nat_eq, List, [], ◌∷◌, length, get_or, refl, ap, ◌∙◌, arith}
use borrow.Author.Tests.{eqb-true}
use Rattle.decimal.specs.declared.write.TheConstants.{POWERS}
use Rattle.std.proofs.lemmas.Bool.{and_parts}
use Rattle.octets.specs.Undivided.{Undivided}
use Rattle.decimal.proofs.write.power.Code.Mir.{function}
use Rattle.decimal.proofs.write.power.Goals as goal

-- these are the powers of ten from 10 ^ j on
abbrev powers : ℕ → List ℕ → Bool
powers j [] = true
powers j (x ∷ xs) = nat_eq x (10 ^ j) && powers (suc j) xs

abbrev ten : ℕ → ℕ
ten j = 10 ^ j

power-at : (xs : List ℕ) (j k : ℕ) → powers j xs ≡ true → k < length xs → get_or xs k 0 ≡ 10 ^ (j + k)
power-at [] j k h l = absurd (omega arith)
power-at (x ∷ xs) j zero h l = eqb-true x (10 ^ j) ((and_parts (nat_eq x (10 ^ j)) (powers (suc j) xs) h).0) ∙ ap ten (omega arith)
power-at (x ∷ xs) j (suc k) h l = power-at xs (suc j) k ((and_parts (nat_eq x (10 ^ j)) (powers (suc j) xs) h).1) (omega arith) ∙ ap ten (omega arith)

pub undivided : Undivided [] function
undivided = refl

pub returns : goal.returns
returns c = power-at POWERS 0 c.args.k refl c.requires ∙ ap ten (omega arith)
