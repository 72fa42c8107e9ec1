-- No refusal has the number 0, "done".
use Rattle.std.proofs.Common.{◌≡◌, false}
use lib.Dec.{eqb}
use native.Mathlib.Nat.{ne_of_gt}
use borrow.Author.Tests.{ne_eqb}
use Rattle.refusal.specs.declared.Refusal.{Refusal}
use Rattle.refusal.specs.Number.{number_of}
use Rattle.refusal.proofs.NumberLaws.{number_of-positive}

pub not_done : (why : Refusal) → eqb (number_of why) 0 ≡ false
not_done why = ne_eqb (number_of why) 0 (λ (e : number_of why ≡ 0). ne_of_gt (number_of-positive why) e)
