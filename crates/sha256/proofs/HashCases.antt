-- The three ways out of `hash`.
use mathlib.Core.Path.{◌≡◌}
use mathlib.Core.List.{List}
use mathlib.Core.Option.{none, some}
use Prim.Native.Nat.{ℕ, ◌^◌, ◌≤◌, ◌<◌}
use lib.ListN.{length}
use borrow.Author.Tests.{le-leb, lt-leb, eq-eqb, ne_eqb}
use Rattle.refusal.specs.Order.{first_fault}
use Rattle.sha256.specs.Hash.{hash_refusal}

module _ (m out : List ℕ) where
  pub other_length : (length out ≡ 32 → ⊥) → hash_refusal m out ≡ some 7
  unfolding hash_refusal first_fault
  other_length h = simp (ne_eqb (length out) 32 h)

  pub too_long : length out ≡ 32 → 2 ^ 61 ≤ length m → hash_refusal m out ≡ some 7
  unfolding hash_refusal first_fault
  too_long h k = simp (eq-eqb (length out) 32 h, le-leb (2 ^ 61) (length m) k)

  pub accepted : length out ≡ 32 → length m < 2 ^ 61 → hash_refusal m out ≡ none
  unfolding hash_refusal first_fault
  accepted h k = simp (eq-eqb (length out) 32 h, lt-leb (2 ^ 61) (length m) k)
