-- The four ways out of `tag`.
use mathlib.Core.Path.{◌≡◌}
use mathlib.Core.List.{List}
use mathlib.Core.Option.{none, some}
use Prim.Native.Nat.{ℕ, ◌+◌, ◌^◌, ◌≤◌, ◌<◌}
use lib.ListN.{length}
use borrow.Author.Tests.{le-leb, lt-leb, eq-eqb, ne_eqb}
use Rattle.refusal.specs.Order.{first_fault}
use Rattle.hmac.specs.Hmac.{tag_refusal}

module _ (key text out : List ℕ) where
  pub other_length : (length out ≡ 32 → ⊥) → tag_refusal key text out ≡ some 7
  unfolding tag_refusal first_fault
  other_length h = simp (ne_eqb (length out) 32 h)

  pub long-key-refused : length out ≡ 32 → 2 ^ 61 ≤ length key → tag_refusal key text out ≡ some 7
  unfolding tag_refusal first_fault
  long-key-refused h k = simp (eq-eqb (length out) 32 h, le-leb (2 ^ 61) (length key) k)

  pub long-text-refused : length out ≡ 32 → length key < 2 ^ 61 → 2 ^ 61 ≤ 64 + length text → tag_refusal key text out ≡ some 7
  unfolding tag_refusal first_fault
  long-text-refused h k l = simp (eq-eqb (length out) 32 h, lt-leb (2 ^ 61) (length key) k, le-leb (2 ^ 61) (64 + length text) l)

  pub accepted : length out ≡ 32 → length key < 2 ^ 61 → 64 + length text < 2 ^ 61 → tag_refusal key text out ≡ none
  unfolding tag_refusal first_fault
  accepted h k l = simp (eq-eqb (length out) 32 h, lt-leb (2 ^ 61) (length key) k, lt-leb (2 ^ 61) (64 + length text) l)
