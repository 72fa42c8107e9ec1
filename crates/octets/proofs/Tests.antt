-- Tests that are true or false: conjunctions and disjunctions taken apart and put together, by the library's lemmas.
use mathlib.Core.Path.{◌≡◌, sym}
use mathlib.Core.Bool.{Bool, true, ◌&&◌, and_assoc as assoc}
use Rattle.std.proofs.lemmas.Bool.{and_parts}
pub use mathlib.Core.Bool.{and-true, and-false}
pub use Rattle.std.proofs.lemmas.Bool.{or_left, or_right, or_cases, and_from as and_both, or_parts as or-none, cases_eq as equal_or_not}

pub and_left : (a b : Bool) → a && b ≡ true → a ≡ true
and_left a b h = (and_parts a b h).0

pub and_right : (a b : Bool) → a && b ≡ true → b ≡ true
and_right a b h = (and_parts a b h).1

pub and_assoc : (a b c : Bool) → a && (b && c) ≡ a && b && c
and_assoc a b c = sym (assoc a b c)
