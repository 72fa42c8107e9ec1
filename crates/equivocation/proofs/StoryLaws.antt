-- When two receipts contradict each other, case by case: one law for each `return` of the code.
use mathlib.Core.Path.{◌≡◌, refl, sym, ap, ◌∙◌}
use Prim.Native.Nat.{ℕ}
use native.Mathlib.Omega.{arith}
use mathlib.Core.Bool.{Bool, false, not, ◌&&◌}
use mathlib.Core.List.{List, [], ◌∷◌, ◌++◌}
use lib.ListN.{length}
use lib.Dec.{eqb}
use borrow.Author.Tests.{eq-eqb, ne_eqb}
use Rattle.octets.specs.Octets.{same}
use Rattle.octets.proofs.Parts.{length_part}
use Rattle.octets.proofs.Tests.{and_assoc}
use Rattle.receipt.specs.Attestation.{Attestation, read_attestation, pair_in}
use Rattle.quorum.proofs.Masks.{or-false}
use Rattle.equivocation.specs.Pairs.{stories_differ, conflicting}

-- lists on end are equal part by part
same-append : (a b c d : List ℕ) → length a ≡ length b → same (a ++ c) (b ++ d) ≡ same a b && same c d
unfolding same
same-append [] [] c d h = refl
same-append [] (y ∷ b) c d h = absurd (omega arith)
same-append (x ∷ a) [] c d h = absurd (omega arith)
same-append (x ∷ a) (y ∷ b) c d h = ap (λ (t : Bool). eqb x y && t) (same-append a b c d (omega arith)) ∙ and_assoc (eqb x y) (same a b) (same c d)

value-size : (r : List ℕ) → length r ≡ 160 → length (read_attestation r).value ≡ 32
unfolding read_attestation
value-size r h = length_part r 64 32 (omega arith)

-- value and digest are compared on end
pub same-pairs : (r s : List ℕ) → length r ≡ 160 → length s ≡ 160
    → same (pair_in r) (pair_in s) ≡ same (read_attestation r).value (read_attestation s).value && same (read_attestation r).digest (read_attestation s).digest
unfolding pair_in
same-pairs r s h k = same-append (read_attestation r).value (read_attestation s).value _ _ (value-size r h ∙ sym (value-size s k))

module _ (a b : Attestation) where
  pub both-assigned : a.kind ≡ 1 → b.kind ≡ 1 → not (same a.value b.value && same a.digest b.digest) ≡ stories_differ a b
  unfolding stories_differ
  both-assigned h k = simp (eq-eqb a.kind 1 h, eq-eqb b.kind 1 k)

  pub assigned-first : a.kind ≡ 1 → (b.kind ≡ 1 → ⊥) → eqb b.kind 2 ≡ stories_differ a b
  unfolding stories_differ
  assigned-first h k = simp (eq-eqb a.kind 1 h, ne_eqb b.kind 1 k, ne_eqb a.kind 2 (λ z. omega arith), or-false (eqb b.kind 2))

  pub skipped-first : (a.kind ≡ 1 → ⊥) → a.kind ≡ 2 → eqb b.kind 1 ≡ stories_differ a b
  unfolding stories_differ
  skipped-first h k = simp (ne_eqb a.kind 1 h, eq-eqb a.kind 2 k)

  pub no-story : (a.kind ≡ 1 → ⊥) → (a.kind ≡ 2 → ⊥) → false ≡ stories_differ a b
  unfolding stories_differ
  no-story h k = simp (ne_eqb a.kind 1 h, ne_eqb a.kind 2 k)

  pub other-keeper : (a.keeper ≡ b.keeper → ⊥) → false ≡ conflicting a b
  unfolding conflicting
  other-keeper h = simp (ne_eqb a.keeper b.keeper h)

  pub other-log : a.keeper ≡ b.keeper → (a.log ≡ b.log → ⊥) → false ≡ conflicting a b
  unfolding conflicting
  other-log k h = simp (eq-eqb a.keeper b.keeper k, ne_eqb a.log b.log h)

  pub other-position : a.keeper ≡ b.keeper → a.log ≡ b.log → (a.position ≡ b.position → ⊥) → false ≡ conflicting a b
  unfolding conflicting
  other-position k l h = simp (eq-eqb a.keeper b.keeper k, eq-eqb a.log b.log l, ne_eqb a.position b.position h)

  pub by-stories : a.keeper ≡ b.keeper → a.log ≡ b.log → a.position ≡ b.position → stories_differ a b ≡ conflicting a b
  unfolding conflicting
  by-stories k l h = simp (eq-eqb a.keeper b.keeper k, eq-eqb a.log b.log l, eq-eqb a.position b.position h)
