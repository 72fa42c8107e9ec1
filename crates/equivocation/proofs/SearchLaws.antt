-- The search among marked places: one place tried, the ways out of both loops, and that what it finds is the definition's first pair.
use mathlib.Core.Path.{◌≡◌, refl, sym, ap, ap₂, ◌∙◌}
use Prim.Native.Nat.{ℕ, zero, suc, ◌+◌, ◌-◌, ◌≤◌, ◌<◌}
use native.Mathlib.Numerals.{add-one}
use native.Mathlib.Omega.{arith}
use mathlib.Core.Bool.{Bool, true, false, cond}
use mathlib.Core.List.{List, [], ◌∷◌}
use mathlib.Core.Option.{Option, none, some}
use lib.ListN.{get_or}
use Rattle.refusal.specs.Answer.{Answer, answer}
use Rattle.receipt.specs.Attestation.{read_attestation}
use Rattle.roster.specs.Roster.{size, distinct}
use Rattle.std.specs.Prelude.{Some, None}
use Rattle.std.specs.declared.option.Option.{Option as Maybe}
use Rattle.quorum.specs.Certificate.{receipt_count, receipt_at}
use Rattle.equivocation.specs.Pairs.{conflicting, accepted_at, is_pair, second_of, or_later, first_of, places_of}
use Rattle.equivocation.specs.Marks.{Marked, marked, against, second_in, second_for, or_else, first_in}
use Rattle.equivocation.proofs.CheckLaws.{mark-says}

module _ (marks : List Bool) (pile : List ℕ) where
  pub not-marked : (p q : ℕ) → get_or marks q false ≡ false → false ≡ against marks pile p q
  unfolding against
  not-marked p q h = simp h

  pub by-conflict : (p q : ℕ) {r s : List ℕ} {b : Bool} → get_or marks q false ≡ true → r ≡ receipt_at pile p → s ≡ receipt_at pile q
      → b ≡ conflicting (read_attestation r) (read_attestation s) → b ≡ against marks pile p q
  unfolding against
  by-conflict p q h e f g = g ∙ ap₂ (λ (x y : List ℕ). conflicting (read_attestation x) (read_attestation y)) e f ∙ simp h refl

  -- of the places from q on below count: q is the one, or the search goes on after it, or no place is left
  module _ (p count q : ℕ) where
    second-step : q < count → second_in marks pile p (count - q) q ≡ cond (against marks pile p q) (Some q) (second_in marks pile p (count - (q + 1)) (q + 1))
    unfolding second_in
    second-step l =
        let e : count - q ≡ suc (count - (q + 1)) = omega arith in
        ap (λ (j : ℕ). second_in marks pile p j q) e ∙ ap (λ (n : ℕ). cond (against marks pile p q) (Some q) (second_in marks pile p (count - (q + 1)) n)) (sym (add-one q))

    pub second-found : q < count → against marks pile p q ≡ true → second_in marks pile p (count - q) q ≡ Some q
    second-found l h = second-step l ∙ ap (λ (b : Bool). cond b (Some q) (second_in marks pile p (count - (q + 1)) (q + 1))) h

    pub second-on : q < count → against marks pile p q ≡ false → second_in marks pile p (count - q) q ≡ second_in marks pile p (count - (q + 1)) (q + 1)
    second-on l h = second-step l ∙ ap (λ (b : Bool). cond b (Some q) (second_in marks pile p (count - (q + 1)) (q + 1))) h

    pub second_none : count ≤ q → second_in marks pile p (count - q) q ≡ None
    unfolding second_in
    second_none l = let e : count - q ≡ 0 = omega arith in ap (λ (j : ℕ). second_in marks pile p j q) e

  -- a place that is not marked makes no pair; what a marked one makes is found after it
  pub unmarked : (p j : ℕ) → get_or marks p false ≡ false → None ≡ second_for marks pile p j
  unfolding second_for
  unmarked p j h = simp h

  pub by-later : (p j : ℕ) → get_or marks p false ≡ true → second_in marks pile p j (p + 1) ≡ second_for marks pile p j
  unfolding second_for
  by-later p j h = simp h (ap (second_in marks pile p j) (add-one p))

  -- the same of first places
  module _ (count p : ℕ) where
    first_step : p < count → first_in marks pile (count - p) p ≡ or_else marks pile p (second_for marks pile p (count - (p + 1))) (first_in marks pile (count - (p + 1)) (p + 1))
    unfolding first_in
    first_step l =
        let e : count - p ≡ suc (count - (p + 1)) = omega arith in
        ap (λ (j : ℕ). first_in marks pile j p) e ∙ ap (λ (n : ℕ). or_else marks pile p (second_for marks pile p (count - (p + 1))) (first_in marks pile (count - (p + 1)) n)) (sym (add-one p))

    pub first_found : {f : Maybe ℕ} (q : ℕ) → p < count → f ≡ second_for marks pile p (count - (p + 1)) → f ≡ Some q → first_in marks pile (count - p) p ≡ answer 0 (p ∷ q ∷ [])
    first_found q l e h = first_step l ∙ ap (λ (x : Maybe ℕ). or_else marks pile p x (first_in marks pile (count - (p + 1)) (p + 1))) (sym e ∙ h)

    pub first_on : {f : Maybe ℕ} → p < count → f ≡ second_for marks pile p (count - (p + 1)) → f ≡ None → first_in marks pile (count - p) p ≡ first_in marks pile (count - (p + 1)) (p + 1)
    first_on l e h = first_step l ∙ ap (λ (x : Maybe ℕ). or_else marks pile p x (first_in marks pile (count - (p + 1)) (p + 1))) (sym e ∙ h)

    pub first-none : count ≤ p → answer 0 [] ≡ first_in marks pile (count - p) p
    unfolding first_in
    first-none l = let e : count - p ≡ 0 = omega arith in sym (ap (λ (j : ℕ). first_in marks pile j p) e)

-- with the marks of all places the search is the definition's

abbrev found_as : Option ℕ → Maybe ℕ
found_as none = None
found_as (some q) = Some q

found-cond : (b : Bool) (q : ℕ) (o : Option ℕ) → cond b (Some q) (found_as o) ≡ found_as (cond b (some q) o)
found-cond true q o = refl
found-cond false q o = refl

module _ (roster pile : List ℕ) (marks : List Bool) (d : distinct roster (size roster) ≡ true) (m : Marked roster pile (receipt_count pile) marks) where
  says : (p : ℕ) → p < receipt_count pile → marked marks pile p ≡ accepted_at roster pile p
  says p l = mark-says roster pile p (get_or marks p false) d (m p l)

  against-is : (p q : ℕ) → q < receipt_count pile → accepted_at roster pile p ≡ true → against marks pile p q ≡ is_pair roster pile p q
  unfolding against is_pair
  against-is p q l a = simp (a, says q l)

  second_is : (p j q : ℕ) → q + j ≤ receipt_count pile → accepted_at roster pile p ≡ true → second_in marks pile p j q ≡ found_as (second_of roster pile p j q)
  unfolding second_in second_of
  second_is p zero q l a = refl
  second_is p (suc j) q l a =
      ap₂ (λ (b : Bool) (f : Maybe ℕ). cond b (Some q) f) (against-is p q (omega arith) a) (second_is p j (suc q) (omega arith) a)
      ∙ found-cond (is_pair roster pile p q) q (second_of roster pile p j (suc q))

  -- a place that is not accepted is in no pair
  no_second : (p j q : ℕ) → accepted_at roster pile p ≡ false → second_of roster pile p j q ≡ none
  unfolding second_of is_pair
  no_second p zero q a = refl
  no_second p (suc j) q a = simp a (no_second p j (suc q) a)

  choice : (p j : ℕ) → p + suc j ≤ receipt_count pile → (b : Bool) → accepted_at roster pile p ≡ b
      → second_for marks pile p j ≡ found_as (second_of roster pile p j (suc p))
  unfolding second_for
  choice p j l true a = ap (λ (b : Bool). cond b (second_in marks pile p j (suc p)) None) (says p (omega arith) ∙ a) ∙ second_is p j (suc p) (omega arith) a
  choice p j l false a =
      ap (λ (b : Bool). cond b (second_in marks pile p j (suc p)) None) (says p (omega arith) ∙ a) ∙ ap found_as (sym (no_second p j (suc p) a))

  or_is : (p : ℕ) (o : Option ℕ) (x : Option (ℕ × ℕ)) → or_else marks pile p (found_as o) (answer 0 (places_of x)) ≡ answer 0 (places_of (or_later roster pile p o x))
  or_is p none x = refl
  or_is p (some q) x = refl

  pub first-is : (j p : ℕ) → p + j ≤ receipt_count pile → first_in marks pile j p ≡ answer 0 (places_of (first_of roster pile j p))
  unfolding first_in first_of
  first-is zero p l = refl
  first-is (suc j) p l =
      ap₂ (λ (f : Maybe ℕ) (a : Answer). or_else marks pile p f a) (choice p j l (accepted_at roster pile p) refl) (first-is j (suc p) (omega arith))
      ∙ or_is p (second_of roster pile p j (suc p)) (first_of roster pile j (suc p))
