-- Good receipts: by whom, in terms of the verifier's answer; and that the member found by the keeper number is the one.
use mathlib.Core.Path.{◌≡◌, refl, sym, ap, ap₂, ◌∙◌}
use mathlib.Core.Logic.{◌↔◌, ⊎_elim}
use Prim.Native.Nat.{ℕ, ◌<◌}
use native.Mathlib.Omega.{arith}
use mathlib.Core.Bool.{Bool, true, false, cond}
use mathlib.Core.List.{List, [], ◌∷◌}
use lib.Dec.{eqb}
use lib.ListN.{get_or}
use borrow.Author.Tests.{eqb-true, eq-eqb, ne_eqb}
use Rattle.octets.specs.Octets.{Bytes}
use Rattle.octets.proofs.Tests.{and_left, and_right, and_both, and-false, equal_or_not}
use Rattle.refusal.specs.Number.{number_of}
use Rattle.refusal.specs.declared.Refusal.{Refusal}
use Rattle.refusal.proofs.NumberLaws.{outcome_number-injective}
use Rattle.refusal.specs.Answer.{Answer, answer}
use Rattle.receipt.specs.Attestation.{Attestation, read_attestation}
use Rattle.receipt.specs.Verdict.{verdict, carried, answers}
use Rattle.receipt.specs.declared.Question.{Question}
use Rattle.receipt.proofs.Verifier.{says, complete, sound, passes, carries}
use Rattle.roster.specs.Roster.{size, keeper_at, key_at, distinct, member}
use Rattle.quorum.specs.Certificate.{asked_of, good_by, GoodBy, GenuineBy}
use Rattle.quorum.specs.Tally.{if_good, good_member, is_member_i}
use Rattle.std.specs.Prelude.{Option, Some, None, Result, Ok, Err}
use Rattle.std.proofs.lemmas.Bool.{false_from_ne_true}
use Rattle.roster.proofs.RosterLaws.{member_below, member_is, distinct-sound}

-- no refusal has number 0
refused-some : (w : Refusal) → number_of w ≡ 0 → ⊥
refused-some w e =
    let o : ◌≡◌ {A = Result Unit Refusal} (Err w) (Ok tt) = outcome_number-injective (Err w) (Ok tt) e in
    let z : ◌≡◌ {A = ℕ} 0 1 = cc in omega arith

kind-in : (a : Attestation) (k l p d f : ℕ) → carried a ≡ k ∷ l ∷ p ∷ d ∷ f ∷ [] → a.kind ≡ d
unfolding carried
kind-in a k l p d f e = ap (λ (x : List ℕ). get_or x 3 0) e

answers-keeper : (a : Attestation) (q : Question) (nonce : List ℕ) → answers a q nonce ≡ true → a.keeper ≡ q.keeper
unfolding answers
answers-keeper a q nonce h = eqb-true a.keeper q.keeper (and_left (eqb a.keeper q.keeper) _ h)

module _ (roster nonce : List ℕ) (log position : ℕ) (r : List ℕ) where
  abbrev verdict_by : ℕ → Answer
  verdict_by i = verdict (key_at roster i) r nonce (asked_of roster nonce log position i)

  -- the verifier's answer taken apart
  pub good-refused : (i : ℕ) (w : Refusal) → answer (number_of w) [] ≡ verdict_by i → good_by roster nonce log position r i ≡ false
  unfolding good_by
  good-refused i w e = simp (ne_eqb (verdict_by i).number 0 (λ z. refused-some w (ap (λ (a : Answer). a.number) e ∙ z)))

  module _ (i k l p d f : ℕ) (e : answer 0 (k ∷ l ∷ p ∷ d ∷ f ∷ []) ≡ verdict_by i) where
    number_is : (verdict_by i).number ≡ 0
    number_is = sym (ap (λ (a : Answer). a.number) e)

    kind-is : (read_attestation r).kind ≡ d
    kind-is =
        kind-in (read_attestation r) k l p d f
        (ap (λ (a : Answer). a.values) (sym (carries (key_at roster i) r nonce (asked_of roster nonce log position i) number_is) ∙ sym e))

    pub good-other : (d ≡ 1 → ⊥) → good_by roster nonce log position r i ≡ false
    unfolding good_by
    good-other h = simp (eq-eqb (verdict_by i).number 0 number_is, ne_eqb (read_attestation r).kind 1 (λ z. h (sym kind-is ∙ z)))

    pub good-assigned : d ≡ 1 → good_by roster nonce log position r i ≡ true
    unfolding good_by
    good-assigned h = simp (eq-eqb (verdict_by i).number 0 number_is, eq-eqb (read_attestation r).kind 1 (kind-is ∙ h))

  -- the test and the condition agree
  pub good-by : (i : ℕ) → good_by roster nonce log position r i ≡ true ↔ GoodBy roster nonce log position r i
  unfolding good_by
  good-by i = (
    λ h. record {
      accepted = eqb-true (verdict_by i).number 0 (and_left (eqb (verdict_by i).number 0) _ h);
      assigned = eqb-true (read_attestation r).kind 1 (and_right (eqb (verdict_by i).number 0) _ h);
    },
    λ g. and_both (eqb (verdict_by i).number 0) (eqb (read_attestation r).kind 1) (eq-eqb (verdict_by i).number 0 g.accepted) (eq-eqb (read_attestation r).kind 1 g.assigned),
  )

  -- no other kind is good
  pub only-assigned : ((read_attestation r).kind ≡ 1 → ⊥) → (i : ℕ) → good_by roster nonce log position r i ≡ false
  unfolding good_by
  only-assigned h i = simp (ne_eqb (read_attestation r).kind 1 h, and-false (eqb (verdict_by i).number 0))

  -- it has the member's keeper number
  good-keeper : (i : ℕ) → good_by roster nonce log position r i ≡ true → (read_attestation r).keeper ≡ keeper_at roster i
  good-keeper i h =
      let q : Question = asked_of roster nonce log position i in
      answers-keeper (read_attestation r) q nonce (passes (key_at roster i) r nonce q ((good-by i).0 h).accepted).answers

  -- so it is good by one member at most
  pub good-once : distinct roster (size roster) ≡ true → (i j : ℕ) → i < size roster → j < size roster
      → good_by roster nonce log position r i ≡ true → good_by roster nonce log position r j ≡ true → i ≡ j
  good-once d i j h k g e = distinct-sound roster (size roster) i j d h k (sym (good-keeper i g) ∙ good-keeper j e)

  -- of bytes: they are those of an assigned entry under member i's key that answers the question
  pub good-exactly : Bytes r → (i : ℕ) → GoodBy roster nonce log position r i ↔ GenuineBy roster nonce log position r i
  good-exactly b i =
      let key = key_at roster i in
      let q = asked_of roster nonce log position i in (
        λ g. record { entry = read_attestation r; genuine = sound key r nonce q b g.accepted; assigned = g.assigned },
        λ g. record {
          accepted = ap (λ (x : Answer). x.number) (complete key r nonce q g.entry g.genuine);
          assigned = ap (λ (a : Attestation). a.kind) (says key r nonce q g.entry g.genuine) ∙ g.assigned;
        },
      )

  -- the member found by the keeper number

  if-good : (f : Option ℕ) (i : ℕ) → member roster (read_attestation r).keeper (size roster) ≡ f → if_good roster nonce log position r f ≡ Some i
      → (i < size roster) × (good_by roster nonce log position r i ≡ true)
  if-good (Some j) i m h = by (good_by roster nonce log position r j) refl h
    where
      by : (b : Bool) → good_by roster nonce log position r j ≡ b → cond b (Some j) None ≡ Some i → (i < size roster) × (good_by roster nonce log position r i ≡ true)
      by true e k =
          let z : j ≡ i = cc in
          let l = member_below roster (read_attestation r).keeper (size roster) j m in
          (omega arith, ap (good_by roster nonce log position r) (sym z) ∙ e)
      by false e k = let z : ◌≡◌ {A = ℕ} 0 1 = cc in absurd (omega arith)
  if-good None i m h = let z : ◌≡◌ {A = ℕ} 0 1 = cc in absurd (omega arith)

  pub member-good : (i : ℕ) → good_member roster nonce log position r ≡ Some i → (i < size roster) × (good_by roster nonce log position r i ≡ true)
  unfolding good_member
  member-good i h = if-good (member roster (read_attestation r).keeper (size roster)) i refl h

  pub good-member : distinct roster (size roster) ≡ true → (i : ℕ) → i < size roster → good_by roster nonce log position r i ≡ true → good_member roster nonce log position r ≡ Some i
  unfolding good_member
  good-member d i h g =
      ap (λ (x : ℕ). if_good roster nonce log position r (member roster x (size roster))) (good-keeper i g)
      ∙ ap (if_good roster nonce log position r) (member_is roster (size roster) i d h)
      ∙ ap (λ (b : Bool). cond b (Some i) None) g

  pub member_most : (i : ℕ) → good_member roster nonce log position r ≡ Some i → i < size roster
  member_most i e = (member-good i e).0

  -- the tally tells the member
  pub member_tells : distinct roster (size roster) ≡ true → (i : ℕ) → i < size roster → is_member_i (good_member roster nonce log position r) i ≡ good_by roster nonce log position r i
  unfolding is_member_i
  member_tells d i h = by (good_member roster nonce log position r) refl
    where
      by : (f : Option ℕ) → good_member roster nonce log position r ≡ f → is_member_i f i ≡ good_by roster nonce log position r i
      by (Some j) e =
          let g = (member-good j e).1 in
          ⊎_elim (λ (z : j ≡ i). eq-eqb j i z ∙ sym (ap (good_by roster nonce log position r) (sym z) ∙ g))
          (λ z. ne_eqb j i z ∙ sym (false_from_ne_true (good_by roster nonce log position r i) (λ t. z (good-once d j i (member-good j e).0 h g t)))) (equal_or_not j i)
      by None e = sym (false_from_ne_true (good_by roster nonce log position r i) (λ t. let a = good-member d i h t in let z : ◌≡◌ {A = ℕ} 0 1 = cc in omega arith))

  -- what the program notes for a receipt: no member, refused, of another kind, or good

  module _ (n k : ℕ) (s : size roster ≡ n) (e : k ≡ (read_attestation r).keeper) where
    of-found : (f : Option ℕ) → member roster k n ≡ f → if_good roster nonce log position r f ≡ good_member roster nonce log position r
    unfolding good_member
    of-found f h = ap (if_good roster nonce log position r) (sym h ∙ ap₂ (member roster) e (sym s))

    pub of_none : member roster k n ≡ None → None ≡ good_member roster nonce log position r
    of_none h = of-found None h

    module _ (i : ℕ) (key : List ℕ) (h : member roster k n ≡ Some i) (key_is : key ≡ key_at roster i) where
      -- the question asked with the keeper number that was read
      asked : {a : Answer} → a ≡ verdict key r nonce (record { keeper = k; log = log; ask = (asked_of roster nonce log position i).ask }) → a ≡ verdict_by i
      asked v =
          v ∙ ap₂ (λ (x : List ℕ) (m : ℕ). verdict x r nonce (record { keeper = m; log = log; ask = (asked_of roster nonce log position i).ask }))
          key_is (sym (member_below roster k n i h).1)

      pub passed_over : (w : Refusal) → answer (number_of w) [] ≡ verdict key r nonce (record { keeper = k; log = log; ask = (asked_of roster nonce log position i).ask })
          → None ≡ good_member roster nonce log position r
      passed_over w v = ap (λ (b : Bool). cond b (Some i) None) (sym (good-refused i w (asked v))) ∙ of-found (Some i) h

      module _ (k' l p d f : ℕ) (v : answer 0 (k' ∷ l ∷ p ∷ d ∷ f ∷ []) ≡ verdict key r nonce (record { keeper = k; log = log; ask = (asked_of roster nonce log position i).ask })) where
        pub other-kind : (d ≡ 1 → ⊥) → None ≡ good_member roster nonce log position r
        other-kind o = ap (λ (b : Bool). cond b (Some i) None) (sym (good-other i k' l p d f (asked v) o)) ∙ of-found (Some i) h

        pub counted : d ≡ 1 → Some i ≡ good_member roster nonce log position r
        counted o = ap (λ (b : Bool). cond b (Some i) None) (sym (good-assigned i k' l p d f (asked v) o)) ∙ of-found (Some i) h
