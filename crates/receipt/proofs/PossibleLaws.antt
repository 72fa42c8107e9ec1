-- The tests agree with the conditions: possible entries, and what a question asks.
use mathlib.Core.Path.{◌≡◌, sym, ap, ◌∙◌}
use mathlib.Core.Logic.{◌⊎◌, ⊎_elim, ◌↔◌}
use mathlib.Core.Logic.◌⊎◌.{inl, inr}
use Prim.Native.Nat.{ℕ, ◌≤◌, ◌<◌}
use native.Mathlib.Omega.{arith}
use mathlib.Core.Bool.{Bool, true, ◌&&◌, ◌||◌}
use mathlib.Core.List.{List}
use lib.ListN.{get_or}
use lib.Dec.{eqb, ltb, leb}
use borrow.Author.Tests.{lt-ltb, eq-eqb, ne_eqb, eqb-true, ltb-true, leb-true}
use Rattle.octets.specs.Octets.{same, zeros}
use Rattle.octets.proofs.Tests.{and_left, and_right, and_both, or_right, or_cases, equal_or_not}
use Rattle.octets.proofs.Same.{same-eq, eq-same}
use Rattle.receipt.specs.Attestation.{Attestation, LOOKUP, END}
use Rattle.receipt.specs.Possible.{is_name, reference_fits, is_blank, blank_fits, fresh_end, possible, Possible, FreshEnd, Admissible}
use Rattle.receipt.specs.Verdict.{asks, Asks}
use Rattle.receipt.specs.declared.Ask.{Ask}
use Rattle.receipt.specs.declared.Ask.TheVariants.{Lookup, End}
use Rattle.receipt.proofs.Cases.{reference-at, reference-below, reference-above, assigned-fits, skipped-fits, by-blank, end-blank, at_zero, by_kind}

lookup-is-not-end : LOOKUP ≡ END → ⊥
unfolding LOOKUP END
lookup-is-not-end h = let z : ◌≡◌ {A = ℕ} 76 69 = ap (λ (l : List ℕ). get_or l 0 0) h in omega arith

name_sound : (n : List ℕ) → is_name n ≡ true → (n ≡ LOOKUP) ⊎ (n ≡ END)
unfolding is_name
name_sound n h = ⊎_elim (λ k. inl (same-eq n LOOKUP k)) (λ k. inr (same-eq n END k)) (or_cases (same n LOOKUP) (same n END) h)

name_complete : (n : List ℕ) → (n ≡ LOOKUP) ⊎ (n ≡ END) → is_name n ≡ true
unfolding is_name
name_complete n (inl h) = simp (eq-same n LOOKUP h)
name_complete n (inr h) = or_right (same n LOOKUP) (same n END) (eq-same n END h)

module _ (a : Attestation) where
  abbrev reference-test : Bool
  reference-test = reference_fits a.kind a.position a.reference

  -- the reference where the kind is another than assigned and unassigned
  above : (a.kind ≡ 1 → ⊥) → (a.kind ≡ 0 → ⊥) → reference-test ≡ true → (a.kind ≤ 3) × (a.position < a.reference)
  unfolding reference_fits
  above o n h =
      let t : leb a.kind 3 && ltb a.position a.reference ≡ true = simp (ne_eqb a.kind 1 o, ne_eqb a.kind 0 n) at h in
      (leb-true a.kind 3 (and_left (leb a.kind 3) _ t), ltb-true a.position a.reference (and_right (leb a.kind 3) _ t))

  small : reference-test ≡ true → a.kind ≤ 3
  small h = ⊎_elim (λ o. omega arith) (λ o. ⊎_elim (λ z. omega arith) (λ z. (above o z h).0) (equal_or_not a.kind 0)) (equal_or_not a.kind 1)

  below : a.kind ≡ 0 → reference-test ≡ true → a.reference < a.position
  below z h = ltb-true a.reference a.position (reference-below a.kind a.position a.reference (λ o. omega arith) z ∙ h)

  -- what is asked where the kind is not assigned, and where it is not skipped either
  not-assigned : blank_fits a ≡ true → (a.kind ≡ 1 → ⊥) → a.name ≡ LOOKUP
  unfolding blank_fits
  not-assigned h o =
      let t : same a.name LOOKUP && (eqb a.kind 2 || is_blank a) ≡ true = simp (ne_eqb a.kind 1 o) at h in
      same-eq a.name LOOKUP (and_left (same a.name LOOKUP) _ t)

  blank-sound : is_blank a ≡ true → (a.value ≡ zeros 32) × (a.digest ≡ zeros 32)
  unfolding is_blank
  blank-sound t =
      (same-eq a.value (zeros 32) (and_left (same a.value (zeros 32)) _ t), same-eq a.digest (zeros 32) (and_right (same a.value (zeros 32)) _ t))

  zero-blank : a.value ≡ zeros 32 → a.digest ≡ zeros 32 → is_blank a ≡ true
  unfolding is_blank
  zero-blank v d = and_both (same a.value (zeros 32)) (same a.digest (zeros 32)) (eq-same a.value (zeros 32) v) (eq-same a.digest (zeros 32) d)

  not-skipped : blank_fits a ≡ true → (a.kind ≡ 1 → ⊥) → (a.kind ≡ 2 → ⊥) → (a.value ≡ zeros 32) × (a.digest ≡ zeros 32)
  not-skipped h o s = blank-sound (by-blank a o (eq-same a.name LOOKUP (not-assigned h o)) s ∙ h)

  -- the end of a fresh log
  fresh_sound : fresh_end a ≡ true → FreshEnd a
  unfolding fresh_end
  fresh_sound h =
      let t1 = and_right (same a.name END) (eqb a.kind 0 && (leb a.log 15 && (eqb a.position 0 && (eqb a.reference 0 && is_blank a)))) h in
      let t2 = and_right (eqb a.kind 0) (leb a.log 15 && (eqb a.position 0 && (eqb a.reference 0 && is_blank a))) t1 in
      let t3 = and_right (leb a.log 15) (eqb a.position 0 && (eqb a.reference 0 && is_blank a)) t2 in
      let t4 = and_right (eqb a.position 0) (eqb a.reference 0 && is_blank a) t3 in
      let z = blank-sound (and_right (eqb a.reference 0) (is_blank a) t4) in
      record {
        named = same-eq a.name END (and_left (same a.name END) _ h);
        unassigned = eqb-true a.kind 0 (and_left (eqb a.kind 0) _ t1);
        log = leb-true a.log 15 (and_left (leb a.log 15) _ t2);
        position = eqb-true a.position 0 (and_left (eqb a.position 0) _ t3);
        reference = eqb-true a.reference 0 (and_left (eqb a.reference 0) _ t4);
        value = z.0;
        digest = z.1;
      }

  fresh-complete : FreshEnd a → fresh_end a ≡ true
  fresh-complete f = sym (end-blank a (eq-same a.name END f.named) f.unassigned f.log f.position f.reference) ∙ zero-blank f.value f.digest

  -- the other entries
  positive-sound : is_name a.name && (leb a.log 15 && (leb 1 a.position && (reference-test && blank_fits a))) ≡ true → Possible a
  positive-sound h =
      let t1 = and_right (is_name a.name) (leb a.log 15 && (leb 1 a.position && (reference-test && blank_fits a))) h in
      let t2 = and_right (leb a.log 15) (leb 1 a.position && (reference-test && blank_fits a)) t1 in
      let t3 = and_right (leb 1 a.position) (reference-test && blank_fits a) t2 in
      let r : reference-test ≡ true = and_left reference-test (blank_fits a) t3 in
      let b : blank_fits a ≡ true = and_right reference-test (blank_fits a) t3 in
      record {
        named = name_sound a.name (and_left (is_name a.name) _ h);
        kind = small r;
        log = leb-true a.log 15 (and_left (leb a.log 15) _ t1);
        position = leb-true 1 a.position (and_left (leb 1 a.position) _ t2);
        assigned = λ o. eqb-true a.reference a.position (reference-at a.kind a.position a.reference o ∙ r);
        unassigned = λ z. below z r;
        passed = λ t. (above (λ z. omega arith) (λ z. omega arith) r).1;
        blank = λ o s. not-skipped b o s;
        end = λ n. ⊎_elim (λ o. o) (λ o. absurd (lookup-is-not-end (sym (not-assigned b o) ∙ n))) (equal_or_not a.kind 1);
      }

  reference-complete : Possible a → reference-test ≡ true
  reference-complete p =
      ⊎_elim (λ o. sym (reference-at a.kind a.position a.reference o) ∙ eq-eqb a.reference a.position (p.assigned o))
      (λ o. ⊎_elim (λ z. sym (reference-below a.kind a.position a.reference o z) ∙ lt-ltb a.reference a.position (p.unassigned z))
      (λ z. sym (reference-above a.kind a.position a.reference o z p.kind) ∙ lt-ltb a.position a.reference (p.passed (two o z))) (equal_or_not a.kind 0)) (equal_or_not a.kind 1)
    where
      two : (a.kind ≡ 1 → ⊥) → (a.kind ≡ 0 → ⊥) → 2 ≤ a.kind
      two o z = omega arith

  blank-complete : Possible a → blank_fits a ≡ true
  blank-complete p =
      ⊎_elim (λ o. sym (assigned-fits a o))
      (λ o. ⊎_elim (λ s. sym (skipped-fits a o (looks o) s)) (λ s. sym (by-blank a o (looks o) s) ∙ zero-blank (p.blank o s).0 (p.blank o s).1) (equal_or_not a.kind 2)) (equal_or_not a.kind 1)
    where
      looks : (a.kind ≡ 1 → ⊥) → same a.name LOOKUP ≡ true
      looks o = eq-same a.name LOOKUP (⊎_elim (λ l. l) (λ n. absurd (o (p.end n))) p.named)

  pub possible-sound : possible a ≡ true → Admissible a
  unfolding possible
  possible-sound h = ⊎_elim (λ t. inr (fresh_sound t)) (λ t. inl (positive-sound t)) (or_cases (fresh_end a) _ h)

  pub possible-complete : Admissible a → possible a ≡ true
  possible-complete (inl p) =
      let n = p.position in
      sym (by_kind a (λ (z : a.position ≡ 0). omega arith) (name_complete a.name p.named) p.log (reference-complete p)) ∙ blank-complete p
  possible-complete (inr f) = sym (at_zero a f.position) ∙ fresh-complete f

  -- the test and the conditions agree
  pub possible-exactly : possible a ≡ true ↔ Admissible a
  possible-exactly = (possible-sound, possible-complete)

  -- document 02, [6]: "The verifier admits exactly this one entry with position 0."
  pub zero-exactly : a.position ≡ 0 → possible a ≡ true ↔ FreshEnd a
  zero-exactly z = (λ h. fresh_sound (at_zero a z ∙ h), λ f. possible-complete (inr f))

  pub asks-sound : (k : Ask) → asks k a ≡ true → Asks k a
  unfolding asks
  asks-sound (Lookup n) h = (same-eq a.name LOOKUP (and_left (same a.name LOOKUP) _ h), eqb-true a.position n (and_right (same a.name LOOKUP) _ h))
  asks-sound End h = same-eq a.name END h

  pub asks-complete : (k : Ask) → Asks k a → asks k a ≡ true
  unfolding asks
  asks-complete (Lookup n) h = and_both (same a.name LOOKUP) (eqb a.position n) (eq-same a.name LOOKUP h.0) (eq-eqb a.position n h.1)
  asks-complete End h = eq-same a.name END h
