-- Document 02 [13]: "answer the first pair, by first then second place"; "If there is none, say so"; "whenever the pile has one it is found".
use mathlib.Core.Path.{◌≡◌, refl, sym, ap, ap₂, subst, ◌∙◌}
use mathlib.Core.Logic.{◌↔◌, ◌⊎◌, ⊎_elim, inl, inr}
use Prim.Native.Nat.{ℕ, zero, suc, ◌+◌, ◌≤◌, ◌<◌}
use native.Mathlib.Omega.{arith}
use mathlib.Core.Bool.{Bool, true, false, not, cond}
use mathlib.Core.List.{List, [], ◌∷◌}
use mathlib.Core.Option.{Option, none, some, none-ne-some, some-ne-none, some-injective}
use borrow.Author.Tests.{both_ways, not-false}
use Rattle.octets.proofs.Tests.{equal_or_not}
use Rattle.refusal.specs.Answer.{Answer, answer}
use Rattle.refusal.proofs.AnswerLaws.{no-fault}
use Rattle.roster.specs.Profile.{permitted}
use Rattle.roster.specs.Roster.{is_roster}
use Rattle.roster.proofs.Profiles.{permitted-exactly}
use Rattle.roster.proofs.RosterLaws.{roster-exactly}
use Rattle.quorum.specs.Certificate.{receipt_count, is_certificate}
use Rattle.quorum.proofs.Tallies.{receipts-exactly}
use Rattle.equivocation.specs.Pairs.{Contradiction, contradiction_answer, contradiction_blocks, is_pair, second_of, or_later, first_of, first_pair, places_of, contradiction_refusal, contradiction, contradiction_blocks_of, Admitted, IsPair, FirstPair, FindsExactly}
use Rattle.equivocation.proofs.Answers.{looked-at}
use Rattle.equivocation.proofs.PairLaws.{is-pair}

apart : (m n : ℕ) → (m ≡ n → ⊥) → (m < n) ⊎ (n < m)
apart zero zero h = absurd (h refl)
apart zero (suc n) h = inl (omega arith)
apart (suc m) zero h = inr (omega arith)
apart (suc m) (suc n) h = ⊎_elim (λ (l : m < n). inl (omega arith)) (λ (l : n < m). inr (omega arith)) (apart m n (λ e. h (ap suc e)))

module _ (roster pile : List ℕ) where
  abbrev pair : ℕ → ℕ → Bool
  pair p q = is_pair roster pile p q

  -- ---- the second place

  record Second (p j q s : ℕ) : Type 0 where
    low : q ≤ s
    high : s < q + j
    found : pair p s ≡ true
    first : (t : ℕ) → q ≤ t → t < s → pair p t ≡ false

  second : (p j q s : ℕ) → second_of roster pile p j q ≡ some s → Second p j q s
  unfolding second_of
  second p zero q s h = absurd (none-ne-some s h)
  second p (suc j) q s h = go (pair p q) refl h (second p j (suc q) s)
    where
      go : (b : Bool) → pair p q ≡ b → cond b (some q) (second_of roster pile p j (suc q)) ≡ some s → (second_of roster pile p j (suc q) ≡ some s → Second p j (suc q) s) → Second p (suc j) q s
      go true e g r =
          let z : q ≡ s = some-injective q s g in
          record { low = omega arith; high = omega arith; found = ap (pair p) (sym z) ∙ e; first = λ t a b. absurd (omega arith) }
      go false e g r =
          let w = r g in
          record {
            low = omega (arith, w.low);
            high = omega (arith, w.high);
            found = w.found;
            first = λ t a b. ⊎_elim (λ (z : t ≡ q). ap (pair p) z ∙ e) (λ z. w.first t (omega arith) b) (equal_or_not t q);
          }

  no_second : (p j q : ℕ) → second_of roster pile p j q ≡ none → (t : ℕ) → q ≤ t → t < q + j → pair p t ≡ false
  unfolding second_of
  no_second p zero q h t a b = absurd (omega arith)
  no_second p (suc j) q h t a b = go (pair p q) refl h (λ g z. no_second p j (suc q) g t (omega arith) (omega arith))
    where
      go : (x : Bool) → pair p q ≡ x → cond x (some q) (second_of roster pile p j (suc q)) ≡ none → (second_of roster pile p j (suc q) ≡ none → (t ≡ q → ⊥) → pair p t ≡ false) → pair p t ≡ false
      go true e g r = absurd (some-ne-none q g)
      go false e g r = ⊎_elim (λ (z : t ≡ q). ap (pair p) z ∙ e) (λ z. r g z) (equal_or_not t q)

  -- ---- the first place

  -- what is found from p on, of j places
  record From (j p a b : ℕ) : Type 0 where
    low : p ≤ a
    order : a < b
    high : b < p + j
    found : pair a b ≡ true
    first : (i k : ℕ) → p ≤ i → i < a → i < k → k < p + j → pair i k ≡ false
    second : (k : ℕ) → a < k → k < b → pair a k ≡ false

  from : (j p a b : ℕ) → first_of roster pile j p ≡ some (a, b) → From j p a b
  unfolding first_of
  from zero p a b h = absurd (none-ne-some (a, b) h)
  from (suc j) p a b h = go (second_of roster pile p j (suc p)) refl h (from j (suc p) a b)
    where
      go : (o : Option ℕ) → second_of roster pile p j (suc p) ≡ o → or_later roster pile p o (first_of roster pile j (suc p)) ≡ some (a, b)
          → (first_of roster pile j (suc p) ≡ some (a, b) → From j (suc p) a b) → From (suc j) p a b
      go (some s) e g r =
          let z : ◌≡◌ {A = ℕ × ℕ} (p, s) (a, b) = some-injective (p, s) (a, b) g in
          let x : p ≡ a = ap (λ (t : ℕ × ℕ). t.0) z in
          let y : s ≡ b = ap (λ (t : ℕ × ℕ). t.1) z in
          let w = second p j (suc p) s e in
          let low = w.low in
          let high = w.high in
          record {
            low = omega arith;
            order = omega arith;
            high = omega arith;
            found = ap₂ pair (sym x) (sym y) ∙ w.found;
            first = λ i k u v. absurd (omega arith);
            second = λ k u v. ap (λ (t : ℕ). pair t k) (sym x) ∙ w.first k (omega arith) (omega arith);
          }
      go none e g r =
          let w = r g in
          let low = w.low in
          let high = w.high in
          record {
            low = omega arith;
            order = w.order;
            high = omega arith;
            found = w.found;
            first = λ i k u v y z. ⊎_elim (λ (x : i ≡ p). ap (λ (t : ℕ). pair t k) x ∙ no_second p j (suc p) e k (omega arith) (omega arith)) (λ x. w.first i k (omega arith) v y (omega arith)) (equal_or_not i p);
            second = w.second;
          }

  no-first : (j p : ℕ) → first_of roster pile j p ≡ none → (i k : ℕ) → p ≤ i → i < k → k < p + j → pair i k ≡ false
  unfolding first_of
  no-first zero p h i k a b c = absurd (omega arith)
  no-first (suc j) p h i k a b c = go (second_of roster pile p j (suc p)) refl h (λ g x. no-first j (suc p) g i k (omega arith) b (omega arith))
    where
      go : (o : Option ℕ) → second_of roster pile p j (suc p) ≡ o → or_later roster pile p o (first_of roster pile j (suc p)) ≡ none
          → (first_of roster pile j (suc p) ≡ none → (i ≡ p → ⊥) → pair i k ≡ false) → pair i k ≡ false
      go (some s) e g r = absurd (some-ne-none (p, s) g)
      go none e g r = ⊎_elim (λ (x : i ≡ p). ap (λ (t : ℕ). pair t k) x ∙ no_second p j (suc p) e k (omega arith) (omega arith)) (λ x. r g x) (equal_or_not i p)

  -- ---- the theorems

  -- what the test refuses is no pair
  not-pair : (p q : ℕ) → pair p q ≡ false → IsPair roster pile p q → ⊥
  not-pair p q h i = both_ways (pair p q) h ((is-pair roster pile p q i.order i.within).1 i)

  pair_found : (p q : ℕ) → first_pair roster pile ≡ some (p, q) → FirstPair roster pile p q
  unfolding first_pair
  pair_found p q h =
      let w = from (receipt_count pile) 0 p q h in
      let high = w.high in
      record {
        pair = (is-pair roster pile p q w.order (omega arith)).0 w.found;
        first = λ i j x l. let r = x.within in not-pair i j (w.first i j (omega arith) l x.order (omega arith)) x;
        second = λ j x l. not-pair p j (w.second j x.order l) x;
      }

  -- "If there is none, say so", and "whenever the pile has one it is found"
  pub none-exactly : first_pair roster pile ≡ none ↔ ((p q : ℕ) → p < q → q < receipt_count pile → is_pair roster pile p q ≡ false)
  unfolding first_pair
  none-exactly = (
    λ h p q l w. no-first (receipt_count pile) 0 h p q (omega arith) l (omega arith),
    λ h. go (first_of roster pile (receipt_count pile) 0) refl h,
  )
    where
      go : (o : Option (ℕ × ℕ)) → first_of roster pile (receipt_count pile) 0 ≡ o → ((p q : ℕ) → p < q → q < receipt_count pile → is_pair roster pile p q ≡ false) → o ≡ none
      go none e h = refl
      go (some x) e h =
          let w = from (receipt_count pile) 0 x.0 x.1 e in
          let high = w.high in
          absurd (both_ways (pair x.0 x.1) (h x.0 x.1 w.order (omega arith)) w.found)

  no-pair : first_pair roster pile ≡ none → (p q : ℕ) → IsPair roster pile p q → ⊥
  no-pair h p q i = not-pair p q (none-exactly.0 h p q i.order i.within) i

  -- there is one first pair
  one-first : (p q i j : ℕ) → FirstPair roster pile p q → FirstPair roster pile i j → ◌≡◌ {A = ℕ × ℕ} (i, j) (p, q)
  one-first p q i j x y =
      let a : (i < p → ⊥) = λ l. x.first i j y.pair l in
      let b : (p < i → ⊥) = λ l. y.first p q x.pair l in
      let e : i ≡ p = ⊎_elim (λ (z : i ≡ p). z) (λ z. absurd (⊎_elim (λ (l : i < p). a l) b (apart i p z))) (equal_or_not i p) in
      let f : j ≡ q = ⊎_elim (λ (z : j ≡ q). z)
      (λ z. absurd (⊎_elim (λ (l : j < q). x.second j (subst (λ (t : ℕ). IsPair roster pile t j) e y.pair) l) (λ l. y.second q (subst (λ (t : ℕ). IsPair roster pile t q) (sym e) x.pair) l) (apart j q z))) (equal_or_not j q) in
      ap₂ (λ (u v : ℕ). (u, v)) e f

  -- "the first pair, by first then second place"
  pub found-exactly : (p q : ℕ) → first_pair roster pile ≡ some (p, q) ↔ FirstPair roster pile p q
  found-exactly p q = (pair_found p q, λ x. go x (first_pair roster pile) refl)
    where
      go : FirstPair roster pile p q → (o : Option (ℕ × ℕ)) → first_pair roster pile ≡ o → o ≡ some (p, q)
      go x none e = absurd (no-pair e p q x.pair)
      go x (some y) e = ap some (one-first p q y.0 y.1 x (pair_found y.0 y.1 e))

module _ (n k : ℕ) (roster pile : List ℕ) where
  -- an answer of number 0: no fault was found
  admitted : (contradiction n k roster pile).number ≡ 0 → Admitted n k roster pile
  unfolding contradiction contradiction_refusal
  admitted e =
      let vs = places_of (first_pair roster pile) in
      let s1 = no-fault 17 (not (permitted n k)) _ vs (λ z. omega arith) e in
      let s2 = no-fault 12 (not (is_roster n roster)) _ vs (λ z. omega arith) s1.1 in
      let s3 = no-fault 9 (not (is_certificate pile)) _ vs (λ z. omega arith) s2.1 in
      record {
        profile = (permitted-exactly n k).0 (not-false _ s1.0);
        roster = (roster-exactly roster n).0 (not-false _ s2.0);
        receipts = (receipts-exactly pile).0 (not-false _ s3.0);
      }

  is-first : Admitted n k roster pile → answer 0 (places_of (first_pair roster pile)) ≡ contradiction n k roster pile
  is-first a = (looked-at n k roster pile ((permitted-exactly n k).1 a.profile) ((roster-exactly roster n).1 a.roster) ((receipts-exactly pile).1 a.receipts)).0

  -- the answer names p and q exactly when profile, roster and receipts are as they must be and those are the first pair
  pub pair-exactly : (p q : ℕ) → contradiction n k roster pile ≡ answer 0 (p ∷ q ∷ []) ↔ (Admitted n k roster pile × FirstPair roster pile p q)
  pair-exactly p q = (
    λ h. let a = admitted (ap (λ (x : Answer). x.number) h) in (a, (found-exactly roster pile p q).0 (go (first_pair roster pile) (ap (λ (x : Answer). x.values) (is-first a ∙ h)))),
    λ u. sym (is-first u.0) ∙ ap (λ (o : Option (ℕ × ℕ)). answer 0 (places_of o)) ((found-exactly roster pile p q).1 u.1),
  )
    where
      go : (o : Option (ℕ × ℕ)) → places_of o ≡ p ∷ q ∷ [] → o ≡ some (p, q)
      go none e = let z : ◌≡◌ {A = ℕ} 0 1 = cc in absurd (omega arith)
      go (some x) e = let u : x.0 ≡ p = cc in let v : x.1 ≡ q = cc in ap some (ap₂ (λ (s t : ℕ). (s, t)) u v)

  -- and names no places exactly when they are so and there is no pair
  pub nothing-exactly : contradiction n k roster pile ≡ answer 0 [] ↔ (Admitted n k roster pile × ((p q : ℕ) → IsPair roster pile p q → ⊥))
  nothing-exactly = (
    λ h. let a = admitted (ap (λ (x : Answer). x.number) h) in (a, no-pair roster pile (go (first_pair roster pile) (ap (λ (x : Answer). x.values) (is-first a ∙ h)))),
    λ u. sym (is-first u.0) ∙ ap (λ (o : Option (ℕ × ℕ)). answer 0 (places_of o)) ((none-exactly roster pile).1 (λ p q l w. refuted p q l w (u.1 p q) (is_pair roster pile p q) refl)),
  )
    where
      go : (o : Option (ℕ × ℕ)) → places_of o ≡ [] → o ≡ none
      go none e = refl
      go (some x) e = let z : ◌≡◌ {A = ℕ} 0 1 = cc in absurd (omega arith)

      refuted : (p q : ℕ) → p < q → q < receipt_count pile → (IsPair roster pile p q → ⊥) → (b : Bool) → is_pair roster pile p q ≡ b → is_pair roster pile p q ≡ false
      refuted p q l w h true e = absurd (h ((is-pair roster pile p q l w).0 e))
      refuted p q l w h false e = e

  -- "whenever the pile has one it is found"
  pub always-found : Admitted n k roster pile → (p q : ℕ) → IsPair roster pile p q → (i j : ℕ) × (contradiction n k roster pile ≡ answer 0 (i ∷ j ∷ []))
  always-found a p q h = go (first_pair roster pile) refl
    where
      go : (o : Option (ℕ × ℕ)) → first_pair roster pile ≡ o → (i j : ℕ) × (contradiction n k roster pile ≡ answer 0 (i ∷ j ∷ []))
      go none e = absurd (no-pair roster pile e p q h)
      go (some x) e = (x.0, x.1, sym (is-first a) ∙ ap (λ (o : Option (ℕ × ℕ)). answer 0 (places_of o)) e)

-- what the contract says of an answer that is the definition's
pub answer_exactly : {n k : ℕ} {roster pile : List ℕ} {given : Answer} {blocks : ℕ}
    → (given ≡ contradiction n k roster pile) × (blocks ≡ contradiction_blocks_of n k roster pile)
    → (given ≡ contradiction n k roster pile) × (FindsExactly n k roster pile given × (blocks ≡ contradiction_blocks_of n k roster pile))
answer_exactly {n = n} {k = k} {roster = roster} {pile = pile} e =
    (e.0, (subst (FindsExactly n k roster pile) (sym e.0) (pair-exactly n k roster pile, nothing-exactly n k roster pile), e.1))

-- and of the call's, which is y
pub judged_exactly : {n k : ℕ} {roster pile : List ℕ} {x : Contradiction} (y : Contradiction) → x ≡ y
    → (contradiction_answer y ≡ contradiction n k roster pile) × (contradiction_blocks y ≡ contradiction_blocks_of n k roster pile)
    → (contradiction_answer x ≡ contradiction n k roster pile) × (FindsExactly n k roster pile (contradiction_answer x) × (contradiction_blocks x ≡ contradiction_blocks_of n k roster pile))
judged_exactly y e j = answer_exactly (ap contradiction_answer e ∙ j.0, ap contradiction_blocks e ∙ j.1)
