-- Rosters: one step of the search and of the test, the ways out of the test, and its agreement with the conditions.
use mathlib.Core.Path.{◌≡◌, refl, sym, ap, ap₂, ◌∙◌}
use mathlib.Core.Logic.{◌↔◌, ⊎_elim}
use Prim.Native.Nat.{ℕ, zero, suc, ◌+◌, ◌-◌, ◌*◌, ◌/◌, ◌%◌, ◌≤◌, ◌<◌}
use native.Mathlib.Nat.{not-suc-le-zero, add-zero, zero-add}
use native.Mathlib.Omega.{arith}
use mathlib.Core.Bool.{Bool, true, false, not, ◌&&◌, cond}
use mathlib.Core.List.{List, []}
use lib.ListN.{length, get_or, take, drop}
use Rattle.std.proofs.lemmas.List.{get_or-take, length-take-le}
use Rattle.std.specs.List.{concat}
use lib.Dec.{eqb}
use borrow.Author.Tests.{eq-eqb, ne_eqb, eqb-true, eqb-false, not-true}
use Rattle.octets.proofs.Parts.{length_part, part-part}
use Rattle.octets.proofs.Tests.{and_left, and_right, and_both, and-false, equal_or_not}
use Rattle.octets.specs.Octets.{part}
use Rattle.bigendian.specs.BigEndian.{unbe}
use Rattle.roster.proofs.OnEnd.{Each, length-concat, part-concat}
use Rattle.roster.specs.Roster.{size, keeper_at, key_at, absent, distinct, is_roster, IsRoster}
use Rattle.roster.specs.Roster.{member}
use Rattle.std.specs.Option.{is_some}
use Rattle.std.specs.Prelude.{Option}
use Rattle.std.specs.declared.option.Option.TheVariants.{Some, None}

module _ (roster : List ℕ) where
  at-found : (x i : ℕ) → 0 < i → keeper_at roster (i - 1) ≡ x → member roster x i ≡ Some (i - 1)
  unfolding member
  at-found x zero h e = absurd (not-suc-le-zero h)
  at-found x (suc i) h e =
      let z : suc i - 1 ≡ i = omega arith in
      let k : keeper_at roster i ≡ x = ap (keeper_at roster) (sym z) ∙ e in
      simp (eq-eqb (keeper_at roster i) x k) (ap Some (sym z))

  -- item i - 1 is the one, or the search goes on below it
  pub found : (x n i : ℕ) → 0 < i → member roster x n ≡ member roster x i → keeper_at roster (i - 1) ≡ x → Some (i - 1) ≡ member roster x n
  found x n i h m e = sym (m ∙ at-found x i h e)

  pub below : (x i : ℕ) → 0 < i → (keeper_at roster (i - 1) ≡ x → ⊥) → member roster x i ≡ member roster x (i - 1)
  unfolding member
  below x zero h e = absurd (not-suc-le-zero h)
  below x (suc i) h e =
      let z : suc i - 1 ≡ i = omega arith in
      let k : keeper_at roster i ≡ x → ⊥ = λ q. e (ap (keeper_at roster) z ∙ q) in
      simp (ne_eqb (keeper_at roster i) x k) (ap (member roster x) (sym z))

  pub none : (x n i : ℕ) → i ≤ 0 → member roster x n ≡ member roster x i → None ≡ member roster x n
  unfolding member
  none x n zero h m = sym m
  none x n (suc i) h m = absurd (not-suc-le-zero h)

  -- what is found is among the first n, and has the keeper number
  pub member_below : (x n i : ℕ) → member roster x n ≡ Some i → (i < n) × (keeper_at roster i ≡ x)
  unfolding member
  member_below x zero i h = let z : ◌≡◌ {A = ℕ} 0 1 = cc in absurd (omega arith)
  member_below x (suc n) i h = cases (eqb (keeper_at roster n) x) refl h (λ g. member_below x n i g)
    where
      cases : (b : Bool) → eqb (keeper_at roster n) x ≡ b → cond b (Some n) (member roster x n) ≡ Some i
          → (member roster x n ≡ Some i → (i < n) × (keeper_at roster i ≡ x)) → (i < suc n) × (keeper_at roster i ≡ x)
      cases true e g r = let z : n ≡ i = cc in (omega arith, ap (keeper_at roster) (sym z) ∙ eqb-true (keeper_at roster n) x e)
      cases false e g r = (omega (arith, (r g).0), (r g).1)

  -- the first k of n items lie within their bytes
  part-within : (n at m : ℕ) → at + m ≤ n * 40 → part (take (n * 40) roster) at m ≡ part roster at m
  part-within n at m h = part-part roster 0 (n * 40) at m h ∙ ap (λ (j : ℕ). part roster j m) (zero-add at)

  pub keeper-within : (i n : ℕ) → i < n → keeper_at (take (n * 40) roster) i ≡ keeper_at roster i
  unfolding keeper_at
  keeper-within i n h = ap unbe (part-within n (i * 40) 8 (omega arith))

  pub key-within : (i n : ℕ) → i < n → key_at (take (n * 40) roster) i ≡ key_at roster i
  unfolding key_at
  key-within i n h = part-within n (i * 40 + 8) 32 (omega arith)

  pub size-within : size (take (size roster * 40) roster) ≡ size roster
  unfolding size
  size-within = let l = length-take-le (length roster / 40 * 40) roster (omega arith) in omega arith

  pub member-within : (x k n : ℕ) → k ≤ n → member (take (n * 40) roster) x k ≡ member roster x k
  unfolding member
  member-within x zero n h = refl
  member-within x (suc k) n h = ap₂ (λ (j : ℕ) (m : Option ℕ). cond (eqb j x) (Some k) m) (keeper-within k n h) (member-within x k n (omega arith))

  -- absent is what is not found
  pub is_some-member : (x n : ℕ) → is_some (member roster x n) ≡ not (absent roster x n)
  unfolding member absent
  is_some-member x zero = refl
  is_some-member x (suc n) = cases (eqb (keeper_at roster n) x) (is_some-member x n)
    where
      cases : (b : Bool) → is_some (member roster x n) ≡ not (absent roster x n) → is_some (cond b (Some n) (member roster x n)) ≡ not (not b && absent roster x n)
      cases true e = refl
      cases false e = e

  absent-sound : (x n i : ℕ) → absent roster x n ≡ true → i < n → keeper_at roster i ≡ x → ⊥
  unfolding absent
  absent-sound x zero i a h e = not-suc-le-zero h
  absent-sound x (suc n) i a h e =
      ⊎_elim (λ (z : i ≡ n). eqb-false (keeper_at roster n) x (not-true _ (and_left (not (eqb (keeper_at roster n) x)) (absent roster x n) a)) (ap (keeper_at roster) (sym z) ∙ e))
      (λ z. absent-sound x n i (and_right (not (eqb (keeper_at roster n) x)) (absent roster x n) a) (omega arith) e) (equal_or_not i n)

  absent-complete : (x n : ℕ) → ((i : ℕ) → i < n → keeper_at roster i ≡ x → ⊥) → absent roster x n ≡ true
  unfolding absent
  absent-complete x zero h = refl
  absent-complete x (suc n) h = simp (ne_eqb (keeper_at roster n) x (h n (omega arith))) (absent-complete x n (λ i k. h i (omega arith)))

  -- distinct numbers, as a test and as a condition
  pub distinct-sound : (n i j : ℕ) → distinct roster n ≡ true → i < n → j < n → keeper_at roster i ≡ keeper_at roster j → i ≡ j
  unfolding distinct
  distinct-sound zero i j d h k e = absurd (not-suc-le-zero h)
  distinct-sound (suc n) i j d h k e =
      ⊎_elim (λ (z : i ≡ n). ⊎_elim (λ (w : j ≡ n). z ∙ sym w) (λ w. absurd (first j (omega arith) (sym e ∙ ap (keeper_at roster) z))) (equal_or_not j n))
      (λ z. ⊎_elim (λ (w : j ≡ n). absurd (first i (omega arith) (e ∙ ap (keeper_at roster) w)))
      (λ w. distinct-sound n i j (and_right (absent roster (keeper_at roster n) n) (distinct roster n) d) (omega arith) (omega arith) e) (equal_or_not j n)) (equal_or_not i n)
    where
      first : (m : ℕ) → m < n → keeper_at roster m ≡ keeper_at roster n → ⊥
      first m l q = absent-sound (keeper_at roster n) n m (and_left (absent roster (keeper_at roster n) n) (distinct roster n) d) l q

  distinct-complete : (n : ℕ) → ((i j : ℕ) → i < n → j < n → keeper_at roster i ≡ keeper_at roster j → i ≡ j) → distinct roster n ≡ true
  unfolding distinct
  distinct-complete zero h = refl
  distinct-complete (suc n) h =
      and_both (absent roster (keeper_at roster n) n) (distinct roster n)
      (absent-complete (keeper_at roster n) n (λ i k e. let z = h i n (omega arith) (omega arith) e in omega arith))
      (distinct-complete n (λ i j k l. h i j (omega arith) (omega arith)))

  -- with distinct keeper numbers, each item is found by its own
  pub member_is : (n i : ℕ) → distinct roster n ≡ true → i < n → member roster (keeper_at roster i) n ≡ Some i
  unfolding distinct member
  member_is zero i d h = absurd (not-suc-le-zero h)
  member_is (suc n) i d h =
      ⊎_elim (λ (z : i ≡ n). simp (eq-eqb (keeper_at roster n) (keeper_at roster i) (ap (keeper_at roster) (sym z))) (ap Some (sym z)))
      (λ z. simp (ne_eqb (keeper_at roster n) (keeper_at roster i) (new z)) (member_is n i (and_right (absent roster (keeper_at roster n) n) (distinct roster n) d) (omega arith))) (equal_or_not i n)
    where
      new : (i ≡ n → ⊥) → keeper_at roster n ≡ keeper_at roster i → ⊥
      new z e = absent-sound (keeper_at roster n) n i (and_left (absent roster (keeper_at roster n) n) (distinct roster n) d) (omega arith) (sym e)

  -- an item whose number an item before it has
  pub repeated : (n i : ℕ) → i < n → absent roster (keeper_at roster i) i ≡ false → distinct roster n ≡ false
  unfolding distinct
  repeated zero i h a = absurd (not-suc-le-zero h)
  repeated (suc n) i h a =
      ⊎_elim (λ (z : i ≡ n). let b : absent roster (keeper_at roster n) n ≡ false = ap (λ (j : ℕ). absent roster (keeper_at roster j) j) (sym z) ∙ a in simp b)
      (λ z. rw (repeated n i (omega arith) a) (and-false (absent roster (keeper_at roster n) n))) (equal_or_not i n)

  -- one number more that no item before it has
  pub distinct-suc : (i : ℕ) → absent roster (keeper_at roster i) i ≡ true → distinct roster i ≡ true → distinct roster (suc i) ≡ true
  unfolding distinct
  distinct-suc i a d = simp (a, d)

  module _ (n : ℕ) where
    -- its ways out
    pub no_items : (length roster % 40 ≡ 0 → ⊥) → false ≡ is_roster n roster
    unfolding is_roster
    no_items h = simp (ne_eqb (length roster % 40) 0 h)

    pub other-size : length roster % 40 ≡ 0 → (length roster / 40 ≡ n → ⊥) → false ≡ is_roster n roster
    unfolding is_roster size
    other-size h k = simp (eq-eqb (length roster % 40) 0 h, ne_eqb (length roster / 40) n k)

    pub by-keepers : length roster % 40 ≡ 0 → length roster / 40 ≡ n → distinct roster (length roster / 40) ≡ is_roster n roster
    unfolding is_roster size
    by-keepers h k = simp (eq-eqb (length roster % 40) 0 h, eq-eqb (length roster / 40) n k)

    -- what is left to ask of the items
    pub of-items : (items : List (List ℕ)) → length roster % 40 ≡ 0 → length items ≡ length roster / 40 → length items ≡ n → concat items ≡ roster
        → distinct (concat items) (length items) ≡ is_roster n roster
    of-items items h l k e = ap₂ distinct e l ∙ by-keepers h (sym l ∙ k)

    -- what the test has seen
    record Seen : Type 0 where
      items : length roster % 40 ≡ 0
      members : size roster ≡ n
      distinct : distinct roster (size roster) ≡ true

    seen : is_roster n roster ≡ true → Seen
    unfolding is_roster
    seen h =
        let a = and_right (eqb (length roster % 40) 0) (eqb (size roster) n && distinct roster (size roster)) h in
        record {
          items = eqb-true (length roster % 40) 0 (and_left (eqb (length roster % 40) 0) _ h);
          members = eqb-true (size roster) n (and_left (eqb (size roster) n) _ a);
          distinct = and_right (eqb (size roster) n) (distinct roster (size roster)) a;
        }

    pub roster-size : is_roster n roster ≡ true → size roster ≡ n
    roster-size h = (seen h).members

    pub roster-distinct : is_roster n roster ≡ true → distinct roster (size roster) ≡ true
    roster-distinct h = (seen h).distinct

    -- the test and the conditions agree
    pub roster-exactly : is_roster n roster ≡ true ↔ IsRoster n roster
    unfolding is_roster
    roster-exactly = (
      λ h. record { items = (seen h).items; members = (seen h).members; distinct = λ i j. distinct-sound (size roster) i j (seen h).distinct },
      λ r. and_both (eqb (length roster % 40) 0) _ (eq-eqb (length roster % 40) 0 r.items)
          (and_both (eqb (size roster) n) (distinct roster (size roster)) (eq-eqb (size roster) n r.members) (distinct-complete (size roster) r.distinct)),
    )

-- a roster as its items
pub keeper-item : (items : List (List ℕ)) → Each 40 items → (i : ℕ) → i < length items → keeper_at (get_or items i []) 0 ≡ keeper_at (concat items) i
unfolding keeper_at
keeper-item items each i h = sym (ap unbe (ap (λ (j : ℕ). part (concat items) j 8) (sym (add-zero (i * 40))) ∙ part-concat 40 items i 0 8 each h (omega arith)))

module _ (items : List (List ℕ)) (each : Each 40 items) where
  pub key-item : (i : ℕ) → i < length items → part (get_or items i []) 8 32 ≡ key_at (concat items) i
  unfolding key_at
  key-item i h = sym (part-concat 40 items i 8 32 each h (omega arith))

  -- the key as it is handed over, the bytes from 8 on
  pub key_handed : (i : ℕ) → i < length items
      → let x = get_or items i [] in (take (length x - 8) (drop 8 x) ≡ key_at (concat items) i) × (length (take (length x - 8) (drop 8 x)) ≡ 32)
  key_handed i h =
      let n = each i h in
      let x = get_or items i [] in
      let z : length x - 8 ≡ 32 = omega arith in
      let e : take (length x - 8) (drop 8 x) ≡ part x 8 32 = ap (λ (m : ℕ). part x 8 m) z in
      (e ∙ key-item i h, ap length e ∙ length_part x 8 32 (omega arith))

  pub size-items : size (concat items) ≡ length items
  unfolding size
  size-items = let l = length-concat 40 items each in omega arith

  each_front : (k : ℕ) → k ≤ length items → Each 40 (take k items)
  each_front k h i l = let w = length-take-le k items h in ap length (get_or-take k items i [] (omega arith)) ∙ each i (omega arith)

  -- an item looked for among the first k
  front : (k i : ℕ) → k ≤ length items → i < k → keeper_at (concat (take k items)) i ≡ keeper_at (concat items) i
  front k i h l =
      let w = length-take-le k items h in
      sym (keeper-item (take k items) (each_front k h) i (omega arith)) ∙ ap (λ (x : List ℕ). keeper_at x 0) (get_or-take k items i [] l) ∙ keeper-item items each i (omega arith)

  pub absent-front : (k x n : ℕ) → k ≤ length items → n ≤ k → absent (concat (take k items)) x n ≡ absent (concat items) x n
  unfolding absent
  absent-front k x zero h l = refl
  absent-front k x (suc n) h l = ap₂ (λ (j : ℕ) (b : Bool). not (eqb j x) && b) (front k n h l) (absent-front k x n h (omega arith))
