-- Under a profile of n members of which k are needed, a certificate stands exactly when k distinct members have good receipts showing one
-- pair; the verdict names the first such receipt and exactly those members; a member's receipts count once.
use mathlib.Core.Path.{◌≡◌, refl, sym, ap, ◌∙◌, subst}
use mathlib.Core.Logic.{◌≢◌, ⊎_elim, ◌↔◌}
use Prim.Native.Nat.{ℕ, zero, suc, ◌+◌, ◌*◌, ◌/◌, ◌%◌, ◌^◌, ◌≤◌, ◌<◌}
use native.Mathlib.Nat.{not-suc-le-zero}
use native.Mathlib.Omega.{arith}
use mathlib.Core.Bool.{Bool, true, false, not, ◌&&◌, ◌||◌, cond, or-false}
use mathlib.Core.List.{List, [], ◌∷◌}
use mathlib.Core.Option.{Option, none, some}
use lib.Count.{ones}
use lib.Dec.{eqb}
use lib.ListN.{length}
use borrow.Author.Tests.{both_ways, eqb-true, leb-true, le-leb, not-false}
use Rattle.octets.specs.Octets.{Bytes, same}
use Rattle.octets.proofs.Tests.{and_left, and_right, and_both, or_left, or_right, or_cases, equal_or_not}
use Rattle.octets.proofs.Parts.{bytes-part}
use Rattle.octets.proofs.Same.{same-eq, eq-same}
use Rattle.refusal.specs.Answer.{Answer, answer}
use Rattle.receipt.specs.Attestation.{receipt_size}
use Rattle.refusal.proofs.AnswerLaws.{no-fault}
use Rattle.quorum.specs.Bits.{count_below, mask_below}
use Rattle.roster.specs.Profile.{permitted}
use Rattle.roster.specs.Roster.{size, is_roster, distinct}
use Rattle.quorum.specs.Certificate.{receipt_count, is_certificate, receipt_at, pair_at, is_none, good_by, shows_in, shows, certified, good_at, first_of, first_place, named, unread, certificate_blocks, certificate_refusal, certificate, Admitted, GoodBy, GenuineBy, GoodAt, Shows, Members, Certified, Named, NamesExactly, Station, station_answer, station_blocks}
use Rattle.roster.proofs.Profiles.{permitted-exactly}
use Rattle.roster.proofs.RosterLaws.{roster-exactly}
use Rattle.quorum.proofs.Masks.{mask_lt, mask-bit, mask-by-bits, ones-mask, count-eq, any_at, any_some}
use Rattle.quorum.proofs.Good.{good-by, good-exactly, good-once}
use Rattle.quorum.proofs.Tallies.{placed, Judged, by_first, receipts-exactly}

-- a set that is counted has a member
pub some-member : (n : ℕ) (f : ℕ → Bool) → 1 ≤ count_below n f → (i : ℕ) × (i < n) × (f i ≡ true)
unfolding count_below
some-member zero f h = absurd (not-suc-le-zero h)
some-member (suc n) f h = by (f n) refl h (λ k. some-member n f k)
  where
    by : (b : Bool) → f n ≡ b → 1 ≤ cond b 1 0 + count_below n f → (1 ≤ count_below n f → (i : ℕ) × (i < n) × (f i ≡ true)) → (i : ℕ) × (i < suc n) × (f i ≡ true)
    by true e k r = (n, omega arith, e)
    by false e k r = let s = r (omega arith) in (s.0, omega (arith, s.1), s.2)

-- a bit that says whether b holds
pub of-bit : (b : Bool) (m : ℕ) → m < 2 → m ≡ 1 ↔ (b ≡ true) → m ≡ cond b 1 0
of-bit true m l h = h.1 refl
of-bit false m l h = ⊎_elim (λ (e : m ≡ 1). let f = h.0 e in let z : ◌≡◌ {A = ℕ} 0 1 = cc in absurd (omega arith)) (λ (e : m ≡ 1 → ⊥). let n : m ≢ 1 = e in omega arith) (equal_or_not m 1)

bit-true : (b : Bool) (m : ℕ) → m ≡ cond b 1 0 → m ≡ 1 ↔ (b ≡ true)
bit-true true m h = (λ e. refl, λ e. h)
bit-true false m h = (λ e. absurd (omega arith), λ e. let z : ◌≡◌ {A = ℕ} 0 1 = cc in absurd (omega arith))

module _ (roster nonce : List ℕ) (log position : ℕ) (cert : List ℕ) where
  abbrev good : ℕ → ℕ → Bool
  good q i = good_by roster nonce log position (receipt_at cert q) i

  abbrev shown : ℕ → List ℕ → ℕ → Bool
  shown k v i = shows_in roster nonce log position cert k v i

  abbrev showing : List ℕ → ℕ → Bool
  showing v i = shows roster nonce log position cert v i

  abbrev Good : List ℕ → ℕ → Type 0
  Good r i = GoodBy roster nonce log position r i

  good-is : (q i : ℕ) → good q i ≡ true ↔ Good (receipt_at cert q) i
  good-is q i = good-by roster nonce log position (receipt_at cert q) i

  -- places up to k
  shown-in : (k : ℕ) (v : List ℕ) (i : ℕ) → shown k v i ≡ true → (q : ℕ) × (q < k) × (good q i ≡ true) × (pair_at cert q ≡ v)
  unfolding shows_in
  shown-in zero v i h = let z : ◌≡◌ {A = ℕ} 0 1 = cc in absurd (omega arith)
  shown-in (suc k) v i h =
      ⊎_elim (λ (a : shown k v i ≡ true). let r = shown-in k v i a in (r.0, omega (arith, r.1), r.2, r.3))
      (λ a. (k, omega arith, and_left (good k i) _ a, same-eq (pair_at cert k) v (and_right (good k i) _ a)))
      (or_cases (shown k v i) _ h)

  in-shown : (k : ℕ) (v : List ℕ) (i q : ℕ) → q < k → good q i ≡ true → pair_at cert q ≡ v → shown k v i ≡ true
  unfolding shows_in
  in-shown zero v i q h g e = absurd (not-suc-le-zero h)
  in-shown (suc k) v i q h g e =
      ⊎_elim
      (λ (z : q ≡ k). or_right (shown k v i) _ (and_both (good k i) (same (pair_at cert k) v) (ap (λ (x : ℕ). good x i) (sym z) ∙ g) (eq-same (pair_at cert k) v (ap (pair_at cert) (sym z) ∙ e))))
      (λ z. or_left (shown k v i) _ (in-shown k v i q (omega arith) g e)) (equal_or_not q k)

  -- a member is counted exactly when it has a good receipt that shows the pair
  pub shows-exactly : (v : List ℕ) (i : ℕ) → showing v i ≡ true ↔ ((q : ℕ) × Shows roster cert Good v i q)
  unfolding shows
  shows-exactly v i = (
    λ h. let r = shown-in (receipt_count cert) v i h in (r.0, record { place = r.1; good = (good-is r.0 i).0 r.2; pair = r.3 }),
    λ s. in-shown (receipt_count cert) v i s.0 s.1.place ((good-is s.0 i).1 s.1.good) s.1.pair,
  )

  -- a place is good exactly when a member has a good receipt there
  pub good-at : (p : ℕ) → good_at roster nonce log position cert p ≡ true ↔ GoodAt roster cert Good p
  unfolding good_at
  good-at p = (
    λ h. let r = any_some (size roster) (good p) h in (r.0, r.1, (good-is p r.0).0 r.2),
    λ g. any_at (size roster) (good p) g.0 g.1 ((good-is p g.0).1 g.2),
  )

  -- one mask holds the members that show a pair, and no other does
  abbrev mask-of : List ℕ → ℕ
  mask-of v = mask_below (size roster) (showing v)

  members-in : (v : List ℕ) → Members roster cert Good v (mask-of v)
  members-in v = record {
    bits = λ i l. let t = bit-true (showing v i) (mask-of v / 2 ^ i % 2) (mask-bit (size roster) (showing v) i l) in
        (λ x. (shows-exactly v i).0 (t.0 x), λ s. t.1 ((shows-exactly v i).1 s));
    none-else = mask_lt (size roster) (showing v);
  }

  members_only : (v : List ℕ) (mask : ℕ) → Members roster cert Good v mask → mask ≡ mask-of v
  members_only v mask m =
      mask-by-bits (size roster) (showing v) mask m.none-else
      (λ i l. of-bit (showing v i) (mask / 2 ^ i % 2) (omega arith) (λ x. (shows-exactly v i).1 ((m.bits i l).0 x), λ s. (m.bits i l).1 ((shows-exactly v i).0 s)))

  -- a receipt that is not good by a member does not add it
  pub adds_none : (k : ℕ) (v : List ℕ) (i : ℕ) → good k i ≡ false → shown (suc k) v i ≡ shown k v i
  unfolding shows_in
  adds_none k v i e = ap (λ (b : Bool). shown k v i || (b && same (pair_at cert k) v)) e ∙ or-false (shown k v i)

  -- a second receipt of a member that is counted already adds nothing to the count
  pub counted-once : distinct roster (size roster) ≡ true → (k : ℕ) (v : List ℕ) (j : ℕ) → j < size roster → good k j ≡ true → shown k v j ≡ true
      → count_below (size roster) (shown (suc k) v) ≡ count_below (size roster) (shown k v)
  unfolding shows_in
  counted-once d k v j l g s = count-eq (size roster) (shown (suc k) v) (shown k v) (λ i h. by (good k i) refl h)
    where
      by : {i : ℕ} (b : Bool) → good k i ≡ b → i < size roster → shown k v i || (good k i && same (pair_at cert k) v) ≡ shown k v i
      by {i} true e h =
          let z : i ≡ j = good-once roster nonce log position (receipt_at cert k) d i j h l e g in
          let t : shown k v i ≡ true = ap (shown k v) z ∙ s in
          or_left (shown k v i) _ t ∙ sym t
      by {i} false e h = adds_none k v i e

  module _ (k : ℕ) where
    abbrev test : ℕ → Bool
    test p = good_at roster nonce log position cert p && certified roster nonce log position cert k (pair_at cert p)

    -- a place that passes is found
    finds : (j p q : ℕ) → p ≤ q → q < p + j → test q ≡ true → is_none (first_of roster nonce log position cert k j p) ≡ false
    unfolding first_of
    finds zero p q a b t = absurd (omega arith)
    finds (suc j) p q a b t = by (test p) refl (λ (e : q ≡ p → ⊥). finds j (suc p) q (omega arith) (omega arith) t)
      where
        by : (x : Bool) → test p ≡ x → ((q ≡ p → ⊥) → is_none (first_of roster nonce log position cert k j (suc p)) ≡ false)
            → is_none (cond x (some p) (first_of roster nonce log position cert k j (suc p))) ≡ false
        by true e r = refl
        by false e r = r (λ z. both_ways (test p) e (ap test (sym z) ∙ t))

    record From (j p place : ℕ) : Type 0 where
      low : p ≤ place
      high : place < p + j
      passes : test place ≡ true
      first : (q : ℕ) → p ≤ q → q < place → test q ≡ false

    -- what is found passes, and is the first that does
    found : (j p place : ℕ) → first_of roster nonce log position cert k j p ≡ some place → From j p place
    unfolding first_of
    found zero p place h = let z : ◌≡◌ {A = ℕ} 0 1 = cc in absurd (omega arith)
    found (suc j) p place h = by (test p) refl h (λ g. found j (suc p) place g)
      where
        by : (x : Bool) → test p ≡ x → cond x (some p) (first_of roster nonce log position cert k j (suc p)) ≡ some place
            → (first_of roster nonce log position cert k j (suc p) ≡ some place → From j (suc p) place) → From (suc j) p place
        by true e g r =
            let z : p ≡ place = cc in
            record { low = omega arith; high = omega arith; passes = ap test (sym z) ∙ e; first = λ q a b. absurd (omega arith) }
        by false e g r =
            let s = r g in
            record {
              low = omega (arith, s.low);
              high = omega (arith, s.high);
              passes = s.passes;
              first = λ q a b. ⊎_elim (λ (z : q ≡ p). ap test z ∙ e) (λ z. s.first q (omega arith) b) (equal_or_not q p);
            }

    -- the first that passes is found
    finds-first : (j p place : ℕ) → From j p place → first_of roster nonce log position cert k j p ≡ some place
    unfolding first_of
    finds-first zero p place f = let l = f.low in let h = f.high in absurd (omega arith)
    finds-first (suc j) p place f = by (test p) refl (λ g. finds-first j (suc p) place g)
      where
        by : (x : Bool) → test p ≡ x → (From j (suc p) place → first_of roster nonce log position cert k j (suc p) ≡ some place)
            → cond x (some p) (first_of roster nonce log position cert k j (suc p)) ≡ some place
        by true e r = ⊎_elim (λ (z : p ≡ place). ap some z) (λ z. absurd (both_ways (test p) (f.first p (omega arith) (omega (arith, f.low))) e)) (equal_or_not p place)
        by false e r =
            ⊎_elim (λ (z : p ≡ place). absurd (both_ways (test p) e (ap test z ∙ f.passes)))
            (λ z. r (record { low = omega (arith, f.low); high = omega (arith, f.high); passes = f.passes; first = λ q a b. f.first q (omega arith) b })) (equal_or_not p place)

    enough-of : (v : List ℕ) → certified roster nonce log position cert k v ≡ true → k ≤ count_below (size roster) (showing v)
    unfolding certified
    enough-of v h = leb-true k (count_below (size roster) (showing v)) h

    of-enough : (v : List ℕ) → k ≤ count_below (size roster) (showing v) → certified roster nonce log position cert k v ≡ true
    unfolding certified
    of-enough v h = le-leb k (count_below (size roster) (showing v)) h

    -- the members counted are the ones of their mask
    counted : (v : List ℕ) → ones (mask-of v) ≡ count_below (size roster) (showing v)
    counted v = ones-mask (size roster) (showing v)

    -- a pair is certified exactly when k members show it
    pub certified-exactly : (v : List ℕ) → certified roster nonce log position cert k v ≡ true ↔ Certified roster cert Good k v
    certified-exactly v = (
      λ h. (mask-of v, members-in v, subst (λ (n : ℕ). k ≤ n) (sym (counted v)) (enough-of v h)),
      λ c. of-enough v (subst (λ (n : ℕ). k ≤ n) (ap ones (members_only v c.0 c.1) ∙ counted v) c.2),
    )

    -- a place passes exactly when it is good and its pair certified
    test-exactly : (p : ℕ) → test p ≡ true ↔ (GoodAt roster cert Good p × Certified roster cert Good k (pair_at cert p))
    test-exactly p = (
      λ h. ((good-at p).0 (and_left (good_at roster nonce log position cert p) _ h), (certified-exactly (pair_at cert p)).0 (and_right (good_at roster nonce log position cert p) _ h)),
      λ g. and_both (good_at roster nonce log position cert p) _ ((good-at p).1 g.0) ((certified-exactly (pair_at cert p)).1 g.1),
    )

    not-passing : (p : ℕ) → (GoodAt roster cert Good p → Certified roster cert Good k (pair_at cert p) → ⊥) → test p ≡ false
    not-passing p h = by (test p) refl
      where
        by : (b : Bool) → test p ≡ b → test p ≡ false
        by true e = let g = (test-exactly p).0 e in absurd (h g.0 g.1)
        by false e = e

    -- where k members show a pair, a place passes
    passing : 1 ≤ k → (v : List ℕ) → Certified roster cert Good k v → (q : ℕ) × (q < receipt_count cert) × (test q ≡ true)
    passing o v c =
        let h = enough-of v ((certified-exactly v).1 c) in
        let m = some-member (size roster) (showing v) (omega arith) in
        let s = (shows-exactly v m.0).0 m.2 in
        let q = s.0 in
        (q, s.1.place, (test-exactly q).1 ((m.0, m.1, s.1.good), subst (Certified roster cert Good k) (sym s.1.pair) c))

  module _ (n k : ℕ) where
    abbrev verdict : Answer
    verdict = certificate n k roster nonce log position cert

    abbrev first : Option ℕ
    first = first_place roster nonce log position cert k

    -- the verdict where the receipts are looked at
    is-first : Admitted n k roster nonce cert → verdict ≡ placed roster nonce log position cert [] first
    is-first a =
        sym (by_first n k roster nonce log position cert a.nonce ((permitted-exactly n k).1 a.profile) ((roster-exactly roster n).1 a.roster) ((receipts-exactly cert).1 a.receipts))

    -- a verdict of number 0: no fault was found
    admitted : verdict.number ≡ 0 → Admitted n k roster nonce cert × (is_none first ≡ false)
    unfolding certificate certificate_refusal unread
    admitted e =
        let vs = named roster nonce log position cert first in
        let s1 = no-fault 7 (not (eqb (length nonce) 32)) _ vs (λ z. omega arith) e in
        let s2 = no-fault 17 (not (permitted n k)) _ vs (λ z. omega arith) s1.1 in
        let s3 = no-fault 12 (not (is_roster n roster)) _ vs (λ z. omega arith) s2.1 in
        let s4 = no-fault 9 (not (is_certificate cert)) _ vs (λ z. omega arith) s3.1 in
        let s5 = no-fault 13 (is_none first) _ vs (λ z. omega arith) s4.1 in (
          record {
            nonce = eqb-true (length nonce) 32 (not-false _ s1.0);
            profile = (permitted-exactly n k).0 (not-false _ s2.0);
            roster = (roster-exactly roster n).0 (not-false _ s3.0);
            receipts = (receipts-exactly cert).0 (not-false _ s4.0);
          },
          s5.0,
        )

    named-from : (place mask : ℕ) (o : Option ℕ) → first ≡ o → placed roster nonce log position cert [] o ≡ answer 0 (place ∷ mask ∷ [])
        → Named roster cert Good k place mask
    unfolding first_place named
    named-from place mask none e h = absurd (let z : ◌≡◌ {A = ℕ} 13 0 = ap (λ (a : Answer). a.number) h in omega arith)
    named-from place mask (some p) e h =
        let l : ◌≡◌ {A = List ℕ} (p ∷ mask-of (pair_at cert p) ∷ []) (place ∷ mask ∷ []) = ap (λ (a : Answer). a.values) h in
        let z : p ≡ place = cc in
        let m : mask-of (pair_at cert p) ≡ mask = cc in
        let u : mask-of (pair_at cert place) ≡ mask = ap (λ (i : ℕ). mask-of (pair_at cert i)) (sym z) ∙ m in
        let f = found k (receipt_count cert) 0 place (e ∙ ap some z) in
        let g = (test-exactly k place).0 f.passes in
        let c = enough-of k (pair_at cert place) ((certified-exactly k (pair_at cert place)).1 g.1) in
        record {
          within = omega (arith, f.high);
          good = g.0;
          members = subst (Members roster cert Good (pair_at cert place)) u (members-in (pair_at cert place));
          enough = subst (λ (x : ℕ). k ≤ x) (sym (counted k (pair_at cert place)) ∙ ap ones u) c;
          first = λ q l a b. both_ways (test k q) (f.first q (omega arith) l) ((test-exactly k q).1 (a, b));
        }

    first-from : (place mask : ℕ) → Named roster cert Good k place mask → first ≡ some place
    unfolding first_place
    first-from place mask d =
        let w = d.within in
        finds-first k (receipt_count cert) 0 place
        (record {
          low = omega arith;
          high = omega (arith, w);
          passes = (test-exactly k place).1 (d.good, (mask, d.members, d.enough));
          first = λ q a b. not-passing k q (d.first q b);
        })

    placed-as : (place mask : ℕ) → Named roster cert Good k place mask → placed roster nonce log position cert [] (some place) ≡ answer 0 (place ∷ mask ∷ [])
    unfolding named
    placed-as place mask d = ap (λ (m : ℕ). answer 0 (place ∷ m ∷ [])) (sym (members_only (pair_at cert place) mask d.members))

    -- the verdict's theorem: "The verdict names the first good receipt in order whose pair is certified, and the members whose
    -- good receipts show that pair", where nonce, profile, roster and receipts are as they must be, and names nothing else
    pub named-exactly : (place mask : ℕ) → verdict ≡ answer 0 (place ∷ mask ∷ []) ↔ ((Admitted n k roster nonce cert) × (Named roster cert Good k place mask))
    named-exactly place mask = (
      λ h. let a = (admitted (ap (λ (x : Answer). x.number) h)).0 in (a, named-from place mask first refl (sym (is-first a) ∙ h)),
      λ u. is-first u.0 ∙ ap (placed roster nonce log position cert []) (first-from place mask u.1) ∙ placed-as place mask u.1,
    )

    -- a verdict of number 0 names a place and a mask
    names-one : Admitted n k roster nonce cert → (o : Option ℕ) → first ≡ o → is_none o ≡ false → (place mask : ℕ) × (verdict ≡ answer 0 (place ∷ mask ∷ []))
    unfolding named
    names-one a none e h = let z : ◌≡◌ {A = ℕ} 0 1 = cc in absurd (omega arith)
    names-one a (some p) e h = (p, mask_below (size roster) (showing (pair_at cert p)), is-first a ∙ ap (placed roster nonce log position cert []) e)

    pub stands-names : verdict.number ≡ 0 → (place mask : ℕ) × (verdict ≡ answer 0 (place ∷ mask ∷ []))
    stands-names h = let a = admitted h in names-one a.0 first refl a.1

    number_of : (o : Option ℕ) → is_none o ≡ false → (placed roster nonce log position cert [] o).number ≡ 0
    number_of none h = let z : ◌≡◌ {A = ℕ} 0 1 = cc in absurd (omega arith)
    number_of (some p) h = refl

    -- a certificate stands exactly when nonce, profile, roster and receipts are as they must be and k distinct members have good
    -- receipts showing one pair
    pub stands-exactly : verdict.number ≡ 0 ↔ ((Admitted n k roster nonce cert) × ((v : List ℕ) × (Certified roster cert Good k v)))
    unfolding first_place
    stands-exactly = (
      λ h. let s = stands-names h in
          let d = (named-exactly s.0 s.1).0 s.2 in
          (d.0, (pair_at cert s.0, (s.1, d.1.members, d.1.enough))),
      λ u. let a = u.0 in
          let half = a.profile.over-half in
          let q = passing k (omega arith) u.1.0 u.1.1 in
          ap (λ (x : Answer). x.number) (is-first a) ∙ number_of first (finds k (receipt_count cert) 0 q.0 (omega arith) (omega (arith, q.1)) q.2),
    )

-- what is named is so whichever way the good receipts are told
module _ (roster cert : List ℕ) where
  abbrev Alike : (List ℕ → ℕ → Type 0) → (List ℕ → ℕ → Type 0) → Type 0
  Alike G H = (q i : ℕ) → G (receipt_at cert q) i ↔ H (receipt_at cert q) i

  back : (G H : List ℕ → ℕ → Type 0) → Alike G H → Alike H G
  back G H a q i = ((a q i).1, (a q i).0)

  shows-as : (G H : List ℕ → ℕ → Type 0) → Alike G H → (v : List ℕ) (i : ℕ) → (q : ℕ) × Shows roster cert G v i q → (q : ℕ) × Shows roster cert H v i q
  shows-as G H a v i s = (s.0, record { place = s.1.place; good = (a s.0 i).0 s.1.good; pair = s.1.pair })

  members-as : (G H : List ℕ → ℕ → Type 0) → Alike G H → (v : List ℕ) (mask : ℕ) → Members roster cert G v mask → Members roster cert H v mask
  members-as G H a v mask m = record {
    bits = λ i l. (λ x. shows-as G H a v i ((m.bits i l).0 x), λ s. (m.bits i l).1 (shows-as H G (back G H a) v i s));
    none-else = m.none-else;
  }

  good-as : (G H : List ℕ → ℕ → Type 0) → Alike G H → (p : ℕ) → GoodAt roster cert G p → GoodAt roster cert H p
  good-as G H a p g = (g.0, g.1, (a p g.0).0 g.2)

  named-as : (G H : List ℕ → ℕ → Type 0) → Alike G H → (k place mask : ℕ) → Named roster cert G k place mask → Named roster cert H k place mask
  named-as G H a k place mask d = record {
    within = d.within;
    good = good-as G H a place d.good;
    members = members-as G H a (pair_at cert place) mask d.members;
    enough = d.enough;
    first = λ q l g c. d.first q l (good-as H G (back G H a) q g) (c.0, members-as H G (back G H a) (pair_at cert q) c.0 c.1, c.2);
  }

module _ (n k : ℕ) (roster nonce : List ℕ) (log position : ℕ) (cert : List ℕ) where
  -- the verdict's theorem in terms of the receipts' bytes
  pub named-genuine : Bytes cert → NamesExactly n k roster nonce log position cert (certificate n k roster nonce log position cert)
  unfolding receipt_at
  named-genuine b place mask =
      let G : List ℕ → ℕ → Type 0 = GoodBy roster nonce log position in
      let H : List ℕ → ℕ → Type 0 = GenuineBy roster nonce log position in
      let a : Alike roster cert G H = λ q i. good-exactly roster nonce log position (receipt_at cert q) (bytes-part cert (q * receipt_size) receipt_size b) i in
      let t = named-exactly roster nonce log position cert n k place mask in (
        λ h. ((t.0 h).0, named-as roster cert G H a k place mask (t.0 h).1),
        λ u. t.1 (u.0, named-as roster cert H G (back roster cert G H a) k place mask u.1),
      )

-- a verdict that has the answer and the blocks for a list of bytes names exactly
pub certificate_exactly : {n k : ℕ} {roster nonce : List ℕ} {log position : ℕ} {cert : List ℕ} (v : Station) {w : Station} → Bytes cert → v ≡ w
    → Judged n k roster nonce log position cert (station_answer w) (station_blocks w)
    → (station_answer v ≡ certificate n k roster nonce log position cert) × (NamesExactly n k roster nonce log position cert (station_answer v) × (station_blocks v ≡ certificate_blocks n k roster nonce cert))
certificate_exactly {n} {k} {roster} {nonce} {log} {position} {cert} v b z e =
    let a : station_answer v ≡ certificate n k roster nonce log position cert = ap station_answer z ∙ e.0 in
    (a, (subst (NamesExactly n k roster nonce log position cert) (sym a) (named-genuine n k roster nonce log position cert b), ap station_blocks z ∙ e.1))
