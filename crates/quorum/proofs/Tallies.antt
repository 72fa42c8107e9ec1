-- The tally: one place more, one bit more, one place tried; and that what the program finds in it is the definition.
use mathlib.Core.Path.{◌≡◌, refl, sym, ap, ap₂, ◌∙◌}
use mathlib.Core.Logic.{⊎_elim, ◌↔◌}
use Prim.Native.Nat.{ℕ, zero, suc, ◌+◌, ◌-◌, ◌*◌, ◌/◌, ◌%◌, ◌^◌, ◌≤◌, ◌<◌}
use native.Mathlib.Nat.{zero-mul, one-mul}
use native.Mathlib.Numerals.{add-one}
use lib.Pow.{shl_exact}
use lib.Bits.{bit_or}
use native.Mathlib.Omega.{arith}
use mathlib.Core.Bool.{Bool, true, false, ◌&&◌, ◌||◌, cond}
use mathlib.Core.List.{List, [], ◌∷◌}
use mathlib.Core.Option.{Option, none, some}
use lib.Count.{ones}
use lib.Dec.{eqb, leb}
use lib.ListN.{length, get_or, set}
use lib.Seq.{get_or-set_same, get_or-set_other}
use borrow.Author.Tests.{eq-eqb, ne_eqb, le-leb, lt-leb, eqb-true, leb-true}
use Rattle.octets.specs.Octets.{same}
use Rattle.octets.proofs.Tests.{equal_or_not, and_left, and_right, and_both}
use Rattle.refusal.specs.Order.{first_fault, afterwards}
use Rattle.refusal.specs.Answer.{Answer, answer, answer_with}
use Rattle.receipt.specs.Attestation.{receipt_size}
use Rattle.quorum.specs.Bits.{any_below, mask_below}
use Rattle.roster.specs.Profile.{permitted}
use Rattle.roster.specs.Roster.{size, is_roster, distinct}
use Rattle.quorum.specs.Certificate.{receipt_count, is_certificate, receipt_at, pair_at, is_none, good_by, shows_in, shows, certified, good_at, first_of, first_place, named, unread, pile_blocks, certificate_blocks, certificate_refusal, certificate, IsCertificate}
use Rattle.quorum.specs.Tally.{good_member, Tallied, blocks_below, Bounded, with_member, is_member_i, tally_shows, mask_at, tried_at, or_else, first_in}
use Rattle.std.specs.declared.option.Option.{Option as Maybe}
use Rattle.std.specs.Prelude.{Some, None, is_some}
use Rattle.std.specs.Bool.{then_some}
use Rattle.roster.proofs.Profiles.{permitted-exactly}
use Rattle.roster.proofs.RosterLaws.{roster-size, roster-distinct}
use Rattle.quorum.proofs.Good.{member-good, good-member, member_most, member_tells}
use Rattle.quorum.proofs.Masks.{ones-mask, mask-eq, mask-more, mask-with, any_none, any-eq, any_at}

-- one receipt more
pub tallied-step : (roster nonce : List ℕ) (log position : ℕ) (cert : List ℕ) (t : List (Maybe ℕ)) (p : ℕ) {f : Maybe ℕ} → p < length t → Tallied roster nonce log position cert p t
    → f ≡ good_member roster nonce log position (receipt_at cert p) → Tallied roster nonce log position cert (p + 1) (set t p f)
tallied-step roster nonce log position cert t p {f} l h g q k =
    ⊎_elim (λ (w : q ≡ p). ap (λ (i : ℕ). get_or (set t p f) i None) w ∙ get_or-set_same t p f None l ∙ g ∙ ap (λ (i : ℕ). good_member roster nonce log position (receipt_at cert i)) (sym w))
    (λ w. get_or-set_other t p q f None w ∙ h q (omega arith)) (equal_or_not q p)

-- one place of the mask
pub mask_step : (t : List (Maybe ℕ)) (cert : List ℕ) (q p : ℕ) {m : ℕ} → ((i : ℕ) → get_or t q None ≡ Some i → i < 32) → m ≡ mask_at t cert q p
    → with_member m (get_or t q None) (same (pair_at cert q) (pair_at cert p)) ≡ mask_at t cert (suc q) p
unfolding mask_at tally_shows
mask_step t cert q p {m} h e =
    ap (λ (x : ℕ). with_member x (get_or t q None) (same (pair_at cert q) (pair_at cert p))) e
    ∙ mask-with (tally_shows t cert q (pair_at cert p)) 32 (get_or t q None) (same (pair_at cert q) (pair_at cert p)) h

-- the bit of a member that shows the pair is set, and nothing else
module _ (t : List (Maybe ℕ)) (cert : List ℕ) (q p : ℕ) {m : ℕ} (e : m ≡ mask_at t cert q p) where
  pub mask-set_bit : (i : ℕ) → get_or t q None ≡ Some i → i < 32 → same (pair_at cert q) (pair_at cert p) ≡ true → bit_or m (1 * 2 ^ i % 4294967296) ≡ mask_at t cert (q + 1) p
  unfolding with_member
  mask-set_bit i h l s =
      let shifted : 1 * 2 ^ i % 4294967296 ≡ 2 ^ i = shl_exact 1 i 32 (omega arith) (omega (arith, l)) ∙ one-mul (2 ^ i) in
      let w : with_member m (get_or t q None) (same (pair_at cert q) (pair_at cert p)) ≡ bit_or m (2 ^ i) = simp (h, s) in
      rw add-one (ap (bit_or m) shifted ∙ sym w ∙ mask_step t cert q p (λ j g. let z : i ≡ j = cc in omega arith) e)

  pub mask-other_pair : (i : ℕ) → get_or t q None ≡ Some i → i < 32 → same (pair_at cert q) (pair_at cert p) ≡ false → m ≡ mask_at t cert (q + 1) p
  unfolding with_member
  mask-other_pair i h l s =
      let w : with_member m (get_or t q None) (same (pair_at cert q) (pair_at cert p)) ≡ m = simp (h, s) in
      rw add-one (sym w ∙ mask_step t cert q p (λ j g. let z : i ≡ j = cc in omega arith) e)

  pub mask-no_member : get_or t q None ≡ None → m ≡ mask_at t cert (q + 1) p
  unfolding with_member
  mask-no_member h =
      let w : with_member m (get_or t q None) (same (pair_at cert q) (pair_at cert p)) ≡ m = simp h in
      rw add-one (sym w ∙ mask_step t cert q p (λ j g. absurd (cc)) e)

empty : (n : ℕ) → 0 ≡ mask_below n (λ i. false)
unfolding mask_below
empty zero = refl
empty (suc n) = empty n ∙ omega (arith, zero-mul (2 ^ n))

pub mask_start : (t : List (Maybe ℕ)) (cert : List ℕ) (p : ℕ) → 0 ≡ mask_at t cert 0 p
unfolding mask_at tally_shows
mask_start t cert p = empty 32

module _ (t : List (Maybe ℕ)) (cert : List ℕ) (need k p : ℕ) where
  -- one place tried
  pub not_good : get_or t p None ≡ None → None ≡ tried_at t cert need k p
  unfolding tried_at
  not_good h = simp h

  then-cond : (b : Bool) (m : ℕ) → then_some b m ≡ cond b (Some m) None
  then-cond true m = refl
  then-cond false m = refl

  pub tried-good : {i m : ℕ} {o : Maybe ℕ} → get_or t p None ≡ Some i → m ≡ mask_at t cert k p → o ≡ then_some (leb need (ones m)) m → o ≡ tried_at t cert need k p
  unfolding tried_at
  tried-good {i} {m} h e s =
      s ∙ ap (λ (x : ℕ). then_some (leb need (ones x)) x) e ∙ simp h (then-cond (leb need (ones (mask_at t cert k p))) (mask_at t cert k p))

  -- one place of the search
  pub first_step : (j : ℕ) → first_in t cert need k (suc j) p ≡ or_else (tried_at t cert need k p) p (first_in t cert need k j (suc p))
  unfolding first_in
  first_step j = refl

  pub first-none : answer 13 [] ≡ first_in t cert need k 0 p
  unfolding first_in
  first-none = refl

module _ (roster nonce : List ℕ) (log position : ℕ) (cert : List ℕ) (t : List (Maybe ℕ)) where
  -- the answer that names a place
  abbrev pub placed : Option ℕ → Answer
  placed none = answer 13 []
  placed (some p) = answer 0 (named roster nonce log position cert (some p))

  pub tally-bounded : (k : ℕ) → size roster ≤ 32 → Tallied roster nonce log position cert k t → Bounded t k
  tally-bounded k s h p i l e = omega (arith, member_most roster nonce log position (receipt_at cert p) i (sym (h p l) ∙ e))

  module _ (d : distinct roster (size roster) ≡ true) where
    -- the members by the tally are the members
    shown-is : (k : ℕ) → Tallied roster nonce log position cert k t → (v : List ℕ) (i : ℕ) → i < size roster → tally_shows t cert k v i ≡ shows_in roster nonce log position cert k v i
    unfolding tally_shows shows_in
    shown-is zero h v i s = refl
    shown-is (suc k) h v i s =
        ap₂ (λ (a b : Bool). a || (b && same (pair_at cert k) v)) (shown-is k (λ p l. h p (omega arith)) v i s)
        (ap (λ (m : Maybe ℕ). is_member_i m i) (h k (omega arith)) ∙ member_tells roster nonce log position (receipt_at cert k) d i s)

    beyond : (m : Maybe ℕ) (n i : ℕ) → ((j : ℕ) → m ≡ Some j → j < n) → n ≤ i → is_member_i m i ≡ false
    unfolding is_member_i
    beyond None n i h l = refl
    beyond (Some j) n i h l = let b = h j refl in ne_eqb j i (λ e. omega arith)

    shown-beyond : (k : ℕ) → Tallied roster nonce log position cert k t → (v : List ℕ) (i : ℕ) → size roster ≤ i → tally_shows t cert k v i ≡ false
    unfolding tally_shows
    shown-beyond zero h v i s = refl
    shown-beyond (suc k) h v i s =
        ap₂ (λ (x y : Bool). x || (y && same (pair_at cert k) v)) (shown-beyond k (λ p l. h p (omega arith)) v i s)
        (beyond (get_or t k None) (size roster) i (λ j e. member_most roster nonce log position (receipt_at cert k) j (sym (h k (omega arith)) ∙ e)) s)

    -- a good receipt has a member
    good-member_of : (p : ℕ) → get_or t p None ≡ good_member roster nonce log position (receipt_at cert p) → is_some (get_or t p None) ≡ good_at roster nonce log position cert p
    unfolding good_at
    good-member_of p h = ap is_some h ∙ by (good_member roster nonce log position (receipt_at cert p)) refl
      where
        good : ℕ → Bool
        good i = good_by roster nonce log position (receipt_at cert p) i

        none-good : good_member roster nonce log position (receipt_at cert p) ≡ None → (i : ℕ) → i < size roster → (b : Bool) → good i ≡ b → good i ≡ false
        none-good e i s false g = g
        none-good e i s true g = let a = good-member roster nonce log position (receipt_at cert p) d i s g in let z : ◌≡◌ {A = ℕ} 0 1 = cc in absurd (omega arith)

        by : (f : Maybe ℕ) → good_member roster nonce log position (receipt_at cert p) ≡ f → is_some f ≡ any_below (size roster) good
        by (Some i) e = let g = member-good roster nonce log position (receipt_at cert p) i e in sym (any_at (size roster) good i g.0 g.1)
        by None e = sym (any-eq (size roster) good (λ i. false) (λ i s. none-good e i s (good i) refl) ∙ any_none (size roster))

    module _ (s : size roster ≤ 32) (h : Tallied roster nonce log position cert (receipt_count cert) t) where
      mask_is : (p : ℕ) → mask_at t cert (receipt_count cert) p ≡ mask_below (size roster) (shows roster nonce log position cert (pair_at cert p))
      unfolding mask_at shows
      mask_is p =
          let f : ℕ → Bool = tally_shows t cert (receipt_count cert) (pair_at cert p) in
          let e : size roster + (32 - size roster) ≡ 32 = omega arith in
          ap (λ (n : ℕ). mask_below n f) (sym e)
          ∙ mask-more (size roster) (32 - size roster) f (λ i l. shown-beyond (receipt_count cert) h (pair_at cert p) i l)
          ∙ mask-eq (size roster) f (shows_in roster nonce log position cert (receipt_count cert) (pair_at cert p)) (λ i l. shown-is (receipt_count cert) h (pair_at cert p) i l)

      stands-is : (need p : ℕ) → leb need (ones (mask_at t cert (receipt_count cert) p)) ≡ certified roster nonce log position cert need (pair_at cert p)
      unfolding certified
      stands-is need p = ap (leb need) (ap ones (mask_is p) ∙ ones-mask (size roster) (shows roster nonce log position cert (pair_at cert p)))

      choice : (g b : Bool) (m p : ℕ) (a : Answer) → or_else (cond g (cond b (Some m) None) None) p a ≡ cond (g && b) (answer 0 (p ∷ m ∷ [])) a
      choice true true m p a = refl
      choice true false m p a = refl
      choice false b m p a = refl

      placed-cond : (b : Bool) (p : ℕ) (o : Option ℕ) → cond b (placed (some p)) (placed o) ≡ placed (cond b (some p) o)
      placed-cond true p o = refl
      placed-cond false p o = refl

      named-is : (p : ℕ) → answer 0 (p ∷ mask_at t cert (receipt_count cert) p ∷ []) ≡ placed (some p)
      unfolding named
      named-is p = ap (λ (m : ℕ). answer 0 (p ∷ m ∷ [])) (mask_is p)

      -- the first place by the tally is the first place
      pub first-is : (need j p : ℕ) → p + j ≤ receipt_count cert → first_in t cert need (receipt_count cert) j p ≡ placed (first_of roster nonce log position cert need j p)
      unfolding first_in first_of tried_at
      first-is need zero p l = refl
      first-is need (suc j) p l =
          let k : ℕ = receipt_count cert in
          let m : ℕ = mask_at t cert k p in
          let a : Answer = first_in t cert need k j (suc p) in
          let o : Option ℕ = first_of roster nonce log position cert need j (suc p) in
          let g : Bool = good_at roster nonce log position cert p in
          let c : Bool = certified roster nonce log position cert need (pair_at cert p) in
          choice (is_some (get_or t p None)) (leb need (ones m)) m p a
          ∙ ap₂ (λ (x y : Bool). cond (x && y) (answer 0 (p ∷ m ∷ [])) a) (good-member_of p (h p (omega arith))) (stands-is need p)
          ∙ ap₂ (λ (x y : Answer). cond (g && c) x y) (named-is p) (first-is need j (suc p) (omega arith))
          ∙ placed-cond (g && c) p o

-- the ways out of a certificate's verdict

module _ (n k : ℕ) (roster nonce : List ℕ) (log position : ℕ) (cert : List ℕ) where
  -- an answer is the verdict, and the blocks are those hashed for it
  abbrev pub Judged : Answer → ℕ → Type 0
  Judged given blocks = (given ≡ certificate n k roster nonce log position cert) × (blocks ≡ certificate_blocks n k roster nonce cert)

  pub other-nonce : (length nonce ≡ 32 → ⊥) → Judged (answer 7 []) 0
  unfolding certificate certificate_refusal certificate_blocks unread first_fault answer_with afterwards
  other-nonce h = simp (ne_eqb (length nonce) 32 h) (refl, refl)

  module _ (s : length nonce ≡ 32) where
    pub no-profile : permitted n k ≡ false → Judged (answer 17 []) 0
    unfolding certificate certificate_refusal certificate_blocks unread first_fault answer_with afterwards
    no-profile h = simp (eq-eqb (length nonce) 32 s, h) (refl, refl)

    module _ (p : permitted n k ≡ true) where
      pub no-roster : is_roster n roster ≡ false → Judged (answer 12 []) 0
      unfolding certificate certificate_refusal certificate_blocks unread first_fault answer_with afterwards
      no-roster h = simp (eq-eqb (length nonce) 32 s, p, h) (refl, refl)

      module _ (r : is_roster n roster ≡ true) where
        pub no-receipts : is_certificate cert ≡ false → Judged (answer 9 []) 0
        unfolding certificate certificate_refusal certificate_blocks unread first_fault answer_with afterwards
        no-receipts h = simp (eq-eqb (length nonce) 32 s, p, r, h) (refl, refl)

        by_place : (o : Option ℕ) → placed roster nonce log position cert [] o ≡ cond (is_none o) (answer 13 []) (answer 0 (named roster nonce log position cert o))
        by_place none = refl
        by_place (some q) = refl

        answer-cond : (b : Bool) (vs : List ℕ) → cond b (answer 13 []) (answer 0 vs) ≡ answer_with (cond b (some 13) none) vs
        unfolding answer_with
        answer-cond true vs = refl
        answer-cond false vs = refl

        pub by_first : is_certificate cert ≡ true → placed roster nonce log position cert [] (first_place roster nonce log position cert k) ≡ certificate n k roster nonce log position cert
        unfolding certificate certificate_refusal unread first_fault
        by_first h =
            let o = first_place roster nonce log position cert k in
            by_place o ∙ answer-cond (is_none o) (named roster nonce log position cert o) ∙ simp (eq-eqb (length nonce) 32 s, p, r, h)

        -- the receipts are looked at
        pub looked-at : is_certificate cert ≡ true → pile_blocks roster cert ≡ certificate_blocks n k roster nonce cert
        unfolding certificate_blocks unread first_fault afterwards
        looked-at h = simp (eq-eqb (length nonce) 32 s, p, r, h)

        -- every member has a bit
        pub members-most : size roster ≤ 32
        members-most = let m = ((permitted-exactly n k).0 p).most in omega (arith, roster-size roster n r)

        -- the last way out: the answer of the search in the tally
        pub by_tally : (t : List (Maybe ℕ)) → is_certificate cert ≡ true → Tallied roster nonce log position cert (receipt_count cert) t
            → Judged (first_in t cert k (receipt_count cert) (receipt_count cert) 0) (pile_blocks roster cert)
        unfolding first_place
        by_tally t h c =
            (first-is roster nonce log position cert t (roster-distinct roster n r) members-most c k (receipt_count cert) 0 (omega arith) ∙ by_first h, looked-at h)

        -- the same of the slices that the bytes were cut into
        pub by_slices : (t : List (Maybe ℕ)) (rs ns cs : List ℕ) (m : ℕ) {a : Answer} {b : ℕ} → rs ≡ roster → ns ≡ nonce → cs ≡ cert → m ≡ receipt_count cert → is_certificate cert ≡ true
            → Tallied rs ns log position cs m t → a ≡ first_in t cs k m m 0 → b ≡ blocks_below rs cs m → Judged a b
        unfolding pile_blocks
        by_slices t rs ns cs m er en ec em h c a b =
            let w = by_tally t h (λ q l. c q (omega arith) ∙ ap (λ (x : List ℕ). good_member x ns log position (receipt_at cs q)) er ∙ ap₂ (λ (x y : List ℕ). good_member roster x log position (receipt_at y q)) en ec) in
            (a ∙ ap₂ (λ (x : List ℕ) (i : ℕ). first_in t x k i i 0) ec em ∙ w.0, b ∙ ap₂ (λ (x y : List ℕ). blocks_below x y m) er ec ∙ ap (blocks_below roster cert) em ∙ w.1)

-- the test of a certificate's length, and the conditions
module _ (cert : List ℕ) where
  pub is-certificate : length cert % receipt_size ≡ 0 → length cert / receipt_size ≤ 32 → is_certificate cert ≡ true
  unfolding is_certificate receipt_count
  is-certificate w h = simp (eq-eqb (length cert % receipt_size) 0 w, le-leb (length cert / receipt_size) 32 h)

  pub not-whole_number : (length cert % receipt_size ≡ 0 → ⊥) → is_certificate cert ≡ false
  unfolding is_certificate
  not-whole_number h = simp (ne_eqb (length cert % receipt_size) 0 h)

  pub too-many : length cert % receipt_size ≡ 0 → 32 < length cert / receipt_size → is_certificate cert ≡ false
  unfolding is_certificate receipt_count
  too-many w h = simp (eq-eqb (length cert % receipt_size) 0 w, lt-leb (length cert / receipt_size) 32 h)

  pub receipts-exactly : is_certificate cert ≡ true ↔ IsCertificate cert
  unfolding is_certificate
  receipts-exactly = (
    λ h. record {
      whole = eqb-true (length cert % receipt_size) 0 (and_left (eqb (length cert % receipt_size) 0) (leb (receipt_count cert) 32) h);
      most = leb-true (receipt_count cert) 32 (and_right (eqb (length cert % receipt_size) 0) (leb (receipt_count cert) 32) h);
    },
    λ c. and_both (eqb (length cert % receipt_size) 0) (leb (receipt_count cert) 32) (eq-eqb (length cert % receipt_size) 0 c.whole) (le-leb (receipt_count cert) 32 c.most),
  )
