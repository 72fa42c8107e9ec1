-- Document 02 [7]: "That no two pairs can be certified, if no member contradicts itself, is shown for all profiles together." Over two
-- certificates of one station, each with a nonce and a number of members needed of its own: offices hold different certificates. One
-- certificate is the case of the same twice.
use mathlib.Core.Path.{◌≡◌, refl, sym, ap, ◌∙◌}
use Prim.Native.Nat.{ℕ, zero, suc, ◌+◌, ◌/◌, ◌%◌, ◌^◌, ◌≤◌, ◌<◌}
use native.Mathlib.Omega.{arith}
use mathlib.Core.Bool.{Bool, true, false, cond}
use mathlib.Core.List.{List, [], ◌∷◌}
use lib.Count.{ones}
use lib.Dec.{eqb}
use borrow.Author.Tests.{eqb-true, eq-eqb}
use Rattle.octets.specs.Octets.{same}
use Rattle.octets.proofs.Same.{same-eq, same_not}
use Rattle.refusal.specs.Answer.{answer}
use Rattle.quorum.specs.Bits.{count_below}
use Rattle.roster.specs.Profile.{Permitted}
use Rattle.roster.specs.Roster.{size}
use Rattle.quorum.specs.Certificate.{pair_at, certificate, GoodBy, Certified, Consistent}
use Rattle.quorum.proofs.Masks.{mask-by-bits, ones-mask}
use Rattle.quorum.proofs.Certificates.{of-bit, named-exactly}

-- two sets with no common member
disjoint : (n : ℕ) (f g : ℕ → Bool) → ((i : ℕ) → i < n → f i ≡ true → g i ≡ true → ⊥) → count_below n f + count_below n g ≤ n
unfolding count_below
disjoint zero f g h = omega arith
disjoint (suc n) f g h = by (f n) (g n) refl refl (disjoint n f g (λ i k. h i (omega arith)))
  where
    by : (a b : Bool) → f n ≡ a → g n ≡ b → count_below n f + count_below n g ≤ n → cond a 1 0 + count_below n f + (cond b 1 0 + count_below n g) ≤ suc n
    by true true p q r = absurd (h n (omega arith) p q)
    by true false p q r = omega arith
    by false true p q r = omega arith
    by false false p q r = omega arith

-- a mask as a set: bit i says whether i is in it
abbrev bit : ℕ → ℕ → Bool
bit mask i = eqb (mask / 2 ^ i % 2) 1

count_of : (n mask : ℕ) → mask < 2 ^ n → ones mask ≡ count_below n (bit mask)
count_of n mask h =
    ap ones (mask-by-bits n (bit mask) mask h (λ i l. of-bit (bit mask i) (mask / 2 ^ i % 2) (omega arith) (eq-eqb (mask / 2 ^ i % 2) 1, eqb-true (mask / 2 ^ i % 2) 1)))
    ∙ ones-mask n (bit mask)

module _ (roster c d : List ℕ) (Good Good' : List ℕ → ℕ → Type 0) where
  -- k members show a pair in the one and l in the other, together more than there are: one of them shows both
  pub at_most_one : (k l : ℕ) → size roster < k + l → Consistent roster c d Good Good'
      → (v w : List ℕ) → Certified roster c Good k v → Certified roster d Good' l w → v ≡ w
  at_most_one k l m h v w a b = by (same v w) refl
    where
      apart : (v ≡ w → ⊥) → (i : ℕ) → i < size roster → bit a.0 i ≡ true → bit b.0 i ≡ true → ⊥
      apart e i s x y =
          let p = (a.1.bits i s).0 (eqb-true (a.0 / 2 ^ i % 2) 1 x) in
          let q = (b.1.bits i s).0 (eqb-true (b.0 / 2 ^ i % 2) 1 y) in
          e (sym p.1.pair ∙ h i p.0 q.0 s p.1.place q.1.place p.1.good q.1.good ∙ q.1.pair)

      by : (t : Bool) → same v w ≡ t → v ≡ w
      by true e = same-eq v w e
      by false e =
          let f = disjoint (size roster) (bit a.0) (bit b.0) (apart (same_not v w e)) in
          absurd (omega (arith, f, a.2, b.2, count_of (size roster) a.0 a.1.none-else, count_of (size roster) b.0 b.1.none-else))

  -- for all profiles of n members together, the same or two
  pub at-most-one-pair : (n k l : ℕ) → size roster ≡ n → Permitted n k → Permitted n l → Consistent roster c d Good Good'
      → (v w : List ℕ) → Certified roster c Good k v → Certified roster d Good' l w → v ≡ w
  at-most-one-pair n k l s p q = let x = p.over-half in let y = q.over-half in at_most_one k l (omega arith)

-- one certificate: "If no member has good receipts with different pairs, at most one pair can be certified."
pub one_certificate : (n k : ℕ) (roster c : List ℕ) (Good : List ℕ → ℕ → Type 0) → size roster ≡ n → Permitted n k → Consistent roster c c Good Good
    → (v w : List ℕ) → Certified roster c Good k v → Certified roster c Good k w → v ≡ w
one_certificate n k roster c Good s p = at-most-one-pair roster c c Good Good n k k s p p

-- what two verdicts name: under whatever profiles, each with its own nonce
pub verdicts-agree : (n k m l : ℕ) (roster nonce other : List ℕ) (log position : ℕ) (c d : List ℕ)
    → Consistent roster c d (GoodBy roster nonce log position) (GoodBy roster other log position)
    → (place mask place' mask' : ℕ) → certificate n k roster nonce log position c ≡ answer 0 (place ∷ mask ∷ [])
    → certificate m l roster other log position d ≡ answer 0 (place' ∷ mask' ∷ []) → pair_at c place ≡ pair_at d place'
verdicts-agree n k m l roster nonce other log position c d h place mask place' mask' e f =
    let a = (named-exactly roster nonce log position c n k place mask).0 e in
    let b = (named-exactly roster other log position d m l place' mask').0 f in
    let x = a.0.profile.over-half in
    let y = b.0.profile.over-half in
    at_most_one roster c d (GoodBy roster nonce log position) (GoodBy roster other log position) k l (omega (arith, a.0.roster.members, b.0.roster.members)) h
    (pair_at c place) (pair_at d place') (mask, a.1.members, a.1.enough) (mask', b.1.members, b.1.enough)
