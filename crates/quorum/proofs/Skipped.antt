-- Document 02, [3]: "No certificate ever counts such a value for the skipped position." A skipped receipt is good by no member, whatever it shows; it adds
-- no member to those that show a pair, and no verdict names it.
use mathlib.Core.Path.{◌≡◌, refl}
use mathlib.Core.Logic.{◌≢◌}
use Prim.Native.Nat.{ℕ, suc, ◌≤◌, ◌<◌}
use native.Mathlib.Omega.{arith}
use mathlib.Core.Bool.{Bool, true, false}
use mathlib.Core.List.{List, [], ◌∷◌}
use borrow.Author.Tests.{leb-true}
use Rattle.refusal.specs.Answer.{answer}
use Rattle.receipt.specs.Attestation.{read_attestation}
use Rattle.quorum.specs.Bits.{count_below}
use Rattle.roster.specs.Roster.{size}
use Rattle.quorum.specs.Certificate.{receipt_count, receipt_at, pair_at, good_by, shows_in, shows, certified, certificate, GoodBy}
use Rattle.quorum.proofs.Good.{only-assigned}
use Rattle.quorum.proofs.Certificates.{some-member, adds_none, shows-exactly, named-exactly}

module _ (roster nonce : List ℕ) (log position : ℕ) where
  -- no good receipt is skipped
  good-not-skipped : (r : List ℕ) (i : ℕ) → GoodBy roster nonce log position r i → (read_attestation r).kind ≢ 2
  good-not-skipped r i g h = let a = g.assigned in omega arith

  pub skipped-not-good : (r : List ℕ) → (read_attestation r).kind ≡ 2 → (i : ℕ) → good_by roster nonce log position r i ≡ false
  skipped-not-good r h i = only-assigned roster nonce log position r (λ (e : (read_attestation r).kind ≡ 1). omega arith) i

  module _ (cert : List ℕ) where
    -- one receipt more that is skipped: whoever showed a pair shows it, and nobody else
    pub skipped-adds-none : (k : ℕ) → (read_attestation (receipt_at cert k)).kind ≡ 2 → (v : List ℕ) (i : ℕ)
        → shows_in roster nonce log position cert (suc k) v i ≡ shows_in roster nonce log position cert k v i
    skipped-adds-none k h v i = adds_none roster nonce log position cert k v i (skipped-not-good (receipt_at cert k) h i)

    -- a pair that only skipped receipts show is certified for no number of members
    pub skipped-not-counted : (k : ℕ) → 1 ≤ k → (v : List ℕ) → ((q : ℕ) → q < receipt_count cert → pair_at cert q ≡ v → (read_attestation (receipt_at cert q)).kind ≡ 2)
        → certified roster nonce log position cert k v ≡ false
    unfolding certified
    skipped-not-counted k k1 v h = by (certified roster nonce log position cert k v) refl
      where
        by : (b : Bool) → certified roster nonce log position cert k v ≡ b → certified roster nonce log position cert k v ≡ false
        by true e =
            let enough = leb-true k (count_below (size roster) (shows roster nonce log position cert v)) e in
            let m = some-member (size roster) (shows roster nonce log position cert v) (omega arith) in
            let s = (shows-exactly roster nonce log position cert v m.0).0 m.2 in
            absurd (good-not-skipped (receipt_at cert s.0) m.0 s.1.good (h s.0 s.1.place s.1.pair))
        by false e = e

    pub skipped-not-named : (n k place mask : ℕ) → certificate n k roster nonce log position cert ≡ answer 0 (place ∷ mask ∷ []) → (read_attestation (receipt_at cert place)).kind ≢ 2
    skipped-not-named n k place mask e =
        let g = ((named-exactly roster nonce log position cert n k place mask).0 e).1.good in
        good-not-skipped (receipt_at cert place) g.0 g.2
