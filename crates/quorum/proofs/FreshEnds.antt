-- Document 02, [6]: no certificate counts the end of a fresh log. It is good by no member, adds none to those that show a pair, and no verdict names it;
-- a member's is a possible entry, so its blocks are counted.
use mathlib.Core.Path.{◌≡◌}
use mathlib.Core.Logic.◌⊎◌.{inr}
use Prim.Native.Nat.{ℕ, suc}
use native.Mathlib.Omega.{arith}
use mathlib.Core.Bool.{true, false}
use mathlib.Core.List.{List, [], ◌∷◌}
use Rattle.refusal.specs.Answer.{answer}
use Rattle.receipt.specs.Attestation.{read_attestation}
use Rattle.receipt.specs.Possible.{FreshEnd}
use Rattle.receipt.proofs.PossibleLaws.{possible-complete}
use Rattle.roster.specs.Roster.{is_member}
use Rattle.quorum.specs.Certificate.{receipt_at, receipt_blocks, good_by, shows_in, certificate}
use Rattle.quorum.proofs.Good.{only-assigned}
use Rattle.quorum.proofs.Certificates.{adds_none, named-exactly}

module _ (roster nonce : List ℕ) (log position : ℕ) where
  pub fresh-end-not-good : (r : List ℕ) → FreshEnd (read_attestation r) → (i : ℕ) → good_by roster nonce log position r i ≡ false
  fresh-end-not-good r f i = only-assigned roster nonce log position r (λ (e : (read_attestation r).kind ≡ 1). let z = f.unassigned in omega arith) i

  module _ (cert : List ℕ) where
    pub fresh-end-adds-none : (k : ℕ) → FreshEnd (read_attestation (receipt_at cert k)) → (v : List ℕ) (i : ℕ)
        → shows_in roster nonce log position cert (suc k) v i ≡ shows_in roster nonce log position cert k v i
    fresh-end-adds-none k f v i = adds_none roster nonce log position cert k v i (fresh-end-not-good (receipt_at cert k) f i)

    pub fresh-end-not-named : (n k place mask : ℕ) → certificate n k roster nonce log position cert ≡ answer 0 (place ∷ mask ∷ []) → FreshEnd (read_attestation (receipt_at cert place)) → ⊥
    fresh-end-not-named n k place mask e f =
        let g = ((named-exactly roster nonce log position cert n k place mask).0 e).1.good in
        let a = g.2.assigned in
        let z = f.unassigned in
        omega arith

pub fresh-end-blocks : (roster r : List ℕ) → FreshEnd (read_attestation r) → is_member roster (read_attestation r).keeper ≡ true → receipt_blocks roster r ≡ 6
unfolding receipt_blocks
fresh-end-blocks roster r f m = simp (possible-complete (read_attestation r) (inr f), m)
