-- The blocks hashed for a certificate (document 02 [2]): of one receipt, by whether a member has its keeper number; of the first places.
use mathlib.Core.Path.{◌≡◌, refl, sym, ap, ap₂, ◌∙◌}
use Prim.Native.Nat.{ℕ, zero, suc, ◌+◌, ◌*◌, ◌≤◌}
use native.Mathlib.Numerals.{add-one}
use native.Mathlib.Omega.{arith}
use mathlib.Core.Bool.{Bool, true, false, ◌&&◌, cond}
use mathlib.Core.List.{List}
use lib.ListN.{length}
use Rattle.octets.proofs.Tests.{and-true, and-false}
use Rattle.receipt.specs.Attestation.{read_attestation}
use Rattle.receipt.specs.Possible.{possible}
use Rattle.receipt.specs.Verdict.{verify_blocks}
use Rattle.receipt.proofs.Cases.{blocks-by}
use Rattle.quorum.specs.Bits.{sum_below}
use Rattle.roster.specs.Roster.{size, is_member, member}
use Rattle.quorum.specs.Certificate.{receipt_at, receipt_blocks}
use Rattle.quorum.specs.Tally.{blocks_below}
use Rattle.std.specs.Prelude.{Option, Some, None, is_some}
use Rattle.roster.proofs.RosterLaws.{is_some-member}

pub receipt-few : (roster r : List ℕ) → receipt_blocks roster r ≤ 6
unfolding receipt_blocks
receipt-few roster r = go (possible (read_attestation r) && is_member roster (read_attestation r).keeper)
  where
    go : (b : Bool) → cond b 6 0 ≤ 6
    go true = omega arith
    go false = omega arith

module _ (roster r : List ℕ) (n : ℕ) (e : size roster ≡ n) (k : ℕ) (q : k ≡ (read_attestation r).keeper) where
  -- what the search finds tells whether a member has the keeper number
  is_member_lem : (f : Option ℕ) → member roster k n ≡ f → is_member roster (read_attestation r).keeper ≡ is_some f
  unfolding is_member
  is_member_lem f h = sym (ap₂ (λ (x m : ℕ). is_some (member roster x m)) q (sym e) ∙ is_some-member roster (read_attestation r).keeper (size roster)) ∙ ap is_some h

  -- a stranger's receipt adds none
  pub stranger-blocks : member roster k n ≡ None → 0 ≡ receipt_blocks roster r
  unfolding receipt_blocks
  stranger-blocks h = simp (is_member_lem None h, and-false (possible (read_attestation r)))

  -- a member's adds what its verification reports
  pub member-blocks : (key nonce : List ℕ) (i : ℕ) {b : ℕ} → member roster k n ≡ Some i → length key ≡ 32 → length nonce ≡ 32 → length r ≡ 160
      → b ≡ verify_blocks key r nonce → b ≡ receipt_blocks roster r
  unfolding receipt_blocks
  member-blocks key nonce i h s m l v = v ∙ blocks-by key r nonce s m l ∙ simp (is_member_lem (Some i) h, and-true (possible (read_attestation r)))

module _ (roster cert : List ℕ) where
  pub blocks_start : 0 ≡ blocks_below roster cert 0
  unfolding sum_below
  blocks_start = refl

  -- one receipt more
  pub blocks_step : (p : ℕ) {r : List ℕ} {b c : ℕ} → b ≡ blocks_below roster cert p → r ≡ receipt_at cert p → c ≡ b + receipt_blocks roster r → c ≡ blocks_below roster cert (p + 1)
  unfolding sum_below
  blocks_step p h g e = e ∙ rw add-one (ap₂ (λ (x : ℕ) (l : List ℕ). x + receipt_blocks roster l) h g)

  -- so a count of them fits
  pub blocks-few : (k : ℕ) → blocks_below roster cert k ≤ k * 6
  unfolding sum_below
  blocks-few zero = omega arith
  blocks-few (suc k) = omega (arith, receipt-few roster (receipt_at cert k), blocks-few k)
