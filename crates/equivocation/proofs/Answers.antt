-- The ways out of the search for a contradiction: refused by 17, 12 or 9, or what is found among the marked places.
use mathlib.Core.Path.{◌≡◌, refl, ◌∙◌}
use Prim.Native.Nat.{ℕ}
use native.Mathlib.Omega.{arith}
use mathlib.Core.Bool.{Bool, true, false}
use mathlib.Core.List.{List, []}
use Rattle.refusal.specs.Order.{first_fault, afterwards}
use Rattle.refusal.specs.Answer.{Answer, answer, answer_with}
use Rattle.roster.specs.Profile.{permitted}
use Rattle.roster.specs.Roster.{is_roster}
use Rattle.roster.proofs.RosterLaws.{roster-distinct}
use Rattle.quorum.specs.Certificate.{receipt_count, is_certificate, pile_blocks}
use Rattle.equivocation.specs.Pairs.{first_pair, places_of, contradiction_refusal, contradiction, contradiction_blocks_of}
use Rattle.equivocation.specs.Marks.{Marked, first_in}
use Rattle.equivocation.proofs.SearchLaws.{first-is}

module _ (n k : ℕ) (roster pile : List ℕ) where
  -- an answer is the definition's, and the blocks are those hashed for it
  abbrev pub Judged : Answer → ℕ → Type 0
  Judged given blocks = (given ≡ contradiction n k roster pile) × (blocks ≡ contradiction_blocks_of n k roster pile)

  pub no-profile : permitted n k ≡ false → Judged (answer 17 []) 0
  unfolding contradiction contradiction_refusal contradiction_blocks_of first_fault answer_with afterwards
  no-profile h = simp h (refl, refl)

  module _ (p : permitted n k ≡ true) where
    pub no-roster : is_roster n roster ≡ false → Judged (answer 12 []) 0
    unfolding contradiction contradiction_refusal contradiction_blocks_of first_fault answer_with afterwards
    no-roster h = simp (p, h) (refl, refl)

    module _ (r : is_roster n roster ≡ true) where
      pub not-receipts : is_certificate pile ≡ false → Judged (answer 9 []) 0
      unfolding contradiction contradiction_refusal contradiction_blocks_of first_fault answer_with afterwards
      not-receipts h = simp (p, r, h) (refl, refl)

      -- the receipts are looked at
      pub looked-at : is_certificate pile ≡ true → Judged (answer 0 (places_of (first_pair roster pile))) (pile_blocks roster pile)
      unfolding contradiction contradiction_refusal contradiction_blocks_of first_fault answer_with afterwards
      looked-at h = simp (p, r, h) (refl, refl)

      pub by-marks : is_certificate pile ≡ true → (marks : List Bool) → Marked roster pile (receipt_count pile) marks → Judged (first_in marks pile (receipt_count pile) 0) (pile_blocks roster pile)
      unfolding first_pair
      by-marks h marks m = let w = looked-at h in (first-is roster pile marks (roster-distinct roster n r) m (receipt_count pile) 0 (omega arith) ∙ w.0, w.1)
