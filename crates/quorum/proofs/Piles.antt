-- A pile of receipts as a slice of them: each is the receipt at its place in the bytes.
use mathlib.Core.Path.{◌≡◌, sym, ap, ◌∙◌}
use Prim.Native.Nat.{ℕ, ◌*◌, ◌<◌}
use native.Mathlib.Nat.{add-zero}
use native.Mathlib.Omega.{arith}
use mathlib.Core.List.{List, []}
use lib.ListN.{length, get_or}
use lib.Seq.{take_all}
use Rattle.std.specs.List.{concat}
use Rattle.octets.specs.Octets.{part}
use Rattle.roster.proofs.OnEnd.{Each, length-concat, part-concat}
use Rattle.receipt.specs.Attestation.{pair_in}
use Rattle.quorum.specs.Certificate.{receipt_count, receipt_at, pair_at}

module _ (pile : List (List ℕ)) (each : Each 160 pile) where
  pub receipt-of : (p : ℕ) → p < length pile → get_or pile p [] ≡ receipt_at (concat pile) p
  unfolding receipt_at
  receipt-of p h =
      let n = each p h in
      sym (ap (λ (at : ℕ). part (concat pile) at 160) (sym (add-zero (p * 160))) ∙ part-concat 160 pile p 0 160 each h (omega arith) ∙ take_all 160 (get_or pile p []) (omega arith))

  pub pair-of : (p : ℕ) → p < length pile → pair_in (get_or pile p []) ≡ pair_at (concat pile) p
  unfolding pair_at
  pair-of p h = ap pair_in (receipt-of p h)

  pub count-of : receipt_count (concat pile) ≡ length pile
  unfolding receipt_count
  count-of = let l = length-concat 160 pile each in omega arith
