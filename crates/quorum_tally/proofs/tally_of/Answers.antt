-- `quorum_tally::tally_of` meets its contract.
use Rattle.std.specs.List.{concat}
use Rattle.std.proofs.Common.{◌≡◌, ℕ, suc, ◌+◌, ◌≤◌, List, Option, Some, None, get_or, length-set, refl, sym, ap, ◌∙◌, arith, not-suc-le-zero}
use Rattle.std.proofs.lemmas.List.{get_or-replicate, get_or_past}
use mathlib.Core.Logic.{⊎_elim}
use native.Mathlib.Decide.{dec_le}
use lib.ListN.{replicate, length-replicate}
use lib.Seq.{get_or-set_other}
use Rattle.octets.proofs.Tests.{equal_or_not}
use Rattle.quorum.specs.Certificate.{receipt_at}
use Rattle.quorum.specs.Tally.{good_member, Tallied}
use Rattle.quorum.proofs.BlockLaws.{blocks_start, blocks_step, blocks-few, receipt-few}
use Rattle.quorum.proofs.Piles.{receipt-of}
use Rattle.quorum.proofs.Tallies.{tallied-step}
use Rattle.quorum_tally.proofs.tally_of.Goals as goal

-- before the first receipt no member is noted
none-noted : (n q : ℕ) → get_or (replicate {A = Option ℕ} n None) q None ≡ None
none-noted n q = go (dec_le (suc q) n)
  where
    go : Dec (suc q ≤ n) → get_or (replicate {A = Option ℕ} n None) q None ≡ None
    go (yes h) = get_or-replicate n q None None h
    go (no h) = get_or_past (replicate n None) q None (let e = length-replicate {A = Option ℕ} n None in omega arith)

-- a place whose receipt is not good stays as it is
passed_over : (roster nonce : List ℕ) (log position : ℕ) (cert : List ℕ) (t : List (Option ℕ)) (p : ℕ) → Tallied roster nonce log position cert p t
    → get_or t p None ≡ good_member roster nonce log position (receipt_at cert p) → Tallied roster nonce log position cert (p + 1) t
passed_over roster nonce log position cert t p h e q k =
    ⊎_elim (λ (w : q ≡ p). ap (λ (i : ℕ). get_or t i None) w ∙ e ∙ ap (λ (i : ℕ). good_member roster nonce log position (receipt_at cert i)) (sym w))
    (λ w. h q (omega arith)) (equal_or_not q p)

pub loop-p-init : goal.loop-p-init
loop-p-init c = (refl, (λ q h. absurd (not-suc-le-zero h), (blocks_start (concat c.args.roster.now) (concat c.args.pile.now), λ q h. none-noted 32 q)))

pub overflow_add-blocks : goal.overflow_add-blocks
overflow_add-blocks c =
    omega (arith, c.loop-p.invariant.1.1.0, blocks-few (concat c.args.roster.now) (concat c.args.pile.now) c.loop-p.p, c.member_of-found.ensures.blocks, receipt-few (concat c.args.roster.now), c.requires.1)

pub loop-p-preserved : goal.loop-p-preserved
loop-p-preserved c =
    let r = receipt-of c.args.pile.now c.told-pile c.loop-p.p (omega arith) in (
      length-set _ _ _ ∙ c.loop-p.invariant.0,
      (
        tallied-step (concat c.args.roster.now) c.args.nonce.now c.args.log c.args.position (concat c.args.pile.now) c.loop-p.members c.loop-p.p (omega (arith, c.loop-p.invariant.0, c.requires.1)) c.loop-p.invariant.1.0
            (sym c.in-Some.is ∙ c.member_of-found.ensures.member ∙ ap (good_member (concat c.args.roster.now) c.args.nonce.now c.args.log c.args.position) r),
        (
          blocks_step (concat c.args.roster.now) (concat c.args.pile.now) c.loop-p.p c.loop-p.invariant.1.1.0 r (ap (λ (n : ℕ). c.loop-p.blocks + n) c.member_of-found.ensures.blocks),
          λ q h. get_or-set_other c.loop-p.members c.loop-p.p q (Some c.in-Some.member) None (λ e. omega arith) ∙ c.loop-p.invariant.1.1.1 q (omega arith),
        ),
      ),
    )

pub loop-p-preserved-in_default : goal.loop-p-preserved-in_default
loop-p-preserved-in_default c =
    let r = receipt-of c.args.pile.now c.told-pile c.loop-p.p (omega arith) in (
      c.loop-p.invariant.0,
      (
        passed_over (concat c.args.roster.now) c.args.nonce.now c.args.log c.args.position (concat c.args.pile.now) c.loop-p.members c.loop-p.p c.loop-p.invariant.1.0
            (c.loop-p.invariant.1.1.1 c.loop-p.p (omega arith) ∙ sym c.in_default.is ∙ c.member_of-found.ensures.member ∙ ap (good_member (concat c.args.roster.now) c.args.nonce.now c.args.log c.args.position) r),
        (
          blocks_step (concat c.args.roster.now) (concat c.args.pile.now) c.loop-p.p c.loop-p.invariant.1.1.0 r (ap (λ (n : ℕ). c.loop-p.blocks + n) c.member_of-found.ensures.blocks),
          λ q h. c.loop-p.invariant.1.1.1 q (omega arith),
        ),
      ),
    )
