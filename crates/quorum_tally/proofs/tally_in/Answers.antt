-- `quorum_tally::tally_in` meets its contract.
use Rattle.std.specs.List.{concat}
use Rattle.std.proofs.Common.{◌≡◌, ℕ, zero, suc, ◌+◌, ◌*◌, ◌/◌, ◌≤◌, ◌<◌, List, Option, Some, None, cond, Bool, ◌&&◌, length, take, refl, sym, ap, ap₂, ◌∙◌, arith, length-take}
use Rattle.std.proofs.lemmas.List.{length-take-le}
use Rattle.std.specs.Option.{is_some}
use Rattle.std.specs.Simd.{first_chunks}
use native.Mathlib.Nat.{zero-add}
use lib.Seq.{take_all}
use lib.Dec.{eqb}
use Rattle.octets.specs.Octets.{part}
use Rattle.octets.proofs.Parts.{part-part}
use Rattle.receipt.specs.Attestation.{read_attestation}
use Rattle.receipt.specs.Possible.{possible}
use Rattle.receipt.specs.Verdict.{verdict, lookup_of}
use Rattle.roster.specs.Roster.{size, member, is_member}
use Rattle.roster.proofs.OnEnd.{cut, concat-front}
use Rattle.roster.proofs.RosterLaws.{keeper-within, key-within, size-within, member-within, member_below, is_some-member}
use Rattle.quorum.specs.Bits.{sum_below}
use Rattle.quorum.specs.Certificate.{receipt_at, good_by, receipt_blocks}
use Rattle.quorum.specs.Tally.{if_good, good_member, Tallied, blocks_below}
use Rattle.quorum_tally.proofs.tally_in.Goals as goal

-- the bytes behind a roster's items tell nothing of its members
module _ (roster : List ℕ) where
  items : List ℕ
  items = take (size roster * 40) roster

  found-same : (x : ℕ) → member items x (size items) ≡ member roster x (size roster)
  unfolding items
  found-same x = ap (member items x) (size-within roster) ∙ member-within roster x (size roster) (size roster) (omega arith)

  blocks-same : (r : List ℕ) → receipt_blocks items r ≡ receipt_blocks roster r
  unfolding receipt_blocks is_member
  blocks-same r =
      let x : ℕ = (read_attestation r).keeper in
      let e : is_member items x ≡ is_member roster x = sym (is_some-member items x (size items)) ∙ ap is_some (found-same x) ∙ is_some-member roster x (size roster) in
      ap (λ (b : Bool). cond (possible (read_attestation r) && b) 6 0) e

  module _ (nonce : List ℕ) (log position : ℕ) (r : List ℕ) where
    by-same : (i : ℕ) → i < size roster → good_by items nonce log position r i ≡ good_by roster nonce log position r i
    unfolding good_by items
    by-same i h =
        ap₂ (λ (key : List ℕ) (keeper : ℕ). eqb (verdict key r nonce (lookup_of keeper log position)).number 0 && eqb (read_attestation r).kind 1)
        (key-within roster i (size roster) h) (keeper-within roster i (size roster) h)

    good-same : good_member items nonce log position r ≡ good_member roster nonce log position r
    unfolding good_member
    good-same =
        let x : ℕ = (read_attestation r).keeper in
        ap (if_good items nonce log position r) (found-same x) ∙ go (member roster x (size roster)) (λ i e. (member_below roster x (size roster) i e).0)
      where
        go : (f : Option ℕ) → ((i : ℕ) → f ≡ Some i → i < size roster) → if_good items nonce log position r f ≡ if_good roster nonce log position r f
        go None h = refl
        go (Some i) h = ap (λ (b : Bool). cond b (Some i) None) (by-same i (h i refl))

-- nor do those behind the receipts
receipt-same : (cert : List ℕ) (count p : ℕ) → p < count → receipt_at (take (count * 160) cert) p ≡ receipt_at cert p
unfolding receipt_at
receipt-same cert count p h = part-part cert 0 (count * 160) (p * 160) 160 (omega arith) ∙ ap (λ (at : ℕ). part cert at 160) (zero-add (p * 160))

below-same : (roster cert : List ℕ) (count k : ℕ) → k ≤ count → blocks_below (items roster) (take (count * 160) cert) k ≡ blocks_below roster cert k
unfolding sum_below
below-same roster cert count zero h = refl
below-same roster cert count (suc k) h =
    ap₂ (λ (b c : ℕ). b + c) (below-same roster cert count k (omega arith))
    (ap (receipt_blocks (items roster)) (receipt-same cert count k h) ∙ blocks-same roster (receipt_at cert k))

tallied-same : (roster nonce : List ℕ) (log position : ℕ) (cert : List ℕ) (count : ℕ) (t : List (Option ℕ)) (a n c : List ℕ) (k : ℕ)
    → a ≡ items roster → n ≡ nonce → c ≡ take (count * 160) cert → k ≡ count
    → Tallied a n log position c k t → Tallied roster nonce log position cert count t
tallied-same roster nonce log position cert count t a n c k ea en ec ek h p l =
    h p (omega arith)
    ∙ ap₂ (λ (x y : List ℕ). good_member x y log position (receipt_at c p)) ea en
    ∙ ap (λ (z : List ℕ). good_member (items roster) nonce log position (receipt_at z p)) ec
    ∙ ap (good_member (items roster) nonce log position) (receipt-same cert count p l)
    ∙ good-same roster nonce log position (receipt_at cert p)

-- the items of a roster, as they are cut
cut-items : (roster : List ℕ) (xs : List (List ℕ)) → xs ≡ first_chunks 40 (length roster / 40) roster → concat xs ≡ items roster
unfolding items size
cut-items roster xs e = ap concat e ∙ concat-front 40 (length roster / 40) roster

pub tally_of-requires : goal.tally_of-requires
unfolding size
tally_of-requires c = (omega (arith, c.as_chunks.ensures.front_len), omega (arith, c.as_chunks-2.ensures.front_len, length-take {A = ℕ}))

pub returns : goal.returns
returns c =
    let roster : List ℕ = c.args.roster.now in
    let cert : List ℕ = c.args.cert.now in
    let count : ℕ = c.args.count in
    let l : length (take (count * 160) cert) ≡ count * 160 = length-take-le (count * 160) cert c.requires.receipt_size_in_bounds.0 in
    let xs : List (List ℕ) = c.as_chunks.result.0.now in
    let ys : List (List ℕ) = c.as_chunks-2.result.0.now in
    let ea : concat xs ≡ items roster = cut-items roster xs c.as_chunks.ensures.front in
    let en : c.array_at.result.now ≡ c.args.nonce.now = c.array_at.ensures ∙ take_all 32 c.args.nonce.now (omega arith) in
    let ec : concat ys ≡ take (count * 160) cert = cut 159 (take (count * 160) cert) ys c.as_chunks-2.ensures.front (omega arith) in
    let ek : length ys ≡ count = omega (arith, c.as_chunks-2.ensures.front_len) in
    record {
      members = tallied-same roster c.args.nonce.now c.args.log c.args.position cert count c.tally_of.result.value (concat xs) c.array_at.result.now (concat ys) (length ys) ea en ec ek c.tally_of.ensures.members;
      blocks = c.tally_of.ensures.blocks ∙ ap₂ (λ (a b : List ℕ). blocks_below a b (length ys)) ea ec
          ∙ ap (blocks_below (items roster) (take (count * 160) cert)) ek ∙ below-same roster cert count count (omega arith);
    }
