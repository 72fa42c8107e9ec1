-- The receipt writer: pieces written one behind the other, the tag behind them, and the writer's ways out.
use mathlib.Core.Path.{◌≡◌, refl, sym, ap, ap₂, ◌∙◌}
use Prim.Native.Nat.{ℕ, ◌+◌, ◌≤◌}
use native.Mathlib.Omega.{arith}
use mathlib.Core.List.{List, [], ◌∷◌, ◌++◌, append_assoc}
use mathlib.Core.Option.{none, some}
use lib.ListN.{length, length-append}
use borrow.Author.Tests.{eq-eqb, ne_eqb}
use Rattle.bigendian.specs.BigEndian.{be}
use Rattle.bigendian.proofs.Laws.{length-be}
use Rattle.hmac.specs.Hmac.{hmac}
use Rattle.hmac.proofs.Sizes.{length-hmac}
use Rattle.octets.specs.Octets.{part, splice}
use Rattle.octets.proofs.Parts.{splice-then, part-splice-same, splice-whole}
use Rattle.refusal.specs.Order.{first_fault}
use Rattle.receipt.specs.Attestation.{Attestation, LOOKUP, END, attested_bytes, receipt_bytes}
use Rattle.receipt.specs.Writer.{name_bytes, attestation_of, fact_bytes, write_refusal}
use Rattle.receipt.specs.declared.Name.{Name}
use Rattle.receipt.specs.declared.Name.TheVariants.{Lookup, End}
use Rattle.receipt.specs.declared.Facts.{Facts}

pub length-name : (n : Name) → length (name_bytes n) ≡ 6
unfolding name_bytes LOOKUP END
length-name Lookup = refl
length-name End = refl

module _ (out : List ℕ) where
  -- four pieces, each written where the one before it ends
  pub four : (a b c d : List ℕ) (i j k : ℕ) {p q r s : List ℕ} → length a ≡ i → i + length b ≡ j → j + length c ≡ k → k + length d ≤ length out
      → p ≡ splice out 0 a → q ≡ splice p i b → r ≡ splice q j c → s ≡ splice r k d → s ≡ splice out 0 (a ++ (b ++ (c ++ d)))
  four a b c d i j k la lb lc ld hp hq hr hs =
      let n2 : length (a ++ b) ≡ j = length-append a b ∙ omega arith in
      let n3 : length ((a ++ b) ++ c) ≡ k = length-append (a ++ b) c ∙ omega arith in
      splice-then out ((a ++ b) ++ c) d k (splice-then out (a ++ b) c j (splice-then out a b i hp la (omega arith) hq) n2 (omega arith) hr) n3 (omega arith) hs
      ∙ ap (splice out 0) (append_assoc (a ++ b) c d ∙ append_assoc a b (c ++ d))

  -- the facts
  pub facts-written : (f : Facts) {p q r s t : List ℕ} → length out ≡ 160 → p ≡ splice out 0 (name_bytes f.name) → q ≡ splice p 6 (f.kind ∷ f.log ∷ [])
      → r ≡ splice q 8 (be 8 f.keeper) → s ≡ splice r 16 (be 8 f.position) → t ≡ splice s 24 (be 8 f.reference) → t ≡ splice out 0 (fact_bytes f)
  unfolding fact_bytes
  facts-written f h hp hq hr hs ht =
      let a : List ℕ = name_bytes f.name in
      let b : List ℕ = f.kind ∷ f.log ∷ [] in
      let c = be 8 f.keeper in
      let d = be 8 f.position in
      let e = be 8 f.reference in
      let na = length-name f.name in
      let nc = length-be 8 f.keeper in
      let nd = length-be 8 f.position in
      let ne = length-be 8 f.reference in
      let n : length (a ++ b) ≡ 8 = length-append a b ∙ omega arith in
      four (a ++ b) c d e 8 16 24 n (omega arith) (omega arith) (omega arith) (splice-then out a b 6 hp na (omega arith) hq) hr hs ht
      ∙ ap (splice out 0) (append_assoc a b (c ++ (d ++ e)))

  pub length-facts : (f : Facts) → length (fact_bytes f) ≡ 32
  unfolding fact_bytes
  length-facts f = simp length-append (omega (arith, length-name f.name, length-be 8 f.keeper, length-be 8 f.position, length-be 8 f.reference))

  -- and nonce, value and digest behind them
  pub attested-written : (f : Facts) (nonce value digest : List ℕ) {p q r s : List ℕ} → length out ≡ 160 → length nonce ≡ 32 → length value ≡ 32 → length digest ≡ 32
      → p ≡ splice out 0 (fact_bytes f) → q ≡ splice p 32 nonce → r ≡ splice q 64 value → s ≡ splice r 96 digest
      → s ≡ splice out 0 (attested_bytes (attestation_of f nonce value digest))
  unfolding fact_bytes attested_bytes attestation_of
  attested-written f nonce value digest h n v d hp hq hr hs =
      four (fact_bytes f) nonce value digest 32 64 96 (length-facts f) (omega arith) (omega arith) (omega arith) hp hq hr hs ∙ ap (splice out 0) regroup
    where
      regroup : fact_bytes f ++ (nonce ++ (value ++ digest)) ≡ attested_bytes (attestation_of f nonce value digest)
      regroup = simp append_assoc

  -- the tag behind them makes the receipt
  pub tag-behind : (key : List ℕ) (a : Attestation) {p q : List ℕ} → length out ≡ 160 → length (attested_bytes a) ≡ 128
      → p ≡ splice out 0 (attested_bytes a) → q ≡ splice p 128 (hmac key (part p 0 128)) → q ≡ receipt_bytes key a
  unfolding receipt_bytes
  tag-behind key a {p} {q} h n hp hq =
      let x : List ℕ = attested_bytes a in
      let t : List ℕ = hmac key x in
      let nt : length t ≡ 32 = length-hmac key x in
      let head : part p 0 128 ≡ x = ap₂ (λ (l : List ℕ) (m : ℕ). part l 0 m) hp (sym n) ∙ part-splice-same out x 0 (omega arith) in
      splice-then out x t 128 hp n (omega arith) (hq ∙ ap (λ (y : List ℕ). splice p 128 (hmac key y)) head)
      ∙ splice-whole out (x ++ t) (length-append x t ∙ omega arith)

-- what is written has its sizes
pub written-length : (f : Facts) (nonce value digest : List ℕ) → length nonce ≡ 32 → length value ≡ 32 → length digest ≡ 32
    → length (attested_bytes (attestation_of f nonce value digest)) ≡ 128
unfolding attested_bytes attestation_of
written-length f nonce value digest n v d =
    simp length-append (omega (arith, length-name f.name, length-be 8 f.keeper, length-be 8 f.position, length-be 8 f.reference))

module _ (key nonce value digest out : List ℕ) where
  pub other_key : (length key ≡ 32 → ⊥) → write_refusal key nonce value digest out ≡ some 7
  unfolding write_refusal first_fault
  other_key h = simp (ne_eqb (length key) 32 h)

  module _ (k : length key ≡ 32) where
    pub other-nonce : (length nonce ≡ 32 → ⊥) → write_refusal key nonce value digest out ≡ some 7
    unfolding write_refusal first_fault
    other-nonce h = simp (eq-eqb (length key) 32 k, ne_eqb (length nonce) 32 h)

    module _ (n : length nonce ≡ 32) where
      pub other-value : (length value ≡ 32 → ⊥) → write_refusal key nonce value digest out ≡ some 7
      unfolding write_refusal first_fault
      other-value h = simp (eq-eqb (length key) 32 k, eq-eqb (length nonce) 32 n, ne_eqb (length value) 32 h)

      module _ (v : length value ≡ 32) where
        pub other-digest : (length digest ≡ 32 → ⊥) → write_refusal key nonce value digest out ≡ some 7
        unfolding write_refusal first_fault
        other-digest h = simp (eq-eqb (length key) 32 k, eq-eqb (length nonce) 32 n, eq-eqb (length value) 32 v, ne_eqb (length digest) 32 h)

        module _ (d : length digest ≡ 32) where
          pub other-buffer : (length out ≡ 160 → ⊥) → write_refusal key nonce value digest out ≡ some 7
          unfolding write_refusal first_fault
          other-buffer h = simp (eq-eqb (length key) 32 k, eq-eqb (length nonce) 32 n, eq-eqb (length value) 32 v, eq-eqb (length digest) 32 d, ne_eqb (length out) 160 h)

          pub writes : length out ≡ 160 → write_refusal key nonce value digest out ≡ none
          unfolding write_refusal first_fault
          writes h = simp (eq-eqb (length key) 32 k, eq-eqb (length nonce) 32 n, eq-eqb (length value) 32 v, eq-eqb (length digest) 32 d, eq-eqb (length out) 160 h)
