-- The bytes of an attestation and what they say: each comes back from the other.
use mathlib.Core.Path.{◌≡◌, refl, sym, ap, ◌∙◌}
use Prim.Native.Nat.{ℕ, ◌+◌, ◌^◌, ◌≤◌, ◌<◌}
use native.Mathlib.Omega.{arith}
use mathlib.Core.List.{List, [], ◌∷◌, ◌++◌, append_assoc}
use lib.ListN.{length, get_or, take, drop, length-append}
use lib.Seq.{take_at, drop_at, drop-drop, get_or-drop}
use Rattle.bigendian.specs.BigEndian.{be, unbe}
use Rattle.bigendian.proofs.Laws.{length-be, unbe-be, unbe-part-lt, be-unbe-part}
use Rattle.hmac.specs.Hmac.{hmac}
use Rattle.octets.specs.Octets.{Bytes, part}
use Rattle.octets.proofs.Parts.{length_part, part-add, part-run}
use Rattle.receipt.specs.Attestation.{Attestation, attested_bytes, receipt_bytes, read_attestation, pair_in, Sized}

-- two attestations are equal by their fields
made : List ℕ → ℕ → ℕ → ℕ → ℕ → ℕ → List ℕ → List ℕ → List ℕ → Attestation
made n k l a p r o v d = record { name = n; kind = k; log = l; keeper = a; position = p; reference = r; nonce = o; value = v; digest = d }

by-fields : (a b : Attestation) → a.name ≡ b.name → a.kind ≡ b.kind → a.log ≡ b.log → a.keeper ≡ b.keeper → a.position ≡ b.position → a.reference ≡ b.reference → a.nonce ≡ b.nonce → a.value ≡ b.value → a.digest ≡ b.digest → a ≡ b
unfolding made
by-fields a b name kind log keeper position reference nonce value digest =
    let e : made a.name a.kind a.log a.keeper a.position a.reference a.nonce a.value a.digest ≡ made b.name b.kind b.log b.keeper b.position b.reference b.nonce b.value b.digest = cc in e

-- a field of n bytes from at on, and what follows it
next : (l x y : List ℕ) (at n : ℕ) → drop at l ≡ x ++ y → length x ≡ n → (part l at n ≡ x) × (drop (at + n) l ≡ y)
next l x y at n e h = (ap (take n) e ∙ take_at x y n h, sym (drop-drop n at l) ∙ ap (drop n) e ∙ drop_at x y n h)

number : (l y : List ℕ) (at x : ℕ) → x < 2 ^ 64 → drop at l ≡ be 8 x ++ y → (unbe (part l at 8) ≡ x) × (drop (at + 8) l ≡ y)
number l y at x h e = let s = next l (be 8 x) y at 8 e (length-be 8 x) in (ap unbe s.0 ∙ unbe-be 8 x h, s.1)

pub length_attested : (a : Attestation) → Sized a → length (attested_bytes a) ≡ 128
unfolding attested_bytes
length_attested a s =
    simp length-append
    (omega (arith, s.name, s.nonce, s.value, s.digest, length-be 8 a.keeper, length-be 8 a.position, length-be 8 a.reference))

-- what the bytes say is the attestation, whatever follows them
pub read_attested : (a : Attestation) → Sized a → (t : List ℕ) → read_attestation (attested_bytes a ++ t) ≡ a
unfolding read_attestation attested_bytes
read_attested a s t =
    let l : List ℕ = attested_bytes a ++ t in
    let t8 : List ℕ = a.digest ++ t in
    let t7 : List ℕ = a.value ++ t8 in
    let t6 : List ℕ = a.nonce ++ t7 in
    let t5 : List ℕ = be 8 a.reference ++ t6 in
    let t4 : List ℕ = be 8 a.position ++ t5 in
    let t3 : List ℕ = be 8 a.keeper ++ t4 in
    let whole : l ≡ a.name ++ (a.kind ∷ a.log ∷ t3) = simp append_assoc in
    let name = next l a.name (a.kind ∷ a.log ∷ t3) 0 6 whole s.name in
    let kind : get_or l 6 0 ≡ a.kind = sym (get_or-drop 6 l 0 0) ∙ ap (λ (x : List ℕ). get_or x 0 0) name.1 in
    let log : get_or l 7 0 ≡ a.log = sym (get_or-drop 6 l 1 0) ∙ ap (λ (x : List ℕ). get_or x 1 0) name.1 in
    let two = next l (a.kind ∷ a.log ∷ []) t3 6 2 name.1 refl in
    let keeper = number l t4 8 a.keeper s.keeper two.1 in
    let position = number l t5 16 a.position s.position keeper.1 in
    let reference = number l t6 24 a.reference s.reference position.1 in
    let nonce = next l a.nonce t7 32 32 reference.1 s.nonce in
    let value = next l a.value t8 64 32 nonce.1 s.value in
    let digest = next l a.digest t 96 32 value.1 s.digest in
    by-fields (read_attestation l) a name.0 kind log keeper.0 position.0 reference.0 nonce.0 value.0 digest.0

-- value and digest stand on end
pub pair-bytes : (b : List ℕ) → part b 64 64 ≡ pair_in b
unfolding pair_in read_attestation
pair-bytes b = part-add b 64 32 32

-- a receipt's bytes say what it attests
pub read-receipt : (key : List ℕ) (a : Attestation) → Sized a → read_attestation (receipt_bytes key a) ≡ a
unfolding receipt_bytes
read-receipt key a s = read_attested a s (hmac key (attested_bytes a))

module _ (r : List ℕ) (h : Bytes r) (size : length r ≡ 160) where
  pub read-sized : Sized (read_attestation r)
  unfolding read_attestation
  read-sized = record {
    name = length_part r 0 6 (omega arith);
    keeper = unbe-part-lt r 8 8 h;
    position = unbe-part-lt r 16 8 h;
    reference = unbe-part-lt r 24 8 h;
    nonce = length_part r 32 32 (omega arith);
    value = length_part r 64 32 (omega arith);
    digest = length_part r 96 32 (omega arith);
  }

  field : (at m : ℕ) → at + 8 ≤ 160 → be 8 (unbe (part r at 8)) ++ part r (at + 8) m ≡ part r at (8 + m)
  field at m k = ap (λ (x : List ℕ). x ++ part r (at + 8) m) (be-unbe-part r at 8 h (omega arith)) ∙ sym (part-add r at 8 m)

  -- the bytes of what they say are the bytes
  pub attested-read : attested_bytes (read_attestation r) ≡ part r 0 128
  unfolding read_attestation attested_bytes
  attested-read =
      let e7 : part r 64 32 ++ part r 96 32 ≡ part r 64 64 = sym (part-add r 64 32 32) in
      let e6 : part r 32 32 ++ (part r 64 32 ++ part r 96 32) ≡ part r 32 96 = ap (λ (x : List ℕ). part r 32 32 ++ x) e7 ∙ sym (part-add r 32 32 64) in
      let e5 : be 8 (unbe (part r 24 8)) ++ (part r 32 32 ++ (part r 64 32 ++ part r 96 32)) ≡ part r 24 104 = ap (λ (x : List ℕ). be 8 (unbe (part r 24 8)) ++ x) e6 ∙ field 24 96 (omega arith) in
      let e4 : be 8 (unbe (part r 16 8)) ++ (be 8 (unbe (part r 24 8)) ++ (part r 32 32 ++ (part r 64 32 ++ part r 96 32))) ≡ part r 16 112 = ap (λ (x : List ℕ). be 8 (unbe (part r 16 8)) ++ x) e5 ∙ field 16 104 (omega arith) in
      let e3 : be 8 (unbe (part r 8 8)) ++ (be 8 (unbe (part r 16 8)) ++ (be 8 (unbe (part r 24 8)) ++ (part r 32 32 ++ (part r 64 32 ++ part r 96 32)))) ≡ part r 8 120 = ap (λ (x : List ℕ). be 8 (unbe (part r 8 8)) ++ x) e4 ∙ field 8 112 (omega arith) in
      let two : get_or r 6 0 ∷ get_or r 7 0 ∷ part r 8 120 ≡ part r 6 122 = ap (λ (x : List ℕ). x ++ part r 8 120) (sym (part-run 2 6 r (omega arith))) ∙ sym (part-add r 6 2 120) in
      ap (λ (x : List ℕ). part r 0 6 ++ (get_or r 6 0 ∷ get_or r 7 0 ∷ x)) e3 ∙ ap (λ (x : List ℕ). part r 0 6 ++ x) two ∙ sym (part-add r 0 6 122)
