-- Request [13]: "Receipts that one list of calls as in demand 3 wrote are never such a pair", of any two receipts of a list that the claim is made of.
use Prim.Native.Nat.{ℕ}
use mathlib.Core.Path.{◌≡◌, refl}
use mathlib.Core.List.{List}
use mathlib.Core.Option.{some}
use Rattle.receipt.specs.Attestation.{Attestation, read_attestation}
use Rattle.layout.specs.Image.{Image}
use Rattle.a2m.specs.Call.{Reply, receipt_in}
use Rattle.model.specs.Model.{Model}
use Rattle.model.specs.Claim.{Turn, reply_at, ShowsAt, SkippedAt, ListClaim}

-- two attestations of one log and position are not "both assigned with different values or digests, or one assigned and one skipped"
pub record OneStory (x y : Attestation) : Type 0 where
  pub assigned : x.kind ≡ 1 → y.kind ≡ 1 → (x.value ≡ y.value) × (x.digest ≡ y.digest)
  pub unskipped : x.kind ≡ 1 → y.kind ≡ 2 → ⊥
  pub unassigned : x.kind ≡ 2 → y.kind ≡ 1 → ⊥

module _ (rs : List Reply) (r s : List ℕ) where
  abbrev A : Attestation
  A = read_attestation r

  abbrev B : Attestation
  B = read_attestation s

  module _ (log : A.log ≡ B.log) (position : A.position ≡ B.position) where
    shown : (i : ℕ) → receipt_in (reply_at rs i) ≡ some r → A.kind ≡ 1 → ShowsAt rs i B.log B.position A.value A.digest
    shown i h k = record { receipt = r; there = h; shows = record { assigned = k; log = log; position = position; value = refl; digest = refl } }

    skips : (i : ℕ) → receipt_in (reply_at rs i) ≡ some r → A.kind ≡ 2 → SkippedAt rs i B.log B.position
    skips i h k = record { receipt = r; there = h; shows = record { skipped = k; log = log; position = position } }

pub never-pair : (b : Model) (ts : List Turn) (rs : List Reply) (ks : List ℕ) (m : Image) → ListClaim b ts rs ks m → (i j : ℕ) (r s : List ℕ) → receipt_in (reply_at rs i) ≡ some r → receipt_in (reply_at rs j) ≡ some s
    → (read_attestation r).log ≡ (read_attestation s).log → (read_attestation r).position ≡ (read_attestation s).position → OneStory (read_attestation r) (read_attestation s)
never-pair b ts rs ks m c i j r s p q log position =
    let A = read_attestation r in
    let B = read_attestation s in
    record {
      assigned = λ (x : A.kind ≡ 1) (y : B.kind ≡ 1). c.agreeing i j _ _ _ _ _ _ (shown rs r s log position i p x) (shown rs s s refl refl j q y);
      unskipped = λ (x : A.kind ≡ 1) (y : B.kind ≡ 2). c.apart i j _ _ _ _ (shown rs r s log position i p x) (skips rs s s refl refl j q y);
      unassigned = λ (x : A.kind ≡ 2) (y : B.kind ≡ 1). c.apart j i _ _ _ _ (shown rs s s refl refl j q y) (skips rs r s log position i p x);
    }
