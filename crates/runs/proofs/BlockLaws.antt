-- A block in the program: hashed, compared and written by its parts.
use mathlib.Core.Path.{◌≡◌, sym, ap, ap₂, ◌∙◌}
use Prim.Native.Nat.{ℕ, ◌+◌, ◌^◌, ◌≤◌, ◌<◌}
use native.Mathlib.Omega.{arith}
use mathlib.Core.Bool.{Bool, true, false, ◌&&◌}
use mathlib.Core.List.{List, ◌++◌}
use lib.Dec.{eqb}
use lib.ListN.{length, length-append}
use borrow.Author.Tests.{eq-eqb, ne_eqb}
use Rattle.octets.specs.Octets.{same, splice}
use Rattle.octets.proofs.Parts.{splice-append, length-splice}
use Rattle.octets.proofs.Tests.{and_assoc}
use Rattle.bigendian.specs.BigEndian.{be}
use Rattle.bigendian.proofs.Laws.{length-be}
use Rattle.sha256.specs.Sha256.{sha256}
use Rattle.entry.specs.Digest.{block, entry_digest}
use Rattle.entry.proofs.DigestLaws.{same_block, length-block}
use Rattle.runs.specs.Run.{Run, count, value_at, block_from}
use Rattle.runs.specs.Lent.{whole}
use Rattle.runs.specs.declared.WholeRun.{WholeRun}
use Rattle.runs.proofs.Verdicts.{value-size}

module _ (r : Run) (k : ℕ) (digest : List ℕ) where
  -- the digest of a block
  pub walked-is : {d : List ℕ} → d ≡ entry_digest (r.first + k) (value_at r k) digest → d ≡ sha256 (block_from r k digest)
  unfolding block_from entry_digest
  walked-is e = e

  module _ (h : k < count r) (nd : length digest ≡ 32) where
    pub size-block_from : length (block_from r k digest) ≡ 72
    unfolding block_from
    size-block_from = length-block (r.first + k) (value_at r k) digest (value-size r k h) nd

    -- position, value and digest written one behind the other
    pub put_is : (l : List ℕ) (at : ℕ) {a b d : List ℕ} → at + 72 ≤ length l → a ≡ splice l at (be 8 (r.first + k))
        → b ≡ splice a (at + 8) (value_at r k) → d ≡ splice b (at + 40) digest → d ≡ splice l at (block_from r k digest)
    unfolding block_from block
    put_is l at {a = a} {b = b} fits ea eb ed =
        let n : List ℕ = be 8 (r.first + k) in
        let v : List ℕ = value_at r k in
        let nn : length n ≡ 8 = length-be 8 (r.first + k) in
        let nv : length v ≡ 32 = value-size r k h in
        let nr : length (v ++ digest) ≡ 64 = length-append v digest ∙ omega arith in
        let e1 : at + 8 ≡ at + length n = omega arith in
        let e2 : at + 40 ≡ at + 8 + length v = omega arith in
        ed
        ∙ ap₂ (λ (x : List ℕ) (i : ℕ). splice x i digest) eb e2
        ∙ splice-append a (at + 8) v digest (rw ea (rw (length-splice l n at (omega arith)) (omega arith)))
        ∙ ap₂ (λ (x : List ℕ) (i : ℕ). splice x i (v ++ digest)) ea e1
        ∙ splice-append l at n (v ++ digest) (omega arith)

-- positions of values fit
pub positions-fit : (r : WholeRun) → r.first + count (whole r) ≤ 2 ^ 64
unfolding count
positions-fit r = r.reaches.positions

-- blocks compared part by part: the positions and values first, then the digests
module _ (one two : WholeRun) (k l : ℕ) (h : k < count (whole one)) (i : l < count (whole two)) where
  abbrev a : Run
  a = whole one

  abbrev b : Run
  b = whole two

  abbrev pub Entries : Bool
  Entries = eqb (a.first + k) (b.first + l) && same (value_at a k) (value_at b l)

  -- equal positions: the values decide
  pub one-position : {p q : ℕ} {x y : List ℕ} {t : Bool} → p ≡ a.first + k → q ≡ b.first + l → p ≡ q → x ≡ value_at a k → y ≡ value_at b l
      → t ≡ same x y → t ≡ Entries
  one-position ep eq e ex ey et = et ∙ ap₂ same ex ey ∙ sym (simp (eq-eqb (a.first + k) (b.first + l) (sym ep ∙ e ∙ eq)))

  pub two-positions : {p q : ℕ} {t : Bool} → p ≡ a.first + k → q ≡ b.first + l → t ≡ eqb p q → (p ≡ q → ⊥) → t ≡ Entries
  two-positions {p = p} {q = q} ep eq et n =
      et ∙ ne_eqb p q n ∙ sym (simp (ne_eqb (a.first + k) (b.first + l) (λ e. n (ep ∙ e ∙ sym eq))))

  module _ (d e : List ℕ) {t : Bool} (et : t ≡ Entries) where
    parts : same (block_from a k d) (block_from b l e) ≡ t && same d e
    unfolding block_from
    parts =
        let f = positions-fit one in
        let g = positions-fit two in
        same_block (a.first + k) (b.first + l) (value_at a k) (value_at b l) d e (omega arith) (omega arith) (value-size a k h) (value-size b l i)
        ∙ and_assoc (eqb (a.first + k) (b.first + l)) (same (value_at a k) (value_at b l)) (same d e)
        ∙ ap (λ (x : Bool). x && same d e) (sym et)

    pub digests-decide : {r : Bool} → t ≡ true → r ≡ same d e → r ≡ same (block_from a k d) (block_from b l e)
    digests-decide x er = er ∙ sym (parts ∙ simp x)

    pub other-entries : t ≡ false → t ≡ same (block_from a k d) (block_from b l e)
    other-entries x = x ∙ sym (parts ∙ simp x)
