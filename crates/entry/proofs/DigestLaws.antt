-- The laws of an entry's block and digest: sizes, and that equal blocks have equal parts.
use Prim.Native.Nat.{ℕ, ◌^◌, ◌<◌}
use mathlib.Core.Path.{◌≡◌, refl, sym, ap, ◌∙◌}
use mathlib.Core.Bool.{Bool, true, false, ◌&&◌}
use mathlib.Core.List.{List, [], ◌++◌, append_assoc}
use native.Mathlib.Omega.{arith}
use lib.Dec.{eqb}
use lib.ListN.{length, take, drop, length-append}
use lib.Seq.{take_at, drop_at}
use borrow.Author.Tests.{eqb-true, eq-eqb}
use Rattle.octets.specs.Octets.{Bytes, same}
use Rattle.octets.proofs.Tests.{and_left, and_right, and_both}
use Rattle.octets.proofs.Same.{same-eq, eq-same}
use Rattle.bigendian.specs.BigEndian.{be, unbe}
use Rattle.bigendian.proofs.Laws.{length-be, unbe-be}
use Rattle.sha256.specs.Sha256.{sha256, block_count}
use Rattle.refusal.specs.declared.Hashed.{Hashed}
use Rattle.sha256.proofs.Padding.{count-is}
use Rattle.sha256.proofs.Sizes.{length-sha256, bytes-sha256}
use Rattle.entry.specs.Digest.{block, entry_digest}

pub length-entry_digest : (n : ℕ) (x previous : List ℕ) → length (entry_digest n x previous) ≡ 32
unfolding entry_digest
length-entry_digest n x previous = length-sha256 (block n x previous)

pub bytes-entry_digest : (n : ℕ) (x previous : List ℕ) → Bytes (entry_digest n x previous)
unfolding entry_digest
bytes-entry_digest n x previous = bytes-sha256 (block n x previous)

module _ (n : ℕ) (x previous : List ℕ) (nx : length x ≡ 32) where
  pub length-block : length previous ≡ 32 → length (block n x previous) ≡ 72
  unfolding block
  length-block np = simp (length-append, length-be) (omega arith)

  -- the last part
  pub block-previous : drop 40 (block n x previous) ≡ previous
  unfolding block
  block-previous =
      ap (drop 40) (sym (append_assoc (be 8 n) x previous))
      ∙ drop_at (be 8 n ++ x) previous 40 (length-append (be 8 n) x ∙ omega (arith, length-be 8 n))

-- equal blocks have equal parts
pub block-parts : (p q : ℕ) (v w d e : List ℕ) → p < 2 ^ 64 → q < 2 ^ 64 → length v ≡ 32 → length w ≡ 32 → block p v d ≡ block q w e
    → (p ≡ q) × ((v ≡ w) × (d ≡ e))
unfolding block
block-parts p q v w d e hp hq nv nw h =
    let number : be 8 p ≡ be 8 q = sym (take_at (be 8 p) (v ++ d) 8 (length-be 8 p)) ∙ ap (take 8) h ∙ take_at (be 8 q) (w ++ e) 8 (length-be 8 q) in
    let rest : v ++ d ≡ w ++ e = sym (drop_at (be 8 p) (v ++ d) 8 (length-be 8 p)) ∙ ap (drop 8) h ∙ drop_at (be 8 q) (w ++ e) 8 (length-be 8 q) in (
      sym (unbe-be 8 p hp) ∙ ap unbe number ∙ unbe-be 8 q hq,
      (sym (take_at v d 32 nv) ∙ ap (take 32) rest ∙ take_at w e 32 nw, sym (drop_at v d 32 nv) ∙ ap (drop 32) rest ∙ drop_at w e 32 nw),
    )

-- so blocks are compared part by part
pub same_block : (p q : ℕ) (v w d e : List ℕ) → p < 2 ^ 64 → q < 2 ^ 64 → length v ≡ 32 → length w ≡ 32
    → same (block p v d) (block q w e) ≡ eqb p q && (same v w && same d e)
same_block p q v w d e hp hq nv nw = go (same (block p v d) (block q w e)) (eqb p q && (same v w && same d e)) refl refl
  where
    one : same (block p v d) (block q w e) ≡ true → eqb p q && (same v w && same d e) ≡ true
    one h =
        let k = block-parts p q v w d e hp hq nv nw (same-eq (block p v d) (block q w e) h) in
        and_both (eqb p q) (same v w && same d e) (eq-eqb p q k.0) (and_both (same v w) (same d e) (eq-same v w k.1.0) (eq-same d e k.1.1))

    two : eqb p q && (same v w && same d e) ≡ true → same (block p v d) (block q w e) ≡ true
    two h =
        let i : p ≡ q = eqb-true p q (and_left (eqb p q) (same v w && same d e) h) in
        let j = and_right (eqb p q) (same v w && same d e) h in
        let k : v ≡ w = same-eq v w (and_left (same v w) (same d e) j) in
        let l : d ≡ e = same-eq d e (and_right (same v w) (same d e) j) in
        eq-same (block p v d) (block q w e) (cc)

    go : (s t : Bool) → same (block p v d) (block q w e) ≡ s → eqb p q && (same v w && same d e) ≡ t → same (block p v d) (block q w e) ≡ eqb p q && (same v w && same d e)
    go true t h k = h ∙ sym (one h)
    go false true h k = two k ∙ sym k
    go false false h k = h ∙ sym k

-- what the running digest is fed, part after part: 72 bytes, which with their padding are 2 blocks
pub fed-is : (n : ℕ) (number x previous : List ℕ) (d : Hashed (List ℕ)) → number ≡ be 8 n → length x ≡ 32 → length previous ≡ 32
    → (d.value ≡ sha256 ((([] ++ number) ++ x) ++ previous)) × (d.blocks ≡ block_count ((([] ++ number) ++ x) ++ previous))
    → (d.value ≡ entry_digest n x previous) × (d.blocks ≡ 2)
unfolding entry_digest block
fed-is n number x previous d h nx np e =
    let fed : (number ++ x) ++ previous ≡ block n x previous = append_assoc number x previous ∙ ap (λ (l : List ℕ). l ++ (x ++ previous)) h in
    (e.0 ∙ ap sha256 fed, e.1 ∙ ap block_count fed ∙ count-is (block n x previous) ∙ omega (arith, length-block n x previous nx np))
