-- The tests of a receipt, case by case, and the verifier's ways out: one law for each.
use mathlib.Core.Path.{◌≡◌, refl}
use mathlib.Core.Logic.{◌≢◌}
use Prim.Native.Nat.{ℕ, ◌≤◌}
use native.Mathlib.Omega.{arith}
use mathlib.Core.Bool.{Bool, true, false, not, cond, ◌&&◌, ◌||◌}
use mathlib.Core.List.{List, []}
use mathlib.Core.Option.{none, some}
use lib.ListN.{length}
use lib.Dec.{eqb, ltb, leb}
use borrow.Author.Tests.{eq-eqb, ne_eqb, le-leb, lt-leb}
use Rattle.octets.specs.Octets.{same}
use Rattle.octets.proofs.Tests.{and-false}
use Rattle.refusal.specs.Order.{first_fault, afterwards}
use Rattle.refusal.specs.Answer.{Answer, answer, answer_with}
use Rattle.receipt.specs.Attestation.{Attestation, LOOKUP, END, read_attestation}
use Rattle.receipt.specs.Possible.{is_name, reference_fits, is_blank, blank_fits, fresh_end, possible}
use Rattle.receipt.specs.Verdict.{carried, answers, asks, is_tagged, unread, verify_refusal, verify_blocks, verdict}
use Rattle.receipt.specs.declared.Question.{Question}

module _ (kind n reference : ℕ) where
  pub reference-at : kind ≡ 1 → eqb reference n ≡ reference_fits kind n reference
  unfolding reference_fits
  reference-at h = simp (eq-eqb kind 1 h)

  pub reference-below : (kind ≡ 1 → ⊥) → kind ≡ 0 → ltb reference n ≡ reference_fits kind n reference
  unfolding reference_fits
  reference-below o h = simp (ne_eqb kind 1 o, eq-eqb kind 0 h)

  pub reference-above : (kind ≡ 1 → ⊥) → (kind ≡ 0 → ⊥) → kind ≤ 3 → ltb n reference ≡ reference_fits kind n reference
  unfolding reference_fits
  reference-above o h k = simp (ne_eqb kind 1 o, ne_eqb kind 0 h, le-leb kind 3 k)

module _ (a : Attestation) where
  pub assigned-fits : a.kind ≡ 1 → true ≡ blank_fits a
  unfolding blank_fits
  assigned-fits h = simp (eq-eqb a.kind 1 h)

  pub skipped-fits : (a.kind ≡ 1 → ⊥) → same a.name LOOKUP ≡ true → a.kind ≡ 2 → true ≡ blank_fits a
  unfolding blank_fits
  skipped-fits o h s = simp (ne_eqb a.kind 1 o, h, eq-eqb a.kind 2 s)

  pub by-blank : (a.kind ≡ 1 → ⊥) → same a.name LOOKUP ≡ true → (a.kind ≡ 2 → ⊥) → is_blank a ≡ blank_fits a
  unfolding blank_fits
  by-blank o h s = simp (ne_eqb a.kind 1 o, h, ne_eqb a.kind 2 s)

  pub not_end : same a.name END ≡ false → false ≡ fresh_end a
  unfolding fresh_end
  not_end h = simp h

  pub end-reference : same a.name END ≡ true → a.kind ≡ 0 → a.log ≤ 15 → a.position ≡ 0 → (a.reference ≡ 0 → ⊥) → false ≡ fresh_end a
  unfolding fresh_end
  end-reference h k l p r = simp (h, eq-eqb a.kind 0 k, le-leb a.log 15 l, eq-eqb a.position 0 p, ne_eqb a.reference 0 r)

  pub end-blank : same a.name END ≡ true → a.kind ≡ 0 → a.log ≤ 15 → a.position ≡ 0 → a.reference ≡ 0 → is_blank a ≡ fresh_end a
  unfolding fresh_end
  end-blank h k l p r = simp (h, eq-eqb a.kind 0 k, le-leb a.log 15 l, eq-eqb a.position 0 p, eq-eqb a.reference 0 r)

  -- position 0: nothing but the fresh end
  pub at_zero : a.position ≡ 0 → fresh_end a ≡ possible a
  unfolding possible
  at_zero p = go (fresh_end a)
    where
      go : (t : Bool) → t ≡ t || (is_name a.name && (leb a.log 15 && (leb 1 a.position && (reference_fits a.kind a.position a.reference && blank_fits a))))
      go true = refl
      go false = simp (lt-leb 1 a.position (omega arith), and-false (leb a.log 15), and-false (is_name a.name))

  -- another: no fresh end
  module _ (p : a.position ≢ 0) where
    not-fresh : fresh_end a ≡ false
    unfolding fresh_end
    not-fresh = simp (ne_eqb a.position 0 p, and-false (leb a.log 15), and-false (eqb a.kind 0), and-false (same a.name END))

    from-1 : leb 1 a.position ≡ true
    from-1 = le-leb 1 a.position (omega arith)

    pub by_kind : is_name a.name ≡ true → a.log ≤ 15 → reference_fits a.kind a.position a.reference ≡ true → blank_fits a ≡ possible a
    unfolding possible
    by_kind h l r = simp (not-fresh, h, le-leb a.log 15 l, from-1, r)

  module _ (q : Question) (nonce : List ℕ) where
    pub by-ask : a.keeper ≡ q.keeper → a.log ≡ q.log → same a.nonce nonce ≡ true → asks q.ask a ≡ answers a q nonce
    unfolding answers
    by-ask h l n = simp (eq-eqb a.keeper q.keeper h, eq-eqb a.log q.log l, n)

-- the verifier's ways out

module _ (key r nonce : List ℕ) (q : Question) where
  -- an answer is the verdict, and the blocks are those hashed for it
  abbrev pub Judged : Answer → ℕ → Type 0
  Judged given blocks = (given ≡ verdict key r nonce q) × (blocks ≡ verify_blocks key r nonce)

  pub key-length : (length key ≡ 32 → ⊥) → Judged (answer 7 []) 0
  unfolding verdict verify_refusal verify_blocks unread first_fault answer_with afterwards
  key-length h = simp (ne_eqb (length key) 32 h) (refl, refl)

  pub nonce-length : length key ≡ 32 → (length nonce ≡ 32 → ⊥) → Judged (answer 7 []) 0
  unfolding verdict verify_refusal verify_blocks unread first_fault answer_with afterwards
  nonce-length k n = simp (eq-eqb (length key) 32 k, ne_eqb (length nonce) 32 n) (refl, refl)

  module _ (k : length key ≡ 32) (n : length nonce ≡ 32) where
    pub receipt-length : (length r ≡ 160 → ⊥) → Judged (answer 9 []) 0
    unfolding verdict verify_refusal verify_blocks unread first_fault answer_with afterwards
    receipt-length h = simp (eq-eqb (length key) 32 k, eq-eqb (length nonce) 32 n, ne_eqb (length r) 160 h) (refl, refl)

    module _ (h : length r ≡ 160) where
      pub impossible : possible (read_attestation r) ≡ false → Judged (answer 9 []) 0
      unfolding verdict verify_refusal verify_blocks unread first_fault answer_with afterwards
      impossible p = simp (eq-eqb (length key) 32 k, eq-eqb (length nonce) 32 n, eq-eqb (length r) 160 h, p) (refl, refl)

      pub wrong-tag : possible (read_attestation r) ≡ true → is_tagged key r ≡ false → Judged (answer 10 []) 6
      unfolding verdict verify_refusal verify_blocks unread first_fault answer_with afterwards
      wrong-tag p t = simp (eq-eqb (length key) 32 k, eq-eqb (length nonce) 32 n, eq-eqb (length r) 160 h, p, t) (refl, refl)

      pub other-question : possible (read_attestation r) ≡ true → is_tagged key r ≡ true → answers (read_attestation r) q nonce ≡ false → Judged (answer 11 []) 6
      unfolding verdict verify_refusal verify_blocks unread first_fault answer_with afterwards
      other-question p t a = simp (eq-eqb (length key) 32 k, eq-eqb (length nonce) 32 n, eq-eqb (length r) 160 h, p, t, a) (refl, refl)

      pub accepts : possible (read_attestation r) ≡ true → is_tagged key r ≡ true → answers (read_attestation r) q nonce ≡ true
          → Judged (answer 0 (carried (read_attestation r))) 6
      unfolding verdict verify_refusal verify_blocks unread first_fault answer_with afterwards
      accepts p t a = simp (eq-eqb (length key) 32 k, eq-eqb (length nonce) 32 n, eq-eqb (length r) 160 h, p, t, a) (refl, refl)

-- where the lengths are right, the tag is reached exactly if the entry is possible
pub blocks-by : (key r nonce : List ℕ) → length key ≡ 32 → length nonce ≡ 32 → length r ≡ 160 → verify_blocks key r nonce ≡ cond (possible (read_attestation r)) 6 0
unfolding verify_blocks unread first_fault afterwards
blocks-by key r nonce k n h = simp (eq-eqb (length key) 32 k, eq-eqb (length nonce) 32 n, eq-eqb (length r) 160 h) (go (possible (read_attestation r)))
  where
    go : (b : Bool) → ◌≡◌ {A = ℕ} (afterwards (cond (not b) (some 9) none) 6 0) (cond b 6 0)
    go true = refl
    go false = refl
