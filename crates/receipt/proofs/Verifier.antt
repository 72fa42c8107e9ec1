-- The verifier accepts exactly the bytes of a possible entry, the end of a fresh log among them, under the key that answers the question.
use mathlib.Core.Path.{◌≡◌, refl, sym, ap, ap₂, ◌∙◌, subst}
use Prim.Native.Nat.{ℕ}
use native.Mathlib.Omega.{arith}
use mathlib.Core.Bool.{true, not, ◌&&◌}
use mathlib.Core.List.{List, ◌++◌}
use lib.ListN.{length, take, length-append}
use lib.Seq.{take_all, take_at}
use lib.Dec.{eqb}
use borrow.Author.Tests.{eqb-true, not-false}
use Rattle.hmac.specs.Hmac.{hmac}
use Rattle.hmac.proofs.Sizes.{length-hmac}
use Rattle.octets.specs.Octets.{Bytes, part, same}
use Rattle.octets.proofs.Tests.{and_left, and_right}
use Rattle.octets.proofs.Same.{same-eq, eq-same}
use Rattle.octets.proofs.Parts.{part-second, part-add}
use Rattle.refusal.specs.Answer.{Answer, answer}
use Rattle.receipt.specs.Attestation.{Attestation, attested_bytes, receipt_bytes, read_attestation}
use Rattle.receipt.specs.Possible.{possible}
use Rattle.receipt.specs.Verdict.{carried, answers, asks, is_tagged, unread, verify_refusal, verify_blocks, verdict, Genuine, AcceptsExactly, Verdict, verdict_answer, verdict_blocks}
use Rattle.receipt.specs.declared.Question.{Question}
use Rattle.refusal.proofs.AnswerLaws.{no-fault}
use Rattle.receipt.proofs.Cases.{by-ask, Judged, accepts}
use Rattle.receipt.proofs.Fields.{read_attested, read-sized, attested-read, length_attested}
use Rattle.receipt.proofs.PossibleLaws.{possible-sound, possible-complete, asks-sound, asks-complete}

tagged : (key r : List ℕ) → part r 128 32 ≡ hmac key (part r 0 128) → is_tagged key r ≡ true
unfolding is_tagged
tagged key r h = eq-same (part r 128 32) (hmac key (part r 0 128)) h

tag_is : (key r : List ℕ) → is_tagged key r ≡ true → part r 128 32 ≡ hmac key (part r 0 128)
unfolding is_tagged
tag_is key r h = same-eq (part r 128 32) (hmac key (part r 0 128)) h

receipt-is : (key : List ℕ) (a : Attestation) → receipt_bytes key a ≡ attested_bytes a ++ hmac key (attested_bytes a)
unfolding receipt_bytes
receipt-is key a = refl

-- bytes with the right tag are those of what they say
written : (key r : List ℕ) → Bytes r → length r ≡ 160 → is_tagged key r ≡ true → r ≡ receipt_bytes key (read_attestation r)
written key r b h t =
    sym (take_all 160 r (omega arith)) ∙ part-add r 0 128 32
    ∙ ap₂ (λ (x y : List ℕ). x ++ y) (sym (attested-read r b h)) (tag_is key r t ∙ ap (hmac key) (sym (attested-read r b h)))
    ∙ sym (receipt-is key (read_attestation r))

-- what the verifier found in order
pub record Passed (k r b : List ℕ) (q : Question) : Type 0 where
  pub key : length k ≡ 32
  pub nonce : length b ≡ 32
  pub size : length r ≡ 160
  pub possible : possible (read_attestation r) ≡ true
  pub tagged : is_tagged k r ≡ true
  pub answers : answers (read_attestation r) q b ≡ true

module _ (key r nonce : List ℕ) (q : Question) where
  -- a genuine receipt says what it attests
  pub says : (a : Attestation) → Genuine key r nonce q a → read_attestation r ≡ a
  says a g = ap read_attestation (g.bytes ∙ receipt-is key a) ∙ read_attested a g.sized (hmac key (attested_bytes a))

  -- a genuine receipt is accepted, with what it attests
  pub complete : (a : Attestation) → Genuine key r nonce q a → verdict key r nonce q ≡ answer 0 (carried a)
  complete a g =
      let x : List ℕ = attested_bytes a in
      let t : List ℕ = hmac key x in
      let n : length x ≡ 128 = length_attested a g.sized in
      let nt : length t ≡ 32 = length-hmac key x in
      let b : r ≡ x ++ t = g.bytes ∙ receipt-is key a in
      let size : length r ≡ 160 = ap length b ∙ length-append x t ∙ omega arith in
      let read : read_attestation r ≡ a = says a g in
      let head : part r 0 128 ≡ x = ap (take 128) b ∙ take_at x t 128 n in
      let tail : part r 128 32 ≡ t = ap (λ (l : List ℕ). part l 128 32) b ∙ part-second x t 128 32 n nt in
      let tag : is_tagged key r ≡ true = tagged key r (tail ∙ ap (hmac key) (sym head)) in
      let ok : possible (read_attestation r) ≡ true = ap possible read ∙ possible-complete a g.possible in
      let fit : answers (read_attestation r) q nonce ≡ true =
      ap (λ (y : Attestation). answers y q nonce) read
      ∙ sym (by-ask a q nonce g.keeper g.log (eq-same a.nonce nonce g.nonce)) ∙ asks-complete a q.ask g.ask in
      sym (accepts key r nonce q g.key (ap length (sym g.nonce) ∙ g.sized.nonce) size ok tag fit).0 ∙ ap (λ (y : Attestation). answer 0 (carried y)) read

  genuine : Bytes r → length key ≡ 32 → length r ≡ 160 → possible (read_attestation r) ≡ true → is_tagged key r ≡ true → answers (read_attestation r) q nonce ≡ true
      → Genuine key r nonce q (read_attestation r)
  unfolding answers
  genuine b k h p t f =
      let a = read_attestation r in
      let f1 = and_right (eqb a.keeper q.keeper) (eqb a.log q.log && (same a.nonce nonce && asks q.ask a)) f in
      let f2 = and_right (eqb a.log q.log) (same a.nonce nonce && asks q.ask a) f1 in
      record {
        key = k;
        sized = read-sized r b h;
        possible = possible-sound a p;
        bytes = written key r b h t;
        keeper = eqb-true a.keeper q.keeper (and_left (eqb a.keeper q.keeper) _ f);
        log = eqb-true a.log q.log (and_left (eqb a.log q.log) _ f1);
        nonce = same-eq a.nonce nonce (and_left (same a.nonce nonce) _ f2);
        ask = asks-sound a q.ask (and_right (same a.nonce nonce) _ f2);
      }

  -- a verdict of number 0: no fault was found
  pub passes : (verdict key r nonce q).number ≡ 0 → Passed key r nonce q
  unfolding verdict verify_refusal unread
  passes e =
      let cs : List ℕ = carried (read_attestation r) in
      let s1 = no-fault 7 (not (eqb (length key) 32)) _ cs (λ z. omega arith) e in
      let s2 = no-fault 7 (not (eqb (length nonce) 32)) _ cs (λ z. omega arith) s1.1 in
      let s3 = no-fault 9 (not (eqb (length r) 160)) _ cs (λ z. omega arith) s2.1 in
      let s4 = no-fault 9 (not (possible (read_attestation r))) _ cs (λ z. omega arith) s3.1 in
      let s5 = no-fault 10 (not (is_tagged key r)) _ cs (λ z. omega arith) s4.1 in
      let s6 = no-fault 11 (not (answers (read_attestation r) q nonce)) _ cs (λ z. omega arith) s5.1 in
      record {
        key = eqb-true (length key) 32 (not-false _ s1.0);
        nonce = eqb-true (length nonce) 32 (not-false _ s2.0);
        size = eqb-true (length r) 160 (not-false _ s3.0);
        possible = not-false _ s4.0;
        tagged = not-false _ s5.0;
        answers = not-false _ s6.0;
      }

  -- it carries what the bytes say
  pub carries : (verdict key r nonce q).number ≡ 0 → verdict key r nonce q ≡ answer 0 (carried (read_attestation r))
  carries e = let p = passes e in sym (accepts key r nonce q p.key p.nonce p.size p.possible p.tagged p.answers).0

  -- an accepted receipt is genuine
  pub sound : Bytes r → (verdict key r nonce q).number ≡ 0 → Genuine key r nonce q (read_attestation r)
  sound b e = let p = passes e in genuine b p.key p.size p.possible p.tagged p.answers

  -- the verifier's theorem, of a list of bytes
  pub accepted-exactly : Bytes r → AcceptsExactly key r nonce q (verdict key r nonce q)
  accepted-exactly b vs = (
    λ e. let n : (verdict key r nonce q).number ≡ 0 = ap (λ (x : Answer). x.number) e in
        (read_attestation r, sound b n, ap (λ (x : Answer). x.values) (sym (carries n) ∙ e)),
    λ g. complete g.0 g.1 ∙ ap (answer 0) g.2,
  )

-- a verdict that has the answer and the blocks for a list of bytes accepts exactly
pub verdict_exactly : {key r nonce : List ℕ} {q : Question} (v : Verdict) {w : Verdict} → Bytes r → v ≡ w → Judged key r nonce q (verdict_answer w) (verdict_blocks w)
    → (verdict_answer v ≡ verdict key r nonce q) × (AcceptsExactly key r nonce q (verdict_answer v) × (verdict_blocks v ≡ verify_blocks key r nonce))
verdict_exactly {key} {r} {nonce} {q} v b z e =
    let a : verdict_answer v ≡ verdict key r nonce q = ap verdict_answer z ∙ e.0 in
    (a, (subst (AcceptsExactly key r nonce q) (sym a) (accepted-exactly key r nonce q b), ap verdict_blocks z ∙ e.1))
