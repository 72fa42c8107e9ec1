-- Document 02, [6]: "Refusal 6 is shown never to occur": no function that C calls returns it. The numbers are the right sides of their contracts; the last,
-- the receipt writer's, is not called from C.
use Prim.Native.Nat.{ℕ}
use mathlib.Core.Path.{refl, ap}
use mathlib.Core.Logic.{◌≢◌}
use native.Mathlib.Omega.{arith}
use mathlib.Core.List.{List, ◌∷◌, []}
use mathlib.Core.Option.{Option, none, some}
use Rattle.refusal.specs.Order.{answer_of}
use Rattle.refusal.proofs.UnusedLaws.{never, never-answered, never-numbered}
use Rattle.sha256.specs.Hash.{hash_refusal}
use Rattle.hmac.specs.Hmac.{tag_refusal}
use Rattle.runs.specs.Run.{Run}
use Rattle.runs.specs.Compare.{comparison}
use Rattle.runs.specs.Call.{compare_refusal, answered, compare_answer}
use Rattle.sha256.specs.Sha256.{sha256}
use Rattle.layout.specs.Layout.{stock_of}
use Rattle.table.specs.Carry.{carry_refusal}
use Rattle.table.specs.Format.{format_refusal}
use Rattle.table.specs.Whole.{whole_refusal}
use Rattle.table.specs.Screen.{screen_refusal, screen}
use Rattle.receipt.specs.Attestation.{read_attestation}
use Rattle.receipt.specs.Writer.{write_refusal}
use Rattle.receipt.specs.Verdict.{carried, unread, verify_refusal, verdict}
use Rattle.receipt.specs.declared.Question.{Question}
use Rattle.quorum.specs.Certificate.{unread as unread_pile, first_place, named, certificate_refusal, certificate}
use Rattle.equivocation.specs.Pairs.{first_pair, places_of, contradiction_refusal, contradiction}
use Rattle.sentence.specs.Sentence.{sentence_refusal}
use Rattle.a2m.specs.Call.{Call, Reply, refused, done, found, ended}
use Rattle.a2m.specs.TableCalls.{table_step}
use Rattle.a2m.proofs.NeverSix.{table-answer}
use Rattle.survey.specs.Packing.{packing}
use Rattle.survey.specs.Requests.{Request, request_step}
use Rattle.survey.proofs.NeverSix.{packing-answer, request-answer}
use Rattle.capi_results.specs.Results.{reply_number}

not_done : ◌≢◌ {A = ℕ} 6 0
not_done z = omega arith

-- ---- hashes

hash_refusal_lem : (m out : List ℕ) → hash_refusal m out ≢ some 6
unfolding hash_refusal
hash_refusal_lem m out = never 6 _ refl

pub hash-number : (m out : List ℕ) → answer_of (hash_refusal m out) ≢ 6
hash-number m out = never-answered 6 not_done (hash_refusal m out) (hash_refusal_lem m out)

tag_refusal_lem : (key text out : List ℕ) → tag_refusal key text out ≢ some 6
unfolding tag_refusal
tag_refusal_lem key text out = never 6 _ refl

pub tag-number : (key text out : List ℕ) → answer_of (tag_refusal key text out) ≢ 6
tag-number key text out = never-answered 6 not_done (tag_refusal key text out) (tag_refusal_lem key text out)

-- ---- tables

format_refusal_lem : (size logs slots key : ℕ) (reserves : List ℕ) → format_refusal size logs slots key reserves ≢ some 6
unfolding format_refusal
format_refusal_lem size logs slots key reserves = never 6 _ refl

pub format-number : (size logs slots key : ℕ) (reserves : List ℕ) → answer_of (format_refusal size logs slots key reserves) ≢ 6
format-number size logs slots key reserves = never-answered 6 not_done (format_refusal size logs slots key reserves) (format_refusal_lem size logs slots key reserves)

carry_refusal_lem : (old : List ℕ) (size : ℕ) → carry_refusal old size ≢ some 6
unfolding carry_refusal
carry_refusal_lem old size = never 6 _ refl

pub carry-number : (old : List ℕ) (size : ℕ) → answer_of (carry_refusal old size) ≢ 6
carry-number old size = never-answered 6 not_done (carry_refusal old size) (carry_refusal_lem old size)

check_refusal : (b : List ℕ) → whole_refusal b ≢ some 6
unfolding whole_refusal
check_refusal b = never 6 _ refl

pub check-number : (b : List ℕ) → answer_of (whole_refusal b) ≢ 6
check-number b = never-answered 6 not_done (whole_refusal b) (check_refusal b)

screen_refusal_lem : (b : List ℕ) → screen_refusal b ≢ some 6
unfolding screen_refusal
screen_refusal_lem b = never 6 _ refl

pub free-number : (b : List ℕ) → (screen b).number ≢ 6
unfolding screen
free-number b = never-numbered 6 not_done (screen_refusal b) ((stock_of b).count ∷ []) (screen_refusal_lem b)

-- ---- the five calls on a table

reply-number : (r : Reply) → r ≢ refused 6 → reply_number r ≢ 6
reply-number (refused k) h e = h (ap refused e)
reply-number (done low high) h e = omega arith
reply-number (found receipt examined) h e = omega arith
reply-number (ended receipt) h e = omega arith

pub call-number : (b : List ℕ) (call : Call) → reply_number (table_step b call).reply ≢ 6
call-number b call = reply-number (table_step b call).reply (table-answer b call)

-- ---- surveys

pub pack-number : (survey reading : ℕ) → (packing survey reading).number ≢ 6
pack-number survey reading = packing-answer survey reading

pub request-number : (b : List ℕ) (q : Request) → reply_number (request_step table_step b q).reply ≢ 6
request-number b q = reply-number (request_step table_step b q).reply (request-answer b q)

-- ---- the verifier and certificates

verify_refusal_lem : (key r nonce : List ℕ) (q : Question) → verify_refusal key r nonce q ≢ some 6
unfolding verify_refusal unread
verify_refusal_lem key r nonce q = never 6 _ refl

pub verify-number : (key r nonce : List ℕ) (q : Question) → (verdict key r nonce q).number ≢ 6
unfolding verdict
verify-number key r nonce q = never-numbered 6 not_done (verify_refusal key r nonce q) (carried (read_attestation r)) (verify_refusal_lem key r nonce q)

module _ (n k : ℕ) (roster nonce : List ℕ) (log position : ℕ) (cert : List ℕ) where
  certify-refusal : certificate_refusal n k roster nonce log position cert ≢ some 6
  unfolding certificate_refusal unread_pile
  certify-refusal = never 6 _ refl

  pub certify-number : (certificate n k roster nonce log position cert).number ≢ 6
  unfolding certificate
  certify-number = never-numbered 6 not_done (certificate_refusal n k roster nonce log position cert) (named roster nonce log position cert (first_place roster nonce log position cert k)) certify-refusal

-- ---- contradictions

module _ (n k : ℕ) (roster pile : List ℕ) where
  contradiction-refusal : contradiction_refusal n k roster pile ≢ some 6
  unfolding contradiction_refusal
  contradiction-refusal = never 6 _ refl

  pub contradiction-number : (contradiction n k roster pile).number ≢ 6
  unfolding contradiction
  contradiction-number = never-numbered 6 not_done (contradiction_refusal n k roster pile) (places_of (first_pair roster pile)) contradiction-refusal

-- ---- verdicts in words

sentence_refusal_lem : (out : List ℕ) → sentence_refusal out ≢ some 6
unfolding sentence_refusal
sentence_refusal_lem out = never 6 _ refl

pub sentence-number : (out : List ℕ) → answer_of (sentence_refusal out) ≢ 6
sentence-number out = never-answered 6 not_done (sentence_refusal out) (sentence_refusal_lem out)

-- ---- runs

compare_refusal_lem : (a b : Run) (out : List ℕ) → compare_refusal a b out ≢ some 6
unfolding compare_refusal
compare_refusal_lem a b out = never 6 _ refl

pub compare-number : (a b : Run) (out : List ℕ) → (compare_answer a b out).number ≢ 6
unfolding compare_answer answered
compare-number a b out = go (compare_refusal a b out) (compare_refusal_lem a b out)
  where
    go : (r : Option ℕ) → r ≢ some 6 → (answered r (comparison sha256 a b)).number ≢ 6
    go none h e = omega arith
    go (some n) h e = h (ap some e)

-- ---- the receipt writer

pub write-number : (key nonce value digest out : List ℕ) → answer_of (write_refusal key nonce value digest out) ≢ 6
unfolding write_refusal
write-number key nonce value digest out = never-answered 6 not_done (write_refusal key nonce value digest out) (never 6 _ refl)
