-- The theorems over the verdicts of the verifier and of certificates themselves.
use Prim.Native.Nat.{ℕ, ◌<◌}
use mathlib.Core.Path.{◌≡◌, refl, sym, ap, ◌∙◌}
use mathlib.Core.Bool.{false}
use mathlib.Core.List.{List, [], ◌∷◌}
use native.Mathlib.Omega.{arith}
use lib.Dec.{eqb}
use lib.ListN.{get_or}
use borrow.Author.Tests.{ne_eqb}
use Rattle.std.specs.Prelude.{Ok, Err}
use Rattle.refusal.specs.Answer.{Answer, answer}
use Rattle.refusal.specs.Number.{number_of}
use Rattle.refusal.proofs.NumberLaws.{number_of-positive}
use Rattle.receipt.specs.Verdict.{Verdict, verdict_answer}
use Rattle.quorum.specs.Certificate.{Station, station_answer}
use Rattle.sentence.specs.Text.{numbers_in}
use Rattle.sentence.specs.declared.Subject.TheVariants.{Receipt, Certificate}
use Rattle.sentence.specs.Sentence.{receipt_said, station_said, members_below, sentence_of, numbers_said, Fits}
use Rattle.sentence.specs.declared.Said.{Said}
use Rattle.sentence.specs.declared.Said.TheVariants.{Accepted, Certified, Refused}
use Rattle.sentence.proofs.Distinct.{initial, initial-is, sentence-numbers, sentence-injective}

not-zero : (n : ℕ) → 0 < n → eqb n 0 ≡ false
not-zero n h = ne_eqb n 0 (λ e. omega arith)

-- what an answer that is a refusal says
pub receipt-refused : (n : ℕ) (vs : List ℕ) → 0 < n → receipt_said (answer n vs) ≡ Refused Receipt n
receipt-refused n vs h = rw (not-zero n h)

pub station-refused : (n : ℕ) (vs : List ℕ) → 0 < n → station_said (answer n vs) ≡ Refused Certificate n
station-refused n vs h = rw (not-zero n h)

-- ---- the numbers

-- number and values of a verdict
abbrev pub numbers_of_answer : Answer → List ℕ
numbers_of_answer a = a.number ∷ a.values

-- a verdict's number and values, again
unfoldable pub spoken : Said → List ℕ
spoken (Accepted keeper log position kind reference) = 0 ∷ keeper ∷ log ∷ position ∷ kind ∷ reference ∷ []
spoken (Certified place mask) = 0 ∷ place ∷ mask ∷ []
spoken (Refused s n) = n ∷ []

verdict_spoken : (v : Verdict) → spoken (receipt_said (verdict_answer v)) ≡ numbers_of_answer (verdict_answer v)
unfolding spoken
verdict_spoken (Ok done) = refl
verdict_spoken (Err r) = ap spoken (receipt-refused (number_of r.why) [] (number_of-positive r.why))

station_spoken : (s : Station) → spoken (station_said (station_answer s)) ≡ numbers_of_answer (station_answer s)
unfolding spoken
station_spoken (Ok done) = refl
station_spoken (Err r) = ap spoken (station-refused (number_of r.why) [] (number_of-positive r.why))

-- the sentence of a receipt's verdict shows its number and its values, in order, and nothing else
pub receipt-numbers : (v : Verdict) → Fits (receipt_said (verdict_answer v)) → numbers_in (sentence_of (receipt_said (verdict_answer v))) ≡ (verdict_answer v).number ∷ (verdict_answer v).values
receipt-numbers v f = sentence-numbers (receipt_said (verdict_answer v)) f ∙ go v
  where
    go : (v : Verdict) → numbers_said (receipt_said (verdict_answer v)) ≡ (verdict_answer v).number ∷ (verdict_answer v).values
    go (Ok done) = refl
    go (Err r) = ap numbers_said (receipt-refused (number_of r.why) [] (number_of-positive r.why))

-- the values of a certificate's verdict with the mask as its members
abbrev pub with_members : Station → List ℕ
with_members (Ok done) = done.value.place ∷ members_below 32 done.value.mask
with_members (Err r) = []

pub station-numbers : (s : Station) → Fits (station_said (station_answer s)) → numbers_in (sentence_of (station_said (station_answer s))) ≡ (station_answer s).number ∷ with_members s
station-numbers s f = sentence-numbers (station_said (station_answer s)) f ∙ go s
  where
    go : (s : Station) → numbers_said (station_said (station_answer s)) ≡ (station_answer s).number ∷ with_members s
    go (Ok done) = refl
    go (Err r) = ap numbers_said (station-refused (number_of r.why) [] (number_of-positive r.why))

-- ---- no two verdicts that differ

same_answer : (a b : Answer) → numbers_of_answer a ≡ numbers_of_answer b → a ≡ b
same_answer a b e =
    let n : a.number ≡ b.number = cc in
    let v : a.values ≡ b.values = cc in
    λ i. record { number = n i; values = v i }

pub receipts-differ : (v w : Verdict) → Fits (receipt_said (verdict_answer v)) → Fits (receipt_said (verdict_answer w))
    → sentence_of (receipt_said (verdict_answer v)) ≡ sentence_of (receipt_said (verdict_answer w)) → verdict_answer v ≡ verdict_answer w
receipts-differ v w f g e =
    let s = sentence-injective (receipt_said (verdict_answer v)) (receipt_said (verdict_answer w)) f g e in
    same_answer (verdict_answer v) (verdict_answer w) (sym (verdict_spoken v) ∙ ap spoken s ∙ verdict_spoken w)

pub stations-differ : (s t : Station) → Fits (station_said (station_answer s)) → Fits (station_said (station_answer t))
    → sentence_of (station_said (station_answer s)) ≡ sentence_of (station_said (station_answer t)) → station_answer s ≡ station_answer t
stations-differ s t f g e =
    let q = sentence-injective (station_said (station_answer s)) (station_said (station_answer t)) f g e in
    same_answer (station_answer s) (station_answer t) (sym (station_spoken s) ∙ ap spoken q ∙ station_spoken t)

-- "in being for a receipt or a certificate"
pub subjects-differ : (v : Verdict) (s : Station) → sentence_of (receipt_said (verdict_answer v)) ≡ sentence_of (station_said (station_answer s)) → ⊥
unfolding initial
subjects-differ v s e =
    let x = receipt_said (verdict_answer v) in
    let y = station_said (station_answer s) in
    let h : initial x ≡ initial y = sym (initial-is x) ∙ ap (λ (l : List ℕ). get_or l 4 0) e ∙ initial-is y in
    let z : ◌≡◌ {A = ℕ} 114 99 = sym (of-receipt v) ∙ h ∙ of-station s in
    omega arith
  where
    of-receipt : (v : Verdict) → initial (receipt_said (verdict_answer v)) ≡ 114
    of-receipt (Ok done) = refl
    of-receipt (Err r) = ap initial (receipt-refused (number_of r.why) [] (number_of-positive r.why))

    of-station : (s : Station) → initial (station_said (station_answer s)) ≡ 99
    of-station (Ok done) = refl
    of-station (Err r) = ap initial (station-refused (number_of r.why) [] (number_of-positive r.why))
