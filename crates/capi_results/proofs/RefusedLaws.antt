-- "A refusal changes no lent byte": where the number is not 0, each result is as it was.
use Prim.Native.Nat.{ℕ}
use mathlib.Core.Path.{◌≡◌, refl, ap, ◌∙◌}
use mathlib.Core.Logic.{◌≢◌}
use mathlib.Core.Bool.{Bool, true, false, cond}
use mathlib.Core.List.{List, []}
use mathlib.Core.Option.{Option, none, some}
use lib.Dec.{eqb}
use lib.ListN.{get_or}
use borrow.Author.Tests.{ne_eqb}
use Rattle.a2m.specs.Call.{Reply, refused, done, found, ended}
use Rattle.refusal.specs.Answer.{Answer}
use Rattle.runs.specs.Run.{Run}
use Rattle.runs.specs.Compare.{Verdict, comparison}
use Rattle.runs.specs.Call.{answered, compare_refusal, compare_answer}
use Rattle.sha256.specs.Sha256.{sha256}
use Rattle.capi_results.specs.Results.{reply_number, low_after, high_after, examined_after, free_after, position_after, verdict_after, place_after, mask_after, pair_code, found_after, first_after, second_after, code_after}

pub reply-kept : (r : Reply) (old : ℕ) → reply_number r ≢ 0 → (low_after r old ≡ old) × ((high_after r old ≡ old) × (examined_after r old ≡ old))
reply-kept (refused k) old n = (refl, (refl, refl))
reply-kept (done l h) old n = absurd (n refl)
reply-kept (found receipt k) old n = absurd (n refl)
reply-kept (ended receipt) old n = absurd (n refl)

pub free-kept : (a : Answer) (old : ℕ) → a.number ≢ 0 → free_after a old ≡ old
free-kept a old n = ap (λ (t : Bool). cond t (get_or a.values 0 0) old) (ne_eqb a.number 0 n)

pub position-kept : (a : Answer) (old : ℕ) → a.number ≢ 0 → position_after a old ≡ old
position-kept a old n = ap (λ (t : Bool). cond t (get_or a.values 0 0) old) (ne_eqb a.number 0 n)

pub verdict-kept : (a : Answer) (old : List ℕ) → a.number ≢ 0 → verdict_after a old ≡ old
verdict-kept a old n = ap (λ (t : Bool). cond t a.values old) (ne_eqb a.number 0 n)

pub certificate-kept : (a : Answer) (place mask : ℕ) → a.number ≢ 0 → (place_after a place ≡ place) × (mask_after a mask ≡ mask)
certificate-kept a place mask n =
    let e = ne_eqb a.number 0 n in
    (ap (λ (t : Bool). cond t (get_or a.values 0 0) place) e, ap (λ (t : Bool). cond t (get_or a.values 1 0) mask) e)

pub contradiction-kept : (a : Answer) (old first second : ℕ) → a.number ≢ 0 → (found_after a old ≡ old) × ((first_after a first ≡ first) × (second_after a second ≡ second))
contradiction-kept a old first second n =
    let e = ne_eqb a.number 0 n in (
      ap (λ (t : Bool). cond t (pair_code a.values) old) e,
      (ap (λ (t : Bool). cond t (get_or a.values 0 first) first) e, ap (λ (t : Bool). cond t (get_or a.values 1 second) second) e),
    )

stays : (b : Bool) (x : ℕ) → cond b x x ≡ x
stays true x = refl
stays false x = refl

-- where there is no pair, its places are as they were
pub places-kept : (a : Answer) (first second : ℕ) → a.values ≡ [] → (first_after a first ≡ first) × (second_after a second ≡ second)
places-kept a first second h = (
  ap (λ (l : List ℕ). cond (eqb a.number 0) (get_or l 0 first) first) h ∙ stays (eqb a.number 0) first,
  ap (λ (l : List ℕ). cond (eqb a.number 0) (get_or l 1 second) second) h ∙ stays (eqb a.number 0) second,
)

of-answered : (r : Option ℕ) (v : Verdict) (old : ℕ) → (answered r v).number ≢ 0 → code_after (answered r v).verdict old ≡ old
unfolding answered
of-answered none v old n = absurd (n refl)
of-answered (some k) v old n = refl

pub code-kept : (a b : Run) (out : List ℕ) (old : ℕ) → (compare_answer a b out).number ≢ 0 → code_after (compare_answer a b out).verdict old ≡ old
unfolding compare_answer
code-kept a b out old n = of-answered (compare_refusal a b out) (comparison sha256 a b) old n
