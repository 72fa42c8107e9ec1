-- Document 02, [6]: "Refusal 6 is shown never to occur": no packing and no request answers it.
use Prim.Native.Nat.{ℕ}
use native.Mathlib.Omega.{arith}
use mathlib.Core.Path.{◌≡◌, refl, sym, ap, ◌∙◌}
use mathlib.Core.Logic.{◌≢◌, ◌⊎◌, inl, inr}
use mathlib.Core.List.{List}
use mathlib.Core.Option.{Option, none, some}
use Rattle.refusal.proofs.UnusedLaws.{never, never-numbered}
use Rattle.a2m.specs.Call.{refused, Effect}
use Rattle.a2m.specs.TableCalls.{table_step}
use Rattle.a2m.proofs.NeverSix.{table-answer}
use Rattle.survey.specs.Packing.{packing}
use Rattle.survey.specs.Requests.{Request, call_of, early, request_step}
use Rattle.survey.proofs.RequestLaws.{early-only, passed-step, away-step}

pub packing-answer : (s r : ℕ) → (packing s r).number ≢ 6
unfolding packing
packing-answer s r = never-numbered 6 (omega arith) _ _ (never 6 _ refl)

pub early-number : (q : Request) → early q ≢ some 6
early-number q h = go (early-only q 6 h) refl
  where
    go : {k : ℕ} → (k ≡ 7) ⊎ (k ≡ 18) → k ≢ 6
    go (inl e) z = omega arith
    go (inr e) z = omega arith

pub request-answer : (b : List ℕ) (q : Request) → (request_step table_step b q).reply ≢ refused 6
request-answer b q h = go (early q) refl
  where
    go : (o : Option ℕ) → early q ≡ o → ⊥
    go none e = table-answer b (call_of q) (sym (ap (λ (f : Effect (List ℕ)). f.reply) (passed-step table_step b q e)) ∙ h)
    go (some k) e =
        let p : refused k ≡ refused 6 = sym (ap (λ (f : Effect (List ℕ)). f.reply) (away-step table_step b q k e)) ∙ h in
        let n : k ≡ 6 = cc in
        early-number q (e ∙ ap some n)
