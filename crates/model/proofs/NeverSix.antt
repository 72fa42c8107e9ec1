-- Document 02, [6]: "Refusal 6 is shown never to occur": the plain book does not give it by the present rules. By document 01's it does.
use Prim.Native.Nat.{ℕ, ◌≤◌}
use mathlib.Core.Path.{◌≡◌}
use mathlib.Core.Logic.{◌≢◌}
use native.Mathlib.Omega.{arith}
use Rattle.a2m.specs.Call.{Call, Wide, refused, Effect}
use Rattle.survey.specs.Requests.{Request, call_of, WideRequest}
use Rattle.model.specs.Model.{rules, Model, model_step}
use Rattle.model.specs.ModelRequests.{model_request}
use Rattle.model.proofs.Untorn.{Lacks, none-not, slot-not, step-not, refused-not}
use Rattle.model.proofs.Requests.{request-so}

lacks_six : Lacks 6 rules
unfolding rules
lacks_six = record { slot = slot-not 6 (λ z. omega arith) (λ z. omega arith); end = none-not 6 }

model-answer : (b : Model) (call : Call) → (model_step rules b call).reply ≢ refused 6
model-answer b call = step-not 6 (λ z. omega arith) (λ z. omega arith) (λ z. omega arith) (λ z. omega arith) rules lacks_six b call

-- turned away is 7 or more
not_six : (k : ℕ) → 7 ≤ k → refused k ≢ refused 6
not_six k h = refused-not k 6 (λ (z : k ≡ 6). omega arith)

pub request-answer : (b : Model) (q : Request) → (model_request rules b q).reply ≢ refused 6
request-answer b q = request-so rules b q (λ (o : Effect Model). o.reply ≢ refused 6) not_six (λ (w : WideRequest q → Wide (call_of q)). model-answer b (call_of q))
