-- Request [10]: the plain book's step for requests, written apart, is the step through the calls that they make.
use Prim.Native.Nat.{ℕ, ◌^◌, ◌≤◌}
use mathlib.Core.Path.{◌≡◌, refl, sym, subst}
use mathlib.Core.Bool.{Bool, or-false}
use mathlib.Core.Option.{Option, none, some}
use lib.Dec.{leb}
use Rattle.refusal.specs.Order.{first_fault}
use Rattle.octets.specs.Octets.{zeros}
use Rattle.a2m.specs.Call.{advance, Wide, refused, Effect, effect}
use Rattle.a2m.specs.ImageCalls.{wrong_length}
use Rattle.survey.specs.Packing.{packed, too_wide, last_reading}
use Rattle.survey.specs.Requests.{Request, plain, advances, looks, closes, call_of, turned_away, early, request_step, WideRequest}
use Rattle.survey.proofs.RequestLaws.{steps-so, step_so}
use Rattle.model.specs.Model.{Rules, Model, not32, refuse, model_step}
use Rattle.model.specs.ModelRequests.{unless, model_request}

-- "turned away" said with `elim` and with the book's own word
unless-is : (o : Option ℕ) (b : Model) (e : Effect Model) → unless o b e ≡ elim o [ none ↦ e | some k ↦ effect (refused k) 0 b ]
unfolding unless
unless-is none b e = refl
unless-is (some k) b e = refl

-- the book's step, written apart, is the step through the calls
pub request-is : (ru : Rules) (b : Model) (q : Request) → model_request ru b q ≡ request_step (model_step ru) b q
unfolding request_step early turned_away first_fault wrong_length packed too_wide last_reading zeros
request-is ru b (plain c) = refl
request-is ru b (advances g s r d x) = unless-is _ b _
request-is ru b (looks g s r c k) = unless-is _ b _
request-is ru b (closes g s x) =
    let o = model_step ru b (advance g (packed s last_reading) (zeros 32) x) in
    subst (λ (t : Bool). unless (refuse 7 (not32 x) (refuse 18 t none)) b o ≡ request_step (model_step ru) b (closes g s x)) (or-false (leb (2 ^ 24) s)) (unless-is _ b o)

-- so of two books
pub requests-so : (ru : Rules) (b d : Model) (q : Request) (P : Effect Model → Effect Model → Type 0)
    → ((k : ℕ) → 7 ≤ k → P (effect (refused k) 0 b) (effect (refused k) 0 d)) → (P (model_step ru b (call_of q)) (model_step ru d (call_of q))) → P (model_request ru b q) (model_request ru d q)
requests-so ru b d q P a m =
    subst (λ (o : Effect Model). P o (model_request ru d q)) (sym (request-is ru b q))
    (subst (P (request_step (model_step ru) b q)) (sym (request-is ru d q)) (steps-so (model_step ru) (model_step ru) b d q P a (λ (w : WideRequest q → Wide (call_of q)). m)))

pub request-so : (ru : Rules) (b : Model) (q : Request) (P : Effect Model → Type 0)
    → ((k : ℕ) → 7 ≤ k → P (effect (refused k) 0 b)) → ((WideRequest q → Wide (call_of q)) → P (model_step ru b (call_of q))) → P (model_request ru b q)
request-so ru b q P a m = subst P (sym (request-is ru b q)) (step_so (model_step ru) b q P a m)
