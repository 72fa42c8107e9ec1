-- The log that is asked to append or advance only below its reserve, on the model: its calls answer alike however the other logs are called.
use Prim.Native.Nat.{ℕ, ◌≤◌}
use mathlib.Core.Path.{◌≡◌, sym, ap, ap₂, subst, refl, ◌∙◌}
use mathlib.Core.Logic.{◌≢◌}
use mathlib.Core.List.{List, [], ◌∷◌}
use native.Mathlib.Decide.{ℕ_discrete}
use borrow.Author.Tests.{eq-eqb, ne_eqb}
use Rattle.a2m.specs.Call.{log_of, Puts, Wide, Reply, Effect, replies, works}
use Rattle.survey.specs.Requests.{Request, call_of, WideRequest}
use Rattle.model.specs.Model.{Model, rules, model_step}
use Rattle.model.specs.ModelRequests.{model_request}
use Rattle.model.specs.Stage.{requests_of, answers_of}
use Rattle.model.proofs.Backed.{Backed, step_backed}
use Rattle.model.proofs.Requests.{request-so, requests-so}
use Rattle.model.proofs.SameLog.{Same, same_refl, same-trans, Below, below-same, others, Alike, step-alike}

-- each append or advance on log g meets it below its reserve
abbrev pub WithinModel : Model → ℕ → List Request → Type 0
WithinModel b g [] = Unit {0}
WithinModel b g (q ∷ qs) = (log_of (call_of q) ≡ g → Puts (call_of q) → Below b g) × WithinModel (model_request rules b q).state g qs

-- a request on log g, in two models that have it in common
own : (g : ℕ) (b d : Model) → Same g b d → Backed b → Backed d → (q : Request) → log_of (call_of q) ≡ g → (Puts (call_of q) → Below b g) → Alike g (model_request rules b q) (model_request rules d q)
own g b d s kb kd q e h =
    requests-so rules b d q (Alike g) (λ (k : ℕ) (u : 7 ≤ k). record { reply = refl; blocks = refl; state = s })
    (subst (λ (k : ℕ). Alike k (model_step rules b (call_of q)) (model_step rules d (call_of q))) e
    (step-alike b d kb kd (call_of q) (subst (λ (k : ℕ). Same k b d) (sym e) s) (λ (p : Puts (call_of q)). subst (λ (k : ℕ). Below b k) (sym e) (h p))))

other : (g : ℕ) (b d : Model) → Same g b d → (q : Request) → log_of (call_of q) ≢ g → Same g (model_request rules b q).state d
other g b d s q n =
    same-trans g (model_request rules b q).state b d
    (request-so rules b q (λ (o : Effect Model). Same g o.state b) (λ (k : ℕ) (u : 7 ≤ k). same_refl g b) (λ (w : WideRequest q → Wide (call_of q)). others g b (call_of q) n)) s

request_backed : (b : Model) → Backed b → (q : Request) → Backed (model_request rules b q).state
request_backed b k q = request-so rules b q (λ (o : Effect Model). Backed o.state) (λ (n : ℕ) (u : 7 ≤ n). k) (λ (w : WideRequest q → Wide (call_of q)). step_backed b k (call_of q))

-- the log's requests alone are within too, on any model d that has the log
alone : (g : ℕ) (qs : List Request) (b d : Model) → Same g b d → Backed b → Backed d → WithinModel b g qs → WithinModel d g (requests_of g qs)
unfolding requests_of
alone g [] b d s kb kd w = tt
alone g (q ∷ qs) b d s kb kd w = go (ℕ_discrete (log_of (call_of q)) g) (λ d' s' kd'. alone g qs (model_request rules b q).state d' s' (request_backed b kb q) kd' w.1)
  where
    go : Dec (log_of (call_of q) ≡ g) → ((d' : Model) → Same g (model_request rules b q).state d' → Backed d' → WithinModel d' g (requests_of g qs)) → WithinModel d g (requests_of g (q ∷ qs))
    go (yes e) ih = rw (requests_of, eq-eqb (log_of (call_of q)) g e) (λ z p. below-same g b d s (w.0 z p), ih (model_request rules d q).state (own g b d s kb kd q e (w.0 e)).state (request_backed d kd q))
    go (no n) ih = rw (requests_of, ne_eqb (log_of (call_of q)) g n) (ih d (other g b d s q n) kd)

-- and they answer as in the list: qs on b, the log's requests alone on d
record AsAlone (g : ℕ) (qs : List Request) (b d : Model) : Type 0 where
  answers : answers_of g qs (replies (model_request rules) b qs) ≡ replies (model_request rules) d (requests_of g qs)
  blocks : answers_of g qs (works (model_request rules) b qs) ≡ works (model_request rules) d (requests_of g qs)

as-alone : (g : ℕ) (qs : List Request) (b d : Model) → Same g b d → Backed b → Backed d → WithinModel d g (requests_of g qs) → AsAlone g qs b d
unfolding replies works answers_of requests_of
as-alone g [] b d s kb kd w = record { answers = refl; blocks = refl }
as-alone g (q ∷ qs) b d s kb kd w = go (ℕ_discrete (log_of (call_of q)) g) w (λ d' s' kd' w'. as-alone g qs (model_request rules b q).state d' s' (request_backed b kb q) kd' w')
  where
    go : Dec (log_of (call_of q) ≡ g) → WithinModel d g (requests_of g (q ∷ qs)) → ((d' : Model) → Same g (model_request rules b q).state d' → Backed d' → WithinModel d' g (requests_of g qs) → AsAlone g qs (model_request rules b q).state d') → AsAlone g (q ∷ qs) b d
    go (yes e) v ih =
        let u : WithinModel d g (q ∷ requests_of g qs) = rw (requests_of, eq-eqb (log_of (call_of q)) g e) at v in
        let back : Same g d b = record { count = sym s.count; keeper = sym s.keeper; key = sym s.key; log = sym s.log } in
        let A = own g b d s kb kd q e (λ (p : Puts (call_of q)). below-same g d b back (u.0 e p)) in
        let r = ih (model_request rules d q).state A.state (request_backed d kd q) u.1 in
        record {
          answers = rw (requests_of, answers_of, eq-eqb (log_of (call_of q)) g e) (ap₂ {C = List Reply} (λ (x : Reply) (l : List Reply). x ∷ l) A.reply r.answers);
          blocks = rw (requests_of, answers_of, eq-eqb (log_of (call_of q)) g e) (ap₂ {C = List ℕ} (λ (x : ℕ) (l : List ℕ). x ∷ l) A.blocks r.blocks);
        }
    go (no n) v ih =
        let r = ih d (other g b d s q n) kd (rw (requests_of, ne_eqb (log_of (call_of q)) g n) at v) in
        record {
          answers = rw (requests_of, answers_of, ne_eqb (log_of (call_of q)) g n) r.answers;
          blocks = rw (requests_of, answers_of, ne_eqb (log_of (call_of q)) g n) r.blocks;
        }

-- two lists with the same requests on log g, in the same order; the first keeps below the log's reserve, and so the second
pub stage-answers : (g : ℕ) (b : Model) → Backed b → (qs qs' : List Request) → requests_of g qs ≡ requests_of g qs' → WithinModel b g qs
    → (answers_of g qs (replies (model_request rules) b qs) ≡ answers_of g qs' (replies (model_request rules) b qs')) × (answers_of g qs (works (model_request rules) b qs) ≡ answers_of g qs' (works (model_request rules) b qs'))
stage-answers g b k qs qs' e w =
    let s = same_refl g b in
    let u = alone g qs b b s k k w in
    let p = as-alone g qs b b s k k u in
    let p' = as-alone g qs' b b s k k (subst (WithinModel b g) e u) in
    (p.answers ∙ ap (replies (model_request rules) b) e ∙ sym p'.answers, p.blocks ∙ ap (works (model_request rules) b) e ∙ sym p'.blocks)
