-- Two accepted requests on different logs of the model, in either order: each answers from its own log, which the other leaves, and one model stands after
-- both. Which slots the rules grant is never looked at: both orders are accepted.
use Prim.Native.Nat.{ℕ, ◌<◌}
use mathlib.Core.Path.{◌≡◌, refl, sym, ap, subst, ◌∙◌}
use mathlib.Core.Option.{Option, none, some}
use native.Mathlib.Omega.{arith}
use native.Mathlib.Decide.{ℕ_discrete}
use lib.ListN.{length}
use lib.Seq.{ext_get_or}
use Rattle.a2m.specs.Call.{Call, log_of, Effect}
use Rattle.survey.specs.Requests.{Request, call_of, early, request_step}
use Rattle.survey.proofs.RequestLaws.{passed-step, away-step}
use Rattle.model.specs.Log.{fresh_log}
use Rattle.model.specs.Model.{rules, Model, model_step}
use Rattle.model.specs.ModelRequests.{model_request}
use Rattle.model.specs.EitherOrder.{log_asked, Accepted, BothAccepted}
use Rattle.model.proofs.Passed.{Stepped, turned, taken, stepped}
use Rattle.model.proofs.Requests.{request-is}
use Rattle.model.proofs.Along.{step-fixed}
use Rattle.model.proofs.SameLog.{Same, same-sym, same-trans, others, Alike, accept-alike}

-- models of one size, alike in every log, are one
one_model : (b d : Model) → b.size ≡ d.size → ((g : ℕ) → Same g b d) → b ≡ d
one_model b d size s =
    let logs = ext_get_or (fresh_log 0) b.logs d.logs (s 0).count (λ (g : ℕ) (h : g < length b.logs). (s g).log) in
    λ i. record { size = size i; keeper = (s 0).keeper i; key = (s 0).key i; logs = logs i }

-- an accepted call answers from its own log
accepted-alike : (b d : Model) (c : Call) → Same (log_of c) b d → Accepted (model_step rules b c).reply → Accepted (model_step rules d c).reply → Alike (log_of c) (model_step rules b c) (model_step rules d c)
accepted-alike b d c s x y = go (stepped rules b c) (stepped rules d c)
  where
    go : Stepped rules b c → Stepped rules d c → Alike (log_of c) (model_step rules b c) (model_step rules d c)
    go (turned k e) q = absurd (x k (ap (λ (o : Effect Model). o.reply) e))
    go (taken a e) (turned k f) = absurd (y k (ap (λ (o : Effect Model). o.reply) f))
    go (taken a e) (taken z f) = rw (e, f) (accept-alike b d c s a)

-- ---- two calls

record Commute (b : Model) (c d : Call) : Type 0 where
  one : Alike (log_of c) (model_step rules b c) (model_step rules (model_step rules b d).state c)
  two : Alike (log_of d) (model_step rules b d) (model_step rules (model_step rules b c).state d)
  state : (model_step rules (model_step rules b c).state d).state ≡ (model_step rules (model_step rules b d).state c).state

calls_commute : (b : Model) (c d : Call) → BothAccepted (model_step rules) log_of b c d → Commute b c d
calls_commute b c d a = record { one = one; two = two; state = one_model cd dc size same }
  where
    -- after c, after d, after both
    bc : Model
    bc = (model_step rules b c).state

    bd : Model
    bd = (model_step rules b d).state

    cd : Model
    cd = (model_step rules bc d).state

    dc : Model
    dc = (model_step rules bd c).state

    one : Alike (log_of c) (model_step rules b c) (model_step rules bd c)
    one = accepted-alike b bd c (same-sym (log_of c) bd b (others (log_of c) b d (λ (e : log_of d ≡ log_of c). let n = a.apart in omega arith))) a.first a.thence

    two : Alike (log_of d) (model_step rules b d) (model_step rules bc d)
    two = accepted-alike b bc d (same-sym (log_of d) bc b (others (log_of d) b c a.apart)) a.other a.then

    size : cd.size ≡ dc.size
    size = (step-fixed rules bc d).size ∙ (step-fixed rules b c).size ∙ sym ((step-fixed rules bd c).size ∙ (step-fixed rules b d).size)

    same : (g : ℕ) → Same g cd dc
    same g = go (ℕ_discrete (log_of c) g) (ℕ_discrete (log_of d) g)
      where
        go : Dec (log_of c ≡ g) → Dec (log_of d ≡ g) → Same g cd dc
        go (yes p) (yes q) = absurd (a.apart (p ∙ sym q))
        go (yes p) (no q) = same-trans g cd bc dc (others g bc d q) (subst (λ (k : ℕ). Same k bc dc) p one.state)
        go (no p) (yes q) = same-trans g cd bd dc (subst (λ (k : ℕ). Same k cd bd) q (same-sym (log_of d) bd cd two.state)) (same-sym g dc bd (others g bd c p))
        go (no p) (no q) =
            same-trans g cd b dc (same-trans g cd bc b (others g bc d q) (others g b c p)) (same-sym g dc b (same-trans g dc bd b (others g bd c p) (others g b d q)))

-- ---- two requests

-- an accepted request was not turned away
pub accepted-made : {S : Type 0} (step : S → Call → Effect S) (s : S) (q : Request) → Accepted (request_step step s q).reply → early q ≡ none
accepted-made step s q a = go (early q) refl
  where
    go : (o : Option ℕ) → early q ≡ o → early q ≡ none
    go none e = e
    go (some k) e = absurd (a k (ap (λ (o : Effect _). o.reply) (away-step step s q k e)))

pub record Commutes (b : Model) (q p : Request) : Type 0 where
  pub one : (model_request rules b q).reply ≡ (model_request rules (model_request rules b p).state q).reply
  pub one_work : (model_request rules b q).blocks ≡ (model_request rules (model_request rules b p).state q).blocks
  pub two : (model_request rules b p).reply ≡ (model_request rules (model_request rules b q).state p).reply
  pub two_work : (model_request rules b p).blocks ≡ (model_request rules (model_request rules b q).state p).blocks
  pub state : (model_request rules (model_request rules b q).state p).state ≡ (model_request rules (model_request rules b p).state q).state

pub commutes : (b : Model) (q p : Request) → BothAccepted (model_request rules) log_asked b q p → Commutes b q p
commutes b q p a =
    let made : (m : Model) (x : Request) → Accepted (model_request rules m x).reply → early x ≡ none = λ (m : Model) (x : Request) (h : Accepted (model_request rules m x).reply). accepted-made (model_step rules) m x (subst (λ (o : Effect Model). Accepted o.reply) (request-is rules m x) h) in
    let on : (x : Request) → early x ≡ none → (m : Model) → model_request rules m x ≡ model_step rules m (call_of x) = λ (x : Request) (h : early x ≡ none) (m : Model). request-is rules m x ∙ passed-step (model_step rules) m x h in
    let eq = on q (made b q a.first) in
    let ep = on p (made b p a.other) in
    let c = call_of q in
    let d = call_of p in
    let bc = (model_step rules b c).state in
    let bd = (model_step rules b d).state in
    let qp : model_request rules (model_request rules b q).state p ≡ model_step rules bc d = ep _ ∙ ap (λ (o : Effect Model). model_step rules o.state d) (eq b) in
    let pq : model_request rules (model_request rules b p).state q ≡ model_step rules bd c = eq _ ∙ ap (λ (o : Effect Model). model_step rules o.state c) (ep b) in
    let C = calls_commute b c d (record {
      apart = a.apart;
      first = subst (λ (o : Effect Model). Accepted o.reply) (eq b) a.first;
      then = subst (λ (o : Effect Model). Accepted o.reply) qp a.then;
      other = subst (λ (o : Effect Model). Accepted o.reply) (ep b) a.other;
      thence = subst (λ (o : Effect Model). Accepted o.reply) pq a.thence;
    }) in
    record {
      one = ap (λ (o : Effect Model). o.reply) (eq b) ∙ C.one.reply ∙ sym (ap (λ (o : Effect Model). o.reply) pq);
      one_work = ap (λ (o : Effect Model). o.blocks) (eq b) ∙ C.one.blocks ∙ sym (ap (λ (o : Effect Model). o.blocks) pq);
      two = ap (λ (o : Effect Model). o.reply) (ep b) ∙ C.two.reply ∙ sym (ap (λ (o : Effect Model). o.reply) qp);
      two_work = ap (λ (o : Effect Model). o.blocks) (ep b) ∙ C.two.blocks ∙ sym (ap (λ (o : Effect Model). o.blocks) qp);
      state = ap (λ (o : Effect Model). o.state) qp ∙ C.state ∙ sym (ap (λ (o : Effect Model). o.state) pq);
    }
