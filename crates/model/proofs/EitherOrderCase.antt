-- Request [14] speaks of something. On the bytes that `format,2,4,7,0,0` writes, an append on log 0 and a close of survey 0 on log 1 are accepted in both
-- orders.
use Prim.Native.Nat.{ℕ, ◌-◌, ◌^◌}
use mathlib.Core.Path.{◌≡◌, refl, sym, ap, ◌∙◌}
use mathlib.Core.List.{List, [], ◌∷◌}
use mathlib.Core.Option.{none}
use native.Mathlib.Omega.{arith}
use lib.Dec.{lit<}
use lib.ListN.{length, get_or}
use Rattle.octets.specs.Octets.{zeros}
use Rattle.bigendian.specs.BigEndian.{be, placed}
use Rattle.table.specs.Format.{format_refusal, format_bytes}
use Rattle.a2m.specs.Call.{append, Reply, refused, done, replies}
use Rattle.a2m.specs.TableCalls.{table_step}
use Rattle.survey.specs.Requests.{Request, plain, closes, request_step}
use Rattle.model.specs.Log.{last_entry, entered}
use Rattle.model.specs.Model.{rules01, rules, Model, new_model, total, lacks, lacks_but, slot_rule, model_refusal, model_done, model_accept, model_step}
use Rattle.model.specs.ModelRequests.{unless}
use Rattle.model.specs.Claim.{asking, model_turn}
use Rattle.model.specs.EitherOrder.{log_asked, Accepted, BothAccepted}
use Rattle.model.proofs.Demand3.{list_claim}

abbrev start : Model
start = new_model 4 7 (zeros 32) (0 ∷ 0 ∷ [])

abbrev rain : Request
rain = plain (append 0 (placed 41))

abbrev stage : Request
stage = closes 1 0 (placed 42)

rain-first : replies model_turn start (asking rules (rain ∷ stage ∷ [])) ≡ done 1 1 ∷ done 1 (2 ^ 40 - 1) ∷ []
unfolding placed zeros be last_entry entered rules rules01 total lacks lacks_but slot_rule model_refusal model_done model_accept model_step unless replies
rain-first = refl

stage-first : replies model_turn start (asking rules (stage ∷ rain ∷ [])) ≡ done 1 (2 ^ 40 - 1) ∷ done 1 1 ∷ []
unfolding placed zeros be last_entry entered rules rules01 total lacks lacks_but slot_rule model_refusal model_done model_accept model_step unless replies
stage-first = refl

accepted : (r : Reply) (low high : ℕ) → r ≡ done low high → Accepted r
accepted r low high h k e = let q : refused k ≡ done low high = sym e ∙ h in let z : ◌≡◌ {A = ℕ} 0 1 = cc in omega arith

pub both-accepted : (lent : List ℕ) → format_refusal (length lent) 2 4 (length (zeros 32)) (0 ∷ 0 ∷ []) ≡ none
    → BothAccepted (request_step table_step) log_asked (format_bytes lent 2 4 7 (zeros 32) (0 ∷ 0 ∷ [])) rain stage
unfolding replies
both-accepted lent h =
    let answers = list_claim lent 2 4 7 (zeros 32) (0 ∷ 0 ∷ []) (lit< tt) h in
    let rs = (answers (rain ∷ stage ∷ []) (tt, (tt, tt))).answers ∙ rain-first in
    let sr = (answers (stage ∷ rain ∷ []) (tt, (tt, tt))).answers ∙ stage-first in
    let at : ℕ → List Reply → Reply = λ (i : ℕ) (l : List Reply). get_or l i (refused 0) in
    record {
      apart = λ (e : ◌≡◌ {A = ℕ} 0 1). omega arith;
      first = accepted _ _ _ (ap (at 0) rs);
      then = accepted _ _ _ (ap (at 1) rs);
      other = accepted _ _ _ (ap (at 0) sr);
      thence = accepted _ _ _ (ap (at 1) sr);
    }
