-- The stage log's theorem speaks of something: of three slots one is promised to log 0. Log 1 asks for three, gets two and is then refused with 16; log 0 is
-- asked below its reserve, and gets its slot as it does where log 1 is not called.
use Prim.Native.Nat.{ℕ}
use mathlib.Core.Path.{◌≡◌, refl}
use mathlib.Core.Logic.{◌≢◌}
use mathlib.Core.List.{List, [], ◌∷◌}
use native.Mathlib.Omega.{arith}
use lib.Dec.{lit<}
use Rattle.octets.specs.Octets.{zeros}
use Rattle.bigendian.specs.BigEndian.{be, placed}
use Rattle.a2m.specs.Call.{append, refused, done, replies}
use Rattle.survey.specs.Requests.{Request, plain}
use Rattle.model.specs.Log.{last_entry, entered}
use Rattle.model.specs.Model.{rules01, rules, Model, new_model, total, lacks, lacks_but, slot_rule, model_refusal, model_done, model_accept, model_step}
use Rattle.model.specs.ModelRequests.{model_request}
use Rattle.model.specs.Stage.{requests_of}
use Rattle.model.proofs.Stage.{WithinModel}

abbrev start : Model
start = new_model 3 7 (zeros 32) (1 ∷ 0 ∷ [])

abbrev alone : List Request
alone = plain (append 0 (placed 41)) ∷ []

abbrev crowded : List Request
crowded = plain (append 1 (placed 10)) ∷ plain (append 1 (placed 11)) ∷ plain (append 1 (placed 12)) ∷ alone

same-calls : requests_of 0 crowded ≡ requests_of 0 alone
unfolding requests_of
same-calls = refl

other : ◌≢◌ {A = ℕ} 1 0
other e = omega arith

within : WithinModel start 0 crowded
unfolding placed zeros be last_entry entered rules rules01 total lacks lacks_but slot_rule model_refusal model_done model_accept model_step
within = (λ e. absurd (other e), (λ e. absurd (other e), (λ e. absurd (other e), (λ e p. lit< tt, tt))))

pub crowded-answers : replies (model_request rules) start crowded ≡ done 1 1 ∷ done 1 2 ∷ refused 16 ∷ done 1 1 ∷ []
unfolding placed zeros be last_entry entered rules rules01 total lacks lacks_but slot_rule model_refusal model_done model_accept model_step replies
crowded-answers = refl
