-- Request [10]: what the plain book does with a request, one of the five calls or a call by survey and reading. Written apart from crate `survey`, with its own
-- tests and its own sum.
use Rattle.std.specs.Prelude.{ℕ, ◌+◌, ◌-◌, ◌*◌, ◌^◌, not, ◌||◌, replicate, eqb, leb}
use Rattle.std.proofs.Math.Option.{Option, none, some}
use Rattle.a2m.specs.Call.{advance, lookup, refused, Effect, effect}
use Rattle.survey.specs.Requests.{Request, plain, advances, looks, closes}
use Rattle.model.specs.Model.{Rules, Model, not32, refuse, model_step}

-- what a call leaves, unless there is a number: then "the book stays as it was"
unfoldable pub unless : Option ℕ → Model → Effect Model → Effect Model
unless none b o = o
unless (some k) b o = effect (refused k) 0 b

-- "survey times 2^40 plus reading"; "Closing a survey advances its log to that survey's reading 2^40 − 1 with a zero digest and a given value"; "Turned away:
-- 18 "survey", a number too wide for its part, tested after 7 and before 1"
abbrev pub model_request : Rules → Model → Request → Effect Model
model_request ru b (plain c) = model_step ru b c
model_request ru b (advances g s r d x) =
    unless (refuse 7 (not32 d || not32 x) (refuse 18 (leb (2 ^ 24) s || leb (2 ^ 40) r) none)) b (model_step ru b (advance g (s * 2 ^ 40 + r) d x))
model_request ru b (looks g s r c k) =
    unless (refuse 7 (not32 c || not (eqb k 160)) (refuse 18 (leb (2 ^ 24) s || leb (2 ^ 40) r) none)) b (model_step ru b (lookup g (s * 2 ^ 40 + r) c k))
model_request ru b (closes g s x) =
    unless (refuse 7 (not32 x) (refuse 18 (leb (2 ^ 24) s) none)) b (model_step ru b (advance g (s * 2 ^ 40 + (2 ^ 40 - 1)) (replicate 32 0) x))
