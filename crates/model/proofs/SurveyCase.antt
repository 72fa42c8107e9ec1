-- The claim speaks of surveys. On a table of two logs and three slots: reading 5 of survey 1 is put and looked up, reading 4 of it was skipped; survey 1 is closed;
-- a second close, its last reading and a close of survey 0 are then refused with 3; an append assigns reading 0 of survey 2. A number too wide for its part is
-- 18, on a log that is not there too, and after 7.
use Prim.Native.Nat.{◌+◌, ◌-◌, ◌^◌}
use mathlib.Core.Path.{◌≡◌, refl}
use mathlib.Core.List.{List, [], ◌∷◌, map}
use Rattle.octets.specs.Octets.{zeros}
use Rattle.bigendian.specs.BigEndian.{be, unbe, placed}
use Rattle.receipt.specs.Attestation.{LOOKUP, END, attested_bytes, receipt_bytes, read_attestation}
use Rattle.entry.specs.Digest.{entry_digest}
use Rattle.a2m.specs.Call.{append, Reply, numbered, replies}
use Rattle.refusal.specs.Answer.{answer}
use Rattle.survey.specs.Requests.{Request, plain, advances, looks, closes, early, made_of}
use Rattle.model.specs.Log.{last_entry, keep_from, keep_below, entered, standing_among, standing, kind_of, reference_of, examined_for}
use Rattle.model.specs.Model.{rules01, rules, Model, new_model, total, lacks, lacks_but, slot_rule, is_nil, model_refusal, model_receipt, shown_for, model_lookup, model_end, model_done, model_accept, model_step}
use Rattle.model.specs.ModelRequests.{unless}
use Rattle.model.specs.Claim.{asking, model_turn, request_at, call_at, AssignsAt, ClosesAt}
use Rattle.model.specs.Marked.{dashes, shown, columns_of, A, S, zero32}

abbrev start : Model
start = new_model 3 7 (zeros 32) (0 ∷ 0 ∷ [])

abbrev asked : List Request
asked =
    advances 0 1 5 zero32 (placed 41) ∷ looks 0 1 5 zero32 160 ∷ looks 0 1 4 zero32 160 ∷ closes 0 1 (placed 42) ∷ closes 0 1 (placed 43) ∷ advances 0 1 (2 ^ 40 - 1) zero32 (placed 44) ∷
    closes 0 0 (placed 45) ∷ plain (append 0 (placed 46)) ∷ closes 9 (2 ^ 24) (placed 47) ∷ advances 0 (2 ^ 24) 0 [] (placed 48) ∷ looks 0 0 (2 ^ 40 + 5) zero32 160 ∷ looks 0 0 0 zero32 160 ∷ []

abbrev answers : List Reply
answers = replies model_turn start (asking rules asked)

pub survey-answers : map numbered answers ≡
    answer 0 (1 ∷ 1099511627781 ∷ []) ∷ answer 0 (1 ∷ []) ∷ answer 0 (1 ∷ []) ∷ answer 0 (1 ∷ 2199023255551 ∷ []) ∷ answer 3 [] ∷ answer 3 [] ∷
    answer 3 [] ∷ answer 0 (1 ∷ 2199023255552 ∷ []) ∷ answer 18 [] ∷ answer 7 [] ∷ answer 18 [] ∷ answer 3 [] ∷ []
unfolding placed zero32 zeros be LOOKUP END last_entry keep_from keep_below entered standing_among standing kind_of reference_of examined_for rules rules01 total lacks lacks_but slot_rule is_nil model_refusal model_receipt shown_for model_lookup model_end model_done model_accept model_step unless replies
survey-answers = refl

-- what the two lookups show
pub survey-columns : map columns_of answers ≡
    dashes ∷ shown A 1099511627781 1099511627781 41 ∷ shown S 1099511627780 1099511627781 41 ∷ dashes ∷ dashes ∷ dashes ∷ dashes ∷ dashes ∷ dashes ∷ dashes ∷ dashes ∷ dashes ∷ []
unfolding placed zero32 zeros be unbe LOOKUP END attested_bytes receipt_bytes read_attestation entry_digest last_entry keep_from keep_below entered standing_among standing kind_of reference_of examined_for rules rules01 total lacks lacks_but slot_rule is_nil model_refusal model_receipt shown_for model_lookup model_end model_done model_accept model_step unless replies
survey-columns = refl

-- the close, and the append after it
pub survey-closes : ClosesAt (asking rules asked) answers 3 0 1
unfolding placed zero32 zeros be last_entry entered rules rules01 total lacks lacks_but slot_rule is_nil model_refusal model_done model_accept model_step unless replies request_at
survey-closes = record { value = placed 42; request = refl; low = 1; high = 2199023255551; accepted = refl }

pub survey-assigns : AssignsAt (asking rules asked) answers 7 0 2199023255552
unfolding placed zero32 zeros be last_entry entered rules rules01 total lacks lacks_but slot_rule is_nil model_refusal model_done model_accept model_step unless replies call_at early made_of
survey-assigns = record { put = append 0 (placed 46); call = refl; puts = tt; log = refl; low = 1; accepted = refl }
