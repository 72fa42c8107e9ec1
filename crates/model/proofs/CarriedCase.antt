-- The claim on a list with a carry speaks of something. Before it, position 3 of log 0 is skipped, a lookup of 3 shows zero bytes, and an end of log 1, which is
-- fresh, is refused with 6; after it, a lookup of 3 shows what jumped the gap, and one of 1 what was put before the carry.
use Prim.Native.Nat.{ℕ, ◌<◌}
use mathlib.Core.Path.{◌≡◌, refl}
use mathlib.Core.List.{List, [], ◌∷◌, map}
use native.Mathlib.Omega.{arith}
use lib.Dec.{lit<}
use Rattle.octets.specs.Octets.{zeros}
use Rattle.bigendian.specs.BigEndian.{be, unbe, placed}
use Rattle.receipt.specs.Attestation.{LOOKUP, END, attested_bytes, receipt_bytes, read_attestation}
use Rattle.entry.specs.Digest.{entry_digest}
use Rattle.a2m.specs.Call.{Call, append, advance, lookup, end, Reply, numbered, replies, after}
use Rattle.survey.specs.Requests.{Request, plain, early, made_of}
use Rattle.model.specs.Log.{last_entry, keep_from, keep_below, entered, standing_among, standing, kind_of, reference_of, examined_for}
use Rattle.model.specs.Model.{rules01, rules, Model, total, lacks, lacks_but, slot_rule, is_nil, model_refusal, model_receipt, shown_for, model_lookup, model_end, model_done, model_accept, model_step}
use Rattle.model.specs.Claim.{model_turn, call_at, SkipsAt, ForgetsAt, ShowsAt}
use Rattle.model.specs.Carried.{model01, carried_turns}
use Rattle.model.specs.Marked.{dashes, shown, columns_of, A, S, zero32}
use Rattle.model.proofs.Gaps.{GapAsked}

abbrev start : Model
start = model01 2 4 7 (zeros 32)

abbrev before : List Call
before = append 0 (placed 41) ∷ advance 0 5 (placed 0) (placed 43) ∷ lookup 0 3 zero32 160 ∷ end 1 zero32 160 ∷ []

abbrev later : List Request
later = plain (lookup 0 3 zero32 160) ∷ plain (lookup 0 1 zero32 160) ∷ []

abbrev answers : List Reply
answers = replies model_turn start (carried_turns before later)

pub carried-numbers : map (λ (r : Reply). (numbered r).number) answers ≡ 0 ∷ 0 ∷ 0 ∷ 6 ∷ 0 ∷ 0 ∷ []
unfolding placed zero32 zeros be last_entry entered rules rules01 total lacks lacks_but slot_rule is_nil model_refusal model_done model_lookup model_end model_accept model_step replies
carried-numbers = refl

pub carried-columns : map columns_of answers ≡ dashes ∷ dashes ∷ shown S 3 5 0 ∷ dashes ∷ shown S 3 5 43 ∷ shown A 1 1 41 ∷ []
unfolding placed zero32 zeros be unbe LOOKUP END attested_bytes receipt_bytes read_attestation entry_digest last_entry keep_from keep_below entered standing_among standing kind_of reference_of examined_for rules rules01 total lacks lacks_but slot_rule is_nil model_refusal model_receipt shown_for model_lookup model_end model_done model_accept model_step replies
carried-columns = refl

-- the position that the list skips before the carry, and a receipt given after it
pub carried_skips : SkipsAt start (carried_turns before later) answers 1 0 3
unfolding placed zero32 zeros be last_entry entered rules rules01 total lacks lacks_but slot_rule is_nil model_refusal model_done model_accept model_step replies after call_at early made_of
carried_skips = record { n = 5; given = placed 0; value = placed 43; call = refl; low = 1; high = 5; accepted = refl; above = lit< tt; below = lit< tt }

pub carried-shows : (d : List ℕ) × ShowsAt answers 5 0 1 (placed 41) d
unfolding placed zero32 zeros be unbe LOOKUP END attested_bytes receipt_bytes read_attestation entry_digest last_entry keep_from keep_below entered standing_among standing kind_of reference_of examined_for rules rules01 total lacks lacks_but slot_rule is_nil model_refusal model_receipt shown_for model_lookup model_end model_done model_accept model_step replies
carried-shows = (_, record { receipt = _; there = refl; shows = record { assigned = refl; log = refl; position = refl; value = refl; digest = refl } })

-- and the lookup of it before the carry, which shows it skipped by document 01's rules
pub carried-gap : (r : List ℕ) × GapAsked start (carried_turns before later) answers 2 1 0 3 r
unfolding placed zero32 zeros be last_entry keep_from keep_below entered standing_among standing kind_of reference_of examined_for rules rules01 total lacks lacks_but slot_rule is_nil model_refusal model_receipt shown_for model_lookup model_end model_done model_accept model_step replies after call_at early made_of
carried-gap = (_, record { skips = carried_skips; later = lit< tt; kept = λ (h m : ℕ) (lo : 1 < h) (hi : h < 2) (f : ForgetsAt (carried_turns before later) answers h 0 m). absurd (omega arith); nonce = zero32; lent = 160; call = refl; receipt = refl })
