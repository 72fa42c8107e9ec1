-- The marked set, answered by the image and by the model.
use Prim.Native.Nat.{ℕ, ◌<◌}
use mathlib.Core.Path.{◌≡◌, refl}
use mathlib.Core.List.{List, [], ◌∷◌, map}
use native.Mathlib.Omega.{arith}
use lib.Dec.{lit<}
use Rattle.octets.specs.Octets.{same, zeros}
use Rattle.bigendian.specs.BigEndian.{be, unbe, placed}
use Rattle.refusal.specs.Order.{first_fault}
use Rattle.receipt.specs.Attestation.{LOOKUP, END, attested_bytes, receipt_bytes, read_attestation}
use Rattle.layout.specs.Image.{Image, slot_at, set_slot}
use Rattle.layout.specs.Changes.{advanced_row, truncated_row}
use Rattle.layout.specs.Lists.{tabulate}
use Rattle.table.specs.Chains.{walk, reaches, chain, last_of}
use Rattle.table.specs.Free.{queue, queued_next}
use Rattle.table.specs.Format.{formatted}
use Rattle.table.specs.Reserve.{lack_from, lack_but, lack_all}
use Rattle.table.specs.WholeImage.{all, free_ok, fresh, rising_from, started, row_ok, rows_ok, held_by, meets, whole_image}
use Rattle.layout.specs.Tests.{blank}
use Rattle.a2m.specs.Call.{Call, append, lookup, replies, after}
use Rattle.entry.specs.Digest.{entry_digest}
use Rattle.a2m.specs.Search.{search, looked_up}
use Rattle.a2m.specs.ImageCalls.{row_in, entries_in, wrong_length, misplaced, spent, full, withheld, promised, faults, image_refusal, joined, put, release, releases, lowered, lookup_attested, end_kind, end_attested, image_done, image_accept, image_step}
use Rattle.model.specs.Log.{last_entry, keep_from, keep_below, entered, cut_at, standing_among, standing, kind_of, reference_of, examined_for}
use Rattle.model.specs.Model.{rules01, rules, Model, new_model, log_at, total, lacks, lacks_but, slot_rule, is_nil, model_refusal, model_receipt, shown_for, model_lookup, model_end, model_done, model_accept, model_step}
use Rattle.survey.specs.Requests.{early, made_of}
use Rattle.model.specs.Claim.{by, model_turn, call_at, ShowsAt, SkippedAt, SkipsAt, ForgetsAt, Asked}
use Rattle.model.specs.Marked.{Line, zero32, marked, answered}

pub marked-image : answered image_step (λ (m : Image) (g : ℕ). (row_in m g).low) (λ (m : Image) (g : ℕ). (row_in m g).high) (formatted 3 7 (zeros 32) (0 ∷ 0 ∷ [])) marked ≡ marked
unfolding formatted marked answered placed zero32 same zeros be unbe first_fault LOOKUP END attested_bytes receipt_bytes read_attestation slot_at set_slot advanced_row truncated_row tabulate walk reaches chain last_of queue queued_next all blank free_ok fresh rising_from started row_ok rows_ok held_by meets lack_from lack_but lack_all whole_image entry_digest search looked_up entries_in wrong_length misplaced spent full withheld promised faults image_refusal joined put release releases lowered lookup_attested end_kind end_attested image_done image_accept image_step
marked-image = refl

pub marked_model : answered (model_step rules) (λ (b : Model) (g : ℕ). (log_at b.logs g).low) (λ (b : Model) (g : ℕ). (log_at b.logs g).high) (new_model 3 7 (zeros 32) (0 ∷ 0 ∷ [])) marked ≡ marked
unfolding marked answered placed zero32 zeros be unbe LOOKUP END attested_bytes receipt_bytes read_attestation entry_digest last_entry keep_from keep_below entered cut_at standing_among standing kind_of reference_of examined_for rules rules01 total lacks lacks_but slot_rule is_nil model_refusal model_receipt shown_for model_lookup model_end model_done model_accept model_step
marked_model = refl

-- ---- the claims of demand 3 are about something, in this list: its tenth call shows position 1 of log 1 assigned, its fifth shows 3 of log 0
-- skipped, its third skips it, its sixth forgets what lies below 5

calls : List Call
calls = map (λ (l : Line). l.call) marked

shows-one : (d : List ℕ) × ShowsAt (replies model_turn (new_model 3 7 (zeros 32) (0 ∷ 0 ∷ [])) (by rules calls)) 9 1 1 (placed 9) d
unfolding calls marked placed zero32 zeros be unbe LOOKUP END attested_bytes receipt_bytes read_attestation entry_digest last_entry keep_from keep_below entered cut_at standing_among standing kind_of reference_of examined_for rules rules01 total lacks lacks_but slot_rule is_nil model_refusal model_receipt shown_for model_lookup model_end model_done model_accept model_step replies
shows-one = (_, record { receipt = _; there = refl; shows = record { assigned = refl; log = refl; position = refl; value = refl; digest = refl } })

three-skipped : SkippedAt (replies model_turn (new_model 3 7 (zeros 32) (0 ∷ 0 ∷ [])) (by rules calls)) 4 0 3
unfolding calls marked placed zero32 zeros be unbe LOOKUP END attested_bytes receipt_bytes read_attestation entry_digest last_entry keep_from keep_below entered cut_at standing_among standing kind_of reference_of examined_for rules rules01 total lacks lacks_but slot_rule is_nil model_refusal model_receipt shown_for model_lookup model_end model_done model_accept model_step replies
three-skipped = record { receipt = _; there = refl; shows = record { skipped = refl; log = refl; position = refl } }

skips-three : SkipsAt (new_model 3 7 (zeros 32) (0 ∷ 0 ∷ [])) (by rules calls) (replies model_turn (new_model 3 7 (zeros 32) (0 ∷ 0 ∷ [])) (by rules calls)) 2 0 3
unfolding calls marked placed zero32 zeros be unbe LOOKUP END attested_bytes receipt_bytes read_attestation entry_digest last_entry keep_from keep_below entered cut_at standing_among standing kind_of reference_of examined_for rules rules01 total lacks lacks_but slot_rule is_nil model_refusal model_receipt shown_for model_lookup model_end model_done model_accept model_step replies after call_at early made_of
skips-three = record { n = 5; given = placed 0; value = placed 43; call = refl; low = 1; high = 5; accepted = refl; above = lit< tt; below = lit< tt }

forgets-below_five : ForgetsAt (by rules calls) (replies model_turn (new_model 3 7 (zeros 32) (0 ∷ 0 ∷ [])) (by rules calls)) 5 0 5
unfolding calls marked placed zero32 zeros be unbe LOOKUP END attested_bytes receipt_bytes read_attestation entry_digest last_entry keep_from keep_below entered cut_at standing_among standing kind_of reference_of examined_for rules rules01 total lacks lacks_but slot_rule is_nil model_refusal model_receipt shown_for model_lookup model_end model_done model_accept model_step replies call_at early made_of
forgets-below_five = record { call = refl; low = 5; high = 5; accepted = refl }

-- and one call may be asked for what another put: on one log of one slot, an append and a lookup
abbrev put_and_asked : List Call
put_and_asked = append 0 (placed 41) ∷ lookup 0 1 zero32 160 ∷ []

pub asked-once : Asked (by rules put_and_asked) (replies model_turn (new_model 1 7 (zeros 32) (0 ∷ [])) (by rules put_and_asked)) 0 1 0 1 (placed 41)
unfolding placed zero32 zeros be last_entry entered rules rules01 total lacks lacks_but slot_rule model_refusal model_done model_accept model_step replies call_at early made_of
asked-once = record {
  put = append 0 (placed 41);
  stores = (refl, refl);
  first = refl;
  low = 1;
  accepted = refl;
  nonce = zero32;
  sized = refl;
  second = refl;
  later = lit< tt;
  kept = λ (k m : ℕ) (i : 0 < k) (j : k < 1) (f : ForgetsAt (by rules put_and_asked) (replies model_turn (new_model 1 7 (zeros 32) (0 ∷ [])) (by rules put_and_asked)) k 0 m). absurd (omega arith);
}
