-- A table opened at one of its logs, and what the calls' answers say in document 01's numbers.
use Rattle.std.specs.Prelude.{ℕ, ◌<◌, ◌≡◌, List, true, cond, not, length, eqb, leb, Option, None, Some, Result, Ok, Err}
use Rattle.refusal.specs.Number.{number_of}
use Rattle.refusal.specs.Work.{worked_blocks}
use Rattle.refusal.specs.declared.Refusal.{Refusal}
use Rattle.refusal.specs.declared.Refusal.TheVariants as why
use Rattle.refusal.specs.declared.Hashed.{Hashed}
use Rattle.refusal.specs.declared.Refused.{Refused}
use Rattle.receipt.specs.Kind.{kind_number}
use Rattle.layout.specs.Image.{Entry, Slot, entry_of, slot_at}
use Rattle.layout.specs.Layout.{logs_of, slots_of, free_of, read_table, put_next, put_free}
use Rattle.table.specs.Free.{free_chain, joint}
use Rattle.table.specs.Reserve.{lack_but}
use Rattle.table.specs.Whole.{whole}
use Rattle.a2m.specs.declared.View.{View}
use Rattle.a2m.specs.declared.Bounds.{Bounds}
use Rattle.a2m.specs.declared.Hit.{Hit}
use Rattle.a2m.specs.Call.{Reply, refused, done, found, ended, Effect}
use Rattle.a2m.specs.ImageCalls.{row_in}
use Rattle.a2m.specs.Search.{Found}

-- "An accepted append, advance or truncate answers 0 with the L and H of that row"; a refusal "returns its number alone"
abbrev pub change_reply : Result (Hashed Bounds) Refused → Reply
change_reply (Ok made) = done made.value.low made.value.high
change_reply (Err r) = refused (number_of r.why)

abbrev pub change_blocks : Result (Hashed Bounds) Refused → ℕ
change_blocks r = worked_blocks r

-- what a change answers and leaves is what its effect says
pub record Changed (e : Effect (List ℕ)) (r : Result (Hashed Bounds) Refused) (table : List ℕ) : Type 0 where
  pub answer : change_reply r ≡ e.reply
  pub blocks : change_blocks r ≡ e.blocks
  pub bytes : table ≡ e.state

-- what a table's bytes say at log g
unfoldable pub view_of : List ℕ → ℕ → View
view_of b g = record {
  counts = record { logs = logs_of b; slots = slots_of b };
  log = g;
  row = row_in (read_table b) g;
  free = free_of b;
  count = length (free_chain (read_table b));
  last = joint (read_table b);
  others = lack_but (read_table b) g;
}

-- 1 "torn", then 2 "no log"
unfoldable pub opening_of : List ℕ → ℕ → Result View Refusal
opening_of b g = cond (not (whole b)) (Err why.Torn) (cond (leb (logs_of b) g) (Err why.NoLog) (Ok (view_of b g)))

-- the table is whole, the log one of its own, and the view says what the bytes say
pub record Opened (b : List ℕ) (v : View) : Type 0 where
  pub whole : whole b ≡ true
  pub log : v.log < logs_of b
  pub is : v ≡ view_of b v.log

-- 5: "no slot is free"; 16: "free slots none of which may be taken", where the log holds its reserve
unfoldable pub room_of : View → Result Unit Refusal
room_of v = cond (eqb v.free 0) (Err why.Full) (cond (leb v.count v.others) (Err why.Promised) (Ok tt))

-- slot t is the next of slot last, if there is one
unfoldable pub hooked : List ℕ → ℕ → ℕ → List ℕ
hooked b last t = cond (eqb last 0) b (put_next b last t)

-- the last free slot after the first was taken, whose next is n: none is left where that is 0
unfoldable pub last_after : ℕ → ℕ → ℕ
last_after n last = cond (eqb n 0) 0 last

abbrev pub entry_at : ℕ → List ℕ → List ℕ → Entry
entry_at n x d = record { position = n; value = x; digest = d }

-- the free chain goes on at slot t behind slot last; where there is none, it starts there
unfoldable pub joined_at : List ℕ → ℕ → ℕ → List ℕ
joined_at b last t = cond (eqb last 0) (put_free b t) (put_next b last t)

-- a slot as the table's bytes name it: 0 where there is none
abbrev pub slot_number : Option ℕ → ℕ
slot_number None = 0
slot_number (Some s) = s

-- what a lookup found, the entry shown being that of its slot
abbrev pub found_of : List Slot → Hit → Found
found_of slots h = record { kind = kind_number h.kind; reference = h.reference; shown = entry_of (slot_at slots (slot_number h.slot)); examined = h.examined }

-- a lookup answers 0 with the number of entries examined, and the receipt that it wrote
abbrev pub finding_reply : Result (Hashed ℕ) Refused → List ℕ → Reply
finding_reply (Ok examined) receipt = found receipt examined.value
finding_reply (Err r) receipt = refused (number_of r.why)

abbrev pub finding_blocks : Result (Hashed ℕ) Refused → ℕ
finding_blocks r = worked_blocks r

-- an end answers 0, and the receipt that it wrote
abbrev pub end_reply : Result (Hashed Unit) Refused → List ℕ → Reply
end_reply (Ok written) receipt = ended receipt
end_reply (Err r) receipt = refused (number_of r.why)

-- the lent receipt after a call; "A refusal changes no lent byte"
unfoldable pub receipt_after : Reply → List ℕ → List ℕ
receipt_after (refused k) old = old
receipt_after (done l h) old = old
receipt_after (found receipt k) old = receipt
receipt_after (ended receipt) old = receipt

-- what a lookup or an end answers, and the lent receipt after it, are what its effect says; `old` is the receipt before
pub record Looked (e : Effect (List ℕ)) (r : Result (Hashed ℕ) Refused) (old receipt : List ℕ) : Type 0 where
  pub answer : finding_reply r receipt ≡ e.reply
  pub blocks : finding_blocks r ≡ e.blocks
  pub bytes : receipt ≡ receipt_after e.reply old

pub record Ended (e : Effect (List ℕ)) (r : Result (Hashed Unit) Refused) (old receipt : List ℕ) : Type 0 where
  pub answer : end_reply r receipt ≡ e.reply
  pub blocks : worked_blocks r ≡ e.blocks
  pub bytes : receipt ≡ receipt_after e.reply old
