-- The five calls on a table as data: the answer, and the table after (document 01, "The log's rules" and "Numbers returned").
use Rattle.std.specs.Prelude.{ℕ, zero, suc, ◌+◌, ◌-◌, ◌^◌, List, [], ◌∷◌, Bool, true, false, cond, not, ◌&&◌, ◌||◌, length, set, eqb, leb, ltb}
use Rattle.std.proofs.Math.Option.{Option, none, some}
use Rattle.refusal.specs.Order.{Fault, fault, first_fault}
use Rattle.receipt.specs.Attestation.{Attestation, LOOKUP, END, receipt_bytes}
use Rattle.layout.specs.declared.Row.{Row}
use Rattle.layout.specs.Image.{Entry, Slot, Image, free_slot, slot_at, set_slot, row_at}
use Rattle.layout.specs.Changes.{with_next, slot_of, advanced_row, truncated_row}
use Rattle.table.specs.Chains.{chain, entries_of}
use Rattle.table.specs.Free.{free_chain, taken, after_taken, joint}
use Rattle.table.specs.Reserve.{held_in, lack_but}
use Rattle.table.specs.WholeImage.{whole_image}
use Rattle.a2m.specs.Call.{Call, append, advance, truncate, lookup, end, log_of, refused, done, found, ended, Effect, effect}
use Rattle.a2m.specs.NewEntry.{new_entry}
use Rattle.a2m.specs.Search.{Found, looked_up}

-- the row of log g, and the entries along its chain
abbrev pub row_in : Image → ℕ → Row
row_in m g = row_at m.rows g

unfoldable pub entries_in : Image → ℕ → List Entry
entries_in m g = entries_of m.slots (chain m.slots (suc g) (row_in m g).first)

-- ---- refusals

-- 7: "a .. nonce, value, digest, receipt .. of another length than its own"
unfoldable pub wrong_length : Call → Bool
wrong_length (append g x) = not (eqb (length x) 32)
wrong_length (advance g n d x) = not (eqb (length d) 32) || not (eqb (length x) 32)
wrong_length (truncate g n) = false
wrong_length (lookup g n c k) = not (eqb (length c) 32) || not (eqb k 160)
wrong_length (end g c k) = not (eqb (length c) 32) || not (eqb k 160)

-- 3: "lookup of 0; advance with n ≤ H; truncate outside L < n ≤ H"
unfoldable pub misplaced : Row → Call → Bool
misplaced r (append g x) = false
misplaced r (advance g n d x) = leb n r.high
misplaced r (truncate g n) = not (ltb r.low n && leb n r.high)
misplaced r (lookup g n c k) = eqb n 0
misplaced r (end g c k) = false

-- 4: "append with H = 2^64 − 1"
unfoldable pub spent : Row → Call → Bool
spent r (append g x) = eqb r.high (2 ^ 64 - 1)
spent r (advance g n d x) = false
spent r (truncate g n) = false
spent r (lookup g n c k) = false
spent r (end g c k) = false

-- 5: "append or advance, and the logs' entries number S": no slot is free
unfoldable pub full : Image → Call → Bool
full m (append g x) = eqb m.free 0
full m (advance g n d x) = eqb m.free 0
full m (truncate g n) = false
full m (lookup g n c k) = false
full m (end g c k) = false

-- request [5]: a put "always gets a slot while its log holds fewer entries than its reserve. Beyond that it gets one exactly if the free slots outnumber what
-- the other logs still lack of their reserves"
unfoldable pub withheld : Image → ℕ → Bool
withheld m g = not (ltb (held_in m.slots g (row_in m g)) (row_in m g).reserve) && leb (length (free_chain m)) (lack_but m g)

-- 16: "append or advance with free slots none of which may be taken"
unfoldable pub promised : Image → Call → Bool
promised m (append g x) = withheld m g
promised m (advance g n d x) = withheld m g
promised m (truncate g n) = false
promised m (lookup g n c k) = false
promised m (end g c k) = false

-- "Order: table calls 7 (receipt output included), 1, 2, 3, 4, 6, 5", without the 6 since document 02, [6]; 16 "tested after 5"; torn
-- tells whether the table is not whole
unfoldable pub faults : Bool → Image → Call → List Fault
faults torn m call =
    fault 7 (wrong_length call) ∷ fault 1 torn ∷ fault 2 (leb (length m.rows) (log_of call)) ∷ fault 3 (misplaced (row_in m (log_of call)) call) ∷
    fault 4 (spent (row_in m (log_of call)) call) ∷
    fault 5 (full m call) ∷ fault 16 (promised m call) ∷ []

unfoldable pub image_refusal : Image → Call → Option ℕ
image_refusal m call = first_fault (faults (not (whole_image m)) m call)

-- ---- append and advance

-- the image with another first free slot, row g and slots
abbrev pub changed : Image → ℕ → ℕ → Row → List Slot → Image
changed m free g r slots = record { keeper = m.keeper; key = m.key; free = free; rows = set m.rows g r; slots = slots }

-- slot t gets new content and stands behind the slot last, if there is one
unfoldable pub joined : List Slot → ℕ → ℕ → Slot → List Slot
joined slots t last x = cond (eqb last 0) (set_slot slots t x) (set_slot (set_slot slots t x) last (with_next (slot_at slots last) t))

-- the first slot of a chain that t joined behind last
abbrev pub first_of : ℕ → ℕ → ℕ → ℕ
first_of last first t = cond (eqb last 0) t first

-- a slot of log g that holds an entry, at its chain's end
abbrev pub held_slot : ℕ → Entry → Slot
held_slot g e = slot_of (suc g) 0 e.position e.value e.digest

-- the entry goes into a free slot, and that behind the log's last
unfoldable pub put : Image → ℕ → Entry → Image
put m g e =
    let row = row_in m g in
    changed m (after_taken m) g (advanced_row row e.position (taken m)) (joined m.slots (taken m) row.last (held_slot g e))

-- "the digest of the entry at the old H (32). On a fresh log the last part is 32 zero bytes": those of slot 0
abbrev pub previous_in : Image → ℕ → List ℕ
previous_in m g = (slot_at m.slots (row_in m g).last).digest

-- ---- truncate

-- the log's first slot becomes free, at the free chain's end
unfoldable pub release : Image → ℕ → Image
release m g =
    let row = row_in m g in
    let s = row.first in
    let last = joint m in
    changed m (first_of last m.free s) g (truncated_row row row.low (slot_at m.slots s).next) (joined m.slots s last (free_slot 0))

-- "Entries below n leave, their slots become free": one by one, by rising position
unfoldable pub releases : ℕ → ℕ → Image → ℕ → Image
releases zero n m g = m
releases (suc k) n m g = let lowest = slot_at m.slots (row_in m g).first in elim (leb n lowest.position) [ true ↦ m | false ↦ releases k n (release m g) g ]

-- "L becomes n"
unfoldable pub lowered : Image → ℕ → ℕ → Image
lowered m g n = changed m m.free g (truncated_row (row_in m g) n (row_in m g).first) m.slots

-- ---- receipts

-- what the receipt of a lookup attests
unfoldable pub lookup_attested : Image → ℕ → ℕ → List ℕ → Found → Attestation
lookup_attested m g n nonce f = record {
  name = LOOKUP;
  kind = f.kind;
  log = g;
  keeper = m.keeper;
  position = n;
  reference = f.reference;
  nonce = nonce;
  value = f.shown.value;
  digest = f.shown.digest;
}

-- document 02, [6]: "kind unassigned" where the log is fresh, so has no last slot; otherwise assigned
unfoldable pub end_kind : ℕ → ℕ
end_kind last = cond (eqb last 0) 0 1

-- "End gives the entry at H", which is in the log's last slot; of a fresh log "position 0, reference 0, value and digest zero", those of slot 0
unfoldable pub end_attested : Image → ℕ → List ℕ → Attestation
end_attested m g nonce = record {
  name = END;
  kind = end_kind (row_in m g).last;
  log = g;
  keeper = m.keeper;
  position = (row_in m g).high;
  reference = (row_in m g).high;
  nonce = nonce;
  value = (slot_at m.slots (row_in m g).last).value;
  digest = (slot_at m.slots (row_in m g).last).digest;
}

-- ---- the calls

-- "An accepted append, advance or truncate answers 0 with the L and H of that row", as it is after; k blocks were hashed
unfoldable pub image_done : ℕ → Image → ℕ → Effect Image
image_done k m g = effect (done (row_in m g).low (row_in m g).high) k m

-- what an accepted call answers, and the table after. Request [2]: "An accepted append or advance reports 2, a format or truncate 0, a lookup or end 6"
unfoldable pub image_accept : Image → Call → Effect Image
image_accept m (append g x) = image_done 2 (put m g (new_entry ((row_in m g).high + 1) x (previous_in m g))) g
image_accept m (advance g n d x) = image_done 2 (put m g (new_entry n x d)) g
image_accept m (truncate g n) = image_done 0 (lowered (releases (length m.slots) n m g) g n) g
image_accept m (lookup g n c k) =
    let f = looked_up (row_in m g) (entries_in m g) n in
    effect (found (receipt_bytes m.key (lookup_attested m g n c f)) f.examined) 6 m
image_accept m (end g c k) = effect (ended (receipt_bytes m.key (end_attested m g c))) 6 m

-- "A refusal changes no lent byte and returns its number alone", with 0 blocks
unfoldable pub image_step : Image → Call → Effect Image
image_step m call = elim (image_refusal m call) [ none ↦ image_accept m call | some k ↦ effect (refused k) 0 m ]
