-- The reference model of the table calls: document 01's plain book, "fed the arguments of an accepted format (G, S, keeper number, key), then each
-- call's arguments .., never a table or an answer"; of request [5] it has the reserves, a log for each, and a count of its own of what logs lack. With the
-- calls on images it shares the types of calls, answers and entries, the digest rule and the receipt bytes; its refusals, lookups and truncation are its own.
use Rattle.std.specs.Prelude.{ℕ, zero, suc, ◌+◌, ◌-◌, ◌^◌, List, [], ◌∷◌, map, Bool, true, false, cond, not, ◌||◌, length, get_or, set, eqb, leb, ltb}
use Rattle.std.proofs.Math.Option.{Option, none, some}
use Rattle.layout.specs.Image.{Entry, blank_entry}
use Rattle.receipt.specs.Attestation.{LOOKUP, END, receipt_bytes}
use Rattle.a2m.specs.Call.{Call, append, advance, truncate, lookup, end, Reply, refused, done, found, ended, Effect, effect}
use Rattle.a2m.specs.NewEntry.{new_entry}
use Rattle.model.specs.Log.{Log, fresh_log, lack, last_entry, entered, cut_at, Standing, unassigned, forgotten, assigned, skipped, standing, kind_of, reference_of, examined_for}

-- slots S, keeper number, key; the logs
pub record Model : Type 0 where
  pub size : ℕ
  pub keeper : ℕ
  pub key : List ℕ
  pub logs : List Log

-- the model of an accepted format: a fresh log for each reserve, over S slots
abbrev pub new_model : ℕ → ℕ → List ℕ → List ℕ → Model
new_model S keeper key reserves = record { size = S; keeper = keeper; key = key; logs = map fresh_log reserves }

abbrev pub log_at : List Log → ℕ → Log
log_at logs g = get_or logs g (fresh_log 0)

abbrev pub with_log : Model → ℕ → Log → Model
with_log b g l = record { size = b.size; keeper = b.keeper; key = b.key; logs = set b.logs g l }

-- the entries of all lists together
unfoldable pub total : List Log → ℕ
total [] = 0
total (l ∷ ls) = length l.entries + total ls

-- what all logs lack of their reserves, and what all but log g lack
unfoldable pub lacks : List Log → ℕ
lacks [] = 0
lacks (l ∷ ls) = lack l + lacks ls

unfoldable pub lacks_but : ℕ → List Log → ℕ
lacks_but g [] = 0
lacks_but zero (l ∷ ls) = lacks ls
lacks_but (suc g) (l ∷ ls) = lack l + lacks_but g ls

unfoldable pub is_nil {ℓ} : {A : Type ℓ} → List A → Bool
is_nil [] = true
is_nil (x ∷ xs) = false

-- ---- rules that later requests change

pub record Rules : Type 0 where
  -- what a skipped receipt shows, given the entry at its reference
  pub gap : Entry → Entry
  -- the number that an append or advance on a log gets where there is no slot for it
  pub no_slot : Model → ℕ → Option ℕ
  -- the number that an end of an empty list gets, if any
  pub empty_end : Option ℕ

-- document 01's, which stay: "Value and digest are the entry's when assigned, otherwise zero bytes"; "6 by an empty list, 5 when all lists together have S
-- entries"
unfoldable pub rules01 : Rules
rules01 = record { gap = λ e. blank_entry; no_slot = λ b g. cond (eqb (total b.logs) b.size) (some 5) none; empty_end = some 6 }

-- request [5]: 5 as before; "always gets a slot while its log holds fewer entries than its reserve. Beyond that it gets one exactly if the free slots
-- outnumber what the other logs still lack of their reserves", otherwise 16
unfoldable pub slot_rule : Model → ℕ → Option ℕ
slot_rule b g =
    let l = log_at b.logs g in
    cond (eqb (total b.logs) b.size) (some 5)
    (cond (ltb (length l.entries) l.reserve) none
    (cond (leb (b.size - total b.logs) (lacks_but g b.logs)) (some 16) none))

-- the present ones, which the calls on images and tables go by. Document 02, [3]: "A skipped receipt now carries the value and digest of the entry at its
-- reference"; [6]: "End on a fresh log now gives an END receipt"
unfoldable pub rules : Rules
rules = record { gap = λ e. e; no_slot = slot_rule; empty_end = none }

-- ---- refusals

abbrev pub not32 : List ℕ → Bool
not32 x = not (eqb (length x) 32)

abbrev pub no_log : Model → ℕ → Bool
no_log b g = leb (length b.logs) g

-- the number k if the fault is found, otherwise what is left to test
abbrev pub refuse : ℕ → Bool → Option ℕ → Option ℕ
refuse k fault rest = cond fault (some k) rest

-- "A call is refused with the first number that fits .. 7 by the lengths, 2 by G, 3 and 4 by the log's L and H, 6 by an empty list, 5 when all lists
-- together have S entries. 1 never occurs."
unfoldable pub model_refusal : Rules → Model → Call → Option ℕ
model_refusal ru b (append g x) = refuse 7 (not32 x) (refuse 2 (no_log b g) (refuse 4 (eqb (log_at b.logs g).high (2 ^ 64 - 1)) (ru.no_slot b g)))
model_refusal ru b (advance g n d x) = refuse 7 (not32 d || not32 x) (refuse 2 (no_log b g) (refuse 3 (leb n (log_at b.logs g).high) (ru.no_slot b g)))
model_refusal ru b (truncate g n) = let l = log_at b.logs g in refuse 2 (no_log b g) (refuse 3 (leb n l.low || ltb l.high n) none)
model_refusal ru b (lookup g n c k) = refuse 7 (not32 c || not (eqb k 160)) (refuse 2 (no_log b g) (refuse 3 (eqb n 0) none))
model_refusal ru b (end g c k) =
    refuse 7 (not32 c || not (eqb k 160)) (refuse 2 (no_log b g) (cond (is_nil (log_at b.logs g).entries) ru.empty_end none))

-- ---- receipts

-- "from the book's L, H and list, the call's nonce, and the format's keeper number and key"
unfoldable pub model_receipt : Model → List ℕ → ℕ → ℕ → ℕ → ℕ → List ℕ → Entry → List ℕ
model_receipt b name kind g n reference nonce e = receipt_bytes b.key (record {
  name = name;
  kind = kind;
  log = g;
  keeper = b.keeper;
  position = n;
  reference = reference;
  nonce = nonce;
  value = e.value;
  digest = e.digest;
})

-- the entry whose value and digest a lookup's receipt shows
unfoldable pub shown_for : Rules → Standing → Entry
shown_for ru unassigned = blank_entry
shown_for ru forgotten = blank_entry
shown_for ru (assigned e) = e
shown_for ru (skipped e) = ru.gap e

unfoldable pub model_lookup : Rules → Model → ℕ → ℕ → List ℕ → Log → Standing → Reply
model_lookup ru b g n nonce l s =
    found (model_receipt b LOOKUP (kind_of s) g n (reference_of l s) nonce (shown_for ru s)) (examined_for l n s)

-- "End gives the entry at H", the list's last. An empty list has none; document 02, [6]: "kind unassigned, position 0, reference 0, value and digest zero"
unfoldable pub model_end : Model → ℕ → List ℕ → List Entry → Reply
model_end b g nonce es =
    ended (model_receipt b END (cond (is_nil es) 0 1) g (last_entry es).position (last_entry es).position nonce (last_entry es))

-- ---- the calls

-- "An accepted append, advance or truncate answers 0 with the log's L and H after it." k blocks were hashed
unfoldable pub model_done : ℕ → Model → ℕ → Log → Effect Model
model_done k b g l = effect (done l.low l.high) k (with_log b g l)

-- "Lookup and end change nothing". Request [2]: "An accepted append or advance reports 2, a format or truncate 0, a lookup or end 6"
unfoldable pub model_accept : Rules → Model → Call → Effect Model
model_accept ru b (append g x) =
    let l = log_at b.logs g in model_done 2 b g (entered l (new_entry (suc l.high) x (last_entry l.entries).digest))
model_accept ru b (advance g n d x) = model_done 2 b g (entered (log_at b.logs g) (new_entry n x d))
model_accept ru b (truncate g n) = model_done 0 b g (cut_at n (log_at b.logs g))
model_accept ru b (lookup g n c k) = let l = log_at b.logs g in effect (model_lookup ru b g n c l (standing l n)) 6 b
model_accept ru b (end g c k) = effect (model_end b g c (log_at b.logs g).entries) 6 b

-- a refused call: "The book stays as it was."
unfoldable pub model_step : Rules → Model → Call → Effect Model
model_step ru b call = elim (model_refusal ru b call) [ none ↦ model_accept ru b call | some k ↦ effect (refused k) 0 b ]
