-- Document 01's five calls on A2MT bytes, which the keepers on the bank carry out, and its format. With the present calls they share the types, the calls on images
-- and the order of tests; what differs is the layout, the test of wholeness, 6 for an empty list, and that a skipped receipt shows zero bytes.
use Rattle.std.specs.Prelude.{ℕ, List, [], ◌∷◌, Bool, false, cond, not, length, replicate, eqb, leb}
use Rattle.std.proofs.Math.Option.{none, some}
use Rattle.octets.specs.Octets.{Bytes}
use Rattle.refusal.specs.Order.{Fault, fault, first_fault}
use Rattle.receipt.specs.Attestation.{receipt_bytes}
use Rattle.layout.specs.declared.Row.{Row}
use Rattle.layout.specs.Image.{Image, blank_entry}
use Rattle.layout.specs.Layout01.{read01, write01}
use Rattle.table.specs.Format.{formatted}
use Rattle.table.specs.Whole01.{whole01}
use Rattle.a2m.specs.Call.{Call, append, advance, truncate, lookup, end, log_of, refused, found, Effect, effect}
use Rattle.a2m.specs.Search.{Found, looked_up}
use Rattle.a2m.specs.ImageCalls.{row_in, entries_in, wrong_length, misplaced, spent, full, lookup_attested, image_accept}

-- "An accepted format writes the whole table of the given G, S, keeper number and key": rows without reserves
abbrev pub format01 : ℕ → ℕ → ℕ → List ℕ → List ℕ
format01 G S keeper key = write01 (formatted S keeper key (replicate G 0))

-- 6: "end of a fresh log", which has no last slot
unfoldable pub nothing_held01 : Row → Call → Bool
nothing_held01 r (append g x) = false
nothing_held01 r (advance g n d x) = false
nothing_held01 r (truncate g n) = false
nothing_held01 r (lookup g n c k) = false
nothing_held01 r (end g c k) = eqb r.last 0

-- "Order: table calls 7 (receipt output included), 1, 2, 3, 4, 6, 5"
unfoldable pub faults01 : Bool → Image → Call → List Fault
faults01 torn m call =
    fault 7 (wrong_length call) ∷ fault 1 torn ∷ fault 2 (leb (length m.rows) (log_of call)) ∷ fault 3 (misplaced (row_in m (log_of call)) call) ∷
    fault 4 (spent (row_in m (log_of call)) call) ∷ fault 6 (nothing_held01 (row_in m (log_of call)) call) ∷ fault 5 (full m call) ∷ []

-- "Value and digest are the entry's when assigned, otherwise zero bytes."
unfoldable pub shown01 : Found → Found
shown01 f = record { kind = f.kind; reference = f.reference; shown = cond (eqb f.kind 1) f.shown blank_entry; examined = f.examined }

-- an accepted call: a lookup shows no entry that jumped a gap; the others are as now
unfoldable pub accept01 : Image → Call → Effect Image
accept01 m (append g x) = image_accept m (append g x)
accept01 m (advance g n d x) = image_accept m (advance g n d x)
accept01 m (truncate g n) = image_accept m (truncate g n)
accept01 m (lookup g n c k) =
    let f = shown01 (looked_up (row_in m g) (entries_in m g) n) in
    effect (found (receipt_bytes m.key (lookup_attested m g n c f)) f.examined) 6 m
accept01 m (end g c k) = image_accept m (end g c k)

-- the call on bytes
unfoldable pub step01 : List ℕ → Call → Effect (List ℕ)
step01 b call =
    elim (first_fault (faults01 (not (whole01 b)) (read01 b) call)) [
      | none ↦ let o = accept01 (read01 b) call in effect o.reply o.blocks (write01 o.state)
      | some k ↦ effect (refused k) 0 b
    ]

-- what whoever calls is taken to give: the value that is put is a list of bytes
abbrev pub GivesBytes : Call → Type 0
GivesBytes (append g x) = Bytes x
GivesBytes (advance g n d x) = Bytes x
GivesBytes (truncate g n) = Unit {0}
GivesBytes (lookup g n c k) = Unit {0}
GivesBytes (end g c k) = Unit {0}

abbrev pub AllGiveBytes : List Call → Type 0
AllGiveBytes [] = Unit {0}
AllGiveBytes (c ∷ cs) = GivesBytes c × AllGiveBytes cs
