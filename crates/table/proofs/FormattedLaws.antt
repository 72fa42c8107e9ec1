-- The table that an accepted format writes is whole, reads as the formatted image, and its free chain is 1 to S.
use Prim.Native.Nat.{ℕ, zero, suc, ◌+◌, ◌-◌, ◌^◌, ◌≤◌, ◌<◌}
use mathlib.Core.Path.{◌≡◌, refl, sym, ap, ap₂, ◌∙◌, subst}
use mathlib.Core.List.{List, [], ◌∷◌, map}
use mathlib.Core.Bool.{Bool, true, false, cond}
use mathlib.Core.Option
use mathlib.Core.Option.{Option, none, some}
use native.Mathlib.Nat.{add-zero, sub-zero}
use native.Mathlib.Numerals.{add-one}
use native.Mathlib.Omega.{arith}
use borrow.Author.Tests.{eq-eqb, le-leb}
use lib.Dec.{ltb}
use lib.ListN.{length, get_or, length-append, length-map, get_or-map}
use Rattle.octets.specs.Octets.{zeros}
use Rattle.octets.proofs.Same.{same_refl}
use Rattle.refusal.specs.Order.{afterwards}
use Rattle.layout.specs.Image.{Slot, Image, slot_at, row_at, free_slot, fresh_row}
use Rattle.layout.specs.Layout.{Stock, stocked, read_table, write_with}
use Rattle.layout.specs.Fits.{RowFits, SlotFits, Fits}
use Rattle.layout.proofs.ListLaws.{every-tabulate}
use Rattle.layout.proofs.TableLaws.{fresh-fits}
use Rattle.layout.proofs.CellLaws.{free-fits}
use Rattle.table.specs.Chains.{walk, reaches, chain, last_of}
use Rattle.table.specs.Free.{free_chain, stock_in, write_table, count_up, queued_next, queue}
use Rattle.table.specs.Format.{formatted, format_refusal, format_bytes}
use Rattle.table.specs.Reserve.{sum, lack_from, lack_but, lack_all}
use Rattle.table.specs.WholeImage.{all, free_ok, fresh, row_ok, rows_ok, held_by, meets, linked, whole_image}
use Rattle.layout.specs.Tests.{blank}
use Rattle.table.specs.Whole.{whole}
use Rattle.layout.specs.Fits.{Range}
use Rattle.layout.proofs.TestLaws.{and_yes}
use Rattle.table.proofs.WalkLaws.{reached, slots_met, walk_end, go_on, chain-short, chain-none}
use Rattle.table.proofs.LinkLaws.{chain-within}
use Rattle.table.proofs.LinkedLaws.{length_meets}
use Rattle.table.proofs.FillLaws.{length-queue, get_or-queue, next_queued, none_queued, reserve-fits}
use Rattle.table.proofs.FormatLaws.{format-passes}
use Rattle.table.proofs.ReserveLaws.{lack-in}
use Rattle.table.proofs.WholeLaws.{written-whole, read-write}

-- the queue

module _ (S : ℕ) where
  slot-queued : (n : ℕ) → n < S → slot_at (queue S) (suc n) ≡ free_slot (queued_next S (suc n))
  unfolding slot_at
  slot-queued n h = get_or-queue S n h

  blank-free : (n : ℕ) → blank (free_slot n) ≡ true
  unfolding blank
  blank-free n = and_yes _ (same_refl (zeros 32)) ∙ same_refl (zeros 32)

  -- from slot n + 1 on
  walk-queue : (k n : ℕ) → n + k ≡ S → walk (queue S) 0 (S - n) (queued_next S n) ≡ some (count_up (suc n) k)
  unfolding count_up
  walk-queue zero n e = ap (walk (queue S) 0 (S - n)) (sym (none_queued S n (omega arith))) ∙ walk_end (queue S) 0 (S - n)
  walk-queue (suc k) n e =
      let x = slot-queued n (omega arith) in
      ap (walk (queue S) 0 (S - n)) (sym (next_queued S n (omega arith)) ∙ add-one n)
      ∙ go_on (queue S) 0 S (length-queue S) n (suc n) (λ q. omega arith) (omega arith) (ap (λ (y : Slot). y.owner) x) (omega arith)
      ∙ ap (Option.map (λ (c : List ℕ). suc n ∷ c)) (ap₂ (walk (queue S) 0) (ap (λ (i : ℕ). S - i) (add-one n)) (ap (λ (y : Slot). y.next) x) ∙ walk-queue k (suc n) (omega arith))

  queue-walk : 1 ≤ S → walk (queue S) 0 (length (queue S)) 1 ≡ some (count_up 1 S)
  queue-walk h =
      let l : length (queue S) ≡ S - 0 = omega (arith, length-queue S) in
      ap₂ (walk (queue S) 0) l (next_queued S 0 h) ∙ walk-queue S 0 (omega arith)

  all-blank : (c : List ℕ) → all (λ (s : ℕ). blank (slot_at (queue S) s)) c ≡ true
  unfolding all slot_at queue
  all-blank [] = refl
  all-blank (zero ∷ c) = and_yes _ (blank-free 0) ∙ all-blank c
  all-blank (suc i ∷ c) = and_yes _ (every-tabulate (λ (x : Slot). blank x ≡ true) S (λ j. free_slot (queued_next S (suc j))) (free_slot 0) (blank-free 0) (λ j _. blank-free (queued_next S (suc j))) i) ∙ all-blank c

length-count : (s k : ℕ) → length (count_up s k) ≡ k
unfolding count_up
length-count s zero = refl
length-count s (suc k) = ap suc (length-count (suc s) k)

last-count : (s k : ℕ) → last_of (count_up s (suc k)) ≡ s + k
unfolding count_up last_of
last-count s zero = omega arith
last-count s (suc k) = last-count (suc s) k ∙ omega arith

-- fresh rows

rows-fresh : (slots : List Slot) (g : ℕ) (reserves : List ℕ) → rows_ok slots g (map fresh_row reserves) ≡ true
unfolding rows_ok row_ok fresh
rows-fresh slots g [] = refl
rows-fresh slots g (r ∷ rs) = rows-fresh slots (suc g) rs

held_none : (slots : List Slot) (g : ℕ) (reserves : List ℕ) → length (held_by slots g (map fresh_row reserves)) ≡ 0
unfolding held_by
held_none slots g [] = refl
held_none slots g (r ∷ rs) =
    length-append (chain slots (suc g) 0) (held_by slots (suc g) (map fresh_row rs)) ∙ ap₂ ◌+◌ (ap length (chain-none slots (suc g) 0 refl)) (held_none slots (suc g) rs)

-- they lack their reserves; no log from k on has the number top
lack-fresh : (slots : List Slot) (top k : ℕ) (reserves : List ℕ) → k + length reserves ≤ top → lack_from slots top k (map fresh_row reserves) ≡ sum reserves
unfolding lack_from sum
lack-fresh slots top k [] h = refl
lack-fresh slots top k (r ∷ rs) h =
    let held : length (chain slots (suc k) 0) ≡ 0 = ap length (chain-none slots (suc k) 0 refl) in
    ap₂ ◌+◌ (lack-in slots top k (fresh_row r) (λ e. omega arith) ∙ ap (λ (n : ℕ). r - n) held ∙ sub-zero r) (lack-fresh slots top (suc k) rs (omega arith))

rows_fit : (reserves : List ℕ) → sum reserves ≤ 800 → (g : ℕ) → RowFits (row_at (map fresh_row reserves) g)
rows_fit reserves h g = subst RowFits (sym (get_or-map fresh_row reserves g 0)) (fresh-fits (get_or reserves g 0) (reserve-fits reserves g h))

next_fits : (slots s : ℕ) → s ≤ 800 → queued_next slots s < 256 ^ 2
unfolding queued_next
next_fits slots s h = go (ltb s slots)
  where
    go : (t : Bool) → cond t (suc s) 0 < 256 ^ 2
    go true = omega arith
    go false = omega arith

slots-fit : (slots : ℕ) → slots ≤ 800 → (i : ℕ) → SlotFits (get_or (queue slots) i (free_slot 0))
unfolding queue
slots-fit slots h =
    every-tabulate SlotFits slots (λ i. free_slot (queued_next slots (suc i))) (free_slot 0) (free-fits 0 (omega arith)) (λ i k. free-fits (queued_next slots (suc i)) (next_fits slots (suc i) (omega arith)))

module _ (slots keeper : ℕ) (key reserves : List ℕ) where
  abbrev image : Image
  image = formatted slots keeper key reserves

  -- the free chain is 1 to S
  pub formatted-queue : 1 ≤ slots → free_chain image ≡ count_up 1 slots
  unfolding formatted chain
  formatted-queue h = ap slots_met (queue-walk slots h)

  -- so its number of free slots is S, and the last of them slot S, also where S is 0
  pub formatted-stock : stock_in image ≡ stocked slots slots
  unfolding formatted
  formatted-stock = go slots refl
    where
      go : (n : ℕ) → slots ≡ n → stock_in image ≡ stocked slots slots
      go zero e =
          let l : length (free_chain image) ≡ slots = omega (arith, chain-short (queue slots) 0 1, length-queue slots) in
          let k : last_of (free_chain image) ≡ slots = omega (arith, chain-within (queue slots) 0 1, length-queue slots) in
          ap₂ stocked l k
      go (suc n) e =
          let q = formatted-queue (omega arith) in
          ap₂ stocked (ap length q ∙ length-count 1 slots) (ap last_of q ∙ ap (λ (k : ℕ). last_of (count_up 1 k)) e ∙ last-count 1 n ∙ omega (arith, e))

  pub formatted-bytes : write_with (stocked slots slots) image ≡ write_table image
  unfolding write_table
  formatted-bytes = ap (λ (k : Stock). write_with k image) (sym formatted-stock)

  formatted-reaches : 1 ≤ slots → reaches (queue slots) 0 1 ≡ true
  unfolding reaches
  formatted-reaches h = ap reached (queue-walk slots h)

  pub formatted-linked : 1 ≤ slots → linked image ≡ true
  unfolding free_ok formatted
  formatted-linked h =
      and_yes _ (and_yes _ (and_yes _ (formatted-reaches h) ∙ all-blank slots (free_chain image)) ∙ rows-fresh (queue slots) 0 reserves)
      ∙ eq-eqb (length (meets image)) (length (queue slots))
      (length_meets image ∙ ap₂ ◌+◌ (ap length (formatted-queue h) ∙ length-count 1 slots) (held_none (queue slots) 0 reserves) ∙ add-zero slots ∙ sym (length-queue slots))

  -- no log holds a slot, so together they lack the reserves
  pub formatted-lack : lack_all image ≡ sum reserves
  unfolding formatted lack_all lack_but
  formatted-lack = lack-fresh (queue slots) (length (map fresh_row reserves)) 0 reserves (omega (arith, length-map reserves fresh_row))

  pub formatted-image : 1 ≤ slots → sum reserves ≤ slots → whole_image image ≡ true
  unfolding whole_image
  formatted-image h e =
      and_yes _ (formatted-linked h)
      ∙ le-leb (lack_all image) (length (free_chain image)) (omega (arith, e, formatted-lack, ap length (formatted-queue h), length-count 1 slots))

  module _ (logs : ℕ) (n : length reserves ≡ logs) (r : Range logs slots) (e : sum reserves ≤ slots) (k : keeper < 256 ^ 8) (l : length key ≡ 32) where
    pub formatted-fits : Fits image
    unfolding formatted
    formatted-fits =
        record {
          logs = omega (arith, length-map reserves fresh_row, n, r.logs-most);
          count = omega (arith, length-queue slots, r.slots-most);
          keeper = k;
          free = omega arith;
          key = l;
          rows = rows_fit reserves (omega (arith, e, r.slots-most));
          slots = slots-fit slots r.slots-most;
        }

    formatted-range : Range (length image.rows) (length image.slots)
    unfolding formatted
    formatted-range = subst (λ (g : ℕ). Range g (length (queue slots))) (sym (length-map reserves fresh_row ∙ n)) (subst (Range logs) (sym (length-queue slots)) r)

    -- it reads as it was written
    pub formatted-read : read_table (write_table image) ≡ image
    formatted-read = read-write image formatted-fits

    -- and is whole
    pub formatted-whole : whole (write_table image) ≡ true
    formatted-whole = written-whole image formatted-fits formatted-range ∙ formatted-image r.slots-least e

  -- so the buffer of an accepted format is whole, and says the formatted image
  pub format-whole : (b : List ℕ) (logs : ℕ) → keeper < 256 ^ 8 → format_refusal (length b) logs slots (length key) reserves ≡ none
      → (whole (format_bytes b logs slots keeper key reserves) ≡ true) × (read_table (format_bytes b logs slots keeper key reserves) ≡ image)
  unfolding format_bytes afterwards
  format-whole b logs k e =
      let p = format-passes (length b) logs slots (length key) reserves e in
      let w : format_bytes b logs slots keeper key reserves ≡ write_table image = ap (λ (o : Option ℕ). afterwards o (write_table image) b) e in
      (ap whole w ∙ formatted-whole logs p.reserved p.counts p.together k p.key, ap read_table w ∙ formatted-read logs p.reserved p.counts p.together k p.key)
