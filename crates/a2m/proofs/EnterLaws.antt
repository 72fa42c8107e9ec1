-- What an entering entry writes, write by write: in the end the bytes are those of `put`.
use Prim.Native.Nat.{ℕ, suc, ◌+◌, ◌-◌, ◌^◌, ◌≤◌, ◌<◌}
use mathlib.Core.Path.{◌≡◌, refl, sym, ap, ap₂, subst, ◌∙◌}
use mathlib.Core.Logic.{◌≢◌}
use mathlib.Core.List.{List, [], ◌∷◌}
use mathlib.Core.Bool.{Bool, true, false, cond}
use native.Mathlib.Omega.{arith}
use native.Mathlib.Numerals.{add-one}
use lib.ListN.{length, set}
use lib.Dec.{eqb}
use borrow.Author.Tests.{eqb-false, eq-eqb, ne_eqb}
use Rattle.octets.specs.Octets.{Bytes}
use Rattle.layout.specs.declared.Row.{Row}
use Rattle.layout.specs.declared.Link.{Link}
use Rattle.layout.specs.Image.{Slot, Image, slot_at, set_slot}
use Rattle.layout.specs.Layout.{Stock, stocked, header_size, read_table, stock_of, write_with, put_slot, put_next, put_row, put_free, put_count, put_last}
use Rattle.layout.specs.Changes.{with_row, with_slot, with_free, with_next, slot_of, link_of, advanced_row}
use Rattle.layout.specs.Fits.{RowFits, SlotFits}
use Rattle.layout.proofs.TableLaws.{length-rows}
use Rattle.layout.proofs.HoldsLaws.{Holds, holds-counted, holds_row, holds-slot, holds-next, holds-free, holds-count, holds-last}
use Rattle.table.specs.Chains.{chain, last_of}
use Rattle.table.specs.Free.{free_chain, joint, write_table}
use Rattle.a2m.specs.declared.View.{View}
use Rattle.a2m.specs.ImageCalls.{row_in, entries_in, joined, put}
use Rattle.a2m.specs.Opened.{Opened, hooked, last_after, entry_at}
use Rattle.table.proofs.Links.{slot_at-other, chain_links}
use Rattle.table.specs.Conditions.{Links}
use Rattle.a2m.proofs.Moves.{hook-apart}
use Rattle.a2m.proofs.Chained.{Chained, put-move, put-chained}
use Rattle.a2m.proofs.FitsAfter.{slot-fits, first_fits}
use Rattle.a2m.proofs.OpenedLaws.{view-row, view-free, view-count, view-last, opened-holds, opened-chained, opened-log, free-most, last-free-most, last-most, chain-cons}

-- slot t is the next of slot last, if there is one
abbrev pub hooked_slots : List Slot → ℕ → ℕ → List Slot
hooked_slots slots last t = cond (eqb last 0) slots (set_slot slots last (with_next (slot_at slots last) t))

abbrev with_slots : Image → List Slot → Image
with_slots m slots = record { keeper = m.keeper; key = m.key; free = m.free; rows = m.rows; slots = slots }

holds-hooked : (b a : List ℕ) (k : Stock) (m : Image) (logs slots last t : ℕ) → Holds b k m logs slots → a ≡ hooked b last t → last ≤ slots → t ≤ slots → Holds a k (with_slots m (hooked_slots m.slots last t)) logs slots
unfolding hooked
holds-hooked b a st m logs slots last t h e l k = go (eqb last 0) refl
  where
    most : slots ≤ 800
    most = h.slots-most

    go : (z : Bool) → eqb last 0 ≡ z → Holds a st (with_slots m (hooked_slots m.slots last t)) logs slots
    go true z =
        let q : a ≡ b = rw (hooked, z) at e in
        rw z (subst (λ (x : List ℕ). Holds x st m logs slots) (sym q) h)
    go false z =
        let q : a ≡ put_next b last t = rw (hooked, z) at e in
        let n : last ≢ 0 = eqb-false last 0 z in
        rw z (holds-next b st m logs slots h a last t q (omega arith) l (omega arith))

hooked-joined : (slots : List Slot) (t last : ℕ) (x : Slot) → last ≢ t → hooked_slots (set_slot slots t x) last t ≡ joined slots t last x
unfolding joined
hooked-joined slots t last x n = go (eqb last 0)
  where
    go : (z : Bool) → cond z (set_slot slots t x) (set_slot (set_slot slots t x) last (with_next (slot_at (set_slot slots t x) last) t)) ≡ cond z (set_slot slots t x) (set_slot (set_slot slots t x) last (with_next (slot_at slots last) t))
    go true = refl
    go false = ap (λ (y : Slot). set_slot (set_slot slots t x) last (with_next y t)) (slot_at-other slots last t x n)

-- what holds as an entry enters log v.log of the table b: its value and digest, and the row after it
pub record Entering (b : List ℕ) (v : View) (after : Row) (x d : List ℕ) : Type 0 where
  pub opened : Opened b v
  pub bytes : Bytes b
  pub free : 1 ≤ v.free
  pub rowed : after ≡ advanced_row v.row after.high v.free
  pub high : after.high < 2 ^ 64
  pub value : length x ≡ 32
  pub digest : length d ≡ 32

module _ {b : List ℕ} {v : View} {after : Row} {x d : List ℕ} (E : Entering b v after x d) where
  o : Opened b v
  o = E.opened

  abbrev slot : Slot
  slot = slot_of (v.log + 1) 0 after.high x d

  pub slot-good : SlotFits (slot_of (v.log + 1) 0 after.high x d)
  slot-good = let h = opened-holds b v o E.bytes in let l = opened-log b v o in let m = h.logs-most in record { owner = omega arith; next = omega arith; position = E.high; value = E.value; digest = E.digest }

  pub row-good : RowFits after
  unfolding advanced_row
  row-good =
      let h = opened-holds b v o E.bytes in
      let r : RowFits v.row = subst RowFits (sym (view-row b v o)) (h.fits.rows v.log) in
      let f : v.free < 256 ^ 2 = let p = free-most b v o in let q = h.slots-most in omega arith in
      subst RowFits (sym E.rowed) (record { low = r.low; high = E.high; first = first_fits v.row.last v.row.first v.free r.first f; last = f; reserve = r.reserve })

  pub next-good : {l : Link} → l ≡ link_of (slot_at (read_table b).slots v.free) → l.next < 65536
  next-good {l} e = let h = opened-holds b v o E.bytes in let q = (slot-fits (read_table b).slots h.fits.slots v.free).next in omega (arith, ap (λ (y : Link). y.next) e)

  -- after each write
  pub held-1 : {b₁ : List ℕ} → b₁ ≡ put_slot b v.free slot → Holds b₁ (stock_of b) (with_slot (read_table b) v.free slot) v.counts.logs v.counts.slots
  held-1 {b₁} e = holds-slot b (stock_of b) (read_table b) v.counts.logs v.counts.slots (opened-holds b v o E.bytes) b₁ v.free slot e E.free (free-most b v o) slot-good

  -- the free chain begins with the slot that is taken
  rest : (q : List ℕ) × (free_chain (read_table b) ≡ (read_table b).free ∷ q)
  rest = let m = read_table b in chain-cons m.slots 0 m.free (free_chain m) (omega (arith, view-free b v o)) (opened-chained b v o).free

  before : Chained (read_table b) v.log (chain (read_table b).slots (suc v.log) (row_in (read_table b) v.log).first) (entries_in (read_table b) v.log) ((read_table b).free ∷ rest.0)
  before =
      let m = read_table b in
      let h = opened-chained b v o in
      record { log = h.log; last = h.last; free = subst (λ (c : List ℕ). Links m.slots 0 m.free c 0) rest.1 h.free }

  apart : v.row.last ≢ v.free
  apart e = hook-apart _ _ _ _ _ _ _ _ _ (put-move (read_table b) v.log _ _ rest.0 before (entry_at 0 [] [])) (sym (ap (λ (r : Row). r.last) (view-row b v o)) ∙ e ∙ view-free b v o)

  pub some-free : 1 ≤ v.count
  some-free = omega (arith, view-count b v o, ap length rest.1)

  pub held-2 : {b₁ b₂ : List ℕ} → b₁ ≡ put_slot b v.free slot → b₂ ≡ hooked b₁ v.row.last v.free → Holds b₂ (stock_of b) (with_slots (read_table b) (joined (read_table b).slots v.free v.row.last slot)) v.counts.logs v.counts.slots
  held-2 {b₁} {b₂} e₁ e₂ =
      subst (λ (l : List Slot). Holds b₂ (stock_of b) (with_slots (read_table b) l) v.counts.logs v.counts.slots) (hooked-joined (read_table b).slots v.free v.row.last slot apart)
      (holds-hooked b₁ b₂ (stock_of b) (with_slot (read_table b) v.free slot) v.counts.logs v.counts.slots v.row.last v.free (held-1 e₁) e₂ (last-most b v o) (free-most b v o))

  pub held-3 : {b₁ b₂ b₃ : List ℕ} → b₁ ≡ put_slot b v.free slot → b₂ ≡ hooked b₁ v.row.last v.free → b₃ ≡ put_row b₂ v.log after
      → Holds b₃ (stock_of b) (with_row (with_slots (read_table b) (joined (read_table b).slots v.free v.row.last slot)) v.log after) v.counts.logs v.counts.slots
  held-3 {b₁} {b₂} {b₃} e₁ e₂ e₃ = holds_row b₂ (stock_of b) _ v.counts.logs v.counts.slots (held-2 e₁ e₂) b₃ v.log after e₃ (opened-log b v o) row-good

  -- the image after all of them
  is-put : (n : ℕ) → n ≡ (slot_at (read_table b).slots v.free).next
      → with_free (with_row (with_slots (read_table b) (joined (read_table b).slots v.free v.row.last slot)) v.log after) n ≡ put (read_table b) v.log (entry_at after.high x d)
  unfolding put
  is-put n e =
      let m = read_table b in
      let rf = view-free b v o in
      let rr = view-row b v o in
      λ i. record {
        keeper = m.keeper;
        key = m.key;
        free = (e ∙ ap (λ (s : ℕ). (slot_at m.slots s).next) rf) i;
        rows = ap (set m.rows v.log) (E.rowed ∙ ap₂ (λ (r : Row) (s : ℕ). advanced_row r after.high s) rr rf) i;
        slots = (ap₂ (λ (s l : ℕ). joined m.slots s l slot) rf (ap (λ (r : Row). r.last) rr) ∙ ap (λ (k : ℕ). joined m.slots m.free (row_in m v.log).last (slot_of k 0 after.high x d)) (add-one v.log)) i;
      }

  pub held-4 : {b₁ b₂ b₃ b₄ : List ℕ} {l : Link} → l ≡ link_of (slot_at (read_table b).slots v.free) → b₁ ≡ put_slot b v.free slot → b₂ ≡ hooked b₁ v.row.last v.free → b₃ ≡ put_row b₂ v.log after → b₄ ≡ put_free b₃ l.next
      → Holds b₄ (stock_of b) (put (read_table b) v.log (entry_at after.high x d)) v.counts.logs v.counts.slots
  held-4 {b₁} {b₂} {b₃} {b₄} {l} el e₁ e₂ e₃ e₄ =
      subst (λ (m : Image). Holds b₄ (stock_of b) m v.counts.logs v.counts.slots) (is-put l.next (ap (λ (y : Link). y.next) el))
      (holds-free b₃ (stock_of b) _ v.counts.logs v.counts.slots (held-3 e₁ e₂ e₃) b₄ l.next e₄ (next-good el))

  pub held-5 : {b₁ b₂ b₃ b₄ b₅ : List ℕ} {l : Link} → l ≡ link_of (slot_at (read_table b).slots v.free) → b₁ ≡ put_slot b v.free slot → b₂ ≡ hooked b₁ v.row.last v.free → b₃ ≡ put_row b₂ v.log after → b₄ ≡ put_free b₃ l.next
      → b₅ ≡ put_count b₄ (v.count - 1) → Holds b₅ (stocked (v.count - 1) (stock_of b).last) (put (read_table b) v.log (entry_at after.high x d)) v.counts.logs v.counts.slots
  held-5 {b₁} {b₂} {b₃} {b₄} {b₅} {l} el e₁ e₂ e₃ e₄ e₅ =
      holds-count b₄ (stock_of b) _ v.counts.logs v.counts.slots (held-4 el e₁ e₂ e₃ e₄) b₅ (v.count - 1) e₅

  -- the free chain without its first slot
  fewer : free_chain (put (read_table b) v.log (entry_at after.high x d)) ≡ rest.0
  fewer =
      let m = read_table b in
      let e = entry_at after.high x d in
      let c = put-chained m v.log _ _ rest.0 before (omega (arith, o.log, length-rows b)) e in
      chain_links (put m v.log e).slots 0 (put m v.log e).free rest.0 c.free

  -- its last slot
  last-left : (n : ℕ) → n ≡ (slot_at (read_table b).slots v.free).next → last_after n v.last ≡ last_of rest.0
  unfolding last_after last_of
  last-left n e =
      let m = read_table b in
      let from : n ≡ (slot_at m.slots m.free).next = e ∙ ap (λ (s : ℕ). (slot_at m.slots s).next) (view-free b v o) in
      go rest.0 from (view-last b v o ∙ ap last_of rest.1) before.free.4
    where
      go : (q : List ℕ) → n ≡ (slot_at (read_table b).slots (read_table b).free).next → v.last ≡ last_of ((read_table b).free ∷ q) → Links (read_table b).slots 0 (slot_at (read_table b).slots (read_table b).free).next q 0 → cond (eqb n 0) 0 v.last ≡ last_of q
      go [] f k h = ap (λ (z : Bool). cond z 0 v.last) (eq-eqb n 0 (f ∙ h))
      go (t ∷ q) f k h =
          let p = h.1 in
          let z : n ≡ t = f ∙ h.0 in
          ap (λ (z : Bool). cond z 0 v.last) (ne_eqb n 0 (λ (y : n ≡ 0). omega arith)) ∙ k

  pub last-most-after : (n : ℕ) → last_after n v.last ≤ v.counts.slots
  unfolding last_after
  last-most-after n = go (eqb n 0)
    where
      go : (z : Bool) → cond z 0 v.last ≤ v.counts.slots
      go true = omega arith
      go false = last-free-most b v o

  pub entered : {b₁ b₂ b₃ b₄ b₅ b₆ : List ℕ} {l : Link} {k : ℕ} → l ≡ link_of (slot_at (read_table b).slots v.free) → b₁ ≡ put_slot b v.free slot → b₂ ≡ hooked b₁ v.row.last v.free → b₃ ≡ put_row b₂ v.log after → b₄ ≡ put_free b₃ l.next
      → b₅ ≡ put_count b₄ (v.count - 1) → k ≡ last_after l.next v.last → b₆ ≡ put_last b₅ k → b₆ ≡ write_table (put (read_table b) v.log (entry_at after.high x d))
  unfolding write_table
  entered {b₁} {b₂} {b₃} {b₄} {b₅} {b₆} {l} {k} el e₁ e₂ e₃ e₄ e₅ ek e₆ =
      let m = put (read_table b) v.log (entry_at after.high x d) in
      let number : v.count - 1 ≡ length (free_chain m) = omega (arith, view-count b v o, ap length rest.1, ap length fewer) in
      let last : k ≡ joint m = ek ∙ last-left l.next (ap (λ (y : Link). y.next) el) ∙ sym (ap last_of fewer) in
      (holds-last b₅ _ m v.counts.logs v.counts.slots (held-5 el e₁ e₂ e₃ e₄ e₅) b₆ k e₆).is ∙ ap₂ (λ (n t : ℕ). write_with (stocked n t) m) number last

-- ---- what the code hooks, and the answer

pub hooks : (b a : List ℕ) (last t : ℕ) → last ≢ 0 → a ≡ put_next b last t → a ≡ hooked b last t
unfolding hooked
hooks b a last t n e = rw (hooked, ne_eqb last 0 n) e

pub no_hook : (b : List ℕ) (last t : ℕ) → last ≡ 0 → b ≡ hooked b last t
unfolding hooked
no_hook b last t e = rw (hooked, eq-eqb last 0 e)

-- the last free slot, as the code chooses it
pub none_left : (n last : ℕ) → n ≡ 0 → 0 ≡ last_after n last
unfolding last_after
none_left n last e = sym (ap (λ (z : Bool). cond z 0 last) (eq-eqb n 0 e))

pub some_left : (n last : ℕ) → n ≢ 0 → last ≡ last_after n last
unfolding last_after
some_left n last e = sym (ap (λ (z : Bool). cond z 0 last) (ne_eqb n 0 e))

pub held-long : (b : List ℕ) (k : Stock) (m : Image) (logs slots : ℕ) → Holds b k m logs slots → header_size ≤ length b
held-long b k m logs slots h = let c = holds-counted b k m logs slots h in omega (arith, c.sized)

pub entered-low : (v : View) (after : Row) → after ≡ advanced_row v.row after.high v.free → after.low ≡ v.row.low
unfolding advanced_row
entered-low v after e = ap (λ (r : Row). r.low) e
