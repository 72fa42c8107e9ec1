-- What truncate writes, write by write. The log's chain joins the free chain, its slots become free one by one, and the free chain is
-- cut behind the last of them: the bytes are then those of `releases`, whose slots go over one by one.
use Prim.Native.Nat.{ℕ, zero, suc, ◌+◌, ◌≤◌, ◌<◌, ◌^◌}
use mathlib.Core.Path.{◌≡◌, refl, sym, ap, ap₂, subst, ◌∙◌}
use mathlib.Core.Logic.{◌⊎◌, inl, inr, ◌≢◌}
use mathlib.Core.List.{List, [], ◌∷◌, ◌++◌, map}
use mathlib.Core.Bool.{Bool, true, false, cond}
use native.Mathlib.Omega.{arith}
use lib.ListN.{length, set, length-set, length-append}
use lib.Seq.{get_or-set_same, set-get_or, set-set, set_comm}
use lib.Dec.{eqb, leb}
use borrow.Author.Tests.{eqb-true, eqb-false, eq-eqb, ne_eqb}
use Rattle.octets.specs.Octets.{Bytes, zeros}
use Rattle.layout.specs.declared.Row.{Row}
use Rattle.layout.specs.declared.Link.{Link}
use Rattle.layout.specs.Image.{Entry, Slot, Image, entry_of, free_slot, fresh_row, slot_at, set_slot}
use Rattle.layout.specs.Layout.{Stock, stocked, read_table, stock_of, write_with, put_slot, put_next, put_row, put_free, put_count, put_last}
use Rattle.layout.specs.Changes.{with_row, with_slot, with_next, slot_of, link_of, truncated_row}
use Rattle.layout.specs.Fits.{RowFits, SlotFits}
use Rattle.layout.proofs.TableLaws.{length-rows}
use Rattle.layout.proofs.CellLaws.{free-fits}
use Rattle.layout.proofs.HoldsLaws.{Holds, holds-image, holds_row, holds-slot, holds-next, holds-free, holds-count, holds-last}
use Rattle.table.proofs.ReserveLaws.{whole-linked}
use Rattle.table.specs.Chains.{chain, last_of, positions_of, entries_of}
use Rattle.table.specs.Free.{free_chain, joint, stock_in, write_table}
use Rattle.a2m.specs.declared.View.{View}
use Rattle.a2m.specs.ImageCalls.{row_in, entries_in, first_of, joined, release, releases, lowered}
use Rattle.a2m.specs.Opened.{Opened, joined_at}
use Rattle.table.proofs.Lists.{In, in-last, last_of_snoc}
use Rattle.table.proofs.Links.{links-in, links-fit, links-frame, chain_links, slot_at-same, slot_at-other, length-set_slot}
use Rattle.table.specs.Conditions.{Links}
use Rattle.a2m.proofs.Moves.{joined_at_lem}
use Rattle.a2m.proofs.Chained.{Chained, joint-is, release-chained}
use Rattle.a2m.proofs.Releases.{releases-stop, releases-go}
use Rattle.table.proofs.WholeLaws.{whole-image}
use Rattle.a2m.proofs.WholeChains.{log-chain}
use Rattle.a2m.proofs.EnterLaws.{hooked_slots}
use Rattle.a2m.proofs.OpenedLaws.{view-row, view-count, view-last, slots_length, opened-holds, opened-chained, opened-log, first-most, last-free-most, first-within, last_within}

-- ---- slots set again

set-again : (slots : List Slot) (t : ℕ) (x y : Slot) → set_slot (set_slot slots t x) t y ≡ set_slot slots t y
unfolding set_slot
set-again slots zero x y = refl
set-again slots (suc i) x y = set-set slots i x y

set-swap : (slots : List Slot) (s t : ℕ) (x y : Slot) → s ≢ t → set_slot (set_slot slots s x) t y ≡ set_slot (set_slot slots t y) s x
unfolding set_slot
set-swap slots zero t x y n = refl
set-swap slots (suc i) zero x y n = refl
set-swap slots (suc i) (suc j) x y n = set_comm slots i j x y (λ (e : i ≡ j). n (ap suc e))

set_same : (slots : List Slot) (t : ℕ) → set_slot slots t (slot_at slots t) ≡ slots
unfolding set_slot slot_at
set_same slots zero = refl
set_same slots (suc i) = set-get_or slots i (free_slot 0)

-- ---- a chain goes on behind its last slot

hooked-other : (slots : List Slot) (last t s : ℕ) → s ≢ last → slot_at (hooked_slots slots last t) s ≡ slot_at slots s
hooked-other slots last t s n = go (eqb last 0)
  where
    go : (z : Bool) → slot_at (cond z slots (set_slot slots last (with_next (slot_at slots last) t))) s ≡ slot_at slots s
    go true = refl
    go false = slot_at-other slots s last (with_next (slot_at slots last) t) n

length-hooked : (slots : List Slot) (last t : ℕ) → length (hooked_slots slots last t) ≡ length slots
length-hooked slots last t = go (eqb last 0)
  where
    go : (z : Bool) → length (cond z slots (set_slot slots last (with_next (slot_at slots last) t))) ≡ length slots
    go true = refl
    go false = length-set_slot slots last (with_next (slot_at slots last) t)

-- the slot that the chain goes on at becomes free, and keeps its next
hooked-freed : (slots : List Slot) (last s n : ℕ) → 1 ≤ s → s ≤ length slots → last ≤ length slots → last ≢ s
    → set_slot (hooked_slots slots last s) s (free_slot n) ≡ hooked_slots (joined slots s last (free_slot 0)) s n
unfolding joined
hooked-freed slots last s n s1 s_s l_s apart =
    go (eqb last 0)
    ∙ ap (λ (x : Slot). set_slot (joined slots s last (free_slot 0)) s (with_next x n)) (sym (joined_at_lem slots s last (free_slot 0) s1 s_s l_s apart))
    ∙ ap (λ (z : Bool). cond z (joined slots s last (free_slot 0)) (set_slot (joined slots s last (free_slot 0)) s (with_next (slot_at (joined slots s last (free_slot 0)) s) n))) (sym (ne_eqb s 0 (λ (e : s ≡ 0). omega arith)))
  where
    go : (z : Bool) → set_slot (cond z slots (set_slot slots last (with_next (slot_at slots last) s))) s (free_slot n)
        ≡ set_slot (cond z (set_slot slots s (free_slot 0)) (set_slot (set_slot slots s (free_slot 0)) last (with_next (slot_at slots last) s))) s (free_slot n)
    go true = sym (set-again slots s (free_slot 0) (free_slot n))
    go false =
        sym (ap (λ (l : List Slot). set_slot l s (free_slot n)) (set-swap slots s last (free_slot 0) (with_next (slot_at slots last) s) (λ (e : s ≡ last). apart (sym e)))
        ∙ set-again (set_slot slots last (with_next (slot_at slots last) s)) s (free_slot 0) (free_slot n))

-- and the chain is cut again behind its last slot
hooked-cut : (slots : List Slot) (last s : ℕ) → last ≤ length slots → (last ≢ 0 → (slot_at slots last).next ≡ 0) → hooked_slots (hooked_slots slots last s) last 0 ≡ slots
hooked-cut slots last s l_s ends = go (eqb last 0) refl
  where
    go : (z : Bool) → eqb last 0 ≡ z → hooked_slots (hooked_slots slots last s) last 0 ≡ slots
    go true e = rw e
    go false e =
        let n : last ≢ 0 = eqb-false last 0 e in
        let W : Slot = with_next (slot_at slots last) s in
        let q : slot_at (set_slot slots last W) last ≡ W = slot_at-same slots last W (omega arith) l_s in
        let k : with_next W 0 ≡ slot_at slots last = λ i. record { owner = (slot_at slots last).owner; next = sym (ends n) i; position = (slot_at slots last).position; value = (slot_at slots last).value; digest = (slot_at slots last).digest } in
        rw e (set-again slots last W (with_next (slot_at (set_slot slots last W) last) 0) ∙ ap (λ (x : Slot). set_slot slots last (with_next x 0)) q ∙ ap (set_slot slots last) k ∙ set_same slots last)

-- ---- the last slot of a chain

last_positive : (slots : List Slot) (o s t : ℕ) (c : List ℕ) → Links slots o s (t ∷ c) 0 → 1 ≤ last_of (t ∷ c)
unfolding last_of
last_positive slots o s t [] h = h.1
last_positive slots o s t (u ∷ c) h = last_positive slots o (slot_at slots t).next u c h.4

last-ends : (slots : List Slot) (o s t : ℕ) (c : List ℕ) → Links slots o s (t ∷ c) 0 → (slot_at slots (last_of (t ∷ c))).next ≡ 0
unfolding last_of
last-ends slots o s t [] h = h.4
last-ends slots o s t (u ∷ c) h = last-ends slots o (slot_at slots t).next u c h.4

ends_at : (slots : List Slot) (s : ℕ) (q : List ℕ) → Links slots 0 s q 0 → last_of q ≢ 0 → (slot_at slots (last_of q)).next ≡ 0
unfolding last_of
ends_at slots s [] h n = absurd (n refl)
ends_at slots s (t ∷ q) h n = last-ends slots 0 s t q h

none_free : (slots : List Slot) (s : ℕ) (q : List ℕ) → Links slots 0 s q 0 → last_of q ≡ 0 → s ≡ 0
none_free slots s [] h e = h
none_free slots s (t ∷ q) h e = absurd (let p = last_positive slots 0 s t q h in omega arith)

-- no slot of a log is the last free one
held-apart : (slots : List Slot) (g s f : ℕ) (c q : List ℕ) → Links slots (suc g) s (s ∷ c) 0 → Links slots 0 f q 0 → last_of q ≢ s
held-apart slots g s f c q h k e = go (in-last q)
  where
    go : (last_of q ≡ 0) ⊎ In (last_of q) q → ⊥
    go (inl z) = let p = h.1 in omega arith
    go (inr m) = let r = (links-in slots 0 f q 0 (last_of q) k m).2 in let p = h.3 in omega (arith, ap (λ (x : ℕ). (slot_at slots x).owner) e)

-- ---- images and bytes

abbrev joined_image : Image → ℕ → ℕ → Image
joined_image m last t = record { keeper = m.keeper; key = m.key; free = first_of last m.free t; rows = m.rows; slots = hooked_slots m.slots last t }

holds-joined : (b a : List ℕ) (k : Stock) (m : Image) (logs slots last t : ℕ) → Holds b k m logs slots → a ≡ joined_at b last t → last ≤ slots → t ≤ slots → Holds a k (joined_image m last t) logs slots
unfolding joined_at
holds-joined b a st m logs slots last t h e l k = go (eqb last 0) refl
  where
    most : slots ≤ 800
    most = h.slots-most

    go : (z : Bool) → eqb last 0 ≡ z → Holds a st (joined_image m last t) logs slots
    go true z =
        let q : a ≡ put_free b t = rw (joined_at, z) at e in
        rw z (holds-free b st m logs slots h a t q (omega arith))
    go false z =
        let q : a ≡ put_next b last t = rw (joined_at, z) at e in
        let n : last ≢ 0 = eqb-false last 0 z in
        rw z (holds-next b st m logs slots h a last t q (omega arith) l (omega arith))

-- the position of the last entry
abbrev top_of : List Entry → ℕ
top_of es = last_of (map (λ (e : Entry). e.position) es)

-- while slots go over: the table is that of the image reached, with its free chain joined to what is left of the log's chain
pub record Releasing (b : List ℕ) (v : View) (n : ℕ) (table : List ℕ) (last count s : ℕ) : Type 0 where
  pub image : Image
  pub fuel : ℕ
  pub left : List ℕ
  pub entries : List Entry
  pub freed : List ℕ
  pub same : releases v.counts.slots n (read_table b) v.log ≡ releases fuel n image v.log
  pub enough : suc (length left) ≤ fuel
  pub chained : Chained image v.log (s ∷ left) entries freed
  pub last-is : last ≡ last_of freed
  pub count-is : count ≡ length freed
  pub top : n ≤ top_of entries
  pub held : Holds table (stock_of b) (joined_image (with_row image v.log v.row) last s) v.counts.logs v.counts.slots

pub joins-first : (b a : List ℕ) (last t : ℕ) → last ≡ 0 → a ≡ put_free b t → a ≡ joined_at b last t
unfolding joined_at
joins-first b a last t z e = rw (joined_at, eq-eqb last 0 z) e

pub joins-behind : (b a : List ℕ) (last t : ℕ) → last ≢ 0 → a ≡ put_next b last t → a ≡ joined_at b last t
unfolding joined_at
joins-behind b a last t n e = rw (joined_at, ne_eqb last 0 n) e

-- ---- what releases keep of the log's row

abbrev Keeps : Image → Image → ℕ → Type 0
Keeps a m g = (g < length a.rows) × ((row_in a g).high ≡ (row_in m g).high) × ((row_in a g).last ≡ (row_in m g).last) × ((row_in a g).reserve ≡ (row_in m g).reserve)

pub release-keeps : (m : Image) (g : ℕ) → g < length m.rows → Keeps (release m g) m g
unfolding release truncated_row
release-keeps m g h =
    let r = truncated_row (row_in m g) (row_in m g).low (slot_at m.slots (row_in m g).first).next in
    let e : row_in (release m g) g ≡ r = get_or-set_same m.rows g r (fresh_row 0) h in
    (omega (arith, length-set m.rows g r), ap (λ (x : Row). x.high) e, ap (λ (x : Row). x.last) e, ap (λ (x : Row). x.reserve) e)

pub releases-keep : (k n : ℕ) (m : Image) (g : ℕ) → g < length m.rows → Keeps (releases k n m g) m g
unfolding releases
releases-keep zero n m g h = (h, refl, refl, refl)
releases-keep (suc k) n m g h = let p = release-keeps m g h in go p (leb n (slot_at m.slots (row_in m g).first).position) (releases-keep k n (release m g) g p.0)
  where
    go : Keeps (release m g) m g → (z : Bool) → Keeps (releases k n (release m g) g) (release m g) g → Keeps (elim z [ true ↦ m | false ↦ releases k n (release m g) g ]) m g
    go p true r = (h, refl, refl, refl)
    go p false r = (r.0, r.1 ∙ p.1, r.2 ∙ p.2, r.3 ∙ p.3)

-- ---- before the first slot

positions-entries : (slots : List Slot) (c : List ℕ) → map (λ (e : Entry). e.position) (entries_of slots c) ≡ positions_of slots c
positions-entries slots [] = refl
positions-entries slots (t ∷ c) = ap {B = List ℕ} (λ (l : List ℕ). (slot_at slots t).position ∷ l) (positions-entries slots c)

module _ (b : List ℕ) (v : View) (o : Opened b v) (n : ℕ) (n1 : 1 ≤ n) (n_h : n ≤ v.row.high) where
  -- a log with a high position has a chain
  first-cons : (c : List ℕ) × (chain (read_table b).slots (suc v.log) (row_in (read_table b) v.log).first ≡ v.row.first ∷ c)
  unfolding last_of
  first-cons = go (chain m.slots (suc v.log) (row_in m v.log).first) refl
    where
      m : Image
      m = read_table b

      go : (C : List ℕ) → chain m.slots (suc v.log) (row_in m v.log).first ≡ C → (c : List ℕ) × (chain m.slots (suc v.log) (row_in m v.log).first ≡ v.row.first ∷ c)
      go [] e =
          let r = log-chain m (whole-linked m (whole-image b o.whole)) v.log in
          let z : 0 ≡ (row_in m v.log).high = subst (λ (c : List ℕ). last_of (positions_of m.slots c) ≡ (row_in m v.log).high) e r.top in
          absurd (omega (arith, ap (λ (x : Row). x.high) (view-row b v o)))
      go (t ∷ c) e =
          let r = log-chain m (whole-linked m (whole-image b o.whole)) v.log in
          let l : Links m.slots (suc v.log) (row_in m v.log).first (t ∷ c) 0 = subst (λ (d : List ℕ). Links m.slots (suc v.log) (row_in m v.log).first d 0) e r.links in
          (c, e ∙ ap (λ (x : ℕ). x ∷ c) (sym l.0 ∙ sym (ap (λ (x : Row). x.first) (view-row b v o))))

  own_row : with_row (read_table b) v.log v.row ≡ read_table b
  own_row =
      let m = read_table b in
      λ i. record {
        keeper = m.keeper;
        key = m.key;
        free = m.free;
        rows = (ap (set m.rows v.log) (view-row b v o) ∙ set-get_or m.rows v.log (fresh_row 0)) i;
        slots = m.slots;
      }

  pub releasing-first : Bytes b → (table : List ℕ) → table ≡ joined_at b v.last v.row.first → Releasing b v n table v.last v.count v.row.first
  unfolding entries_in
  releasing-first bytes table e =
      let m = read_table b in
      let g = v.log in
      let q = first-cons in
      let r = log-chain m (whole-linked m (whole-image b o.whole)) g in
      let h = opened-chained b v o in
      let fit = links-fit m.slots (suc g) (row_in m g).first (chain m.slots (suc g) (row_in m g).first) r.links in
      record {
        image = m;
        fuel = v.counts.slots;
        left = q.0;
        entries = entries_in m g;
        freed = free_chain m;
        same = refl;
        enough = omega (arith, ap length q.1, slots_length b v o);
        chained = subst (λ (c : List ℕ). Chained m g c (entries_in m g) (free_chain m)) q.1 h;
        last-is = view-last b v o;
        count-is = view-count b v o;
        top = omega (arith, ap last_of (positions-entries m.slots (chain m.slots (suc g) (row_in m g).first)), r.top, ap (λ (x : Row). x.high) (view-row b v o));
        held = holds-joined b table (stock_of b) (with_row m g v.row) v.counts.logs v.counts.slots v.last v.row.first (subst (λ (x : Image). Holds b (stock_of b) x v.counts.logs v.counts.slots) (sym own_row) (opened-holds b v o bytes)) e (last-free-most b v o) (first-most b v o);
      }

-- ---- one slot more

-- the start of the loop: b is the table before the call, t the one with the log's chain joined to the free chain
pub record Begins (b : List ℕ) (v : View) (n : ℕ) (t : List ℕ) : Type 0 where
  pub opened : Opened b v
  pub bytes : Bytes b
  pub least : 1 ≤ n
  pub most : n ≤ v.row.high
  pub joined : t ≡ joined_at b v.last v.row.first

pub begins : (b : List ℕ) (v : View) (n : ℕ) (t : List ℕ) → Opened b v → Bytes b → 1 ≤ n → n ≤ v.row.high → t ≡ joined_at b v.last v.row.first → Begins b v n t
begins b v n t o h l k e = record { opened = o; bytes = h; least = l; most = k; joined = e }

module _ {b : List ℕ} {v : View} {n : ℕ} {table : List ℕ} {last count s : ℕ} (o : Opened b v) (R : Releasing b v n table last count s) where
  abbrev I : Image
  I = R.image

  starts : (row_in I v.log).first ≡ s
  starts = R.chained.log.links.0

  own : Links I.slots (suc v.log) s (s ∷ R.left) 0
  own = let h = R.chained.log.links in (refl, h.1, h.2, h.3, h.4)

  apart : last ≢ s
  apart e = held-apart I.slots v.log s I.free R.left R.freed own R.chained.free (sym R.last-is ∙ e)

  size : length I.slots ≡ v.counts.slots
  size = sym (length-hooked I.slots last s) ∙ R.held.slots-are

  last-in : last ≤ length I.slots
  last-in = let h = last_within I.slots 0 I.free R.freed R.chained.free in omega (arith, R.last-is)

  pub count-most-free : count ≤ v.counts.slots
  count-most-free = omega (arith, R.count-is, links-fit I.slots 0 I.free R.freed R.chained.free, size)

  -- what the code asks of the slot and reads of it
  pub slot-within : (1 ≤ s) × (s ≤ v.counts.slots)
  slot-within = let h = own.2 in (own.1, omega (arith, size))

  pub last-most-free : last ≤ v.counts.slots
  last-most-free = omega (arith, last-in, size)

  slot_is : slot_at (read_table table).slots s ≡ slot_at I.slots s
  slot_is = ap (λ (x : Image). slot_at x.slots s) (holds-image table (stock_of b) _ v.counts.logs v.counts.slots R.held) ∙ hooked-other I.slots last s s (λ (e : s ≡ last). apart (sym e))

  -- no slot of the log is the last free one
  not_last : (t : ℕ) → 1 ≤ t → (slot_at I.slots t).owner ≡ suc v.log → t ≡ last_of R.freed → (last_of R.freed ≡ 0) ⊎ In (last_of R.freed) R.freed → ⊥
  not_last t t1 w e (inl z) = omega arith
  not_last t t1 w e (inr i) = let p = (links-in I.slots 0 I.free R.freed 0 (last_of R.freed) R.chained.free i).2 in omega (arith, ap (λ (x : ℕ). (slot_at I.slots x).owner) e)

  kept : (t : ℕ) → In t (s ∷ R.left) → slot_at (hooked_slots I.slots last s) t ≡ slot_at I.slots t
  kept t i =
      let r = links-in I.slots (suc v.log) s (s ∷ R.left) 0 t own i in
      hooked-other I.slots last s t (λ (e : t ≡ last). not_last t r.0 r.2 (e ∙ R.last-is) (in-last R.freed))

  pub left_is : chain (read_table table).slots (suc v.log) s ≡ s ∷ R.left
  left_is =
      ap (λ (x : Image). chain x.slots (suc v.log) s) (holds-image table (stock_of b) _ v.counts.logs v.counts.slots R.held)
      ∙ chain_links (hooked_slots I.slots last s) (suc v.log) s (s ∷ R.left) (links-frame I.slots (hooked_slots I.slots last s) (suc v.log) s (s ∷ R.left) 0 (length-hooked I.slots last s) kept own)

  module _ {l : Link} (el : l ≡ link_of (slot_at (read_table table).slots s)) where
    next-is : l.next ≡ (slot_at I.slots s).next
    next-is = ap (λ (x : Link). x.next) el ∙ ap (λ (x : Slot). x.next) slot_is

    place_is : l.position ≡ (slot_at I.slots s).position
    place_is = ap (λ (x : Link). x.position) el ∙ ap (λ (x : Slot). x.position) slot_is

    next-most : l.next ≤ v.counts.slots
    next-most = let h = first-within I.slots (suc v.log) (slot_at I.slots s).next R.left own.4 in omega (arith, next-is, size)

    pub next-bound : l.next < 65536
    next-bound = let h = next-most in let k = R.held.slots-most in omega arith

    freed-fits : SlotFits (slot_of 0 l.next 0 (zeros 32) (zeros 32))
    freed-fits = free-fits l.next next-bound

    -- the image after the slot became free
    image-is : with_slot (joined_image (with_row I v.log v.row) last s) s (free_slot l.next) ≡ joined_image (with_row (release I v.log) v.log v.row) s l.next
    unfolding release
    image-is =
        let g = v.log in
        let j : joint I ≡ last = joint-is I g R.left R.entries R.freed R.chained.free ∙ sym R.last-is in
        let ne : eqb s 0 ≡ false = ne_eqb s 0 (λ (e : s ≡ 0). let h = own.1 in omega arith) in
        λ i. record {
          keeper = I.keeper;
          key = I.key;
          free = (ap₂ (λ (k f : ℕ). first_of k I.free f) (sym j) (sym starts) ∙ ap (λ (z : Bool). cond z l.next (first_of (joint I) I.free (row_in I g).first)) (sym ne)) i;
          rows = sym (set-set I.rows g (truncated_row (row_in I g) (row_in I g).low (slot_at I.slots (row_in I g).first).next) v.row) i;
          slots = (hooked-freed I.slots last s l.next own.1 own.2 last-in apart ∙ ap₂ (λ (f k : ℕ). hooked_slots (joined I.slots f k (free_slot 0)) s l.next) (sym starts) (sym j)) i;
        }

    step : (t : ℕ) (c : List ℕ) → R.left ≡ t ∷ c → (k : ℕ) → R.fuel ≡ suc k → l.position < n → (after : List ℕ) → after ≡ put_slot table s (slot_of 0 l.next 0 (zeros 32) (zeros 32)) → (Q : Releasing b v n after s (count + 1) l.next) × (suc (length Q.left) ≡ length R.left)
    unfolding last_of
    step t c ec k ef p after e =
        let g = v.log in
        let x : Entry = entry_of (slot_at I.slots s) in
        let es : List Entry = entries_of I.slots (t ∷ c) in
        let eq : R.entries ≡ x ∷ es = sym (subst (λ (d : List ℕ). entries_of I.slots (s ∷ d) ≡ R.entries) ec R.chained.log.held) in
        let h0 : Chained I g (s ∷ t ∷ c) (x ∷ es) R.freed = subst (λ (d : List ℕ). Chained I g (s ∷ d) (x ∷ es) R.freed) ec (subst (λ (y : List Entry). Chained I g (s ∷ R.left) y R.freed) eq R.chained) in
        let h1 : Chained I g ((row_in I g).first ∷ t ∷ c) (x ∷ es) R.freed = subst (λ (y : ℕ). Chained I g (y ∷ t ∷ c) (x ∷ es) R.freed) (sym starts) h0 in
        let g_g : g < length I.rows = omega (arith, length-set I.rows g v.row, R.held.logs-are, opened-log b v o) in
        let rc = release-chained I g t c x es R.freed h1 g_g in
        let nx : Links I.slots (suc g) (slot_at I.slots s).next (t ∷ c) 0 = subst (λ (d : List ℕ). Links I.slots (suc g) (slot_at I.slots s).next d 0) ec own.4 in
        let tn : l.next ≡ t = next-is ∙ nx.0 in (
          record {
            image = release I g;
            fuel = k;
            left = c;
            entries = es;
            freed = R.freed ++ ((row_in I g).first ∷ []);
            same = R.same ∙ ap (λ (f : ℕ). releases f n I g) ef ∙ releases-go k n I g (omega (arith, place_is, ap (λ (y : ℕ). (slot_at I.slots y).position) starts));
            enough = let q = R.enough in omega (arith, ap length ec);
            chained = subst (λ (y : ℕ). Chained (release I g) g (y ∷ c) es (R.freed ++ ((row_in I g).first ∷ []))) (sym tn) rc;
            last-is = sym (last_of_snoc R.freed (row_in I g).first ∙ starts);
            count-is = omega (arith, R.count-is, length-append R.freed ((row_in I g).first ∷ []));
            top = subst (λ (y : List Entry). n ≤ top_of y) eq R.top;
            held = subst (λ (y : Image). Holds after (stock_of b) y v.counts.logs v.counts.slots) image-is (holds-slot table (stock_of b) _ v.counts.logs v.counts.slots R.held after s (free_slot l.next) e own.1 slot-within.1 freed-fits);
          },
          sym (ap length ec),
        )

    -- the log's last entry stands at n or above: a slot below it is followed by another
    pub releasing-on : l.position < n → {after : List ℕ} → after ≡ put_slot table s (slot_of 0 l.next 0 (zeros 32) (zeros 32)) → (Q : Releasing b v n after s (count + 1) l.next) × (suc (length Q.left) ≡ length R.left)
    unfolding last_of
    releasing-on p {after} e = go R.left refl R.fuel refl
      where
        go : (c : List ℕ) → R.left ≡ c → (f : ℕ) → R.fuel ≡ f → (Q : Releasing b v n after s (count + 1) l.next) × (suc (length Q.left) ≡ length R.left)
        go c ec zero ef = absurd (let h = R.enough in omega arith)
        go [] ec (suc k) ef =
            let h : entries_of I.slots (s ∷ []) ≡ R.entries = subst (λ (d : List ℕ). entries_of I.slots (s ∷ d) ≡ R.entries) ec R.chained.log.held in
            let t : (slot_at I.slots s).position ≡ top_of R.entries = ap top_of h in
            absurd (let q = R.top in omega (arith, place_is))
        go (t ∷ c) ec (suc k) ef = step t c ec k ef p after e

    -- and at an entry that stays the definition stops too
    pub stays : n ≤ l.position → releases v.counts.slots n (read_table b) v.log ≡ I
    stays p = go R.fuel refl
      where
        go : (f : ℕ) → R.fuel ≡ f → releases v.counts.slots n (read_table b) v.log ≡ I
        go zero ef = absurd (let h = R.enough in omega arith)
        go (suc k) ef = R.same ∙ ap (λ (f : ℕ). releases f n I v.log) ef ∙ releases-stop k n I v.log (omega (arith, place_is, ap (λ (y : ℕ). (slot_at I.slots y).position) starts))

  -- ---- after the last slot

  free-cut : first_of last (first_of last I.free s) 0 ≡ I.free
  free-cut = go (eqb last 0) refl
    where
      go : (z : Bool) → eqb last 0 ≡ z → cond z 0 (cond z s I.free) ≡ I.free
      go true z = sym (none_free I.slots I.free R.freed R.chained.free (sym R.last-is ∙ eqb-true last 0 z))
      go false z = refl

  cut-is : joined_image (joined_image (with_row I v.log v.row) last s) last 0 ≡ with_row I v.log v.row
  cut-is =
      let ends : last ≢ 0 → (slot_at I.slots last).next ≡ 0 =
      λ (k : last ≢ 0). ap (λ (y : ℕ). (slot_at I.slots y).next) R.last-is ∙ ends_at I.slots I.free R.freed R.chained.free (λ (z : last_of R.freed ≡ 0). k (R.last-is ∙ z)) in
      λ i. record {
        keeper = I.keeper;
        key = I.key;
        free = free-cut i;
        rows = set I.rows v.log v.row;
        slots = hooked-cut I.slots last s last-in ends i;
      }

  pub cut-held : {a : List ℕ} → a ≡ joined_at table last 0 → Holds a (stock_of b) (with_row I v.log v.row) v.counts.logs v.counts.slots
  cut-held {a} e = subst (λ (y : Image). Holds a (stock_of b) y v.counts.logs v.counts.slots) cut-is (holds-joined table a (stock_of b) _ v.counts.logs v.counts.slots last 0 R.held e last-most-free (omega arith))

  pub cut-row : Bytes b → n < 2 ^ 64 → {after : Row} → after ≡ truncated_row v.row n s → RowFits after
  unfolding truncated_row
  cut-row bytes h {after} e =
      let f = (opened-holds b v o bytes).fits.rows v.log in
      let r : RowFits v.row = subst RowFits (sym (view-row b v o)) f in
      let k = slot-within.1 in
      let q = R.held.slots-most in
      subst RowFits (sym e) (record { low = h; high = r.high; first = omega arith; last = r.last; reserve = r.reserve })

  row_is : releases v.counts.slots n (read_table b) v.log ≡ I → (after : Row) → after ≡ truncated_row v.row n s → after ≡ truncated_row (row_in I v.log) n (row_in I v.log).first
  unfolding truncated_row
  row_is st after e =
      let g = v.log in
      let k = releases-keep v.counts.slots n (read_table b) g (omega (arith, o.log, length-rows b)) in
      let hi : v.row.high ≡ (row_in I g).high = ap (λ (x : Row). x.high) (view-row b v o) ∙ sym k.1 ∙ ap (λ (x : Image). (row_in x g).high) st in
      let la : v.row.last ≡ (row_in I g).last = ap (λ (x : Row). x.last) (view-row b v o) ∙ sym k.2 ∙ ap (λ (x : Image). (row_in x g).last) st in
      let re : v.row.reserve ≡ (row_in I g).reserve = ap (λ (x : Row). x.reserve) (view-row b v o) ∙ sym k.3 ∙ ap (λ (x : Image). (row_in x g).reserve) st in
      e ∙ (λ i. record { low = n; high = hi i; first = sym starts i; last = la i; reserve = re i })

  pub row-held : Bytes b → n < 2 ^ 64 → {a₁ a₂ : List ℕ} {after : Row} → a₁ ≡ joined_at table last 0 → after ≡ truncated_row v.row n s → a₂ ≡ put_row a₁ v.log after
      → Holds a₂ (stock_of b) (with_row (with_row I v.log v.row) v.log after) v.counts.logs v.counts.slots
  row-held bytes h {a₁} {a₂} {after} e₁ ea e₂ = holds_row a₁ (stock_of b) _ v.counts.logs v.counts.slots (cut-held e₁) a₂ v.log after e₂ (opened-log b v o) (cut-row bytes h ea)

  -- the free chain is what it was with the slots that went over behind it
  freed-is : free_chain I ≡ R.freed
  freed-is = chain_links I.slots 0 I.free R.freed R.chained.free

  pub count_held : Bytes b → n < 2 ^ 64 → {a₁ a₂ a₃ : List ℕ} {after : Row} → a₁ ≡ joined_at table last 0 → after ≡ truncated_row v.row n s → a₂ ≡ put_row a₁ v.log after → a₃ ≡ put_count a₂ count
      → Holds a₃ (stocked count (stock_of b).last) (with_row (with_row I v.log v.row) v.log after) v.counts.logs v.counts.slots
  count_held bytes h {a₁} {a₂} {a₃} {after} e₁ ea e₂ e₃ = holds-count a₂ (stock_of b) _ v.counts.logs v.counts.slots (row-held bytes h e₁ ea e₂) a₃ count e₃

  pub struck : Bytes b → n < 2 ^ 64 → {l : Link} → l ≡ link_of (slot_at (read_table table).slots s) → n ≤ l.position → {a₁ a₂ a₃ a₄ : List ℕ} {after : Row} → a₁ ≡ joined_at table last 0 → after ≡ truncated_row v.row n s → a₂ ≡ put_row a₁ v.log after
      → a₃ ≡ put_count a₂ count → a₄ ≡ put_last a₃ last → a₄ ≡ write_table (lowered (releases v.counts.slots n (read_table b) v.log) v.log n)
  unfolding lowered write_table
  struck bytes h {l} el p {a₁} {a₂} {a₃} {a₄} {after} e₁ ea e₂ e₃ e₄ =
      let g = v.log in
      let st = stays el p in
      let im : with_row (with_row I g v.row) g after ≡ lowered I g n =
      λ i. record { keeper = I.keeper; key = I.key; free = I.free; rows = (set-set I.rows g v.row after ∙ ap (set I.rows g) (row_is st after ea)) i; slots = I.slots } in
      let k : stocked count last ≡ stock_in I = ap₂ stocked (R.count-is ∙ sym (ap length freed-is)) (R.last-is ∙ sym (ap last_of freed-is)) in
      (holds-last a₃ _ _ v.counts.logs v.counts.slots (count_held bytes h e₁ ea e₂ e₃) a₄ last e₄).is
      ∙ ap₂ write_with k im
      ∙ ap (λ (x : Image). write_table (lowered x g n)) (sym st)

pub struck-high : (v : View) (n s : ℕ) (after : Row) → after ≡ truncated_row v.row n s → after.high ≡ v.row.high
unfolding truncated_row
struck-high v n s after e = ap (λ (x : Row). x.high) e

pub struck-low : (v : View) (n s : ℕ) (after : Row) → after ≡ truncated_row v.row n s → after.low ≡ n
unfolding truncated_row
struck-low v n s after e = ap (λ (x : Row). x.low) e

-- the chain still to go is shorter by one after each slot
pub falls : {b : List ℕ} {v : View} {n : ℕ} {table : List ℕ} {last count s : ℕ} (o : Opened b v) (R : Releasing b v n table last count s) {l : Link} → l ≡ link_of (slot_at (read_table table).slots s) → l.position < n → {after : List ℕ}
    → after ≡ put_slot table s (slot_of 0 l.next 0 (zeros 32) (zeros 32)) → length (chain (read_table after).slots (suc v.log) l.next) < length (chain (read_table table).slots (suc v.log) s)
falls o R el p e =
    let Q = releasing-on o R el p e in
    let f : suc (length Q.0.left) ≡ length R.left = Q.1 in
    omega (arith, ap length (left_is o R), ap length (left_is o Q.0))
