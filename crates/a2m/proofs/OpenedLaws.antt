-- A table opened at a log: its counts, its chains, and where the slots that its row and header name stand.
use Prim.Native.Nat.{ℕ, suc, ◌≤◌, ◌<◌}
use Rattle.std.specs.Prelude.{Option, None, Some, IfSome, Result, Ok, Err}
use mathlib.Core.Path.{◌≡◌, refl, sym, ap, ap₂, ◌∙◌}
use mathlib.Core.Logic.{◌⊎◌, inl, inr}
use mathlib.Core.List.{List, [], ◌∷◌}
use mathlib.Core.Bool.{Bool, true, false}
use mathlib.Core.Option.{some}
use native.Mathlib.Omega.{arith}
use lib.ListN.{length}
use lib.Dec.{leb}
use borrow.Author.Tests.{leb-false, le-leb, lt-leb}
use Rattle.refusal.specs.Number.{number_of}
use Rattle.refusal.specs.declared.Refusal.{Refusal}
use Rattle.refusal.specs.declared.Refusal.TheVariants as why
use Rattle.octets.specs.Octets.{Bytes}
use Rattle.layout.specs.declared.Row.{Row}
use Rattle.layout.specs.Image.{Slot}
use Rattle.layout.specs.Layout.{header_size, logs_of, slots_of, free_of, read_table, stock_of, table_size}
use Rattle.layout.specs.Fits.{Formed, Counted}
use Rattle.layout.proofs.TableLaws.{length-rows, length-slots}
use Rattle.layout.proofs.HoldsLaws.{Holds, holds_read}
use Rattle.table.specs.declared.Whole.{Whole}
use Rattle.table.specs.Chains.{chain, reaches, last_of, entries_of}
use Rattle.table.specs.Free.{free_chain, joint}
use Rattle.table.specs.Reserve.{lack_but}
use Rattle.table.specs.Whole.{whole, check_of, checked}
use Rattle.a2m.specs.declared.View.{View}
use Rattle.a2m.specs.Call.{Call, log_of}
use Rattle.a2m.specs.ImageCalls.{row_in, entries_in, wrong_length}
use Rattle.a2m.specs.TableCalls.{table_refusal}
use Rattle.a2m.specs.Opened.{view_of, opening_of, slot_number, Opened}
use Rattle.a2m.proofs.Cases.{torn, no-log}
use Rattle.table.proofs.Lists.{In, in-last}
use Rattle.table.proofs.Links.{links-in, reaches_links}
use Rattle.table.specs.Conditions.{Links}
use Rattle.a2m.proofs.Chained.{Chained, whole-chained}
use Rattle.table.proofs.WalkLaws.{chain-short}
use Rattle.table.proofs.WholeLaws.{whole-range, whole_formed, whole-image, check-whole as found-whole}

-- ---- opening

module _ (b : List ℕ) (g : ℕ) where
  -- what the check refuses is torn
  pub open-torn : (r : Refusal) → Err r ≡ check_of b g → Err r ≡ opening_of b g
  unfolding check_of checked opening_of
  open-torn r h = go (whole b) refl
    where
      go : (t : Bool) → whole b ≡ t → Err r ≡ opening_of b g
      go true e =
          let q : ◌≡◌ {A = Result Whole Refusal} (Err r) (Ok (record { free = length (free_chain (read_table b)); last = last_of (free_chain (read_table b)); others = lack_but (read_table b) g })) = rw (check_of, e) at h in
          cc
      go false e =
          let q : ◌≡◌ {A = Result Whole Refusal} (Err r) (Err why.Torn) = rw (check_of, e) at h in
          let p : r ≡ why.Torn = cc in
          rw (opening_of, e) (ap Err p)

  pub check-whole : (w : Whole) → Ok w ≡ check_of b g → (whole b ≡ true) × (w.free ≡ length (free_chain (read_table b))) × (w.last ≡ joint (read_table b)) × (w.others ≡ lack_but (read_table b) g)
  check-whole w h = let k = found-whole b g w.free w.last w.others h in (k.0, sym k.1, sym k.2, sym k.3)

  pub open-beyond : whole b ≡ true → logs_of b ≤ g → Err why.NoLog ≡ opening_of b g
  unfolding opening_of
  open-beyond w h = rw (opening_of, w, le-leb (logs_of b) g h)

  pub open_at : (v : View) → whole b ≡ true → g < logs_of b → v ≡ view_of b g → Ok v ≡ opening_of b g
  unfolding opening_of
  open_at v w h e = rw (opening_of, w, lt-leb (logs_of b) g h) (ap Ok e)

  pub open-found : whole b ≡ true → (logs slots free count last others : ℕ) (row : Row) → g < logs → logs ≡ logs_of b → slots ≡ slots_of b → row ≡ row_in (read_table b) g → free ≡ free_of b → count ≡ length (free_chain (read_table b)) → last ≡ joint (read_table b) → others ≡ lack_but (read_table b) g
      → Ok (record { counts = record { logs = logs; slots = slots }; log = g; row = row; free = free; count = count; last = last; others = others }) ≡ opening_of b g
  unfolding view_of
  open-found w logs slots free count last others row h el es er ef ec ej eo =
      open_at (record { counts = record { logs = logs; slots = slots }; log = g; row = row; free = free; count = count; last = last; others = others }) w (omega (arith, el))
      (λ i. record { counts = record { logs = el i; slots = es i }; log = g; row = er i; free = ef i; count = ec i; last = ej i; others = eo i })

  -- an opened table
  pub opened : (v : View) → Ok v ≡ opening_of b g → Opened b v × (v.log ≡ g)
  unfolding opening_of view_of
  opened v h = go (whole b) refl (leb (logs_of b) g) refl
    where
      go : (t : Bool) → whole b ≡ t → (l : Bool) → leb (logs_of b) g ≡ l → Opened b v × (v.log ≡ g)
      go false w l e =
          let q : Ok v ≡ Err why.Torn = rw (opening_of, w) at h in
          let z : ◌≡◌ {A = ℕ} 0 1 = cc in
          absurd (omega arith)
      go true w true e =
          let q : Ok v ≡ Err why.NoLog = rw (opening_of, w, e) at h in
          let z : ◌≡◌ {A = ℕ} 0 1 = cc in
          absurd (omega arith)
      go true w false e =
          let q : Ok v ≡ Ok (view_of b g) = rw (opening_of, w, e) at h in
          let p : v ≡ view_of b g = cc in
          let n : v.log ≡ g = ap (λ (x : View). x.log) p in
          let k = leb-false (logs_of b) g e in
          (record { whole = w; log = omega arith; is = p ∙ ap (view_of b) (sym n) }, n)

  -- and one that is not
  pub not_opened : (r : Refusal) → Err r ≡ opening_of b g → (call : Call) → log_of call ≡ g → wrong_length call ≡ false → table_refusal b call ≡ some (number_of r)
  unfolding opening_of
  not_opened r h call c s = go (whole b) refl (leb (logs_of b) g) refl
    where
      go : (t : Bool) → whole b ≡ t → (l : Bool) → leb (logs_of b) g ≡ l → table_refusal b call ≡ some (number_of r)
      go false w l e =
          let q : Err r ≡ Err why.Torn = rw (opening_of, w) at h in
          let p : r ≡ why.Torn = cc in
          torn b call s w ∙ ap (λ (x : Refusal). some (number_of x)) (sym p)
      go true w true e =
          let q : Err r ≡ Err why.NoLog = rw (opening_of, w, e) at h in
          let p : r ≡ why.NoLog = cc in
          no-log b call s w (ap₂ leb (length-rows b) c ∙ e) ∙ ap (λ (x : Refusal). some (number_of x)) (sym p)
      go true w false e =
          let q : Err r ≡ Ok (view_of b g) = rw (opening_of, w, e) at h in
          let z : ◌≡◌ {A = ℕ} 0 1 = cc in
          absurd (omega arith)

-- ---- an opened table

pub whole-counted : (b : List ℕ) (logs slots : ℕ) → whole b ≡ true → logs ≡ logs_of b → slots ≡ slots_of b → Counted b logs slots
whole-counted b logs slots w l s =
    let r = whole-range b w in
    let f : Formed b = whole_formed b w in
    record {
      logs-are = l;
      slots-are = s;
      logs-most = omega (arith, r.logs-most, l);
      slots-most = omega (arith, r.slots-most, s);
      sized = f.sized ∙ sym (ap₂ table_size l s);
    }

pub whole_long : (b : List ℕ) → whole b ≡ true → header_size ≤ length b
whole_long b w = let f : Formed b = whole_formed b w in omega (arith, f.sized)

-- a chain's first slot, and its last, stand in the table or are 0
pub first-within : (slots : List Slot) (o s : ℕ) (c : List ℕ) → Links slots o s c 0 → s ≤ length slots
first-within slots o s [] h = omega arith
first-within slots o s (t ∷ c) h = let p = h.0 in let q = h.2 in omega arith

pub last_within : (slots : List Slot) (o s : ℕ) (c : List ℕ) → Links slots o s c 0 → last_of c ≤ length slots
last_within slots o s c h = go (in-last c)
  where
    go : (last_of c ≡ 0) ⊎ In (last_of c) c → last_of c ≤ length slots
    go (inl e) = omega arith
    go (inr m) = (links-in slots o s c 0 (last_of c) h m).1

-- a chain that starts at a slot has it in front
pub chain-cons : (slots : List Slot) (o s : ℕ) (c : List ℕ) → 1 ≤ s → Links slots o s c 0 → (d : List ℕ) × (c ≡ s ∷ d)
chain-cons slots o s [] k h = absurd (omega arith)
chain-cons slots o s (t ∷ c) k h = let p : t ≡ s = sym h.0 in (c, ap (λ (x : ℕ). x ∷ c) p)

module _ (b : List ℕ) (v : View) (o : Opened b v) where
  pub view-logs : v.counts.logs ≡ logs_of b
  unfolding view_of
  view-logs = ap (λ (x : View). x.counts.logs) o.is

  pub view-slots : v.counts.slots ≡ slots_of b
  unfolding view_of
  view-slots = ap (λ (x : View). x.counts.slots) o.is

  pub view-row : v.row ≡ row_in (read_table b) v.log
  unfolding view_of
  view-row = ap (λ (x : View). x.row) o.is

  pub view-free : v.free ≡ (read_table b).free
  unfolding view_of read_table
  view-free = ap (λ (x : View). x.free) o.is

  pub view-count : v.count ≡ length (free_chain (read_table b))
  unfolding view_of
  view-count = ap (λ (x : View). x.count) o.is

  pub view-last : v.last ≡ joint (read_table b)
  unfolding view_of
  view-last = ap (λ (x : View). x.last) o.is

  pub view-others : v.others ≡ lack_but (read_table b) v.log
  unfolding view_of
  view-others = ap (λ (x : View). x.others) o.is

  pub slots_length : length (read_table b).slots ≡ v.counts.slots
  slots_length = length-slots b ∙ sym view-slots

  pub opened-counted : Counted b v.counts.logs v.counts.slots
  opened-counted = whole-counted b v.counts.logs v.counts.slots o.whole view-logs view-slots

  pub opened-long : header_size ≤ length b
  opened-long = whole_long b o.whole

  pub opened-log : v.log < v.counts.logs
  opened-log = omega (arith, o.log, view-logs)

  -- no refusal 2
  pub opened-known : leb (length (read_table b).rows) v.log ≡ false
  opened-known = lt-leb (length (read_table b).rows) v.log (omega (arith, o.log, length-rows b))

  pub opened-holds : Bytes b → Holds b (stock_of b) (read_table b) v.counts.logs v.counts.slots
  opened-holds h = let c = opened-counted in holds_read b v.counts.logs v.counts.slots h (whole_formed b o.whole) view-logs view-slots c.logs-most c.slots-most

  pub opened-chained : Chained (read_table b) v.log (chain (read_table b).slots (suc v.log) (row_in (read_table b) v.log).first) (entries_in (read_table b) v.log) (free_chain (read_table b))
  opened-chained = whole-chained (read_table b) (whole-image b o.whole) v.log

  pub free-most : v.free ≤ v.counts.slots
  free-most = let h = first-within (read_table b).slots 0 (read_table b).free (free_chain (read_table b)) opened-chained.free in omega (arith, view-free, slots_length)

  pub count_most : v.count ≤ v.counts.slots
  count_most = omega (arith, chain-short (read_table b).slots 0 (read_table b).free, view-count, slots_length)

  pub last-free-most : v.last ≤ v.counts.slots
  last-free-most = let h = last_within (read_table b).slots 0 (read_table b).free (free_chain (read_table b)) opened-chained.free in omega (arith, view-last, slots_length)

  logged : Links (read_table b).slots (suc v.log) (row_in (read_table b) v.log).first (chain (read_table b).slots (suc v.log) (row_in (read_table b) v.log).first) 0
  logged = opened-chained.log.links

  pub first-most : v.row.first ≤ v.counts.slots
  first-most =
      let m = read_table b in
      let h = first-within m.slots (suc v.log) (row_in m v.log).first (chain m.slots (suc v.log) (row_in m v.log).first) logged in
      omega (arith, ap (λ (r : Row). r.first) view-row, slots_length)

  pub last-most : v.row.last ≤ v.counts.slots
  last-most =
      let m = read_table b in
      let h = last_within m.slots (suc v.log) (row_in m v.log).first (chain m.slots (suc v.log) (row_in m v.log).first) logged in
      omega (arith, ap (λ (r : Row). r.last) view-row, opened-chained.last, slots_length)

  pub last-within : (last : Option ℕ) → slot_number last ≡ v.row.last → IfSome last (λ (s : ℕ). 1 ≤ s) → IfSome last (λ (s : ℕ). (1 ≤ s) × (s ≤ v.counts.slots))
  last-within None e h = tt
  last-within (Some s) e h = let l = last-most in (h, omega arith)

  -- the chain that a lookup walks, and the entries along it
  pub opened-reaches : reaches (read_table b).slots (suc v.log) v.row.first ≡ true
  opened-reaches = ap (λ (r : Row). reaches (read_table b).slots (suc v.log) r.first) view-row ∙ reaches_links (read_table b).slots (suc v.log) (row_in (read_table b) v.log).first (chain (read_table b).slots (suc v.log) (row_in (read_table b) v.log).first) logged

  pub entries-are : entries_of (read_table b).slots (chain (read_table b).slots (suc v.log) v.row.first) ≡ entries_in (read_table b) v.log
  unfolding entries_in
  entries-are = ap (λ (r : Row). entries_of (read_table b).slots (chain (read_table b).slots (suc v.log) r.first)) view-row
