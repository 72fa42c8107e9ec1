-- The answers of append, advance and truncate, and the table after, for each way out. Over plain values: b is the table before, a the one after.
use Prim.Native.Nat.{ℕ, ◌+◌, ◌-◌, ◌^◌, ◌≤◌, ◌<◌}
use mathlib.Core.Path.{◌≡◌, refl, sym, ap, ap₂, ◌∙◌}
use mathlib.Core.Logic.{◌≢◌, ◌⊎◌, inl, inr}
use mathlib.Core.List.{List}
use mathlib.Core.Bool.{Bool, true, false, cond, not, ◌&&◌, ◌||◌}
use mathlib.Core.Option.{some}
use native.Mathlib.Omega.{arith}
use lib.ListN.{length, get_or, set}
use lib.Seq.{get_or-set_same}
use lib.Dec.{eqb, leb, ltb}
use borrow.Author.Tests.{eqb-true, eqb-false, eq-eqb, ne_eqb, leb-true, leb-false, le-leb, lt-leb, le-ltb, lt-ltb, ltb-true}
use Rattle.refusal.specs.Number.{number_of}
use Rattle.refusal.specs.declared.Refusal.{Refusal}
use Rattle.refusal.specs.declared.Refusal.TheVariants as why
use Rattle.layout.specs.declared.Row.{Row}
use Rattle.layout.specs.Image.{Entry, Image, fresh_row, slot_at}
use Rattle.layout.specs.Layout.{read_table}
use Rattle.table.specs.Free.{free_chain, write_table}
use Rattle.table.specs.Reserve.{held_in, lack_but}
use Rattle.table.proofs.ReserveLaws.{lack-below}
use Rattle.table.proofs.WholeLaws.{whole-image}
use Rattle.layout.proofs.TestLaws.{and-not}
use Rattle.layout.specs.Changes.{advanced_row, appended_row, truncated_row}
use Rattle.layout.proofs.TableLaws.{length-rows}
use Rattle.a2m.specs.declared.View.{View}
use Rattle.std.specs.Prelude.{Ok, Err}
use Rattle.a2m.specs.Call.{Call, append, advance, truncate, log_of, Reply, refused, done}
use Rattle.entry.specs.Digest.{entry_digest}
use Rattle.a2m.specs.NewEntry.{new_entry}
use Rattle.a2m.specs.ImageCalls.{row_in, wrong_length, misplaced, spent, full, promised, withheld, put, previous_in, releases, lowered, image_done, image_accept}
use Rattle.a2m.specs.TableCalls.{table_refusal, table_step}
use Rattle.a2m.specs.Opened.{opening_of, Opened, entry_at, room_of}
use Rattle.a2m.proofs.Cases.{refused-step, accepted-step, wrong-length, wrong-position, is-spent, is-full, is-promised, no-refusal}
use Rattle.a2m.proofs.ReleaseLaws.{releases-keep}
use Rattle.a2m.proofs.OpenedLaws.{not_opened, view-row, view-free, view-count, view-others, slots_length, opened-known}

-- the answer r, the blocks k and the table a after the call
abbrev pub Steps : List ℕ → Call → Reply → ℕ → List ℕ → Type 0
Steps b call r k a = (r ≡ (table_step b call).reply) × ((k ≡ (table_step b call).blocks) × (a ≡ (table_step b call).state))

-- a table that is not opened
pub unopened : (b : List ℕ) (g : ℕ) (w : Refusal) (call : Call) → Err w ≡ opening_of b g → log_of call ≡ g → wrong_length call ≡ false → Steps b call (refused (number_of w)) 0 b
unopened b g w call e l s = refused-step b call (number_of w) (not_opened b g w e call l s)

-- a call of which something has another length than its own
unsized : (b : List ℕ) (call : Call) → wrong_length call ≡ true → Steps b call (refused 7) 0 b
unsized b call h = refused-step b call 7 (wrong-length b call h)

not-32 : (x : List ℕ) → length x ≢ 32 → not (eqb (length x) 32) ≡ true
not-32 x h = ap not (ne_eqb (length x) 32 h)

is_32 : (x : List ℕ) → length x ≡ 32 → not (eqb (length x) 32) ≡ false
is_32 x h = ap not (eq-eqb (length x) 32 h)

-- the row of a log whose row was set
row-set : (m : Image) (g : ℕ) (r : Row) → g < length m.rows → get_or (set m.rows g r) g (fresh_row 0) ≡ r
row-set m g r h = get_or-set_same m.rows g r (fresh_row 0) h

-- "answers 0 with the L and H of that row": an entry's position is the new H
put-answer : (m : Image) (g : ℕ) (e : Entry) → g < length m.rows → done (row_in (put m g e) g).low (row_in (put m g e) g).high ≡ done (row_in m g).low e.position
unfolding put advanced_row
put-answer m g e h = ap (λ (r : Row). done r.low r.high) (row-set m g (advanced_row (row_in m g) e.position m.free) h)

-- ---- whether a slot may be taken

module _ (b : List ℕ) (v : View) (o : Opened b v) where
  pub may-not : v.count ≤ v.others → withheld (read_table b) v.log ≡ true
  unfolding withheld
  may-not h =
      let m = read_table b in
      let g = v.log in
      go (ltb (held_in m.slots g (row_in m g)) (row_in m g).reserve) refl
    where
      go : (t : Bool) → ltb (held_in (read_table b).slots v.log (row_in (read_table b) v.log)) (row_in (read_table b) v.log).reserve ≡ t
          → not t && leb (length (free_chain (read_table b))) (lack_but (read_table b) v.log) ≡ true
      go true e =
          let k = lack-below (read_table b) v.log (omega (arith, o.log, length-rows b)) (whole-image b o.whole) (ltb-true _ _ e) in
          absurd (omega (arith, view-count b v o, view-others b v o))
      go false e = le-leb (length (free_chain (read_table b))) (lack_but (read_table b) v.log) (omega (arith, view-count b v o, view-others b v o))

  pub may : v.others < v.count → withheld (read_table b) v.log ≡ false
  unfolding withheld
  may h = and-not (not (ltb (held_in (read_table b).slots v.log (row_in (read_table b) v.log)) (row_in (read_table b) v.log).reserve)) (lt-leb (length (free_chain (read_table b))) (lack_but (read_table b) v.log) (omega (arith, view-count b v o, view-others b v o)))

module _ (v : View) where
  -- where it may, a slot is free, and more of them than the other logs lack
  pub has_room : Ok (tt {0}) ≡ room_of v → (v.free ≢ 0) × (v.others < v.count)
  unfolding room_of
  has_room h = go (eqb v.free 0) refl (leb v.count v.others) refl h
    where
      go : (t : Bool) → eqb v.free 0 ≡ t → (u : Bool) → leb v.count v.others ≡ u → Ok (tt {0}) ≡ cond t (Err why.Full) (cond u (Err why.Promised) (Ok (tt {0}))) → (v.free ≢ 0) × (v.others < v.count)
      go true e u f h = cc
      go false e true f h = cc
      go false e false f h = (eqb-false v.free 0 e, leb-false v.count v.others f)

  -- where not, none is free, or the others lack them all
  pub no_room : (w : Refusal) → Err w ≡ room_of v → ((w ≡ why.Full) × (v.free ≡ 0)) ⊎ ((w ≡ why.Promised) × (v.free ≢ 0) × (v.count ≤ v.others))
  unfolding room_of
  no_room w h = go (eqb v.free 0) refl (leb v.count v.others) refl h
    where
      go : (t : Bool) → eqb v.free 0 ≡ t → (u : Bool) → leb v.count v.others ≡ u → Err w ≡ cond t (Err why.Full) (cond u (Err why.Promised) (Ok (tt {0}))) → ((w ≡ why.Full) × (v.free ≡ 0)) ⊎ ((w ≡ why.Promised) × (v.free ≢ 0) × (v.count ≤ v.others))
      go true e u f h = inl (cc, eqb-true v.free 0 e)
      go false e true f h = inr (cc, eqb-false v.free 0 e, leb-true v.count v.others f)
      go false e false f h = cc

-- 5 and 16 of a call that puts, when 7, 1, 2, 3 and 4 let it pass
crowded : (b : List ℕ) (v : View) (o : Opened b v) (call : Call) → wrong_length call ≡ false → leb (length (read_table b).rows) (log_of call) ≡ false → misplaced (row_in (read_table b) (log_of call)) call ≡ false → spent (row_in (read_table b) (log_of call)) call ≡ false
    → full (read_table b) call ≡ eqb (read_table b).free 0 → promised (read_table b) call ≡ withheld (read_table b) v.log → (w : Refusal) → Err w ≡ room_of v → Steps b call (refused (number_of w)) 0 b
crowded b v o call ea eg ep es ef eq w h = refused-step b call (number_of w) (go (no_room v w h))
  where
    go : ((w ≡ why.Full) × (v.free ≡ 0)) ⊎ ((w ≡ why.Promised) × (v.free ≢ 0) × (v.count ≤ v.others)) → table_refusal b call ≡ some (number_of w)
    go (inl (e, f)) = is-full b call ea o.whole eg ep es (ef ∙ eq-eqb _ _ (sym (view-free b v o) ∙ f)) ∙ ap (λ (x : Refusal). some (number_of x)) (sym e)
    go (inr (e, f, n)) =
        is-promised b call ea o.whole eg ep es (ef ∙ ne_eqb _ _ (λ (z : (read_table b).free ≡ 0). f (view-free b v o ∙ z))) (eq ∙ may-not b v o n)
        ∙ ap (λ (x : Refusal). some (number_of x)) (sym e)

-- ---- append

module _ (b x : List ℕ) where
  pub append-sized : (g : ℕ) → length x ≡ 32 → wrong_length (append g x) ≡ false
  unfolding wrong_length
  append-sized g h = is_32 x h

  pub append-length : (g : ℕ) → length x ≢ 32 → Steps b (append g x) (refused 7) 0 b
  unfolding wrong_length
  append-length g h = unsized b (append g x) (not-32 x h)

  module _ (v : View) (o : Opened b v) (h : length x ≡ 32) where
    high_is : v.row.high ≡ (row_in (read_table b) v.log).high
    high_is = ap (λ (r : Row). r.high) (view-row b v o)

    pub append-spent : v.row.high ≡ 2 ^ 64 - 1 → Steps b (append v.log x) (refused 4) 0 b
    unfolding misplaced spent
    append-spent e =
        let call = append v.log x in
        refused-step b call 4 (is-spent b call (append-sized v.log h) o.whole (opened-known b v o) refl (eq-eqb _ _ (sym high_is ∙ e)))

    not-spent : v.row.high ≢ 2 ^ 64 - 1 → eqb (row_in (read_table b) v.log).high (2 ^ 64 - 1) ≡ false
    not-spent n = ne_eqb _ _ (λ (q : (row_in (read_table b) v.log).high ≡ 2 ^ 64 - 1). n (high_is ∙ q))

    pub append-crowded : v.row.high ≢ 2 ^ 64 - 1 → (w : Refusal) → Err w ≡ room_of v → Steps b (append v.log x) (refused (number_of w)) 0 b
    unfolding misplaced spent full promised
    append-crowded n w e = crowded b v o (append v.log x) (append-sized v.log h) (opened-known b v o) refl (not-spent n) refl refl w e

    pub append-done : v.row.high ≢ 2 ^ 64 - 1 → Ok (tt {0}) ≡ room_of v → (after : Row) (d : List ℕ) → after ≡ appended_row v.row v.free → d ≡ entry_digest after.high x (slot_at (read_table b).slots v.row.last).digest
        → (r : Reply) (w : ℕ) (a : List ℕ) → r ≡ done v.row.low after.high → w ≡ 2 → a ≡ write_table (put (read_table b) v.log (entry_at after.high x d)) → Steps b (append v.log x) r w a
    unfolding misplaced spent full promised image_accept image_done appended_row advanced_row
    append-done n room after d ea ed r w a er ew es =
        let p = has_room v room in
        let call = append v.log x in
        let m = read_table b in
        let g = v.log in
        let top : after.high ≡ (row_in m g).high + 1 = ap (λ (w : Row). w.high) ea ∙ ap (λ (k : ℕ). k + 1) high_is in
        let entry : entry_at after.high x d ≡ new_entry ((row_in m g).high + 1) x (previous_in m g) =
        ap (entry_at after.high x) (ed ∙ ap (λ (w : Row). entry_digest after.high x (slot_at m.slots w.last).digest) (view-row b v o))
        ∙ ap (λ (k : ℕ). new_entry k x (previous_in m g)) top in
        accepted-step b call r w a
        (no-refusal b call (append-sized g h) o.whole (opened-known b v o) refl (not-spent n) (ne_eqb _ _ (λ (z : m.free ≡ 0). p.0 (view-free b v o ∙ z))) (may b v o p.1))
        (er ∙ ap₂ done (ap (λ (w : Row). w.low) (view-row b v o)) top ∙ sym (put-answer m g (new_entry ((row_in m g).high + 1) x (previous_in m g)) (omega (arith, o.log, length-rows b))))
        ew
        (es ∙ ap (λ (e : Entry). write_table (put m g e)) entry)

-- ---- advance

module _ (b : List ℕ) (n : ℕ) (d x : List ℕ) where
  pub advance-sized : (g : ℕ) → length d ≡ 32 → length x ≡ 32 → wrong_length (advance g n d x) ≡ false
  unfolding wrong_length
  advance-sized g h k = ap₂ ◌||◌ (is_32 d h) (is_32 x k)

  pub advance-digest : (g : ℕ) → length d ≢ 32 → Steps b (advance g n d x) (refused 7) 0 b
  unfolding wrong_length
  advance-digest g h = unsized b (advance g n d x) (ap (λ (t : Bool). t || not (eqb (length x) 32)) (not-32 d h))

  pub advance-value : (g : ℕ) → length d ≡ 32 → length x ≢ 32 → Steps b (advance g n d x) (refused 7) 0 b
  unfolding wrong_length
  advance-value g h k = unsized b (advance g n d x) (ap₂ ◌||◌ (is_32 d h) (not-32 x k))

  module _ (v : View) (o : Opened b v) (h : length d ≡ 32) (k : length x ≡ 32) where
    top-is : v.row.high ≡ (row_in (read_table b) v.log).high
    top-is = ap (λ (r : Row). r.high) (view-row b v o)

    pub advance-position : n ≤ v.row.high → Steps b (advance v.log n d x) (refused 3) 0 b
    unfolding misplaced
    advance-position e =
        let call = advance v.log n d x in
        refused-step b call 3 (wrong-position b call (advance-sized v.log h k) o.whole (opened-known b v o) (le-leb n _ (omega (arith, top-is))))

    pub advance-crowded : v.row.high < n → (w : Refusal) → Err w ≡ room_of v → Steps b (advance v.log n d x) (refused (number_of w)) 0 b
    unfolding misplaced spent full promised
    advance-crowded p w e = crowded b v o (advance v.log n d x) (advance-sized v.log h k) (opened-known b v o) (lt-leb n _ (omega (arith, top-is))) refl refl refl w e

    pub advance-done : v.row.high < n → Ok (tt {0}) ≡ room_of v → (after : Row) (y : List ℕ) → after ≡ advanced_row v.row n v.free → y ≡ entry_digest n x d
        → (r : Reply) (w : ℕ) (a : List ℕ) → r ≡ done v.row.low after.high → w ≡ 2 → a ≡ write_table (put (read_table b) v.log (entry_at after.high x y)) → Steps b (advance v.log n d x) r w a
    unfolding misplaced spent full promised image_accept image_done advanced_row
    advance-done p room after y ea ey r w a er ew es =
        let call = advance v.log n d x in
        let q = has_room v room in
        let m = read_table b in
        let g = v.log in
        let top : after.high ≡ n = ap (λ (w : Row). w.high) ea in
        accepted-step b call r w a
        (no-refusal b call (advance-sized g h k) o.whole (opened-known b v o) (lt-leb n _ (omega (arith, top-is))) refl (ne_eqb _ _ (λ (z : m.free ≡ 0). q.0 (view-free b v o ∙ z))) (may b v o q.1))
        (er ∙ ap₂ done (ap (λ (w : Row). w.low) (view-row b v o)) top ∙ sym (put-answer m g (new_entry n x d) (omega (arith, o.log, length-rows b))))
        ew
        (es ∙ ap₂ (λ (k : ℕ) (l : List ℕ). write_table (put m g (entry_at k x l))) top ey)

-- ---- rows

pub append-high : (r after : Row) (s : ℕ) → after ≡ appended_row r s → after ≡ advanced_row r after.high s
unfolding appended_row advanced_row
append-high r after s e = e ∙ ap (λ (k : ℕ). advanced_row r k s) (sym (ap (λ (w : Row). w.high) e))

pub advance-high : (r after : Row) (n s : ℕ) → after ≡ advanced_row r n s → (after ≡ advanced_row r after.high s) × (after.high ≡ n)
unfolding advanced_row
advance-high r after n s e = let h : after.high ≡ n = ap (λ (w : Row). w.high) e in (e ∙ ap (λ (k : ℕ). advanced_row r k s) (sym h), h)

pub append-fits : (r after : Row) (s : ℕ) → after ≡ appended_row r s → r.high < 2 ^ 64 → r.high ≢ 2 ^ 64 - 1 → after.high < 2 ^ 64
unfolding appended_row advanced_row
append-fits r after s e h n = omega (arith, ap (λ (w : Row). w.high) e)

-- ---- truncate

module _ (b : List ℕ) (n : ℕ) where
  pub truncate-sized : (g : ℕ) → wrong_length (truncate g n) ≡ false
  unfolding wrong_length
  truncate-sized g = refl

  module _ (v : View) (o : Opened b v) where
    low-at : v.row.low ≡ (row_in (read_table b) v.log).low
    low-at = ap (λ (r : Row). r.low) (view-row b v o)

    high-at : v.row.high ≡ (row_in (read_table b) v.log).high
    high-at = ap (λ (r : Row). r.high) (view-row b v o)

    outside : not (ltb (row_in (read_table b) v.log).low n && leb n (row_in (read_table b) v.log).high) ≡ true → Steps b (truncate v.log n) (refused 3) 0 b
    unfolding misplaced
    outside e = let call = truncate v.log n in refused-step b call 3 (wrong-position b call (truncate-sized v.log) o.whole (opened-known b v o) e)

    truncate-low : n ≤ v.row.low → Steps b (truncate v.log n) (refused 3) 0 b
    truncate-low h = outside (ap (λ (t : Bool). not (t && leb n (row_in (read_table b) v.log).high)) (le-ltb (row_in (read_table b) v.log).low n (omega (arith, low-at))))

    truncate-high : v.row.low < n → v.row.high < n → Steps b (truncate v.log n) (refused 3) 0 b
    truncate-high k h =
        outside (ap₂ (λ (t u : Bool). not (t && u)) (lt-ltb (row_in (read_table b) v.log).low n (omega (arith, low-at))) (lt-leb n (row_in (read_table b) v.log).high (omega (arith, high-at))))

    pub truncate-outside : (n ≤ v.row.low) ⊎ ((v.row.low < n) × (v.row.high < n)) → Steps b (truncate v.log n) (refused 3) 0 b
    truncate-outside (inl h) = truncate-low h
    truncate-outside (inr (k, h)) = truncate-high k h

    pub truncate-done : v.row.low < n → n ≤ v.row.high → (r : Reply) (w : ℕ) (a : List ℕ) → r ≡ done n v.row.high → w ≡ 0 → a ≡ write_table (lowered (releases v.counts.slots n (read_table b) v.log) v.log n) → Steps b (truncate v.log n) r w a
    unfolding misplaced spent full promised image_accept image_done lowered truncated_row
    truncate-done k h r w a er ew es =
        let call = truncate v.log n in
        let m = read_table b in
        let g = v.log in
        let q = releases-keep v.counts.slots n m g (omega (arith, o.log, length-rows b)) in
        let R : Image = releases v.counts.slots n m g in
        let row : row_in (lowered R g n) g ≡ truncated_row (row_in R g) n (row_in R g).first = row-set R g (truncated_row (row_in R g) n (row_in R g).first) q.0 in
        let count : v.counts.slots ≡ length m.slots = sym (slots_length b v o) in
        accepted-step b call r w a
        (no-refusal b call (truncate-sized g) o.whole (opened-known b v o)
        (ap₂ (λ (t u : Bool). not (t && u)) (lt-ltb (row_in m g).low n (omega (arith, low-at))) (le-leb n (row_in m g).high (omega (arith, high-at)))) refl refl refl)
        (er ∙ ap (done n) (high-at ∙ sym q.1) ∙ sym (ap (λ (w : Row). done w.low w.high) row) ∙ ap (λ (f : ℕ). done (row_in (lowered (releases f n m g) g n) g).low (row_in (lowered (releases f n m g) g n) g).high) count)
        ew
        (es ∙ ap (λ (f : ℕ). write_table (lowered (releases f n m g) g n)) count)
