-- The test `whole` and the conditions `Whole` agree, both ways.
use Prim.Native.Nat.{ℕ, zero, suc, ◌+◌, ◌-◌, ◌*◌, ◌≤◌, ◌<◌}
use mathlib.Core.Path.{◌≡◌, refl, sym, ap, ap₂, ◌∙◌}
use mathlib.Core.Logic.{◌⊎◌, inl, inr}
use mathlib.Core.List.{List, [], ◌∷◌}
use mathlib.Core.Bool.{Bool, true, false, ◌&&◌, ◌||◌}
use native.Mathlib.Omega.{arith}
use Rattle.std.proofs.lemmas.Bool.{or_right}
use borrow.Author.Tests.{eq-eqb, le-leb, eqb-true, eqb-false, leb-true}
use lib.Dec.{eqb, leb}
use lib.ListN.{length, length-append}
use Rattle.octets.specs.Octets.{part, same, zeros}
use Rattle.octets.proofs.Same.{same-eq, eq-same}
use Rattle.layout.specs.declared.Row.{Row}
use Rattle.layout.specs.Image.{Slot, Image, slot_at}
use Rattle.layout.specs.Layout.{plan, mark, zero_offset, slot_size, row_offset, logs_of, slots_of, read_table, stock_of}
use Rattle.layout.proofs.TableLaws.{length-slots}
use Rattle.table.specs.Chains.{reaches, chain, last_of, positions_of}
use Rattle.table.specs.Free.{free_chain}
use Rattle.table.specs.Reserve.{lack_from, lack_but, lack_all}
use Rattle.table.specs.WholeImage.{all, free_ok, fresh, rising_from, started, row_ok, rows_ok, held_by, meets, linked, whole_image}
use Rattle.layout.specs.Tests.{blank}
use Rattle.table.specs.Whole.{whole, stock_fits}
use Rattle.layout.specs.Tests.{constants_fit, header_fits, all_below, pads_from, pads_fit}
use Rattle.table.specs.Conditions.{Links, Blank, Each, Rising, Fresh, Started, Rows, total_of, lack_with, Whole}
use Rattle.layout.proofs.TestLaws.{and_yes, and_split}
use Rattle.table.proofs.WalkLaws.{chain-none}
use Rattle.layout.proofs.HeaderLaws.{in-range, header-parts, header-test}
use Rattle.table.proofs.LinkedLaws.{length_meets}
use Rattle.table.proofs.LinkLaws.{links-reach, reach-links}
use Rattle.table.proofs.ReserveLaws.{lack-in}

-- blank slots

blank_conditions : (s : Slot) → blank s ≡ true → Blank s
unfolding blank
blank_conditions s e =
    let t = and_split (eqb s.position 0 && same s.value (zeros 32)) (same s.digest (zeros 32)) e in
    let u = and_split (eqb s.position 0) (same s.value (zeros 32)) t.0 in
    record { position = eqb-true s.position 0 u.0; value = same-eq s.value (zeros 32) u.1; digest = same-eq s.digest (zeros 32) t.1 }

blank_test : (s : Slot) → Blank s → blank s ≡ true
unfolding blank
blank_test s h = and_yes _ (and_yes _ (eq-eqb s.position 0 h.position) ∙ eq-same s.value (zeros 32) h.value) ∙ eq-same s.digest (zeros 32) h.digest

all-each : (slots : List Slot) (c : List ℕ) → all (λ (s : ℕ). blank (slot_at slots s)) c ≡ true → Each (λ (s : ℕ). Blank (slot_at slots s)) c
unfolding all
all-each slots [] e = tt
all-each slots (x ∷ c) e =
    let t = and_split (blank (slot_at slots x)) (all (λ (s : ℕ). blank (slot_at slots s)) c) e in
    (blank_conditions (slot_at slots x) t.0, all-each slots c t.1)

each_all : (slots : List Slot) (c : List ℕ) → Each (λ (s : ℕ). Blank (slot_at slots s)) c → all (λ (s : ℕ). blank (slot_at slots s)) c ≡ true
unfolding all
each_all slots [] h = refl
each_all slots (x ∷ c) h = and_yes _ (blank_test (slot_at slots x) h.0) ∙ each_all slots c h.1

-- rising positions

rising_conditions : (b : ℕ) (ps : List ℕ) → rising_from b ps ≡ true → Rising b ps
unfolding rising_from
rising_conditions b [] e = tt
rising_conditions b (x ∷ ps) e = let t = and_split (leb b x) (rising_from (suc x) ps) e in (leb-true b x t.0, rising_conditions (suc x) ps t.1)

rising_test : (b : ℕ) (ps : List ℕ) → Rising b ps → rising_from b ps ≡ true
unfolding rising_from
rising_test b [] h = refl
rising_test b (x ∷ ps) h = and_yes _ (le-leb b x h.0) ∙ rising_test (suc x) ps h.1

-- one row

module _ (slots : List Slot) (g : ℕ) (r : Row) where
  fresh-conditions : fresh r ≡ true → Fresh r (chain slots (suc g) r.first)
  unfolding fresh
  fresh-conditions e =
      let t = and_split (eqb r.low 1 && eqb r.high 0 && eqb r.first 0) (eqb r.last 0) e in
      let u = and_split (eqb r.low 1 && eqb r.high 0) (eqb r.first 0) t.0 in
      let v = and_split (eqb r.low 1) (eqb r.high 0) u.0 in
      let f : r.first ≡ 0 = eqb-true r.first 0 u.1 in
      record { low = eqb-true r.low 1 v.0; high = eqb-true r.high 0 v.1; first = f; last = eqb-true r.last 0 t.1; empty = chain-none slots (suc g) r.first f }

  fresh-test : (c : List ℕ) → Fresh r c → fresh r ≡ true
  unfolding fresh
  fresh-test c h =
      and_yes _ (and_yes _ (and_yes _ (eq-eqb r.low 1 h.low) ∙ eq-eqb r.high 0 h.high) ∙ eq-eqb r.first 0 h.first) ∙ eq-eqb r.last 0 h.last

  started-conditions : reaches slots (suc g) r.first && started r (chain slots (suc g) r.first) (positions_of slots (chain slots (suc g) r.first)) ≡ true → Started slots g r (chain slots (suc g) r.first)
  unfolding started
  started-conditions e =
      let c : List ℕ = chain slots (suc g) r.first in
      let ps : List ℕ = positions_of slots c in
      let s = and_split (reaches slots (suc g) r.first) (started r c ps) e in
      let t = and_split (leb 1 r.low && leb r.low r.high && rising_from r.low ps && eqb (last_of ps) r.high) (eqb (last_of c) r.last) s.1 in
      let u = and_split (leb 1 r.low && leb r.low r.high && rising_from r.low ps) (eqb (last_of ps) r.high) t.0 in
      let v = and_split (leb 1 r.low && leb r.low r.high) (rising_from r.low ps) u.0 in
      let w = and_split (leb 1 r.low) (leb r.low r.high) v.0 in
      record {
        least = leb-true 1 r.low w.0;
        order = leb-true r.low r.high w.1;
        own = reach-links slots (suc g) r.first s.0;
        last = eqb-true (last_of c) r.last t.1;
        rising = rising_conditions r.low ps v.1;
        high = eqb-true (last_of ps) r.high u.1;
      }

  started-test : (c : List ℕ) → Started slots g r c → started r c (positions_of slots c) ≡ true
  unfolding started
  started-test c h =
      let ps : List ℕ = positions_of slots c in
      and_yes _ (and_yes _ (and_yes _ (and_yes _ (le-leb 1 r.low h.least) ∙ le-leb r.low r.high h.order) ∙ rising_test r.low ps h.rising) ∙ eq-eqb (last_of ps) r.high h.high)
      ∙ eq-eqb (last_of c) r.last h.last

  pub row-conditions : row_ok slots g r ≡ true → Fresh r (chain slots (suc g) r.first) ⊎ Started slots g r (chain slots (suc g) r.first)
  unfolding row_ok
  row-conditions = go (fresh r) refl
    where
      go : (t : Bool) → fresh r ≡ t → t || (reaches slots (suc g) r.first && started r (chain slots (suc g) r.first) (positions_of slots (chain slots (suc g) r.first))) ≡ true → Fresh r (chain slots (suc g) r.first) ⊎ Started slots g r (chain slots (suc g) r.first)
      go true e h = inl (fresh-conditions e)
      go false e h = inr (started-conditions h)

  -- the row's test, and its chain
  row-test : (c : List ℕ) → length c ≤ length slots → Fresh r c ⊎ Started slots g r c → (row_ok slots g r ≡ true) × (chain slots (suc g) r.first ≡ c)
  unfolding row_ok
  row-test c l (inl h) = (
    ap (λ (t : Bool). t || (reaches slots (suc g) r.first && started r (chain slots (suc g) r.first) (positions_of slots (chain slots (suc g) r.first)))) (fresh-test c h),
    chain-none slots (suc g) r.first h.first ∙ sym h.empty,
  )
  row-test c l (inr h) =
      let k = links-reach slots (suc g) r.first c h.own l in
      (or_right (fresh r) _ (and_yes _ k.0 ∙ ap (λ (d : List ℕ). started r d (positions_of slots d)) k.1 ∙ started-test c h), k.1)

-- all rows

-- top is no log's number from g on
rows_conditions : (slots : List Slot) (top g : ℕ) (rs : List Row) → g + length rs ≤ top → rows_ok slots g rs ≡ true
    → (cs : List (List ℕ)) × Rows slots g rs cs × (total_of cs ≡ length (held_by slots g rs)) × (lack_with rs cs ≡ lack_from slots top g rs)
unfolding rows_ok held_by total_of lack_with lack_from
rows_conditions slots top g [] l e = ([], tt, refl, refl)
rows_conditions slots top g (r ∷ rs) l e =
    let t = and_split (row_ok slots g r) (rows_ok slots (suc g) rs) e in
    let k = rows_conditions slots top (suc g) rs (omega arith) t.1 in
    let c : List ℕ = chain slots (suc g) r.first in
    (c ∷ k.0, (row-conditions slots g r t.0, k.1), ap (λ (n : ℕ). length c + n) k.2 ∙ sym (length-append c (held_by slots (suc g) rs)), ap₂ ◌+◌ (sym (lack-in slots top g r (λ e. omega arith))) k.3)

rows_test : (slots : List Slot) (top g : ℕ) (rs : List Row) (cs : List (List ℕ)) → g + length rs ≤ top → Rows slots g rs cs → total_of cs ≤ length slots
    → (rows_ok slots g rs ≡ true) × (length (held_by slots g rs) ≡ total_of cs) × (lack_from slots top g rs ≡ lack_with rs cs)
unfolding rows_ok held_by total_of lack_with lack_from
rows_test slots top g [] [] q h l = (refl, refl, refl)
rows_test slots top g [] (c ∷ cs) q h l = absurd h
rows_test slots top g (r ∷ rs) [] q h l = absurd h
rows_test slots top g (r ∷ rs) (c ∷ cs) q h l =
    let k = rows_test slots top (suc g) rs cs (omega arith) h.1 (omega arith) in
    let t = row-test slots g r c (omega arith) h.0 in
    (and_yes _ t.0 ∙ k.0, length-append (chain slots (suc g) r.first) (held_by slots (suc g) rs) ∙ ap₂ ◌+◌ (ap length t.1) k.1, ap₂ ◌+◌ (lack-in slots top g r (λ e. omega arith) ∙ ap (λ (d : List ℕ). r.reserve - length d) t.1) k.2)

-- zero bytes of slots

module _ (b : List ℕ) (start : ℕ) where
  abbrev Pad : ℕ → Type 0
  Pad i = part b (start + slot_size * i + 1) 1 ≡ zeros 1

  pub pads-conditions : (n : ℕ) → pads_from b start n ≡ true → (i : ℕ) → i < n → Pad i
  unfolding pads_from all_below
  pads-conditions zero e i h = absurd (omega arith)
  pads-conditions (suc n) e i h =
      let t = and_split (same (part b (start + slot_size * n + 1) 1) (zeros 1)) (pads_from b start n) e in
      go (λ k. pads-conditions n t.1 i k) (same-eq (part b (start + slot_size * n + 1) 1) (zeros 1) t.0) (eqb i n) refl
    where
      go : (i < n → Pad i) → Pad n → (q : Bool) → eqb i n ≡ q → Pad i
      go below at true q = ap (λ (j : ℕ). part b (start + slot_size * j + 1) 1) (eqb-true i n q) ∙ at
      go below at false q = below (omega (arith, eqb-false i n q))

  pub pads-test : (n : ℕ) → ((i : ℕ) → i < n → Pad i) → pads_from b start n ≡ true
  unfolding pads_from all_below
  pads-test zero h = refl
  pads-test (suc n) h = and_yes _ (eq-same (part b (start + slot_size * n + 1) 1) (zeros 1) (h n (omega arith))) ∙ pads-test n (λ i k. h i (omega arith))

-- the header

pub constants_test : (b : List ℕ) → part b 0 4 ≡ mark → part b zero_offset 1 ≡ zeros 1 → constants_fit b ≡ true
unfolding constants_fit
constants_test b m z = and_yes _ (eq-same (part b 0 4) mark m) ∙ eq-same (part b zero_offset 1) (zeros 1) z

constants_conditions : (b : List ℕ) → constants_fit b ≡ true → (part b 0 4 ≡ mark) × (part b zero_offset 1 ≡ zeros 1)
unfolding constants_fit
constants_conditions b e =
    let t = and_split (same (part b 0 4) mark) (same (part b zero_offset 1) (zeros 1)) e in
    (same-eq (part b 0 4) mark t.0, same-eq (part b zero_offset 1) (zeros 1) t.1)

-- the clauses on chains, of an image

pub record Linked (m : Image) : Type 0 where
  pub free : Links m.slots 0 m.free (free_chain m) 0
  pub blank : Each (λ (s : ℕ). Blank (slot_at m.slots s)) (free_chain m)
  pub chains : List (List ℕ)
  pub rows : Rows m.slots 0 m.rows chains
  pub total : length (free_chain m) + total_of chains ≡ length m.slots
  pub lack : lack_with m.rows chains ≡ lack_all m

pub linked_conditions : (m : Image) → linked m ≡ true → Linked m
unfolding free_ok lack_all lack_but
linked_conditions m e =
    let u = and_split (free_ok m && rows_ok m.slots 0 m.rows) (eqb (length (meets m)) (length m.slots)) e in
    let v = and_split (free_ok m) (rows_ok m.slots 0 m.rows) u.0 in
    let f = and_split (reaches m.slots 0 m.free) (all (λ (s : ℕ). blank (slot_at m.slots s)) (chain m.slots 0 m.free)) v.0 in
    let r = rows_conditions m.slots (length m.rows) 0 m.rows (omega arith) v.1 in
    record {
      free = reach-links m.slots 0 m.free f.0;
      blank = all-each m.slots (free_chain m) f.1;
      chains = r.0;
      rows = r.1;
      total = ap (λ (n : ℕ). length (free_chain m) + n) r.2 ∙ sym (length_meets m) ∙ eqb-true (length (meets m)) (length m.slots) u.1;
      lack = r.3;
    }

-- the test, the free chain that it finds, and what the logs lack
pub conditions-linked : (m : Image) (freed : List ℕ) (chains : List (List ℕ)) → Links m.slots 0 m.free freed 0 → Each (λ (s : ℕ). Blank (slot_at m.slots s)) freed
    → Rows m.slots 0 m.rows chains → length freed + total_of chains ≡ length m.slots → (linked m ≡ true) × (free_chain m ≡ freed) × (lack_all m ≡ lack_with m.rows chains)
unfolding free_ok lack_all lack_but
conditions-linked m freed chains l b rows t =
    let f = links-reach m.slots 0 m.free freed l (omega arith) in
    let r = rows_test m.slots (length m.rows) 0 m.rows chains (omega arith) rows (omega arith) in (
      and_yes _ (and_yes _ (and_yes _ f.0 ∙ (ap (all (λ (s : ℕ). blank (slot_at m.slots s))) f.1 ∙ each_all m.slots freed b)) ∙ r.0)
          ∙ eq-eqb (length (meets m)) (length m.slots) (length_meets m ∙ ap₂ ◌+◌ (ap length f.1) r.1 ∙ t),
      f.1,
      r.2,
    )

-- the test tells the conditions

pub whole_conditions : (b : List ℕ) → whole b ≡ true → Whole b
unfolding whole whole_image stock_fits
whole_conditions b e =
    let m : Image = read_table b in
    let a = and_split (header_fits b && pads_fit b && whole_image m) (stock_fits b) e in
    let k₂ = and_split (eqb (stock_of b).count (length (free_chain m))) (eqb (stock_of b).last (last_of (free_chain m))) a.1 in
    let s = and_split (header_fits b && pads_fit b) (whole_image m) a.0 in
    let t = and_split (header_fits b) (pads_fit b) s.0 in
    let p = header-parts plan constants_fit b t.0 in
    let k = constants_conditions b p.0 in
    let n = and_split (linked m) (leb (lack_all m) (length (free_chain m))) s.1 in
    let l = linked_conditions m n.0 in
    record {
      sized = p.2;
      marked = k.0;
      zero = k.1;
      pads = pads-conditions b (row_offset (logs_of b)) (slots_of b) t.1;
      counts = in-range (logs_of b) (slots_of b) p.1;
      freed = free_chain m;
      free = l.free;
      blank = l.blank;
      number = eqb-true (stock_of b).count (length (free_chain m)) k₂.0;
      last = eqb-true (stock_of b).last (last_of (free_chain m)) k₂.1;
      chains = l.chains;
      rows = l.rows;
      total = l.total ∙ length-slots b;
      enough = omega (arith, l.lack, leb-true (lack_all m) (length (free_chain m)) n.1);
    }

-- and the conditions the test

pub conditions-whole : (b : List ℕ) → Whole b → whole b ≡ true
unfolding whole whole_image stock_fits
conditions-whole b w =
    let m : Image = read_table b in
    let l = conditions-linked m w.freed w.chains w.free w.blank w.rows (w.total ∙ sym (length-slots b)) in
    and_yes _ (and_yes _ (and_yes _ (header-test plan constants_fit b (constants_test b w.marked w.zero) w.counts w.sized) ∙ pads-test b (row_offset (logs_of b)) (slots_of b) w.pads)
    ∙ (and_yes _ l.0 ∙ le-leb (lack_all m) (length (free_chain m)) (omega (arith, l.2, w.enough, ap length l.1))))
    ∙ (and_yes _ (eq-eqb (stock_of b).count (length (free_chain m)) (w.number ∙ sym (ap length l.1))) ∙ eq-eqb (stock_of b).last (last_of (free_chain m)) (w.last ∙ sym (ap last_of l.1)))
