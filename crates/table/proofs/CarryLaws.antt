-- Request [8]: what an accepted carry has passed and writes, and what a refused one leaves.
use Prim.Native.Nat.{ℕ}
use mathlib.Core.Path.{◌≡◌, refl, sym, ap, ◌∙◌, subst}
use mathlib.Core.List.{List, [], ◌∷◌}
use mathlib.Core.Bool.{Bool, true, false, cond, not}
use mathlib.Core.Logic.{◌≢◌}
use mathlib.Core.Option.{Option, none, some}
use native.Mathlib.Omega.{arith}
use borrow.Author.Tests.{ne_eqb, eq-eqb, eqb-true, not-false}
use lib.Dec.{eqb}
use lib.ListN.{length}
use Rattle.octets.specs.Octets.{Bytes}
use Rattle.refusal.specs.Order.{fault, first_fault, answer_of}
use Rattle.refusal.proofs.OrderLaws.{found_first, passes, peel, refused-is, done-is}
use Rattle.layout.specs.Layout.{plan01, mark, logs_of, slots_of, table_size, read_table, stock_of}
use Rattle.layout.specs.Layout01.{read01}
use Rattle.layout.specs.Fits.{Fits, Range}
use Rattle.layout.proofs.Layout01Laws.{length_rows01, length_slots01, unreserved01}
use Rattle.table.specs.Free.{free_chain, stock_in, write_table}
use Rattle.table.specs.Whole.{whole}
use Rattle.table.specs.Whole01.{whole01}
use Rattle.table.specs.Carry.{carry_refusal, carry_bytes}
use Rattle.table.proofs.ConditionLaws.{whole_conditions}
use Rattle.table.proofs.ConditionLaws01.{whole01-formed, whole01-linked, whole01-fits}
use Rattle.table.proofs.ReserveLaws.{unreserved-whole}
use Rattle.table.proofs.WholeLaws.{read-write, stock-write, written-whole}

-- the two tests, in order

module _ (old : List ℕ) (size : ℕ) where
  abbrev sized : Bool
  sized = eqb size (table_size (logs_of old) (slots_of old))

  -- "an old table that 01 calls torn gives 1"
  pub carry-torn : whole01 old ≡ false → carry_refusal old size ≡ some 1
  unfolding carry_refusal
  carry-torn e = found_first 1 (not (whole01 old)) (fault 7 (not sized) ∷ []) (ap not e)

  -- "another buffer length then 7"
  pub carry-sized : whole01 old ≡ true → carry_refusal old size ≡ cond sized none (some 7)
  unfolding carry_refusal first_fault
  carry-sized e = passes 1 (not (whole01 old)) (fault 7 (not sized) ∷ []) (ap not e) ∙ go sized
    where
      go : (t : Bool) → cond {A = Option ℕ} (not t) (some 7) none ≡ cond t none (some 7)
      go true = refl
      go false = refl

  pub carry-passes : carry_refusal old size ≡ none → (whole01 old ≡ true) × (size ≡ table_size (logs_of old) (slots_of old))
  unfolding carry_refusal
  carry-passes e =
      let p = peel 1 (not (whole01 old)) (fault 7 (not sized) ∷ []) e in
      let q = peel 7 (not sized) [] p.1 in
      (not-false (whole01 old) p.0, eqb-true size (table_size (logs_of old) (slots_of old)) (not-false sized q.0))

  -- a table of the present layout is no old table
  pub present-torn : whole old ≡ true → carry_refusal old size ≡ some 1
  present-torn e = carry-torn (go (whole01 old) refl)
    where
      go : (t : Bool) → whole01 old ≡ t → t ≡ false
      go true h = absurd (let m : mark ≡ plan01.mark = sym (whole_conditions old e).marked ∙ (whole01-formed old h).marked in let z : ◌≡◌ {A = ℕ} 85 84 = cc in omega arith)
      go false h = refl

-- answer and bytes, way out by way out

module _ (old lent : List ℕ) where
  abbrev Answers : ℕ → List ℕ → Type 0
  Answers n a = (n ≡ answer_of (carry_refusal old (length lent))) × (a ≡ carry_bytes old lent)

  pub refused-torn : whole01 old ≡ false → Answers 1 lent
  unfolding carry_bytes
  refused-torn e = refused-is 1 (write_table (read01 old)) lent (carry-torn old (length lent) e)

  pub refused-length : whole01 old ≡ true → length lent ≢ table_size (logs_of old) (slots_of old) → Answers 7 lent
  unfolding carry_bytes
  refused-length e h =
      refused-is 7 (write_table (read01 old)) lent (carry-sized old (length lent) e ∙ ap (λ (t : Bool). cond {A = Option ℕ} t none (some 7)) (ne_eqb (length lent) (table_size (logs_of old) (slots_of old)) h))

  pub accepted : (a : List ℕ) → whole01 old ≡ true → length lent ≡ table_size (logs_of old) (slots_of old) → a ≡ write_table (read01 old) → Answers 0 a
  unfolding carry_bytes
  accepted a e h w =
      let d = done-is (write_table (read01 old)) lent (carry-sized old (length lent) e ∙ ap (λ (t : Bool). cond {A = Option ℕ} t none (some 7)) (eq-eqb (length lent) (table_size (logs_of old) (slots_of old)) h)) in
      (d.0, w ∙ d.1)

  -- a refused carry changes no lent byte
  pub stays : (k : ℕ) → carry_refusal old (length lent) ≡ some k → carry_bytes old lent ≡ lent
  unfolding carry_bytes
  stays k e = sym (refused-is k (write_table (read01 old)) lent e).1

-- what an accepted carry writes

module _ (old lent : List ℕ) (bytes : Bytes old) (e : carry_refusal old (length lent) ≡ none) where
  whole-old : whole01 old ≡ true
  whole-old = (carry-passes old (length lent) e).0

  fits : Fits (read01 old)
  fits = whole01-fits old bytes whole-old

  written : carry_bytes old lent ≡ write_table (read01 old)
  unfolding carry_bytes
  written = sym (done-is (write_table (read01 old)) lent e).1

  range : Range (length (read01 old).rows) (length (read01 old).slots)
  range = subst (λ (g : ℕ). Range g (length (read01 old).slots)) (sym (length_rows01 old)) (subst (Range (logs_of old)) (sym (length_slots01 old)) (whole01-formed old whole-old).counts)

  -- "G, S, keeper number, key and each log's L, H and entries in their slots stay, reserves become zero": the new table says what the old one said, in which
  -- no row has a reserve (`Layout01Laws: unreserved01`)
  pub carried : read_table (carry_bytes old lent) ≡ read01 old
  carried = ap read_table written ∙ read-write (read01 old) fits

  -- a carried table is whole: reserves of zero ask for nothing
  pub carried-whole : whole (carry_bytes old lent) ≡ true
  carried-whole = ap whole written ∙ written-whole (read01 old) fits range ∙ unreserved-whole (read01 old) (unreserved01 old) ∙ whole01-linked old whole-old

  -- "the free queue follows the old chain"
  pub carried-queue : free_chain (read_table (carry_bytes old lent)) ≡ free_chain (read01 old)
  carried-queue = ap free_chain carried

  -- and the header has its length and its last
  pub carried-stock : stock_of (carry_bytes old lent) ≡ stock_in (read01 old)
  carried-stock = ap stock_of written ∙ stock-write (read01 old) fits
