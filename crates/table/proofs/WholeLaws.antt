-- What a whole table tells its callers: its bytes are its image's table, and its number and last are those of its free slots; and whole bytes of an image are a whole image.
use Prim.Native.Nat.{ℕ}
use mathlib.Core.Path.{◌≡◌, refl, sym, ap, ◌∙◌}
use mathlib.Core.List.{List}
use mathlib.Core.Bool.{Bool, true, false, ◌&&◌}
use native.Mathlib.Omega.{arith}
use borrow.Author.Tests.{eq-eqb, eqb-true}
use Rattle.octets.specs.Octets.{Bytes}
use lib.Dec.{eqb}
use lib.ListN.{length}
use Rattle.layout.specs.Image.{Image}
use Rattle.layout.specs.Layout.{plan, Stock, row_offset, logs_of, slots_of, read_table, stock_of, write_with}
use Rattle.layout.specs.Fits.{Fits, StockFits, Formed}
use Rattle.layout.proofs.TableLaws.{logs-written, slots-written, read-with, stock-with, formed-with, write_read as write-with}
use Rattle.table.specs.Chains.{last_of}
use Rattle.table.specs.Free.{free_chain, joint, stock_in, write_table}
use Rattle.table.specs.Reserve.{lack_but}
use Rattle.table.specs.WholeImage.{whole_image}
use Rattle.table.specs.Whole.{whole, stock_fits, checked, check_of}
use Rattle.layout.specs.Tests.{constants_fit, header_fits, pads_fit}
use Rattle.layout.proofs.HeaderLaws.{header-test}
use Rattle.layout.specs.Fits.{Range}
use Rattle.layout.proofs.TestLaws.{and_yes, and_split}
use Rattle.table.proofs.WalkLaws.{chain-short}
use Rattle.table.proofs.LinkLaws.{chain-within}
use Rattle.table.proofs.ConditionLaws.{constants_test, pads-test, whole_conditions}
use Rattle.table.proofs.Found.{found_whole, whole-same}
use Rattle.std.proofs.Common.{Err}
use Rattle.refusal.specs.declared.Refusal.TheVariants.{Torn}

pub whole_formed : (b : List ℕ) → whole b ≡ true → Formed b
whole_formed b e = let w = whole_conditions b e in record { marked = w.marked; zero = w.zero; pads = w.pads; sized = w.sized }

pub whole-range : (b : List ℕ) → whole b ≡ true → Range (logs_of b) (slots_of b)
whole-range b e = (whole_conditions b e).counts

whole_parts : (b : List ℕ) → whole b ≡ true → (whole_image (read_table b) ≡ true) × (stock_fits b ≡ true)
unfolding whole
whole_parts b e =
    let s = and_split (header_fits b && pads_fit b && whole_image (read_table b)) (stock_fits b) e in
    ((and_split (header_fits b && pads_fit b) (whole_image (read_table b)) s.0).1, s.1)

pub whole-image : (b : List ℕ) → whole b ≡ true → whole_image (read_table b) ≡ true
whole-image b e = (whole_parts b e).0

stock-parts : (b : List ℕ) → stock_fits b ≡ true → ((stock_of b).count ≡ length (free_chain (read_table b))) × ((stock_of b).last ≡ last_of (free_chain (read_table b)))
unfolding stock_fits
stock-parts b e =
    let s = and_split (eqb (stock_of b).count (length (free_chain (read_table b)))) (eqb (stock_of b).last (joint (read_table b))) e in
    (eqb-true (stock_of b).count (length (free_chain (read_table b))) s.0, eqb-true (stock_of b).last (joint (read_table b)) s.1)

-- request [1]: "On a whole table it equals the length of the free chain."
pub whole-count : (b : List ℕ) → whole b ≡ true → (stock_of b).count ≡ length (free_chain (read_table b))
whole-count b e = (stock-parts b (whole_parts b e).1).0

-- request [4]: "bytes 52–53 naming the last free slot, 0 if none"
pub whole-last : (b : List ℕ) → whole b ≡ true → (stock_of b).last ≡ last_of (free_chain (read_table b))
whole-last b e = (stock-parts b (whole_parts b e).1).1

whole_stock : (b : List ℕ) → whole b ≡ true → stock_of b ≡ stock_in (read_table b)
whole_stock b e = λ i. record { count = whole-count b e i; last = whole-last b e i }

-- what the bytes of an image say, whatever its free chain
module _ (m : Image) (h : Fits m) where
  -- a chain is no longer than the table, and stays in it
  stock-fits : StockFits (stock_in m)
  stock-fits = record { count = omega (arith, chain-short m.slots 0 m.free, h.count); last = omega (arith, chain-within m.slots 0 m.free, h.count) }

  pub read-write : read_table (write_table m) ≡ m
  unfolding write_table
  read-write = read-with (stock_in m) m h

  pub stock-write : stock_of (write_table m) ≡ stock_in m
  unfolding write_table
  stock-write = stock-with (stock_in m) m h stock-fits

-- a whole table's bytes are those of its image
pub write_read : (b : List ℕ) → Bytes b → whole b ≡ true → write_table (read_table b) ≡ b
unfolding write_table
write_read b h e = ap (λ (k : Stock). write_with k (read_table b)) (sym (whole_stock b e)) ∙ write-with b h (whole_formed b e)

-- bytes of a table's length, constants, counts and number of free slots are whole when their image is
formed-whole : (b : List ℕ) → Formed b → Range (logs_of b) (slots_of b) → stock_of b ≡ stock_in (read_table b) → whole b ≡ whole_image (read_table b)
unfolding whole stock_fits
formed-whole b f r k =
    and-true _ (and_yes _ (eq-eqb (stock_of b).count (length (free_chain (read_table b))) (ap (λ (x : Stock). x.count) k)) ∙ eq-eqb (stock_of b).last (joint (read_table b)) (ap (λ (x : Stock). x.last) k))
    ∙ and_yes _ (and_yes _ (header-test plan constants_fit b (constants_test b f.marked f.zero) r f.sized) ∙ pads-test b (row_offset (logs_of b)) (slots_of b) f.pads)
  where
    and-true : (x : Bool) {y : Bool} → y ≡ true → x && y ≡ x
    and-true true e = e
    and-true false e = refl

-- and so are the bytes of an image
pub written-whole : (m : Image) → Fits m → Range (length m.rows) (length m.slots) → whole (write_table m) ≡ whole_image m
unfolding write_table
written-whole m h r =
    formed-whole (write_table m) (formed-with (stock_in m) m h) (range (logs-written (stock_in m) m h) (slots-written (stock_in m) m h)) (stock-write m h ∙ ap stock_in (sym (read-write m h))) ∙ ap whole_image (read-write m h)
  where
    range : logs_of (write_table m) ≡ length m.rows → slots_of (write_table m) ≡ length m.slots → Range (logs_of (write_table m)) (slots_of (write_table m))
    range l s =
        record { logs-least = omega (arith, r.logs-least); logs-most = omega (arith, r.logs-most); slots-least = omega (arith, r.slots-least); slots-most = omega (arith, r.slots-most) }

-- what the check's answer tells

checked_torn : (t : Bool) (c : List ℕ) (o : ℕ) → Err Torn ≡ checked t c o → t ≡ false
unfolding checked
checked_torn true c o e = cc
checked_torn false c o e = refl

checked-whole : (t : Bool) (c : List ℕ) (o n last others : ℕ) → found_whole n last others ≡ checked t c o → (t ≡ true) × (length c ≡ n) × (last_of c ≡ last) × (o ≡ others)
unfolding checked
checked-whole true c o n last others e = let s = whole-same (record { free = n; last = last; others = others }) (record { free = length c; last = last_of c; others = o }) e in (refl, sym s.0, sym s.1, sym s.2)
checked-whole false c o n last others e = cc

pub check_torn : (b : List ℕ) (g : ℕ) → Err Torn ≡ check_of b g → whole b ≡ false
unfolding check_of
check_torn b g e = checked_torn (whole b) (free_chain (read_table b)) (lack_but (read_table b) g) e

pub check-whole : (b : List ℕ) (g n last others : ℕ) → found_whole n last others ≡ check_of b g
    → (whole b ≡ true) × (length (free_chain (read_table b)) ≡ n) × (last_of (free_chain (read_table b)) ≡ last) × (lack_but (read_table b) g ≡ others)
unfolding check_of
check-whole b g n last others e = checked-whole (whole b) (free_chain (read_table b)) (lack_but (read_table b) g) n last others e
