-- The check, way out by way out.
use Prim.Native.Nat.{ℕ, ◌+◌, ◌-◌, ◌≤◌, ◌<◌}
use mathlib.Core.Path.{◌≡◌, refl, sym, ap, ap₂, ◌∙◌}
use mathlib.Core.Bool.{Bool, true, false, not, ◌&&◌}
use mathlib.Core.List.{List, [], ◌∷◌}
use mathlib.Core.Logic.{◌≢◌}
use native.Mathlib.Omega.{arith}
use borrow.Author.Tests.{eq-eqb, ne_eqb, le-leb, lt-leb}
use lib.Dec.{eqb}
use lib.ListN.{length}
use Rattle.refusal.specs.declared.Refusal.{Refusal}
use Rattle.refusal.specs.Number.{number_of, outcome_number}
use Rattle.std.specs.Result.{MatchResult, IsOkAnd}
use Rattle.table.specs.declared.Whole.{Whole}
use Rattle.refusal.specs.Order.{fault, first_fault, answer_of}
use Rattle.layout.specs.Image.{Slot}
use Rattle.layout.specs.Layout.{plan, row_offset, free_of, read_table, stock_of}
use Rattle.layout.specs.Strict.{strict_from, with_slots, strict_table}
use Rattle.layout.specs.Fits.{Counted}
use Rattle.layout.specs.declared.Counts.{Counts}
use Rattle.table.specs.declared.Met.{Met}
use Rattle.table.specs.declared.Holding.{Holding}
use Rattle.table.specs.Chains.{last_of}
use Rattle.table.specs.Free.{free_chain, joint}
use Rattle.table.specs.Reserve.{lack_but, lack_all}
use Rattle.table.specs.Walks.{free_walk, held_walk}
use Rattle.table.specs.WholeImage.{free_ok, rows_ok, held_by, linked, whole_image}
use Rattle.table.specs.Whole.{whole, stock_fits, whole_refusal, checked, check_of}
use Rattle.layout.specs.Tests.{header_fits, pads_from, pads_fit}
use Rattle.layout.proofs.TestLaws.{and_yes, and_no, and-not}
use Rattle.layout.proofs.CellLaws.{slotted}
use Rattle.layout.proofs.StrictCells.{length-strict, strict-are}
use Rattle.layout.proofs.TableLaws.{length-rows, length-slots, cells_are}
use Rattle.table.proofs.LinkedLaws.{free-broken, rows-broken, free-met, rows-met, not-all-met, all-met}
use Rattle.table.proofs.StrictLaws.{pads-same, linked-pads}
use Rattle.table.proofs.Found.{Checked, found_whole}
use Rattle.std.proofs.Common.{Some, None, Result, Ok, Err}
use Rattle.refusal.specs.declared.Refusal.TheVariants.{Torn}

torn : (b : List ℕ) → whole b ≡ false → (g : ℕ) → Err Torn ≡ check_of b g
unfolding check_of checked
torn b e g = sym (ap (λ (t : Bool). checked t (free_chain (read_table b)) (lack_but (read_table b) g)) e)

torn-image : (b : List ℕ) → whole_image (read_table b) ≡ false → (g : ℕ) → Err Torn ≡ check_of b g
unfolding whole
torn-image b e = torn b (and_no _ (and-not (header_fits b && pads_fit b) e))

torn-linked : (b : List ℕ) → linked (read_table b) ≡ false → (g : ℕ) → Err Torn ≡ check_of b g
unfolding whole_image
torn-linked b e = torn-image b (and_no _ e)

pub torn-header : (b : List ℕ) → header_fits b ≡ false → (g : ℕ) → Err Torn ≡ check_of b g
unfolding whole
torn-header b h = torn b (and_no _ (and_no _ (and_no _ h)))

-- the walks read each slot with its zero byte; where these are not all zero, the table is torn whatever they find
unless : (b : List ℕ) (g : ℕ) → (pads_fit b ≡ true → Err Torn ≡ check_of b g) → Err Torn ≡ check_of b g
unfolding whole
unless b g f = go (pads_fit b) refl
  where
    go : (t : Bool) → pads_fit b ≡ t → Err Torn ≡ check_of b g
    go true e = f e
    go false e = torn b (and_no _ (and_no _ (and-not (header_fits b) e))) g

module _ (b : List ℕ) (logs slots : ℕ) (c : Counted b logs slots) (start : ℕ) (at : start ≡ row_offset logs) where
  pads-as : pads_from b start slots ≡ pads_fit b
  pads-as = ap (λ (a : ℕ). pads_from b a slots) at ∙ ap₂ (λ (g s : ℕ). pads_from b (row_offset g) s) c.logs-are c.slots-are

  -- and where they are, the walks are those along the table's slots
  same-slots : pads_fit b ≡ true → strict_from b start slots ≡ (read_table b).slots
  same-slots p = pads-same b start slots (pads-as ∙ p) ∙ cells_are b logs slots start c at

  free-as : pads_fit b ≡ true → (first : ℕ) → first ≡ free_of b → free_walk (strict_from b start slots) first ≡ free_walk (read_table b).slots (read_table b).free
  unfolding read_table
  free-as p first f = ap₂ free_walk (same-slots p) f

  held-as : pads_fit b ≡ true → (g : ℕ) → held_walk (strict_table b) g ≡ held_walk (read_table b) g
  held-as p g = ap (λ (s : List Slot). held_walk (with_slots (read_table b) s) g) (sym (strict-are b logs slots start c at) ∙ same-slots p)

  pub torn-free : (first : ℕ) → first ≡ free_of b → None ≡ free_walk (strict_from b start slots) first → (g : ℕ) → Err Torn ≡ check_of b g
  torn-free first f e g = unless b g (λ p. torn-linked b (free-broken (read_table b) (e ∙ free-as p first f)) g)

  pub torn-held : (g : ℕ) → None ≡ held_walk (strict_table b) g → Err Torn ≡ check_of b g
  torn-held g e = unless b g (λ p. torn-linked b (rows-broken (read_table b) g (e ∙ held-as p g)) g)

-- what the walks found, both chains being in order
pub record Walked (b : List ℕ) (n : Counts) (f : Met) (a : Holding) (g : ℕ) : Type 0 where
  pub counted : Counted b n.logs n.slots
  pub start : ℕ
  pub at : start ≡ row_offset n.logs
  pub first : ℕ
  pub is : first ≡ free_of b
  pub free : Some f ≡ free_walk (strict_from b start n.slots) first
  pub chains : Some a ≡ held_walk (strict_table b) g

module _ {b : List ℕ} {n : Counts} {f : Met} {a : Holding} {g : ℕ} (w : Walked b n f a g) where
  -- chains that are in order meet every slot, so its owner is 0 or a log's and its zero byte zero
  all-pads : f.count + a.held ≡ n.slots → pads_fit b ≡ true
  unfolding read_table
  all-pads e =
      let c = w.counted in
      sym (pads-as b n.logs n.slots c w.start w.at)
      ∙ linked-pads b w.start n.slots (slotted plan b n.logs n.slots w.start c w.at) (read_table b) (omega (arith, length-rows b, c.logs-are, c.logs-most))
      (all-met (with_slots (read_table b) (strict_from b w.start n.slots)) f.count f.last a.held a.lack a.others g (w.free ∙ ap (free_walk (strict_from b w.start n.slots)) w.is)
      (w.chains ∙ ap (λ (s : List Slot). held_walk (with_slots (read_table b) s) g) (sym (strict-are b n.logs n.slots w.start c w.at)))
      (e ∙ sym (length-strict b w.start n.slots)))

  all-counted : length (read_table b).slots ≡ n.slots
  all-counted = length-slots b ∙ sym w.counted.slots-are

  module _ (p : pads_fit b ≡ true) where
    met : Some f ≡ free_walk (read_table b).slots (read_table b).free
    met = w.free ∙ free-as b n.logs n.slots w.counted w.start w.at p w.first w.is

    rows : Some a ≡ held_walk (read_table b) g
    rows = w.chains ∙ held-as b n.logs n.slots w.counted w.start w.at p g

    frees : (free_ok (read_table b) ≡ true) × (length (free_chain (read_table b)) ≡ f.count) × (last_of (free_chain (read_table b)) ≡ f.last)
    frees = free-met (read_table b) f.count f.last met

    helds : (rows_ok (read_table b).slots 0 (read_table b).rows ≡ true) × (length (held_by (read_table b).slots 0 (read_table b).rows) ≡ a.held) × (lack_all (read_table b) ≡ a.lack) × (lack_but (read_table b) g ≡ a.others)
    helds = rows-met (read_table b) a.held a.lack a.others g rows

  missed : f.count + a.held ≢ n.slots → Err Torn ≡ check_of b g
  missed e = unless b g (λ p. torn-linked b (not-all-met (read_table b) f.count f.last a.held a.lack a.others g (met p) (rows p) (λ q. e (q ∙ all-counted))) g)

  pub torn-over : n.slots < a.held → Err Torn ≡ check_of b g
  torn-over k = missed (λ q. omega arith)

  pub torn-total : a.held ≤ n.slots → f.count ≢ n.slots - a.held → Err Torn ≡ check_of b g
  torn-total k e = missed (λ q. e (omega arith))

  pub torn-lack : f.count < a.lack → Err Torn ≡ check_of b g
  unfolding whole_image
  torn-lack k = unless b g (λ p. torn-image b (and-not (linked (read_table b)) (lt-leb (lack_all (read_table b)) (length (free_chain (read_table b))) (omega (arith, (frees p).1, (helds p).2)))) g)

  pub torn-number : (x : ℕ) → x ≡ (stock_of b).count → x ≢ f.count → Err Torn ≡ check_of b g
  unfolding whole stock_fits
  torn-number x e k =
      unless b g (λ p. torn b (and-not (header_fits b && pads_fit b && whole_image (read_table b)) (and_no _ (ne_eqb (stock_of b).count (length (free_chain (read_table b))) (λ q. k (e ∙ q ∙ (frees p).1))))) g)

  pub torn-last : (y : ℕ) → y ≡ (stock_of b).last → y ≢ f.last → Err Torn ≡ check_of b g
  unfolding whole stock_fits
  torn-last y e k =
      unless b g (λ p. torn b (and-not (header_fits b && pads_fit b && whole_image (read_table b)) (and-not (eqb (stock_of b).count (length (free_chain (read_table b)))) (ne_eqb (stock_of b).last (joint (read_table b)) (λ q. k (e ∙ q ∙ (frees p).2))))) g)

  pub is_whole : (x y : ℕ) → header_fits b ≡ true → a.held ≤ n.slots → f.count ≡ n.slots - a.held → a.lack ≤ f.count → x ≡ (stock_of b).count → x ≡ f.count → y ≡ (stock_of b).last → y ≡ f.last
      → found_whole f.count f.last a.others ≡ check_of b g
  unfolding check_of checked whole whole_image stock_fits
  is_whole x y e k z d i j i' j' =
      let p : pads_fit b ≡ true = all-pads (omega arith) in
      let w : whole b ≡ true =
      and_yes _ (and_yes _ (and_yes _ e ∙ p)
      ∙ (and_yes _ (all-met (read_table b) f.count f.last a.held a.lack a.others g (met p) (rows p) (omega (arith, all-counted)))
      ∙ le-leb (lack_all (read_table b)) (length (free_chain (read_table b))) (omega (arith, (frees p).1, (helds p).2))))
      ∙ (and_yes _ (eq-eqb (stock_of b).count (length (free_chain (read_table b))) (sym i ∙ j ∙ sym (frees p).1)) ∙ eq-eqb (stock_of b).last (joint (read_table b)) (sym i' ∙ j' ∙ sym (frees p).2)) in
      sym (ap (λ (x : Bool). checked x (free_chain (read_table b)) (lack_but (read_table b) g)) w ∙ found (frees p).1 (frees p).2 (helds p).3)
    where
      found : {n n' l l' o o' : ℕ} → n ≡ n' → l ≡ l' → o ≡ o' → found_whole n l o ≡ found_whole n' l' o'
      found e d k = cc

-- the number of what the check finds
abbrev pub check_number : Checked → ℕ
check_number (Ok found) = 0
check_number (Err why) = number_of why

-- the value left out, as `map` leaves it out
pub map_number : (P : Whole → Unit → Type 0) (o : Checked) (r : Result Unit Refusal) → MatchResult o (λ x. IsOkAnd r (P x)) (λ e. r ≡ Err e) → outcome_number r ≡ check_number o
map_number P (Ok x) (Ok done) h = refl
map_number P (Ok x) (Err e) h = absurd h
map_number P (Err w) r h = ap outcome_number h

of_test : (t : Bool) (c : List ℕ) (o : ℕ) → check_number (checked t c o) ≡ answer_of (first_fault (fault 1 (not t) ∷ []))
unfolding checked answer_of first_fault
of_test true c o = refl
of_test false c o = refl

pub check-number : (b : List ℕ) (g : ℕ) → check_number (check_of b g) ≡ answer_of (whole_refusal b)
unfolding check_of whole_refusal
check-number b g = of_test (whole b) (free_chain (read_table b)) (lack_but (read_table b) g)
