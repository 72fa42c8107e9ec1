-- The check of an A2MT table, way out by way out.
use Prim.Native.Nat.{ℕ, ◌+◌, ◌-◌, ◌≤◌, ◌<◌}
use mathlib.Core.Path.{◌≡◌, refl, sym, ap, ap₂, ◌∙◌}
use mathlib.Core.Bool.{Bool, true, false, ◌&&◌}
use mathlib.Core.List.{List}
use mathlib.Core.Logic.{◌≢◌}
use native.Mathlib.Omega.{arith}
use lib.ListN.{length}
use Rattle.layout.specs.Image.{Slot}
use Rattle.layout.specs.Layout.{plan01, row_offset_in, free_of}
use Rattle.layout.specs.Layout01.{read01}
use Rattle.layout.specs.Fits.{Counted01}
use Rattle.layout.specs.Strict.{strict_from, with_slots, strict01}
use Rattle.layout.specs.Tests.{pads_from}
use Rattle.layout.proofs.TestLaws.{and_yes, and_no, and-not}
use Rattle.layout.proofs.CellLaws.{slotted}
use Rattle.layout.proofs.StrictCells.{length-strict, strict_are01}
use Rattle.layout.proofs.Layout01Laws.{length_rows01, length_slots01, cells_are01}
use Rattle.table.specs.Free.{free_chain}
use Rattle.table.specs.Walks.{walk_of, free_walk, held_walk}
use Rattle.table.specs.WholeImage.{linked}
use Rattle.table.specs.Whole01.{header_fits01, pads_fit01, whole01}
use Rattle.table.proofs.LinkedLaws.{free-broken, rows-broken, free-met, not-all-met, all-met}
use Rattle.table.proofs.StrictLaws.{pads-same, linked-pads}
use Rattle.table.proofs.Found.{Walked, met_of}
use Rattle.std.proofs.Common.{Some, None}
use Rattle.layout.specs.declared.Counts.{Counts}
use Rattle.table.specs.declared.Met.{Met}
use Rattle.table.specs.declared.Holding.{Holding}

module _ (b : List ℕ) where
  -- what the check answers
  abbrev pub checked01 : Walked
  checked01 = walk_of (whole01 b) (free_chain (read01 b))

  torn : whole01 b ≡ false → None ≡ checked01
  torn e = sym (ap (λ (t : Bool). walk_of t (free_chain (read01 b))) e)

  torn-linked : linked (read01 b) ≡ false → None ≡ checked01
  unfolding whole01
  torn-linked e = torn (and-not (header_fits01 b && pads_fit01 b) e)

  pub torn-header01 : header_fits01 b ≡ false → None ≡ checked01
  unfolding whole01
  torn-header01 h = torn (and_no _ (and_no _ h))

  module _ (logs slots : ℕ) (c : Counted01 b logs slots) where
    pads-as : pads_from b (row_offset_in plan01 logs) slots ≡ pads_fit01 b
    pads-as = ap₂ (λ (g s : ℕ). pads_from b (row_offset_in plan01 g) s) c.logs-are c.slots-are

    -- the walks read each slot with its zero byte, as in `CheckLaws`
    unless : (pads_fit01 b ≡ true → None ≡ checked01) → None ≡ checked01
    unfolding whole01
    unless f = go (pads_fit01 b) refl
      where
        go : (t : Bool) → pads_fit01 b ≡ t → None ≡ checked01
        go true e = f e
        go false e = torn (and_no _ (and-not (header_fits01 b) e))

    same-slots : pads_fit01 b ≡ true → strict_from b (row_offset_in plan01 logs) slots ≡ (read01 b).slots
    same-slots p = pads-same b (row_offset_in plan01 logs) slots (pads-as ∙ p) ∙ cells_are01 b logs slots c

    held-as : pads_fit01 b ≡ true → (g : ℕ) → held_walk (strict01 b) g ≡ held_walk (read01 b) g
    held-as p g = ap (λ (s : List Slot). held_walk (with_slots (read01 b) s) g) (sym (strict_are01 b logs slots c) ∙ same-slots p)

    module _ (first : ℕ) (is : first ≡ free_of b) where
      free-as : pads_fit01 b ≡ true → free_walk (strict_from b (row_offset_in plan01 logs) slots) first ≡ free_walk (read01 b).slots (read01 b).free
      unfolding read01
      free-as p = ap₂ free_walk (same-slots p) is

      pub torn-free01 : None ≡ free_walk (strict_from b (row_offset_in plan01 logs) slots) first → None ≡ checked01
      torn-free01 e = unless (λ p. torn-linked (free-broken (read01 b) (e ∙ free-as p)))

    pub torn-held01 : (g : ℕ) → None ≡ held_walk (strict01 b) g → None ≡ checked01
    torn-held01 g e = unless (λ p. torn-linked (rows-broken (read01 b) g (e ∙ held-as p g)))

-- what the walks found, both chains being in order, as in `CheckLaws`
pub record Walked01 (b : List ℕ) (n : Counts) (f : Met) (a : Holding) : Type 0 where
  pub counted : Counted01 b n.logs n.slots
  pub first : ℕ
  pub is : first ≡ free_of b
  pub free : Some f ≡ free_walk (strict_from b (row_offset_in plan01 n.logs) n.slots) first
  pub chains : Some a ≡ held_walk (strict01 b) 0

module _ {b : List ℕ} {n : Counts} {f : Met} {a : Holding} (w : Walked01 b n f a) where
  start : ℕ
  start = row_offset_in plan01 n.logs

  all-pads : f.count + a.held ≡ n.slots → pads_fit01 b ≡ true
  unfolding read01 start
  all-pads e =
      let c = w.counted in
      sym (pads-as b n.logs n.slots c)
      ∙ linked-pads b start n.slots (slotted plan01 b n.logs n.slots start c refl) (read01 b) (omega (arith, length_rows01 b, c.logs-are, c.logs-most))
      (all-met (with_slots (read01 b) (strict_from b start n.slots)) f.count f.last a.held a.lack a.others 0 (w.free ∙ ap (free_walk (strict_from b start n.slots)) w.is)
      (w.chains ∙ ap (λ (s : List Slot). held_walk (with_slots (read01 b) s) 0) (sym (strict_are01 b n.logs n.slots c)))
      (e ∙ sym (length-strict b start n.slots)))

  all-counted : length (read01 b).slots ≡ n.slots
  all-counted = length_slots01 b ∙ sym w.counted.slots-are

  module _ (p : pads_fit01 b ≡ true) where
    met : Some f ≡ free_walk (read01 b).slots (read01 b).free
    met = w.free ∙ free-as b n.logs n.slots w.counted w.first w.is p

    rows : Some a ≡ held_walk (read01 b) 0
    rows = w.chains ∙ held-as b n.logs n.slots w.counted p 0

  missed : f.count + a.held ≢ n.slots → None ≡ checked01 b
  missed e = unless b n.logs n.slots w.counted (λ p. torn-linked b (not-all-met (read01 b) f.count f.last a.held a.lack a.others 0 (met p) (rows p) (λ q. e (q ∙ all-counted))))

  pub torn-over01 : n.slots < a.held → None ≡ checked01 b
  torn-over01 k = missed (λ q. omega arith)

  pub torn-total01 : a.held ≤ n.slots → f.count ≢ n.slots - a.held → None ≡ checked01 b
  torn-total01 k e = missed (λ q. e (omega arith))

  pub is-whole01 : header_fits01 b ≡ true → a.held ≤ n.slots → f.count ≡ n.slots - a.held → Some f ≡ checked01 b
  unfolding whole01
  is-whole01 e k z =
      let p : pads_fit01 b ≡ true = all-pads (omega arith) in
      let s = free-met (read01 b) f.count f.last (met p) in
      let y : whole01 b ≡ true = and_yes _ (and_yes _ e ∙ p) ∙ all-met (read01 b) f.count f.last a.held a.lack a.others 0 (met p) (rows p) (omega (arith, all-counted)) in
      sym (ap (λ (t : Bool). walk_of t (free_chain (read01 b))) y ∙ ap₂ met_of s.1 s.2)
