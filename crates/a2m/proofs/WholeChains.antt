-- What document 01's test of wholeness says of an image: its chains, and the positions along them.
use Prim.Native.Nat.{ℕ, zero, suc, ◌+◌, ◌≤◌}
use mathlib.Core.Path.{◌≡◌, refl, sym, ◌∙◌}
use mathlib.Core.List.{List, [], ◌∷◌}
use mathlib.Core.Bool.{Bool, true, false, ◌&&◌}
use native.Mathlib.Omega.{arith}
use native.Mathlib.Nat.{zero-add, add-zero, add-suc, suc-add}
use lib.ListN.{length}
use lib.Dec.{eqb, leb}
use borrow.Author.Tests.{eqb-true, leb-true}
use Rattle.octets.proofs.Tests.{and_left, and_right}
use Rattle.layout.specs.declared.Row.{Row}
use Rattle.layout.specs.Image.{Slot, Image, slot_at, row_at}
use Rattle.table.specs.Chains.{chain, reaches, last_of, positions_of}
use Rattle.table.specs.Free.{free_chain}
use Rattle.table.specs.WholeImage.{all, free_ok, fresh, rising_from, started, row_ok, rows_ok, meets, linked}
use Rattle.layout.specs.Tests.{blank}
use Rattle.table.proofs.Lists.{last_of-nil}
use Rattle.table.specs.Conditions.{Links}
use Rattle.table.proofs.LinkLaws.{reach-links}
use Rattle.table.proofs.WalkLaws.{chain-none}

-- a row and the chain of its log: a fresh row's is empty, with high 0
pub record RowChain (slots : List Slot) (g : ℕ) (r : Row) : Type 0 where
  pub links : Links slots (suc g) r.first (chain slots (suc g) r.first) 0
  pub last : r.last ≡ last_of (chain slots (suc g) r.first)
  pub rising : rising_from r.low (positions_of slots (chain slots (suc g) r.first)) ≡ true
  pub top : last_of (positions_of slots (chain slots (suc g) r.first)) ≡ r.high
  pub low1 : 1 ≤ r.low
  pub fresh : r.high ≡ 0 → r.low ≡ 1

pub row-chain : (slots : List Slot) (g : ℕ) (r : Row) → row_ok slots g r ≡ true → RowChain slots g r
unfolding row_ok fresh started rising_from
row-chain slots g r h = go (fresh r) refl
  where
    from-fresh : r.low ≡ 1 → r.high ≡ 0 → r.first ≡ 0 → r.last ≡ 0 → RowChain slots g r
    from-fresh l h f z =
        let c : chain slots (suc g) r.first ≡ [] = chain-none slots (suc g) r.first f in
        record { links = rw c f; last = rw c (z ∙ sym last_of-nil); rising = rw c refl; top = rw c (last_of-nil ∙ sym h); low1 = omega arith; fresh = λ (q : r.high ≡ 0). l }

    go : (b : Bool) → fresh r ≡ b → RowChain slots g r
    go true e =
        let h1 : eqb r.low 1 ≡ true = search and_left in
        let h2 : eqb r.high 0 ≡ true = search (and_left, and_right) in
        let h3 : eqb r.first 0 ≡ true = search (and_left, and_right) in
        let h4 : eqb r.last 0 ≡ true = search (and_left, and_right) in
        from-fresh (eqb-true _ _ h1) (eqb-true _ _ h2) (eqb-true _ _ h3) (eqb-true _ _ h4)
    go false e =
        let c = chain slots (suc g) r.first in
        let ps = positions_of slots c in
        let k : reaches slots (suc g) r.first && started r c ps ≡ true = rw (row_ok, e) at h in
        let t1 : reaches slots (suc g) r.first ≡ true = search and_left in
        let t2 : leb 1 r.low ≡ true = search (and_left, and_right) in
        let t3 : leb r.low r.high ≡ true = search (and_left, and_right) in
        let t4 : rising_from r.low ps ≡ true = search (and_left, and_right) in
        let t5 : eqb (last_of ps) r.high ≡ true = search (and_left, and_right) in
        let t6 : eqb (last_of c) r.last ≡ true = search (and_left, and_right) in
        let l1 = leb-true 1 r.low t2 in
        let lh = leb-true r.low r.high t3 in
        record { links = reach-links slots (suc g) r.first t1; last = sym (eqb-true (last_of c) r.last t6); rising = t4; top = eqb-true (last_of ps) r.high t5; low1 = l1; fresh = λ (z : r.high ≡ 0). absurd (omega arith) }

row-at : (slots : List Slot) (g : ℕ) (rs : List Row) → rows_ok slots g rs ≡ true → (i : ℕ) → row_ok slots (g + i) (row_at rs i) ≡ true
unfolding rows_ok row_ok fresh
row-at slots g [] h i = refl
row-at slots g (r ∷ rs) h zero = rw add-zero (and_left (row_ok slots g r) (rows_ok slots (suc g) rs) h)
row-at slots g (r ∷ rs) h (suc i) = rw (add-suc, ← suc-add) (row-at slots (suc g) rs (and_right (row_ok slots g r) (rows_ok slots (suc g) rs) h) i)

module _ (m : Image) (w : linked m ≡ true) where
  -- every log's chain; a log beyond the table's has a fresh row
  pub log-chain : (g : ℕ) → RowChain m.slots g (row_at m.rows g)
  log-chain g =
      let rows : rows_ok m.slots 0 m.rows ≡ true = and_right (free_ok m) _ (and_left _ _ w) in
      row-chain m.slots g (row_at m.rows g) (rw zero-add at (row-at m.slots 0 m.rows rows g))

  -- the free chain
  pub free-links : Links m.slots 0 m.free (free_chain m) 0
  unfolding free_ok
  free-links = reach-links m.slots 0 m.free (and_left _ _ (and_left _ _ (and_left _ _ w)))

  pub free-blank : all (λ (s : ℕ). blank (slot_at m.slots s)) (free_chain m) ≡ true
  unfolding free_ok
  free-blank = and_right (reaches m.slots 0 m.free) _ (and_left _ _ (and_left _ _ w))

  pub sum_meets : length (meets m) ≡ length m.slots
  sum_meets = eqb-true (length (meets m)) (length m.slots) (and_right (free_ok m && rows_ok m.slots 0 m.rows) _ w)
