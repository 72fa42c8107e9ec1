-- The clauses on chains, from what the walks along them found.
use Prim.Native.Nat.{ℕ, ◌+◌}
use mathlib.Core.Path.{◌≡◌, sym, ap₂, ◌∙◌}
use mathlib.Core.Bool.{true, false, ◌&&◌}
use mathlib.Core.Logic.{◌≢◌}
use borrow.Author.Tests.{eq-eqb, ne_eqb}
use lib.ListN.{length, length-append}
use Rattle.layout.specs.Image.{Image}
use Rattle.layout.proofs.TestLaws.{and_yes, and_no, and-not}
use Rattle.table.specs.Chains.{last_of}
use Rattle.table.specs.Free.{free_chain}
use Rattle.table.specs.Reserve.{lack_but, lack_all}
use Rattle.table.specs.Walks.{free_walk, held_walk}
use Rattle.table.specs.WholeImage.{free_ok, rows_ok, held_by, meets, linked}
use Rattle.table.proofs.HeldLaws.{walk_broken, walk-met, held_broken, held-slots}
use Rattle.table.proofs.Found.{met_of, holding_of}
use Rattle.std.proofs.Common.{None}

module _ (m : Image) where
  -- the slots that all chains meet
  pub length_meets : length (meets m) ≡ length (free_chain m) + length (held_by m.slots 0 m.rows)
  unfolding meets
  length_meets = length-append (free_chain m) (held_by m.slots 0 m.rows)

  pub free-broken : None ≡ free_walk m.slots m.free → linked m ≡ false
  unfolding free_ok
  free-broken e = and_no _ (and_no _ (walk_broken (free_ok m) (free_chain m) e))

  pub rows-broken : (g : ℕ) → None ≡ held_walk m g → linked m ≡ false
  unfolding held_walk
  rows-broken g e = and_no _ (and-not (free_ok m) (held_broken (rows_ok m.slots 0 m.rows) (held_by m.slots 0 m.rows) (lack_all m) (lack_but m g) e))

  pub free-met : (count last : ℕ) → met_of count last ≡ free_walk m.slots m.free → (free_ok m ≡ true) × (length (free_chain m) ≡ count) × (last_of (free_chain m) ≡ last)
  unfolding free_ok
  free-met count last e = walk-met (free_ok m) (free_chain m) count last e

  pub rows-met : (n lack others g : ℕ) → holding_of n lack others ≡ held_walk m g
      → (rows_ok m.slots 0 m.rows ≡ true) × (length (held_by m.slots 0 m.rows) ≡ n) × (lack_all m ≡ lack) × (lack_but m g ≡ others)
  unfolding held_walk
  rows-met n lack others g e = held-slots (rows_ok m.slots 0 m.rows) (held_by m.slots 0 m.rows) (lack_all m) (lack_but m g) n lack others e

  -- "chain lengths together make S"
  module _ (count last n lack others g : ℕ) (free : met_of count last ≡ free_walk m.slots m.free) (held : holding_of n lack others ≡ held_walk m g) where
    total : length (meets m) ≡ count + n
    total = length_meets ∙ ap₂ ◌+◌ (free-met count last free).1 (rows-met n lack others g held).1

    pub not-all-met : count + n ≢ length m.slots → linked m ≡ false
    not-all-met e = and-not (free_ok m && rows_ok m.slots 0 m.rows) (ne_eqb (length (meets m)) (length m.slots) (λ q. e (sym total ∙ q)))

    pub all-met : count + n ≡ length m.slots → linked m ≡ true
    all-met e = and_yes _ (and_yes _ (free-met count last free).0 ∙ (rows-met n lack others g held).0) ∙ eq-eqb (length (meets m)) (length m.slots) (total ∙ e)
