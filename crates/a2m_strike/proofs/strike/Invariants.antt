use lib.ListN.{length}
use Prim.Native.Nat.{ℕ, suc}
use mathlib.Core.List.{List}
use Rattle.table.specs.Chains.{chain}
use Rattle.layout.specs.Layout.{read_table}
use Rattle.a2m.proofs.ReleaseLaws.{Releasing, Begins}
use mathlib.Core.Path.{◌≡◌}
use Rattle.a2m_strike.proofs.strike.Given as given

abbrev pub invariant-entries : given.invariant-entries
invariant-entries l = (l.lent.table.ghost_name ≡ l.initial.lent.table.ghost_name) × (l.lent.counts ≡ l.view.counts)
    × ((b : List ℕ) → Begins b l.view l.n l.initial.lent.table.now → Releasing b l.view l.n l.lent.table.now l.last l.count l.s)

abbrev pub decreases-entries : given.decreases-entries
decreases-entries l = length (chain (read_table l.lent.table.now).slots (suc l.view.log) l.s)
