use Rattle.table.specs.Chains.{chain}
use Rattle.layout.specs.Layout.{read_table}
use lib.ListN.{length}
use Prim.Native.Nat.{suc}
use Rattle.a2m.proofs.SearchLaws.{Going}
use Rattle.a2m_attest.proofs.search.search.Given as given

abbrev pub invariant-loop-s : given.invariant-loop-s
invariant-loop-s l = Going (read_table l.lent.table.now).slots (suc l.log) l.n l.first l.s l.k

abbrev pub decreases-loop-s : given.decreases-loop-s
decreases-loop-s l = length (chain (read_table l.lent.table.now).slots (suc l.log) l.s)
