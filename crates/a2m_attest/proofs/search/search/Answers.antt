-- `a2m_attest::search::search` meets its contract. Assumes nothing.
use Rattle.layout.proofs.TableLaws.{length-slots}
use Rattle.layout.specs.Layout.{read_table}
use Prim.Native.Nat.{suc}
use Rattle.a2m.proofs.SearchLaws.{going-first, within, counted-on, at_entry, above_entry, going_on, less, chain-over}
use native.Mathlib.Omega.{arith}
use Rattle.a2m_attest.proofs.search.search.Goals as goal

pub loop-s-init : goal.loop-s-init
loop-s-init c = going-first (read_table c.args.lent.table.now).slots (suc c.args.log) c.args.n c.args.first c.requires

pub link_at-l-requires : goal.link_at-l-requires
link_at-l-requires c = let w = within (read_table c.args.lent.table.now).slots (suc c.args.log) c.args.n c.args.first c.loop-s.s c.loop-s.k c.loop-s.invariant c.loop-s-test.true in let w1 = w.1 in (w.0, omega (arith, length-slots c.args.lent.table.now, c.args.lent.counted.slots-are))

pub overflow_add-k : goal.overflow_add-k
overflow_add-k c = let w = counted-on (read_table c.args.lent.table.now).slots (suc c.args.log) c.args.n c.args.first c.loop-s.s c.loop-s.k c.loop-s.invariant c.loop-s-test.true in omega (arith, length-slots c.args.lent.table.now, c.args.lent.counted.slots-are, c.args.lent.counted.slots-most)

pub returns-then-l-n : goal.returns-then-l-n
returns-then-l-n c = let w = within (read_table c.args.lent.table.now).slots (suc c.args.log) c.args.n c.args.first c.loop-s.s c.loop-s.k c.loop-s.invariant c.loop-s-test.true in let w1 = w.1 in record { within = (w.0, omega (arith, length-slots c.args.lent.table.now, c.args.lent.counted.slots-are)); found = at_entry (read_table c.args.lent.table.now).slots (suc c.args.log) c.args.n c.args.first c.loop-s.s c.loop-s.k c.loop-s.invariant c.loop-s-test.true c.link_at-l.result c.link_at-l.ensures c.if-l-n.true }

pub returns-then-n-l : goal.returns-then-n-l
returns-then-n-l c = let w = within (read_table c.args.lent.table.now).slots (suc c.args.log) c.args.n c.args.first c.loop-s.s c.loop-s.k c.loop-s.invariant c.loop-s-test.true in let w1 = w.1 in record { within = (w.0, omega (arith, length-slots c.args.lent.table.now, c.args.lent.counted.slots-are)); found = above_entry (read_table c.args.lent.table.now).slots (suc c.args.log) c.args.n c.args.first c.loop-s.s c.loop-s.k c.loop-s.invariant c.loop-s-test.true c.link_at-l.result c.link_at-l.ensures c.if-n-l.true }

pub loop-s-smaller : goal.loop-s-smaller
loop-s-smaller c = less (read_table c.args.lent.table.now).slots (suc c.args.log) c.args.n c.args.first c.loop-s.s c.loop-s.k c.loop-s.invariant c.loop-s-test.true c.link_at-l.result c.link_at-l.ensures

pub loop-s-preserved : goal.loop-s-preserved
loop-s-preserved c = going_on (read_table c.args.lent.table.now).slots (suc c.args.log) c.args.n c.args.first c.loop-s.s c.loop-s.k c.loop-s.invariant c.loop-s-test.true c.link_at-l.result c.link_at-l.ensures c.if-l-n.false c.if-n-l.false

pub returns : goal.returns
returns c = record { within = tt; found = chain-over (read_table c.args.lent.table.now).slots (suc c.args.log) c.args.n c.args.first c.loop-s.s c.loop-s.k c.loop-s.invariant c.loop-s-test.false }
