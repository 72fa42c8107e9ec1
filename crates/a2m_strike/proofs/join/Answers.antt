-- `a2m_strike::join` meets its contract. Assumes nothing.
use Rattle.std.proofs.Common.{ℕ, List, refl, sym, subst}
use Rattle.layout.specs.Fits.{Counted}
use Rattle.layout.proofs.CountedLaws.{counted-free}
use Rattle.a2m.proofs.ReleaseLaws.{joins-first, joins-behind}
use Rattle.a2m_strike.proofs.join.Goals as goal

pub invariant_of-lent : goal.invariant_of-lent
invariant_of-lent c =
    let t = c.args.lent.now in
    record { counted = subst (λ (b : List ℕ). Counted b t.counts.logs t.counts.slots) (sym c.put_free.ensures) (counted-free t.table.now t.counts.logs t.counts.slots t.counted c.args.t) }

pub returns-then-last-eq0 : goal.returns-then-last-eq0
returns-then-last-eq0 c = record { same = refl; counts = refl; bytes = joins-first c.args.lent.now.table.now c.put_free.new.table c.args.last c.args.t c.if-last-eq0.true c.put_free.ensures }

pub returns-else-last-eq0 : goal.returns-else-last-eq0
returns-else-last-eq0 c = let e = c.put_next.ensures in record { same = e.same; counts = e.counts; bytes = joins-behind c.args.lent.now.table.now c.put_next.new.lent.table.now c.args.last c.args.t c.if-last-eq0.false e.bytes }
