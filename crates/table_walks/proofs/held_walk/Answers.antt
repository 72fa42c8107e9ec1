-- `table_walks::held_walk` meets its contract.
use Rattle.std.proofs.Common.{ℕ, List, ◌≡◌, arith, sym, ap, ◌∙◌}
use Rattle.layout.specs.Image.{Slot}
use Rattle.layout.specs.Strict.{strict_from}
use Rattle.table.specs.Walks.{row_walk}
use Rattle.table.proofs.HeldLaws.{held-begin, held-end, held-broken, met-few, short-few, own-few, held-on}
use Rattle.table_walks.proofs.held_walk.Given.{Over}
use Rattle.table_walks.proofs.held_walk.Goals as goal
use Rattle.table_walks.proofs.held_walk.Goals.{After-row_walk}

-- the slots that are walked are the table's
along : (g : Over) (c : goal.After-row_walk g) → c.row_walk.result ≡ row_walk (g.F.Form.image c.args.table.now).slots c.loop-g.g c.row_at-row.result
along g c =
    c.row_walk.ensures
    ∙ ap (λ (a : ℕ). row_walk (strict_from c.args.table.now a c.args.counts.slots) c.loop-g.g c.row_at-row.result) c.start-start.ensures
    ∙ ap (λ (s : List Slot). row_walk s c.loop-g.g c.row_at-row.result) (g.met.F.Form.laws.slots c.args.table.now c.args.counts.logs c.args.counts.slots c.requires)

pub loop-g-init : goal.loop-g-init
loop-g-init g c = held-begin _ _ c.args.log (g.met.F.Form.laws.modest c.args.table.now c.args.counts.logs c.args.counts.slots (λ i. omega (arith, c.type_inv.table i)) c.requires)

pub returns-in_err-met : goal.returns-in_err-met
returns-in_err-met g c =
    c.from_residual.ensures
    ∙ held-broken c.loop-g.invariant c.loop-g-test.true c.row_at-row.result c.row_at-row.ensures (sym c.in_err-met.was ∙ along g (goal.at.returns-in_err-met g c).After-row_walk)

pub overflow_add-held : goal.overflow_add-held
overflow_add-held g c =
    let few = met-few c.loop-g.invariant c.loop-g-test.true c.row_at-row.result c.row_at-row.ensures c.in_ok-met.met (sym c.in_ok-met.was ∙ along g (goal.at.overflow_add-held g c).After-row_walk) in
    omega (arith, c.loop-g.invariant.held-few)

pub overflow_add-lack : goal.overflow_add-lack
overflow_add-lack g c =
    let few = short-few c.loop-g.invariant c.loop-g-test.true c.row_at-row.result c.row_at-row.ensures c.in_ok-met.met c.saturating_sub-short.ensures in
    omega (arith, c.loop-g.invariant.lack-few)

pub overflow_add-others : goal.overflow_add-others
overflow_add-others g c =
    let few = own-few c.loop-g.invariant c.loop-g-test.true c.row_at-row.result c.row_at-row.ensures c.in_ok-met.met c.saturating_sub-short.ensures c.unless_own-others.ensures in
    omega (arith, c.loop-g.invariant.others-few)

pub loop-g-preserved : goal.loop-g-preserved
loop-g-preserved g c =
    held-on c.loop-g.invariant c.loop-g-test.true c.row_at-row.result c.row_at-row.ensures c.in_ok-met.met (sym c.in_ok-met.was ∙ along g (goal.at.loop-g-preserved g c).After-row_walk)
    c.saturating_sub-short.result c.unless_own-others.result c.saturating_sub-short.ensures c.unless_own-others.ensures

pub returns : goal.returns
returns g c = held-end c.loop-g.invariant c.loop-g-test.false
