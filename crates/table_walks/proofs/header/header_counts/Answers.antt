-- `table_walks::header::header_counts` meets its contract.
use Rattle.std.proofs.Common.{◌≡◌, false, sym, ◌∙◌, arith}
use Rattle.layout.specs.Tests.{header_fits_in}
use Rattle.layout.proofs.HeaderLaws.{too_short, other-constants, other-counts, other-length, all-fit, some-fit, none-fit, in-range}
use Rattle.table_walks.proofs.header.header_counts.Goals as goal
use Rattle.table_walks.proofs.header.header_counts.Goals.{then-table-lt-HEADER-via-then-table-lt-HEADER, then-table-lt-HEADER-via-else-table-lt-HEADER+then-not-constants_fit, else-ranged-via-then-ranged+else-table-start, else-ranged-via-else-ranged}

pub returns-then-table-lt-HEADER : goal.returns-then-table-lt-HEADER
returns-then-table-lt-HEADER g c =
    let b = c.args.table.now in
    let p = g.F.Form.places in
    let k = g.F.Form.constants in
    let no : header_fits_in p k b ≡ false =
    elim c.then-table-lt-HEADER.branch [
      | then-table-lt-HEADER-via-then-table-lt-HEADER w ↦ too_short p k b w.if-table-lt-HEADER.true
      | then-table-lt-HEADER-via-else-table-lt-HEADER+then-not-constants_fit w ↦ other-constants p k b (sym w.constants_fit.ensures ∙ w.if-not-constants_fit.true)
    ]
    in
    none-fit b no

pub start-requires : goal.start-requires
start-requires g c = (in-range c.counts_of-counts.result.logs c.counts_of-counts.result.slots (sym c.in_range-ranged.ensures ∙ c.if-ranged.true)).logs-most

pub overflow_add-start : goal.overflow_add-start
overflow_add-start g c =
    let n = c.counts_of-counts.result in
    let r = in-range n.logs n.slots (sym c.in_range-ranged.ensures ∙ c.if-ranged.true) in
    omega (arith, c.start.ensures, g.met.F.Form.laws.near n.logs r.logs-most, r.logs-most, r.slots-most)

pub returns-then-table-start : goal.returns-then-table-start
returns-then-table-start g c =
    let b = c.args.table.now in
    let n = c.counts_of-counts in
    let fit = all-fit g.F.Form.places g.F.Form.constants b n.result n.ensures.are.0 n.ensures.are.1 (sym c.constants_fit.ensures ∙ c.if-not-constants_fit.false) (sym c.in_range-ranged.ensures ∙ c.if-ranged.true) (omega (arith, c.if-table-start.true, c.start.ensures)) in
    some-fit b n.result n.ensures.are.0 n.ensures.are.1 fit

pub returns-else-ranged : goal.returns-else-ranged
returns-else-ranged g c =
    let b = c.args.table.now in
    let p = g.F.Form.places in
    let k = g.F.Form.constants in
    let n = c.counts_of-counts in
    let no : header_fits_in p k b ≡ false =
    elim c.else-ranged.branch [
      | else-ranged-via-then-ranged+else-table-start w ↦ other-length p k b n.result n.ensures.are.0 n.ensures.are.1 (λ e. w.if-table-start.false (omega (arith, e, w.start.ensures)))
      | else-ranged-via-else-ranged w ↦ other-counts p k b n.result n.ensures.are.0 n.ensures.are.1 (sym c.in_range-ranged.ensures ∙ w.if-ranged.false)
    ]
    in
    none-fit b no
