-- `table_format::format` meets its contract.
use Rattle.std.proofs.Common.{ℕ, List, length, arith, refl, ap, sym, ◌∙◌}
use borrow.Author.Tests.{leb-true, leb-false}
use Rattle.layout.specs.Layout.{table_size}
use Rattle.layout.specs.Fits.{Range}
use Rattle.layout.proofs.HeaderLaws.{in-range}
use Rattle.table.specs.Free.{write_table}
use Rattle.table.specs.Format.{formatted}
use Rattle.table.specs.Reserve.{sum}
use Rattle.table.proofs.FormatLaws.{Answers, refused-counts, refused-key, refused-buffer, refused-reserved, refused-together, Passed, accepted}
use Rattle.table_format.proofs.format.Goals as goal
use Rattle.table_format.proofs.format.Goals.{Else-not-in_range, Else-not-reserves_fit, then-table-size-via-then-table-size, then-table-size-via-else-table-size+then-reserves-counts}

counts : (c : goal.Else-not-in_range) → Range c.args.logs c.args.slots
counts c = in-range c.args.logs c.args.slots (sym c.in_range.ensures ∙ c.if-not-in_range.false)

passed : (c : goal.Else-not-reserves_fit) → Passed (length c.args.table.now) c.args.logs c.args.slots (length c.args.key.now) c.args.reserves.now
passed c =
    record {
      counts = in-range c.args.logs c.args.slots (sym c.in_range.ensures ∙ c.if-not-in_range.false);
      key = c.in-Some.ensures.cases.long;
      buffer = c.if-table-size.false ∙ c.size.ensures;
      reserved = c.if-reserves-counts.false;
      together = leb-true (sum c.args.reserves.now) c.args.slots (sym c.reserves_fit.ensures ∙ c.if-not-reserves_fit.false);
    }

pub returns-then-not-in_range : goal.returns-then-not-in_range
returns-then-not-in_range c =
    let e = refused-counts c.args.table.now c.args.logs c.args.slots c.args.keeper c.args.key.now c.args.reserves.now (sym c.in_range.ensures ∙ c.if-not-in_range.true) in
    record { answer = rw c.into.ensures e.0; blocks = rw c.into.ensures refl; bytes = e.1 }

pub returns-in_default : goal.returns-in_default
returns-in_default c =
    let e = refused-key c.args.table.now c.args.logs c.args.slots c.args.keeper c.args.key.now c.args.reserves.now (sym c.in_range.ensures ∙ c.if-not-in_range.false) c.in_default.ensures.cases in
    record { answer = rw c.into-in_default.ensures e.0; blocks = rw c.into-in_default.ensures refl; bytes = e.1 }

pub size-requires : goal.size-requires
size-requires c = let r = counts (goal.at.size-requires c).Else-not-in_range in (r.logs-most, r.slots-most)

pub returns-then-table-size : goal.returns-then-table-size
returns-then-table-size c =
    let r = sym c.in_range.ensures ∙ c.if-not-in_range.false in
    let e : Answers c.args.table.now c.args.logs c.args.slots c.args.keeper c.args.key.now c.args.reserves.now 7 c.args.table.now =
    elim c.then-table-size.branch [
      | then-table-size-via-then-table-size w ↦
          refused-buffer c.args.table.now c.args.logs c.args.slots c.args.keeper c.args.key.now c.args.reserves.now r (λ e. w.if-table-size.true (e ∙ sym c.size.ensures))
      | then-table-size-via-else-table-size+then-reserves-counts w ↦ refused-reserved c.args.table.now c.args.logs c.args.slots c.args.keeper c.args.key.now c.args.reserves.now r w.if-reserves-counts.true
    ]
    in
    record { answer = rw c.into-then-table-size.ensures e.0; blocks = rw c.into-then-table-size.ensures refl; bytes = e.1 }

pub returns-then-not-reserves_fit : goal.returns-then-not-reserves_fit
returns-then-not-reserves_fit c = let above = leb-false (sum c.args.reserves.now) c.args.slots (sym c.reserves_fit.ensures ∙ c.if-not-reserves_fit.true) in
    let e = refused-together c.args.table.now c.args.logs c.args.slots c.args.keeper c.args.key.now c.args.reserves.now (sym c.in_range.ensures ∙ c.if-not-in_range.false)
    c.in-Some.ensures.cases.long (c.if-table-size.false ∙ c.size.ensures) c.if-reserves-counts.false above in
    record { answer = rw c.into-then-not-reserves_fit.ensures e.0; blocks = rw c.into-then-not-reserves_fit.ensures refl; bytes = e.1 }

pub fill-requires : goal.fill-requires
fill-requires c = let p = passed (goal.at.fill-requires c).Else-not-reserves_fit in
    record { reserves_len_bound = (omega (arith, p.counts.logs-most), p.counts.slots-most, omega (arith, p.counts.slots-most)); table_len = p.buffer ∙ ap (λ (g : ℕ). table_size g c.args.slots) (sym p.reserved) }

pub returns : goal.returns
returns c =
    let e = accepted c.args.table.now c.args.logs c.args.slots c.args.keeper c.args.key.now c.args.reserves.now c.fill.new.table (passed (goal.at.returns c).Else-not-reserves_fit) (c.fill.ensures ∙ ap (λ (k : List ℕ). write_table (formatted c.args.slots c.args.keeper k c.args.reserves.now)) c.in-Some.ensures.cases.same) in
    record { answer = e.0; blocks = refl; bytes = e.1 }
