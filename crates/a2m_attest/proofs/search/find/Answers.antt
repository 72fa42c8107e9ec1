-- `a2m_attest::search::find` meets its contract. Assumes nothing.
use Rattle.a2m.specs.Opened.{found_of}
use Rattle.a2m.specs.Search.{search}
use Rattle.a2m.specs.ImageCalls.{entries_in}
use mathlib.Core.List.{List}
use Rattle.layout.specs.Layout.{read_table}
use Rattle.layout.specs.Image.{Entry}
use Rattle.a2m.proofs.SearchLaws.{is-unassigned, is-forgotten, is-searched}
use Rattle.a2m.proofs.OpenedLaws.{opened-counted, opened-reaches, entries-are}
use mathlib.Core.Path.{ap, ◌∙◌}
use Rattle.a2m_attest.proofs.search.find.Goals as goal

pub returns-then-row-n : goal.returns-then-row-n
returns-then-row-n c = record { within = tt; found = is-unassigned (read_table c.args.opened.table.now).slots c.args.opened.view.row (entries_in (read_table c.args.opened.table.now) c.args.opened.view.log) c.args.n c.if-row-n.true }

pub returns-then-n-row : goal.returns-then-n-row
returns-then-n-row c = record { within = tt; found = is-forgotten (read_table c.args.opened.table.now).slots c.args.opened.view.row (entries_in (read_table c.args.opened.table.now) c.args.opened.view.log) c.args.n c.if-row-n.false c.if-n-row.true }

pub invariant_of-lent : goal.invariant_of-lent
invariant_of-lent c = record { counted = opened-counted c.args.opened.table.now c.args.opened.view c.args.opened.opened }

pub search-requires : goal.search-requires
search-requires c = opened-reaches c.args.opened.table.now c.args.opened.view c.args.opened.opened

pub returns : goal.returns
returns c = record { within = c.search.ensures.within; found = is-searched (read_table c.args.opened.table.now).slots c.args.opened.view.row (entries_in (read_table c.args.opened.table.now) c.args.opened.view.log) c.args.n c.if-row-n.false c.if-n-row.false (found_of (read_table c.args.opened.table.now).slots c.search.result) (c.search.ensures.found ∙ ap (λ (es : List Entry). search c.args.n 0 es) (entries-are c.args.opened.table.now c.args.opened.view c.args.opened.opened)) }
