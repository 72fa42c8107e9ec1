-- `layout_slots::cells::Cells::plain_link` meets its contract.
use Rattle.std.proofs.Common.{List, ℕ, ap, sym, ◌∙◌}
use Rattle.layout.specs.Image.{Slot}
use Rattle.layout.specs.Changes.{link_of}
use Rattle.layout.specs.Layout.{read_slot}
use Rattle.layout.proofs.CellLaws.{cell-read}
use Rattle.layout_slots.proofs.cells.Cells.plain_link.Goals as goal

pub returns : goal.returns
returns c =
    let t = c.args.self in
    c.read_link.ensures.fields
    ∙ ap (λ (s : List ℕ). link_of (read_slot s)) c.array_at.ensures
    ∙ ap (λ (s : Slot). link_of s) (sym (cell-read t.table.now t.start t.slots c.args.s c.requires.0 c.requires.1))
