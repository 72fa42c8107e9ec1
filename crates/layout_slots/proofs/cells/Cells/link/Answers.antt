-- `layout_slots::cells::Cells::link` meets its contract.
use Rattle.std.proofs.Common.{ℕ, List, ◌+◌, ◌*◌, ap, sym, ◌∙◌}
use mathlib.Core.Path.{ap₂}
use Rattle.layout.specs.declared.Link.{Link}
use Rattle.layout.specs.Image.{Slot}
use Rattle.layout.specs.Changes.{link_of}
use Rattle.layout.specs.Layout.{read_slot}
use Rattle.layout.specs.Strict.{strict_slot}
use Rattle.layout.proofs.StrictCells.{strict-read}
use Rattle.layout_slots.proofs.cells.Cells.link.Goals as goal

-- the zero byte is the owner's second digit
pub returns : goal.returns
unfolding read_slot strict_slot
returns c =
    ap₂ (λ (l : Link) (pad : ℕ). record { owner = l.owner + 256 * pad; next = l.next; position = l.position }) c.read_link-link.ensures.fields c.number_at.ensures.0
    ∙ ap (λ (s : List ℕ). link_of (strict_slot s)) c.array_at-part.ensures
    ∙ ap (λ (s : Slot). link_of s) (sym (strict-read c.args.self.table.now c.args.self.start c.args.self.slots c.args.s c.requires.0 c.requires.1))
