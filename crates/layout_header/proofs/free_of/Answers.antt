-- `layout_header::free_of` meets its contract.
use Rattle.std.proofs.Common.{ℕ, ap, ◌∙◌}
use Rattle.octets.specs.Octets.{part}
use Rattle.bigendian.specs.BigEndian.{unbe}
use Rattle.layout.proofs.FreeLaws.{free-read}
use Rattle.layout_header.proofs.free_of.Goals as goal

pub returns : goal.returns
returns c = (free-read c.args.part c.args.table.now (c.number_at.ensures.0 ∙ ap (λ (a : ℕ). unbe (part c.args.table.now a 2)) c.place.ensures), c.number_at.ensures.1)
