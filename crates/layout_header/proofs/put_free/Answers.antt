-- `layout_header::put_free` meets its contract.
use Rattle.std.proofs.Common.{ℕ, ap, ◌∙◌}
use Rattle.octets.specs.Octets.{splice}
use Rattle.bigendian.specs.BigEndian.{be}
use Rattle.layout.proofs.FreeLaws.{free-put}
use Rattle.layout_header.proofs.put_free.Goals as goal

pub returns : goal.returns
returns c = free-put c.args.part c.args.table.now c.args.n (c.put_number.ensures ∙ ap (λ (a : ℕ). splice c.args.table.now a (be 2 c.args.n)) c.place.ensures)
