use Rattle.std.proofs.Common.{◌≡◌, ◌+◌, length, take}
use Rattle.octets.specs.Octets.{splice}
use Rattle.line.proofs.AnswerLaws.{commas}
use Rattle.line_write.proofs.render.Given as given

abbrev pub invariant-loop-cell : given.invariant-loop-cell
invariant-loop-cell l = (l.to ≡ l.at + length (commas (take l.cell-index l.cell-items))) × (l.out ≡ splice l.initial.out l.at (commas (take l.cell-index l.cell-items)))
