-- `script_lines::tables::Table::of` meets its contract.
use Rattle.std.proofs.Common.{ℕ, ◌+◌, List, [], ◌∷◌, length, take, drop, refl, ap, ◌∙◌}
use Rattle.std.proofs.Math.Seq.{take-append_seam}
use Rattle.octets.specs.Octets.{splice}
use Rattle.octets.specs.Undivided.{Undivided}
use Rattle.script_lines.proofs.tables.Table.of.Code.Mir.{function}
use Rattle.script_lines.proofs.tables.Table.of.Goals as goal

pub undivided : Undivided ("octets::put" ∷ []) function
undivided = refl

pub returns : goal.returns
unfolding splice
returns c = ap (λ (l : List ℕ). take (length c.args.bytes.now) l) c.put.ensures ∙ take-append_seam c.args.bytes.now _
