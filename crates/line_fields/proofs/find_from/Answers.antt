-- `line_fields::find_from` meets its contract.
use Rattle.std.proofs.Common.{◌≡◌, ℕ, ◌-◌, [], ◌∷◌, length, take, drop, length-drop, refl, ap, arith}
use Rattle.std.proofs.Math.Seq.{take_all}
use Rattle.line.specs.Fields.{up_to}
use Rattle.line.proofs.FieldLaws.{first-none}
use Rattle.octets.specs.Undivided.{Undivided}
use Rattle.line_fields.proofs.find_from.Code.Mir.{function}
use Rattle.line_fields.proofs.find_from.Goals as goal

pub undivided : Undivided ("line_fields::find" ∷ []) function
undivided = refl

pub returns-then-s-from : goal.returns-then-s-from
returns-then-s-from c = (omega (arith, first-none c.args.mark c.args.s.now c.args.from (omega arith)), omega arith)
