-- `script_pieces::pieces::Script::finish` meets its contract.
use Rattle.std.proofs.Common.{◌≡◌, ℕ, ◌+◌, List, [], ◌∷◌, length, refl, ap, ◌∙◌, arith}
use Rattle.octets.specs.Octets.{splice}
use Rattle.script.specs.Script.{answer_text, table_after}
use Rattle.script.proofs.Reading.{finishes-none, finishes-line}
use Rattle.octets.specs.Undivided.{Undivided}
use Rattle.script_pieces.proofs.pieces.Script.finish.Code.Mir.{function}
use Rattle.script_pieces.proofs.pieces.Script.finish.Goals as goal

pub undivided : Undivided ("script_lines::tables::Table::answer" ∷ "script_pieces::held::Held::line" ∷ []) function
undivided = refl

pub returns-in-empty : goal.returns-in-empty
returns-in-empty c = finishes-none c.args.self.now.table c.args.self.now.held c.args.self.now.number c.args.out.now (omega (arith, ap length c.line.ensures))

pub returns-in_default : goal.returns-in_default
returns-in_default c =
    let T : List ℕ = c.args.self.now.table in
    let x : c.line.result.now ≡ c.args.self.now.held = c.line.ensures in
    finishes-line T c.args.self.now.held c.args.self.now.number c.args.out.now (omega (arith, ap length x)) c.answer.new.self c.answer.new.out c.answer.result
    (c.answer.ensures.end ∙ ap (λ (l : List ℕ). 0 + length (answer_text T c.args.self.now.number l)) x)
    (c.answer.ensures.line ∙ ap (λ (l : List ℕ). splice c.args.out.now 0 (answer_text T c.args.self.now.number l)) x)
    (c.answer.ensures.table ∙ ap (table_after T) x)
