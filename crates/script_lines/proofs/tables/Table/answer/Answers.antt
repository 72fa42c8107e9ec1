-- `script_lines::tables::Table::answer` meets its contract.
use Rattle.std.proofs.Common.{◌+◌, List, [], ◌∷◌, length, refl, ap, ◌∙◌}
use Rattle.octets.specs.Octets.{splice}
use Rattle.line.specs.declared.Cell.{Cell}
use Rattle.line.specs.Answer.{line_text}
use Rattle.script.specs.Script.{cells_of, answer_text, table_after}
use Rattle.script.proofs.ReserveLaws.{line-turns}
use Rattle.octets.specs.Undivided.{Undivided}
use Rattle.script_lines.proofs.tables.Table.answer.Code.Mir.{function}
use Rattle.script_lines.proofs.tables.Table.answer.Goals as goal

pub undivided : Undivided ("line_read::parse" ∷ "line_write::render" ∷ "script_lines::lines::cells" ∷ "script_lines::tables::Table::carry_out" ∷ []) function
undivided = refl

pub returns : goal.returns
unfolding answer_text table_after
returns c =
    let u = line-turns c.args.self.now c.args.text.now c.parse.result c.carry_out-answer.new.self c.carry_out-answer.result c.parse.ensures c.carry_out-answer.ensures in
    let e = c.cells.ensures ∙ ap (cells_of c.args.number) u.answer in
    record {
      table = u.table;
      end = c.render.ensures.value ∙ ap (λ (x : List Cell). c.args.to + length (line_text x)) e;
      line = c.render.ensures.out_after ∙ ap (λ (x : List Cell). splice c.args.out.now c.args.to (line_text x)) e;
    }
