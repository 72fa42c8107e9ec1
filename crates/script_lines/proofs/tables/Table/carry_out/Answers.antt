-- `script_lines::tables::Table::carry_out` meets its contract.
use Rattle.std.proofs.Common.{[], ◌∷◌, Some, take, refl, sym, ap, subst, ◌∙◌, arith, rules}
use Rattle.a2m.proofs.Unchanged.{read_unchanged}
use Rattle.script.specs.Script.{command_answer, command_table, lent, Turns}
use Rattle.script.proofs.TurnLaws.{call-turns, none-turns, bytes-first}
use Rattle.octets.specs.Undivided.{Undivided}
use Rattle.script_lines.proofs.tables.Table.carry_out.Code.Mir.{function}
use Rattle.script_lines.proofs.tables.Table.carry_out.Goals as goal

pub undivided : Undivided ("script::AnswerFromRefusal::from" ∷ "script_calls::advance" ∷ "script_calls::append" ∷ "script_calls::end" ∷ "script_calls::lookup" ∷ "script_calls::truncate" ∷ "script_lines::tables::Table::format" ∷ []) function
undivided = refl

pub returns-in_default : goal.returns-in_default
returns-in_default c = subst (Turns c.args.self.now c.args.command (lent c.args.command) c.args.self.now) (sym c.from.ensures) (none-turns c.args.self.now c.args.command c.in_default.is)

pub returns-in-Append : goal.returns-in-Append
unfolding command_answer command_table
returns-in-Append c = call-turns c.self.inside.bytes c.append.new.table c.self.inside.size _ c.append.result c.self.view_is (c.in-Some.is ∙ ap Some c.in-Append.is) (omega arith) c.append.auto.table c.append.ensures.answer c.append.ensures.bytes

pub returns-in-Advance : goal.returns-in-Advance
unfolding command_answer command_table
returns-in-Advance c = call-turns c.self.inside.bytes c.advance.new.table c.self.inside.size _ c.advance.result c.self.view_is (c.in-Some.is ∙ ap Some c.in-Advance.is) (omega arith) c.advance.auto.table c.advance.ensures.answer c.advance.ensures.bytes

pub returns-in-Truncate : goal.returns-in-Truncate
unfolding command_answer command_table
returns-in-Truncate c = call-turns c.self.inside.bytes c.truncate.new.table c.self.inside.size _ c.truncate.result c.self.view_is (c.in-Some.is ∙ ap Some c.in-Truncate.is) (omega arith) c.truncate.auto.table c.truncate.ensures.answer c.truncate.ensures.bytes

pub returns-in-Lookup : goal.returns-in-Lookup
unfolding command_answer command_table
returns-in-Lookup c = call-turns c.self.inside.bytes (take c.self.inside.size c.self.inside.bytes) c.self.inside.size _ c.lookup.result c.self.view_is (c.in-Some.is ∙ ap Some c.in-Lookup.is) (omega arith) refl c.lookup.ensures
    (sym (read_unchanged (take c.self.inside.size c.self.inside.bytes) (bytes-first c.self.inside.bytes c.self.inside.size (search rules)) _ tt))

pub returns-in-End : goal.returns-in-End
unfolding command_answer command_table
returns-in-End c = call-turns c.self.inside.bytes (take c.self.inside.size c.self.inside.bytes) c.self.inside.size _ c.end.result c.self.view_is (c.in-Some.is ∙ ap Some c.in-End.is) (omega arith) refl c.end.ensures
    (sym (read_unchanged (take c.self.inside.size c.self.inside.bytes) (bytes-first c.self.inside.bytes c.self.inside.size (search rules)) _ tt))
