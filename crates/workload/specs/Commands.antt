-- What the lines of a rush say to the script program.
use Rattle.std.specs.Prelude.{ℕ, List, [], ◌∷◌, Option, Some}
use Rattle.octets.specs.Octets.{zeros}
use Rattle.line.specs.declared.Command.{Command}
use Rattle.line.specs.declared.Command.TheVariants as command
use Rattle.line.specs.Command.{command_of, reserves_of}
use Rattle.workload.specs.declared.Draw.{Draw}
use Rattle.workload.specs.declared.Draw.TheVariants.{Append, Advance, Truncate, Lookup, End}

-- the command of a call that is drawn
abbrev pub command_for : Draw → Command
command_for (Append log value) = command.Append log value
command_for (Advance log position digest value) = command.Advance log position digest value
command_for (Truncate log position) = command.Truncate log position
command_for (Lookup log position) = command.Lookup log position
command_for (End log) = command.End log

-- what a line says by the script program's rules: a command, if it is one, and reserves
abbrev pub Said : Type 0
Said = Option Command × List ℕ

abbrev pub said_by : List ℕ → Said
said_by l = (command_of l, reserves_of l)

-- "`format,4,32,1,0,0,0,0`"
abbrev pub format_said : Said
format_said = (Some (command.Format 4 32 1 (zeros 16)), 0 ∷ 0 ∷ 0 ∷ 0 ∷ [])

abbrev pub draw_said : Draw → Said
draw_said d = (Some (command_for d), [])
