-- Document 02, [6]: "Refusal 6 is shown never to occur": no line of a script is answered with it, whatever the table.
use Prim.Native.Nat.{ℕ}
use mathlib.Core.Path.{◌≡◌, refl, sym, ap, ◌∙◌}
use mathlib.Core.Logic.{◌≢◌}
use native.Mathlib.Omega.{arith}
use mathlib.Core.Bool.{Bool, true, false, cond, ◌||◌}
use mathlib.Core.List.{List}
use mathlib.Core.Option.{some}
use Rattle.std.specs.Prelude.{Option, Some, None}
use lib.Dec.{eqb}
use Rattle.refusal.proofs.UnusedLaws.{never, never-answered}
use Rattle.octets.specs.Octets.{zeros}
use Rattle.bigendian.specs.BigEndian.{placed}
use Rattle.layout.specs.declared.Row.{Row}
use Rattle.layout.specs.Layout.{read_table}
use Rattle.table.specs.Format.{format_refusal}
use Rattle.a2m.specs.Call.{Call, append, advance, truncate, lookup, end, log_of, Reply, refused, done, found, ended}
use Rattle.a2m.specs.ImageCalls.{row_in}
use Rattle.a2m.specs.TableCalls.{table_step}
use Rattle.a2m.proofs.NeverSix.{table-answer}
use Rattle.line.specs.declared.Command.{Command}
use Rattle.line.specs.declared.Command.TheVariants.{Format, Append, Advance, Truncate, Lookup, End}
use Rattle.script.specs.declared.Answer.TheVariants.{Plain, Bounded}
use Rattle.script.specs.Answer.{reply_answer, bounded_answer, answer_number, call_answer}
use Rattle.script.specs.Script.{format_fault, command_answer}

-- a reply's number is the answer's
pub bounded-number : (k : ℕ) (r : Row) → answer_number (bounded_answer k r) ≡ k
bounded-number k r = go (eqb k 1 || eqb k 2)
  where
    go : (t : Bool) → answer_number (cond t (Plain k) (Bounded k r.low r.high)) ≡ k
    go true = refl
    go false = refl

reply_six : (x : Reply) (r : Row) → x ≢ refused 6 → answer_number (reply_answer x r) ≢ 6
reply_six (refused k) r h e = h (ap refused (sym (bounded-number k r) ∙ e))
reply_six (done low high) r h e = let z = bounded-number 0 r in omega arith
reply_six (found receipt examined) r h e = omega arith
reply_six (ended receipt) r h e = omega arith

call_six : (b : List ℕ) (call : Call) → answer_number (call_answer b call) ≢ 6
unfolding call_answer
call_six b call = reply_six (table_step b call).reply (row_in (read_table (table_step b call).state) (log_of call)) (table-answer b call)

format_six : (logs slots : ℕ) (reserves : List ℕ) → format_fault logs slots reserves ≢ some 6
unfolding format_refusal
format_six logs slots reserves = never 6 _ refl

pub script-answer : (b : List ℕ) (command : Option Command) (reserves : List ℕ) → answer_number (command_answer b command reserves) ≢ 6
unfolding command_answer
script-answer b (Some (Format logs slots keeper first)) reserves = never-answered 6 (λ z. omega arith) (format_fault logs slots reserves) (format_six logs slots reserves)
script-answer b (Some (Append log value)) reserves = call_six b (append log (placed value))
script-answer b (Some (Advance log position digest value)) reserves = call_six b (advance log position (placed digest) (placed value))
script-answer b (Some (Truncate log position)) reserves = call_six b (truncate log position)
script-answer b (Some (Lookup log position)) reserves = call_six b (lookup log position (zeros 32) 160)
script-answer b (Some (End log)) reserves = call_six b (end log (zeros 32) 160)
script-answer b None reserves = λ e. omega arith
