-- A rush is a script that the script program takes: its format is accepted, and no line is answered 1, 2, 8 or 15.
use Rattle.std.specs.Prelude.{Some}
use Prim.Native.Nat.{ℕ, zero, suc, ◌<◌, ◌^◌}
use mathlib.Core.Path.{◌≡◌, refl, sym, ap, ap₂, subst, ◌∙◌}
use mathlib.Core.List.{List, [], ◌∷◌, map}
use mathlib.Core.Option.{none}
use native.Mathlib.Omega.{arith}
use lib.ListN.{length}
use Rattle.octets.specs.Octets.{zeros}
use Rattle.octets.proofs.Zeros.{length-zeros}
use Rattle.bigendian.specs.BigEndian.{placed}
use Rattle.refusal.specs.Order.{answer_of, afterwards}
use Rattle.layout.specs.Layout.{table_size}
use Rattle.table.specs.Free.{write_table}
use Rattle.table.specs.Reserve.{sum}
use Rattle.table.specs.Format.{formatted, format_refusal}
use Rattle.table.proofs.FormatLaws.{no-refusal}
use Rattle.a2m.specs.Call.{Call, append, advance, truncate, lookup, end, log_of, Wide}
use Rattle.a2m.specs.TableCalls.{table_step}
use Rattle.model.specs.Model.{new_model}
use Rattle.model.proofs.Demand3.{stands}
use Rattle.line.specs.Command.{command_of, reserves_of}
use Rattle.line.specs.Lines.{lines_of}
use Rattle.script.specs.declared.Answer.{Answer}
use Rattle.script.specs.Answer.{answer_number, call_answer}
use Rattle.script.specs.Script.{command_answer, command_table, table_after}
use Rattle.workload.specs.declared.Draw.{Draw}
use Rattle.workload.specs.declared.Draw.TheVariants.{Append, Advance, Truncate, Lookup, End}
use Rattle.workload.specs.Generator.{drawn, draws_from, InRange}
use Rattle.workload.specs.Text.{draw_line, format_line, script_text}
use Rattle.workload.specs.Commands.{command_for, Said, format_said}
use Rattle.workload.proofs.GeneratorLaws.{draw_ranges, state-fits}
use Rattle.workload.proofs.ReadLaws.{line_parses, format_parses, script_lines_lem}
use Rattle.workload_answers.specs.Numbers.{answer_numbers, Clear, AllClear}
use Rattle.workload_answers.proofs.Ready.{Ready, call-ready, call-clear}

-- ---- the format

-- "format,4,32,1,0,0,0,0"
reserves : List ℕ
reserves = 0 ∷ 0 ∷ 0 ∷ 0 ∷ []

format-accepted : format_refusal (table_size 4 32) 4 32 32 reserves ≡ none
unfolding sum reserves
format-accepted =
    no-refusal (table_size 4 32) 4 32 32 reserves
    (record {
      counts = record { logs-least = omega arith; logs-most = omega arith; slots-least = omega arith; slots-most = omega arith };
      key = refl;
      buffer = refl;
      reserved = refl;
      together = omega arith;
    })

format-answer : (T : List ℕ) → answer_number (command_answer T format_said.0 format_said.1) ≡ 0
unfolding command_answer answer_of reserves
format-answer T = ap answer_of format-accepted

format-table : (T : List ℕ) → command_table T format_said.0 format_said.1 ≡ write_table (formatted 32 1 (zeros 32) reserves)
unfolding command_table afterwards reserves
format-table T = ap (λ o. afterwards o (write_table (formatted 32 1 (zeros 32) reserves)) T) format-accepted

format_ready : Ready (write_table (formatted 32 1 (zeros 32) reserves))
unfolding formatted reserves
format_ready =
    let lent : List ℕ = zeros (table_size 4 32) in
    let a : format_refusal (length lent) 4 32 (length (zeros 32)) reserves ≡ none = ap₂ (λ (n k : ℕ). format_refusal n 4 32 k reserves) (length-zeros (table_size 4 32)) (length-zeros 32) ∙ format-accepted in
    record {
      image = formatted 32 1 (zeros 32) reserves;
      model = new_model 32 1 (zeros 32) reserves;
      bytes = refl;
      stands = stands lent 4 32 1 (zeros 32) reserves (omega arith) a;
      logs = refl;
    }

-- the table that a format line leaves
format_leaves : (T : List ℕ) → Ready (table_after T format_line)
unfolding table_after
format_leaves T = subst Ready (sym (ap (λ (s : Said). command_table T s.0 s.1) format_parses ∙ format-table T)) format_ready

-- ---- a call

-- the call that a drawn line makes
abbrev call_for : Draw → Call
call_for (Append log value) = append log (placed value)
call_for (Advance log position digest value) = advance log position (placed digest) (placed value)
call_for (Truncate log position) = truncate log position
call_for (Lookup log position) = lookup log position (zeros 32) 160
call_for (End log) = end log (zeros 32) 160

call_wide : (d : Draw) → InRange d → Wide (call_for d)
call_wide (Append g v) h = tt
call_wide (Advance g p m v) h = omega arith
call_wide (Truncate g p) h = omega arith
call_wide (Lookup g p) h = omega arith
call_wide (End g) h = tt

call-log : (d : Draw) → InRange d → log_of (call_for d) < 4
call-log (Append g v) h = h.0
call-log (Advance g p m v) h = h.0
call-log (Truncate g p) h = h.0
call-log (Lookup g p) h = h.0
call-log (End g) h = h

module _ (T : List ℕ) where
  draw-answer : (d : Draw) → command_answer T (Some (command_for d)) [] ≡ call_answer T (call_for d)
  unfolding command_answer
  draw-answer (Append g v) = refl
  draw-answer (Advance g p m v) = refl
  draw-answer (Truncate g p) = refl
  draw-answer (Lookup g p) = refl
  draw-answer (End g) = refl

  draw-table : (d : Draw) → command_table T (Some (command_for d)) [] ≡ (table_step T (call_for d)).state
  unfolding command_table
  draw-table (Append g v) = refl
  draw-table (Advance g p m v) = refl
  draw-table (Truncate g p) = refl
  draw-table (Lookup g p) = refl
  draw-table (End g) = refl

  module _ (d : Draw) (h : InRange d) (r : Ready T) where
    line_clear : Clear (answer_number (command_answer T (command_of (draw_line d)) (reserves_of (draw_line d))))
    line_clear =
        let e : command_answer T (command_of (draw_line d)) (reserves_of (draw_line d)) ≡ call_answer T (call_for d) = ap (λ (s : Said). command_answer T s.0 s.1) (line_parses d h) ∙ draw-answer d in
        subst (λ (a : Answer). Clear (answer_number a)) (sym e) (call-clear T r (call_for d) (call-log d h))

    line-ready : Ready (table_after T (draw_line d))
    unfolding table_after
    line-ready =
        let e : command_table T (command_of (draw_line d)) (reserves_of (draw_line d)) ≡ (table_step T (call_for d)).state = ap (λ (s : Said). command_table T s.0 s.1) (line_parses d h) ∙ draw-table d in
        subst Ready (sym e) (call-ready T r (call_for d) (call_wide d h))

-- ---- the script

draws_clear : (T : List ℕ) (x n : ℕ) → x < 2 ^ 64 → Ready T → AllClear (answer_numbers T (map draw_line (draws_from x n)))
unfolding answer_numbers draws_from
draws_clear T x zero h r = tt
draws_clear T x (suc n) h r =
    let d : Draw = (drawn x).draw in
    (line_clear T d (draw_ranges x h) r, draws_clear (table_after T (draw_line d)) (drawn x).state n (state-fits x h) (line-ready T d (draw_ranges x h) r))

-- whatever table stood before: the format is answered 0, and every line after it Clear
pub rush-answers : (T : List ℕ) (seed n : ℕ) → seed < 2 ^ 64 → (ks : List ℕ) × (answer_numbers T (lines_of (script_text seed n)) ≡ 0 ∷ ks) × AllClear ks
unfolding answer_numbers
rush-answers T seed n h =
    let U : List ℕ = table_after T format_line in
    let ls : List (List ℕ) = map draw_line (draws_from seed n) in
    let a : answer_number (command_answer T (command_of format_line) (reserves_of format_line)) ≡ 0 = ap (λ (s : Said). answer_number (command_answer T s.0 s.1)) format_parses ∙ format-answer T in
    (answer_numbers U ls, ap (answer_numbers T) (script_lines_lem seed n h) ∙ ap {B = List ℕ} (λ (k : ℕ). k ∷ answer_numbers U ls) a, draws_clear U seed n h (format_leaves T))
