-- "writes a script": every line of a rush is a line of the script program, of the call that was drawn.
use Prim.Native.Nat.{ℕ, zero, suc, ◌≤◌, ◌<◌, ◌^◌}
use mathlib.Core.Path.{◌≡◌, refl, ap, ap₂, ◌∙◌}
use mathlib.Core.Bool.{true}
use mathlib.Core.List.{List, [], ◌∷◌, ◌++◌, map}
use Rattle.std.specs.Prelude.{Option, None, Some}
use native.Mathlib.Omega.{arith}
use lib.ListN.{length}
use borrow.Author.Tests.{le-leb}
use Rattle.octets.specs.Octets.{same, zeros}
use Rattle.line.specs.declared.Command.{Command}
use Rattle.line.specs.Fields.{parts_of, fields_of}
use Rattle.line.specs.Lines.{lines_of}
use Rattle.line.specs.Command.{word_of, padded, of_numbers, of_fields, command_of, reserves_in, numbers_in, reserves_of}
use Rattle.workload.specs.declared.Draw.{Draw}
use Rattle.workload.specs.declared.Draw.TheVariants.{Append, Advance, Truncate, Lookup, End}
use Rattle.workload.specs.Generator.{drawn, draws_from, InRange}
use Rattle.workload.specs.Text.{numbers_text, word_text, fields_in, draw_line, lines_text, format_line, script_text}
use Rattle.workload.specs.Commands.{command_for, Said, said_by, format_said, draw_said}
use Rattle.workload.proofs.GeneratorLaws.{draw_ranges, state-fits}
use Rattle.workload.proofs.TextLaws.{line-size, format-text}
use Rattle.workload.proofs.PartLaws.{lacks, lacks-append, Below, numbers-lack, fields-text, numbers-back, lines_after}
use Rattle.std.specs.Prelude.{codes}

-- a word and numbers
module _ (w ns : List ℕ) (no : lacks 44 w ≡ true) (fit : Below ns) (short : length (w ++ numbers_text ns) ≤ 200) where
  text-command : command_of (w ++ numbers_text ns) ≡ of_numbers (word_of w) (Some ns)
  unfolding command_of
  text-command =
      let e : of_fields (fields_of (w ++ numbers_text ns)) ≡ of_numbers (word_of w) (Some ns) = ap of_fields (fields-text w ns no fit) ∙ ap (of_numbers (word_of w)) (numbers-back ns fit) in
      rw (le-leb (length (w ++ numbers_text ns)) 200 short) e

  text-said : (c : Option Command) → of_numbers (word_of w) (Some ns) ≡ c → said_by (w ++ numbers_text ns) ≡ (c, reserves_in c ns)
  unfolding reserves_of
  text-said c h =
      let l : List ℕ = w ++ numbers_text ns in
      let p : command_of l ≡ c = text-command ∙ h in
      let q : numbers_in (fields_of l) ≡ ns = ap numbers_in (fields-text w ns no fit) ∙ ap (λ (o : Option (List ℕ)). elim o [ None ↦ [] | Some ms ↦ ms ]) (numbers-back ns fit) in
      ap₂ {C = Said} (λ (x : Option Command) (y : List ℕ). (x, y)) p (ap₂ reserves_in p q)

-- the fields of a call in range are below 2^64
fields-below : (d : Draw) → InRange d → Below (fields_in d)
fields-below (Append g v) h = (omega arith, (h.1, tt))
fields-below (Advance g p m v) h = (omega arith, (omega arith, (omega arith, (omega arith, tt))))
fields-below (Truncate g p) h = (omega arith, (omega arith, tt))
fields-below (Lookup g p) h = (omega arith, (omega arith, tt))
fields-below (End g) h = (omega arith, tt)

-- no word has a comma or a newline
word-lacks : (d : Draw) → (lacks 44 (word_text d) ≡ true) × (lacks 10 (word_text d) ≡ true)
unfolding lacks
word-lacks (Append g v) = (refl, refl)
word-lacks (Advance g p m v) = (refl, refl)
word-lacks (Truncate g p) = (refl, refl)
word-lacks (Lookup g p) = (refl, refl)
word-lacks (End g) = (refl, refl)

draw-made : (d : Draw) → of_numbers (word_of (word_text d)) (Some (fields_in d)) ≡ Some (command_for d)
unfolding same
draw-made (Append g v) = refl
draw-made (Advance g p m v) = refl
draw-made (Truncate g p) = refl
draw-made (Lookup g p) = refl
draw-made (End g) = refl

draw_reserves : (d : Draw) → reserves_in (Some (command_for d)) (fields_in d) ≡ []
draw_reserves (Append g v) = refl
draw_reserves (Advance g p m v) = refl
draw_reserves (Truncate g p) = refl
draw_reserves (Lookup g p) = refl
draw_reserves (End g) = refl

pub line_parses : (d : Draw) → InRange d → said_by (draw_line d) ≡ draw_said d
unfolding draw_line
line_parses d h =
    text-said (word_text d) (fields_in d) (word-lacks d).0 (fields-below d h) (omega (arith, line-size d h)) (Some (command_for d)) (draw-made d)
    ∙ ap {B = Said} (λ (rs : List ℕ). (Some (command_for d), rs)) (draw_reserves d)

line-lacks : (d : Draw) → InRange d → lacks 10 (draw_line d) ≡ true
unfolding draw_line
line-lacks d h = lacks-append 10 (word_text d) (numbers_text (fields_in d)) (word-lacks d).1 (numbers-lack 10 (fields_in d) (omega arith) (fields-below d h))

format-lacks : lacks 10 format_line ≡ true
unfolding lacks
format-lacks = ap (lacks 10) format-text

pub format_parses : said_by format_line ≡ format_said
unfolding format_line same lacks padded zeros
format_parses =
    text-said (codes "format") (4 ∷ 32 ∷ 1 ∷ 0 ∷ 0 ∷ 0 ∷ 0 ∷ []) refl (omega arith, (omega arith, (omega arith, (omega arith, (omega arith, (omega arith, (omega arith, tt))))))) (omega (arith, ap length format-text)) _ refl

-- ---- the whole script

no_lines : lines_of [] ≡ []
unfolding parts_of
no_lines = refl

draw_lines : (x n : ℕ) → x < 2 ^ 64 → lines_of (lines_text x n) ≡ map draw_line (draws_from x n)
unfolding lines_text draws_from
draw_lines x zero h = no_lines
draw_lines x (suc n) h =
    lines_after (draw_line (drawn x).draw) (lines_text (drawn x).state n) (line-lacks (drawn x).draw (draw_ranges x h))
    ∙ ap {B = List (List ℕ)} (λ (ls : List (List ℕ)). draw_line (drawn x).draw ∷ ls) (draw_lines (drawn x).state n (state-fits x h))

-- the format and a line for each call
pub script_lines_lem : (seed n : ℕ) → seed < 2 ^ 64 → lines_of (script_text seed n) ≡ format_line ∷ map draw_line (draws_from seed n)
unfolding script_text
script_lines_lem seed n h =
    lines_after format_line (lines_text seed n) format-lacks
    ∙ ap {B = List (List ℕ)} (λ (ls : List (List ℕ)). format_line ∷ ls) (draw_lines seed n h)

draws-said : (x n : ℕ) → x < 2 ^ 64 → map said_by (map draw_line (draws_from x n)) ≡ map draw_said (draws_from x n)
unfolding draws_from
draws-said x zero h = refl
draws-said x (suc n) h =
    ap₂ {C = List Said} (λ (a : Said) (b : List Said). a ∷ b) (line_parses (drawn x).draw (draw_ranges x h)) (draws-said (drawn x).state n (state-fits x h))

-- read by the script program's rules it says the format, then the calls drawn
pub script-reads : (seed n : ℕ) → seed < 2 ^ 64 → map said_by (lines_of (script_text seed n)) ≡ format_said ∷ map draw_said (draws_from seed n)
script-reads seed n h =
    ap (map said_by) (script_lines_lem seed n h)
    ∙ ap₂ {C = List Said} (λ (a : Said) (b : List Said). a ∷ b) format_parses (draws-said seed n h)
