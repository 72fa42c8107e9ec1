-- Each line is answered by one line, so newlines count answers.
use Prim.Native.Nat.{ℕ, zero, suc, ◌+◌, ◌/◌, ◌%◌, ◌^◌}
use mathlib.Core.Path.{◌≡◌, refl}
use mathlib.Core.Logic.{◌≢◌}
use mathlib.Core.Bool.{Bool, true, false, cond, ◌||◌}
use mathlib.Core.List.{List, [], ◌∷◌, ◌++◌}
use Rattle.std.specs.Prelude.{Option, Some, None}
use native.Mathlib.Omega.{arith}
use lib.Dec.{eqb, ltb}
use borrow.Author.Tests.{ne_eqb}
use Rattle.decimal.specs.Decimal.{digits_of, decimal_from, decimal_of}
use Rattle.layout.specs.declared.Row.{Row}
use Rattle.layout.specs.Layout.{read_table}
use Rattle.a2m.specs.Call.{Call, log_of, Reply, refused, done, found, ended}
use Rattle.a2m.specs.ImageCalls.{row_in}
use Rattle.a2m.specs.TableCalls.{table_step}
use Rattle.line.specs.declared.Cell.{Cell}
use Rattle.line.specs.declared.Cell.TheVariants.{Dash, Number, Letter}
use Rattle.line.specs.declared.Command.{Command}
use Rattle.line.specs.declared.Command.TheVariants.{Format, Append, Advance, Truncate, Lookup, End}
use Rattle.line.specs.Command.{command_of, reserves_of}
use Rattle.line.specs.Answer.{cell_text, line_text}
use Rattle.script.specs.declared.Answer.{Answer}
use Rattle.script.specs.declared.Answer.TheVariants.{Plain, Bounded, Attested}
use Rattle.script.specs.Answer.{letter_of, reply_answer, call_answer}
use Rattle.script.specs.Script.{command_answer, cells_of, answer_text, table_after}
use Rattle.script.specs.Stream.{cut, newlines, answered}
use Rattle.script.proofs.StreamLaws.{newlines-append, one_newline}

-- ---- decimals

no_newline : (b : ℕ) (l : List ℕ) → b ≢ 10 → newlines l ≡ 0 → newlines (b ∷ l) ≡ 0
unfolding newlines
no_newline b l h e = rw (ne_eqb b 10 h) e

none : newlines [] ≡ 0
unfolding newlines
none = refl

digits : (k n : ℕ) → newlines (digits_of k n) ≡ 0
unfolding digits_of
digits zero n = none
digits (suc k) n = no_newline (48 + n / 10 ^ k) (digits_of k (n % 10 ^ k)) (λ e. absurd (omega arith)) (digits k (n % 10 ^ k))

decimal-from : (k n : ℕ) → newlines (decimal_from k n) ≡ 0
unfolding decimal_from
decimal-from zero n = digits 1 n
decimal-from (suc k) n = go (ltb n (10 ^ suc k)) (decimal-from k n)
  where
    go : (b : Bool) → newlines (decimal_from k n) ≡ 0 → newlines (cond b (decimal_from k n) (digits_of (suc (suc k)) n)) ≡ 0
    go true p = p
    go false p = digits (suc (suc k)) n

decimal : (n : ℕ) → newlines (decimal_of n) ≡ 0
unfolding decimal_of
decimal n = decimal-from 19 n

-- ---- cells, where no letter is a newline

abbrev Printed : Cell → Type 0
Printed Dash = Unit {0}
Printed (Number n) = Unit {0}
Printed (Letter b) = b ≢ 10

abbrev AllPrinted : List Cell → Type 0
AllPrinted [] = Unit {0}
AllPrinted (c ∷ cs) = Printed c × AllPrinted cs

cell : (c : Cell) → Printed c → newlines (cell_text c) ≡ 0
cell Dash p = no_newline 45 [] (λ e. absurd (omega arith)) none
cell (Number n) p = decimal n
cell (Letter b) p = no_newline b [] p none

one_comma : newlines (44 ∷ []) ≡ 0
one_comma = no_newline 44 [] (λ e. absurd (omega arith)) none

line : (c : Cell) (cs : List Cell) → AllPrinted (c ∷ cs) → newlines (line_text (c ∷ cs)) ≡ 1
unfolding line_text
line c [] p = omega (arith, newlines-append (cell_text c ++ (10 ∷ [])) [], newlines-append (cell_text c) (10 ∷ []), cell c p.0, one_newline, none)
line c (d ∷ cs) p = omega (arith, newlines-append (cell_text c ++ (44 ∷ [])) (line_text (d ∷ cs)), newlines-append (cell_text c) (44 ∷ []), cell c p.0, one_comma, line d cs p.1)

-- ---- answers

abbrev Lettered : Answer → Type 0
Lettered (Plain k) = Unit {0}
Lettered (Bounded k low high) = Unit {0}
Lettered (Attested kind position reference value low high) = kind ≢ 10

letter : (k : ℕ) → letter_of k ≢ 10
unfolding letter_of
letter k = go (eqb k 0) (eqb k 1) (eqb k 2)
  where
    go : (x y z : Bool) → ◌≢◌ {A = ℕ} (cond x 85 (cond y 65 (cond z 83 70))) 10
    go true y z e = absurd (omega arith)
    go false true z e = absurd (omega arith)
    go false false true e = absurd (omega arith)
    go false false false e = absurd (omega arith)

reply : (x : Reply) (r : Row) → Lettered (reply_answer x r)
reply (refused k) r = go (eqb k 1 || eqb k 2)
  where
    go : (b : Bool) → Lettered (cond b (Plain k) (Bounded k r.low r.high))
    go true = tt
    go false = tt
reply (done low high) r = tt
reply (found receipt examined) r = letter _
reply (ended receipt) r = letter _

call : (b : List ℕ) (c : Call) → Lettered (call_answer b c)
unfolding call_answer
call b c = reply (table_step b c).reply (row_in (read_table (table_step b c).state) (log_of c))

command : (b : List ℕ) (c : Option Command) (rs : List ℕ) → Lettered (command_answer b c rs)
unfolding command_answer
command b (Some (Format logs slots keeper first)) rs = tt
command b (Some (Append log value)) rs = call b _
command b (Some (Advance log position digest value)) rs = call b _
command b (Some (Truncate log position)) rs = call b _
command b (Some (Lookup log position)) rs = call b _
command b (Some (End log)) rs = call b _
command b None rs = tt

cells : (n : ℕ) (a : Answer) → Lettered a → newlines (line_text (cells_of n a)) ≡ 1
cells n (Plain k) p = line _ _ (tt, (tt, (tt, (tt, (tt, (tt, (tt, (tt, tt))))))))
cells n (Bounded k low high) p = line _ _ (tt, (tt, (tt, (tt, (tt, (tt, (tt, (tt, tt))))))))
cells n (Attested kind position reference value low high) p = line _ _ (tt, (tt, (p, (tt, (tt, (tt, (tt, (tt, tt))))))))

pub one_line : (T : List ℕ) (n : ℕ) (l : List ℕ) → newlines (answer_text T n l) ≡ 1
unfolding answer_text
one_line T n l = cells n (command_answer T (command_of l) (reserves_of l)) (command T (command_of l) (reserves_of l))

-- as many answers as lines that end
pub answered_lines : (T h : List ℕ) (n : ℕ) (x : List ℕ) → newlines (answered T h n x) ≡ newlines x
unfolding answered newlines
answered_lines T h n [] = refl
answered_lines T h n (b ∷ x) = go (eqb b 10) (answered_lines (table_after T h) [] (suc n) x) (answered_lines T (cut (h ++ (b ∷ []))) n x)
  where
    U : List ℕ
    U = answered (table_after T h) [] (suc n) x

    V' : List ℕ
    V' = answered T (cut (h ++ (b ∷ []))) n x

    go : (t : Bool) → newlines U ≡ newlines x → newlines V' ≡ newlines x → newlines (cond t (answer_text T n h ++ U) V') ≡ cond t (suc (newlines x)) (newlines x)
    go true p q = omega (arith, newlines-append (answer_text T n h) U, one_line T n h)
    go false p q = q
