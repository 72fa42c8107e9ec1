-- Laws of the text: its lines one after the other, and how long they are.
use Prim.Native.Nat.{ℕ, zero, suc, ◌+◌, ◌≤◌, ◌<◌, ◌^◌}
use mathlib.Core.Path.{◌≡◌, refl, sym, ap, ◌∙◌}
use mathlib.Core.List.{List, [], ◌∷◌, ◌++◌, append_assoc, append-nil}
use native.Mathlib.Omega.{arith}
use native.Mathlib.Nat.{zero-add, suc-add}
use native.Mathlib.Decide.{dec_le}
use lib.ListN.{length, length-append}
use Rattle.decimal.specs.Decimal.{decimal_of}
use Rattle.decimal.proofs.Laws.{of_width, length-digits_of}
use Rattle.decimal.proofs.Theorems.{length-decimal}
use Rattle.workload.specs.declared.Draw.{Draw}
use Rattle.workload.specs.declared.Draw.TheVariants.{Append, Advance, Truncate, Lookup, End}
use Rattle.workload.specs.Generator.{drawn, state_after, InRange}
use Rattle.workload.specs.Text.{numbers_text, word_text, draw_line, lines_text, format_line}
use Rattle.workload.proofs.GeneratorLaws.{draw_ranges}
use Rattle.std.specs.Prelude.{codes}

-- ---- in pieces

pub pieces : (x j k : ℕ) → lines_text x (j + k) ≡ lines_text x j ++ lines_text (state_after x j) k
unfolding lines_text state_after
pieces x zero k = ap (lines_text x) (zero-add k)
pieces x (suc j) k =
    let l : List ℕ = draw_line (drawn x).draw ++ (10 ∷ []) in
    let y : ℕ = (drawn x).state in
    ap (lines_text x) (suc-add j k)
    ∙ ap (λ (z : List ℕ). l ++ z) (pieces y j k)
    ∙ sym (append_assoc l (lines_text y j) (lines_text (state_after y j) k))

pub state_pieces : (x j k : ℕ) → state_after x (j + k) ≡ state_after (state_after x j) k
unfolding state_after
state_pieces x zero k = ap (state_after x) (zero-add k)
state_pieces x (suc j) k = ap (state_after x) (suc-add j k) ∙ state_pieces (drawn x).state j k

-- a line more
pub line-more : (x j : ℕ) → lines_text x (j + 1) ≡ lines_text x j ++ (draw_line (drawn (state_after x j)).draw ++ (10 ∷ []))
unfolding lines_text
line-more x j = pieces x j 1 ∙ ap (λ (z : List ℕ). lines_text x j ++ z) (append-nil (draw_line (drawn (state_after x j)).draw ++ (10 ∷ [])))

pub state-more : (x j : ℕ) → state_after x (j + 1) ≡ (drawn (state_after x j)).state
unfolding state_after
state-more x j = state_pieces x j 1

-- ---- sizes

digit-one : (n : ℕ) → n < 10 → length (decimal_of n) ≡ 1
digit-one n h = ap length (of_width 1 n (omega arith) (omega arith) (omega arith) (λ q. absurd (omega arith))) ∙ length-digits_of 1 n

digits-two : (n : ℕ) → n < 100 → length (decimal_of n) ≤ 2
digits-two n h = go (dec_le 10 n)
  where
    go : Dec (10 ≤ n) → length (decimal_of n) ≤ 2
    go (yes q) = omega (arith, ap length (of_width 2 n (omega arith) (omega arith) (omega arith) (λ p. omega arith)), length-digits_of 2 n)
    go (no q) = omega (arith, digit-one n (omega arith))

pub numbers-none : numbers_text [] ≡ []
unfolding numbers_text
numbers-none = refl

pub numbers-length : (n : ℕ) (ns : List ℕ) → length (numbers_text (n ∷ ns)) ≡ 1 + length (decimal_of n) + length (numbers_text ns)
unfolding numbers_text
numbers-length n ns = omega (arith, length-append (44 ∷ decimal_of n) (numbers_text ns))

-- at most 54 bytes, as `advance,3,64,18446744073709551615,18446744073709551615` has
pub line-size : (d : Draw) → InRange d → length (draw_line d) ≤ 54
unfolding draw_line
line-size (Append g v) h =
    omega (arith, length-append (word_text (Append g v)) (numbers_text (g ∷ v ∷ [])), numbers-length g (v ∷ []), numbers-length v [], ap length numbers-none, digit-one g (omega arith), length-decimal v)
line-size (Advance g p m v) h =
    omega (
      arith,
      length-append (word_text (Advance g p m v)) (numbers_text (g ∷ p ∷ m ∷ v ∷ [])),
      numbers-length g (p ∷ m ∷ v ∷ []),
      numbers-length p (m ∷ v ∷ []),
      numbers-length m (v ∷ []),
      numbers-length v [],
      ap length numbers-none,
      digit-one g (omega arith),
      digits-two p (omega arith),
      length-decimal m,
      length-decimal v,
    )
line-size (Truncate g p) h =
    omega (arith, length-append (word_text (Truncate g p)) (numbers_text (g ∷ p ∷ [])), numbers-length g (p ∷ []), numbers-length p [], ap length numbers-none, digit-one g (omega arith), digits-two p (omega arith))
line-size (Lookup g p) h =
    omega (arith, length-append (word_text (Lookup g p)) (numbers_text (g ∷ p ∷ [])), numbers-length g (p ∷ []), numbers-length p [], ap length numbers-none, digit-one g (omega arith), digits-two p (omega arith))
line-size (End g) h = omega (arith, length-append (word_text (End g)) (numbers_text (g ∷ [])), numbers-length g [], ap length numbers-none, digit-one g (omega arith))

-- the line drawn from a state finds room in 55 bytes
pub drawn-size : (x : ℕ) → x < 2 ^ 64 → length (draw_line (drawn x).draw ++ (10 ∷ [])) ≤ 55
drawn-size x h = omega (arith, length-append (draw_line (drawn x).draw) (10 ∷ []), line-size (drawn x).draw (draw_ranges x h))

-- "format,4,32,1,0,0,0,0" in ASCII
pub format-text : format_line ≡ codes "format,4,32,1,0,0,0,0"
unfolding format_line numbers_text decimal_of Rattle.decimal.specs.Decimal.decimal_from Rattle.decimal.specs.Decimal.digits_of
format-text = refl
