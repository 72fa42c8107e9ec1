-- Laws of an answer line.
use Prim.Native.Nat.{ℕ, zero, suc, ◌+◌, ◌*◌, ◌≤◌, ◌<◌}
use mathlib.Core.Path.{◌≡◌, refl, sym, ap, ◌∙◌}
use mathlib.Core.List.{List, [], ◌∷◌, ◌++◌, append_assoc, append-nil}
use native.Mathlib.Omega.{arith}
use native.Mathlib.Numerals.{add-one}
use lib.ListN.{length, take, get_or, length-append}
use lib.Seq.{take-suc}
use Rattle.decimal.proofs.Theorems.{length-decimal}
use Rattle.line.specs.declared.Cell.{Cell}
use Rattle.line.specs.declared.Cell.TheVariants.{Dash, Number, Letter}
use Rattle.line.specs.Answer.{cell_text, line_text}

pub cell-length : (c : Cell) → length (cell_text c) ≤ 20
cell-length Dash = omega arith
cell-length (Number n) = length-decimal n
cell-length (Letter b) = omega arith

-- a cell with its mark
pub cell_room : (c : Cell) (m : ℕ) → length (cell_text c ++ (m ∷ [])) ≤ 21
cell_room c m = omega (arith, length-append (cell_text c) (m ∷ []), cell-length c)

-- the cells with a comma after each
unfoldable pub commas : List Cell → List ℕ
commas [] = []
commas (c ∷ cs) = (cell_text c ++ (44 ∷ [])) ++ commas cs

pub commas-nil : commas [] ≡ []
unfolding commas
commas-nil = refl

commas-snoc : (cs : List Cell) (c : Cell) → commas (cs ++ (c ∷ [])) ≡ commas cs ++ (cell_text c ++ (44 ∷ []))
unfolding commas
commas-snoc [] c = append-nil (cell_text c ++ (44 ∷ []))
commas-snoc (d ∷ cs) c = ap (λ (l : List ℕ). (cell_text d ++ (44 ∷ [])) ++ l) (commas-snoc cs c) ∙ sym (append_assoc (cell_text d ++ (44 ∷ [])) (commas cs) (cell_text c ++ (44 ∷ [])))

pub commas-more : (cs : List Cell) (i : ℕ) → i < length cs → commas (take (i + 1) cs) ≡ commas (take i cs) ++ (cell_text (get_or cs i Dash) ++ (44 ∷ []))
commas-more cs i h = ap (λ (k : ℕ). commas (take k cs)) (add-one i) ∙ ap commas (take-suc cs i Dash h) ∙ commas-snoc (take i cs) (get_or cs i Dash)

pub commas-length : (cs : List Cell) (i : ℕ) → length (commas (take i cs)) ≤ 21 * i
unfolding commas
commas-length cs zero = omega arith
commas-length [] (suc i) = omega arith
commas-length (c ∷ cs) (suc i) =
    omega (arith, length-append (cell_text c ++ (44 ∷ [])) (commas (take i cs)), length-append (cell_text c) (44 ∷ []), cell-length c, commas-length cs i)

-- the last has a newline
pub line-last : (n : ℕ) (cs : List Cell) → length cs ≡ suc n → line_text cs ≡ commas (take n cs) ++ (cell_text (get_or cs n Dash) ++ (10 ∷ []))
unfolding commas line_text
line-last n [] h = absurd (omega arith)
line-last zero (c ∷ []) h = append-nil (cell_text c ++ (10 ∷ []))
line-last zero (c ∷ d ∷ cs) h = absurd (omega arith)
line-last (suc n) (c ∷ []) h = absurd (omega arith)
line-last (suc n) (c ∷ d ∷ cs) h =
    ap (λ (l : List ℕ). (cell_text c ++ (44 ∷ [])) ++ l) (line-last n (d ∷ cs) (omega arith))
    ∙ sym (append_assoc (cell_text c ++ (44 ∷ [])) (commas (take n (d ∷ cs))) (cell_text (get_or (d ∷ cs) n Dash) ++ (10 ∷ [])))

-- a line of eight cells fits 168 bytes
pub line-length : (cs : List Cell) → length cs ≡ 8 → length (line_text cs) ≤ 168
line-length cs h =
    let x : List ℕ = commas (take 7 cs) in
    let y : List ℕ = cell_text (get_or cs 7 Dash) in
    omega (arith, ap length (line-last 7 cs h), length-append x (y ++ (10 ∷ [])), length-append y (10 ∷ []), commas-length cs 7, cell-length (get_or cs 7 Dash))
