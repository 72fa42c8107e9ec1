-- Laws of the text as it is written.
use Prim.Native.Nat.{ℕ, ◌+◌, ◌≤◌, ◌<◌}
use mathlib.Core.Path.{◌≡◌, refl, sym, ap, ap₂, ◌∙◌}
use mathlib.Core.List.{List, [], ◌∷◌, ◌++◌, append_assoc, append-nil}
use native.Mathlib.Omega.{arith}
use native.Mathlib.Numerals.{add-one}
use lib.ListN.{length, take, drop, get_or, set, length-append}
use lib.Seq.{take-suc}
use Rattle.std.proofs.lemmas.List.{take-append-drop}
use Rattle.refusal.specs.declared.Refusal.{Refusal}
use Rattle.refusal.specs.Number.{number_of}
use Rattle.octets.specs.Octets.{splice}
use Rattle.octets.proofs.Parts.{length-splice, splice-append, splice-byte}
use Rattle.decimal.specs.Decimal.{decimal_of}
use Rattle.decimal.proofs.Theorems.{length-decimal}
use Rattle.workload.specs.declared.Draw.{Draw}
use Rattle.std.specs.Prelude.{Ok, Err}
use Rattle.workload.specs.declared.Script.{Script}
use Rattle.workload.specs.Text.{course, numbers_text, word_text, fields_in, draw_line, format_line}
use Rattle.workload.specs.Asked.{Asked, first_text, course_of}
use Rattle.workload.proofs.TextLaws.{format-text}
use Rattle.std.specs.Prelude.{codes}

-- ---- one text after another, and a byte after that

pub byte-after : (l x : List ℕ) (at to b : ℕ) {o : List ℕ} → at + length (x ++ (b ∷ [])) ≤ length l → to ≡ at + length x → o ≡ splice l at x → set o to b ≡ splice l at (x ++ (b ∷ []))
byte-after l x at to b room p e =
    let s : length (x ++ (b ∷ [])) ≡ length x + 1 = length-append x (b ∷ []) in
    ap₂ (λ (y : List ℕ) (k : ℕ). set y k b) e p
    ∙ splice-byte (splice l at x) (at + length x) b (omega (arith, length-splice l x at (omega arith)))
    ∙ splice-append l at x (b ∷ []) (omega arith)

-- a word, its fields and a newline
pub line-put : (l w ns : List ℕ) (at e to : ℕ) {o p : List ℕ} → at + length ((w ++ ns) ++ (10 ∷ [])) ≤ length l → e ≡ at + length w → o ≡ splice l at w → to ≡ e + length ns → p ≡ splice o e ns
    → (to + 1 ≡ at + length ((w ++ ns) ++ (10 ∷ []))) × (set p to 10 ≡ splice l at ((w ++ ns) ++ (10 ∷ [])))
line-put l w ns at e to room pe po pt pp =
    let s : length ((w ++ ns) ++ (10 ∷ [])) ≡ length (w ++ ns) + 1 = length-append (w ++ ns) (10 ∷ []) in
    let r : length (w ++ ns) ≡ length w + length ns = length-append w ns in (
      omega arith,
      byte-after l (w ++ ns) at to 10 room (omega arith) (pp ∙ ap₂ (λ (y : List ℕ) (k : ℕ). splice y k ns) po pe ∙ splice-append l at w ns (omega arith)),
    )

module _ (d : Draw) where
  pub call_length : length (draw_line d ++ (10 ∷ [])) ≡ length (word_text d) + length (numbers_text (fields_in d)) + 1
  unfolding draw_line
  call_length = omega (arith, length-append (word_text d ++ numbers_text (fields_in d)) (10 ∷ []), length-append (word_text d) (numbers_text (fields_in d)))

  pub call-put : (l : List ℕ) (at e to : ℕ) {o p : List ℕ} → at + length (draw_line d ++ (10 ∷ [])) ≤ length l → e ≡ at + length (word_text d) → o ≡ splice l at (word_text d)
      → to ≡ e + length (numbers_text (fields_in d)) → p ≡ splice o e (numbers_text (fields_in d)) → (to + 1 ≡ at + length (draw_line d ++ (10 ∷ []))) × (set p to 10 ≡ splice l at (draw_line d ++ (10 ∷ [])))
  unfolding draw_line
  call-put l at e to = line-put l (word_text d) (numbers_text (fields_in d)) at e to

-- ---- the numbers, one more each turn

numbers-append : (a b : List ℕ) → numbers_text (a ++ b) ≡ numbers_text a ++ numbers_text b
unfolding numbers_text
numbers-append [] b = refl
numbers-append (n ∷ a) b = ap (λ (l : List ℕ). (44 ∷ decimal_of n) ++ l) (numbers-append a b) ∙ sym (append_assoc (44 ∷ decimal_of n) (numbers_text a) (numbers_text b))

numbers-one : (n : ℕ) → numbers_text (n ∷ []) ≡ 44 ∷ decimal_of n
unfolding numbers_text
numbers-one n = append-nil (44 ∷ decimal_of n)

pub numbers-start : (l : List ℕ) → numbers_text (take 0 l) ≡ []
unfolding numbers_text
numbers-start l = refl

pub numbers_more : (l : List ℕ) (i : ℕ) → i < length l → numbers_text (take (i + 1) l) ≡ numbers_text (take i l) ++ (44 ∷ decimal_of (get_or l i 0))
numbers_more l i h =
    ap (λ (k : ℕ). numbers_text (take k l)) (add-one i)
    ∙ ap numbers_text (take-suc l i 0 h)
    ∙ numbers-append (take i l) (get_or l i 0 ∷ [])
    ∙ ap (λ (x : List ℕ). numbers_text (take i l) ++ x) (numbers-one (get_or l i 0))

-- the first of them are no longer than all
pub numbers-part : (l : List ℕ) (i : ℕ) → length (numbers_text (take i l)) ≤ length (numbers_text l)
numbers-part l i =
    let e : numbers_text l ≡ numbers_text (take i l) ++ numbers_text (drop i l) = ap numbers_text (sym (take-append-drop i l)) ∙ numbers-append (take i l) (drop i l) in
    omega (arith, ap length e, length-append (numbers_text (take i l)) (numbers_text (drop i l)))

-- ---- what is written first

format-bytes : (codes "format,4,32,1,0,0,0,0" ++ (10 ∷ [])) ≡ format_line ++ (10 ∷ [])
format-bytes = ap (λ (l : List ℕ). l ++ (10 ∷ [])) (sym format-text)

-- the format
pub script-first : (a : Asked) (s : Script) (out out' : List ℕ) → a ≡ Ok s
    → out' ≡ splice out 0 (codes "format,4,32,1,0,0,0,0" ++ (10 ∷ []))
    → (course s 22 ≡ course_of a) × (out' ≡ splice out 0 (first_text a))
script-first a s out out' is h = (
  ap (λ (l : List ℕ). course s (length l)) format-bytes ∙ ap course_of (sym is),
  h ∙ ap (splice out 0) (format-bytes ∙ ap first_text (sym is)),
)

-- n is the refusal's number
pub refused-first : (a : Asked) (why : Refusal) (n to : ℕ) (out : List ℕ) {o : List ℕ} → a ≡ Err why → n ≡ number_of why → 21 ≤ length out
    → to ≡ 0 + length (decimal_of n) → o ≡ splice out 0 (decimal_of n)
    → (course (record { seed = 0; count = 0 }) (to + 1) ≡ course_of a) × (set o to 10 ≡ splice out 0 (first_text a))
refused-first a why n to out is nr room p e =
    let s : length (decimal_of n ++ (10 ∷ [])) ≡ length (decimal_of n) + 1 = length-append (decimal_of n) (10 ∷ []) in
    let t : decimal_of n ++ (10 ∷ []) ≡ first_text a = ap (λ (k : ℕ). decimal_of k ++ (10 ∷ [])) nr ∙ ap first_text (sym is) in
    let q : to + 1 ≡ length (decimal_of (number_of why) ++ (10 ∷ [])) = omega (arith, ap (λ (k : ℕ). length (decimal_of k ++ (10 ∷ []))) nr) in (
      ap (course (record { seed = 0; count = 0 })) q ∙ ap course_of (sym is),
      byte-after out (decimal_of n) 0 to 10 (omega (arith, length-decimal n)) p e ∙ ap (splice out 0) t,
    )
