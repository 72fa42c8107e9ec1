-- Laws of the parts between marks, where the parts are known.
use Prim.Native.Nat.{ℕ, ◌≤◌, ◌<◌, ◌^◌}
use mathlib.Core.Path.{◌≡◌, refl, sym, ap, ap₂, ◌∙◌}
use mathlib.Core.Bool.{Bool, true, false, cond, false≢true}
use mathlib.Core.List.{List, [], ◌∷◌, ◌++◌, append_assoc, append-nil, map}
use Rattle.std.specs.Prelude.{Some}
use native.Mathlib.Omega.{arith}
use lib.Dec.{eqb, leb}
use borrow.Author.Tests.{eq-eqb, ne_eqb, leb-true}
use Rattle.octets.proofs.Tests.{and_left, and_right}
use Rattle.decimal.specs.Decimal.{decimal_of, is_digit, all_digits}
use Rattle.decimal.proofs.Theorems.{decimal-digits, parse-decimal}
use Rattle.line.specs.Fields.{on_first, parts_of, fields_of, before, numbers_of}
use Rattle.line.specs.Lines.{ended_lines, lines_of}
use Rattle.line.proofs.FieldLaws.{parts-cons}
use Rattle.workload.specs.Text.{numbers_text}

-- no mark stands in it
unfoldable pub lacks : ℕ → List ℕ → Bool
lacks mark [] = true
lacks mark (b ∷ l) = cond (eqb b mark) false (lacks mark l)

module _ (mark : ℕ) where
  -- the first part ends at the mark
  pub parts-after : (f t : List ℕ) → lacks mark f ≡ true → parts_of mark (f ++ (mark ∷ t)) ≡ f ∷ parts_of mark t
  unfolding parts_of lacks
  parts-after [] t h = rw (eq-eqb mark mark refl)
  parts-after (b ∷ f) t h = go (eqb b mark) (parts-after f t) h
    where
      go : (e : Bool) → (lacks mark f ≡ true → parts_of mark (f ++ (mark ∷ t)) ≡ f ∷ parts_of mark t) → cond e false (lacks mark f) ≡ true
          → cond e ([] ∷ parts_of mark (f ++ (mark ∷ t))) (on_first b (parts_of mark (f ++ (mark ∷ t)))) ≡ (b ∷ f) ∷ parts_of mark t
      go true ih q = absurd (false≢true q)
      go false ih q = ap (on_first b) (ih q)

  -- it is the only one
  pub parts-alone : (f : List ℕ) → lacks mark f ≡ true → parts_of mark f ≡ f ∷ []
  unfolding parts_of lacks
  parts-alone [] h = refl
  parts-alone (b ∷ f) h = go (eqb b mark) (parts-alone f) h
    where
      go : (e : Bool) → (lacks mark f ≡ true → parts_of mark f ≡ f ∷ []) → cond e false (lacks mark f) ≡ true → cond e ([] ∷ parts_of mark f) (on_first b (parts_of mark f)) ≡ (b ∷ f) ∷ []
      go true ih q = absurd (false≢true q)
      go false ih q = ap (on_first b) (ih q)

  pub lacks-append : (f g : List ℕ) → lacks mark f ≡ true → lacks mark g ≡ true → lacks mark (f ++ g) ≡ true
  unfolding lacks
  lacks-append [] g p q = q
  lacks-append (b ∷ f) g p q = go (eqb b mark) (λ r. lacks-append f g r q) p
    where
      go : (e : Bool) → (lacks mark f ≡ true → lacks mark (f ++ g) ≡ true) → cond e false (lacks mark f) ≡ true → cond e false (lacks mark (f ++ g)) ≡ true
      go true ih r = r
      go false ih r = ih r

  -- digits are no marks
  digits-lack : (l : List ℕ) → mark < 48 → all_digits l ≡ true → lacks mark l ≡ true
  unfolding lacks all_digits
  digits-lack [] h d = refl
  digits-lack (b ∷ l) h d =
      let is : is_digit b ≡ true = and_left (is_digit b) (all_digits l) d in
      let low : 48 ≤ b = leb-true 48 b (and_left (leb 48 b) (leb b 57) is) in
      let no : eqb b mark ≡ false = ne_eqb b mark (λ e. omega arith) in
      ap (λ (e : Bool). cond e false (lacks mark l)) no ∙ digits-lack l h (and_right (is_digit b) (all_digits l) d)

  pub decimal-lacks : (n : ℕ) → mark < 48 → n < 2 ^ 64 → lacks mark (decimal_of n) ≡ true
  decimal-lacks n h f = digits-lack (decimal_of n) h (decimal-digits n f)

-- ---- numbers after commas

-- all of them are below 2^64
abbrev pub Below : List ℕ → Type 0
Below [] = Unit {0}
Below (n ∷ ns) = (n < 2 ^ 64) × Below ns

pub numbers-lack : (mark : ℕ) (ns : List ℕ) → mark < 44 → Below ns → lacks mark (numbers_text ns) ≡ true
unfolding numbers_text lacks
numbers-lack mark [] h b = refl
numbers-lack mark (n ∷ ns) h b =
    let no : eqb 44 mark ≡ false = ne_eqb 44 mark (λ e. omega arith) in
    ap (λ (e : Bool). cond e false (lacks mark (decimal_of n ++ numbers_text ns))) no
    ∙ lacks-append mark (decimal_of n) (numbers_text ns) (decimal-lacks mark n (omega arith) b.0) (numbers-lack mark ns h b.1)

-- a word and numbers are the fields of their text
pub fields-text : (w ns : List ℕ) → lacks 44 w ≡ true → Below ns → fields_of (w ++ numbers_text ns) ≡ w ∷ map decimal_of ns
unfolding numbers_text
fields-text w [] h b = ap fields_of (append-nil w) ∙ parts-alone 44 w h
fields-text w (n ∷ ns) h b =
    parts-after 44 w (decimal_of n ++ numbers_text ns) h
    ∙ ap {B = List (List ℕ)} (λ (fs : List (List ℕ)). w ∷ fs) (fields-text (decimal_of n) ns (decimal-lacks 44 n (omega arith) b.0) b.1)

pub numbers-back : (ns : List ℕ) → Below ns → numbers_of (map decimal_of ns) ≡ Some ns
unfolding numbers_of
numbers-back [] b = refl
numbers-back (n ∷ ns) b = ap₂ before (parse-decimal n b.0) (numbers-back ns b.1)

-- ---- lines

-- a line, its newline, and what follows
pub lines_after : (l t : List ℕ) → lacks 10 l ≡ true → lines_of ((l ++ (10 ∷ [])) ++ t) ≡ l ∷ lines_of t
lines_after l t h =
    let f = parts-cons 10 t in
    ap lines_of (append_assoc l (10 ∷ []) t)
    ∙ ap ended_lines (parts-after 10 l t h)
    ∙ ap (λ (ps : List (List ℕ)). ended_lines (l ∷ ps)) f.1
    ∙ sym (ap (λ (ps : List (List ℕ)). l ∷ ended_lines ps) f.1)
