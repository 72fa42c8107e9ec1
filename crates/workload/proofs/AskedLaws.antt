-- Laws of what an input asks for.
use Prim.Native.Nat.{ℕ, suc, ◌+◌, ◌≤◌, ◌<◌}
use mathlib.Core.Path.{◌≡◌, refl, sym, ap, ap₂, subst, ◌∙◌}
use mathlib.Core.Logic.{◌⊎◌, inl, inr}
use mathlib.Core.Bool.{Bool, true, false, cond}
use mathlib.Core.List.{List, [], ◌∷◌}
use Rattle.std.specs.Prelude.{Option, None, Some, Err}
use native.Mathlib.Omega.{arith}
use native.Mathlib.Decide.{dec_le}
use lib.Dec.{eqb}
use lib.ListN.{length, get_or, take, drop, length-drop, drop_of_length-le}
use borrow.Author.Tests.{lt-leb, le-leb, eq-eqb, ne_eqb}
use Rattle.refusal.specs.declared.Refusal.TheVariants.{Line, Seed}
use Rattle.decimal.specs.Decimal.{number_of}
use Rattle.line.specs.Fields.{on_first, parts_of, fields_of, numbers_of, up_to}
use Rattle.line.specs.Lines.{last_line, ended_lines, lines_of}
use Rattle.line.specs.Command.{padded}
use Rattle.line.proofs.FieldLaws.{fields-last, fields-more, parts-cons, length-up_to, take-first}
use Rattle.line.proofs.PaddedLaws.{padded-at}
use Rattle.workload.specs.Asked.{script, asked_by, of_numbers, of_line, of_lines, asked_of}

-- ---- the cases of a seed and a count

module _ (seed count : ℕ) where
  pub other-count : (count < 1) ⊎ ((1 ≤ count) × (10000 < count)) → Err Line ≡ asked_by seed count
  unfolding asked_by
  other-count (inl h) = rw (lt-leb 1 count h)
  other-count (inr h) = rw (le-leb 1 count h.0, lt-leb count 10000 h.1)

  pub no-seed : 1 ≤ count → count ≤ 10000 → seed ≡ 0 → Err Seed ≡ asked_by seed count
  unfolding asked_by
  no-seed l h z = rw (le-leb 1 count l, le-leb count 10000 h, eq-eqb seed 0 z)

  pub a-script : 1 ≤ count → count ≤ 10000 → (seed ≡ 0 → ⊥) → script seed count ≡ asked_by seed count
  unfolding asked_by
  a-script l h z = rw (le-leb 1 count l, le-leb count 10000 h, ne_eqb seed 0 z)

-- ---- one line, or more

last-asked : (l : List ℕ) → of_lines (last_line l) ≡ of_line l
unfolding of_line parts_of numbers_of number_of
last-asked [] = refl
last-asked (b ∷ l) = refl

-- a byte is part of some line
some-line : (b : ℕ) (t : List ℕ) → (m : List ℕ) × (ms : List (List ℕ)) × (lines_of (b ∷ t) ≡ m ∷ ms)
unfolding parts_of
some-line b t =
    let f = parts-cons 10 t in
    subst (λ (ps : List (List ℕ)). (m : List ℕ) × (ms : List (List ℕ)) × (ended_lines (cond (eqb b 10) ([] ∷ ps) (on_first b ps)) ≡ m ∷ ms)) (sym f.1) (go (eqb b 10) (up_to 10 t) f.0)
  where
    go : (e : Bool) (q : List ℕ) (qs : List (List ℕ)) → (m : List ℕ) × (ms : List (List ℕ)) × (ended_lines (cond e ([] ∷ q ∷ qs) (on_first b (q ∷ qs))) ≡ m ∷ ms)
    go true q qs = ([], ended_lines (q ∷ qs), refl)
    go false q [] = (b ∷ q, [], refl)
    go false q (r ∷ rs) = (b ∷ q, ended_lines (r ∷ rs), refl)

two_lines : (l t : List ℕ) → 0 < length t → of_lines (ended_lines (l ∷ parts_of 10 t)) ≡ Err Line
two_lines l [] h = absurd (omega arith)
two_lines l (b ∷ t) h =
    let f = parts-cons 10 (b ∷ t) in
    let s = some-line b t in
    ap (λ (ps : List (List ℕ)). of_lines (ended_lines (l ∷ ps))) f.1
    ∙ ap (λ (ls : List (List ℕ)). of_lines (l ∷ ls)) (sym (ap ended_lines f.1) ∙ s.2)

module _ (t : List ℕ) where
  -- the first line, by its length
  pub first-line : (e : ℕ) → e ≡ length (up_to 10 t) → take e t ≡ up_to 10 t
  first-line e h = ap (λ (k : ℕ). take k t) h ∙ take-first 10 t

  -- nothing follows the first line and its newline
  pub one_line : length t ≤ length (up_to 10 t) + 1 → asked_of t ≡ of_line (up_to 10 t)
  unfolding asked_of parts_of
  one_line h = go (dec_le (length t) (length (up_to 10 t)))
    where
      go : Dec (length t ≤ length (up_to 10 t)) → of_lines (ended_lines (parts_of 10 t)) ≡ of_line (up_to 10 t)
      go (yes q) = ap (λ (ps : List (List ℕ)). of_lines (ended_lines ps)) (fields-last 10 t (omega (arith, length-up_to 10 t))) ∙ last-asked (up_to 10 t)
      go (no q) =
          let z : length t ≤ suc (length (up_to 10 t)) = omega arith in
          ap (λ (ps : List (List ℕ)). of_lines (ended_lines ps)) (fields-more 10 t (omega arith))
          ∙ ap (λ (r : List ℕ). of_lines (ended_lines (up_to 10 t ∷ parts_of 10 r))) (drop_of_length-le t z)

  -- something does
  pub more-lines : length (up_to 10 t) + 1 < length t → asked_of t ≡ Err Line
  unfolding asked_of
  more-lines h =
      ap (λ (ps : List (List ℕ)). of_lines (ended_lines ps)) (fields-more 10 t (omega arith))
      ∙ two_lines (up_to 10 t) (drop (suc (length (up_to 10 t))) t) (omega (arith, length-drop (suc (length (up_to 10 t))) t))

  pub long-line : length t ≤ length (up_to 10 t) + 1 → 200 < length (up_to 10 t) → asked_of t ≡ Err Line
  unfolding of_line
  long-line h k = one_line h ∙ rw (lt-leb (length (up_to 10 t)) 200 k)

  -- 202 bytes are no line of at most 200 and its newline
  pub asked-long : 202 ≤ length t → asked_of t ≡ Err Line
  asked-long h = go (dec_le (length t) (length (up_to 10 t) + 1))
    where
      go : Dec (length t ≤ length (up_to 10 t) + 1) → asked_of t ≡ Err Line
      go (yes q) = long-line q (omega arith)
      go (no q) = more-lines (omega arith)

  -- ---- the numbers of one line that is short enough

  module _ (one : length t ≤ length (up_to 10 t) + 1) (short : length (up_to 10 t) ≤ 200) where
    as-numbers : (o : Option (List ℕ)) → numbers_of (fields_of (up_to 10 t)) ≡ o → asked_of t ≡ of_numbers o
    unfolding of_line
    as-numbers o h = one_line one ∙ rw (le-leb (length (up_to 10 t)) 200 short) (ap of_numbers h)

    pub not-numbers : numbers_of (fields_of (up_to 10 t)) ≡ None → Err Line ≡ asked_of t
    not-numbers h = sym (as-numbers None h)

    -- v holds the first of them
    pub two-numbers : (ns v : List ℕ) → numbers_of (fields_of (up_to 10 t)) ≡ Some ns → length ns ≡ 2 → v ≡ padded 19 ns → asked_by (get_or v 0 0) (get_or v 1 0) ≡ asked_of t
    two-numbers ns v h k e =
        ap₂ asked_by (at 0 (omega arith)) (at 1 (omega arith)) ∙ two ns k ∙ sym (as-numbers (Some ns) h)
      where
        at : (i : ℕ) → i < 19 → get_or v i 0 ≡ get_or ns i 0
        at i l = ap (λ (w : List ℕ). get_or w i 0) e ∙ padded-at 19 i ns l

        two : (ms : List ℕ) → length ms ≡ 2 → asked_by (get_or ms 0 0) (get_or ms 1 0) ≡ of_numbers (Some ms)
        two [] q = absurd (omega arith)
        two (a ∷ []) q = absurd (omega arith)
        two (a ∷ b ∷ []) q = refl
        two (a ∷ b ∷ c ∷ ms) q = absurd (omega arith)

    pub other-numbers : (ns : List ℕ) → numbers_of (fields_of (up_to 10 t)) ≡ Some ns → (length ns ≡ 2 → ⊥) → Err Line ≡ asked_of t
    other-numbers ns h k = other ns k ∙ sym (as-numbers (Some ns) h)
      where
        other : (ms : List ℕ) → (length ms ≡ 2 → ⊥) → Err Line ≡ of_numbers (Some ms)
        other [] q = refl
        other (a ∷ []) q = refl
        other (a ∷ b ∷ []) q = absurd (q refl)
        other (a ∷ b ∷ c ∷ ms) q = refl
