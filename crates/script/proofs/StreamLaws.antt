-- Laws of a script that comes in pieces.
use Prim.Native.Nat.{ℕ, suc, ◌+◌, ◌-◌, ◌≤◌, ◌<◌, min}
use mathlib.Core.Path.{◌≡◌, refl, sym, ap, ap₂, ◌∙◌}
use mathlib.Core.Logic.{◌≢◌}
use mathlib.Core.Bool.{Bool, true, false, cond}
use mathlib.Core.List.{List, [], ◌∷◌, ◌++◌, append_assoc, append-nil}
use Rattle.std.specs.Prelude.{Option}
use native.Mathlib.Omega.{arith}
use native.Mathlib.Decide.{dec_le}
use native.Mathlib.Nat.{add-zero, zero-add}
use lib.ListN.{length, take, drop, get_or, length-append, length-take, length-drop}
use lib.Seq.{take_all, take-append-le, take-append-add, take-take, length-take-le, drop-cons}
use lib.Dec.{eqb}
use borrow.Author.Tests.{eq-eqb, ne_eqb}
use native.Mathlib.Numerals.{add-one}
use Rattle.octets.specs.Octets.{splice}
use Rattle.octets.proofs.Parts.{part-splice-same}
use Rattle.line.specs.Fields.{up_to}
use Rattle.line.specs.Command.{command_of, reserves_of}
use Rattle.line.specs.Answer.{line_text}
use Rattle.line.proofs.AnswerLaws.{line-length}
use Rattle.line.specs.declared.Command.{Command}
use Rattle.line.proofs.CommandLaws.{command-long, malformed_reserves}
use Rattle.script.specs.declared.Answer.{Answer}
use Rattle.script.specs.declared.Answer.TheVariants.{Plain, Bounded, Attested}
use Rattle.script.specs.Script.{command_answer, command_table, cells_of, answer_text, table_after}
use Rattle.script.specs.Stream.{cut, held_after, newlines, answered, table_read}

-- ---- what is cut does not matter

pub cut-cut : (x y : List ℕ) → cut (cut x ++ y) ≡ cut (x ++ y)
cut-cut x y = go (dec_le (length x) 201)
  where
    go : Dec (length x ≤ 201) → cut (cut x ++ y) ≡ cut (x ++ y)
    go (yes q) = ap (λ (z : List ℕ). take 201 (z ++ y)) (take_all 201 x q)
    go (no q) =
        take-append-le 201 (cut x) y (omega (arith, length-take-le 201 x (omega arith)))
        ∙ take-take 201 201 x (omega arith)
        ∙ sym (take-append-le 201 x y (omega arith))

pub command-cut : (l : List ℕ) → command_of (cut l) ≡ command_of l
command-cut l = go (dec_le (length l) 201)
  where
    go : Dec (length l ≤ 201) → command_of (cut l) ≡ command_of l
    go (yes q) = ap command_of (take_all 201 l q)
    go (no q) = command-long (cut l) (omega (arith, length-take-le 201 l (omega arith))) ∙ sym (command-long l (omega arith))

reserves-cut : (l : List ℕ) → reserves_of (cut l) ≡ reserves_of l
reserves-cut l = go (dec_le (length l) 201)
  where
    go : Dec (length l ≤ 201) → reserves_of (cut l) ≡ reserves_of l
    go (yes q) = ap reserves_of (take_all 201 l q)
    go (no q) =
        malformed_reserves (cut l) (command-long (cut l) (omega (arith, length-take-le 201 l (omega arith))))
        ∙ sym (malformed_reserves l (command-long l (omega arith)))

pub answer-cut : (T : List ℕ) (n : ℕ) (l : List ℕ) → answer_text T n (cut l) ≡ answer_text T n l
unfolding answer_text
answer-cut T n l = ap₂ (λ (c : Option Command) (rs : List ℕ). line_text (cells_of n (command_answer T c rs))) (command-cut l) (reserves-cut l)

pub table-cut : (T l : List ℕ) → table_after T (cut l) ≡ table_after T l
unfolding table_after
table-cut T l = ap₂ (command_table T) (command-cut l) (reserves-cut l)

-- ---- one piece after another

pub held-append : (h a b : List ℕ) → held_after h (a ++ b) ≡ held_after (held_after h a) b
unfolding held_after
held-append h [] b = refl
held-append h (x ∷ a) b = go (eqb x 10) (held-append [] a b) (held-append (cut (h ++ (x ∷ []))) a b)
  where
    go : (t : Bool) → held_after [] (a ++ b) ≡ held_after (held_after [] a) b → held_after (cut (h ++ (x ∷ []))) (a ++ b) ≡ held_after (held_after (cut (h ++ (x ∷ []))) a) b → cond t (held_after [] (a ++ b)) (held_after (cut (h ++ (x ∷ []))) (a ++ b)) ≡ held_after (cond t (held_after [] a) (held_after (cut (h ++ (x ∷ []))) a)) b
    go true p q = p
    go false p q = q

pub newlines-append : (a b : List ℕ) → newlines (a ++ b) ≡ newlines a + newlines b
unfolding newlines
newlines-append [] b = omega arith
newlines-append (x ∷ a) b = go (eqb x 10) (newlines-append a b)
  where
    go : (t : Bool) → newlines (a ++ b) ≡ newlines a + newlines b → cond t (suc (newlines (a ++ b))) (newlines (a ++ b)) ≡ cond t (suc (newlines a)) (newlines a) + newlines b
    go true p = omega arith
    go false p = p

pub newlines-most : (l : List ℕ) → newlines l ≤ length l
unfolding newlines
newlines-most [] = omega arith
newlines-most (x ∷ l) = go (eqb x 10) (newlines-most l)
  where
    go : (t : Bool) → newlines l ≤ length l → cond t (suc (newlines l)) (newlines l) ≤ suc (length l)
    go true p = omega arith
    go false p = omega arith

pub answered-append : (T h : List ℕ) (n : ℕ) (a b : List ℕ) → answered T h n (a ++ b) ≡ answered T h n a ++ answered (table_read T h a) (held_after h a) (n + newlines a) b
unfolding answered held_after newlines table_read
answered-append T h n [] b = ap (λ (k : ℕ). answered T h k b) (sym (add-zero n))
answered-append T h n (x ∷ a) b = go (eqb x 10) (answered-append (table_after T h) [] (suc n) a b) (answered-append T (cut (h ++ (x ∷ []))) n a b)
  where
    H : List ℕ
    H = cut (h ++ (x ∷ []))

    U : List ℕ
    U = table_after T h

    go : (t : Bool)
        → answered U [] (suc n) (a ++ b) ≡ answered U [] (suc n) a ++ answered (table_read U [] a) (held_after [] a) (suc n + newlines a) b
        → answered T H n (a ++ b) ≡ answered T H n a ++ answered (table_read T H a) (held_after H a) (n + newlines a) b
        → cond t (answer_text T n h ++ answered U [] (suc n) (a ++ b)) (answered T H n (a ++ b))
        ≡ cond t (answer_text T n h ++ answered U [] (suc n) a) (answered T H n a)
        ++ answered (cond t (table_read U [] a) (table_read T H a)) (cond t (held_after [] a) (held_after H a)) (n + cond t (suc (newlines a)) (newlines a)) b
    go true p q =
        let e : suc n + newlines a ≡ n + suc (newlines a) = omega arith in
        ap (λ (z : List ℕ). answer_text T n h ++ z) p
        ∙ sym (append_assoc (answer_text T n h) (answered U [] (suc n) a) (answered (table_read U [] a) (held_after [] a) (suc n + newlines a) b))
        ∙ ap (λ (k : ℕ). (answer_text T n h ++ answered U [] (suc n) a) ++ answered (table_read U [] a) (held_after [] a) k b) e
    go false p q = q

pub table-append : (T h a b : List ℕ) → table_read T h (a ++ b) ≡ table_read (table_read T h a) (held_after h a) b
unfolding held_after table_read
table-append T h [] b = refl
table-append T h (x ∷ a) b = go (eqb x 10) (table-append (table_after T h) [] a b) (table-append T (cut (h ++ (x ∷ []))) a b)
  where
    H : List ℕ
    H = cut (h ++ (x ∷ []))

    U : List ℕ
    U = table_after T h

    go : (t : Bool)
        → table_read U [] (a ++ b) ≡ table_read (table_read U [] a) (held_after [] a) b
        → table_read T H (a ++ b) ≡ table_read (table_read T H a) (held_after H a) b
        → cond t (table_read U [] (a ++ b)) (table_read T H (a ++ b)) ≡ table_read (cond t (table_read U [] a) (table_read T H a)) (cond t (held_after [] a) (held_after H a)) b
    go true p q = p
    go false p q = q

-- ---- bytes without a newline

pub held-part : (h l : List ℕ) → length h ≤ 201 → held_after h (up_to 10 l) ≡ cut (h ++ up_to 10 l)
unfolding held_after up_to
held-part h [] k = sym (ap cut (append-nil h) ∙ take_all 201 h k)
held-part h (x ∷ l) k = go (eqb x 10) refl (held-part (cut (h ++ (x ∷ []))) l (omega (arith, length-take 201 (h ++ (x ∷ [])))))
  where
    H : List ℕ
    H = cut (h ++ (x ∷ []))

    go : (t : Bool) → eqb x 10 ≡ t → held_after H (up_to 10 l) ≡ cut (H ++ up_to 10 l) → held_after h (cond t [] (x ∷ up_to 10 l)) ≡ cut (h ++ cond t [] (x ∷ up_to 10 l))
    go true e p = sym (ap cut (append-nil h) ∙ take_all 201 h k)
    go false e p = rw e (p ∙ cut-cut (h ++ (x ∷ [])) (up_to 10 l) ∙ ap cut (append_assoc h (x ∷ []) (up_to 10 l)))

pub no-newlines : (l : List ℕ) → newlines (up_to 10 l) ≡ 0
unfolding newlines up_to
no-newlines [] = refl
no-newlines (x ∷ l) = go (eqb x 10) refl (no-newlines l)
  where
    go : (t : Bool) → eqb x 10 ≡ t → newlines (up_to 10 l) ≡ 0 → newlines (cond t [] (x ∷ up_to 10 l)) ≡ 0
    go true e p = refl
    go false e p = rw e p

pub no-answers : (T h : List ℕ) (n : ℕ) (l : List ℕ) → answered T h n (up_to 10 l) ≡ []
unfolding answered up_to
no-answers T h n [] = refl
no-answers T h n (x ∷ l) = go (eqb x 10) refl (no-answers T (cut (h ++ (x ∷ []))) n l)
  where
    go : (t : Bool) → eqb x 10 ≡ t → answered T (cut (h ++ (x ∷ []))) n (up_to 10 l) ≡ [] → answered T h n (cond t [] (x ∷ up_to 10 l)) ≡ []
    go true e p = refl
    go false e p = rw e p

pub no-calls : (T h l : List ℕ) → table_read T h (up_to 10 l) ≡ T
unfolding table_read up_to
no-calls T h [] = refl
no-calls T h (x ∷ l) = go (eqb x 10) refl (no-calls T (cut (h ++ (x ∷ []))) l)
  where
    go : (t : Bool) → eqb x 10 ≡ t → table_read T (cut (h ++ (x ∷ []))) (up_to 10 l) ≡ T → table_read T h (cond t [] (x ∷ up_to 10 l)) ≡ T
    go true e p = refl
    go false e p = rw e p

-- ---- a newline

pub held_newline : (h : List ℕ) → held_after h (10 ∷ []) ≡ []
unfolding held_after
held_newline h = refl

pub one_newline : newlines (10 ∷ []) ≡ 1
unfolding newlines
one_newline = refl

pub answered_newline : (T h : List ℕ) (n : ℕ) → answered T h n (10 ∷ []) ≡ answer_text T n h
unfolding answered
answered_newline T h n = append-nil (answer_text T n h)

pub table_newline : (T h : List ℕ) → table_read T h (10 ∷ []) ≡ table_after T h
unfolding table_read
table_newline T h = refl

-- counted from a place on
pub newlines-one : (l : List ℕ) (i : ℕ) → i < length l → get_or l i 0 ≡ 10 → newlines (drop i l) ≡ suc (newlines (drop (i + 1) l))
unfolding newlines
newlines-one l i h e =
    ap newlines (drop-cons l i 0 h)
    ∙ ap (λ (b : Bool). cond b (suc (newlines (drop (suc i) l))) (newlines (drop (suc i) l))) (eq-eqb (get_or l i 0) 10 e)
    ∙ ap (λ (k : ℕ). suc (newlines (drop k l))) (sym (add-one i))

pub newlines-none : (l : List ℕ) (i : ℕ) → i < length l → get_or l i 0 ≢ 10 → newlines (drop i l) ≡ newlines (drop (i + 1) l)
unfolding newlines
newlines-none l i h e =
    ap newlines (drop-cons l i 0 h)
    ∙ ap (λ (b : Bool). cond b (suc (newlines (drop (suc i) l))) (newlines (drop (suc i) l))) (ne_eqb (get_or l i 0) 10 e)
    ∙ ap (λ (k : ℕ). newlines (drop k l)) (sym (add-one i))

pub newlines-end : (l : List ℕ) (i : ℕ) → i ≡ length l → newlines (drop i l) ≡ 0
newlines-end l i e = let z : length (drop i l) ≡ 0 = omega (arith, length-drop i l) in omega (arith, newlines-most (drop i l))

-- the table at a buffer's start
pub table_at : (l x : List ℕ) (n : ℕ) → n ≡ length x → n ≤ length l → take n (splice l 0 x) ≡ x
table_at l x n e h = ap (λ (k : ℕ). take k (splice l 0 x)) e ∙ part-splice-same l x 0 (omega (arith, zero-add (length x)))

-- ---- bytes kept

pub kept-bytes : (h p : List ℕ) (n : ℕ) → length h ≤ 201 → n ≡ min (length p) (201 - length h) → h ++ take n p ≡ cut (h ++ p)
kept-bytes h p n k e = go (dec_le (length p) (201 - length h))
  where
    go : Dec (length p ≤ 201 - length h) → h ++ take n p ≡ cut (h ++ p)
    go (yes q) =
        ap (λ (x : List ℕ). h ++ x) (take_all n p (omega arith))
        ∙ sym (take_all 201 (h ++ p) (omega (arith, length-append h p)))
    go (no q) =
        let z : length h + n ≡ 201 = omega arith in
        sym (take-append-add h p n) ∙ ap (λ (m : ℕ). take m (h ++ p)) z

cells_eight : (n : ℕ) (a : Answer) → length (cells_of n a) ≡ 8
cells_eight n (Plain k) = refl
cells_eight n (Bounded k low high) = refl
cells_eight n (Attested kind position reference value low high) = refl

pub answer-length : (T : List ℕ) (n : ℕ) (l : List ℕ) → length (answer_text T n l) ≤ 168
unfolding answer_text
answer-length T n l = line-length (cells_of n (command_answer T (command_of l) (reserves_of l))) (cells_eight n (command_answer T (command_of l) (reserves_of l)))

-- ---- a line more is read

-- H is held after c and T the table, and x is the line that the next bytes end
module _ (T₀ T H₀ H c l x : List ℕ) (n : ℕ) (held : H ≡ held_after H₀ c) (table : T ≡ table_read T₀ H₀ c) (small : length H ≤ 201) (line : x ≡ cut (H ++ up_to 10 l)) where
  part_held : held_after H (up_to 10 l) ≡ x
  part_held = held-part H l small ∙ sym line

  pub more-held : held_after H₀ (c ++ up_to 10 l) ≡ x
  more-held = held-append H₀ c (up_to 10 l) ∙ ap (λ (z : List ℕ). held_after z (up_to 10 l)) (sym held) ∙ part_held

  pub more-count : newlines (c ++ up_to 10 l) ≡ newlines c
  more-count = newlines-append c (up_to 10 l) ∙ omega (arith, no-newlines l)

  pub more-calls : table_read T₀ H₀ (c ++ up_to 10 l) ≡ T
  more-calls = table-append T₀ H₀ c (up_to 10 l) ∙ no-calls (table_read T₀ H₀ c) (held_after H₀ c) l ∙ sym table

  pub more-answered : answered T₀ H₀ n (c ++ up_to 10 l) ≡ answered T₀ H₀ n c
  more-answered =
      answered-append T₀ H₀ n c (up_to 10 l)
      ∙ ap (λ (z : List ℕ). answered T₀ H₀ n c ++ z) (no-answers (table_read T₀ H₀ c) (held_after H₀ c) (n + newlines c) l)
      ∙ append-nil (answered T₀ H₀ n c)

  pub line-held : held_after H₀ (c ++ (up_to 10 l ++ (10 ∷ []))) ≡ []
  line-held = held-append H₀ c (up_to 10 l ++ (10 ∷ [])) ∙ held-append (held_after H₀ c) (up_to 10 l) (10 ∷ []) ∙ held_newline (held_after (held_after H₀ c) (up_to 10 l))

  pub line-count : newlines (c ++ (up_to 10 l ++ (10 ∷ []))) ≡ newlines c + 1
  line-count = newlines-append c (up_to 10 l ++ (10 ∷ [])) ∙ omega (arith, newlines-append (up_to 10 l) (10 ∷ []), no-newlines l, one_newline)

  pub line-calls : table_read T₀ H₀ (c ++ (up_to 10 l ++ (10 ∷ []))) ≡ table_after T x
  line-calls =
      table-append T₀ H₀ c (up_to 10 l ++ (10 ∷ []))
      ∙ ap₂ (λ (y z : List ℕ). table_read y z (up_to 10 l ++ (10 ∷ []))) (sym table) (sym held)
      ∙ table-append T H (up_to 10 l) (10 ∷ [])
      ∙ ap₂ (λ (y z : List ℕ). table_read y z (10 ∷ [])) (no-calls T H l) part_held
      ∙ table_newline T x

  pub line-answered : answered T₀ H₀ n (c ++ (up_to 10 l ++ (10 ∷ []))) ≡ answered T₀ H₀ n c ++ answer_text T (n + newlines c) x
  line-answered =
      let m : ℕ = n + newlines c in
      let z : m + newlines (up_to 10 l) ≡ m = omega (arith, no-newlines l) in
      answered-append T₀ H₀ n c (up_to 10 l ++ (10 ∷ []))
      ∙ ap₂ (λ (u v : List ℕ). answered T₀ H₀ n c ++ answered u v m (up_to 10 l ++ (10 ∷ []))) (sym table) (sym held)
      ∙ ap (λ (y : List ℕ). answered T₀ H₀ n c ++ y)
      (answered-append T H m (up_to 10 l) (10 ∷ [])
      ∙ ap₂ (λ (u v : List ℕ). u ++ answered (table_read T H (up_to 10 l)) v (m + newlines (up_to 10 l)) (10 ∷ [])) (no-answers T H m l) part_held
      ∙ ap₂ (λ (u : List ℕ) (k : ℕ). answered u x k (10 ∷ [])) (no-calls T H l) z
      ∙ answered_newline T x m)
