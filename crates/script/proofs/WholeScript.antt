-- A script read in pieces is answered as the whole script is: line by line.
use Prim.Native.Nat.{ℕ, suc, ◌+◌}
use mathlib.Core.Path.{◌≡◌, refl, sym, ap, ap₂, ◌∙◌}
use mathlib.Core.Bool.{Bool, true, false, cond}
use mathlib.Core.List.{List, [], ◌∷◌, ◌++◌, append_assoc, append-nil}
use native.Mathlib.Omega.{arith}
use native.Mathlib.Nat.{add-zero}
use lib.Dec.{eqb}
use Rattle.line.specs.Fields.{on_first, parts_of, up_to}
use Rattle.line.specs.Lines.{last_line, ended_lines, lines_of, joined}
use Rattle.line.proofs.FieldLaws.{parts-cons}
use Rattle.script.specs.Script.{answer_text, table_after}
use Rattle.script.specs.Stream.{answers_of, cut, held_after, newlines, answered, table_read, last_answer, in_pieces}
use Rattle.script.proofs.StreamLaws.{cut-cut, answer-cut, table-cut, held-append, newlines-append, answered-append, table-append}

-- the parts, with bytes before the first
abbrev after : List ℕ → List (List ℕ) → List (List ℕ)
after g [] = g ∷ []
after g (p ∷ ps) = (g ++ p) ∷ ps

after-nil : (l : List ℕ) → after [] (parts_of 10 l) ≡ parts_of 10 l
after-nil l = let f = parts-cons 10 l in ap (after []) f.1 ∙ sym f.1

last-answer : (T g : List ℕ) (n : ℕ) → last_answer T (cut g) n ≡ answers_of T n (last_line g)
unfolding answers_of
last-answer T [] n = refl
last-answer T (b ∷ g) n = answer-cut T n (b ∷ g) ∙ sym (append-nil (answer_text T n (b ∷ g)))

shift : (g : List ℕ) (x : ℕ) (t : List ℕ) → after (g ++ (x ∷ [])) (parts_of 10 t) ≡ after g (on_first x (parts_of 10 t))
shift g x t =
    let f = parts-cons 10 t in
    ap (after (g ++ (x ∷ []))) f.1
    ∙ ap {B = List (List ℕ)} (λ (y : List ℕ). y ∷ f.0) (append_assoc g (x ∷ []) (up_to 10 t))
    ∙ sym (ap (λ (l : List (List ℕ)). after g (on_first x l)) f.1)

-- a line ends, and others or the end follow
ends : (T g : List ℕ) (n : ℕ) (t : List ℕ) → answers_of T n (ended_lines ((g ++ []) ∷ parts_of 10 t)) ≡ answer_text T n g ++ answers_of (table_after T g) (suc n) (ended_lines (parts_of 10 t))
unfolding answers_of
ends T g n t =
    let f = parts-cons 10 t in
    ap (λ (l : List (List ℕ)). answers_of T n (ended_lines ((g ++ []) ∷ l))) f.1
    ∙ ap (λ (y : List ℕ). answer_text T n y ++ answers_of (table_after T y) (suc n) (ended_lines (up_to 10 t ∷ f.0))) (append-nil g)
    ∙ sym (ap (λ (l : List (List ℕ)). answer_text T n g ++ answers_of (table_after T g) (suc n) (ended_lines l)) f.1)

-- g stands before the bytes t, and h is what is held of it
newline : (T : List ℕ) (n : ℕ) (g h t : List ℕ) → h ≡ cut g
    → ((U : List ℕ) → answered U [] (suc n) t ++ last_answer (table_read U [] t) (held_after [] t) (suc n + newlines t) ≡ answers_of U (suc n) (ended_lines (after [] (parts_of 10 t))))
    → (answer_text T n h ++ answered (table_after T h) [] (suc n) t) ++ last_answer (table_read (table_after T h) [] t) (held_after [] t) (n + suc (newlines t)) ≡ answers_of T n (ended_lines ((g ++ []) ∷ parts_of 10 t))
newline T n g h t e p =
    let z : n + suc (newlines t) ≡ suc n + newlines t = omega arith in
    let U : List ℕ = table_after T h in
    ap (λ (k : ℕ). (answer_text T n h ++ answered U [] (suc n) t) ++ last_answer (table_read U [] t) (held_after [] t) k) z
    ∙ append_assoc (answer_text T n h) (answered U [] (suc n) t) (last_answer (table_read U [] t) (held_after [] t) (suc n + newlines t))
    ∙ ap₂ (λ (x y : List ℕ). x ++ y) (ap (answer_text T n) e ∙ answer-cut T n g) (p U ∙ ap₂ (λ (X : List ℕ) (l : List (List ℕ)). answers_of X (suc n) (ended_lines l)) (ap (table_after T) e ∙ table-cut T g) (after-nil t))
    ∙ sym (ends T g n t)

from : (T g h : List ℕ) (n : ℕ) (t : List ℕ) → h ≡ cut g → answered T h n t ++ last_answer (table_read T h t) (held_after h t) (n + newlines t) ≡ answers_of T n (ended_lines (after g (parts_of 10 t)))
unfolding answered held_after newlines table_read parts_of
from T g h n [] e =
    ap₂ (λ (x : List ℕ) (k : ℕ). last_answer T x k) e (add-zero n) ∙ last-answer T g n ∙ ap (λ (x : List ℕ). answers_of T n (last_line x)) (sym (append-nil g))
from T g h n (x ∷ t) e = go (eqb x 10) (λ U. from U [] [] (suc n) t refl) (from T (g ++ (x ∷ [])) H n t (ap (λ (y : List ℕ). cut (y ++ (x ∷ []))) e ∙ cut-cut g (x ∷ [])))
  where
    H : List ℕ
    H = cut (h ++ (x ∷ []))

    W : List ℕ
    W = table_after T h

    go : (b : Bool)
        → ((U : List ℕ) → answered U [] (suc n) t ++ last_answer (table_read U [] t) (held_after [] t) (suc n + newlines t) ≡ answers_of U (suc n) (ended_lines (after [] (parts_of 10 t))))
        → answered T H n t ++ last_answer (table_read T H t) (held_after H t) (n + newlines t) ≡ answers_of T n (ended_lines (after (g ++ (x ∷ [])) (parts_of 10 t)))
        → cond b (answer_text T n h ++ answered W [] (suc n) t) (answered T H n t) ++ last_answer (cond b (table_read W [] t) (table_read T H t)) (cond b (held_after [] t) (held_after H t)) (n + cond b (suc (newlines t)) (newlines t))
        ≡ answers_of T n (ended_lines (after g (cond b ([] ∷ parts_of 10 t) (on_first x (parts_of 10 t)))))
    go true p q = newline T n g h t e p
    go false p q = q ∙ ap (λ (l : List (List ℕ)). answers_of T n (ended_lines l)) (shift g x t)

-- a script in full: what is answered on the way, and at its end
pub whole_script : (T t : List ℕ) → answered T [] 1 t ++ last_answer (table_read T [] t) (held_after [] t) (1 + newlines t) ≡ answers_of T 1 (lines_of t)
whole_script T t = from T [] [] 1 t refl ∙ ap (λ (l : List (List ℕ)). answers_of T 1 (ended_lines l)) (after-nil t)

-- ---- in any pieces

rest-none : (T h : List ℕ) (n : ℕ) → last_answer T h n ≡ answered T h n [] ++ last_answer (table_read T h []) (held_after h []) (n + newlines [])
unfolding answered held_after newlines table_read
rest-none T h n = ap (last_answer T h) (sym (add-zero n))

rest_more : (T h : List ℕ) (n : ℕ) (x y z : List ℕ)
    → z ≡ answered (table_read T h x) (held_after h x) (n + newlines x) y ++ last_answer (table_read (table_read T h x) (held_after h x) y) (held_after (held_after h x) y) (n + newlines x + newlines y)
    → answered T h n x ++ z ≡ answered T h n (x ++ y) ++ last_answer (table_read T h (x ++ y)) (held_after h (x ++ y)) (n + newlines (x ++ y))
rest_more T h n x y z e =
    let U : List ℕ = table_read T h x in
    let H : List ℕ = held_after h x in
    let m : ℕ = n + newlines x in
    let k : m + newlines y ≡ n + newlines (x ++ y) = omega (arith, newlines-append x y) in
    ap (λ (w : List ℕ). answered T h n x ++ w) e
    ∙ sym (append_assoc (answered T h n x) (answered U H m y) (last_answer (table_read U H y) (held_after H y) (m + newlines y)))
    ∙ ap₂ (λ (a w : List ℕ). a ++ last_answer w (held_after H y) (m + newlines y)) (sym (answered-append T h n x y)) (sym (table-append T h x y))
    ∙ ap₂ (λ (w : List ℕ) (j : ℕ). answered T h n (x ++ y) ++ last_answer (table_read T h (x ++ y)) w j) (sym (held-append h x y)) k

with_rest : (T h : List ℕ) (n : ℕ) (xs : List (List ℕ))
    → in_pieces T h n xs ≡ answered T h n (joined xs) ++ last_answer (table_read T h (joined xs)) (held_after h (joined xs)) (n + newlines (joined xs))
unfolding in_pieces joined
with_rest T h n [] = rest-none T h n
with_rest T h n (x ∷ xs) = rest_more T h n x (joined xs) (in_pieces (table_read T h x) (held_after h x) (n + newlines x) xs) (with_rest (table_read T h x) (held_after h x) (n + newlines x) xs)

-- the answers to the pieces of a script, and to its last line, are those to the whole
pub pieces_script : (T : List ℕ) (xs : List (List ℕ)) → in_pieces T [] 1 xs ≡ answers_of T 1 (lines_of (joined xs))
pieces_script T xs = with_rest T [] 1 xs ∙ whole_script T (joined xs)
