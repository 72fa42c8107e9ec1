-- What is handed to the writer, piece after piece, is the whole text of the rush.
use Prim.Native.Nat.{ℕ, zero, suc, ◌+◌, ◌-◌, ◌≤◌, ◌<◌}
use mathlib.Core.Path.{◌≡◌, refl, sym, ap, ap₂, subst, ◌∙◌}
use mathlib.Core.Logic.{◌⊎◌, inl, inr}
use mathlib.Core.List.{List, [], ◌∷◌, ◌++◌, append-nil}
use native.Mathlib.Omega.{arith}
use native.Mathlib.Decide.{dec_le}
use lib.ListN.{length, take, length-append}
use lib.Seq.{length-take-le}
use Rattle.octets.specs.Octets.{splice}
use Rattle.octets.proofs.Parts.{part-splice-same}
use Rattle.refusal.specs.Number.{number_of}
use Rattle.decimal.specs.Decimal.{decimal_of}
use Rattle.decimal.proofs.Theorems.{length-decimal}
use Rattle.line.specs.Lines.{joined}
use Rattle.std.specs.Prelude.{Ok, Err}
use Rattle.workload.specs.Generator.{state_after}
use Rattle.workload.specs.Text.{Course, lines_text, script_text, Fills, Follow}
use Rattle.workload.specs.Asked.{Asked, asked_of, text_of, rush_text, first_text, course_of}
use Rattle.workload.proofs.TextLaws.{pieces, format-text}
use Rattle.workload.proofs.AskedLaws.{asked-long}

-- ---- pieces

pub whole_course : (x k : ℕ) (ps : List (List ℕ)) → Follow x k ps → joined ps ≡ lines_text x k
unfolding Follow joined lines_text
whole_course x k [] h = ap (lines_text x) (sym h)
whole_course x k (p ∷ ps) (j, l, e, f) =
    let z : j + (k - j) ≡ k = omega arith in
    ap₂ {C = List ℕ} (λ (a b : List ℕ). a ++ b) e (whole_course (state_after x j) (k - j) ps f) ∙ sym (pieces x j (k - j)) ∙ ap (lines_text x) z

-- what `fill` leaves at the start of a buffer is such a piece
pub fill-follows : (out out' : List ℕ) (x k : ℕ) (r : Course) (ps : List (List ℕ)) → Fills out x k out' r → Follow r.state r.left ps → Follow x k (take r.to out' ∷ ps)
unfolding Follow
fill-follows out out' x k r ps f h =
    let t : List ℕ = lines_text x (k - r.left) in
    let z : k - (k - r.left) ≡ r.left = omega (arith, f.few) in
    let e : take r.to out' ≡ t = ap₂ (λ (n : ℕ) (l : List ℕ). take n l) f.place f.text ∙ part-splice-same out t 0 (omega (arith, f.place, f.room)) in
    let g : Follow (state_after x (k - r.left)) (k - (k - r.left)) ps = rw (z, sym f.state) h in
    (k - r.left, omega arith, e, g)

-- and has a line, if there is room for one and one is left
pub fill-moves : (out out' : List ℕ) (x k : ℕ) (r : Course) → Fills out x k out' r → 55 ≤ length out → 0 < k → r.left < k
unfolding lines_text
fill-moves out out' x k r f room some = go f.full
  where
    go : (r.left ≡ 0) ⊎ (length out < r.to + 55) → r.left < k
    go (inl z) = omega arith
    go (inr w) = absurd-or (k - r.left) refl
      where
        absurd-or : (j : ℕ) → k - r.left ≡ j → r.left < k
        absurd-or zero e = let q : r.to ≡ 0 = f.place ∙ ap (λ (i : ℕ). length (lines_text x i)) e in absurd (omega arith)
        absurd-or (suc j) e = omega arith

-- of two answers to one buffer, state and number of lines neither puts a line more than the other
fills-few : (out a b : List ℕ) (x k : ℕ) (r s : Course) → Fills out x k a r → Fills out x k b s → s.left ≤ r.left
fills-few out a b x k r s f g = go g.full (dec_le s.left r.left)
  where
    go : (s.left ≡ 0) ⊎ (length out < s.to + 55) → Dec (s.left ≤ r.left) → s.left ≤ r.left
    go full (yes h) = h
    go (inl z) (no h) = omega arith
    go (inr w) (no h) = absurd (omega (arith, f.each (k - s.left) (omega (arith, g.few)), g.place))

-- so they are one, and so are the bytes that they leave
pub fills_one : (out a b : List ℕ) (x k : ℕ) (r s : Course) → Fills out x k a r → Fills out x k b s → (r ≡ s) × (a ≡ b)
fills_one out a b x k r s f g =
    let e : r.left ≡ s.left = omega (arith, fills-few out a b x k r s f g, fills-few out b a x k s r g f) in
    let state : r.state ≡ s.state = f.state ∙ ap (λ (n : ℕ). state_after x (k - n)) e ∙ sym g.state in
    let to : r.to ≡ s.to = f.place ∙ ap (λ (n : ℕ). length (lines_text x (k - n))) e ∙ sym g.place in
    (λ i. record { state = state i; left = e i; to = to i }, f.text ∙ ap (λ (n : ℕ). splice out 0 (lines_text x (k - n))) e ∙ sym g.text)

-- ---- the whole

-- what is written first has 22 bytes at most
course-room : (a : Asked) → (course_of a).to ≤ 22
course-room (Ok s) = omega (arith, ap (λ (l : List ℕ). length (l ++ (10 ∷ []))) format-text)
course-room (Err why) = omega (arith, length-append (decimal_of (number_of why)) (10 ∷ []), length-decimal (number_of why))

pub begun-room : (text : List ℕ) (r : Course) → r ≡ course_of (asked_of text) → r.to ≤ 22
begun-room text r e = subst (λ (x : Course). x.to ≤ 22) (sym e) (course-room (asked_of text))

pub first_rest : (a : Asked) → first_text a ++ lines_text (course_of a).state (course_of a).left ≡ text_of a
unfolding script_text lines_text
first_rest (Ok s) = refl
first_rest (Err why) = append-nil (first_text (Err why))

pub whole_rush : (text : List ℕ) (ps : List (List ℕ)) → Follow (course_of (asked_of text)).state (course_of (asked_of text)).left ps → first_text (asked_of text) ++ joined ps ≡ rush_text text
unfolding rush_text
whole_rush text ps h =
    let c = course_of (asked_of text) in
    ap (λ (l : List ℕ). first_text (asked_of text) ++ l) (whole_course c.state c.left ps h) ∙ first_rest (asked_of text)

-- 202 bytes of an input decide it
pub asked-cut : (text : List ℕ) → 202 ≤ length text → rush_text (take 202 text) ≡ rush_text text
unfolding rush_text
asked-cut text h = ap text_of (asked-long (take 202 text) (omega (arith, length-take-le 202 text h)) ∙ sym (asked-long text h))
