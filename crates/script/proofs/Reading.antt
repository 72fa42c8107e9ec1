-- A piece of a script read line by line, and a script read piece by piece.
use Rattle.std.proofs.Common.{◌≡◌, ℕ, ◌+◌, ◌*◌, ◌≤◌, List, [], ◌∷◌, ◌++◌, length, length-append, refl, sym, ap, ap₂, subst, ◌∙◌, add-zero, zero-add, arith}
use Rattle.octets.specs.Octets.{splice}
use Rattle.octets.proofs.Parts.{splice-nil, splice-append}
use Rattle.line.specs.Fields.{up_to}
use Rattle.script.specs.Script.{answer_text, table_after}
use Rattle.script.specs.Stream.{cut, held_after, newlines, answered, table_read, last_answer, last_table, Feeds, Finishes, After}
use Rattle.script.proofs.StreamLaws.{answer-length, held-append, newlines-append, table-append, more-held, more-count, more-calls, more-answered, line-held, line-count, line-calls, line-answered}

-- nothing is read
pub feeds-none : (T H : List ℕ) (n : ℕ) (out : List ℕ) → Feeds [] T H n out T H n out 0
unfolding held_after newlines answered table_read
feeds-none T H n out =
    record {
      few = omega arith;
      room = omega arith;
      bytes = refl;
      count = sym (add-zero n);
      calls = refl;
      place = refl;
      text = sym (splice-nil out 0);
    }

-- the bytes c of a piece were read, and l is the rest of it; what is held of the next line, or of a part of one, is x
module _ (T H : List ℕ) (n : ℕ) (out c : List ℕ) (U G : List ℕ) (m : ℕ) (out' : List ℕ) (to : ℕ) (was : Feeds c T H n out U G m out' to) (small : length G ≤ 201) (l x : List ℕ) where
  -- the rest is a part of a line
  pub feeds-part : up_to 10 l ≡ l → x ≡ cut (G ++ l) → Feeds (c ++ l) T H n out U x m out' to
  feeds-part whole keeps =
      let line : x ≡ cut (G ++ up_to 10 l) = keeps ∙ ap (λ (y : List ℕ). cut (G ++ y)) (sym whole) in
      let a : answered T H n c ≡ answered T H n (c ++ up_to 10 l) = sym (more-answered T U H G c l x n was.bytes was.calls small line) in
      subst (λ (y : List ℕ). Feeds (c ++ y) T H n out U x m out' to) whole
      (record {
        few = omega (arith, was.few, length-append c (up_to 10 l));
        room = omega (arith, was.room, length-append c (up_to 10 l));
        bytes = sym (more-held T U H G c l x n was.bytes was.calls small line);
        count = was.count ∙ ap (λ (k : ℕ). n + k) (sym (more-count T U H G c l x n was.bytes was.calls small line));
        calls = sym (more-calls T U H G c l x n was.bytes was.calls small line);
        place = was.place ∙ ap length a;
        text = was.text ∙ ap (splice out 0) a;
      })

  -- a line is read, and answered
  pub feeds-line : x ≡ cut (G ++ up_to 10 l) → 168 * length (c ++ (up_to 10 l ++ (10 ∷ []))) ≤ length out → (U' out'' : List ℕ) (t : ℕ) → t ≡ to + length (answer_text U m x) → out'' ≡ splice out' to (answer_text U m x) → U' ≡ table_after U x → Feeds (c ++ (up_to 10 l ++ (10 ∷ []))) T H n out U' [] (m + 1) out'' t
  feeds-line line free U' out'' t place put call =
      let a : List ℕ = answered T H n c in
      let y : List ℕ = answer_text U m x in
      let z : List ℕ = c ++ (up_to 10 l ++ (10 ∷ [])) in
      let w : length z ≡ length c + (length (up_to 10 l) + 1) = length-append c (up_to 10 l ++ (10 ∷ [])) ∙ ap (λ (k : ℕ). length c + k) (length-append (up_to 10 l) (10 ∷ [])) in
      let b : a ++ y ≡ answered T H n z = ap (λ (k : ℕ). a ++ answer_text U k x) was.count ∙ sym (line-answered T U H G c l x n was.bytes was.calls small line) in
      let f : length y ≤ 168 = answer-length U m x in
      let g : 0 + (length a + length y) ≤ length out = omega (arith, was.place, was.room) in
      let v : out'' ≡ splice out 0 (a ++ y) = put ∙ ap₂ (λ (o : List ℕ) (k : ℕ). splice o k y) was.text (was.place ∙ sym (zero-add (length a))) ∙ splice-append out 0 a y g in
      record {
        few = omega (arith, was.few);
        room = omega (arith, was.room);
        bytes = sym (line-held T U H G c l x n was.bytes was.calls small line);
        count = omega (arith, was.count, line-count T U H G c l x n was.bytes was.calls small line);
        calls = call ∙ sym (line-calls T U H G c l x n was.bytes was.calls small line);
        place = omega (arith, was.place, length-append a y, ap length b);
        text = v ∙ ap (splice out 0) b;
      }

-- ---- the end of a script

-- no line is left
pub finishes-none : (T H : List ℕ) (n : ℕ) (out : List ℕ) → length H ≡ 0 → Finishes T H n out T out 0
finishes-none T [] n out e = record { room = omega arith; place = refl; text = sym (splice-nil out 0); calls = refl }
finishes-none T (b ∷ H) n out e = absurd (omega arith)

last-answered : (T x : List ℕ) (n : ℕ) → 1 ≤ length x → last_answer T x n ≡ answer_text T n x
last-answered T [] n h = absurd (omega arith)
last-answered T (b ∷ x) n h = refl

last-called : (T x : List ℕ) → 1 ≤ length x → last_table T x ≡ table_after T x
last-called T [] h = absurd (omega arith)
last-called T (b ∷ x) h = refl

-- a line is left, and answered
pub finishes-line : (T H : List ℕ) (n : ℕ) (out : List ℕ) → 1 ≤ length H → (T' out' : List ℕ) (to : ℕ) → to ≡ 0 + length (answer_text T n H) → out' ≡ splice out 0 (answer_text T n H) → T' ≡ table_after T H → Finishes T H n out T' out' to
finishes-line T H n out s T' out' to place put call =
    let a : answer_text T n H ≡ last_answer T H n = sym (last-answered T H n s) in
    record {
      room = omega (arith, place, answer-length T n H);
      place = place ∙ zero-add (length (answer_text T n H)) ∙ ap length a;
      text = put ∙ ap (splice out 0) a;
      calls = call ∙ sym (last-called T H s);
    }

-- ---- a script from its first byte on

-- at its start
pub after_none : After [] [] [] 1
unfolding held_after newlines table_read
after_none = record { bytes = refl; count = refl; calls = refl }

-- a piece more is read
module _ {read piece T H : List ℕ} {n : ℕ} {out T' H' : List ℕ} {n' : ℕ} {out' : List ℕ} {to : ℕ} (was : After read T H n) (fed : Feeds piece T H n out T' H' n' out' to) where
  pub after_more : After (read ++ piece) T' H' n'
  after_more =
      record {
        bytes = fed.bytes ∙ ap (λ (h : List ℕ). held_after h piece) was.bytes ∙ sym (held-append [] read piece);
        count = omega (arith, fed.count, was.count, newlines-append read piece);
        calls = fed.calls ∙ ap₂ (λ (t h : List ℕ). table_read t h piece) was.calls was.bytes ∙ sym (table-append [] [] read piece);
      }
