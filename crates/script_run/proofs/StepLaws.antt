-- From read to read.
use Rattle.std.proofs.Common.{Option, Some, None, ◌++◌, refl, sym, ◌≡◌, ℕ, ◌+◌, ◌*◌, ◌≤◌, ◌<◌, ◌≢◌, true, List, [], Ok, Err, length, take, drop, get_or, ap, ap₂, subst, ◌∙◌, arith}
use Rattle.std.proofs.Math.Seq.{take-append-le, take-append-add, take-append_seam, take_all}
use mathlib.Core.List.{append-nil}
use native.Mathlib.Decide.{dec_le}
use Rattle.std.specs.Io.KnownBytes.{Appends, Consumes, Keeps}
use Rattle.program.proofs.Bytes.{appends_then, consumes_then}
use Rattle.octets.specs.Octets.{splice}
use Rattle.script.specs.Stream.{held_after, newlines, answered, table_read, last_answer, Feeds, After}
use Rattle.script.proofs.StreamLaws.{newlines-most, newlines-one, newlines-none, answered-append}
use Rattle.script.proofs.WholeScript.{whole_script}
use Rattle.script.proofs.Reading.{after_more}
use Rattle.script_pieces.specs.declared.pieces.Script.{Script}
use Rattle.script_run.specs.declared.ending.Ending.{Ending}
use Rattle.script_run.specs.declared.ending.Ending.TheVariants.{Unread, Unwritten}
use Rattle.script_run.specs.Steps.{Ready, Missing, Answers, Writes, answers_to, Ends, Stepped, Ended, heading, Ran}

-- lines counted: a newline, and another byte
module _ (l : List ℕ) (first n m i : ℕ) (more : i < length l) (small : n ≤ first + i) (same : first + newlines l ≡ n + newlines (drop i l)) where
  pub counts-one : get_or l i 0 ≡ 10 → m ≡ n + 1 → (m ≤ first + (i + 1)) × (first + newlines l ≡ m + newlines (drop (i + 1) l))
  counts-one e k = (omega arith, omega (arith, newlines-one l i more e))

  pub counts-none : get_or l i 0 ≢ 10 → m ≡ n → (m ≤ first + (i + 1)) × (first + newlines l ≡ m + newlines (drop (i + 1) l))
  counts-none e k = (omega arith, omega (arith, newlines-none l i more e))

-- the first bytes of what was put at the start
front : (l x : List ℕ) (n : ℕ) → n ≤ length x → take n (splice l 0 x) ≡ take n x
unfolding splice
front l x n h = take-append-le n x (drop (0 + length x) l) h

-- the bytes that were written, of the answers to a piece
pub missing : {piece T H : List ℕ} {k : ℕ} {out T' H' : List ℕ} {k' : ℕ} {out' : List ℕ} {to : ℕ} (done n : ℕ) → Feeds piece T H k out T' H' k' out' to → done < to → n ≡ k + newlines (take done out')
    → Missing (answered T H k piece) k n
missing {piece} {T} {H} {k} {out} {T'} {H'} {k'} {out'} {to} done n f h e =
    let A : List ℕ = answered T H k piece in
    let z : done < length A = omega (arith, f.place) in
    (done, z, e ∙ ap (λ (x : List ℕ). k + newlines x) (ap (take done) f.text ∙ front out A done (omega arith)))

-- the answers to a piece after the bytes read
answers-to : {read T H : List ℕ} {k : ℕ} (piece : List ℕ) → After read T H k → answered T H k piece ≡ answers_to read piece
answers-to {read} {T} {H} {k} piece a =
    ap₂ (λ (t h : List ℕ). answered t h k piece) a.calls a.bytes
    ∙ ap (λ (n : ℕ). answered (table_read [] [] read) (held_after [] read) n piece) a.count

-- nothing more was taken, or written
pub consumes-none : (i i' : Option (List ℕ)) → Keeps i i' → Consumes i i' []
consumes-none None i' k = tt
consumes-none (Some x) None k = absurd k
consumes-none (Some x) (Some y) k = sym k

pub appends-none : (o : Option (List ℕ)) → Appends o o []
appends-none None = tt
appends-none (Some x) = sym (append-nil x)

pub consumes-nothing : (i : Option (List ℕ)) → Consumes i i []
consumes-nothing None = tt
consumes-nothing (Some x) = refl

pub answered-none : answered [] [] 1 [] ≡ []
unfolding answered
answered-none = refl

-- what is handed to the writer
pub handed : (out : List ℕ) {out' : List ℕ} (x : List ℕ) (to : ℕ) → out' ≡ splice out 0 x → to ≡ length x → take to out' ≡ x
handed out x to e z = ap₂ take z e ∙ front out x (length x) (omega arith) ∙ take_all (length x) x (omega arith)

-- a piece was answered
pub stepped-more : (piece : List ℕ) (s : Script) (out : List ℕ) (s' : Script) (out' : List ℕ) (i i' o o' : Option (List ℕ)) → length piece ≤ 8192 → Answers (Ok tt) piece s out s' out'
    → Consumes i i' piece → Appends o o' (answered s.table s.held s.number piece) → (read : List ℕ) → After read s.table s.held s.number → Stepped (Ok true) read s' out' i i' o o'
stepped-more piece s out s' out' i i' o o' h (to, f) taken wrote read a =
    let A : List ℕ = answered s.table s.held s.number piece in
    let q : A ≡ answers_to read piece = answers-to piece a in
    let t : take (length A) out' ≡ A = ap (take (length A)) f.text ∙ front out A (length A) (omega arith) ∙ take_all (length A) A (omega arith) in
    (piece, h, after_more a f, subst (λ (x : List ℕ). take (length x) out' ≡ x) q t, taken, subst (Appends o o') q wrote)

-- or its answers were not all written
pub stepped-over : (e : Ending) (piece : List ℕ) (s : Script) (out : List ℕ) (s' : Script) (out' : List ℕ) (i i' o o' : Option (List ℕ)) → Answers (Err e) piece s out s' out'
    → Consumes i i' piece → Writes (Err e) (answered s.table s.held s.number piece) o o' → (read : List ℕ) → After read s.table s.held s.number → Stepped (Err e) read s' out' i i' o o'
stepped-over (Unwritten n why) piece s out s' out' i i' o o' m taken wrote read a =
    let q = answers-to piece a in
    (piece, subst (λ (x : List ℕ). Missing x (1 + newlines read) n) q (subst (λ (k : ℕ). Missing (answered s.table s.held s.number piece) k n) a.count m), taken, (wrote.0, subst (λ (x : List ℕ). Appends o o' (take wrote.0 x)) q wrote.1))
stepped-over (Unread why) piece s out s' out' i i' o o' m taken wrote read a = absurd m

-- ---- all reads

-- the bytes read since the start were taken, and the answers to the lines that end in them written
module _ (i₀ i i' o₀ o o' : Option (List ℕ)) (read : List ℕ) (taken : Consumes i₀ i read) (wrote : Appends o₀ o (answered [] [] 1 read)) where
  none-taken : Consumes i i' [] → Consumes i₀ i' read
  none-taken c = subst (Consumes i₀ i') (append-nil read) (consumes_then i₀ i i' read [] taken c)

  none-wrote : Appends o o' [] → Appends o₀ o' (answered [] [] 1 read)
  none-wrote p = subst (Appends o₀ o') (append-nil (answered [] [] 1 read)) (appends_then o₀ o o' (answered [] [] 1 read) [] wrote p)

  -- a piece more
  pub more-taken : (piece : List ℕ) → Consumes i i' piece → Consumes i₀ i' (read ++ piece)
  more-taken piece c = consumes_then i₀ i i' read piece taken c

  pub more-wrote : (piece : List ℕ) → Appends o o' (answers_to read piece) → Appends o₀ o' (answered [] [] 1 (read ++ piece))
  more-wrote piece p = subst (Appends o₀ o') (sym (answered-append [] [] 1 read piece)) (appends_then o₀ o o' (answered [] [] 1 read) (answers_to read piece) wrote p)

  -- the end
  pub ended-ok : (s : Script) → Ends (Ok tt) read s i i' o o' → Ended (Ok tt) s i₀ i' o₀ o'
  ended-ok s e = (read, e.0, none-taken e.1, e.2, none-wrote e.3)

  pub ended : (e : Ending) (s : Script) → Ends (Err e) read s i i' o o' → Ended (Err e) s i₀ i' o₀ o'
  ended (Unread why) s e = (read, none-taken e.0, none-wrote e.1)
  ended (Unwritten n why) s (piece, m, c, (k, p)) =
      let A : List ℕ = answered [] [] 1 read in
      let B : List ℕ = answers_to read piece in (
        read,
        piece,
        m,
        more-taken piece c,
        (
          length A + k,
          subst (Appends o₀ o') (sym (take-append-add A B k) ∙ ap (take (length A + k)) (sym (answered-append [] [] 1 read piece))) (appends_then o₀ o o' A (take k B) wrote p),
        ),
      )

-- ---- what was written in all

-- some bytes are the first of others
abbrev IsFront : List ℕ → List ℕ → Type 0
IsFront x y = (m : ℕ) × (x ≡ take m y)

front-more : (k : ℕ) (x y : List ℕ) → IsFront (take k x) (x ++ y)
front-more k x y = go (dec_le k (length x))
  where
    go : Dec (k ≤ length x) → IsFront (take k x) (x ++ y)
    go (yes h) = (k, sym (take-append-le k x y h))
    go (no h) = (length x, take_all k x (omega arith) ∙ sym (take-append_seam x y))

front-behind : (w x y : List ℕ) → IsFront x y → IsFront (w ++ x) (w ++ y)
front-behind w x y (m, e) = (length w + m, ap (λ (z : List ℕ). w ++ z) e ∙ sym (take-append-add w y m))

-- the answers to what was read, and to its last line
abbrev in-full : List ℕ → List ℕ
in-full t = answered [] [] 1 t ++ last_answer (table_read [] [] t) (held_after [] t) (1 + newlines t)

ran : (i i' o o' : Option (List ℕ)) (t x : List ℕ) → Consumes i i' t → Appends o o' x → IsFront x (heading ++ in-full t) → Ran i i' o o'
ran i i' o o' t x c p (m, e) = (t, c, (m, subst (Appends o o') (e ∙ ap (λ (y : List ℕ). take m (heading ++ y)) (whole_script [] t)) p))

-- the heading was not all written
pub ran-none : (i o o' : Option (List ℕ)) (k : ℕ) → Appends o o' (take k heading) → Ran i i o o'
ran-none i o o' k p = ran i i o o' [] (take k heading) (consumes-nothing i) p (front-more k heading (in-full []))

module _ (i i' o₀ o o' : Option (List ℕ)) (headed : Appends o₀ o heading) where
  -- a read or a write failed
  pub ran-over : (e : Ending) (s : Script) → Ended (Err e) s i i' o o' → Ran i i' o₀ o'
  ran-over (Unread why) s (t, c, p) =
      let A : List ℕ = answered [] [] 1 t in
      ran i i' o₀ o' t (heading ++ A) c (appends_then o₀ o o' heading A headed p)
      (front-behind heading A (in-full t) (subst (λ (x : List ℕ). IsFront x (in-full t)) (take_all (length A) A (omega arith)) (front-more (length A) A (last_answer (table_read [] [] t) (held_after [] t) (1 + newlines t)))))
  ran-over (Unwritten n why) s (read, piece, m, c, (k, p)) =
      let t : List ℕ = read ++ piece in
      let A : List ℕ = answered [] [] 1 t in
      ran i i' o₀ o' t (heading ++ take k A) c (appends_then o₀ o o' heading (take k A) headed p)
      (front-behind heading (take k A) (in-full t) (front-more k A (last_answer (table_read [] [] t) (held_after [] t) (1 + newlines t))))

  -- the input ended, and a last line was answered
  pub ran-all : (o'' : Option (List ℕ)) (s : Script) → Ended (Ok tt) s i i' o o' → ((k : ℕ) × Appends o' o'' (take k (last_answer s.table s.held s.number))) → Ran i i' o₀ o''
  ran-all o'' s (t, a, c, z, p) (k, q) =
      let A : List ℕ = answered [] [] 1 t in
      let L : List ℕ = last_answer (table_read [] [] t) (held_after [] t) (1 + newlines t) in
      let l : last_answer s.table s.held s.number ≡ L = ap₂ (λ (T H : List ℕ). last_answer T H s.number) a.calls a.bytes ∙ ap (last_answer (table_read [] [] t) (held_after [] t)) a.count in
      ran i i' o₀ o'' t (heading ++ (A ++ take k L)) c
      (appends_then o₀ o o'' heading (A ++ take k L) headed (appends_then o o' o'' A (take k L) p (subst (λ (x : List ℕ). Appends o' o'' (take k x)) l q)))
      (front-behind heading (A ++ take k L) (in-full t) (front-behind A (take k L) L (k, refl)))

-- there is room for another turn
pub ready : {read out : List ℕ} {s : Script} (turns : ℕ) → turns < 1125899906842624 → After read s.table s.held s.number → length read ≤ turns * 8192 → length out ≡ 1376256 → Ready s out
ready {read} turns z a h o = record { room = o; numbers = omega (arith, a.count, newlines-most read) }
