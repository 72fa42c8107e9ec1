-- Words and numbers written one after the other.
use Prim.Native.Nat.{ℕ, zero, suc, ◌+◌, ◌≤◌}
use Prim.Native.String.{String}
use mathlib.Core.Path.{◌≡◌, refl, sym, ap, ap₂, subst, ◌∙◌}
use mathlib.Core.Logic.{◌⊎◌, inl, inr, ◌≢◌}
use mathlib.Core.List.{List, [], ◌∷◌, ◌++◌}
use native.Mathlib.Omega.{arith}
use lib.ListN.{length, length-append}
use borrow.Author.Tests.{ne_eqb}
use Rattle.octets.specs.Octets.{splice}
use Rattle.octets.proofs.Parts.{splice-append, length-splice}
use Rattle.decimal.specs.Decimal.{decimal_of}
use Rattle.decimal.proofs.Theorems.{length-decimal}
use Rattle.sentence.specs.Text.{ascii}
use Rattle.octets.proofs.Tests.{equal_or_not}
use Rattle.sentence.specs.declared.Subject.{Subject}
use Rattle.sentence.specs.declared.Subject.TheVariants.{Receipt, Certificate}
use Rattle.sentence.specs.Words.{word_at, kind_words, refusal_words, meanings, meaning_in, reason}
use Rattle.sentence.proofs.WordLaws.{Short, kind-short, refusal-short, reason-short}
use Rattle.sentence_words.specs.Kind.{kind_text}

-- the text t was written at `at`, and r is the place after it
abbrev pub Wrote : (o e t : List ℕ) (at r : ℕ) → Type 0
Wrote o e t at r = (r ≡ at + length t) × (e ≡ splice o at t)

-- the same, and t takes at most k bytes
abbrev pub WroteShort : (k : ℕ) (o e t : List ℕ) (at r : ℕ) → Type 0
WroteShort k o e t at r = ((r ≡ at + length t) × (r ≤ at + k)) × (e ≡ splice o at t)

-- a text that is another's
pub wrote_as : (o w v : List ℕ) (at : ℕ) {e : List ℕ} {r : ℕ} → w ≡ v → Wrote o e w at r → Wrote o e v at r
wrote_as o w v at {e} {r} q f = subst (λ (t : List ℕ). Wrote o e t at r) q f

-- another text behind it
pub wrote-more : (o x y : List ℕ) (at : ℕ) {a b : List ℕ} {i r : ℕ} → Wrote o a x at i → at + (length x + length y) ≤ length o → Wrote a b y i r → Wrote o b (x ++ y) at r
wrote-more o x y at f h g = (
  let p = f.0 in let q = g.0 in omega (arith, length-append x y),
  g.1 ∙ ap₂ (λ (l : List ℕ) (j : ℕ). splice l j y) f.1 f.0 ∙ splice-append o at x y h,
)

-- words and a number
abbrev pub WroteNumber : (o e w : List ℕ) (n at r : ℕ) → Type 0
WroteNumber o e w n at r = ((r ≡ at + length (w ++ decimal_of n)) × (r ≤ at + length w + 20)) × (e ≡ splice o at (w ++ decimal_of n))

pub wrote-number : (o w : List ℕ) (n at : ℕ) {a b : List ℕ} {i r : ℕ} → Wrote o a w at i → at + length w + 20 ≤ length o → Wrote a b (decimal_of n) i r → WroteNumber o b w n at r
wrote-number o w n at f h g =
    let d = length-decimal n in
    let s = wrote-more o w (decimal_of n) at f (omega arith) g in
    ((s.0, let z = s.0 in omega (arith, length-append w (decimal_of n))), s.1)

pub number-room : (o w : List ℕ) (n at : ℕ) {a : List ℕ} {i : ℕ} → Wrote o a w at i → at + length w + 20 ≤ length o → i + length (decimal_of n) ≤ length a
number-room o w n at f h = omega (arith, length-decimal n, f.0, ap length f.1, length-splice o w at (omega arith))

-- ---- words by number

-- a number that is none of an arm's keys, the last key first
abbrev pub Unlike : List ℕ → ℕ → Type 0
Unlike [] n = Unit {0}
Unlike (k ∷ ks) n = Unlike ks n × (n ≡ k → ⊥)

module _ (text : ℕ → String) (k : ℕ) (short : (n : ℕ) → Short k (text n)) (o : List ℕ) (at n : ℕ) where
  told-as : (w : String) {e : List ℕ} {r : ℕ} → w ≡ text n → Wrote o e (ascii w) at r → WroteShort k o e (ascii (text n)) at r
  told-as w {e} {r} q f = subst (λ (s : String). WroteShort k o e (ascii s) at r) q ((f.0, let z = f.0 in omega (arith, ap (λ (s : String). length (ascii s)) q, (short n).1)), f.1)

  told : (j : ℕ) {e : List ℕ} {r : ℕ} → n ≡ j → Wrote o e (ascii (text j)) at r → WroteShort k o e (ascii (text n)) at r
  told j q f = told-as (text j) (sym (ap text q)) f

word_beyond : (ws : List String) (n : ℕ) → length ws ≤ n → "unknown" ≡ word_at ws n
word_beyond [] n h = refl
word_beyond (w ∷ ws) zero h = absurd (omega arith)
word_beyond (w ∷ ws) (suc n) h = word_beyond ws n (omega arith)

-- the word of a kind, of number j or of no number above
module _ (o : List ℕ) (at n : ℕ) where
  pub kind-told : (j : ℕ) {e : List ℕ} {r : ℕ} → n ≡ j → Wrote o e (ascii (word_at kind_words j)) at r → WroteShort 10 o e (ascii (word_at kind_words n)) at r
  kind-told = told (word_at kind_words) 10 kind-short o at n

  pub kind-unknown : {e : List ℕ} {r : ℕ} → Unlike (3 ∷ 2 ∷ 1 ∷ 0 ∷ []) n → Wrote o e (ascii "unknown") at r → WroteShort 10 o e (ascii (word_at kind_words n)) at r
  unfolding kind_words
  kind-unknown h f =
      let h₀ : n ≢ 0 = h.0.0.0.1 in
      let h₁ : n ≢ 1 = h.0.0.1 in
      let h₂ : n ≢ 2 = h.0.1 in
      let h₃ : n ≢ 3 = h.1 in
      told-as (word_at kind_words) 10 kind-short o at n "unknown" (word_beyond kind_words n (omega arith)) f

  pub word-told : (j : ℕ) {e : List ℕ} {r : ℕ} → n ≡ j → Wrote o e (ascii (word_at refusal_words j)) at r → WroteShort 47 o e (ascii (word_at refusal_words n)) at r
  word-told = told (word_at refusal_words) 47 refusal-short o at n

  pub reason-told : (s : Subject) (j : ℕ) {e : List ℕ} {r : ℕ} → n ≡ j → Wrote o e (ascii (reason s j)) at r → WroteShort 47 o e (ascii (reason s n)) at r
  reason-told s = told (reason s) 47 (reason-short s) o at n

  -- a number that the call never gives
  pub receipt-other : {e : List ℕ} {r : ℕ} → Unlike (11 ∷ 10 ∷ 9 ∷ 7 ∷ []) n → WroteShort 47 o e (ascii (word_at refusal_words n)) at r → WroteShort 47 o e (ascii (reason Receipt n)) at r
  unfolding meanings meaning_in
  receipt-other h f = rw (ne_eqb n 7 h.0.0.0.1, ne_eqb n 9 h.0.0.1, ne_eqb n 10 h.0.1, ne_eqb n 11 h.1) f

  pub certificate-other : {e : List ℕ} {r : ℕ} → Unlike (13 ∷ 9 ∷ 12 ∷ 17 ∷ 7 ∷ []) n → WroteShort 47 o e (ascii (word_at refusal_words n)) at r → WroteShort 47 o e (ascii (reason Certificate n)) at r
  unfolding meanings meaning_in
  certificate-other h f =
      rw (ne_eqb n 7 h.0.0.0.0.1, ne_eqb n 17 h.0.0.0.1, ne_eqb n 12 h.0.0.1, ne_eqb n 9 h.0.1, ne_eqb n 13 h.1) f

past : (k n : ℕ) → k ≤ n → (n ≡ k → ⊥) → suc k ≤ n
past k n h e = let q : n ≢ k = e in omega arith

unlisted : (n : ℕ) → Unlike (19 ∷ 18 ∷ 17 ∷ 16 ∷ 15 ∷ 14 ∷ 13 ∷ 12 ∷ 11 ∷ 10 ∷ 9 ∷ 8 ∷ 7 ∷ 5 ∷ 4 ∷ 3 ∷ 2 ∷ 1 ∷ []) n → "unknown" ≡ word_at refusal_words n
unfolding refusal_words
unlisted n h = go (equal_or_not n 0) (equal_or_not n 6)
  where
    go : (n ≡ 0) ⊎ (n ≡ 0 → ⊥) → (n ≡ 6) ⊎ (n ≡ 6 → ⊥) → "unknown" ≡ word_at refusal_words n
    go (inl e) b = ap (word_at refusal_words) (sym e)
    go (inr a) (inl e) = ap (word_at refusal_words) (sym e)
    go (inr a) (inr b) = word_beyond refusal_words n (past 19 n (past 18 n (past 17 n (past 16 n (past 15 n (past 14 n (past 13 n (past 12 n (past 11 n (past 10 n (past 9 n (past 8 n (past 7 n (past 6 n (past 5 n (past 4 n (past 3 n (past 2 n (past 1 n (past 0 n (omega arith) a) h.0.0.0.0.0.0.0.0.0.0.0.0.0.0.0.0.0.1) h.0.0.0.0.0.0.0.0.0.0.0.0.0.0.0.0.1) h.0.0.0.0.0.0.0.0.0.0.0.0.0.0.0.1) h.0.0.0.0.0.0.0.0.0.0.0.0.0.0.1) h.0.0.0.0.0.0.0.0.0.0.0.0.0.1) b) h.0.0.0.0.0.0.0.0.0.0.0.0.1) h.0.0.0.0.0.0.0.0.0.0.0.1) h.0.0.0.0.0.0.0.0.0.0.1) h.0.0.0.0.0.0.0.0.0.1) h.0.0.0.0.0.0.0.0.1) h.0.0.0.0.0.0.0.1) h.0.0.0.0.0.0.1) h.0.0.0.0.0.1) h.0.0.0.0.1) h.0.0.0.1) h.0.0.1) h.0.1) h.1)

pub word_unknown : (o : List ℕ) (at n : ℕ) {e : List ℕ} {r : ℕ} → Unlike (19 ∷ 18 ∷ 17 ∷ 16 ∷ 15 ∷ 14 ∷ 13 ∷ 12 ∷ 11 ∷ 10 ∷ 9 ∷ 8 ∷ 7 ∷ 5 ∷ 4 ∷ 3 ∷ 2 ∷ 1 ∷ []) n → Wrote o e (ascii "unknown") at r → WroteShort 47 o e (ascii (word_at refusal_words n)) at r
word_unknown o at n h f = told-as (word_at refusal_words) 47 refusal-short o at n "unknown" (unlisted n h) f

-- ---- a kind

pub kind-wrote : (o : List ℕ) (at kind : ℕ) {a b e : List ℕ} {i j r : ℕ} → at + 41 ≤ length o → Wrote o a (ascii " is ") at i
    → WroteShort 10 a b (ascii (word_at kind_words kind)) i j → WroteNumber b e (ascii " (kind ") kind j r → WroteShort 41 o e (kind_text kind) at r
unfolding kind_text ascii
kind-wrote o at kind {a} {b} {e} {i} {j} {r} room f₁ f₂ f₃ =
    let y₁ = ascii " is " in
    let y₂ = ascii (word_at kind_words kind) in
    let y₃ = ascii " (kind " ++ decimal_of kind in
    let h₂ = (kind-short kind).1 in
    let h₃ : length y₃ ≤ 27 = omega (arith, length-append (ascii " (kind ") (decimal_of kind), length-decimal kind) in
    let l : length a ≡ length o = ap length f₁.1 ∙ length-splice o y₁ at (omega arith) in
    let w : Wrote a e (y₂ ++ y₃) i r = wrote-more a y₂ y₃ i (f₂.0.0, f₂.1) (omega (arith, f₁.0)) (f₃.0.0, f₃.1) in
    let v : Wrote o e (y₁ ++ (y₂ ++ y₃)) at r = wrote-more o y₁ (y₂ ++ y₃) at f₁ (omega (arith, length-append y₂ y₃)) w in
    ((v.0, omega (arith, v.0, length-append y₂ y₃)), v.1)
