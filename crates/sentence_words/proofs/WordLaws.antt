-- The word of a number that has none.
use Prim.Native.String.{String}
use Rattle.std.proofs.Common.{◌≡◌, inl, inr, ℕ, zero, suc, ◌≤◌, ◌≢◌, inl, inr, List, [], ◌∷◌, length, refl, ap, arith}
use Rattle.std.proofs.lemmas.Bool.{cases_eq}
use Rattle.sentence.specs.Words.{word_at, kind_words, refusal_words}

word_at-beyond : (ws : List String) (n : ℕ) → length ws ≤ n → word_at ws n ≡ "unknown"
word_at-beyond [] n h = refl
word_at-beyond (w ∷ ws) zero h = absurd (omega arith)
word_at-beyond (w ∷ ws) (suc n) h = word_at-beyond ws n (omega arith)

pub no_kind : (n : ℕ) → 4 ≤ n → word_at kind_words n ≡ "unknown"
unfolding kind_words
no_kind n h = word_at-beyond kind_words n h

-- in the table 0 and 6 are no refusal's
pub no_refusal : (n : ℕ) → (n ≢ 0 → n ≢ 6 → 20 ≤ n) → word_at refusal_words n ≡ "unknown"
unfolding refusal_words
no_refusal n h = elim (cases_eq n 0) [
  | inl e ↦ ap (word_at refusal_words) e
  | inr a ↦ elim (cases_eq n 6) [ inl e ↦ ap (word_at refusal_words) e | inr b ↦ word_at-beyond refusal_words n (h a b) ]
]
