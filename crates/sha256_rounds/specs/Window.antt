-- The program's own: the message schedule as a window of 16 words that moves on with the rounds. The product's contracts cite `sha256/specs/Sha256`.
use Rattle.std.specs.Prelude.{ℕ, zero, suc, ◌+◌, List, [], ◌∷◌, slice_index, slice_index_or}
use Rattle.sha256.specs.Words.{◌⊞◌, σ0, σ1}
use Rattle.sha256.specs.Sha256.{K, round}
use Rattle.sha256_rounds.specs.declared.Window.{Window}

-- the window one word further
unfoldable pub slid : List ℕ → List ℕ
slid w =
    slice_index w 1 ∷ slice_index w 2 ∷ slice_index w 3 ∷ slice_index w 4 ∷ slice_index w 5 ∷ slice_index w 6 ∷ slice_index w 7 ∷ slice_index w 8 ∷
    slice_index w 9 ∷ slice_index w 10 ∷ slice_index w 11 ∷ slice_index w 12 ∷ slice_index w 13 ∷ slice_index w 14 ∷ slice_index w 15 ∷
    σ1 (slice_index w 14) ⊞ slice_index_or w 9 0 ⊞ σ0 (slice_index w 1) ⊞ slice_index_or w 0 0 ∷ []

-- a round with the window's first word
unfoldable pub turned : Window → ℕ → Window
turned s k = record { v = round s.v k (slice_index s.w 0); w = slid s.w }

-- n turns, the first with the constant at t
unfoldable pub turns : ℕ → Window → ℕ → Window
turns zero s t = s
turns (suc n) s t = turned (turns n s t) (slice_index K (t + n))

-- n rounds with the words of w from t on and the constants from 48 + t on
unfoldable pub last_rounds : ℕ → List ℕ → List ℕ → ℕ → List ℕ
last_rounds zero v w t = v
last_rounds (suc n) v w t = round (last_rounds n v w t) (slice_index K (48 + (t + n))) (slice_index w (t + n))
