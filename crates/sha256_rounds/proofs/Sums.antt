-- Sums of words in another order: addition modulo 2^32 is associative and commutative.
use Rattle.std.proofs.Common.{◌≡◌, ℕ, arith}
use Rattle.sha256.specs.Words.{◌⊞◌}

-- two terms added one by one, the second first
pub one-by-one : (t a b : ℕ) → t ⊞ b ⊞ a ≡ t ⊞ (a ⊞ b)
one-by-one t a b = omega arith

-- four terms from the last to the first
pub turned-round : (a b c d : ℕ) → d ⊞ c ⊞ b ⊞ a ≡ a ⊞ b ⊞ c ⊞ d
turned-round a b c d = omega arith
