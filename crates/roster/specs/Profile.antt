-- Document 02 [7]: "A station profile gives N from 1 to 32 and the members needed, k .. Permitted are profiles where 2k > N and
-- k ≤ N."
use Rattle.std.specs.Prelude.{ℕ, ◌*◌, ◌≤◌, ◌<◌, Bool, ◌&&◌, leb, ltb}

-- the test: n members, of which k are needed
unfoldable pub permitted : ℕ → ℕ → Bool
permitted n k = leb 1 n && (leb n 32 && (ltb n (2 * k) && leb k n))

-- the same as conditions; proofs/Profiles shows that they agree
pub record Permitted (n k : ℕ) : Type 0 where
  pub least : 1 ≤ n
  pub most : n ≤ 32
  pub over-half : n < 2 * k
  pub not_more : k ≤ n
