-- What is claimed of the verdicts (document 01, "Runs"; demand 3).
use Rattle.std.specs.Prelude.{ℕ, ◌+◌, ◌-◌, ◌<◌, ◌≡◌, List, ◌++◌, length}
use Rattle.sha256.specs.Sha256.{sha256}
use Rattle.runs.specs.Run.{Run, count, value_at, digest_at}
use Rattle.runs.specs.Compare.{reach, left, right, collision}
use Rattle.runs.specs.Call.{done, compare_answer, compare_bytes}

module _ (hash : List ℕ → List ℕ) (a b : Run) where
  -- "the unequal pair nearest the ends, whose SHA-256 is then equal", at place j and handed over in out
  pub record Collides (out : List ℕ) (j : ℕ) : Type 0 where
    pub place : j < reach a b
    pub unequal : left hash a b j ≡ right hash a b j → ⊥
    pub nearest : (i : ℕ) → j < i → i < reach a b → left hash a b i ≡ right hash a b i
    pub blocks : out ≡ left hash a b j ++ right hash a b j
    pub one_hash : hash (left hash a b j) ≡ hash (right hash a b j)

  -- "equal positions and values back to the shorter run's first entry, and equal digest before it"
  pub record Agreement : Type 0 where
    pub positions : (i : ℕ) → i < reach a b → a.first + (count a - reach a b + i) ≡ b.first + (count b - reach a b + i)
    pub values : (i : ℕ) → i < reach a b → value_at a (count a - reach a b + i) ≡ value_at b (count b - reach a b + i)
    pub before : digest_at hash a (count a - reach a b) ≡ digest_at hash b (count b - reach a b)

-- demand 3: "our comparison hands over two different blocks with one SHA-256"
pub record HandsOver (a b : Run) (out : List ℕ) : Type 0 where
  pub answer : compare_answer a b out ≡ done collision
  pub first : List ℕ
  pub second : List ℕ
  pub sizes : (length first ≡ 72) × (length second ≡ 72)
  pub bytes : compare_bytes a b out ≡ first ++ second
  pub unequal : first ≡ second → ⊥
  pub one-digest : sha256 first ≡ sha256 second
