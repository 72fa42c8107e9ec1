-- The call `compare`: its refusals, its answer, and the lent buffer after it.
use Rattle.std.specs.Prelude.{ℕ, ◌+◌, ◌-◌, ◌*◌, ◌/◌, ◌%◌, ◌^◌, Bool, not, ◌||◌, List, [], ◌∷◌, eqb, leb, length, Result, Ok, Err}
use Rattle.std.proofs.Math.Option.{Option, none, some}
use Rattle.refusal.specs.declared.Hashed.{Hashed}
use Rattle.refusal.specs.declared.Refused.{Refused}
use Rattle.refusal.specs.Number.{number_of}
use Rattle.refusal.specs.Order.{fault, first_fault, afterwards}
use Rattle.sha256.specs.Sha256.{sha256}
use Rattle.runs.specs.Run.{Run, count}
use Rattle.runs.specs.Compare.{Verdict, differ, agree, collision, comparison, handed_over}
use Rattle.runs.specs.declared.Comparison.{Comparison}
use Rattle.runs.specs.declared.Comparison.TheVariants.{Differ, Agree, Collision}

-- number 14: "no values, bytes not a multiple of 32, first position 0, or last beyond 2^64 − 1"
unfoldable pub no_run : ℕ → List ℕ → Bool
no_run first values =
    eqb (length values) 0
    || (not (eqb (length values % 32) 0)
    || (eqb first 0
    || leb (2 ^ 64) (first + length values / 32 - 1)))

-- "Order: .. runs 7, 14"
unfoldable pub compare_refusal : Run → Run → List ℕ → Option ℕ
compare_refusal a b out =
    first_fault
    (fault 7 (not (eqb (length a.start) 32))
    ∷ fault 7 (not (eqb (length b.start) 32))
    ∷ fault 7 (not (eqb (length out) 144))
    ∷ fault 14 (no_run a.first a.values)
    ∷ fault 14 (no_run b.first b.values)
    ∷ [])

-- what is answered: a number, and with 0 "done" the verdict
pub record Answer : Type 0 where
  pub number : ℕ
  pub verdict : Option Verdict

abbrev pub done : Verdict → Answer
done v = record { number = 0; verdict = some v }

abbrev pub refused : ℕ → Answer
refused n = record { number = n; verdict = none }

-- the verdict that the program names
abbrev pub verdict_named : Comparison → Verdict
verdict_named Differ = differ
verdict_named Agree = agree
verdict_named Collision = collision

-- its code, C's KEEPER_DIFFER, KEEPER_AGREE and KEEPER_COLLISION
abbrev pub verdict_code : Verdict → ℕ
verdict_code differ = 0
verdict_code agree = 1
verdict_code collision = 2

-- the number and the verdict of the program's answer
abbrev pub comparison_answer : Result (Hashed Comparison) Refused → Answer
comparison_answer (Ok compared) = done (verdict_named compared.value)
comparison_answer (Err refusal) = refused (number_of refusal.why)

-- and the blocks hashed
abbrev pub comparison_blocks : Result (Hashed Comparison) Refused → ℕ
comparison_blocks (Ok compared) = compared.blocks
comparison_blocks (Err refusal) = refusal.blocks

-- "A refusal .. returns its number alone"
unfoldable pub answered : Option ℕ → Verdict → Answer
answered none v = done v
answered (some n) v = refused n

-- of two runs and the lent buffer: the answer
unfoldable pub compare_answer : Run → Run → List ℕ → Answer
compare_answer a b out = answered (compare_refusal a b out) (comparison sha256 a b)

-- document 02 [2], the blocks: "a comparison of runs 2 for each value of either run", and 0 "for whatever is refused before it
-- hashes"
unfoldable pub compare_blocks : Run → Run → List ℕ → ℕ
compare_blocks a b out = afterwards (compare_refusal a b out) (2 * (count a + count b)) 0

-- and the buffer's bytes after the call: "A refusal changes no lent byte"
unfoldable pub compare_bytes : Run → Run → List ℕ → List ℕ
compare_bytes a b out = afterwards (compare_refusal a b out) (handed_over sha256 a b out) out
