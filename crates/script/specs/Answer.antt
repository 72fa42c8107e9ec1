-- Document 01, "The script program": what a call is answered in a script.
use Rattle.std.specs.Prelude.{ℕ, cond, ◌||◌, List, eqb}
use Rattle.std.proofs.Math.Option.{none, some}
use Rattle.octets.specs.Octets.{part}
use Rattle.bigendian.specs.BigEndian.{unbe}
use Rattle.receipt.specs.Attestation.{Attestation, read_attestation}
use Rattle.layout.specs.declared.Row.{Row}
use Rattle.layout.specs.Layout.{read_table}
use Rattle.a2m.specs.Call.{Call, log_of, Reply, numbered, receipt_in}
use Rattle.a2m.specs.ImageCalls.{row_in}
use Rattle.a2m.specs.TableCalls.{table_step}
use Rattle.script.specs.declared.Answer.{Answer}
use Rattle.script.specs.declared.Answer.TheVariants.{Plain, Bounded, Attested}

-- "kind (U, A, S, F)": 0 unassigned, 1 assigned, 2 skipped, 3 forgotten, in ASCII
unfoldable pub letter_of : ℕ → ℕ
letter_of k = cond (eqb k 0) 85 (cond (eqb k 1) 65 (cond (eqb k 2) 83 70))

-- the value as a number, which a script placed in the last 8 of the 32 bytes
unfoldable pub number_in : List ℕ → ℕ
number_in x = unbe (part x 24 8)

-- "answer, kind (U, A, S, F), position, reference, value, L, H after the call"
abbrev pub attested_answer : Attestation → Row → Answer
attested_answer a r = Attested (letter_of a.kind) a.position a.reference (number_in a.value) r.low r.high

-- "a dash where there is none (L and H after .. answers 1, 2, 15)"
abbrev pub bounded_answer : ℕ → Row → Answer
bounded_answer k r = cond (eqb k 1 || eqb k 2) (Plain k) (Bounded k r.low r.high)

-- the columns of a reply: its receipt's, if it has one
abbrev pub reply_answer : Reply → Row → Answer
reply_answer reply r = elim (receipt_in reply) [ none ↦ bounded_answer (numbered reply).number r | some receipt ↦ attested_answer (read_attestation receipt) r ]

-- the number in the second column
abbrev pub answer_number : Answer → ℕ
answer_number (Plain k) = k
answer_number (Bounded k low high) = k
answer_number (Attested kind position reference value low high) = 0

-- the answer to a call, with the row of its log after the call
unfoldable pub call_answer : List ℕ → Call → Answer
call_answer b call = reply_answer (table_step b call).reply (row_in (read_table (table_step b call).state) (log_of call))
