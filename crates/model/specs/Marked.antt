-- Document 01's marked set: the 11 log calls of its script and the lines answered, as one table. Document 02, [3]: "In the script case line 6 shows 43."
use Rattle.std.specs.Prelude.{ℕ, List, [], ◌∷◌}
use Rattle.std.proofs.Math.Option.{none, some}
use Rattle.octets.specs.Octets.{zeros}
use Rattle.bigendian.specs.BigEndian.{unbe, placed}
use Rattle.receipt.specs.Attestation.{Attestation, read_attestation}
use Rattle.layout.specs.Layout.{read_table}
use Rattle.a2m.specs.Call.{Call, append, advance, truncate, lookup, end, log_of, Reply, Effect, numbered, receipt_in}
use Rattle.a2m.specs.ImageCalls.{row_in}

-- "kind (U, A, S, F), position, reference, value"; "a dash where there is none"
pub data Columns : Type 0 where
  dashes : Columns
  shown : (kind position reference value : ℕ) → Columns

-- a call, and "line number, answer, kind (U, A, S, F), position, reference, value, L, H after the call"
pub record Line : Type 0 where
  pub number : ℕ
  pub call : Call
  pub answer : ℕ
  pub columns : Columns
  pub low : ℕ
  pub high : ℕ

abbrev pub line : ℕ → Call → ℕ → Columns → ℕ → ℕ → Line
line number call answer columns low high = record { number = number; call = call; answer = answer; columns = columns; low = low; high = high }

-- the receipts' kinds by their letters
abbrev pub U : ℕ
U = 0

abbrev pub A : ℕ
A = 1

abbrev pub S : ℕ
S = 2

abbrev pub F : ℕ
F = 3

-- "Key and nonce are zero"; a lent receipt has 160 bytes
unfoldable pub zero32 : List ℕ
zero32 = zeros 32

-- the script's lines 2 to 12; line 1 is `format,2,3,7,0,0`
unfoldable pub marked : List Line
marked =
    line 2 (append 0 (placed 41)) 0 dashes 1 1 ∷
    line 3 (append 0 (placed 42)) 0 dashes 1 2 ∷
    line 4 (advance 0 5 (placed 0) (placed 43)) 0 dashes 1 5 ∷
    line 5 (append 1 (placed 9)) 5 dashes 1 0 ∷
    line 6 (lookup 0 3 zero32 160) 0 (shown S 3 5 43) 1 5 ∷
    line 7 (truncate 0 5) 0 dashes 5 5 ∷
    line 8 (append 1 (placed 9)) 0 dashes 1 1 ∷
    line 9 (lookup 0 2 zero32 160) 0 (shown F 2 5 0) 5 5 ∷
    line 10 (lookup 0 6 zero32 160) 0 (shown U 6 5 0) 5 5 ∷
    line 11 (end 1 zero32 160) 0 (shown A 1 1 9) 1 1 ∷
    line 12 (end 0 zero32 160) 0 (shown A 5 5 43) 5 5 ∷ []

-- ---- what the calls answer

abbrev pub columns_from : Attestation → Columns
columns_from a = shown a.kind a.position a.reference (unbe a.value)

abbrev pub columns_of : Reply → Columns
columns_of reply = elim (receipt_in reply) [ none ↦ dashes | some r ↦ columns_from (read_attestation r) ]

-- L and H of a log, as a table's bytes say
abbrev pub low_in : List ℕ → ℕ → ℕ
low_in b g = (row_in (read_table b) g).low

abbrev pub high_in : List ℕ → ℕ → ℕ
high_in b g = (row_in (read_table b) g).high

-- the lines that the calls give, one after the other, with the low and high that the state after each says of its log
unfoldable pub answered : {State : Type 0} → (State → Call → Effect State) → (State → ℕ → ℕ) → (State → ℕ → ℕ) → State → List Line → List Line
answered step low high s [] = []
answered step low high s (l ∷ ls) =
    let o = step s l.call in
    line l.number l.call (numbered o.reply).number (columns_of o.reply) (low o.state (log_of l.call)) (high o.state (log_of l.call)) ∷
    answered step low high o.state ls
