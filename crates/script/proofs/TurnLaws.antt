-- What a command does to the table, which is lent to it in part or whole.
use Rattle.std.proofs.Common.{◌≡◌, ℕ, ◌≤◌, ◌<◌, Bool, true, false, cond, not, ◌&&◌, eqb, leb, ltb, List, ◌++◌, Option, Some, None, length, take, drop, refl, sym, ap, subst, ◌∙◌, arith}
use Rattle.std.proofs.Math.Option.{Option as Fault, none, some}
use Rattle.std.proofs.Math.Seq.{length-take-le, take_at}
use lib.ListN.{take-append-drop}
use borrow.Author.Tests.{lt-leb}
use borrow.Rule.Slice.PartMut.{put_mid, post_of}
use Rattle.octets.specs.Octets.{Bytes, zeros}
use Rattle.octets.proofs.Parts.{bytes-part}
use Rattle.octets.proofs.Tests.{and-false}
use Rattle.refusal.specs.Order.{first_fault, answer_of, afterwards}
use Rattle.layout.specs.Layout.{table_size}
use Rattle.layout.specs.Tests.{in_range}
use Rattle.table.specs.Free.{write_table}
use Rattle.table.specs.Format.{formatted, format_refusal, format_bytes}
use Rattle.table.specs.Reserve.{sum}
use Rattle.line.specs.declared.Command.{Command}
use Rattle.line.specs.declared.Command.TheVariants.{Format}
use Rattle.script.specs.declared.Answer.{Answer}
use Rattle.script.specs.declared.Answer.TheVariants.{Plain}
use Rattle.script.specs.Script.{format_fault, command_answer, command_table, lent, Turns}

-- ---- the first n of some bytes l are the table

-- the part that is lent, and came back as y
pub came-back : (l y : List ℕ) (n : ℕ) → n ≤ length l → length y ≡ length (take n l) → take n (put_mid 0 n l y) ≡ y
came-back l y n h e = take_at y (post_of 0 n l) n (e ∙ length-take-le n l h)

-- or as it was
pub untouched : (l y : List ℕ) (n : ℕ) → y ≡ take n l → put_mid 0 n l y ≡ l
untouched l y n e = ap (λ (a : List ℕ). a ++ drop n l) e ∙ take-append-drop n l

-- bytes of the table's part are bytes
pub bytes-first : (l : List ℕ) (n : ℕ) → Bytes l → Bytes (take n l)
bytes-first l n h = bytes-part l 0 n h

-- ---- the calls

-- a call on the lent table, the first n of the bytes l, which came back as y
pub call-turns : {T : List ℕ} (l y : List ℕ) (n : ℕ) {command : Option Command} (x : Command) (a : Answer) → take n l ≡ T → command ≡ Some x → n ≤ length l → length y ≡ length (take n l)
    → a ≡ command_answer (take n l) (Some x) (lent (Some x)) → y ≡ command_table (take n l) (Some x) (lent (Some x)) → Turns T command (lent command) (take n (put_mid 0 n l y)) a
call-turns {T} l y n x a t e h k ha hy =
    subst (λ (w : Option Command). Turns T w (lent w) (take n (put_mid 0 n l y)) a) (sym e)
    (subst (λ (U : List ℕ). Turns U (Some x) (lent (Some x)) (take n (put_mid 0 n l y)) a) t (record { answer = ha; table = came-back l y n h k ∙ hy }))

-- no command
pub none-turns : (T : List ℕ) (command : Option Command) → command ≡ None → Turns T command (lent command) T (Plain 15)
unfolding command_answer command_table
none-turns T command e = subst (λ (w : Option Command). Turns T w (lent w) T (Plain 15)) (sym e) (record { answer = refl; table = refl })

-- ---- format

-- "8 counts: format with G or S out of range", whatever the reserves
pub many-logs : (logs slots : ℕ) (rs : List ℕ) → 16 < logs → format_fault logs slots rs ≡ some 8
unfolding format_refusal first_fault in_range
many-logs logs slots rs h = rw (lt-leb logs 16 h, and-false (leb 1 logs))

pub many-slots : (logs slots : ℕ) (rs : List ℕ) → 800 < slots → format_fault logs slots rs ≡ some 8
unfolding format_refusal first_fault in_range
many-slots logs slots rs h = rw (lt-leb slots 800 h, and-false (leb 1 logs && leb logs 16 && leb 1 slots))

-- where the counts are not in range nothing is lent
pub format-counts : (T : List ℕ) (logs slots keeper : ℕ) (first rs : List ℕ) → format_fault logs slots rs ≡ some 8 → Turns T (Some (Format logs slots keeper first)) rs T (Plain 8)
unfolding command_answer command_table answer_of afterwards
format-counts T logs slots keeper first rs e =
    record {
      answer = sym (ap (λ (o : Fault ℕ). Plain (answer_of o)) e);
      table = sym (ap (λ (o : Fault ℕ). afterwards o (write_table (formatted slots keeper (zeros 32) rs)) T) e);
    }

-- ---- k bytes were lent and came back as y; a reserve for each log was lent, and n is the answer's number
module _ (T part y : List ℕ) (k logs slots keeper : ℕ) (all : List ℕ) (n : ℕ) (size : k ≡ table_size logs slots) (fits : length part ≡ k)
    (says : n ≡ answer_of (format_refusal (length part) logs slots (length (zeros 32)) (take logs all)))
    (bytes : y ≡ format_bytes part logs slots keeper (zeros 32) (take logs all)) where
  rs : List ℕ
  rs = take logs all

  image : List ℕ
  image = write_table (formatted slots keeper (zeros 32) rs)

  fault : format_refusal (length part) logs slots 32 rs ≡ format_fault logs slots rs
  fault = ap (λ (j : ℕ). format_refusal j logs slots 32 rs) (fits ∙ size)

  came : y ≡ afterwards (format_fault logs slots rs) image part
  unfolding rs image format_bytes zeros
  came = bytes ∙ ap (λ (o : Fault ℕ). afterwards o image part) fault

  number : n ≡ answer_of (format_fault logs slots rs)
  unfolding rs zeros
  number = says ∙ ap answer_of fault

  -- accepted: "8" and "7" are no 0
  answer-none : (o : Fault ℕ) (w x z : Bool) → o ≡ cond w (some 8) (cond x (some 7) (cond z (some 8) none)) → 0 ≡ answer_of o → o ≡ none
  unfolding answer_of
  answer-none o true x z e h = let q : ◌≡◌ {A = ℕ} 0 8 = h ∙ ap answer_of e in absurd (omega arith)
  answer-none o false true z e h = let q : ◌≡◌ {A = ℕ} 0 7 = h ∙ ap answer_of e in absurd (omega arith)
  answer-none o false false true e h = let q : ◌≡◌ {A = ℕ} 0 8 = h ∙ ap answer_of e in absurd (omega arith)
  answer-none o false false false e h = e

  pub format-done : n ≡ 0 → Turns T (Some (Format logs slots keeper all)) (take logs all) y (Plain 0)
  unfolding rs image command_answer command_table format_refusal first_fault afterwards zeros answer_of
  format-done h =
      let i : 0 ≡ answer_of (format_fault logs slots rs) = sym h ∙ number in
      let f : format_fault logs slots rs ≡ none = answer-none (format_fault logs slots rs) (not (in_range logs slots)) (not (eqb 32 32 && eqb (table_size logs slots) (table_size logs slots) && eqb (length rs) logs)) (ltb slots (sum rs)) refl i in
      record {
        answer = ap Plain i;
        table = came ∙ ap (λ (o : Fault ℕ). afterwards o image part) f ∙ sym (ap (λ (o : Fault ℕ). afterwards o image T) f);
      }

  -- refused: the old table stays
  some-refusal : (j : ℕ) (o : Fault ℕ) → 1 ≤ j → j ≡ answer_of o → o ≡ some j
  unfolding answer_of
  some-refusal j none h e = absurd (omega arith)
  some-refusal j (some i) h e = ap some (sym e)

  pub format-refused : 1 ≤ n → (y ≡ part) × Turns T (Some (Format logs slots keeper all)) (take logs all) T (Plain n)
  unfolding rs image command_answer command_table afterwards zeros answer_of
  format-refused h =
      let f : format_fault logs slots rs ≡ some n = some-refusal n (format_fault logs slots rs) h number in (
        came ∙ ap (λ (o : Fault ℕ). afterwards o image part) f,
        record { answer = ap Plain number; table = sym (ap (λ (o : Fault ℕ). afterwards o image T) f) },
      )
