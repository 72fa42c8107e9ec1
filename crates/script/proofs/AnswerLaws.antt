-- The answer to a call, by its reply.
use Prim.Native.Nat.{ℕ, ◌<◌}
use mathlib.Core.Path.{◌≡◌, refl, sym, ap, ap₂, subst, ◌∙◌}
use mathlib.Core.Bool.{true, false}
use mathlib.Core.List.{List}
use mathlib.Core.Option.{Option, none, some}
use native.Mathlib.Omega.{arith}
use borrow.Author.Tests.{eq-eqb, ne_eqb}
use Rattle.octets.specs.Octets.{Bytes, part, splice, zeros}
use Rattle.bigendian.specs.BigEndian.{be, unbe, placed}
use Rattle.refusal.specs.Number.{number_of}
use Rattle.receipt.specs.Attestation.{Attestation}
use Rattle.layout.specs.declared.Row.{Row}
use Rattle.layout.specs.Layout.{logs_of, read_table}
use Rattle.table.specs.Whole.{whole}
use Rattle.std.specs.Prelude.{Result, Ok, Err}
use Rattle.refusal.specs.declared.Hashed.{Hashed}
use Rattle.refusal.specs.declared.Refused.{Refused}
use Rattle.a2m.specs.declared.Bounds.{Bounds}
use Rattle.a2m.specs.Call.{Call, append, advance, log_of, Wide, Reply, refused, found, ended}
use Rattle.a2m.specs.ImageCalls.{row_in, wrong_length}
use Rattle.a2m.specs.TableCalls.{table_refusal, table_step}
use Rattle.a2m.specs.Opened.{change_reply}
use Rattle.a2m.proofs.Unchanged.{Reads, refused_unchanged, read_unchanged}
use Rattle.script.specs.declared.Answer.TheVariants.{Plain, Bounded, Attested}
use Rattle.script.specs.Answer.{letter_of, number_in, attested_answer, reply_answer, call_answer}
use Rattle.script.specs.Named.{Named, ChangeNamed, change_answer}
use Rattle.script.proofs.CallLaws.{accepted-named, refused-named, Changes, done-row}

-- ---- numbers placed in 32 bytes

pub placed-bytes : (n : ℕ) → splice (zeros 32) 24 (be 8 n) ≡ placed n
unfolding splice zeros placed be
placed-bytes n = refl

pub append-sized : (g v : ℕ) → wrong_length (append g (placed v)) ≡ false
unfolding wrong_length placed zeros be
append-sized g v = refl

pub advance-sized : (g n d v : ℕ) → wrong_length (advance g n (placed d) (placed v)) ≡ false
unfolding wrong_length placed zeros be
advance-sized g n d v = refl

-- ---- a refusal, with dashes and with the row

module _ (k : ℕ) (r : Row) where
  pub plain-torn : k ≡ 1 → Plain k ≡ reply_answer (refused k) r
  plain-torn e = rw (eq-eqb k 1 e)

  pub plain-no-log : (k ≡ 1 → ⊥) → k ≡ 2 → Plain k ≡ reply_answer (refused k) r
  plain-no-log n e = rw (ne_eqb k 1 n, eq-eqb k 2 e)

  pub bounded : (k ≡ 1 → ⊥) → (k ≡ 2 → ⊥) → Bounded k r.low r.high ≡ reply_answer (refused k) r
  bounded n m = rw (ne_eqb k 1 n, ne_eqb k 2 m)

-- ---- the letter of a kind

module _ (k : ℕ) where
  pub letter-u : k ≡ 0 → 85 ≡ letter_of k
  unfolding letter_of
  letter-u e = rw (eq-eqb k 0 e)

  pub letter-a : (k ≡ 0 → ⊥) → k ≡ 1 → 65 ≡ letter_of k
  unfolding letter_of
  letter-a n e = rw (ne_eqb k 0 n, eq-eqb k 1 e)

  pub letter-s : (k ≡ 0 → ⊥) → (k ≡ 1 → ⊥) → k ≡ 2 → 83 ≡ letter_of k
  unfolding letter_of
  letter-s n m e = rw (ne_eqb k 0 n, ne_eqb k 1 m, eq-eqb k 2 e)

  pub letter-f : (k ≡ 0 → ⊥) → (k ≡ 1 → ⊥) → (k ≡ 2 → ⊥) → 70 ≡ letter_of k
  unfolding letter_of
  letter-f n m o = rw (ne_eqb k 0 n, ne_eqb k 1 m, ne_eqb k 2 o)

-- the answer that a receipt gives, field by field
pub attested-fields : (a : Attestation) (row row' : Row) (k p r v : ℕ) → row ≡ row' → k ≡ letter_of a.kind → p ≡ a.position → r ≡ a.reference → v ≡ number_in a.value
    → Attested k p r v row.low row.high ≡ attested_answer a row'
attested-fields a row row' k p r v e ek ep er ev =
    ap₂ (λ (x y : ℕ). Attested x y r v row.low row.high) ek ep
    ∙ ap₂ (λ (x y : ℕ). Attested (letter_of a.kind) a.position x y row.low row.high) er ev
    ∙ ap (λ (x : Row). attested_answer a x) e

-- the value as a number, read in a list that is the value's
pub value_read : (x y : List ℕ) (n : ℕ) → n ≡ unbe (part x 24 8) → x ≡ y → n ≡ number_in y
unfolding number_in
value_read x y n e h = e ∙ ap number_in h

-- ---- a change

module _ (b b' : List ℕ) (call : Call) (ch : Result (Hashed Bounds) Refused) (sized : wrong_length call ≡ false) (says : change_reply ch ≡ (table_step b call).reply) (after : b' ≡ (table_step b call).state) where
  pub change-named : ChangeNamed b' (log_of call) ch
  change-named = go ch says
    where
      go : (c : Result (Hashed Bounds) Refused) → change_reply c ≡ (table_step b call).reply → ChangeNamed b' (log_of call) c
      go (Ok made) h = tt
      go (Err f) h =
          let e : b' ≡ b = after ∙ (refused_unchanged b call (number_of f.why) (sym h)).0 in
          subst (λ (x : List ℕ). Named x (log_of call) (number_of f.why)) (sym e) (refused-named b call (number_of f.why) sized (sym h))

  pub change-answers : Bytes b → Wide call → Changes call → change_answer ch (row_in (read_table b') (log_of call)) ≡ call_answer b call
  unfolding call_answer
  change-answers bytes w is = go ch says
    where
      row : Row
      row = row_in (read_table (table_step b call).state) (log_of call)

      go : (c : Result (Hashed Bounds) Refused) → change_reply c ≡ (table_step b call).reply → change_answer c (row_in (read_table b') (log_of call)) ≡ reply_answer (table_step b call).reply (row_in (read_table (table_step b call).state) (log_of call))
      go (Ok made) h =
          let d = done-row b bytes call w is made.value.low made.value.high (sym h) in
          ap₂ (Bounded 0) (sym d.0) (sym d.1) ∙ ap (λ (r : Reply). reply_answer r (row_in (read_table (table_step b call).state) (log_of call))) h
      go (Err f) h = ap₂ (λ (r : Reply) (x : List ℕ). reply_answer r (row_in (read_table x) (log_of call))) h after

-- ---- a call that only reads

module _ (b : List ℕ) (bytes : Bytes b) (call : Call) (reads : Reads call) where
  pub reply-answers : (r : Reply) → r ≡ (table_step b call).reply → reply_answer r (row_in (read_table b) (log_of call)) ≡ call_answer b call
  unfolding call_answer
  reply-answers r h = ap₂ (λ (r : Reply) (x : List ℕ). reply_answer r (row_in (read_table x) (log_of call))) h (sym (read_unchanged b bytes call reads))

pub reply-accepted : (b : List ℕ) (call : Call) → ((k : ℕ) → (table_step b call).reply ≡ refused k → ⊥) → (whole b ≡ true) × (log_of call < logs_of b)
unfolding table_step
reply-accepted b call h = go (table_refusal b call) refl
  where
    go : (r : Option ℕ) → table_refusal b call ≡ r → (whole b ≡ true) × (log_of call < logs_of b)
    go none e = accepted-named b call e
    go (some k) e = absurd (h k (rw (table_step, e)))

pub found-not : (r : List ℕ) (j k : ℕ) → found r j ≡ refused k → ⊥
found-not r j k h = let z : ◌≡◌ {A = ℕ} 0 1 = cc in omega arith

pub ended-not : (r : List ℕ) (k : ℕ) → ended r ≡ refused k → ⊥
ended-not r k h = let z : ◌≡◌ {A = ℕ} 0 1 = cc in omega arith
