-- A whole table of four logs stays one, and answers no call on them with 1, 2, 8 or 15.
use Prim.Native.Nat.{ℕ, ◌<◌}
use mathlib.Core.Path.{◌≡◌, refl, sym, ap, ap₂, ◌∙◌}
use mathlib.Core.Logic.{◌≢◌}
use mathlib.Core.Bool.{Bool, true, false, not}
use mathlib.Core.List.{List, [], ◌∷◌}
use mathlib.Core.Option.{some}
use native.Mathlib.Omega.{arith}
use lib.Dec.{leb}
use lib.ListN.{length}
use borrow.Author.Tests.{lt-leb}
use Rattle.refusal.specs.Order.{Fault, fault, first_fault}
use Rattle.refusal.proofs.UnusedLaws.{unused, never}
use Rattle.layout.specs.Image.{Image}
use Rattle.layout.specs.declared.Row.{Row}
use Rattle.layout.specs.Layout.{read_table}
use Rattle.table.specs.Free.{write_table}
use Rattle.table.specs.Whole.{whole}
use Rattle.table.proofs.WholeLaws.{read-write}
use Rattle.a2m.specs.Call.{Call, log_of, Wide, Reply, refused, done, found, ended, numbered, Effect, after}
use Rattle.a2m.specs.ImageCalls.{row_in, wrong_length, misplaced, spent, full, promised, faults, image_step}
use Rattle.a2m.specs.TableCalls.{table_refusal, table_step}
use Rattle.a2m.proofs.Unchanged.{refused_unchanged}
use Rattle.a2m.proofs.Written.{step-written}
use Rattle.model.specs.Model.{rules, Model, model_step}
use Rattle.model.proofs.Along.{step-fixed}
use Rattle.model.proofs.TableClaim.{Stands, in-range, step_stands, table-whole}
use Rattle.script.specs.Answer.{reply_answer, answer_number, call_answer}
use Rattle.script.proofs.NeverSix.{bounded-number}
use Rattle.workload_answers.specs.Numbers.{Clear}

-- the bytes of an image that stands, of four logs
pub record Ready (T : List ℕ) : Type 0 where
  pub image : Image
  pub model : Model
  pub bytes : T ≡ write_table image
  pub stands : Stands image model
  pub logs : length image.rows ≡ 4

module _ (T : List ℕ) (r : Ready T) where
  -- it stays one
  pub call-ready : (c : Call) → Wide c → Ready (table_step T c).state
  call-ready c w =
      let m = r.image in
      let b = r.model in
      let s = r.stands in
      let n = step_stands m b s c (w, tt) in
      record {
        image = (image_step m c).state;
        model = (model_step rules b c).state;
        bytes = ap (λ (x : List ℕ). (table_step x c).state) r.bytes ∙ ap (λ (o : Effect (List ℕ)). o.state) (step-written m s.fits (in-range m b s) c);
        stands = n;
        logs = n.says.count ∙ (step-fixed rules b c).count ∙ sym s.says.count ∙ r.logs;
      }

  ready-whole : not (whole T) ≡ false
  unfolding after
  ready-whole = ap (λ (x : List ℕ). not (whole x)) r.bytes ∙ ap not (table-whole r.image r.model r.stands [] tt)

  ready-log : (g : ℕ) → g < 4 → leb (length (read_table T).rows) g ≡ false
  ready-log g h =
      let e : length (read_table T).rows ≡ 4 =
      ap (λ (x : List ℕ). length (read_table x).rows) r.bytes ∙ ap (λ (m : Image). length m.rows) (read-write r.image r.stands.fits) ∙ r.logs in
      lt-leb (length (read_table T).rows) g (omega arith)

-- a fault that is not found is passed over
passed_over : (w : Bool) (rest : List Fault) → first_fault (fault 7 w ∷ fault 1 false ∷ fault 2 false ∷ rest) ≡ first_fault (fault 7 w ∷ rest)
unfolding first_fault
passed_over true rest = refl
passed_over false rest = refl

-- the number in a reply's answer
reply-number : (x : Reply) (row : Row) → answer_number (reply_answer x row) ≡ (numbered x).number
reply-number (refused k) row = bounded-number k row
reply-number (done low high) row = bounded-number 0 row
reply-number (found receipt examined) row = refl
reply-number (ended receipt) row = refl

module _ (T : List ℕ) (r : Ready T) (c : Call) (log : log_of c < 4) where
  abbrev rest : List Fault
  rest = fault 3 (misplaced (row_in (read_table T) (log_of c)) c) ∷ fault 4 (spent (row_in (read_table T) (log_of c)) c) ∷ fault 5 (full (read_table T) c) ∷ fault 16 (promised (read_table T) c) ∷ []

  others : table_refusal T c ≡ first_fault (fault 7 (wrong_length c) ∷ rest)
  unfolding table_refusal faults
  others =
      ap₂ (λ (a b : Bool). first_fault (fault 7 (wrong_length c) ∷ fault 1 a ∷ fault 2 b ∷ rest)) (ready-whole T r) (ready-log T r (log_of c) log)
      ∙ passed_over (wrong_length c) rest

  -- a number that none of the others has
  not-answered : (k : ℕ) → k ≢ 0 → unused k (fault 7 (wrong_length c) ∷ rest) ≡ true → answer_number (call_answer T c) ≢ k
  unfolding call_answer
  not-answered k z u e = go (table_step T c).reply refl (sym (reply-number (table_step T c).reply (row_in (read_table (table_step T c).state) (log_of c))) ∙ e)
    where
      go : (x : Reply) → (table_step T c).reply ≡ x → (numbered x).number ≡ k → ⊥
      go (refused j) h q = never k (fault 7 (wrong_length c) ∷ rest) u (sym others ∙ (refused_unchanged T c j h).1 ∙ ap some q)
      go (done low high) h q = z (sym q)
      go (found receipt examined) h q = z (sym q)
      go (ended receipt) h q = z (sym q)

  pub call-clear : Clear (answer_number (call_answer T c))
  call-clear = (
    not-answered 1 (λ e. omega arith) refl,
    not-answered 2 (λ e. omega arith) refl,
    not-answered 8 (λ e. omega arith) refl,
    not-answered 15 (λ e. omega arith) refl,
  )
