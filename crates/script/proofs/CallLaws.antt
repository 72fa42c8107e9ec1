-- What a call's reply says of the table: which refusals come from a whole table that has the log, and the row after the call.
use Prim.Native.Nat.{ℕ, ◌<◌}
use mathlib.Core.Path.{◌≡◌, refl, sym, ap, ◌∙◌}
use mathlib.Core.Logic.{◌≢◌}
use mathlib.Core.Bool.{Bool, true, false, cond, not}
use mathlib.Core.List.{List, [], ◌∷◌}
use mathlib.Core.Option.{Option, none, some}
use native.Mathlib.Omega.{arith}
use lib.ListN.{length}
use lib.Dec.{leb}
use borrow.Author.Tests.{not-false, leb-false}
use Rattle.octets.specs.Octets.{Bytes}
use Rattle.refusal.specs.Order.{Fault, fault, first_fault}
use Rattle.layout.specs.Image.{Image}
use Rattle.layout.specs.Layout.{logs_of, read_table}
use Rattle.layout.specs.Fits.{Fits}
use Rattle.layout.proofs.TableLaws.{length-rows, fits_read}
use Rattle.table.specs.Whole.{whole}
use Rattle.a2m.specs.Call.{Call, append, advance, truncate, log_of, Wide, refused, done}
use Rattle.a2m.specs.ImageCalls.{row_in, wrong_length, misplaced, spent, full, promised, faults, image_done, image_accept, image_refusal, image_step}
use Rattle.a2m.specs.TableCalls.{table_refusal, table_step}
use Rattle.a2m.proofs.Clear.{clear}
use Rattle.a2m.proofs.FitsAfter.{step_fits}
use Rattle.a2m.proofs.Unchanged.{refused_unchanged}
use Rattle.table.proofs.WholeLaws.{whole_formed, whole-image, read-write}
use Rattle.script.specs.Named.{Named}

has-log : (b : List ℕ) (g : ℕ) → leb (length (read_table b).rows) g ≡ false → g < logs_of b
has-log b g h = omega (arith, leb-false (length (read_table b).rows) g h, length-rows b)

-- an accepted call found a whole table that has the log
pub accepted-named : (b : List ℕ) (call : Call) → table_refusal b call ≡ none → (whole b ≡ true) × (log_of call < logs_of b)
unfolding table_refusal
accepted-named b call h =
    let c = clear _ (read_table b) call h in
    (not-false (whole b) c.whole, has-log b (log_of call) c.log)

past : (t : Bool) (j k : ℕ) (fs : List Fault) → first_fault (fault j t ∷ fs) ≡ some k → k ≢ j → (t ≡ false) × (first_fault fs ≡ some k)
unfolding first_fault
past true j k fs h n = absurd (n (let e : j ≡ k = cc in sym e))
past false j k fs h n = (refl, h)

-- and so did a refused one, but for 1 and 2, where its lengths are right
pub refused-named : (b : List ℕ) (call : Call) (k : ℕ) → wrong_length call ≡ false → (table_step b call).reply ≡ refused k → Named b (log_of call) k
unfolding table_refusal faults first_fault
refused-named b call k s h n m =
    let m0 : Image = read_table b in
    let r = row_in m0 (log_of call) in
    let rest : List Fault = fault 3 (misplaced r call) ∷ fault 4 (spent r call) ∷ fault 5 (full m0 call) ∷ fault 16 (promised m0 call) ∷ [] in
    let l : Bool = leb (length m0.rows) (log_of call) in
    let e : first_fault (fault 7 (wrong_length call) ∷ fault 1 (not (whole b)) ∷ fault 2 l ∷ rest) ≡ some k = (refused_unchanged b call k h).1 in
    let e7 : first_fault (fault 1 (not (whole b)) ∷ fault 2 l ∷ rest) ≡ some k = ap (λ (t : Bool). cond t (some 7) (first_fault (fault 1 (not (whole b)) ∷ fault 2 l ∷ rest))) (sym s) ∙ e in
    let p1 = past (not (whole b)) 1 k (fault 2 l ∷ rest) e7 n in
    let p2 = past l 2 k rest p1.1 m in
    (not-false (whole b) p1.0, has-log b (log_of call) p2.0)

-- ---- the row after an accepted change

-- an accepted call that answers with the row of its log
unfoldable pub Changes : Call → Type 0
Changes call = (m : Image) → (image_accept m call).reply ≡ (image_done 0 (image_accept m call).state (log_of call)).reply

done-not-refused : (k low high : ℕ) → refused k ≡ done low high → ⊥
done-not-refused k low high h = let z : ◌≡◌ {A = ℕ} 0 1 = cc in omega arith

module _ (b : List ℕ) (bytes : Bytes b) (call : Call) (w : Wide call) where
  step-read : table_refusal b call ≡ none → ((table_step b call).reply ≡ (image_accept (read_table b) call).reply) × (read_table (table_step b call).state ≡ (image_accept (read_table b) call).state)
  unfolding table_step image_step image_refusal table_refusal
  step-read e =
      let t = (accepted-named b call e).0 in
      let m : Image = read_table b in
      let i : image_refusal m call ≡ none = ap (λ (v : Bool). first_fault (faults (not v) m call)) (whole-image b t ∙ sym t) ∙ e in
      let f : Fits (image_accept m call).state = rw (image_step, i) at (step_fits m (fits_read b bytes (whole_formed b t)) call w) in
      (rw (table_step, e), rw (table_step, e) (read-write (image_accept m call).state f))

  -- "An accepted append, advance or truncate answers 0 with the L and H of that row"
  pub done-row : Changes call → (low high : ℕ) → (table_step b call).reply ≡ done low high
      → ((row_in (read_table (table_step b call).state) (log_of call)).low ≡ low) × ((row_in (read_table (table_step b call).state) (log_of call)).high ≡ high)
  unfolding table_step Changes image_done
  done-row ch low high h = go (table_refusal b call) refl
    where
      go : (r : Option ℕ) → table_refusal b call ≡ r → ((row_in (read_table (table_step b call).state) (log_of call)).low ≡ low) × ((row_in (read_table (table_step b call).state) (log_of call)).high ≡ high)
      go (some k) e = absurd (done-not-refused k low high (rw (table_step, e) at h))
      go none e =
          let s = step-read e in
          let m : Image = (image_accept (read_table b) call).state in
          let q : done (row_in m (log_of call)).low (row_in m (log_of call)).high ≡ done low high = sym (ch (read_table b)) ∙ sym s.0 ∙ h in
          let l : (row_in m (log_of call)).low ≡ low = cc in
          let u : (row_in m (log_of call)).high ≡ high = cc in
          (ap (λ (x : Image). (row_in x (log_of call)).low) s.1 ∙ l, ap (λ (x : Image). (row_in x (log_of call)).high) s.1 ∙ u)

pub append_changes : (g : ℕ) (x : List ℕ) → Changes (append g x)
unfolding Changes image_accept image_done
append_changes g x m = refl

pub advance_changes : (g n : ℕ) (d x : List ℕ) → Changes (advance g n d x)
unfolding Changes image_accept image_done
advance_changes g n d x m = refl

pub truncate_changes : (g n : ℕ) → Changes (truncate g n)
unfolding Changes image_accept image_done
truncate_changes g n m = refl
