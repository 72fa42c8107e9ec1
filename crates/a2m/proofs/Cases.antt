-- How a call on a table ends: refused with the first number that fits, or accepted. A law for each way, over plain values.
use Prim.Native.Nat.{ℕ}
use mathlib.Core.Path.{◌≡◌, ap}
use mathlib.Core.List.{List, [], ◌∷◌}
use mathlib.Core.Bool.{Bool, true, false, not}
use mathlib.Core.Option.{Option, none, some}
use lib.ListN.{length}
use lib.Dec.{leb}
use Rattle.refusal.specs.Order.{fault, first_fault}
use Rattle.layout.specs.Layout.{read_table}
use Rattle.table.specs.Free.{write_table}
use Rattle.table.specs.Whole.{whole}
use Rattle.a2m.specs.Call.{Call, log_of, Reply, refused}
use Rattle.a2m.specs.ImageCalls.{row_in, wrong_length, misplaced, spent, full, promised, faults, image_accept}
use Rattle.a2m.specs.TableCalls.{table_refusal, table_step}

-- the faults in document 01's order, without 6, and request [5]'s after them
abbrev order : Bool → Bool → Bool → Bool → Bool → Bool → Bool → Option ℕ
order a t g p s f q = first_fault (fault 7 a ∷ fault 1 t ∷ fault 2 g ∷ fault 3 p ∷ fault 4 s ∷ fault 5 f ∷ fault 16 q ∷ [])

module _ (a t g p s f q : Bool) where
  is-7 : a ≡ true → order a t g p s f q ≡ some 7
  unfolding first_fault
  is-7 e = rw e

  is-1 : a ≡ false → t ≡ true → order a t g p s f q ≡ some 1
  unfolding first_fault
  is-1 ea e = rw (ea, e)

  is-2 : a ≡ false → t ≡ false → g ≡ true → order a t g p s f q ≡ some 2
  unfolding first_fault
  is-2 ea et e = rw (ea, et, e)

  is-3 : a ≡ false → t ≡ false → g ≡ false → p ≡ true → order a t g p s f q ≡ some 3
  unfolding first_fault
  is-3 ea et eg e = rw (ea, et, eg, e)

  is-4 : a ≡ false → t ≡ false → g ≡ false → p ≡ false → s ≡ true → order a t g p s f q ≡ some 4
  unfolding first_fault
  is-4 ea et eg ep e = rw (ea, et, eg, ep, e)

  is-5 : a ≡ false → t ≡ false → g ≡ false → p ≡ false → s ≡ false → f ≡ true → order a t g p s f q ≡ some 5
  unfolding first_fault
  is-5 ea et eg ep es e = rw (ea, et, eg, ep, es, e)

  is-16 : a ≡ false → t ≡ false → g ≡ false → p ≡ false → s ≡ false → f ≡ false → q ≡ true → order a t g p s f q ≡ some 16
  unfolding first_fault
  is-16 ea et eg ep es ef e = rw (ea, et, eg, ep, es, ef, e)

  is_none : a ≡ false → t ≡ false → g ≡ false → p ≡ false → s ≡ false → f ≡ false → q ≡ false → order a t g p s f q ≡ none
  unfolding first_fault
  is_none ea et eg ep es ef e = rw (ea, et, eg, ep, es, ef, e)

module _ (b : List ℕ) (call : Call) where
  pub refused-step : (k : ℕ) → table_refusal b call ≡ some k → (refused k ≡ (table_step b call).reply) × ((0 ≡ (table_step b call).blocks) × (b ≡ (table_step b call).state))
  unfolding table_step
  refused-step k e = (rw (table_step, e), (rw (table_step, e), rw (table_step, e)))

  pub accepted-step : (r : Reply) (k : ℕ) (a : List ℕ) → table_refusal b call ≡ none → r ≡ (image_accept (read_table b) call).reply → k ≡ (image_accept (read_table b) call).blocks → a ≡ write_table (image_accept (read_table b) call).state
      → (r ≡ (table_step b call).reply) × ((k ≡ (table_step b call).blocks) × (a ≡ (table_step b call).state))
  unfolding table_step
  accepted-step r k a e p w q = (rw (table_step, e) p, (rw (table_step, e) w, rw (table_step, e) q))

  pub wrong-length : wrong_length call ≡ true → table_refusal b call ≡ some 7
  unfolding table_refusal faults
  wrong-length e = is-7 (wrong_length call) _ _ _ _ _ _ e

  pub torn : wrong_length call ≡ false → whole b ≡ false → table_refusal b call ≡ some 1
  unfolding table_refusal faults
  torn ea e = is-1 (wrong_length call) (not (whole b)) _ _ _ _ _ ea (ap not e)

  pub no-log : wrong_length call ≡ false → whole b ≡ true → leb (length (read_table b).rows) (log_of call) ≡ true → table_refusal b call ≡ some 2
  unfolding table_refusal faults
  no-log ea et e = is-2 (wrong_length call) (not (whole b)) (leb (length (read_table b).rows) (log_of call)) _ _ _ _ ea (ap not et) e

  -- a call whose lengths, table and log are good
  module _ (ea : wrong_length call ≡ false) (et : whole b ≡ true) (eg : leb (length (read_table b).rows) (log_of call) ≡ false) where
    pub wrong-position : misplaced (row_in (read_table b) (log_of call)) call ≡ true → table_refusal b call ≡ some 3
    unfolding table_refusal faults
    wrong-position e = is-3 (wrong_length call) (not (whole b)) (leb (length (read_table b).rows) (log_of call)) (misplaced (row_in (read_table b) (log_of call)) call) _ _ _ ea (ap not et) eg e

    pub is-spent : misplaced (row_in (read_table b) (log_of call)) call ≡ false → spent (row_in (read_table b) (log_of call)) call ≡ true → table_refusal b call ≡ some 4
    unfolding table_refusal faults
    is-spent ep e = is-4 (wrong_length call) (not (whole b)) (leb (length (read_table b).rows) (log_of call)) (misplaced (row_in (read_table b) (log_of call)) call) (spent (row_in (read_table b) (log_of call)) call) _ _ ea (ap not et) eg ep e

    pub is-full : misplaced (row_in (read_table b) (log_of call)) call ≡ false → spent (row_in (read_table b) (log_of call)) call ≡ false → full (read_table b) call ≡ true → table_refusal b call ≡ some 5
    unfolding table_refusal faults
    is-full ep es e =
        is-5 (wrong_length call) (not (whole b)) (leb (length (read_table b).rows) (log_of call)) (misplaced (row_in (read_table b) (log_of call)) call) (spent (row_in (read_table b) (log_of call)) call) (full (read_table b) call) _ ea (ap not et) eg ep es e

    pub is-promised : misplaced (row_in (read_table b) (log_of call)) call ≡ false → spent (row_in (read_table b) (log_of call)) call ≡ false → full (read_table b) call ≡ false → promised (read_table b) call ≡ true → table_refusal b call ≡ some 16
    unfolding table_refusal faults
    is-promised ep es ef e =
        is-16 (wrong_length call) (not (whole b)) (leb (length (read_table b).rows) (log_of call)) (misplaced (row_in (read_table b) (log_of call)) call) (spent (row_in (read_table b) (log_of call)) call) (full (read_table b) call) (promised (read_table b) call) ea (ap not et) eg ep es ef e

    pub no-refusal : misplaced (row_in (read_table b) (log_of call)) call ≡ false → spent (row_in (read_table b) (log_of call)) call ≡ false → full (read_table b) call ≡ false → promised (read_table b) call ≡ false → table_refusal b call ≡ none
    unfolding table_refusal faults
    no-refusal ep es ef e =
        is_none (wrong_length call) (not (whole b)) (leb (length (read_table b).rows) (log_of call)) (misplaced (row_in (read_table b) (log_of call)) call) (spent (row_in (read_table b) (log_of call)) call) (full (read_table b) call) (promised (read_table b) call) ea (ap not et) eg ep es ef e
