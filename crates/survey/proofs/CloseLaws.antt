-- Request [10] of a close: "If H is already there or past it, that is 3."
use Prim.Native.Nat.{ℕ, ◌^◌, ◌≤◌, ◌<◌}
use native.Mathlib.Omega.{arith}
use mathlib.Core.Path.{◌≡◌, refl, sym, ap, ◌∙◌}
use mathlib.Core.Bool.{Bool, true, false, not}
use mathlib.Core.List.{List}
use mathlib.Core.Option.{some}
use lib.ListN.{length}
use lib.Dec.{leb}
use borrow.Author.Tests.{leb-true, le-leb, lt-leb}
use Rattle.octets.specs.Octets.{zeros}
use Rattle.octets.proofs.Zeros.{length-zeros}
use Rattle.refusal.proofs.OrderLaws.{passes}
use Rattle.refusal.proofs.UnusedLaws.{never}
use Rattle.layout.specs.Layout.{logs_of, read_table}
use Rattle.layout.proofs.TableLaws.{length-rows}
use Rattle.table.specs.Whole.{whole}
use Rattle.a2m.specs.Call.{Call, advance, log_of, refused, Effect}
use Rattle.a2m.specs.ImageCalls.{row_in, wrong_length, misplaced, faults}
use Rattle.a2m.specs.TableCalls.{table_refusal, table_step}
use Rattle.a2m.proofs.CallLaws.{advance-sized}
use Rattle.a2m.proofs.Cases.{refused-step, wrong-position}
use Rattle.a2m.proofs.Unchanged.{refused_unchanged}
use Rattle.survey.specs.Packing.{packed, too_wide, last_reading}
use Rattle.survey.specs.Requests.{closes, early, request_step}
use Rattle.survey.proofs.PackingLaws.{narrow}
use Rattle.survey.proofs.RequestLaws.{stays, passed-step}

-- a call whose lengths, table and log are good is refused with 3 only where its position is misplaced
misplaced-only : (b : List ℕ) (call : Call) → wrong_length call ≡ false → whole b ≡ true → leb (length (read_table b).rows) (log_of call) ≡ false → table_refusal b call ≡ some 3
    → misplaced (row_in (read_table b) (log_of call)) call ≡ true
unfolding table_refusal faults
misplaced-only b call ea et eg h = go (misplaced (row_in (read_table b) (log_of call)) call) refl
  where
    go : (t : Bool) → misplaced (row_in (read_table b) (log_of call)) call ≡ t → t ≡ true
    go true e = refl
    go false e = absurd (never 3 _ refl (sym (passes 7 _ _ ea ∙ passes 1 _ _ (ap not et) ∙ passes 2 _ _ eg ∙ passes 3 _ _ e) ∙ h))

module _ (b : List ℕ) (g s : ℕ) (x : List ℕ) (hx : length x ≡ 32) (hs : s < 2 ^ 24) (hb : whole b ≡ true) (hg : g < logs_of b) where
  call : Call
  call = advance g (packed s last_reading) (zeros 32) x

  sized : wrong_length call ≡ false
  unfolding call
  sized = advance-sized b (packed s last_reading) (zeros 32) x g (length-zeros 32) hx

  known : leb (length (read_table b).rows) (log_of call) ≡ false
  unfolding call
  known = lt-leb (length (read_table b).rows) g (omega (arith, hg, length-rows b))

  is_made : (request_step table_step b (closes g s x)).reply ≡ (table_step b call).reply
  unfolding call early last_reading
  is_made = ap (λ (f : Effect (List ℕ)). f.reply) (passed-step table_step b (closes g s x) (stays call (too_wide s last_reading) sized (narrow s last_reading hs (omega arith))))

  pub close-past : packed s last_reading ≤ (row_in (read_table b) g).high → (request_step table_step b (closes g s x)).reply ≡ refused 3
  unfolding call misplaced
  close-past h = is_made ∙ sym (refused-step b call 3 (wrong-position b call sized hb known (le-leb _ _ h))).0

  pub close-only : (request_step table_step b (closes g s x)).reply ≡ refused 3 → packed s last_reading ≤ (row_in (read_table b) g).high
  unfolding call misplaced
  close-only h = leb-true _ _ (misplaced-only b call sized hb known (refused_unchanged b call 3 (sym is_made ∙ h)).1)

  -- exactly then
  pub close-three : (packed s last_reading ≤ (row_in (read_table b) g).high → (request_step table_step b (closes g s x)).reply ≡ refused 3)
      × ((request_step table_step b (closes g s x)).reply ≡ refused 3 → packed s last_reading ≤ (row_in (read_table b) g).high)
  close-three = (close-past, close-only)
