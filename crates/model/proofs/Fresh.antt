-- The image of an accepted format says the new model.
use Prim.Native.Nat.{ℕ, suc, ◌≤◌, ◌<◌}
use native.Mathlib.Nat.{le_refl}
use mathlib.Core.Path.{◌≡◌, refl, sym, ap, subst, ◌∙◌}
use mathlib.Core.List.{List, [], map}
use lib.ListN.{length, get_or, length-map, get_or-map}
use lib.Seq.{ext_get_or}
use Rattle.layout.specs.declared.Row.{Row}
use Rattle.layout.specs.Lists.{tabulate}
use Rattle.layout.specs.Image.{fresh_row}
use Rattle.layout.proofs.ListLaws.{length-tabulate}
use Rattle.table.specs.Chains.{entries_of}
use Rattle.table.specs.Format.{formatted}
use Rattle.table.proofs.FillLaws.{length-queue}
use Rattle.table.proofs.FormattedLaws.{formatted-linked}
use Rattle.table.proofs.WalkLaws.{chain-none}
use Rattle.a2m.specs.ImageCalls.{row_in, entries_in}
use Rattle.model.specs.Log.{fresh_log, last_entry}
use Rattle.model.specs.Model.{Model, new_model, log_at}
use Rattle.model.specs.ModelOf.{log_in, model_of}
use Rattle.model.proofs.Represents.{Rep, LogOk, Sound}
use Rattle.model.proofs.OfWhole.{log-in, model-says}

module _ (S keeper : ℕ) (key reserves : List ℕ) where
  fresh-log : (g : ℕ) → log_in (formatted S keeper key reserves) g ≡ log_at (map fresh_log reserves) g
  unfolding formatted log_in entries_in
  fresh-log g =
      let m = formatted S keeper key reserves in
      let row : row_in m g ≡ fresh_row (get_or reserves g 0) = get_or-map fresh_row reserves g 0 in
      let none : entries_in m g ≡ [] = ap (entries_of m.slots) (chain-none m.slots (suc g) (row_in m g).first (ap (λ (r : Row). r.first) row)) in
      let fresh : log_in m g ≡ fresh_log (get_or reserves g 0) = λ i. record { low = (row i).low; high = (row i).high; entries = none i; reserve = (row i).reserve } in
      fresh ∙ sym (get_or-map fresh_log reserves g 0)

  formatted-model : model_of (formatted S keeper key reserves) ≡ new_model S keeper key reserves
  unfolding model_of formatted
  formatted-model =
      let m = formatted S keeper key reserves in
      let n : length (tabulate (length m.rows) (log_in m)) ≡ length (map fresh_log reserves) = length-tabulate (length m.rows) (log_in m) ∙ length-map reserves fresh_row ∙ sym (length-map reserves fresh_log) in
      let logs : tabulate (length m.rows) (log_in m) ≡ map fresh_log reserves = ext_get_or (fresh_log 0) _ _ n (λ (g : ℕ) (h : g < length (tabulate (length m.rows) (log_in m))). log-in m g ∙ fresh-log g) in
      let size = length-queue S in
      λ i. record { size = size i; keeper = keeper; key = key; logs = logs i }

  pub formatted-rep : 1 ≤ S → Rep (formatted S keeper key reserves) (new_model S keeper key reserves)
  formatted-rep h =
      let m = formatted S keeper key reserves in
      subst (λ (b : Model). Rep m b) formatted-model (model-says m (formatted-linked S keeper key reserves h))

fresh_ok : (reserve : ℕ) → LogOk (fresh_log reserve)
unfolding last_entry
fresh_ok reserve = record { low1 = le_refl 1; rising = tt; top = refl; fresh = λ z. refl }

pub fresh_sound : (S keeper : ℕ) (key reserves : List ℕ) → Sound (new_model S keeper key reserves)
fresh_sound S keeper key reserves g = rw (get_or-map fresh_log reserves g 0) (fresh_ok (get_or reserves g 0))
