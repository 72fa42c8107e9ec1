-- A whole image says one sound model, `model_of`: a call on it answers as that model, and leaves a whole image.
use Prim.Native.Nat.{ℕ, suc, ◌≤◌, ◌<◌}
use mathlib.Core.Path.{◌≡◌, refl, sym, ap, ◌∙◌}
use mathlib.Core.List.{[]}
use mathlib.Core.Bool.{Bool, true, false}
use native.Mathlib.Omega.{arith}
use native.Mathlib.Nat.{zero-add}
use lib.ListN.{length, length-append, length-map, get_or-eq_default}
use lib.Seq.{ext_get_or}
use lib.Dec.{ltb}
use borrow.Author.Tests.{ltb-true, ltb-false}
use Rattle.layout.specs.declared.Row.{Row}
use Rattle.layout.specs.Lists.{tabulate}
use Rattle.layout.specs.Image.{Image, entry_of, slot_at, fresh_row}
use Rattle.layout.proofs.ListLaws.{length-tabulate, get_or-tabulate}
use Rattle.table.specs.Chains.{chain, last_of, entries_of}
use Rattle.table.specs.Free.{free_chain}
use Rattle.table.specs.WholeImage.{held_by, meets, linked, whole_image}
use Rattle.table.proofs.ReserveLaws.{whole-linked, whole-lack}
use Rattle.a2m.specs.Call.{Call, Effect}
use Rattle.a2m.specs.ImageCalls.{row_in, entries_in, image_step}
use Rattle.table.proofs.Links.{chain_links}
use Rattle.a2m.proofs.WholeChains.{RowChain, log-chain, free-links, free-blank, sum_meets}
use Rattle.model.specs.Log.{Log, fresh_log}
use Rattle.model.specs.Model.{rules, Model, log_at, total, model_step}
use Rattle.model.specs.ModelOf.{log_in, model_of}
use Rattle.model.proofs.Represents.{Rep, RowRep, LogOk, Sound}
use Rattle.model.proofs.Reading.{entries-are}
use Rattle.model.proofs.Positions.{positions-of, of_rising, last-position}
use Rattle.model.proofs.Backed.{Backed, step_backed}
use Rattle.model.proofs.Lacking.{of-enough}
use Rattle.model.proofs.WholeOf.{of-blanks, held-length, whole_of}
use Rattle.model.proofs.Step.{step-agrees}
use Rattle.model.proofs.Sound.{step_sound}

length-entries : (m : Image) (g : ℕ) → length (log_in m g).entries ≡ length (chain m.slots (suc g) (row_in m g).first)
unfolding log_in entries_in
length-entries m g = length-map (chain m.slots (suc g) (row_in m g).first) (λ (s : ℕ). entry_of (slot_at m.slots s))

-- ---- the model of an image whose chains are in order: document 01's wholeness

-- a log beyond the table's is fresh
pub log-in : (m : Image) (g : ℕ) → log_at (model_of m).logs g ≡ log_in m g
unfolding model_of log_in entries_in
log-in m g = go (ltb g (length m.rows)) refl
  where
    go : (t : Bool) → ltb g (length m.rows) ≡ t → log_at (model_of m).logs g ≡ log_in m g
    go true e = get_or-tabulate (length m.rows) (log_in m) g (fresh_log 0) (ltb-true g (length m.rows) e)
    go false e =
        let le : length m.rows ≤ g = ltb-false g (length m.rows) e in
        let row : row_in m g ≡ fresh_row 0 = get_or-eq_default m.rows (fresh_row 0) le in
        let none : entries_of m.slots (chain m.slots (suc g) (row_in m g).first) ≡ [] = ap (λ (r : Row). entries_of m.slots (chain m.slots (suc g) r.first)) row ∙ ap (entries_of m.slots) (chain_links m.slots (suc g) 0 [] refl) in
        let fresh : log_in m g ≡ fresh_log 0 = λ i. record { low = (row i).low; high = (row i).high; entries = none i; reserve = (row i).reserve } in
        get_or-eq_default (tabulate (length m.rows) (log_in m)) (fresh_log 0) (rw (length-tabulate (length m.rows) (log_in m)) le)
        ∙ sym fresh

row-said : (m : Image) (g : ℕ) → RowChain m.slots g (row_in m g) → RowRep m.slots g (row_in m g) (log_in m g) × LogOk (log_in m g)
unfolding log_in entries_in
row-said m g r =
    let c = chain m.slots (suc g) (row_in m g).first in
    let q = positions-of m.slots c in (
      record { chain = c; holds = record { links = r.links; held = refl }; last = r.last; low = refl; high = refl; reserve = refl },
      record { low1 = r.low1; rising = of_rising (row_in m g).low (entries_of m.slots c) (rw q at r.rising); top = sym (last-position (entries_of m.slots c)) ∙ ap last_of (sym q) ∙ r.top; fresh = r.fresh },
    )

module _ (m : Image) (w : linked m ≡ true) where
  pub model-sound : Sound (model_of m)
  model-sound g = rw (log-in m g) (row-said m g (log-chain m w g)).1

  pub model-says : Rep m (model_of m)
  unfolding model_of meets
  model-says = record {
    keeper = refl;
    key = refl;
    count = sym (length-tabulate (length m.rows) (log_in m));
    size = refl;
    rows = λ (g : ℕ). rw (log-in m g) (row-said m g (log-chain m w g)).0;
    queue = free_chain m;
    free = record { links = free-links m w; held = of-blanks m.slots (free_chain m) (free-blank m w) };
    sum =
        let logs = tabulate (length m.rows) (log_in m) in
        let t : length (held_by m.slots 0 m.rows) ≡ total logs = held-length m.slots 0 m.rows logs (sym (length-tabulate (length m.rows) (log_in m))) (λ (i : ℕ). rw zero-add (sym (entries-count i))) in
        let a = length-append (free_chain m) (held_by m.slots 0 m.rows) in
        let e = sum_meets m w in
        omega arith;
  }
    where
      entries-count : (i : ℕ) → length (log_at (model_of m).logs i).entries ≡ length (chain m.slots (suc i) (row_in m i).first)
      entries-count i = ap (λ (l : Log). length l.entries) (log-in m i) ∙ length-entries m i

-- it is the one model that the image says
pub rep_model : (m : Image) (b : Model) → Rep m b → model_of m ≡ b
unfolding model_of log_in
rep_model m b R =
    let logs : tabulate (length m.rows) (log_in m) ≡ b.logs =
    ext_get_or (fresh_log 0) (tabulate (length m.rows) (log_in m)) b.logs (length-tabulate (length m.rows) (log_in m) ∙ R.count)
    (λ (g : ℕ) (h : g < length (tabulate (length m.rows) (log_in m))). log-in m g ∙ (λ i. record { low = (R.rows g).low i; high = (R.rows g).high i; entries = entries-are m b R g i; reserve = (R.rows g).reserve i })) in
    λ i. record { size = R.size i; keeper = R.keeper i; key = R.key i; logs = logs i }

-- ---- calls on a whole image

-- the slots promised are there
pub model_backed : (m : Image) → whole_image m ≡ true → Backed (model_of m)
model_backed m w = of-enough m (model_of m) (model-says m (whole-linked m w)) (whole-lack m w)

-- a call answers as the model, leaves an image that says the model after, and that is whole
pub record Follows (m : Image) (call : Call) (o : Effect Image) : Type 0 where
  pub reply : o.reply ≡ (model_step rules (model_of m) call).reply
  pub blocks : o.blocks ≡ (model_step rules (model_of m) call).blocks
  pub model : model_of o.state ≡ (model_step rules (model_of m) call).state
  pub whole : whole_image o.state ≡ true

pub whole-step : (m : Image) → whole_image m ≡ true → (call : Call) → Follows m call (image_step m call)
whole-step m w call =
    let b = model_of m in
    let ok = model-sound m (whole-linked m w) in
    let k = model_backed m w in
    let a = step-agrees m b (model-says m (whole-linked m w)) ok k call in
    record {
      reply = a.reply;
      blocks = a.blocks;
      model = rep_model (image_step m call).state (model_step rules b call).state a.state;
      whole = whole_of (image_step m call).state (model_step rules b call).state a.state (step_sound rules b ok call) (step_backed b k call);
    }
