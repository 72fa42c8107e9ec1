-- A whole image whose numbers and lists fit their bytes stands for the model that it says, and its bytes answer every list of requests as that model does.
use Prim.Native.Nat.{ℕ, suc}
use mathlib.Core.Path.{◌≡◌, sym}
use mathlib.Core.Logic.{inl, inr}
use mathlib.Core.List.{List, [], ◌∷◌}
use mathlib.Core.Bool.{true}
use lib.ListN.{length}
use Rattle.layout.specs.Image.{Entry, Slot, Image}
use Rattle.layout.specs.Fits.{Fits, Range}
use Rattle.layout.specs.Layout.{read_table}
use Rattle.table.specs.Chains.{chain, entries_of}
use Rattle.table.specs.Free.{write_table}
use Rattle.table.specs.WholeImage.{linked, whole_image}
use Rattle.table.proofs.ReserveLaws.{whole-linked}
use Rattle.a2m.specs.Call.{replies, works, after}
use Rattle.survey.specs.Requests.{Request, request_step, AllWideRequests}
use Rattle.a2m.specs.ImageCalls.{row_in, entries_in}
use Rattle.a2m.specs.TableCalls.{table_step}
use Rattle.table.proofs.Lists.{In}
use Rattle.a2m.proofs.FitsAfter.{SlotsFit, slot-fits}
use Rattle.model.specs.Model.{rules}
use Rattle.model.specs.ModelOf.{log_in, model_of}
use Rattle.model.specs.Claim.{asking, ListClaim}
use Rattle.model.proofs.Entries.{Fit}
use Rattle.model.proofs.Along.{Keeps}
use Rattle.model.proofs.OfWhole.{log-in, model-says, model-sound, model_backed}
use Rattle.model.proofs.TableClaim.{Stands, table-claim}

-- the entries along a chain have the sizes of their slots
entries-sized : (slots : List Slot) → SlotsFit slots → (c : List ℕ) (e : Entry) → In e (entries_of slots c) → (length e.value ≡ 32) × (length e.digest ≡ 32)
entries-sized slots h [] e x' = elim x' [ ]
entries-sized slots h (t ∷ c) e (inl p) = let f = slot-fits slots h t in (rw p f.value, rw p f.digest)
entries-sized slots h (t ∷ c) e (inr q) = entries-sized slots h c e q

module _ (m : Image) (f : Fits m) where
  log-fits : (g : ℕ) → Fit (log_in m g)
  unfolding log_in entries_in
  log-fits g = record { high = (f.rows g).high; sized = entries-sized m.slots f.slots (chain m.slots (suc g) (row_in m g).first) }

  -- the model keeps what every call keeps
  pub model-keeps : linked m ≡ true → Keeps (model_of m)
  unfolding model_of
  model-keeps l = record { sound = model-sound m l; keeper = f.keeper; fits = λ (g : ℕ). rw (log-in m g) (log-fits g) }

  module _ (w : whole_image m ≡ true) (counts : Range (length m.rows) (length m.slots)) where
    pub image-stands : Stands m (model_of m)
    image-stands =
        let l = whole-linked m w in
        let says = model-says m l in
        record { says = says; sound = model-sound m l; backed = model_backed m w; fits = f; counts = rw (sym says.count, sym says.size) counts }

    pub image-list : (qs : List Request) → AllWideRequests qs → ListClaim (model_of m) (asking rules qs) (replies (request_step table_step) (write_table m) qs) (works (request_step table_step) (write_table m) qs) (read_table (after (request_step table_step) (write_table m) qs))
    unfolding after replies works
    image-list qs wide = table-claim (model_of m) (model-keeps (whole-linked m w)) [] tt m image-stands qs wide
