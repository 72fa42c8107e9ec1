-- Append and advance on an image and on the model: the first free slot goes to the log's end.
use Prim.Native.Nat.{ℕ, suc, ◌+◌, ◌<◌}
use mathlib.Core.Path.{◌≡◌, refl, sym, ◌∙◌}
use mathlib.Core.Logic.{◌≢◌}
use mathlib.Core.List.{List, [], ◌∷◌, ◌++◌, tail-eq_of_cons-eq}
use mathlib.Core.Bool.{false}
use native.Mathlib.Omega.{arith}
use lib.ListN.{length, length-set, length-append, replicate}
use lib.Dec.{eqb}
use borrow.Author.Tests.{eqb-false}
use Rattle.layout.specs.Image.{Entry, Slot, Image, entry_of, blank_entry, slot_at, row_at}
use Rattle.layout.specs.Changes.{advanced_row}
use Rattle.table.specs.Chains.{entries_of}
use Rattle.a2m.specs.ImageCalls.{row_in, joined, held_slot, put}
use Rattle.table.proofs.Lists.{last_of_snoc}
use Rattle.table.proofs.Links.{Holds, links-head}
use Rattle.a2m.proofs.Chained.{Chained, put-move}
use Rattle.a2m.proofs.Moves.{Move, move-other, move-from, move-to, length-joined}
use Rattle.model.specs.Log.{entered}
use Rattle.model.specs.Model.{Model, log_at, total, with_log}
use Rattle.model.proofs.Represents.{Rep, RowRep}
use Rattle.model.proofs.Reading.{total-set, rows-set}

module _ (m : Image) (b : Model) (R : Rep m b) (g : ℕ) (g_g : g < length b.logs) (e : Entry) where
  -- where the free chain is the first free slot and q
  put-rep : (q : List ℕ) → Chained m g (R.rows g).chain (log_at b.logs g).entries (m.free ∷ q) → entries_of m.slots q ≡ replicate (length q) blank_entry → suc (length q) + total b.logs ≡ length m.slots → Rep (put m g e) (with_log b g (entered (log_at b.logs g) e))
  unfolding put entered advanced_row
  put-rep q chained blanks sum = record {
    keeper = R.keeper;
    key = R.key;
    count = length-set m.rows g _ ∙ R.count ∙ sym (length-set b.logs g _);
    size = same_size ∙ R.size;
    rows = rows-set slots m.rows b.logs g _ _ (rw R.count g_g) g_g others this;
    queue = q;
    free = move-from _ _ _ _ _ _ _ _ _ M _ blanks;
    sum =
        let t = total-set b.logs g (entered (log_at b.logs g) e) g_g in
        let a = length-append (log_at b.logs g).entries (e ∷ []) in
        let l = same_size in
        omega arith;
  }
    where
      slots : List Slot
      slots = joined m.slots m.free (row_in m g).last (held_slot g e)

      same_size : length slots ≡ length m.slots
      same_size = length-joined m.slots m.free (row_in m g).last (held_slot g e)

      M : Move m.slots 0 (suc g) m.free q (row_in m g).first (R.rows g).chain (row_in m g).last (held_slot g e)
      M = put-move m g (R.rows g).chain (log_at b.logs g).entries q chained e

      others : (k : ℕ) → k ≢ g → RowRep slots k (row_at m.rows k) (log_at b.logs k)
      others k n =
          let v = R.rows k in
          record { chain = v.chain; holds = move-other _ _ _ _ _ _ _ _ _ M _ _ _ _ (λ (z : suc k ≡ 0). omega arith) (λ (z : suc k ≡ suc g). n (omega arith)) v.holds; last = v.last; low = v.low; high = v.high; reserve = v.reserve }

      this : RowRep slots g (advanced_row (row_in m g) e.position m.free) (entered (log_at b.logs g) e)
      this =
          let w = R.rows g in
          record { chain = w.chain ++ (m.free ∷ []); holds = move-to _ _ _ _ _ _ _ _ _ M _ w.holds.held; last = sym (last_of_snoc w.chain m.free); low = w.low; high = refl; reserve = w.reserve }

  -- a table that is not full
  pub put_keeps : eqb m.free 0 ≡ false → Rep (put m g e) (with_log b g (entered (log_at b.logs g) e))
  put_keeps n = go R.queue R.free R.sum
    where
      go : (q : List ℕ) → Holds m.slots 0 m.free q (replicate (length q) blank_entry) → length q + total b.logs ≡ length m.slots → Rep (put m g e) (with_log b g (entered (log_at b.logs g) e))
      go [] h k = absurd (eqb-false m.free 0 n h.links)
      go (t ∷ q) h k =
          let blanks : entry_of (slot_at m.slots t) ∷ entries_of m.slots q ≡ blank_entry ∷ replicate (length q) blank_entry = h.held in
          put-rep q (record { log = (R.rows g).holds; last = (R.rows g).last; free = links-head m.slots 0 m.free t q 0 h.links }) (tail-eq_of_cons-eq blanks) k
