-- Request [4] on bytes: what an accepted call on any table does to its free queue. With the row, the slot and the header these determine every byte.
use Prim.Native.Nat.{ℕ, suc, ◌+◌}
use mathlib.Core.Path.{◌≡◌, ap, ◌∙◌}
use mathlib.Core.List.{List, ◌∷◌, ◌++◌}
use mathlib.Core.Bool.{true, not, ◌&&◌}
use mathlib.Core.Option.{none}
use lib.ListN.{length}
use lib.Dec.{leb, ltb}
use borrow.Author.Tests.{leb-false, leb-true, ltb-true, not-false}
use Rattle.octets.specs.Octets.{Bytes}
use Rattle.octets.proofs.Tests.{and_left, and_right}
use Rattle.layout.specs.Image.{Image, slot_at}
use Rattle.layout.specs.Layout.{read_table}
use Rattle.layout.proofs.TableLaws.{fits_read}
use Rattle.table.specs.Chains.{chain}
use Rattle.table.specs.Free.{free_chain, below}
use Rattle.table.specs.Whole.{whole}
use Rattle.table.specs.WholeImage.{whole_image}
use Rattle.table.proofs.WholeLaws.{whole_formed, whole-image, read-write}
use Rattle.a2m.specs.Call.{Call, append, advance, truncate, Wide}
use Rattle.a2m.specs.NewEntry.{new_entry}
use Rattle.a2m.specs.ImageCalls.{row_in, misplaced, held_slot, previous_in, image_done, image_accept}
use Rattle.a2m.specs.TableCalls.{table_refusal, table_step}
use Rattle.a2m.proofs.Clear.{Clear, clear}
use Rattle.a2m.proofs.FitsAfter.{accept-fits}
use Rattle.a2m.proofs.Queue.{put-queue, put-slot, truncate-queue}

module _ (b : List ℕ) (bytes : Bytes b) where
  -- what no refusal says
  module _ (call : Call) (e : table_refusal b call ≡ none) where
    passed : Clear (not (whole b)) (read_table b) call
    unfolding table_refusal
    passed = clear _ (read_table b) call e

    image-whole : whole_image (read_table b) ≡ true
    image-whole = whole-image b (not-false (whole b) passed.whole)

    -- the image after the call
    image-after : Wide call → read_table (table_step b call).state ≡ (image_accept (read_table b) call).state
    unfolding table_step
    image-after w = rw (table_step, e) (read-write (image_accept (read_table b) call).state (accept-fits _ (read_table b) (fits_read b bytes (whole_formed b (not-false (whole b) passed.whole))) call w passed))

  -- "its first slot is taken": t holds the entry, and the rest is the queue
  module _ (t : ℕ) (q : List ℕ) (first : free_chain (read_table b) ≡ t ∷ q) where
    pub append-queue : (g : ℕ) (x : List ℕ) → table_refusal b (append g x) ≡ none
        → (free_chain (read_table (table_step b (append g x)).state) ≡ q)
        × (slot_at (read_table (table_step b (append g x)).state).slots t ≡ held_slot g (new_entry ((row_in (read_table b) g).high + 1) x (previous_in (read_table b) g)))
    unfolding image_accept image_done
    append-queue g x e =
        let m = read_table b in
        let y = new_entry ((row_in m g).high + 1) x (previous_in m g) in
        let a = image-after (append g x) e tt in
        let l = leb-false (length m.rows) g (passed (append g x) e).log in
        (ap free_chain a ∙ put-queue m (image-whole (append g x) e) g l t q first y, ap (λ (i : Image). slot_at i.slots t) a ∙ put-slot m (image-whole (append g x) e) g l t q first y)

    pub advance-queue : (g n : ℕ) (d x : List ℕ) → Wide (advance g n d x) → table_refusal b (advance g n d x) ≡ none
        → (free_chain (read_table (table_step b (advance g n d x)).state) ≡ q) × (slot_at (read_table (table_step b (advance g n d x)).state).slots t ≡ held_slot g (new_entry n x d))
    unfolding image_accept image_done
    advance-queue g n d x w e =
        let m = read_table b in
        let a = image-after (advance g n d x) e w in
        let l = leb-false (length m.rows) g (passed (advance g n d x) e).log in
        (ap free_chain a ∙ put-queue m (image-whole (advance g n d x) e) g l t q first (new_entry n x d), ap (λ (i : Image). slot_at i.slots t) a ∙ put-slot m (image-whole (advance g n d x) e) g l t q first (new_entry n x d))

  -- "freed ones join its end", "by rising position"
  pub truncated-queue : (g n : ℕ) → Wide (truncate g n) → table_refusal b (truncate g n) ≡ none
      → free_chain (read_table (table_step b (truncate g n)).state) ≡ free_chain (read_table b) ++ below n (read_table b).slots (chain (read_table b).slots (suc g) (row_in (read_table b) g).first)
  unfolding image_accept image_done misplaced
  truncated-queue g n w e =
      let m = read_table b in
      let c = passed (truncate g n) e in
      let k : ltb (row_in m g).low n && leb n (row_in m g).high ≡ true = not-false _ c.position in
      ap free_chain (image-after (truncate g n) e w)
      ∙ truncate-queue m (image-whole (truncate g n) e) g (leb-false (length m.rows) g c.log) n (ltb-true (row_in m g).low n (and_left (ltb (row_in m g).low n) (leb n (row_in m g).high) k)) (leb-true n (row_in m g).high (and_right (ltb (row_in m g).low n) (leb n (row_in m g).high) k))
