-- The chains of an image after a slot was taken or released: none loses a slot, and none gains one that it did not get.
use Prim.Native.Nat.{ℕ, suc, ◌<◌}
use mathlib.Core.Path.{◌≡◌, refl, sym, ap}
use mathlib.Core.List.{List, [], ◌∷◌, ◌++◌, tail-eq_of_cons-eq}
use mathlib.Core.Bool.{true}
use native.Mathlib.Omega.{arith}
use lib.ListN.{length}
use lib.Seq.{get_or-set_same}
use Rattle.layout.specs.Image.{Entry, Image, free_slot, fresh_row, slot_at, row_at}
use Rattle.layout.specs.Changes.{advanced_row, truncated_row}
use Rattle.table.proofs.ReserveLaws.{whole-linked}
use Rattle.table.specs.Chains.{chain, last_of}
use Rattle.table.specs.Free.{free_chain, joint}
use Rattle.table.specs.WholeImage.{whole_image}
use Rattle.a2m.specs.ImageCalls.{row_in, entries_in, held_slot, put, release}
use Rattle.table.proofs.Lists.{last_of_snoc}
use Rattle.table.specs.Conditions.{Links}
use Rattle.table.proofs.Links.{Holds, chain_links}
use Rattle.a2m.proofs.Moves.{Move, move-from, move-to}
use Rattle.a2m.proofs.WholeChains.{log-chain, free-links}

-- log g's chain c with the entries es along it, and the free chain q
pub record Chained (m : Image) (g : ℕ) (c : List ℕ) (es : List Entry) (q : List ℕ) : Type 0 where
  pub log : Holds m.slots (suc g) (row_in m g).first c es
  pub last : (row_in m g).last ≡ last_of c
  pub free : Links m.slots 0 m.free q 0

pub whole-chained : (m : Image) → whole_image m ≡ true → (g : ℕ) → Chained m g (chain m.slots (suc g) (row_in m g).first) (entries_in m g) (free_chain m)
unfolding entries_in
whole-chained m w g = let l = whole-linked m w in let r = log-chain m l g in record { log = record { links = r.links; held = refl }; last = r.last; free = free-links m l }

module _ (m : Image) (g : ℕ) (c : List ℕ) (es : List Entry) (q : List ℕ) where
  -- the last slot of the free chain
  pub joint-is : Links m.slots 0 m.free q 0 → joint m ≡ last_of q
  joint-is h = ap last_of (chain_links m.slots 0 m.free q h)

  -- the first free slot is hooked behind the log's last
  pub put-move : Chained m g c es (m.free ∷ q) → (e : Entry) → Move m.slots 0 (suc g) m.free q (row_in m g).first c (row_in m g).last (held_slot g e)
  put-move h e = record { from = h.free; to = h.log.links; apart = λ (z : 0 ≡ suc g). omega arith; end = h.last; owner = refl; stops = refl }

  pub put-chained : Chained m g c es (m.free ∷ q) → g < length m.rows → (e : Entry) → Chained (put m g e) g (c ++ (m.free ∷ [])) (es ++ (e ∷ [])) q
  unfolding put advanced_row
  put-chained h g_g e =
      let M = put-move h e in
      let r : row_at (put m g e).rows g ≡ advanced_row (row_in m g) e.position m.free = get_or-set_same m.rows g (advanced_row (row_in m g) e.position m.free) (fresh_row 0) g_g in
      record {
        log = rw r (move-to _ _ _ _ _ _ _ _ _ M es h.log.held);
        last = rw r (sym (last_of_snoc c m.free));
        free = (move-from _ _ _ _ _ _ _ _ _ M _ refl).links;
      }

module _ (m : Image) (g t : ℕ) (c : List ℕ) (x : Entry) (es : List Entry) (q : List ℕ) where
  -- the log's first slot is hooked behind the last free one
  pub release-move : Chained m g ((row_in m g).first ∷ t ∷ c) (x ∷ es) q → Move m.slots (suc g) 0 (row_in m g).first (t ∷ c) m.free q (joint m) (free_slot 0)
  release-move h = record { from = h.log.links; to = h.free; apart = λ (z : suc g ≡ 0). omega arith; end = joint-is m g c es q h.free; owner = refl; stops = refl }

  pub release-chained : Chained m g ((row_in m g).first ∷ t ∷ c) (x ∷ es) q → g < length m.rows → Chained (release m g) g (t ∷ c) es (q ++ ((row_in m g).first ∷ []))
  unfolding release truncated_row last_of
  release-chained h g_g =
      let M = release-move h in
      let r : row_at (release m g).rows g ≡ truncated_row (row_in m g) (row_in m g).low (slot_at m.slots (row_in m g).first).next = get_or-set_same m.rows g (truncated_row (row_in m g) (row_in m g).low (slot_at m.slots (row_in m g).first).next) (fresh_row 0) g_g in
      record {
        log = rw r (move-from _ _ _ _ _ _ _ _ _ M es (tail-eq_of_cons-eq h.log.held));
        last = rw r h.last;
        free = (move-to _ _ _ _ _ _ _ _ _ M _ refl).links;
      }
