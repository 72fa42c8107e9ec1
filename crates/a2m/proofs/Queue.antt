-- Request [4]: the free chain is a queue. A put takes its first slot and leaves the rest; truncate queues its slots behind it, by rising position.
use Prim.Native.Nat.{ℕ, zero, suc, ◌≤◌, ◌<◌}
use mathlib.Core.Path.{◌≡◌, refl, sym, ap, subst, ◌∙◌}
use mathlib.Core.List.{List, [], ◌∷◌, ◌++◌, append_assoc, append-nil}
use mathlib.Core.Bool.{Bool, true, false, cond}
use native.Mathlib.Omega.{arith}
use lib.ListN.{length}
use lib.Dec.{leb, ltb}
use borrow.Author.Tests.{lt-ltb, le-ltb, leb-true, leb-false}
use Rattle.octets.proofs.Tests.{and_left, and_right}
use Rattle.layout.specs.Image.{Entry, Slot, Image, entry_of, slot_at}
use Rattle.table.proofs.ReserveLaws.{whole-linked}
use Rattle.table.specs.Chains.{chain, last_of, positions_of, entries_of}
use Rattle.table.specs.Conditions.{Links}
use Rattle.table.specs.Free.{free_chain, below}
use Rattle.table.specs.WholeImage.{rising_from, whole_image}
use Rattle.a2m.specs.ImageCalls.{row_in, entries_in, held_slot, put, release, releases, lowered}
use Rattle.table.proofs.Links.{links-fit, chain_links}
use Rattle.a2m.proofs.Moves.{joined_at_lem, hook-apart, reach}
use Rattle.a2m.proofs.Chained.{Chained, whole-chained, put-move, put-chained, release-chained}
use Rattle.a2m.proofs.Releases.{releases-stop, releases-go}
use Rattle.a2m.proofs.ReleaseLaws.{release-keeps}
use Rattle.a2m.proofs.WholeChains.{log-chain}

-- ---- "its first slot is taken"

module _ (m : Image) (w : whole_image m ≡ true) (g : ℕ) (g_g : g < length m.rows) (t : ℕ) (q : List ℕ) (e : free_chain m ≡ t ∷ q) where
  first-is : m.free ≡ t
  first-is = (subst (λ (c : List ℕ). Links m.slots 0 m.free c 0) e (whole-chained m w g).free).0

  before : Chained m g (chain m.slots (suc g) (row_in m g).first) (entries_in m g) (m.free ∷ q)
  before = subst (λ (c : List ℕ). Chained m g (chain m.slots (suc g) (row_in m g).first) (entries_in m g) c) (e ∙ ap (λ (s : ℕ). s ∷ q) (sym first-is)) (whole-chained m w g)

  pub put-queue : (x : Entry) → free_chain (put m g x) ≡ q
  put-queue x = chain_links (put m g x).slots 0 (put m g x).free q (put-chained m g _ _ q before g_g x).free

  pub put-slot : (x : Entry) → slot_at (put m g x).slots t ≡ held_slot g x
  unfolding put
  put-slot x =
      let M = put-move m g _ _ q before x in
      ap (slot_at (put m g x).slots) (sym first-is) ∙ joined_at_lem m.slots m.free (row_in m g).last (held_slot g x) M.from.1 M.from.2 (reach _ _ _ _ _ _ _ _ _ M) (hook-apart _ _ _ _ _ _ _ _ _ M)

-- ---- "truncate queues its slots by rising position"

-- the slots of a chain whose entries, given beside it, stand below n
unfoldable beside : ℕ → List ℕ → List Entry → List ℕ
beside n [] es = []
beside n (s ∷ c) [] = []
beside n (s ∷ c) (x ∷ es) = cond (ltb x.position n) (s ∷ beside n c es) (beside n c es)

below-beside : (n : ℕ) (slots : List Slot) (c : List ℕ) → below n slots c ≡ beside n c (entries_of slots c)
unfolding below beside
below-beside n slots [] = refl
below-beside n slots (s ∷ c) = ap (λ (l : List ℕ). cond (ltb (slot_at slots s).position n) (s ∷ l) l) (below-beside n slots c)

-- positions of entries
abbrev places : List Entry → List ℕ
places [] = []
places (x ∷ es) = x.position ∷ places es

places_of : (slots : List Slot) (c : List ℕ) → places (entries_of slots c) ≡ positions_of slots c
places_of slots [] = refl
places_of slots (s ∷ c) = ap {B = List ℕ} (λ (l : List ℕ). (slot_at slots s).position ∷ l) (places_of slots c)

-- where the lowest stands at n or above, none stands below
none_below : (n b : ℕ) (c : List ℕ) (es : List Entry) → n ≤ b → rising_from b (places es) ≡ true → beside n c es ≡ []
unfolding beside rising_from
none_below n b [] es h r = refl
none_below n b (s ∷ c) [] h r = refl
none_below n b (s ∷ c) (x ∷ es) h r =
    let k = leb-true b x.position (and_left (leb b x.position) (rising_from (suc x.position) (places es)) r) in
    ap (λ (z : Bool). cond z (s ∷ beside n c es) (beside n c es)) (le-ltb x.position n (omega arith)) ∙ none_below n (suc x.position) c es (omega arith) (and_right (leb b x.position) (rising_from (suc x.position) (places es)) r)

-- the first slot of the chain, and its position
first-place : (m : Image) (g s : ℕ) (c : List ℕ) (x : Entry) (es : List Entry) (q : List ℕ) → Chained m g (s ∷ c) (x ∷ es) q → ((row_in m g).first ≡ s) × ((slot_at m.slots (row_in m g).first).position ≡ x.position)
first-place m g s c x es q h =
    let f : (row_in m g).first ≡ s = h.log.links.0 in
    let e : entry_of (slot_at m.slots s) ∷ entries_of m.slots c ≡ x ∷ es = h.log.held in
    let p : entry_of (slot_at m.slots s) ≡ x = cc in
    (f, ap (λ (t : ℕ). (slot_at m.slots t).position) f ∙ ap (λ (y : Entry). y.position) p)

-- at a slot that stays
stop : (k n : ℕ) (m : Image) (g b s : ℕ) (c : List ℕ) (x : Entry) (es : List Entry) (q : List ℕ) → Chained m g (s ∷ c) (x ∷ es) q → rising_from b (places (x ∷ es)) ≡ true → n ≤ x.position → free_chain (releases (suc k) n m g) ≡ q ++ beside n (s ∷ c) (x ∷ es)
unfolding rising_from beside
stop k n m g b s c x es q h r p =
    let f = first-place m g s c x es q h in
    let none : beside n (s ∷ c) (x ∷ es) ≡ [] =
    ap (λ (z : Bool). cond z (s ∷ beside n c es) (beside n c es)) (le-ltb x.position n p) ∙ none_below n (suc x.position) c es (omega arith) (and_right (leb b x.position) (rising_from (suc x.position) (places es)) r) in
    ap free_chain (releases-stop k n m g (omega (arith, f.1)))
    ∙ chain_links m.slots 0 m.free q h.free
    ∙ sym (ap (λ (l : List ℕ). q ++ l) none ∙ append-nil q)

-- the loop: what is left of the log's chain goes over one by one, until a slot at n or above
run : (k n : ℕ) (m : Image) (g b : ℕ) (c : List ℕ) (es : List Entry) (q : List ℕ) → Chained m g c es q → g < length m.rows → rising_from b (places es) ≡ true → n ≤ last_of (places es) → 1 ≤ n → length c ≤ k
    → free_chain (releases k n m g) ≡ q ++ beside n c es
unfolding rising_from last_of beside
run k n m g b c [] q h g_g r top n1 fuel = absurd (omega arith)
run k n m g b [] (x ∷ es) q h g_g r top n1 fuel = absurd (let z : [] ≡ x ∷ es = h.log.held in let y : ◌≡◌ {A = ℕ} 0 1 = cc in omega arith)
run zero n m g b (s ∷ c) (x ∷ es) q h g_g r top n1 fuel = absurd (omega arith)
run (suc k) n m g b (s ∷ []) (x ∷ []) q h g_g r top n1 fuel = stop k n m g b s [] x [] q h r top
run (suc k) n m g b (s ∷ []) (x ∷ y ∷ es) q h g_g r top n1 fuel =
    absurd (let e : entry_of (slot_at m.slots s) ∷ [] ≡ x ∷ y ∷ es = h.log.held in let z : ◌≡◌ {A = ℕ} 0 1 = cc in omega arith)
run (suc k) n m g b (s ∷ t ∷ c) (x ∷ []) q h g_g r top n1 fuel =
    absurd (let e : entry_of (slot_at m.slots s) ∷ entry_of (slot_at m.slots t) ∷ entries_of m.slots c ≡ x ∷ [] = h.log.held in let z : ◌≡◌ {A = ℕ} 0 1 = cc in omega arith)
run (suc k) n m g b (s ∷ t ∷ c) (x ∷ y ∷ es) q h g_g r top n1 fuel =
    let f = first-place m g s (t ∷ c) x (y ∷ es) q h in
    let h' : Chained m g ((row_in m g).first ∷ t ∷ c) (x ∷ y ∷ es) q = subst (λ (z : ℕ). Chained m g (z ∷ t ∷ c) (x ∷ y ∷ es) q) (sym f.0) h in
    go (leb n x.position) refl f
    (run k n (release m g) g (suc x.position) (t ∷ c) (y ∷ es) (q ++ ((row_in m g).first ∷ [])) (release-chained m g t c x (y ∷ es) q h' g_g) (release-keeps m g g_g).0 (and_right (leb b x.position) (rising_from (suc x.position) (places (y ∷ es))) r) top n1 (omega arith))
  where
    go : (z : Bool) → leb n x.position ≡ z → ((row_in m g).first ≡ s) × ((slot_at m.slots (row_in m g).first).position ≡ x.position)
        → free_chain (releases k n (release m g) g) ≡ (q ++ ((row_in m g).first ∷ [])) ++ beside n (t ∷ c) (y ∷ es) → free_chain (releases (suc k) n m g) ≡ q ++ beside n (s ∷ t ∷ c) (x ∷ y ∷ es)
    go true e f later = stop k n m g b s (t ∷ c) x (y ∷ es) q h r (leb-true n x.position e)
    go false e f later =
        let p = leb-false n x.position e in
        ap free_chain (releases-go k n m g (omega (arith, f.1)))
        ∙ later
        ∙ append_assoc q ((row_in m g).first ∷ []) (beside n (t ∷ c) (y ∷ es))
        ∙ ap (λ (z : ℕ). q ++ (z ∷ beside n (t ∷ c) (y ∷ es))) f.0
        ∙ ap (λ (z : Bool). q ++ cond z (s ∷ beside n (t ∷ c) (y ∷ es)) (beside n (t ∷ c) (y ∷ es))) (sym (lt-ltb x.position n (omega arith)))

module _ (m : Image) (w : whole_image m ≡ true) (g : ℕ) (g_g : g < length m.rows) (n : ℕ) (above : (row_in m g).low < n) (within : n ≤ (row_in m g).high) where
  pub truncate-queue : free_chain (lowered (releases (length m.slots) n m g) g n) ≡ free_chain m ++ below n m.slots (chain m.slots (suc g) (row_in m g).first)
  unfolding lowered entries_in
  truncate-queue =
      let c = chain m.slots (suc g) (row_in m g).first in
      let r = log-chain m (whole-linked m w) g in
      let p = places_of m.slots c in
      run (length m.slots) n m g (row_in m g).low c (entries_in m g) (free_chain m) (whole-chained m w g) g_g (ap (rising_from (row_in m g).low) p ∙ r.rising) (omega (arith, ap last_of p, r.top)) (omega (arith, r.low1)) (links-fit m.slots (suc g) (row_in m g).first c r.links)
      ∙ ap (λ (l : List ℕ). free_chain m ++ l) (sym (below-beside n m.slots c))
