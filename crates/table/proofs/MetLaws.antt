-- Where an image's chains are in order, they meet every slot: no slot twice, and as many as there are. So every slot's owner is 0 or that of a log.
use Prim.Native.Nat.{ℕ, suc, ◌+◌, ◌≤◌, ◌<◌}
use mathlib.Core.Path.{◌≡◌, refl, sym, subst}
use mathlib.Core.Logic.{◌⊎◌, inl, inr}
use mathlib.Core.List.{List, [], ◌∷◌, ◌++◌}
use mathlib.Core.Bool.{true, ◌&&◌}
use native.Mathlib.Omega.{arith}
use native.Mathlib.Decide.{ℕ_discrete}
use lib.Dec.{eqb}
use lib.ListN.{length}
use borrow.Author.Tests.{eqb-true}
use Rattle.layout.specs.declared.Row.{Row}
use Rattle.layout.specs.Image.{Slot, Image, slot_at}
use Rattle.layout.proofs.TestLaws.{and_split}
use Rattle.table.specs.Chains.{chain, reaches}
use Rattle.table.specs.Conditions.{Links, Fresh, Started}
use Rattle.table.specs.WholeImage.{free_ok, row_ok, rows_ok, held_by, meets, linked}
use Rattle.table.proofs.LinkLaws.{reach-links}
use Rattle.table.proofs.Lists.{In, in-cases, Distinct, pigeon}
use Rattle.table.proofs.Links.{links-in, links-distinct}
use Rattle.table.proofs.ConditionLaws.{row-conditions}

-- ---- numbers from 1 to S

in-dec : (s : ℕ) (c : List ℕ) → Dec (In s c)
in-dec s [] = no (λ (e : ⊥). e)
in-dec s (x ∷ c) = go (ℕ_discrete s x) (in-dec s c)
  where
    go : Dec (s ≡ x) → Dec (In s c) → Dec (In s (x ∷ c))
    go (yes e) d = yes (inl e)
    go (no n) (yes m) = yes (inr m)
    go (no n) (no k) = no neither
      where
        neither : In s (x ∷ c) → ⊥
        neither (inl e) = n e
        neither (inr m) = k m

-- S distinct numbers from 1 to S are all of them
every : (S : ℕ) (c : List ℕ) → Distinct c → ((x : ℕ) → In x c → (1 ≤ x) × (x ≤ S)) → length c ≡ S → (s : ℕ) → 1 ≤ s → s ≤ S → In s c
every S c d h l s s1 s_s = go (in-dec s c)
  where
    zero-out : In 0 c → ⊥
    zero-out m = let q = (h 0 m).0 in omega arith

    out : In 0 (s ∷ c) → ⊥
    out (inl e) = omega arith
    out (inr m) = zero-out m

    bound : (x : ℕ) → In x (0 ∷ s ∷ c) → x < suc S
    bound x (inl e) = omega arith
    bound x (inr (inl e)) = omega arith
    bound x (inr (inr m)) = let q = (h x m).1 in omega arith

    go : Dec (In s c) → In s c
    go (yes m) = m
    go (no n) = absurd (let q = pigeon (suc S) (0 ∷ s ∷ c) (out, (n, d)) bound in omega arith)

distinct_append : (c d : List ℕ) → Distinct c → Distinct d → ((x : ℕ) → In x c → In x d → ⊥) → Distinct (c ++ d)
distinct_append [] d p q h = q
distinct_append (x ∷ c) d p q h = (apart, distinct_append c d p.1 q (λ (y : ℕ) (m : In y c) (n : In y d). h y (inr m) n))
  where
    go : In x c ⊎ In x d → ⊥
    go (inl m) = p.0 m
    go (inr m) = h x (inl refl) m

    apart : In x (c ++ d) → ⊥
    apart m = go (in-cases x c d m)

-- ---- the logs' chains

module _ (slots : List Slot) where
  -- a row's chain, fresh or not
  row-links : (g : ℕ) (r : Row) → row_ok slots g r ≡ true → Links slots (suc g) r.first (chain slots (suc g) r.first) 0
  row-links g r h = go (row-conditions slots g r h)
    where
      go : Fresh r (chain slots (suc g) r.first) ⊎ Started slots g r (chain slots (suc g) r.first) → Links slots (suc g) r.first (chain slots (suc g) r.first) 0
      go (inl f) = subst (λ (c : List ℕ). Links slots (suc g) r.first c 0) (sym f.empty) f.first
      go (inr k) = k.own

  -- their slots, and whose these are
  held_in : (g : ℕ) (rs : List Row) → rows_ok slots g rs ≡ true → (s : ℕ) → In s (held_by slots g rs)
      → (1 ≤ s) × (s ≤ length slots) × (suc g ≤ (slot_at slots s).owner) × ((slot_at slots s).owner ≤ g + length rs)
  unfolding rows_ok held_by
  held_in g (r ∷ rs) h s m =
      let t = and_split (row_ok slots g r) (rows_ok slots (suc g) rs) h in
      go (row-links g r t.0) (in-cases s (chain slots (suc g) r.first) (held_by slots (suc g) rs) m) (held_in (suc g) rs t.1 s)
    where
      go : Links slots (suc g) r.first (chain slots (suc g) r.first) 0 → In s (chain slots (suc g) r.first) ⊎ In s (held_by slots (suc g) rs)
          → (In s (held_by slots (suc g) rs) → (1 ≤ s) × (s ≤ length slots) × (suc (suc g) ≤ (slot_at slots s).owner) × ((slot_at slots s).owner ≤ suc g + length rs))
          → (1 ≤ s) × (s ≤ length slots) × (suc g ≤ (slot_at slots s).owner) × ((slot_at slots s).owner ≤ g + suc (length rs))
      go here (inl q) below =
          let k = links-in slots (suc g) r.first (chain slots (suc g) r.first) 0 s here q in
          let o : (slot_at slots s).owner ≡ suc g = k.2 in
          (k.0, k.1, omega arith, omega arith)
      go here (inr q) below =
          let k = below q in
          let o : suc (suc g) ≤ (slot_at slots s).owner = k.2 in
          let p : (slot_at slots s).owner ≤ suc g + length rs = k.3 in
          (k.0, k.1, omega arith, omega arith)
  held_in g [] h s m = elim m [ ]

  held-distinct : (g : ℕ) (rs : List Row) → rows_ok slots g rs ≡ true → Distinct (held_by slots g rs)
  unfolding rows_ok held_by
  held-distinct g [] h = tt
  held-distinct g (r ∷ rs) h =
      let t = and_split (row_ok slots g r) (rows_ok slots (suc g) rs) h in
      let here : Links slots (suc g) r.first (chain slots (suc g) r.first) 0 = row-links g r t.0 in
      distinct_append (chain slots (suc g) r.first) (held_by slots (suc g) rs) (links-distinct slots (suc g) r.first (chain slots (suc g) r.first) here) (held-distinct (suc g) rs t.1)
      (λ (x : ℕ) (m : In x (chain slots (suc g) r.first)) (n : In x (held_by slots (suc g) rs)).
      let p : (slot_at slots x).owner ≡ suc g = (links-in slots (suc g) r.first (chain slots (suc g) r.first) 0 x here m).2 in
      let q : suc (suc g) ≤ (slot_at slots x).owner = (held_in (suc g) rs t.1 x n).2 in
      omega arith)

-- ---- all chains

module _ (m : Image) (w : linked m ≡ true) where
  free-links : Links m.slots 0 m.free (chain m.slots 0 m.free) 0
  unfolding free_ok
  free-links =
      let t = and_split (free_ok m && rows_ok m.slots 0 m.rows) (eqb (length (meets m)) (length m.slots)) w in
      let u = and_split (free_ok m) (rows_ok m.slots 0 m.rows) t.0 in
      reach-links m.slots 0 m.free (and_split (reaches m.slots 0 m.free) _ u.0).0

  rows : rows_ok m.slots 0 m.rows ≡ true
  rows =
      let t = and_split (free_ok m && rows_ok m.slots 0 m.rows) (eqb (length (meets m)) (length m.slots)) w in
      (and_split (free_ok m) (rows_ok m.slots 0 m.rows) t.0).1

  -- no slot twice
  pub meets-distinct : Distinct (meets m)
  unfolding meets
  meets-distinct =
      distinct_append (chain m.slots 0 m.free) (held_by m.slots 0 m.rows) (links-distinct m.slots 0 m.free (chain m.slots 0 m.free) free-links) (held-distinct m.slots 0 m.rows rows)
      (λ (x : ℕ) (p : In x (chain m.slots 0 m.free)) (q : In x (held_by m.slots 0 m.rows)).
      let o : (slot_at m.slots x).owner ≡ 0 = (links-in m.slots 0 m.free (chain m.slots 0 m.free) 0 x free-links p).2 in
      let k : 1 ≤ (slot_at m.slots x).owner = (held_in m.slots 0 m.rows rows x q).2 in
      omega arith)

  meets-in : (x : ℕ) → In x (meets m) → (1 ≤ x) × (x ≤ length m.slots) × ((slot_at m.slots x).owner ≤ length m.rows)
  unfolding meets
  meets-in x p = go (in-cases x (chain m.slots 0 m.free) (held_by m.slots 0 m.rows) p)
    where
      go : In x (chain m.slots 0 m.free) ⊎ In x (held_by m.slots 0 m.rows) → (1 ≤ x) × (x ≤ length m.slots) × ((slot_at m.slots x).owner ≤ length m.rows)
      go (inl q) =
          let k = links-in m.slots 0 m.free (chain m.slots 0 m.free) 0 x free-links q in
          let o : (slot_at m.slots x).owner ≡ 0 = k.2 in
          (k.0, k.1, omega arith)
      go (inr q) =
          let k = held_in m.slots 0 m.rows rows x q in
          let o : (slot_at m.slots x).owner ≤ 0 + length m.rows = k.3 in
          (k.0, k.1, omega arith)

  -- every slot of the table
  pub meets-every : (s : ℕ) → 1 ≤ s → s ≤ length m.slots → In s (meets m)
  meets-every =
      every (length m.slots) (meets m) meets-distinct (λ x p. let k = meets-in x p in (k.0, k.1))
      (eqb-true (length (meets m)) (length m.slots) (and_split (free_ok m && rows_ok m.slots 0 m.rows) (eqb (length (meets m)) (length m.slots)) w).1)

  -- and its owner
  pub owners-most : (s : ℕ) → 1 ≤ s → s ≤ length m.slots → (slot_at m.slots s).owner ≤ length m.rows
  owners-most s h k = (meets-in s (meets-every s h k)).2
