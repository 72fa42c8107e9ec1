-- What an image that says a model computes to: its chains, its logs, whether a log is empty, whether the pool is full.
use Prim.Native.Nat.{ℕ, zero, suc, ◌+◌, ◌≤◌, ◌<◌}
use mathlib.Core.Path.{◌≡◌, refl, sym, ap, ◌∙◌}
use mathlib.Core.Logic.{inl, ◌≢◌}
use mathlib.Core.List.{List, [], ◌∷◌, ◌++◌, map}
use mathlib.Core.Bool.{false}
use native.Mathlib.Omega.{arith}
use native.Mathlib.Decide.{ℕ_discrete}
use lib.ListN.{length, set, length-map}
use lib.Seq.{get_or-set_same, get_or-set_other}
use lib.Dec.{eqb}
use borrow.Author.Tests.{eq-eqb, ne_eqb}
use Rattle.layout.specs.declared.Row.{Row}
use Rattle.layout.specs.Image.{Entry, Slot, Image, entry_of, slot_at, row_at, fresh_row}
use Rattle.table.specs.Chains.{chain, last_of, entries_of}
use Rattle.a2m.specs.ImageCalls.{row_in, entries_in}
use Rattle.table.proofs.Lists.{in_right, Snoc, snoc, ending, last_of-nil, last_of_snoc, map-append}
use Rattle.table.specs.Conditions.{Links}
use Rattle.table.proofs.Links.{Holds, links-in, chain_links}
use Rattle.model.specs.Log.{Log, fresh_log, last_entry}
use Rattle.model.specs.Model.{Model, log_at, total, is_nil}
use Rattle.model.proofs.Represents.{Rep, RowRep}

-- ---- lists of logs

pub total-set : (logs : List Log) (g : ℕ) (l : Log) → g < length logs → total (set logs g l) + length (log_at logs g).entries ≡ total logs + length l.entries
unfolding total
total-set [] g l h = absurd (omega arith)
total-set (k ∷ logs) zero l h = omega arith
total-set (k ∷ logs) (suc g) l h =
    let ih = total-set logs g l (omega arith) in
    omega arith

pub total-at : (logs : List Log) (g : ℕ) → length (log_at logs g).entries ≤ total logs
unfolding total
total-at [] g = omega arith
total-at (k ∷ logs) zero = omega arith
total-at (k ∷ logs) (suc g) = let ih = total-at logs g in omega arith

-- ---- chains

module _ (m : Image) (b : Model) (R : Rep m b) where
  pub row-length : (g : ℕ) → length (R.rows g).chain ≡ length (log_at b.logs g).entries
  row-length g = sym (length-map (R.rows g).chain (λ (s : ℕ). entry_of (slot_at m.slots s))) ∙ ap length (R.rows g).holds.held

  pub free-chain : chain m.slots 0 m.free ≡ R.queue
  free-chain = chain_links m.slots 0 m.free R.queue R.free.links

  pub row-chain : (g : ℕ) → chain m.slots (suc g) (row_in m g).first ≡ (R.rows g).chain
  row-chain g = chain_links m.slots (suc g) (row_in m g).first (R.rows g).chain (R.rows g).holds.links

  pub entries-are : (g : ℕ) → entries_in m g ≡ (log_at b.logs g).entries
  unfolding entries_in
  entries-are g = ap (entries_of m.slots) (row-chain g) ∙ (R.rows g).holds.held

-- ---- empty logs and a full pool

pub is_nil-snoc : {A : Type 0} (c : List A) (z : A) → is_nil (c ++ (z ∷ [])) ≡ false
unfolding is_nil
is_nil-snoc [] z = refl
is_nil-snoc (x ∷ c) z = refl

pub is_nil-map : {A B : Type 0} (f : A → B) (c : List A) → is_nil (map f c) ≡ is_nil c
unfolding is_nil
is_nil-map f [] = refl
is_nil-map f (x ∷ c) = refl

pub last-pos : (slots : List Slot) (o s : ℕ) (c : List ℕ) → Links slots o s c 0 → eqb (last_of c) 0 ≡ is_nil c
unfolding is_nil
last-pos slots o s c h = go c (snoc c) h
  where
    go : (d : List ℕ) → Snoc d → Links slots o s d 0 → eqb (last_of d) 0 ≡ is_nil d
    go d Snoc.nothing k = rw last_of-nil
    go d (ending e z) k =
        let z1 : 1 ≤ z = (links-in slots o s (e ++ (z ∷ [])) 0 z k (in_right z e (z ∷ []) (inl refl))).0 in
        rw (last_of_snoc e z, ne_eqb z 0 (λ (q : z ≡ 0). omega arith)) (sym (is_nil-snoc e z))

pub last_entry-snoc : (es : List Entry) (e : Entry) → last_entry (es ++ (e ∷ [])) ≡ e
unfolding last_entry
last_entry-snoc [] e = refl
last_entry-snoc (x ∷ []) e = refl
last_entry-snoc (x ∷ y ∷ es) e = last_entry-snoc (y ∷ es) e

module _ (m : Image) (b : Model) (R : Rep m b) where
  pub empty-is : (g : ℕ) → eqb (row_in m g).last 0 ≡ is_nil (log_at b.logs g).entries
  empty-is g =
      let w = R.rows g in
      ap (λ (x : ℕ). eqb x 0) w.last ∙ last-pos m.slots (suc g) (row_in m g).first w.chain w.holds.links ∙ sym (is_nil-map (λ (s : ℕ). entry_of (slot_at m.slots s)) w.chain) ∙ ap is_nil w.holds.held

  pub full_is : eqb m.free 0 ≡ eqb (total b.logs) b.size
  full_is = go R.queue R.free.links R.sum
    where
      go : (q : List ℕ) → Links m.slots 0 m.free q 0 → length q + total b.logs ≡ length m.slots → eqb m.free 0 ≡ eqb (total b.logs) b.size
      go [] h k = let z = R.size in rw (eq-eqb m.free 0 h, eq-eqb (total b.logs) b.size (omega arith))
      go (t ∷ q) h k =
          let z = R.size in
          let h0 = h.0 in
          let h1 = h.1 in
          rw (ne_eqb m.free 0 (λ (e : m.free ≡ 0). omega arith), ne_eqb (total b.logs) b.size (λ (e : total b.logs ≡ b.size). omega arith))

  -- the entry in the log's last slot; slot 0 is blank
  pub last-is : (g : ℕ) → entry_of (slot_at m.slots (row_in m g).last) ≡ last_entry (log_at b.logs g).entries
  unfolding last_entry slot_at
  last-is g = go (R.rows g).chain (snoc (R.rows g).chain) (R.rows g).last (R.rows g).holds
    where
      go : (c : List ℕ) → Snoc c → (row_in m g).last ≡ last_of c → Holds m.slots (suc g) (row_in m g).first c (log_at b.logs g).entries → entry_of (slot_at m.slots (row_in m g).last) ≡ last_entry (log_at b.logs g).entries
      go c Snoc.nothing l h = ap (λ (z : ℕ). entry_of (slot_at m.slots z)) (l ∙ last_of-nil) ∙ ap last_entry h.held
      go c (ending e z) l h =
          ap (λ (y : ℕ). entry_of (slot_at m.slots y)) (l ∙ last_of_snoc e z)
          ∙ sym (last_entry-snoc (entries_of m.slots e) (entry_of (slot_at m.slots z)))
          ∙ ap last_entry (sym (map-append (λ (s : ℕ). entry_of (slot_at m.slots s)) e (z ∷ [])) ∙ h.held)

-- ---- one row of many

pub rows-set : (slots : List Slot) (rows : List Row) (logs : List Log) (g : ℕ) (r : Row) (l : Log) → g < length rows → g < length logs → ((k : ℕ) → k ≢ g → RowRep slots k (row_at rows k) (log_at logs k)) → RowRep slots g r l → (k : ℕ) → RowRep slots k (row_at (set rows g r) k) (log_at (set logs g l) k)
rows-set slots rows logs g r l gr gl others this k = go (ℕ_discrete k g)
  where
    go : Dec (k ≡ g) → RowRep slots k (row_at (set rows g r) k) (log_at (set logs g l) k)
    go (yes e) = rw (e, get_or-set_same rows g r (fresh_row 0) gr, get_or-set_same logs g l (fresh_log 0) gl) this
    go (no n) = rw (get_or-set_other rows g k r (fresh_row 0) n, get_or-set_other logs g k l (fresh_log 0) n) (others k n)
