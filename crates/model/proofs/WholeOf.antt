-- An image that says a sound model has its chains in order; where the slots promised are there, it is whole.
use Prim.Native.Nat.{ℕ, suc, ◌+◌}
use mathlib.Core.Path.{◌≡◌, refl, sym, ap, ap₂, ◌∙◌}
use mathlib.Core.List.{List, [], ◌∷◌, cons≢nil, tail-eq_of_cons-eq, head-eq_of_cons-eq}
use mathlib.Core.Bool.{true, ◌&&◌}
use native.Mathlib.Omega.{arith}
use native.Mathlib.Nat.{zero-add, add-zero, add-suc, suc-add}
use native.Mathlib.Decide.{ℕ_discrete}
use lib.ListN.{length, length-append, replicate}
use lib.Dec.{eqb}
use borrow.Author.Tests.{eqb-true, eq-eqb, le-leb}
use Rattle.octets.specs.Octets.{same, zeros}
use Rattle.octets.proofs.Tests.{and_left, and_right, and_both, or_right}
use Rattle.octets.proofs.Same.{same-eq, same_refl}
use Rattle.layout.specs.declared.Row.{Row}
use Rattle.layout.specs.Image.{Entry, Slot, Image, entry_of, blank_entry, slot_at, row_at}
use Rattle.table.specs.Chains.{chain, last_of, entries_of}
use Rattle.table.specs.WholeImage.{all, free_ok, fresh, started, row_ok, rows_ok, held_by, meets, linked, whole_image}
use Rattle.layout.specs.Tests.{blank}
use Rattle.table.proofs.Lists.{last_of-nil}
use Rattle.table.specs.Conditions.{Links}
use Rattle.table.proofs.Links.{chain_links, reaches_links}
use Rattle.model.specs.Log.{Log}
use Rattle.model.specs.Model.{Model, log_at, total}
use Rattle.model.proofs.Represents.{Rep, RowRep, LogOk, Sound}
use Rattle.model.proofs.Reading.{row-length, row-chain, free-chain}
use Rattle.model.proofs.Backed.{Backed}
use Rattle.model.proofs.Lacking.{enough-of}
use Rattle.model.proofs.Positions.{positions, positions-of, rising-of, last-position, ok-empty, ok-low}

-- ---- blank slots

pub blank_of : (s : Slot) → entry_of s ≡ blank_entry → blank s ≡ true
unfolding blank
blank_of s h =
    and_both _ _ (and_both _ _ (eq-eqb s.position 0 (ap (λ (e : Entry). e.position) h)) (rw (ap (λ (e : Entry). e.value) h) (same_refl (zeros 32))))
    (rw (ap (λ (e : Entry). e.digest) h) (same_refl (zeros 32)))

pub of-blank : (s : Slot) → blank s ≡ true → entry_of s ≡ blank_entry
unfolding blank
of-blank s h =
    let pv = and_left (eqb s.position 0 && same s.value (zeros 32)) (same s.digest (zeros 32)) h in
    let p : s.position ≡ 0 = eqb-true s.position 0 (and_left (eqb s.position 0) (same s.value (zeros 32)) pv) in
    let v : s.value ≡ (zeros 32) = same-eq s.value (zeros 32) (and_right (eqb s.position 0) (same s.value (zeros 32)) pv) in
    let d : s.digest ≡ (zeros 32) = same-eq s.digest (zeros 32) (and_right (eqb s.position 0 && same s.value (zeros 32)) (same s.digest (zeros 32)) h) in
    λ i. record { position = p i; value = v i; digest = d i }

pub blanks-of : (slots : List Slot) (q : List ℕ) → entries_of slots q ≡ replicate (length q) blank_entry → all (λ (s : ℕ). blank (slot_at slots s)) q ≡ true
unfolding all
blanks-of slots [] h = refl
blanks-of slots (t ∷ q) h = and_both _ _ (blank_of (slot_at slots t) (head-eq_of_cons-eq h)) (blanks-of slots q (tail-eq_of_cons-eq h))

pub of-blanks : (slots : List Slot) (q : List ℕ) → all (λ (s : ℕ). blank (slot_at slots s)) q ≡ true → entries_of slots q ≡ replicate (length q) blank_entry
unfolding all
of-blanks slots [] h = refl
of-blanks slots (t ∷ q) h =
    ap₂ {C = List Entry} (λ (a : Entry) (l : List Entry). a ∷ l) (of-blank (slot_at slots t) (and_left (blank (slot_at slots t)) (all (λ (s : ℕ). blank (slot_at slots s)) q) h))
    (of-blanks slots q (and_right (blank (slot_at slots t)) (all (λ (s : ℕ). blank (slot_at slots s)) q) h))

-- ---- rows

module _ (slots : List Slot) (g : ℕ) (r : Row) (l : Log) (W : RowRep slots g r l) (ok : LogOk l) where
  row-ok : row_ok slots g r ≡ true
  unfolding row_ok fresh started
  row-ok = go (ℕ_discrete l.high 0)
    where
      is-chain : chain slots (suc g) r.first ≡ W.chain
      is-chain = chain_links slots (suc g) r.first W.chain W.holds.links

      empty : (c : List ℕ) → entries_of slots c ≡ [] → Links slots (suc g) r.first c 0 → r.last ≡ last_of c → (r.first ≡ 0) × (r.last ≡ 0)
      empty [] e h k = (h, k ∙ last_of-nil)
      empty (t ∷ c) e h k = absurd (cons≢nil e)

      go : Dec (l.high ≡ 0) → row_ok slots g r ≡ true
      go (yes z) =
          let e : l.entries ≡ [] = ok-empty l ok z in
          let f = empty W.chain (W.holds.held ∙ e) W.holds.links W.last in
          rw (row_ok, fresh, eq-eqb r.low 1 (W.low ∙ ok.fresh z), eq-eqb r.high 0 (W.high ∙ z), eq-eqb r.first 0 f.0, eq-eqb r.last 0 f.1)
      go (no n) =
          or_right (fresh r) _
          (and_both _ _ (reaches_links slots (suc g) r.first W.chain W.holds.links)
          (rw (is-chain, positions-of slots W.chain, W.holds.held)
          (and_both _ _ (and_both _ _ (and_both _ _ (and_both _ _ (le-leb 1 r.low (rw W.low ok.low1)) (le-leb r.low r.high (rw (W.low, W.high) (ok-low l ok n)))) (rw W.low (rising-of l.low l.entries ok.rising)))
          (eq-eqb (last_of (positions l.entries)) r.high (last-position l.entries ∙ ok.top ∙ sym W.high)))
          (eq-eqb (last_of W.chain) r.last (sym W.last)))))

pub rows_ok_lem : (slots : List Slot) (g : ℕ) (rs : List Row) → ((i : ℕ) → row_ok slots (g + i) (row_at rs i) ≡ true) → rows_ok slots g rs ≡ true
unfolding rows_ok
rows_ok_lem slots g [] h = refl
rows_ok_lem slots g (r ∷ rs) h = and_both _ _ (rw add-zero at (h 0)) (rows_ok_lem slots (suc g) rs (λ (i : ℕ). rw (add-suc, ← suc-add) at (h (suc i))))

pub held-length : (slots : List Slot) (g : ℕ) (rs : List Row) (ls : List Log) → length rs ≡ length ls → ((i : ℕ) → length (chain slots (suc (g + i)) (row_at rs i).first) ≡ length (log_at ls i).entries) → length (held_by slots g rs) ≡ total ls
unfolding held_by total
held-length slots g [] [] e h = refl
held-length slots g [] (l ∷ ls) e h = absurd (omega arith)
held-length slots g (r ∷ rs) [] e h = absurd (omega arith)
held-length slots g (r ∷ rs) (l ∷ ls) e h =
    length-append (chain slots (suc g) r.first) (held_by slots (suc g) rs)
    ∙ ap₂ (λ (x y : ℕ). x + y) (rw add-zero at (h 0)) (held-length slots (suc g) rs ls (omega arith) (λ (i : ℕ). rw (add-suc, ← suc-add) at (h (suc i))))

pub meets-length : (m : Image) (b : Model) → Rep m b → length (meets m) ≡ length m.slots
unfolding meets
meets-length m b R =
    length-append (chain m.slots 0 m.free) (held_by m.slots 0 m.rows)
    ∙ ap₂ (λ (x y : ℕ). x + y) (ap length (free-chain m b R))
    (held-length m.slots 0 m.rows b.logs R.count (λ (i : ℕ). rw zero-add (ap length (row-chain m b R i) ∙ row-length m b R i)))
    ∙ R.sum

pub linked_of : (m : Image) (b : Model) → Rep m b → Sound b → linked m ≡ true
unfolding free_ok
linked_of m b R ok =
    and_both _ _
    (and_both _ _
    (and_both _ _ (reaches_links m.slots 0 m.free R.queue R.free.links) (rw (free-chain m b R) (blanks-of m.slots R.queue R.free.held)))
    (rows_ok_lem m.slots 0 m.rows (λ (i : ℕ). rw zero-add (row-ok m.slots i (row_at m.rows i) (log_at b.logs i) (R.rows i) (ok i)))))
    (eq-eqb (length (meets m)) (length m.slots) (meets-length m b R))

pub whole_of : (m : Image) (b : Model) → Rep m b → Sound b → Backed b → whole_image m ≡ true
unfolding whole_image
whole_of m b R ok k = and_both (linked m) _ (linked_of m b R ok) (enough-of m b R k)
