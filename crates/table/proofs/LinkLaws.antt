-- The fuelled walk of the test finds exactly the chains that the conditions speak of.
use Prim.Native.Nat.{ℕ, zero, suc, ◌≤◌}
use mathlib.Core.Path.{◌≡◌, refl, ap}
use mathlib.Core.List.{List, [], ◌∷◌}
use mathlib.Core.Bool.{Bool, true, false}
use mathlib.Core.Option.{Option, none, some, map, none-ne-some}
use native.Mathlib.Omega.{arith}
use borrow.Author.Tests.{eqb-true, eqb-false, leb-true, eq-eqb, ne_eqb, le-leb}
use lib.Dec.{eqb, leb}
use lib.ListN.{length}
use Rattle.layout.specs.Image.{Slot, slot_at}
use Rattle.table.specs.Chains.{walk, reaches, chain, last_of}
use Rattle.table.specs.Conditions.{Links}
use Rattle.table.proofs.WalkLaws.{reached, slots_met}

module _ (slots : List Slot) (o : ℕ) where
  pub walk-links : (fuel s : ℕ) (c : List ℕ) → Links slots o s c 0 → length c ≤ fuel → walk slots o fuel s ≡ some c
  unfolding walk
  walk-links zero s [] h le = rw (eq-eqb s 0 h, walk)
  walk-links (suc fuel) s [] h le = rw (eq-eqb s 0 h, walk)
  walk-links zero s (t ∷ c) h le = absurd (omega arith)
  walk-links (suc fuel) s (t ∷ c) h le =
      let e : s ≡ t = h.0 in
      let ih : walk slots o fuel (slot_at slots t).next ≡ some c = walk-links fuel (slot_at slots t).next c h.4 (omega arith) in
      rw (ne_eqb s 0 (λ (z : s ≡ 0). let h1 = h.1 in omega arith), walk)
      (rw (le-leb s (length slots) (rw e h.2), eq-eqb (slot_at slots s).owner o (rw e h.3))
      (rw (e, ih)))

  pub links-walk : (fuel s : ℕ) (c : List ℕ) → walk slots o fuel s ≡ some c → Links slots o s c 0
  unfolding walk
  links-walk zero s c h = go (eqb s 0) refl
    where
      go : (b : Bool) → eqb s 0 ≡ b → Links slots o s c 0
      go true e =
          let q : some [] ≡ some c = rw (e, walk) at h in
          let r : [] ≡ c = cc in
          rw (← r) (eqb-true s 0 e)
      go false e =
          let q : none ≡ some c = rw (e, walk) at h in
          absurd (none-ne-some c q)
  links-walk (suc fuel) s c h = go (λ (d : List ℕ) (e : walk slots o fuel (slot_at slots s).next ≡ some d). links-walk fuel (slot_at slots s).next d e) (eqb s 0) refl
    where
      Below : Type 0
      Below = (d : List ℕ) → walk slots o fuel (slot_at slots s).next ≡ some d → Links slots o (slot_at slots s).next d 0

      rest : Below → (w : Option (List ℕ)) → walk slots o fuel (slot_at slots s).next ≡ w → eqb s 0 ≡ false → leb s (length slots) ≡ true → eqb (slot_at slots s).owner o ≡ true → map (λ (d : List ℕ). s ∷ d) w ≡ some c → Links slots o s c 0
      rest b none e n l w q = absurd (none-ne-some c q)
      rest b (some d) e n l w q =
          let r : s ∷ d ≡ c = cc in
          let pos : 1 ≤ s = omega (arith, eqb-false s 0 n) in
          rw (← r) (refl, pos, leb-true s (length slots) l, eqb-true (slot_at slots s).owner o w, b d e)

      own : Below → (b : Bool) → eqb (slot_at slots s).owner o ≡ b → eqb s 0 ≡ false → leb s (length slots) ≡ true → Links slots o s c 0
      own b true w n l = rest b (walk slots o fuel (slot_at slots s).next) refl n l w (rw (n, walk, l, w) at h)
      own b false w n l = absurd (none-ne-some c (rw (n, walk, l, w) at h))

      inside : Below → (b : Bool) → leb s (length slots) ≡ b → eqb s 0 ≡ false → Links slots o s c 0
      inside b true l n = own b (eqb (slot_at slots s).owner o) refl n l
      inside b false l n = absurd (none-ne-some c (rw (n, walk, l) at h))

      go : Below → (b : Bool) → eqb s 0 ≡ b → Links slots o s c 0
      go b true e =
          let q : some [] ≡ some c = rw (e, walk) at h in
          let r : [] ≡ c = cc in
          rw (← r) (eqb-true s 0 e)
      go b false e = inside b (leb s (length slots)) refl e

  -- a chain that is no longer than the table is the test's
  pub links-reach : (s : ℕ) (c : List ℕ) → Links slots o s c 0 → length c ≤ length slots → (reaches slots o s ≡ true) × (chain slots o s ≡ c)
  unfolding reaches chain
  links-reach s c h l = let e = walk-links (length slots) s c h l in (ap reached e, ap slots_met e)

  -- and the test's chain is one
  pub reach-links : (s : ℕ) → reaches slots o s ≡ true → Links slots o s (chain slots o s) 0
  unfolding reaches chain
  reach-links s h = go (walk slots o (length slots) s) refl h
    where
      go : (w : Option (List ℕ)) → walk slots o (length slots) s ≡ w → reached w ≡ true → Links slots o s (slots_met w) 0
      go none e h = absurd (let z : ◌≡◌ {A = ℕ} 0 1 = cc in omega arith)
      go (some c) e h = links-walk (length slots) s c e

  -- the last slot of a chain stands in the table, or is 0
  pub links-within : (s : ℕ) (c : List ℕ) → Links slots o s c 0 → last_of c ≤ length slots
  unfolding last_of
  links-within s [] h = omega arith
  links-within s (t ∷ []) h = h.2
  links-within s (t ∷ u ∷ c) h = links-within (slot_at slots t).next (u ∷ c) h.4

  pub chain-within : (s : ℕ) → last_of (chain slots o s) ≤ length slots
  unfolding chain last_of
  chain-within s = go (walk slots o (length slots) s) refl
    where
      go : (w : Option (List ℕ)) → walk slots o (length slots) s ≡ w → last_of (slots_met w) ≤ length slots
      go none e = omega arith
      go (some c) e = links-within s c (links-walk (length slots) s c e)
