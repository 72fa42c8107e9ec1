-- Chains of slots: split and joined, no slot twice, as they were where their slots are.
use Prim.Native.Nat.{ℕ, zero, suc, ◌≤◌, ◌<◌}
use mathlib.Core.Path.{◌≡◌, refl, sym, ap, ap₂, subst, ◌∙◌}
use mathlib.Core.Logic.{inl, inr, ◌≢◌}
use mathlib.Core.List.{List, [], ◌∷◌, ◌++◌}
use mathlib.Core.Bool.{true}
use native.Mathlib.Omega.{arith}
use lib.ListN.{length, length-set}
use lib.Seq.{get_or-set_same, get_or-set_other}
use Rattle.layout.specs.Image.{Entry, Slot, entry_of, slot_at, set_slot, free_slot}
use Rattle.table.specs.Chains.{chain, reaches, entries_of}
use Rattle.table.specs.Conditions.{Links}
use Rattle.table.proofs.LinkLaws.{links-reach}
use Rattle.table.proofs.Lists.{In, Distinct, pigeon}

-- ---- one slot

pub slot_at-same : (slots : List Slot) (t : ℕ) (x : Slot) → 1 ≤ t → t ≤ length slots → slot_at (set_slot slots t x) t ≡ x
unfolding slot_at set_slot
slot_at-same slots zero x h k = absurd (omega arith)
slot_at-same slots (suc i) x h k = get_or-set_same slots i x (free_slot 0) (omega arith)

pub slot_at-other : (slots : List Slot) (s t : ℕ) (x : Slot) → s ≢ t → slot_at (set_slot slots t x) s ≡ slot_at slots s
unfolding slot_at set_slot
slot_at-other slots s zero x n = refl
slot_at-other slots zero (suc j) x n = refl
slot_at-other slots (suc i) (suc j) x n = get_or-set_other slots j i x (free_slot 0) (λ (e : i ≡ j). n (ap suc e))

pub length-set_slot : (slots : List Slot) (t : ℕ) (x : Slot) → length (set_slot slots t x) ≡ length slots
unfolding set_slot
length-set_slot slots zero x = refl
length-set_slot slots (suc i) x = length-set slots i x

-- ---- chains

module _ (slots : List Slot) (o : ℕ) where
  pub links-split : (s : ℕ) (c d : List ℕ) (e : ℕ) → Links slots o s (c ++ d) e → (m : ℕ) × Links slots o s c m × Links slots o m d e
  links-split s [] d e h = (s, refl, h)
  links-split s (t ∷ c) d e h =
      let r = links-split (slot_at slots t).next c d e h.4 in
      (r.0, (h.0, h.1, h.2, h.3, r.1), r.2)

  pub links-join : (s : ℕ) (c d : List ℕ) (m e : ℕ) → Links slots o s c m → Links slots o m d e → Links slots o s (c ++ d) e
  links-join s [] d m e h k = subst (λ (x : ℕ). Links slots o x d e) (sym h) k
  links-join s (t ∷ c) d m e h k = (h.0, h.1, h.2, h.3, links-join (slot_at slots t).next c d m e h.4 k)

  -- a slot of a chain lies in the table and has the chain's owner
  pub links-in : (s : ℕ) (c : List ℕ) (e t : ℕ) → Links slots o s c e → In t c → (1 ≤ t) × (t ≤ length slots) × ((slot_at slots t).owner ≡ o)
  links-in s (u ∷ c) e t h (inl p) = (rw p h.1, rw p h.2, rw p h.3)
  links-in s (u ∷ c) e t h (inr m) = links-in (slot_at slots u).next c e t h.4 m
  links-in s [] e t h x'' = elim x'' [ ]

  -- from one slot there is one chain
  pub links-unique : (s : ℕ) (c d : List ℕ) → Links slots o s c 0 → Links slots o s d 0 → c ≡ d
  links-unique s [] [] h k = refl
  links-unique s [] (u ∷ d) h k = absurd (let k0 = k.0 in let k1 = k.1 in omega arith)
  links-unique s (t ∷ c) [] h k = absurd (let h0 = h.0 in let h1 = h.1 in omega arith)
  links-unique s (t ∷ c) (u ∷ d) h k =
      let p : t ≡ u = sym h.0 ∙ k.0 in
      let q : c ≡ d = links-unique (slot_at slots t).next c d h.4 (rw p k.4) in
      cc

  -- the chain from one of its slots is no longer
  pub links-from : (s : ℕ) (c : List ℕ) (t : ℕ) → Links slots o s c 0 → In t c → (d : List ℕ) × Links slots o t d 0 × (length d ≤ length c)
  links-from s (u ∷ c) t h (inl p) = (u ∷ c, (p, h.1, h.2, h.3, h.4), omega arith)
  links-from s (u ∷ c) t h (inr m) =
      let r = links-from (slot_at slots u).next c t h.4 m in
      let le : length r.0 ≤ length c = r.2 in
      (r.0, r.1, omega arith)
  links-from s [] t h x'' = elim x'' [ ]

  -- a chain that reaches 0 meets no slot twice
  pub links-distinct : (s : ℕ) (c : List ℕ) → Links slots o s c 0 → Distinct c
  links-distinct s [] h = tt
  links-distinct s (t ∷ c) h = (λ m. twice m, links-distinct (slot_at slots t).next c h.4)
    where
      twice : In t c → ⊥
      twice m =
          let r = links-from (slot_at slots t).next c t h.4 m in
          let le : length r.0 ≤ length c = r.2 in
          let q : r.0 ≡ t ∷ c = links-unique t r.0 (t ∷ c) r.1 (refl, h.1, h.2, h.3, h.4) in
          let l : length r.0 ≡ suc (length c) = ap length q in
          omega arith

  -- and so it is no longer than the table
  pub links-fit : (s : ℕ) (c : List ℕ) → Links slots o s c 0 → length c ≤ length slots
  links-fit s c h =
      let p = pigeon (suc (length slots)) (0 ∷ c) (zero-out, links-distinct s c h) bound in
      omega arith
    where
      zero-out : In 0 c → ⊥
      zero-out m = let q = (links-in s c 0 0 h m).0 in omega arith

      bound : (x : ℕ) → In x (0 ∷ c) → x < suc (length slots)
      bound x (inl e) = omega arith
      bound x (inr m) = let q = (links-in s c 0 x h m).1 in omega arith

-- a chain whose slots are as they were is as it was
pub links-frame : (slots after : List Slot) (o s : ℕ) (c : List ℕ) (e : ℕ) → length after ≡ length slots → ((t : ℕ) → In t c → slot_at after t ≡ slot_at slots t) → Links slots o s c e → Links after o s c e
links-frame slots after o s [] e l f h = h
links-frame slots after o s (t ∷ c) e l f h =
    let q : slot_at after t ≡ slot_at slots t = f t (inl refl) in
    (h.0, h.1, rw l h.2, rw q h.3, rw q (links-frame slots after o (slot_at slots t).next c e l (λ (u : ℕ) (m : In u c). f u (inr m)) h.4))

pub entries-frame : (slots after : List Slot) (c : List ℕ) → ((t : ℕ) → In t c → slot_at after t ≡ slot_at slots t) → entries_of after c ≡ entries_of slots c
entries-frame slots after [] f = refl
entries-frame slots after (t ∷ c) f = ap₂ {C = List Entry} (λ (e : Entry) (es : List Entry). e ∷ es) (ap entry_of (f t (inl refl))) (entries-frame slots after c (λ (u : ℕ) (m : In u c). f u (inr m)))

-- a chain and the entries along it
pub record Holds (slots : List Slot) (o s : ℕ) (c : List ℕ) (es : List Entry) : Type 0 where
  pub links : Links slots o s c 0
  pub held : entries_of slots c ≡ es

pub holds_frame : (slots after : List Slot) (o s : ℕ) (c : List ℕ) (es : List Entry) → length after ≡ length slots → ((t : ℕ) → In t c → slot_at after t ≡ slot_at slots t) → Holds slots o s c es → Holds after o s c es
holds_frame slots after o s c es l f h = record { links = links-frame slots after o s c 0 l f h.links; held = entries-frame slots after c f ∙ h.held }

-- ---- what the test computes to

pub chain_links : (slots : List Slot) (o s : ℕ) (c : List ℕ) → Links slots o s c 0 → chain slots o s ≡ c
chain_links slots o s c h = (links-reach slots o s c h (links-fit slots o s c h)).1

pub reaches_links : (slots : List Slot) (o s : ℕ) (c : List ℕ) → Links slots o s c 0 → reaches slots o s ≡ true
reaches_links slots o s c h = (links-reach slots o s c h (links-fit slots o s c h)).0

pub links-head : (slots : List Slot) (o s t : ℕ) (c : List ℕ) (e : ℕ) → Links slots o s (t ∷ c) e → Links slots o s (s ∷ c) e
links-head slots o s t c e h = subst (λ (x : ℕ). Links slots o s (x ∷ c) e) (sym h.0) h
