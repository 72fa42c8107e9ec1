-- One step of a walk along a chain; and that a walk meets no more slots than the table has.
use Prim.Native.Nat.{ℕ, zero, suc, ◌+◌, ◌-◌, ◌≤◌, ◌<◌}
use mathlib.Core.Path.{◌≡◌, refl, ap, ap₂, ◌∙◌}
use mathlib.Core.List.{List, [], ◌∷◌}
use mathlib.Core.Bool.{Bool, true, false, cond, ◌&&◌}
use mathlib.Core.Option.{Option, none, some, map}
use native.Mathlib.Omega.{arith}
use borrow.Author.Tests.{eq-eqb, ne_eqb, le-leb, lt-leb}
use lib.ListN.{length}
use lib.Dec.{eqb, leb}
use Rattle.layout.specs.Image.{Slot, slot_at}
use Rattle.layout.specs.Strict.{strict_from}
use Rattle.layout.proofs.StrictCells.{length-strict}
use Rattle.table.specs.Chains.{walk, chain}
use Rattle.layout.proofs.TestLaws.{and_yes, and_no}

-- whether a walk reached 0, and the slots that it met
abbrev pub reached : Option (List ℕ) → Bool
reached w = elim w [ none ↦ false | some c ↦ true ]

abbrev pub slots_met : Option (List ℕ) → List ℕ
slots_met w = elim w [ none ↦ [] | some c ↦ c ]

-- a walk's step by its two tests
abbrev choose : Bool → Bool → Option (List ℕ) → Option (List ℕ)
choose x y r = elim x [ true ↦ some [] | false ↦ elim y [ true ↦ r | false ↦ none ] ]

-- the test that a walk makes at a slot other than 0
abbrev test : List Slot → ℕ → ℕ → Bool
test slots o s = leb s (length slots) && eqb (slot_at slots s).owner o

module _ (slots : List Slot) (o : ℕ) where
  pub walk_end : (k : ℕ) → walk slots o k 0 ≡ some []
  unfolding walk
  walk_end zero = refl
  walk_end (suc k) = refl

  walk-spent : (s : ℕ) → (s ≡ 0 → ⊥) → walk slots o 0 s ≡ none
  unfolding walk
  walk-spent s h = ap {B = Option (List ℕ)} (λ (b : Bool). cond b (some []) none) (ne_eqb s 0 h)

  walk-out : (k s : ℕ) → (s ≡ 0 → ⊥) → test slots o s ≡ false → walk slots o k s ≡ none
  unfolding walk
  walk-out zero s h t = walk-spent s h
  walk-out (suc k) s h t =
      ap₂ (λ (x y : Bool). choose x y (map (λ (c : List ℕ). s ∷ c) (walk slots o k (slot_at slots s).next))) (ne_eqb s 0 h) t

  walk-in : (k s : ℕ) → (s ≡ 0 → ⊥) → test slots o s ≡ true → walk slots o (suc k) s ≡ map (λ (c : List ℕ). s ∷ c) (walk slots o k (slot_at slots s).next)
  unfolding walk
  walk-in k s h t =
      ap₂ (λ (x y : Bool). choose x y (map (λ (c : List ℕ). s ∷ c) (walk slots o k (slot_at slots s).next))) (ne_eqb s 0 h) t

-- a walk after n of at most k slots, where the table has k: the three ways in which it breaks off, and the way on
module _ (slots : List Slot) (o k : ℕ) (len : length slots ≡ k) (n s : ℕ) (more : s ≡ 0 → ⊥) where
  pub stop-long : n ≡ k → walk slots o (k - n) s ≡ none
  stop-long e = let z : k - n ≡ 0 = omega arith in ap (λ (f : ℕ). walk slots o f s) z ∙ walk-spent slots o s more

  pub stop-out : k < s → walk slots o (k - n) s ≡ none
  stop-out h = walk-out slots o (k - n) s more (and_no (eqb (slot_at slots s).owner o) (lt-leb s (length slots) (omega arith)))

  pub stop-owner : s ≤ k → ((slot_at slots s).owner ≡ o → ⊥) → walk slots o (k - n) s ≡ none
  stop-owner h e = walk-out slots o (k - n) s more (and_yes (eqb (slot_at slots s).owner o) (le-leb s (length slots) (omega arith)) ∙ ne_eqb (slot_at slots s).owner o e)

  pub go_on : s ≤ k → (slot_at slots s).owner ≡ o → n < k → walk slots o (k - n) s ≡ map (λ (c : List ℕ). s ∷ c) (walk slots o (k - (n + 1)) (slot_at slots s).next)
  go_on h e l =
      let z : k - n ≡ suc (k - (n + 1)) = omega arith in
      ap (λ (f : ℕ). walk slots o f s) z
      ∙ walk-in slots o (k - (n + 1)) s more (and_yes (eqb (slot_at slots s).owner o) (le-leb s (length slots) (omega arith)) ∙ eq-eqb (slot_at slots s).owner o e)

-- a chain has no more slots than the fuel

abbrev Short : ℕ → Option (List ℕ) → Type 0
Short f none = Unit {0}
Short f (some c) = length c ≤ f

choose-short : (x y : Bool) (f : ℕ) (r : Option (List ℕ)) → Short f r → Short f (choose x y r)
choose-short true y f r h = omega arith
choose-short false true f r h = h
choose-short false false f r h = tt

map-short : (s f : ℕ) (w : Option (List ℕ)) → Short f w → Short (suc f) (map (λ (c : List ℕ). s ∷ c) w)
map-short s f none h = tt
map-short s f (some c) h = omega arith

cond_short : (b : Bool) → Short 0 (cond b (some []) none)
cond_short true = omega arith
cond_short false = tt

walk-short : (slots : List Slot) (o f s : ℕ) → Short f (walk slots o f s)
unfolding walk
walk-short slots o zero s = cond_short (eqb s 0)
walk-short slots o (suc f) s =
    choose-short (eqb s 0) (test slots o s) (suc f) (map (λ (c : List ℕ). s ∷ c) (walk slots o f (slot_at slots s).next))
    (map-short s f (walk slots o f (slot_at slots s).next) (walk-short slots o f (slot_at slots s).next))

pub chain-short : (slots : List Slot) (o s : ℕ) → length (chain slots o s) ≤ length slots
unfolding chain
chain-short slots o s = go (walk slots o (length slots) s) (walk-short slots o (length slots) s)
  where
    go : (w : Option (List ℕ)) → Short (length slots) w → length (slots_met w) ≤ length slots
    go none h = omega arith
    go (some c) h = h

-- no chain starts from 0
pub chain-none : (slots : List Slot) (o s : ℕ) → s ≡ 0 → chain slots o s ≡ []
unfolding chain
chain-none slots o s e = ap slots_met (ap (walk slots o (length slots)) e ∙ walk_end slots o (length slots))

-- before a walk along k slots, none of them met
pub none-met : (b : List ℕ) (start k : ℕ) → length (strict_from b start k) ≡ k - 0
none-met b start k = omega (arith, length-strict b start k)
