-- The walks of the check: what is still to be computed at a loop's head, and one turn of it.
use Prim.Native.Nat.{ℕ, suc, ◌+◌, ◌-◌, ◌≤◌, ◌<◌}
use mathlib.Core.Path.{◌≡◌, refl, sym, ap, ap₂, ◌∙◌}
use mathlib.Core.List.{List, [], ◌∷◌}
use mathlib.Core.Bool.{Bool, true, false, ◌&&◌, ◌||◌}
use mathlib.Core.Option.{Option, none, some, map}
use native.Mathlib.Nat.{zero-add, add-zero}
use native.Mathlib.Omega.{arith}
use borrow.Author.Tests.{ne_eqb, le-leb, lt-leb}
use lib.ListN.{length}
use lib.Dec.{eqb, leb}
use Rattle.layout.specs.declared.Row.{Row}
use Rattle.layout.specs.Image.{Slot, slot_at}
use Rattle.table.specs.Chains.{walk, reaches, chain, last_of, positions_of}
use Rattle.table.specs.Walks.{walk_of, free_walk, row_walk, started_walk}
use Rattle.table.specs.WholeImage.{all, fresh, rising_from, started, row_ok}
use Rattle.layout.specs.Tests.{blank}
use Rattle.layout.proofs.TestLaws.{and_yes, and_no, and-not}
use Rattle.table.proofs.FreshLaws.{fresh-empty}
use Rattle.table.proofs.WalkLaws.{reached, slots_met, walk_end, chain-none}
use Rattle.table.proofs.Found.{Walked, met_of}
use Rattle.std.proofs.Common.{None}

-- the last of a list that follows d
abbrev pub last_or : ℕ → List ℕ → ℕ
last_or d [] = d
last_or d (x ∷ xs) = last_or x xs

pub last-or : (x : ℕ) (c : List ℕ) → last_of (x ∷ c) ≡ last_or x c
unfolding last_of
last-or x [] = refl
last-or x (y ∷ c) = last-or y c

-- a walk where a test is passed
abbrev pub only_if : Bool → Walked → Walked
only_if true r = r
only_if false r = None

only-walk : (t : Bool) (c : List ℕ) → walk_of t c ≡ only_if t (met_of (0 + length c) (last_of c))
only-walk true c = ap (λ (n : ℕ). met_of n (last_of c)) (sym (zero-add (length c)))
only-walk false c = refl

-- the free chain: what is left to compute after n slots, the last of which is `last`, of the walk that is left
module _ (slots : List Slot) where
  abbrev pub free_rest : ℕ → ℕ → Option (List ℕ) → Walked
  free_rest n last none = None
  free_rest n last (some c) = only_if (all (λ (s : ℕ). blank (slot_at slots s)) c) (met_of (n + length c) (last_or last c))

  pub free-last : (n last k : ℕ) → free_rest n last (walk slots 0 k 0) ≡ met_of n last
  unfolding all
  free-last n last k = ap (free_rest n last) (walk_end slots 0 k) ∙ ap (λ (i : ℕ). met_of i last) (add-zero n)

  pub free-blank : (n last s : ℕ) (w : Option (List ℕ)) → blank (slot_at slots s) ≡ true → free_rest n last (map (λ (c : List ℕ). s ∷ c) w) ≡ free_rest (n + 1) s w
  unfolding all
  free-blank n last s none h = refl
  free-blank n last s (some c) h =
      let e : n + suc (length c) ≡ n + 1 + length c = omega arith in
      ap₂ (λ (b : Bool) (k : ℕ). only_if b (met_of k (last_or s c))) (and_yes (all (λ (s : ℕ). blank (slot_at slots s)) c) h) e

  pub free-filled : (n last s : ℕ) (w : Option (List ℕ)) → blank (slot_at slots s) ≡ false → free_rest n last (map (λ (c : List ℕ). s ∷ c) w) ≡ None
  unfolding all
  free-filled n last s none h = refl
  free-filled n last s (some c) h = ap (λ (b : Bool). only_if b (met_of (n + suc (length c)) (last_or s c))) (and_no (all (λ (s : ℕ). blank (slot_at slots s)) c) h)

pub free-first : (slots : List Slot) (s : ℕ) → free_walk slots s ≡ free_rest slots 0 0 (walk slots 0 (length slots) s)
unfolding reaches chain last_of
free-first slots s = go (walk slots 0 (length slots) s)
  where
    go : (w : Option (List ℕ)) → walk_of (reached w && all (λ (s : ℕ). blank (slot_at slots s)) (slots_met w)) (slots_met w) ≡ free_rest slots 0 0 w
    go none = refl
    go (some []) = only-walk (all (λ (s : ℕ). blank (slot_at slots s)) []) []
    go (some (x ∷ c)) =
        only-walk (all (λ (s : ℕ). blank (slot_at slots s)) (x ∷ c)) (x ∷ c)
        ∙ ap (λ (z : ℕ). only_if (all (λ (s : ℕ). blank (slot_at slots s)) (x ∷ c)) (met_of (0 + suc (length c)) z)) (last-or x c)

-- a log's chain: what is left to compute after n slots, the last of which is `last` at position `floor`
module _ (slots : List Slot) (r : Row) where
  abbrev pub fits_rest : ℕ → ℕ → List ℕ → Bool
  fits_rest floor last c = rising_from (suc floor) (positions_of slots c) && eqb (last_or floor (positions_of slots c)) r.high && eqb (last_or last c) r.last

  abbrev pub log_rest : ℕ → ℕ → ℕ → Option (List ℕ) → Walked
  log_rest n floor last none = None
  log_rest n floor last (some c) = only_if (fits_rest floor last c) (met_of (n + length c) (last_or last c))

  pub log-higher : (n floor last s : ℕ) (w : Option (List ℕ)) → floor < (slot_at slots s).position → log_rest n floor last (map (λ (c : List ℕ). s ∷ c) w) ≡ log_rest (n + 1) (slot_at slots s).position s w
  unfolding rising_from
  log-higher n floor last s none h = refl
  log-higher n floor last s (some c) h =
      let e : n + suc (length c) ≡ n + 1 + length c = omega arith in
      let p : ℕ = (slot_at slots s).position in
      ap₂ (λ (b : Bool) (k : ℕ). only_if (b && eqb (last_or p (positions_of slots c)) r.high && eqb (last_or s c) r.last) (met_of k (last_or s c)))
      (and_yes (rising_from (suc p) (positions_of slots c)) (le-leb (suc floor) p h)) e

  pub log-lower : (n floor last s : ℕ) (w : Option (List ℕ)) → (slot_at slots s).position ≤ floor → log_rest n floor last (map (λ (c : List ℕ). s ∷ c) w) ≡ None
  unfolding rising_from
  log-lower n floor last s none h = refl
  log-lower n floor last s (some c) h =
      let p : ℕ = (slot_at slots s).position in
      ap (λ (b : Bool). only_if (b && eqb (last_or p (positions_of slots c)) r.high && eqb (last_or s c) r.last) (met_of (n + suc (length c)) (last_or s c)))
      (and_no (rising_from (suc p) (positions_of slots c)) (lt-leb (suc floor) p (omega arith)))

  pub log-last : (n floor last o k : ℕ) → log_rest n floor last (walk slots o k 0) ≡ only_if (eqb floor r.high && eqb last r.last) (met_of n last)
  unfolding rising_from
  log-last n floor last o k = ap (log_rest n floor last) (walk_end slots o k) ∙ ap (λ (i : ℕ). only_if (eqb floor r.high && eqb last r.last) (met_of i last)) (add-zero n)

  module _ (g : ℕ) (one : 1 ≤ r.low) (order : r.low ≤ r.high) where
    -- the tests of a started row, those of its numbers being passed
    started-rest : (c : List ℕ) → started r c (positions_of slots c) ≡ fits_rest (r.low - 1) 0 c
    unfolding started rising_from last_of
    started-rest [] =
        let e : eqb 0 r.high ≡ false = ne_eqb 0 r.high (λ e. omega arith) in
        let f : eqb (r.low - 1) r.high ≡ false = ne_eqb (r.low - 1) r.high (λ e. omega arith) in
        and_no (eqb 0 r.last) (and-not (leb 1 r.low && leb r.low r.high && true) e) ∙ sym (and_no (eqb 0 r.last) f)
    started-rest (x ∷ c) =
        let e : suc (r.low - 1) ≡ r.low = omega arith in
        let p : ℕ = (slot_at slots x).position in
        ap₂ (λ (a b : ℕ). leb 1 r.low && leb r.low r.high && rising_from r.low (p ∷ positions_of slots c) && eqb a r.high && eqb b r.last) (last-or p (positions_of slots c)) (last-or x c)
        ∙ ap (λ (t : Bool). t && eqb (last_or p (positions_of slots c)) r.high && eqb (last_or x c) r.last)
        (and_yes (rising_from r.low (p ∷ positions_of slots c)) (and_yes (leb r.low r.high) (le-leb 1 r.low one) ∙ le-leb r.low r.high order)
        ∙ ap (λ (b : ℕ). rising_from b (p ∷ positions_of slots c)) (sym e))

    pub log-first : started_walk slots g r ≡ log_rest 0 (r.low - 1) 0 (walk slots (suc g) (length slots) r.first)
    unfolding reaches chain last_of
    log-first = go (walk slots (suc g) (length slots) r.first)
      where
        go : (w : Option (List ℕ)) → walk_of (reached w && started r (slots_met w) (positions_of slots (slots_met w))) (slots_met w) ≡ log_rest 0 (r.low - 1) 0 w
        go none = refl
        go (some []) = ap (λ (t : Bool). walk_of t []) (started-rest []) ∙ only-walk (fits_rest (r.low - 1) 0 []) []
        go (some (x ∷ c)) =
            ap (λ (t : Bool). walk_of t (x ∷ c)) (started-rest (x ∷ c))
            ∙ only-walk (fits_rest (r.low - 1) 0 (x ∷ c)) (x ∷ c)
            ∙ ap (λ (z : ℕ). only_if (fits_rest (r.low - 1) 0 (x ∷ c)) (met_of (0 + suc (length c)) z)) (last-or x c)

-- a row's cases
module _ (slots : List Slot) (g : ℕ) (r : Row) where
  pub row_fresh : fresh r ≡ true → row_walk slots g r ≡ met_of 0 0
  unfolding row_ok last_of
  row_fresh e =
      ap₂ (λ (t : Bool) (c : List ℕ). walk_of (t || (reaches slots (suc g) r.first && started r (chain slots (suc g) r.first) (positions_of slots (chain slots (suc g) r.first)))) c)
      e (chain-none slots (suc g) r.first (fresh-empty r e).0)

  pub row-started : fresh r ≡ false → row_walk slots g r ≡ started_walk slots g r
  unfolding row_ok
  row-started e =
      ap (λ (t : Bool). walk_of (t || (reaches slots (suc g) r.first && started r (chain slots (suc g) r.first) (positions_of slots (chain slots (suc g) r.first)))) (chain slots (suc g) r.first)) e

  broken : started r (chain slots (suc g) r.first) (positions_of slots (chain slots (suc g) r.first)) ≡ false → started_walk slots g r ≡ None
  broken e = ap (λ (t : Bool). walk_of t (chain slots (suc g) r.first)) (and-not (reaches slots (suc g) r.first) e)

  pub row_zero : fresh r ≡ false → r.low ≡ 0 → row_walk slots g r ≡ None
  unfolding started
  row_zero e z = row-started e ∙ broken (and_no _ (and_no _ (and_no _ (and_no _ (lt-leb 1 r.low (omega arith))))))

  pub row-crossed : fresh r ≡ false → r.high < r.low → row_walk slots g r ≡ None
  unfolding started
  row-crossed e h =
      let c : List ℕ = chain slots (suc g) r.first in
      let ps : List ℕ = positions_of slots c in
      row-started e ∙ broken (and_no (eqb (last_of c) r.last) (and_no (eqb (last_of ps) r.high) (and_no (rising_from r.low ps) (and-not (leb 1 r.low) (lt-leb r.low r.high h)))))
