-- Positions along a list of entries: strictly rising, and the last the highest.
use Prim.Native.Nat.{ℕ, suc, ◌≤◌}
use mathlib.Core.Path.{◌≡◌, refl, sym, ap}
use mathlib.Core.Logic.{◌≢◌}
use mathlib.Core.List.{List, [], ◌∷◌, map}
use mathlib.Core.Bool.{true}
use native.Mathlib.Omega.{arith}
use lib.Dec.{leb}
use borrow.Author.Tests.{leb-true, le-leb}
use Rattle.octets.proofs.Tests.{and_left, and_right, and_both}
use Rattle.layout.specs.Image.{Entry, Slot, slot_at}
use Rattle.table.specs.Chains.{last_of, positions_of, entries_of}
use Rattle.table.specs.WholeImage.{rising_from}
use Rattle.model.specs.Log.{Log, last_entry}
use Rattle.model.proofs.Represents.{LogOk, Rising}

abbrev pub positions : List Entry → List ℕ
positions es = map (λ (e : Entry). e.position) es

pub positions-of : (slots : List Slot) (c : List ℕ) → positions_of slots c ≡ positions (entries_of slots c)
positions-of slots [] = refl
positions-of slots (t ∷ c) = ap {B = List ℕ} (λ l. (slot_at slots t).position ∷ l) (positions-of slots c)

pub rising-of : (w : ℕ) (es : List Entry) → Rising w es → rising_from w (positions es) ≡ true
unfolding rising_from
rising-of w [] r = refl
rising-of w (e ∷ es) r = and_both _ _ (le-leb w e.position r.0) (rising-of (suc e.position) es r.1)

pub of_rising : (w : ℕ) (es : List Entry) → rising_from w (positions es) ≡ true → Rising w es
unfolding rising_from
of_rising w [] h = tt
of_rising w (e ∷ es) h = (leb-true w e.position (and_left (leb w e.position) (rising_from (suc e.position) (positions es)) h), of_rising (suc e.position) es (and_right (leb w e.position) (rising_from (suc e.position) (positions es)) h))

pub last-position : (es : List Entry) → last_of (positions es) ≡ (last_entry es).position
unfolding last_of last_entry
last-position [] = refl
last-position (e ∷ []) = refl
last-position (e ∷ f ∷ es) = last-position (f ∷ es)

-- the last position is the highest
pub rising-last : (w : ℕ) (e : Entry) (es : List Entry) → Rising w (e ∷ es) → w ≤ (last_entry (e ∷ es)).position
unfolding last_entry
rising-last w e [] r = r.0
rising-last w e (f ∷ es) r = let h = rising-last (suc e.position) f es r.1 in let q : w ≤ e.position = r.0 in omega arith

pub ok-empty : (l : Log) → LogOk l → l.high ≡ 0 → l.entries ≡ []
ok-empty l ok z = go l.entries ok.rising ok.top
  where
    go : (es : List Entry) → Rising l.low es → (last_entry es).position ≡ l.high → es ≡ []
    go [] r t = refl
    go (e ∷ es) r t = absurd (let h = rising-last l.low e es r in let q = ok.low1 in omega arith)

pub ok-low : (l : Log) → LogOk l → l.high ≢ 0 → l.low ≤ l.high
unfolding last_entry
ok-low l ok n = go l.entries ok.rising ok.top
  where
    go : (es : List Entry) → Rising l.low es → (last_entry es).position ≡ l.high → l.low ≤ l.high
    go [] r t = absurd (n (sym t))
    go (e ∷ es) r t = let h = rising-last l.low e es r in omega arith
