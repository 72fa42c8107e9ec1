-- What an image's logs lack of their reserves is what those of the model lack that it says; and it has as many slots free as the model has left.
use Prim.Native.Nat.{ℕ, zero, suc, ◌+◌, ◌-◌, ◌≤◌, ◌<◌}
use mathlib.Core.Path.{◌≡◌, refl, ap, ap₂, subst, ◌∙◌}
use mathlib.Core.Logic.{◌≢◌}
use mathlib.Core.List.{List, [], ◌∷◌}
use mathlib.Core.Bool.{Bool, true, cond}
use native.Mathlib.Omega.{arith}
use native.Mathlib.Nat.{zero-add, add-zero, add-suc, suc-add}
use lib.ListN.{length}
use lib.Dec.{leb}
use borrow.Author.Tests.{eq-eqb, le-leb}
use Rattle.layout.specs.declared.Row.{Row}
use Rattle.layout.specs.Image.{Slot, Image, row_at}
use Rattle.table.specs.Free.{free_chain}
use Rattle.table.specs.Reserve.{held_in, lack_in, lack_from, lack_but, lack_all}
use Rattle.table.proofs.ReserveLaws.{lack-in}
use Rattle.a2m.specs.ImageCalls.{row_in}
use Rattle.model.specs.Log.{Log, lack}
use Rattle.model.specs.Model.{Model, log_at, total, lacks, lacks_but}
use Rattle.model.proofs.Represents.{Rep}
use Rattle.model.proofs.Reading.{row-length, row-chain, free-chain}
use Rattle.model.proofs.Backed.{Backed}

-- ---- rows and logs from k on

abbrev LackAlike : List Slot → ℕ → List Row → List Log → Type 0
LackAlike slots k rs ls = (i : ℕ) → lack_in slots (k + i) (row_at rs i) ≡ lack (log_at ls i)

-- those after the first
next-alike : (slots : List Slot) (k : ℕ) (r : Row) (rs : List Row) (l : Log) (ls : List Log) → LackAlike slots k (r ∷ rs) (l ∷ ls) → LackAlike slots (suc k) rs ls
next-alike slots k r rs l ls h i = rw (add-suc, ← suc-add) at (h (suc i))

-- none of them is log g
lack-all : (slots : List Slot) (g k : ℕ) (rs : List Row) (ls : List Log) → length rs ≡ length ls → LackAlike slots k rs ls → ((i : ℕ) → i < length rs → k + i ≢ g) → lack_from slots g k rs ≡ lacks ls
unfolding lack_from lacks
lack-all slots g k [] [] e h n = refl
lack-all slots g k [] (l ∷ ls) e h n = absurd (omega arith)
lack-all slots g k (r ∷ rs) [] e h n = absurd (omega arith)
lack-all slots g k (r ∷ rs) (l ∷ ls) e h n =
    let other : k ≢ g = λ (z : k ≡ g). n 0 (omega arith) (omega arith) in
    let first : lack_in slots k r ≡ lack l = rw add-zero at (h 0) in
    ap₂ (λ (x y : ℕ). x + y) (lack-in slots g k r other ∙ first)
    (lack-all slots g (suc k) rs ls (omega arith) (next-alike slots k r rs l ls h) (λ (i : ℕ) (q : i < length rs) (z : suc k + i ≡ g). n (suc i) (omega arith) (omega arith)))

-- log g is the one at i
lack_but_lem : (slots : List Slot) (i k : ℕ) (rs : List Row) (ls : List Log) → length rs ≡ length ls → LackAlike slots k rs ls → lack_from slots (k + i) k rs ≡ lacks_but i ls
unfolding lack_from lacks_but
lack_but_lem slots i k [] [] e h = refl
lack_but_lem slots i k [] (l ∷ ls) e h = absurd (omega arith)
lack_but_lem slots i k (r ∷ rs) [] e h = absurd (omega arith)
lack_but_lem slots zero k (r ∷ rs) (l ∷ ls) e h =
    ap₂ (λ (x y : ℕ). x + y) (ap (λ (t : Bool). cond t 0 (lack_in slots k r)) (eq-eqb k (k + 0) (omega arith)))
    (lack-all slots (k + 0) (suc k) rs ls (omega arith) (next-alike slots k r rs l ls h) (λ (i : ℕ) (q : i < length rs) (z : suc k + i ≡ k + 0). omega arith))
    ∙ zero-add (lacks ls)
lack_but_lem slots (suc i) k (r ∷ rs) (l ∷ ls) e h =
    let first : lack_in slots k r ≡ lack l = rw add-zero at (h 0) in
    let at : suc k + i ≡ k + suc i = omega arith in
    ap₂ (λ (x y : ℕ). x + y) (lack-in slots (k + suc i) k r (λ (z : k ≡ k + suc i). omega arith) ∙ first)
    (subst (λ (g : ℕ). lack_from slots g (suc k) rs ≡ lacks_but i ls) at (lack_but_lem slots i (suc k) rs ls (omega arith) (next-alike slots k r rs l ls h)))

-- ---- an image that says a model

module _ (m : Image) (b : Model) (R : Rep m b) where
  pub held-is : (g : ℕ) → held_in m.slots g (row_in m g) ≡ length (log_at b.logs g).entries
  held-is g = ap length (row-chain m b R g) ∙ row-length m b R g

  alike : LackAlike m.slots 0 m.rows b.logs
  alike i = rw zero-add (ap₂ (λ (x y : ℕ). x - y) (R.rows i).reserve (held-is i))

  pub lack-all-is : lack_all m ≡ lacks b.logs
  unfolding lack_all lack_but
  lack-all-is = lack-all m.slots (length m.rows) 0 m.rows b.logs R.count alike (λ (i : ℕ) (h : i < length m.rows) (z : 0 + i ≡ length m.rows). omega arith)

  pub lack-but-is : (g : ℕ) → lack_but m g ≡ lacks_but g b.logs
  unfolding lack_but
  lack-but-is g = rw zero-add at (lack_but_lem m.slots g 0 m.rows b.logs R.count alike)

  pub free-is : length (free_chain m) ≡ b.size - total b.logs
  free-is = let e : length (free_chain m) ≡ length R.queue = ap length (free-chain m b R) in omega (arith, e, R.sum, R.size)

  -- request [5]'s clause of wholeness, on the image and on the model
  pub enough-of : Backed b → leb (lack_all m) (length (free_chain m)) ≡ true
  enough-of k = le-leb (lack_all m) (length (free_chain m)) (omega (arith, k, lack-all-is, free-is))

  pub of-enough : lack_all m ≤ length (free_chain m) → Backed b
  of-enough h =
      let s : total b.logs ≤ b.size = omega (arith, R.sum, R.size) in
      omega (arith, h, s, lack-all-is, free-is)
