-- An image that says a sound model refuses what the model refuses, with one number. 1 never occurs.
use Prim.Native.Nat.{ℕ}
use mathlib.Core.Path.{◌≡◌, refl}
use mathlib.Core.Bool.{Bool, true, false, cond, not, ◌&&◌, ◌||◌}
use mathlib.Core.Option.{Option, none, some}
use lib.Dec.{eqb, leb, ltb}
use borrow.Author.Tests.{leb-true, leb-false, ltb-true, ltb-false, le-leb, lt-leb, lt-ltb, le-ltb}
use Rattle.refusal.specs.Order.{first_fault}
use Rattle.layout.specs.Image.{Image}
use Rattle.a2m.specs.Call.{Call, append, advance, truncate, lookup, end}
use Rattle.a2m.specs.ImageCalls.{wrong_length, misplaced, spent, full, withheld, promised, faults, image_refusal}
use Rattle.model.specs.Model.{Model, slot_rule, rules01, rules, model_refusal}
use Rattle.model.proofs.Represents.{Rep, Sound}
use Rattle.model.proofs.Reading.{full_is}
use Rattle.model.proofs.Backed.{Backed}
use Rattle.model.proofs.Lacking.{held-is, lack-but-is, free-is}
use Rattle.model.proofs.WholeOf.{whole_of}

-- "outside L < n ≤ H"
pub outside : (l n h : ℕ) → not (ltb l n && leb n h) ≡ leb n l || ltb h n
outside l n h = go (ltb l n) refl (leb n h) refl
  where
    go : (a : Bool) → ltb l n ≡ a → (b : Bool) → leb n h ≡ b → not (ltb l n && leb n h) ≡ leb n l || ltb h n
    go true p true q = rw (p, q, lt-leb n l (ltb-true l n p), le-ltb h n (leb-true n h q))
    go true p false q = rw (p, q, lt-leb n l (ltb-true l n p), lt-ltb h n (leb-false n h q))
    go false p b q = rw (p, le-leb n l (ltb-false l n p))

-- a log below its reserve is asked no more
unless-below : (a c : Bool) → cond {A = Option ℕ} (not a && c) (some 16) none ≡ cond {A = Option ℕ} a none (cond c (some 16) none)
unless-below true c = refl
unless-below false c = refl

-- 5, then 16
slot_is : (m : Image) (b : Model) → Rep m b → (g : ℕ) → cond {A = Option ℕ} (eqb m.free 0) (some 5) (cond (withheld m g) (some 16) none) ≡ slot_rule b g
unfolding slot_rule withheld
slot_is m b R g = rw (full_is m b R, held-is m b R g, (R.rows g).reserve, free-is m b R, lack-but-is m b R g, unless-below)

-- an end of an empty list has no number, as any other
either_way : (t : Bool) → ◌≡◌ {A = Option ℕ} (cond t none none) none
either_way true = refl
either_way false = refl

pub refusal_is : (m : Image) (b : Model) → Rep m b → Sound b → Backed b → (call : Call) → image_refusal m call ≡ model_refusal rules b call
unfolding image_refusal faults first_fault wrong_length misplaced spent full promised model_refusal rules rules01
refusal_is m b R ok k (append g x) = rw (whole_of m b R ok k, R.count, (R.rows g).high, slot_is m b R g)
refusal_is m b R ok k (advance g n d x) = rw (whole_of m b R ok k, R.count, (R.rows g).high, slot_is m b R g)
refusal_is m b R ok k (truncate g n) = rw (whole_of m b R ok k, R.count, (R.rows g).low, (R.rows g).high, outside)
refusal_is m b R ok k (lookup g n c r) = rw (whole_of m b R ok k, R.count)
refusal_is m b R ok k (end g c r) = rw (whole_of m b R ok k, R.count, either_way)
