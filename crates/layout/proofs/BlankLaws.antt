-- Blank slots, as the code finds them.
use Prim.Native.Nat.{ℕ, ◌+◌, ◌-◌, ◌*◌, ◌≤◌}
use mathlib.Core.Path.{◌≡◌, sym, ap, ap₂, ◌∙◌}
use mathlib.Core.Bool.{Bool, ◌&&◌}
use mathlib.Core.List.{List, ◌++◌}
use native.Mathlib.Omega.{arith}
use lib.Dec.{eqb}
use lib.ListN.{length, take, drop}
use Rattle.octets.specs.Octets.{part, same, zeros}
use Rattle.octets.proofs.Tests.{and_assoc}
use Rattle.octets.proofs.Parts.{part-between, part-part, part-add, length_part}
use Rattle.bigendian.specs.BigEndian.{unbe}
use Rattle.layout.specs.Image.{slot_at}
use Rattle.layout.specs.Layout.{slot_size}
use Rattle.layout.specs.Fits.{Slotted}
use Rattle.octets.proofs.Zeros.{length-zeros}
use Rattle.layout.specs.Strict.{strict_slot, strict_from}
use Rattle.layout.proofs.StrictCells.{strict-read}
use Rattle.layout.specs.Tests.{blank}
use Rattle.layout.proofs.TestLaws.{zeros-add, same-append, zero-bytes}

-- bytes 4–75 of a slot's part
blank-bytes : (l : List ℕ) → length l ≡ slot_size → same (part l 4 72) (zeros 72) ≡ blank (strict_slot l)
unfolding blank strict_slot
blank-bytes l h =
    let p : List ℕ = part l 4 8 in
    let v : List ℕ = part l 12 32 in
    let d : List ℕ = part l 44 32 in
    let lp : length p ≡ 8 = length_part l 4 8 (omega arith) in
    let lv : length v ≡ 32 = length_part l 12 32 (omega arith) in
    ap₂ same (part-add l 4 8 64 ∙ ap (λ (q : List ℕ). p ++ q) (part-add l 12 32 32)) (zeros-add 8 64 ∙ ap (λ (q : List ℕ). zeros 8 ++ q) (zeros-add 32 32))
    ∙ same-append p (v ++ d) (zeros 8) (zeros 32 ++ zeros 32) (lp ∙ sym (length-zeros 8))
    ∙ ap₂ (λ (x y : Bool). x && y) (ap (λ (n : ℕ). same p (zeros n)) (sym lp) ∙ sym (zero-bytes p)) (same-append v d (zeros 32) (zeros 32) (lv ∙ sym (length-zeros 32)))
    ∙ and_assoc (eqb (unbe p) 0) (same v (zeros 32)) (same d (zeros 32))

pub blank-there : (b : List ℕ) (start slots s : ℕ) → Slotted b start slots → 1 ≤ s → s ≤ slots → (at : ℕ) → at ≡ start + slot_size * (s - 1)
    → same (take (at + 4 + 72 - (at + 4)) (drop (at + 4) b)) (zeros (length (take (at + 4 + 72 - (at + 4)) (drop (at + 4) b)))) ≡ blank (slot_at (strict_from b start slots) s)
blank-there b start slots s c h k at e =
    let fits : at + slot_size ≤ length b = omega (arith, c.sized) in
    let q : take (at + 4 + 72 - (at + 4)) (drop (at + 4) b) ≡ part b (at + 4) 72 = part-between b (at + 4) 72 in
    ap (λ (x : List ℕ). same x (zeros (length x))) q
    ∙ ap (λ (n : ℕ). same (part b (at + 4) 72) (zeros n)) (length_part b (at + 4) 72 (omega arith))
    ∙ ap (λ (x : List ℕ). same x (zeros 72)) (sym (part-part b at slot_size 4 72 (omega arith)))
    ∙ blank-bytes (part b at slot_size) (length_part b at slot_size fits)
    ∙ ap (λ (a : ℕ). blank (strict_slot (part b a slot_size))) e
    ∙ ap blank (sym (strict-read b start slots s h k))
