-- Laws of the draws.
use Prim.Native.Nat.{ℕ, zero, suc, ◌*◌, ◌/◌, ◌%◌, ◌^◌, ◌<◌}
use mathlib.Core.Path.{◌≡◌, refl}
use mathlib.Core.Bool.{Bool, true, false, cond}
use native.Mathlib.Omega.{arith}
use native.Mathlib.Nat.{div-le_self}
use lib.Bits.{xor_lt}
use lib.Dec.{eqb, ltb}
use Rattle.workload.specs.declared.Draw.TheVariants.{Append}
use Rattle.workload.specs.Generator.{Drawn, mix_left, mix_right, next, appended, advanced, truncated, looked_up, ended, picked, drawn, state_after, InRange}

-- "Seed 1 draws 1082269761, then 1152992998833853505: an append on log 1", of the value that it draws next
pub seed-one : (next 1 ≡ 1082269761) × (next 1082269761 ≡ 1152992998833853505) × ((drawn 1).draw ≡ Append 1 11177516664432764457)
unfolding next drawn
seed-one = (refl, refl, refl)

left-fits : (n x : ℕ) → x < 2 ^ 64 → mix_left n x < 2 ^ 64
left-fits n x h = xor_lt 64 x (x * 2 ^ n % 2 ^ 64) h (omega arith)

right-fits : (n x : ℕ) → x < 2 ^ 64 → mix_right n x < 2 ^ 64
right-fits n x h = xor_lt 64 x (x / 2 ^ n) h (omega (arith, div-le_self x (2 ^ n)))

pub next_fits : (x : ℕ) → x < 2 ^ 64 → next x < 2 ^ 64
unfolding next
next_fits x h = left-fits 17 (mix_right 7 (mix_left 13 x)) (right-fits 7 (mix_left 13 x) (left-fits 13 x h))

abbrev Ranged : Drawn → Type 0
Ranged d = InRange d.draw × (d.state < 2 ^ 64)

picked_ranged : (k g : ℕ) → g < 2 ^ 64 → Ranged (picked k g)
picked_ranged k g h = go (ltb k 4) (eqb k 4) (eqb k 5) (eqb k 6)
  where
    f : next g < 2 ^ 64
    f = next_fits g h

    s : next (next g) < 2 ^ 64
    s = next_fits (next g) f

    t : next (next (next g)) < 2 ^ 64
    t = next_fits (next (next g)) s

    go : (a b c d : Bool) → Ranged (cond a (appended g) (cond b (advanced g) (cond c (truncated g) (cond d (looked_up g) (ended g)))))
    go true b c d = ((omega arith, f), f)
    go false true c d = ((omega arith, omega arith, omega arith, s, t), t)
    go false false true d = ((omega arith, omega arith, omega arith), f)
    go false false false true = ((omega arith, omega arith, omega arith), f)
    go false false false false = (omega arith, h)

drawn_ranged : (x : ℕ) → x < 2 ^ 64 → Ranged (drawn x)
unfolding drawn
drawn_ranged x h = picked_ranged (next x % 8) (next (next x)) (next_fits (next x) (next_fits x h))

pub draw_ranges : (x : ℕ) → x < 2 ^ 64 → InRange (drawn x).draw
draw_ranges x h = (drawn_ranged x h).0

pub state-fits : (x : ℕ) → x < 2 ^ 64 → (drawn x).state < 2 ^ 64
state-fits x h = (drawn_ranged x h).1

pub after-fits : (x k : ℕ) → x < 2 ^ 64 → state_after x k < 2 ^ 64
unfolding state_after
after-fits x zero h = h
after-fits x (suc k) h = after-fits (drawn x).state k (state-fits x h)
