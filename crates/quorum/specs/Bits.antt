-- Sets of numbers below n, given by a test: how many there are, whether there is one, and the set as a mask; and sums over the
-- numbers below n.
use Rattle.std.specs.Prelude.{ℕ, zero, suc, ◌+◌, ◌*◌, ◌^◌, Bool, false, ◌||◌, cond}

-- how many numbers below n are in the set
unfoldable pub count_below : ℕ → (ℕ → Bool) → ℕ
count_below zero f = 0
count_below (suc n) f = cond (f n) 1 0 + count_below n f

-- the sum of a function's values below n
unfoldable pub sum_below : ℕ → (ℕ → ℕ) → ℕ
sum_below zero f = 0
sum_below (suc n) f = sum_below n f + f n

-- whether a number below n is in the set
unfoldable pub any_below : ℕ → (ℕ → Bool) → Bool
any_below zero f = false
any_below (suc n) f = f n || any_below n f

-- "one bit each in a 32-bit mask, the lowest bit for roster item 0": the numbers below n that are in the set
unfoldable pub mask_below : ℕ → (ℕ → Bool) → ℕ
mask_below zero f = 0
mask_below (suc n) f = cond (f n) 1 0 * 2 ^ n + mask_below n f
