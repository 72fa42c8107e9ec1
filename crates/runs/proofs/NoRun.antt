-- What `no_run` has of the last position, and what a run that is one has.
use mathlib.Core.Path.{◌≡◌, refl, sym}
use Prim.Native.Nat.{ℕ, ◌+◌, ◌-◌, ◌/◌, ◌%◌, ◌^◌, ◌≤◌, ◌<◌}
use native.Mathlib.Omega.{arith}
use mathlib.Core.Logic.{◌≢◌}
use mathlib.Core.Bool.{Bool, true, false, not, ◌||◌}
use mathlib.Core.List.{List}
use lib.Dec.{eqb, leb, ltb}
use lib.ListN.{length}
use borrow.Author.Tests.{eq-eqb, ne_eqb, eqb-true, eqb-false, not-false, ltb-true, ltb-false, leb-false, le-leb, lt-leb}
use Rattle.octets.proofs.Tests.{or-none}
use Rattle.runs.specs.Call.{no_run}
use Rattle.runs.specs.Run.{Reaches}

-- two tests that hold together are one
same_test : (x : Bool) (a b c d : ℕ) → ltb a b ≡ x → (a < b → c ≤ d) → (b ≤ a → d < c) → x ≡ leb c d
same_test true a b c d e h k = sym (le-leb c d (h (ltb-true a b e)))
same_test false a b c d e h k = sym (lt-leb c d (k (ltb-false a b e)))

module _ (first : ℕ) (values : List ℕ) where
  -- there are whole values, and the first position is not 0: then the last decides
  pub by_last : (length values ≡ 0 → ⊥) → length values % 32 ≡ 0 → (first ≡ 0 → ⊥) → first < 2 ^ 64 → ltb (18446744073709551615 - first) (length values / 32 - 1) ≡ no_run first values
  unfolding no_run
  by_last h k f b =
      simp (ne_eqb (length values) 0 h, eq-eqb (length values % 32) 0 k, ne_eqb first 0 f)
      (same_test (ltb (18446744073709551615 - first) (length values / 32 - 1)) (18446744073709551615 - first) (length values / 32 - 1) (2 ^ 64)
      (first + length values / 32 - 1) refl (λ u. omega arith) (λ u. omega arith))

  -- the values of a run are there, one at least, and their positions fit
  pub run-reaches : no_run first values ≡ false → (0 < length values / 32) × Reaches first values (length values / 32)
  unfolding no_run
  run-reaches h =
      let a = or-none (eqb (length values) 0) (not (eqb (length values % 32) 0) || (eqb first 0 || leb (2 ^ 64) (first + length values / 32 - 1))) h in
      let b = or-none (not (eqb (length values % 32) 0)) (eqb first 0 || leb (2 ^ 64) (first + length values / 32 - 1)) a.1 in
      let d = or-none (eqb first 0) (leb (2 ^ 64) (first + length values / 32 - 1)) b.1 in
      let some : length values ≢ 0 = eqb-false (length values) 0 a.0 in
      let whole : length values % 32 ≡ 0 = eqb-true (length values % 32) 0 (not-false _ b.0) in
      let last : first + length values / 32 - 1 < 2 ^ 64 = leb-false (2 ^ 64) (first + length values / 32 - 1) d.1 in
      (omega arith, record { bytes = omega arith; positions = omega arith })

-- fewer values are there too
pub reaches_fewer : (first : ℕ) (values : List ℕ) (m n : ℕ) → m ≤ n → Reaches first values n → Reaches first values m
reaches_fewer first values m n h r = record { bytes = omega (arith, r.bytes); positions = omega (arith, r.positions) }
