-- Profiles: the test and the conditions agree, the ways out of the test, and the sizes that are permitted.
use mathlib.Core.Path.{◌≡◌, sym}
use mathlib.Core.Logic.{◌↔◌}
use Prim.Native.Nat.{ℕ, ◌+◌, ◌*◌, ◌/◌, ◌%◌, ◌≤◌}
use native.Mathlib.Omega.{arith}
use mathlib.Core.Bool.{true, false, ◌&&◌}
use lib.Dec.{leb, ltb}
use borrow.Author.Tests.{le-leb, lt-ltb, leb-true, ltb-true}
use Rattle.std.proofs.lemmas.Bool.{false_from_ne_true}
use Rattle.octets.proofs.Tests.{and_left, and_right, and_both, and-true}
use Rattle.roster.specs.Profile.{permitted, Permitted}

module _ (n k : ℕ) where
  -- "Permitted are profiles where 2k > N and k ≤ N", of "N from 1 to 32"
  pub permitted-exactly : permitted n k ≡ true ↔ Permitted n k
  unfolding permitted
  permitted-exactly = (
    λ h. let a = and_right (leb 1 n) (leb n 32 && (ltb n (2 * k) && leb k n)) h in
        let b = and_right (leb n 32) (ltb n (2 * k) && leb k n) a in
        record {
          least = leb-true 1 n (and_left (leb 1 n) _ h);
          most = leb-true n 32 (and_left (leb n 32) _ a);
          over-half = ltb-true n (2 * k) (and_left (ltb n (2 * k)) _ b);
          not_more = leb-true k n (and_right (ltb n (2 * k)) (leb k n) b);
        },
    λ p. and_both (leb 1 n) _ (le-leb 1 n p.least)
        (and_both (leb n 32) _ (le-leb n 32 p.most) (and_both (ltb n (2 * k)) (leb k n) (lt-ltb n (2 * k) p.over-half) (le-leb k n p.not_more))),
  )

  -- the ways out of the test
  pub refused-by : (Permitted n k → ⊥) → false ≡ permitted n k
  refused-by h = sym (false_from_ne_true (permitted n k) (λ e. h (permitted-exactly.0 e)))

  pub by-half : 1 ≤ n → n ≤ 32 → k ≤ n → ltb n (2 * k) ≡ permitted n k
  unfolding permitted
  by-half h m l = simp (le-leb 1 n h, le-leb n 32 m, le-leb k n l, and-true (ltb n (2 * k)))

-- "Document 003's sizes up to 32, for N = 2f + 1 with k = f + 1"
pub sizes_2f : (f : ℕ) → 2 * f + 1 ≤ 32 → permitted (2 * f + 1) (f + 1) ≡ true
sizes_2f f h = (permitted-exactly (2 * f + 1) (f + 1)).1 (record { least = omega arith; most = h; over-half = omega arith; not_more = omega arith })

-- "and for N = 3f + 1 with k = 2f + 1, are among them"
pub sizes_3f : (f : ℕ) → 3 * f + 1 ≤ 32 → permitted (3 * f + 1) (2 * f + 1) ≡ true
sizes_3f f h = (permitted-exactly (3 * f + 1) (2 * f + 1)).1 (record { least = omega arith; most = h; over-half = omega arith; not_more = omega arith })

-- document 01's stations: "N odd, 1 to 31", of which "(N + 1)/2 distinct members" are needed
pub majorities : (n : ℕ) → n % 2 ≡ 1 → n ≤ 31 → permitted n ((n + 1) / 2) ≡ true
majorities n o h = (permitted-exactly n ((n + 1) / 2)).1 (record { least = omega arith; most = omega arith; over-half = omega arith; not_more = omega arith })
