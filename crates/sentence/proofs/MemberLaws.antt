-- The members of a mask: exactly its bits, rising, and they give the mask.
use Prim.Native.Nat.{ℕ, zero, suc, ◌+◌, ◌*◌, ◌/◌, ◌%◌, ◌^◌, ◌≤◌, ◌<◌}
use mathlib.Core.Path.{◌≡◌, refl, sym, ap, subst, ◌∙◌}
use mathlib.Core.Logic.{◌⊎◌, inl, inr, ◌↔◌, ◌≢◌}
use mathlib.Core.Bool.{Bool, true, false, cond}
use mathlib.Core.List.{List, [], ◌∷◌, ◌++◌, append-nil}
use native.Mathlib.Omega.{arith}
use native.Mathlib.Nat.{mod-eq_of_lt}
use lib.Dec.{eqb}
use lib.Pow.{mod-pow-add}
use borrow.Author.Tests.{eqb-true, eqb-false, eq-eqb}
use Rattle.octets.proofs.Tests.{equal_or_not}
use Rattle.table.proofs.Lists.{In, in_left, in_right, in-cases}
use Rattle.sentence.specs.Sentence.{members_below}

-- each number is above the one before it
abbrev pub RisingFrom : ℕ → List ℕ → Type 0
RisingFrom low [] = Unit {0}
RisingFrom low (n ∷ ns) = (low ≤ n) × RisingFrom (suc n) ns

-- every number is below n
abbrev pub Below : ℕ → List ℕ → Type 0
Below n [] = Unit {0}
Below n (m ∷ ms) = (m < n) × Below n ms

pub below-weaker : (n k : ℕ) (l : List ℕ) → n ≤ k → Below n l → Below k l
below-weaker n k [] h b = tt
below-weaker n k (m ∷ l) h b = (let q = b.0 in omega arith, below-weaker n k l h b.1)

below-append : (n : ℕ) (a b : List ℕ) → Below n a → Below n b → Below n (a ++ b)
below-append n [] b p q = q
below-append n (m ∷ a) b p q = (p.0, below-append n a b p.1 q)

abbrev last : ℕ → Bool → List ℕ
last n t = cond t (n ∷ []) []

pub members-below : (n mask : ℕ) → Below n (members_below n mask)
unfolding members_below
members-below zero mask = tt
members-below (suc n) mask = below-append (suc n) (members_below n mask) _ (below-weaker n (suc n) (members_below n mask) (omega arith) (members-below n mask)) (go (eqb (mask / 2 ^ n % 2) 1))
  where
    go : (t : Bool) → Below (suc n) (last n t)
    go true = (omega arith, tt)
    go false = tt

listed : (n i mask : ℕ) → In i (members_below n mask) → (i < n) × (mask / 2 ^ i % 2 ≡ 1)
unfolding members_below
listed zero i mask h = absurd h
listed (suc n) i mask h = either (in-cases i (members_below n mask) _ h) (listed n i mask)
  where
    only : (t : Bool) → eqb (mask / 2 ^ n % 2) 1 ≡ t → In i (last n t) → (i < suc n) × (mask / 2 ^ i % 2 ≡ 1)
    only true e (inl q) = (omega arith, ap (λ (j : ℕ). mask / 2 ^ j % 2) q ∙ eqb-true (mask / 2 ^ n % 2) 1 e)
    only true e (inr q) = absurd q
    only false e q = absurd q

    either : In i (members_below n mask) ⊎ In i (last n (eqb (mask / 2 ^ n % 2) 1)) → (In i (members_below n mask) → (i < n) × (mask / 2 ^ i % 2 ≡ 1)) → (i < suc n) × (mask / 2 ^ i % 2 ≡ 1)
    either (inl q) ih = (let b = (ih q).0 in omega arith, (ih q).1)
    either (inr q) ih = only (eqb (mask / 2 ^ n % 2) 1) refl q

member : (n i mask : ℕ) → i < n → mask / 2 ^ i % 2 ≡ 1 → In i (members_below n mask)
unfolding members_below
member zero i mask h e = absurd (omega arith)
member (suc n) i mask h e = go (equal_or_not i n) (member n i mask)
  where
    go : (i ≡ n) ⊎ (i ≡ n → ⊥) → (i < n → mask / 2 ^ i % 2 ≡ 1 → In i (members_below n mask)) → In i (members_below n mask ++ last n (eqb (mask / 2 ^ n % 2) 1))
    go (inl q) ih =
        let t : eqb (mask / 2 ^ n % 2) 1 ≡ true = eq-eqb (mask / 2 ^ n % 2) 1 (ap (λ (j : ℕ). mask / 2 ^ j % 2) (sym q) ∙ e) in
        in_right i (members_below n mask) _ (subst (λ (b : Bool). In i (last n b)) (sym t) (inl q))
    go (inr q) ih = let w : i ≢ n = q in in_left i (members_below n mask) _ (ih (omega arith) e)

-- "the member list, by places in the roster counted from 0": it has i exactly where bit i of the mask is set
pub members_exactly : (i mask : ℕ) → In i (members_below 32 mask) ↔ ((i < 32) × (mask / 2 ^ i % 2 ≡ 1))
members_exactly i mask = (listed 32 i mask, λ h. member 32 i mask h.0 h.1)

rising-end : (low n : ℕ) (l : List ℕ) → RisingFrom low l → Below n l → low ≤ n → RisingFrom low (l ++ (n ∷ []))
rising-end low n [] r b h = (h, tt)
rising-end low n (m ∷ l) r b h = (r.0, rising-end (suc m) n l r.1 b.1 b.0)

-- and in rising order, so none twice
pub members-rising : (n mask : ℕ) → RisingFrom 0 (members_below n mask)
unfolding members_below
members-rising zero mask = tt
members-rising (suc n) mask = go (eqb (mask / 2 ^ n % 2) 1) (members-rising n mask)
  where
    go : (t : Bool) → RisingFrom 0 (members_below n mask) → RisingFrom 0 (members_below n mask ++ last n t)
    go true r = rising-end 0 n (members_below n mask) r (members-below n mask) (omega arith)
    go false r = subst (RisingFrom 0) (sym (append-nil (members_below n mask))) r

-- ---- the members of a mask give the mask

unfoldable total : List ℕ → ℕ
total [] = 0
total (n ∷ ns) = 2 ^ n + total ns

total-append : (a b : List ℕ) → total (a ++ b) ≡ total a + total b
unfolding total
total-append [] b = omega arith
total-append (n ∷ a) b = let h = total-append a b in omega arith

total-members : (n m : ℕ) → total (members_below n m) ≡ m % 2 ^ n
unfolding members_below total
total-members zero m = omega arith
total-members (suc n) m =
    let h = total-members n m in
    let j : suc n ≡ 1 + n = omega arith in
    let e : m % 2 ^ suc n ≡ m / 2 ^ n % 2 ^ 1 * 2 ^ n + m % 2 ^ n = ap (λ (i : ℕ). m % 2 ^ i) j ∙ mod-pow-add m 1 n in
    total-append (members_below n m) _ ∙ go (eqb (m / 2 ^ n % 2) 1) refl e h
  where
    go : (t : Bool) → eqb (m / 2 ^ n % 2) 1 ≡ t → m % 2 ^ suc n ≡ m / 2 ^ n % 2 ^ 1 * 2 ^ n + m % 2 ^ n → total (members_below n m) ≡ m % 2 ^ n → total (members_below n m) + total (last n t) ≡ m % 2 ^ suc n
    go true q e h = let b : m / 2 ^ n % 2 ^ 1 ≡ 1 = eqb-true (m / 2 ^ n % 2) 1 q in let z : m / 2 ^ n % 2 ^ 1 * 2 ^ n ≡ 1 * 2 ^ n = ap (λ (x : ℕ). x * 2 ^ n) b in omega arith
    go false q e h = let w = eqb-false (m / 2 ^ n % 2) 1 q in let b : m / 2 ^ n % 2 ^ 1 ≡ 0 = omega arith in let z : m / 2 ^ n % 2 ^ 1 * 2 ^ n ≡ 0 * 2 ^ n = ap (λ (x : ℕ). x * 2 ^ n) b in omega arith

pub mask_is : (m k : ℕ) → m < 2 ^ 32 → k < 2 ^ 32 → members_below 32 m ≡ members_below 32 k → m ≡ k
mask_is m k hm hk e = sym (mod-eq_of_lt hm) ∙ sym (total-members 32 m) ∙ ap total e ∙ total-members 32 k ∙ mod-eq_of_lt hk
