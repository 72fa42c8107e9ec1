-- Facts on lists: members, no element twice, the last element; distinct numbers below n are no more than n.
use Prim.Native.Nat.{ℕ, zero, suc, ◌≤◌, ◌<◌, zero-le}
use mathlib.Core.Path.{◌≡◌, refl, sym, ◌∙◌}
use mathlib.Core.Logic.{◌⊎◌, inl, inr, ◌≢◌}
use mathlib.Core.List.{List, [], ◌∷◌, ◌++◌}
pub use mathlib.Core.List.{map-append}
use mathlib.Core.Bool.{Bool, true, false, cond}
use native.Mathlib.Omega.{arith}
use lib.ListN.{length}
use lib.Dec.{eqb}
use borrow.Author.Tests.{eqb-true, eqb-false}
use Rattle.table.specs.Chains.{last_of}

-- a member of a list
abbrev pub In : {A : Type 0} → A → List A → Type 0
In a [] = ⊥
In a (x ∷ xs) = (a ≡ x) ⊎ In a xs

pub in_left : {A : Type 0} (a : A) (c d : List A) → In a c → In a (c ++ d)
in_left a (x ∷ c) d (inl e) = inl e
in_left a (x ∷ c) d (inr h) = inr (in_left a c d h)
in_left {A = A} a [] d x' = elim x' [ ]

pub in_right : {A : Type 0} (a : A) (c d : List A) → In a d → In a (c ++ d)
in_right a [] d h = h
in_right a (x ∷ c) d h = inr (in_right a c d h)

pub in-cases : {A : Type 0} (a : A) (c d : List A) → In a (c ++ d) → In a c ⊎ In a d
in-cases a [] d h = inr h
in-cases a (x ∷ c) d (inl e) = inl (inl e)
in-cases a (x ∷ c) d (inr h) = go (in-cases a c d h)
  where
    go : In a c ⊎ In a d → In a (x ∷ c) ⊎ In a d
    go (inl p) = inl (inr p)
    go (inr q) = inr q

-- no element twice
abbrev pub Distinct : List ℕ → Type 0
Distinct [] = Unit {0}
Distinct (x ∷ xs) = (In x xs → ⊥) × Distinct xs

pub in-append-apart : (x : ℕ) (c d : List ℕ) → Distinct (c ++ d) → In x c → In x d → ⊥
in-append-apart x (y ∷ c) d h (inl e) k = h.0 (rw e at (in_right x c d k))
in-append-apart x (y ∷ c) d h (inr m) k = in-append-apart x c d h.1 m k
in-append-apart x [] d h x4 k = elim x4 [ ]

-- a list is empty or has a last element
pub data Snoc : List ℕ → Type 0 where
  nothing : Snoc []
  ending : (c : List ℕ) (z : ℕ) → Snoc (c ++ (z ∷ []))

pub snoc : (c : List ℕ) → Snoc c
snoc [] = nothing
snoc (x ∷ c) = go c (snoc c)
  where
    go : (d : List ℕ) → Snoc d → Snoc (x ∷ d)
    go d nothing = ending [] x
    go d (ending c z) = ending (x ∷ c) z

pub last_of-nil : last_of [] ≡ 0
unfolding last_of
last_of-nil = refl

pub last_of_snoc : (c : List ℕ) (z : ℕ) → last_of (c ++ (z ∷ [])) ≡ z
unfolding last_of
last_of_snoc [] z = refl
last_of_snoc (x ∷ []) z = refl
last_of_snoc (x ∷ y ∷ c) z = last_of_snoc (y ∷ c) z

pub in-last : (c : List ℕ) → (last_of c ≡ 0) ⊎ In (last_of c) c
unfolding last_of
in-last [] = inl refl
in-last (x ∷ []) = inr (inl refl)
in-last (x ∷ y ∷ c) = go (in-last (y ∷ c))
  where
    go : (last_of (y ∷ c) ≡ 0) ⊎ In (last_of (y ∷ c)) (y ∷ c) → (last_of (y ∷ c) ≡ 0) ⊎ In (last_of (y ∷ c)) (x ∷ y ∷ c)
    go (inl e) = inl e
    go (inr m) = inr (inr m)

without : ℕ → List ℕ → List ℕ
without x [] = []
without x (y ∷ ys) = cond (eqb x y) (without x ys) (y ∷ without x ys)

in_without : (y x : ℕ) (c : List ℕ) → In y (without x c) → In y c × (y ≢ x)
unfolding without
in_without y x [] m = elim m [ ]
in_without y x (z ∷ c) m = go (eqb x z) refl m (λ (q : In y (without x c)). in_without y x c q)
  where
    go : (t : Bool) → eqb x z ≡ t → In y (cond t (without x c) (z ∷ without x c)) → (In y (without x c) → In y c × (y ≢ x)) → In y (z ∷ c) × (y ≢ x)
    go true e q below = (inr (below q).0, (below q).1)
    go false e (inl q) below = (inl q, λ (p : y ≡ x). eqb-false x z e (sym p ∙ q))
    go false e (inr q) below = (inr (below q).0, (below q).1)

distinct_without : (x : ℕ) (c : List ℕ) → Distinct c → Distinct (without x c)
unfolding without
distinct_without x [] d = tt
distinct_without x (z ∷ c) d = go (eqb x z) (distinct_without x c d.1)
  where
    go : (t : Bool) → Distinct (without x c) → Distinct (cond t (without x c) (z ∷ without x c))
    go true ih = ih
    go false ih = (λ (m : In z (without x c)). d.0 (in_without z x c m).0, ih)

length_missing : (x : ℕ) (c : List ℕ) → (In x c → ⊥) → length c ≤ length (without x c)
unfolding without
length_missing x [] n = zero-le
length_missing x (z ∷ c) n = go (eqb x z) refl (length_missing x c (λ (m : In x c). n (inr m)))
  where
    go : (t : Bool) → eqb x z ≡ t → length c ≤ length (without x c) → suc (length c) ≤ length (cond t (without x c) (z ∷ without x c))
    go true e ih = absurd (n (inl (eqb-true x z e)))
    go false e ih = omega arith

length_without : (x : ℕ) (c : List ℕ) → Distinct c → length c ≤ suc (length (without x c))
unfolding without
length_without x [] d = zero-le
length_without x (z ∷ c) d = go (eqb x z) refl (length_without x c d.1)
  where
    go : (t : Bool) → eqb x z ≡ t → length c ≤ suc (length (without x c)) → suc (length c) ≤ suc (length (cond t (without x c) (z ∷ without x c)))
    go true e ih = let h = length_missing x c (λ (m : In x c). d.0 (rw (eqb-true x z e) at m)) in omega arith
    go false e ih = omega arith

-- distinct numbers below n are no more than n
pub pigeon : (n : ℕ) (c : List ℕ) → Distinct c → ((x : ℕ) → In x c → x < n) → length c ≤ n
pigeon zero [] d h = zero-le
pigeon zero (x ∷ c) d h = absurd (let q = h x (inl refl) in omega arith)
pigeon (suc n) c d h =
    let l = length_without n c d in
    let ih = pigeon n (without n c) (distinct_without n c d) (λ (x : ℕ) (m : In x (without n c)). let r = in_without x n c m in let q = h x r.0 in let p : x ≢ n = r.1 in omega arith) in
    omega arith
