-- Laws of `tabulate` and `flat`: the element at an index, an element set, and elements of n bytes each, whose i-th stands at n * i.
use Prim.Native.Nat.{ℕ, zero, suc, ◌+◌, ◌*◌, ◌≤◌, ◌<◌}
use mathlib.Core.Path.{◌≡◌, refl, sym, ap, ap₂, ◌∙◌}
use mathlib.Core.List.{List, [], ◌∷◌, ◌++◌}
use native.Mathlib.Nat.{not-suc-le-zero, le_of_suc-le-suc, mul-zero}
use native.Mathlib.Omega.{arith}
use lib.ListN.{length, get_or, set, length-append}
use lib.Seq.{take_at}
use Rattle.octets.specs.Octets.{part, splice}
use Rattle.octets.proofs.Parts.{part-append-right, part-add, splice-left, splice-right}
use Rattle.layout.specs.Lists.{tabulate, flat}

module _ {ℓ} {A : Type ℓ} where
  pub length-tabulate : (n : ℕ) (f : ℕ → A) → length (tabulate n f) ≡ n
  unfolding tabulate
  length-tabulate zero f = refl
  length-tabulate (suc n) f = ap suc (length-tabulate n (λ k. f (suc k)))

  pub get_or-tabulate : (n : ℕ) (f : ℕ → A) (i : ℕ) (d : A) → i < n → get_or (tabulate n f) i d ≡ f i
  unfolding tabulate
  get_or-tabulate zero f i d h = absurd (not-suc-le-zero h)
  get_or-tabulate (suc n) f zero d h = refl
  get_or-tabulate (suc n) f (suc i) d h = get_or-tabulate n (λ k. f (suc k)) i d (le_of_suc-le-suc h)

  pub tabulate-ext : (n : ℕ) (f g : ℕ → A) → ((i : ℕ) → i < n → f i ≡ g i) → tabulate n f ≡ tabulate n g
  unfolding tabulate
  tabulate-ext zero f g h = refl
  tabulate-ext (suc n) f g h =
      ap₂ {C = List A} (λ (x : A) (l : List A). x ∷ l) (h zero (omega arith)) (tabulate-ext n (λ k. f (suc k)) (λ k. g (suc k)) (λ i k. h (suc i) (omega arith)))

  pub tabulate-get_or : (l : List A) (d : A) → tabulate (length l) (λ i. get_or l i d) ≡ l
  unfolding tabulate
  tabulate-get_or [] d = refl
  tabulate-get_or (x ∷ l) d = ap {B = List A} (λ (t : List A). x ∷ t) (tabulate-get_or l d)

  -- what holds of every element holds of them after one is set
  pub every_set : (P : A → Type 0) (l : List A) (i : ℕ) (x d : A) → ((j : ℕ) → P (get_or l j d)) → P x → (j : ℕ) → P (get_or (set l i x) j d)
  every_set P [] i x d h k j = h j
  every_set P (y ∷ l) zero x d h k zero = k
  every_set P (y ∷ l) zero x d h k (suc j) = h (suc j)
  every_set P (y ∷ l) (suc i) x d h k zero = h zero
  every_set P (y ∷ l) (suc i) x d h k (suc j) = every_set P l i x d (λ m. h (suc m)) k j

  -- what holds of each f i, and of the default, holds of every element
  pub every-tabulate : (P : A → Type 0) (n : ℕ) (f : ℕ → A) (d : A) → P d → ((i : ℕ) → i < n → P (f i)) → (j : ℕ) → P (get_or (tabulate n f) j d)
  unfolding tabulate
  every-tabulate P zero f d k h j = k
  every-tabulate P (suc n) f d k h zero = h zero (omega arith)
  every-tabulate P (suc n) f d k h (suc j) = every-tabulate P n (λ i. f (suc i)) d k (λ i l. h (suc i) (omega arith)) j

  module _ (f : A → List ℕ) (n : ℕ) (d : A) where
    pub length-flat : (l : List A) → ((i : ℕ) → length (f (get_or l i d)) ≡ n) → length (flat f l) ≡ n * length l
    unfolding flat
    length-flat [] h = omega arith
    length-flat (x ∷ l) h = rw length-append (omega (arith, h 0, length-flat l (λ i. h (suc i))))

    pub part-flat : (l : List A) (i : ℕ) → ((i : ℕ) → length (f (get_or l i d)) ≡ n) → i < length l → part (flat f l) (n * i) n ≡ f (get_or l i d)
    unfolding flat
    part-flat [] i h k = absurd (not-suc-le-zero k)
    part-flat (x ∷ l) zero h k = ap (λ (a : ℕ). part (f x ++ flat f l) a n) (mul-zero n) ∙ take_at (f x) (flat f l) n (h 0)
    part-flat (x ∷ l) (suc i) h k =
        let e : length (f x) ≡ n = h 0 in
        let e₂ : n * suc i ≡ length (f x) + n * i = omega arith in
        ap (λ (a : ℕ). part (f x ++ flat f l) a n) e₂
        ∙ part-append-right (f x) (flat f l) (n * i) n
        ∙ part-flat l i (λ j. h (suc j)) (omega arith)

    -- a splice inside element i makes it y
    pub splice-flat : (l : List A) (i a : ℕ) (x : List ℕ) (y : A) → ((i : ℕ) → length (f (get_or l i d)) ≡ n) → i < length l → a + length x ≤ n
        → f y ≡ splice (f (get_or l i d)) a x → splice (flat f l) (n * i + a) x ≡ flat f (set l i y)
    unfolding flat
    splice-flat [] i a x y h k s e = absurd (not-suc-le-zero k)
    splice-flat (z ∷ l) zero a x y h k s e =
        let q : length (f z) ≡ n = h 0 in
        let o : n * 0 + a ≡ a = omega arith in
        ap (λ (b : ℕ). splice (f z ++ flat f l) b x) o ∙ splice-left (f z) (flat f l) a x (omega arith) ∙ ap (λ (p : List ℕ). p ++ flat f l) (sym e)
    splice-flat (z ∷ l) (suc i) a x y h k s e =
        let q : length (f z) ≡ n = h 0 in
        let o : n * suc i + a ≡ length (f z) + (n * i + a) = omega arith in
        ap (λ (b : ℕ). splice (f z ++ flat f l) b x) o
        ∙ splice-right (f z) (flat f l) (n * i + a) x
        ∙ ap (λ (p : List ℕ). f z ++ p) (splice-flat l i a x y (λ j. h (suc j)) (omega arith) s e)

    -- elements read off n bytes each, written again
    pub flat-tabulate : (b : List ℕ) (k o : ℕ) (g : ℕ → A) → ((i : ℕ) → i < k → f (g i) ≡ part b (o + n * i) n) → flat f (tabulate k g) ≡ part b o (n * k)
    unfolding flat tabulate
    flat-tabulate b zero o g h = ap (part b o) (sym (mul-zero n))
    flat-tabulate b (suc k) o g h =
        let e : o + n * 0 ≡ o = omega arith in
        let z : n * suc k ≡ n + n * k = omega arith in
        ap₂ (λ (p q : List ℕ). p ++ q) (h zero (omega arith) ∙ ap (λ (a : ℕ). part b a n) e)
        (flat-tabulate b k (o + n) (λ i. g (suc i)) (λ i l. h (suc i) (omega arith) ∙ ap (λ (a : ℕ). part b a n) (shift i)))
        ∙ sym (ap (part b o) z ∙ part-add b o n (n * k))
      where
        shift : (i : ℕ) → o + n * suc i ≡ o + n + n * i
        shift i = omega arith
