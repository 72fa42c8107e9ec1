-- Laws of `padded`: the first numbers, and zeros where there are fewer.
use Prim.Native.Nat.{ℕ, zero, suc, ◌≤◌, ◌<◌}
use mathlib.Core.Path.{◌≡◌, refl, sym, ap, ◌∙◌}
use mathlib.Core.List.{List, [], ◌∷◌, ◌++◌}
use native.Mathlib.Omega.{arith}
use lib.ListN.{length, take, drop, get_or, set, replicate, length-append, length-replicate}
use lib.Seq.{length-take-le, take-append-le, take-append_seam, take-take, take_at, get_or-take}
use Rattle.octets.specs.Octets.{zeros}
use Rattle.line.specs.Command.{padded}

-- zeros that are not taken
take-zeros : (k j : ℕ) (ns : List ℕ) → k ≤ j → take k (ns ++ zeros j) ≡ take k (ns ++ zeros k)
unfolding zeros
take-zeros zero j ns h = refl
take-zeros (suc k) zero ns h = absurd (omega arith)
take-zeros (suc k) (suc j) [] h = ap {B = List ℕ} (λ (l : List ℕ). 0 ∷ l) (take-zeros k j [] (omega arith))
take-zeros (suc k) (suc j) (n ∷ ns) h = ap {B = List ℕ} (λ (l : List ℕ). n ∷ l) (take-zeros k (suc j) ns (omega arith) ∙ sym (take-zeros k (suc k) ns (omega arith)))

padded-nil : (k : ℕ) → padded (suc k) [] ≡ 0 ∷ padded k []
unfolding padded zeros
padded-nil k = refl

padded-cons : (k n : ℕ) (ns : List ℕ) → padded (suc k) (n ∷ ns) ≡ n ∷ padded k ns
unfolding padded
padded-cons k n ns = ap {B = List ℕ} (λ (l : List ℕ). n ∷ l) (take-zeros k (suc k) ns (omega arith))

pub length-padded : (k : ℕ) (ns : List ℕ) → length (padded k ns) ≡ k
unfolding padded zeros
length-padded k ns = length-take-le k (ns ++ replicate k 0) (omega (arith, length-append ns (replicate k 0), length-replicate {A = ℕ} k 0))

get_or-zeros : (ns : List ℕ) (k i : ℕ) → get_or (ns ++ zeros k) i 0 ≡ get_or ns i 0
unfolding zeros
get_or-zeros [] zero i = refl
get_or-zeros [] (suc k) zero = refl
get_or-zeros [] (suc k) (suc i) = get_or-zeros [] k i
get_or-zeros (n ∷ ns) k zero = refl
get_or-zeros (n ∷ ns) k (suc i) = get_or-zeros ns k i

pub padded-at : (k i : ℕ) (ns : List ℕ) → i < k → get_or (padded k ns) i 0 ≡ get_or ns i 0
unfolding padded
padded-at k i ns h = get_or-take k (ns ++ zeros k) i 0 h ∙ get_or-zeros ns k i

-- as many as are taken
pub padded-all : (k : ℕ) (ns : List ℕ) → length ns ≡ k → padded k ns ≡ ns
unfolding padded
padded-all k ns h = take_at ns (zeros k) k h

pub take-padded : (k : ℕ) (ns : List ℕ) → length ns ≤ k → take (length ns) (padded k ns) ≡ ns
unfolding padded
take-padded k ns h = take-take (length ns) k (ns ++ zeros k) h ∙ take-append_seam ns (zeros k)

-- one more number, where it is kept and where it is not
pub padded-set : (k : ℕ) (ns : List ℕ) (v : ℕ) → length ns < k → set (padded k ns) (length ns) v ≡ padded k (ns ++ (v ∷ []))
padded-set zero ns v h = absurd (omega arith)
padded-set (suc k) [] v h = ap (λ (l : List ℕ). set l 0 v) (padded-nil k) ∙ sym (padded-cons k v [])
padded-set (suc k) (n ∷ ns) v h =
    ap (λ (l : List ℕ). set l (suc (length ns)) v) (padded-cons k n ns)
    ∙ ap {B = List ℕ} (λ (l : List ℕ). n ∷ l) (padded-set k ns v (omega arith))
    ∙ sym (padded-cons k n (ns ++ (v ∷ [])))

pub padded-full : (k : ℕ) (ns : List ℕ) (v : ℕ) → k ≤ length ns → padded k ns ≡ padded k (ns ++ (v ∷ []))
unfolding padded
padded-full k ns v h =
    take-append-le k ns (zeros k) h
    ∙ sym (take-append-le k (ns ++ (v ∷ [])) (zeros k) (omega (arith, length-append ns (v ∷ []))) ∙ take-append-le k ns (v ∷ []) h)

-- the numbers after the first three
pub padded-three : (ns : List ℕ) → drop 3 (padded 19 ns) ≡ padded 16 (drop 3 ns)
unfolding padded zeros
padded-three [] = refl
padded-three (a ∷ []) = refl
padded-three (a ∷ b ∷ []) = refl
padded-three (a ∷ b ∷ c ∷ ns) = take-zeros 16 19 ns (omega arith)
