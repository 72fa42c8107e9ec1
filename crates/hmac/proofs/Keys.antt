-- Key blocks: zero bytes after a key, and a function applied byte by byte in place.
use mathlib.Core.Path.{◌≡◌, sym, ap, ◌∙◌}
use Prim.Native.Nat.{ℕ, suc, ◌≤◌, ◌<◌}
use native.Mathlib.Nat.{zero-add}
use native.Mathlib.Omega.{arith}
use Rattle.std.proofs.lemmas.List.{drop-replicate}
use mathlib.Core.List.{List, [], ◌∷◌, ◌++◌, map, map-append}
use lib.ListN.{length, get_or, take, drop, set, replicate, length-map}
use lib.Seq.{drop-cons, take-suc, get_or_at, set_at, append_snoc, length-take-le}
use borrow.Author.Tests.{le-leb, lt-leb}
use Rattle.octets.specs.Octets.{splice, zeros}
use Rattle.sha256.specs.Sha256.{sha256}
use Rattle.hmac.specs.Hmac.{short_key, padded}

-- bytes at the start of a block of zeros
pub padded-is : (k : List ℕ) → splice (replicate 64 0) 0 k ≡ padded k
unfolding splice padded zeros
padded-is k = ap (λ (l : List ℕ). k ++ l) (ap (λ (n : ℕ). drop n (replicate 64 0)) (zero-add (length k)) ∙ drop-replicate (length k) 64 0)

pub short-key : (key : List ℕ) → length key ≤ 64 → key ≡ short_key key
unfolding short_key
short-key key h = simp (le-leb (length key) 64 h)

pub long-key : (key : List ℕ) → 64 < length key → sha256 key ≡ short_key key
unfolding short_key
long-key key h = simp (lt-leb (length key) 64 h)

-- one more element mapped in place
pub map-step : (f : ℕ → ℕ) (b : List ℕ) (i : ℕ) → i < length b
    → set (map f (take i b) ++ drop i b) i (f (get_or (map f (take i b) ++ drop i b) i 0)) ≡ map f (take (suc i) b) ++ drop (suc i) b
map-step f b i h =
    let p : List ℕ = map f (take i b) in
    let y : ℕ = get_or b i 0 in
    let t : List ℕ = drop (suc i) b in
    let size : length p ≡ i = length-map (take i b) f ∙ length-take-le i b (omega arith) in
    ap (λ (l : List ℕ). set (p ++ l) i (f (get_or (p ++ l) i 0))) (drop-cons b i 0 h)
    ∙ ap (λ (z : ℕ). set (p ++ y ∷ t) i (f z)) (get_or_at p y t 0 i size)
    ∙ set_at p y t (f y) i size
    ∙ sym (append_snoc p (f y) t)
    ∙ ap (λ (l : List ℕ). l ++ t) (sym (map-append f (take i b) (y ∷ [])) ∙ ap (map f) (sym (take-suc b i 0 h)))
