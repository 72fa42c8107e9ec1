-- What is written or read in parts.
use Rattle.std.proofs.Common.{◌≡◌, ◌≤◌, ℕ, ◌+◌, ◌-◌, List, ◌++◌, Option, None, Some, sym, ap, subst, ◌∙◌, append_assoc, length, take, drop, le_refl, drop_at, length-take-le}
use Rattle.std.specs.Io.KnownBytes.{Appends, Consumes}
use Rattle.std.proofs.lemmas.List.{take_rest}
use Rattle.std.proofs.lemmas.Slice.{take-put_mid_below}
use borrow.Rule.Slice.PartMut.{put_mid, post_of}
use lib.Seq.{take-add, take-append-le}

pub appends_then : (a b c : Option (List ℕ)) (x y : List ℕ) → Appends a b x → Appends b c y → Appends a c (x ++ y)
appends_then None b c x y p q = tt
appends_then (Some u) None c x y p q = absurd p
appends_then (Some u) (Some v) None x y p q = absurd q
appends_then (Some u) (Some v) (Some w) x y p q = q ∙ ap (λ (l : List ℕ). l ++ y) p ∙ append_assoc u x y

pub consumes_then : (a b c : Option (List ℕ)) (x y : List ℕ) → Consumes a b x → Consumes b c y → Consumes a c (x ++ y)
consumes_then None b c x y p q = tt
consumes_then (Some u) None c x y p q = absurd p
consumes_then (Some u) (Some v) None x y p q = absurd q
consumes_then (Some u) (Some v) (Some w) x y p q = p ∙ ap (λ (l : List ℕ). x ++ l) q ∙ sym (append_assoc x y w)

-- the first k bytes, and then n of the rest
pub appends_more : (a b c : Option (List ℕ)) (l : List ℕ) (k n : ℕ) → Appends a b (take k l) → Appends b c (take n (take (length l - k) (drop k l))) → Appends a c (take (k + n) l)
appends_more a b c l k n p q =
    let r : take n (take (length l - k) (drop k l)) ≡ take n (drop k l) = ap (take n) (take_rest l k) in
    subst (Appends a c) (ap (λ (t : List ℕ). take k l ++ t) r ∙ sym (take-add k n l)) (appends_then a b c (take k l) (take n (take (length l - k) (drop k l))) p q)

-- k bytes stand at the start, and n of those put behind them
put_more : (k m n : ℕ) (l x : List ℕ) → k ≤ length l → n ≤ length x → take (k + n) (put_mid k m l x) ≡ take k l ++ take n x
put_more k m n l x h e =
    take-add k n (put_mid k m l x)
    ∙ ap (λ (t : List ℕ). t ++ take n (drop k (put_mid k m l x))) (take-put_mid_below k m l x k (le_refl k) h)
    ∙ ap (λ (t : List ℕ). take k l ++ t) (ap (take n) (drop_at (take k l) (x ++ post_of k m l) k (length-take-le k l h)) ∙ take-append-le n x (post_of k m l) e)

pub consumes_more : (a b c : Option (List ℕ)) (k m n : ℕ) (l x : List ℕ) → k ≤ length l → n ≤ length x → Consumes a b (take k l) → Consumes b c (take n x) → Consumes a c (take (k + n) (put_mid k m l x))
consumes_more a b c k m n l x h e p q = subst (Consumes a c) (sym (put_more k m n l x h e)) (consumes_then a b c (take k l) (take n x) p q)
