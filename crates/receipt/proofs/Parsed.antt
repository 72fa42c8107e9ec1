-- What `ok_or(why)?` hands on, or refuses; of a slice read as an array of n by `as_array` or `as_mut_array`, that its length is n or another.
use Prim.Native.Nat.{ℕ}
use mathlib.Core.Path.{◌≡◌, ap, subst, ◌∙◌}
use mathlib.Core.Logic.{◌≢◌}
use mathlib.Core.List.{List}
use lib.ListN.{length}
use Rattle.std.specs.Borrow.{Bor, MutBor}
use Rattle.std.specs.Prelude.{Option, Some, None, Result, Ok, Err, MatchOption, IsErrAnd, ok_or}
use Rattle.std.specs.Array.{IsWholeChunk}
use Rattle.refusal.specs.declared.Refusal.{Refusal}
use Rattle.refusal.specs.declared.Refused.{Refused}
use Rattle.refusal.specs.Work.{unhashed}

-- of an option that says `no` or `yes x`
module _ {A : Type 0} (no : Type 0) (yes : A → Type 0) (why : Refusal) where
  pub there : (o : Option A) (x : A) {r : Result A Refusal} → MatchOption o no yes → r ≡ ok_or o why → r ≡ Ok x → yes x
  there None x h e f = absurd cc
  there (Some y) x h e f = let z : y ≡ x = cc in subst yes z h

  pub missing : {T : Type 0} (o : Option A) (w : Refusal) {r : Result A Refusal} (result : Result T Refused)
      → MatchOption o no yes → r ≡ ok_or o why → r ≡ Err w → IsErrAnd result (λ e. e ≡ unhashed w) → (result ≡ Err (unhashed why)) × no
  missing None w (Ok x) h e f g = absurd g
  missing None w (Err x) h e f g = let z : w ≡ why = cc in (ap Err (g ∙ ap unhashed z), h)
  missing (Some y) w result h e f g = absurd cc

-- the reference that comes back is a B with the bytes `now`
module _ {B : Type 0} (now : B → List ℕ) (l : List ℕ) (n : ℕ) (why : Refusal) where
  read : (o : Option B) (x : B) {r : Result B Refusal} → MatchOption o (length l ≢ n) (λ y. IsWholeChunk l (now y) n)
      → r ≡ ok_or o why → r ≡ Ok x → (now x ≡ l) × (length l ≡ n)
  read o x h e f = let t = there (length l ≢ n) (λ y. IsWholeChunk l (now y) n) why o x h e f in (t.same, t.long)

  unread : {T : Type 0} (o : Option B) (w : Refusal) {r : Result B Refusal} (result : Result T Refused)
      → MatchOption o (length l ≢ n) (λ y. IsWholeChunk l (now y) n) → r ≡ ok_or o why → r ≡ Err w → IsErrAnd result (λ e. e ≡ unhashed w)
      → (result ≡ Err (unhashed why)) × (length l ≡ n → ⊥)
  unread o w result h e f g = missing (length l ≢ n) (λ y. IsWholeChunk l (now y) n) why o w result h e f g

module _ (l : List ℕ) (n : ℕ) (why : Refusal) where
  pub parsed : (o : Option (Bor (List ℕ))) (x : Bor (List ℕ)) {r : Result (Bor (List ℕ)) Refusal} → MatchOption o (length l ≢ n) (λ y. IsWholeChunk l y.now n)
      → r ≡ ok_or o why → r ≡ Ok x → (x.now ≡ l) × (length l ≡ n)
  parsed = read (λ (b : Bor (List ℕ)). b.now) l n why

  pub unparsed : {T : Type 0} (o : Option (Bor (List ℕ))) (w : Refusal) {r : Result (Bor (List ℕ)) Refusal} (result : Result T Refused)
      → MatchOption o (length l ≢ n) (λ y. IsWholeChunk l y.now n) → r ≡ ok_or o why → r ≡ Err w → IsErrAnd result (λ e. e ≡ unhashed w)
      → (result ≡ Err (unhashed why)) × (length l ≡ n → ⊥)
  unparsed = unread (λ (b : Bor (List ℕ)). b.now) l n why

  pub parsed_mut : (o : Option (MutBor (List ℕ))) (x : MutBor (List ℕ)) {r : Result (MutBor (List ℕ)) Refusal} → MatchOption o (length l ≢ n) (λ y. IsWholeChunk l y.now n)
      → r ≡ ok_or o why → r ≡ Ok x → (x.now ≡ l) × (length l ≡ n)
  parsed_mut = read (λ (b : MutBor (List ℕ)). b.now) l n why

  pub unparsed_mut : {T : Type 0} (o : Option (MutBor (List ℕ))) (w : Refusal) {r : Result (MutBor (List ℕ)) Refusal} (result : Result T Refused)
      → MatchOption o (length l ≢ n) (λ y. IsWholeChunk l y.now n) → r ≡ ok_or o why → r ≡ Err w → IsErrAnd result (λ e. e ≡ unhashed w)
      → (result ≡ Err (unhashed why)) × (length l ≡ n → ⊥)
  unparsed_mut = unread (λ (b : MutBor (List ℕ)). b.now) l n why
