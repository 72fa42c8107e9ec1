-- The answer beside a certificate's: its refusals and its blocks; and that no two answers are alike.
use mathlib.Core.Path.{◌≡◌, refl, sym, ap, ap₂}
use mathlib.Core.Logic.{◌↔◌, ◌≢◌}
use Prim.Native.Nat.{ℕ}
use native.Mathlib.Omega.{arith}
use mathlib.Core.Bool.{Bool, true, false, not, cond}
use mathlib.Core.List.{List}
use mathlib.Core.Option.{none, some, none-ne-some, some-injective}
use lib.ListN.{length}
use borrow.Author.Tests.{eq-eqb}
use Rattle.refusal.specs.Number.{number_of}
use Rattle.refusal.specs.Order.{first_fault}
use Rattle.refusal.specs.Answer.{Answer}
use Rattle.refusal.proofs.NumberLaws.{number_of-injective, number_of-positive}
use Rattle.roster.specs.Profile.{permitted}
use Rattle.roster.specs.Roster.{is_roster}
use Rattle.quorum.specs.Certificate.{is_certificate, unread, is_none, first_place, certificate_refusal, certificate_blocks}
use Rattle.equivocation.specs.Pairs.{Contradiction, pair_values, contradiction_answer, contradiction_blocks, contradiction_refusal, contradiction_blocks_of}
use Rattle.equivocation.specs.declared.Pair.{Pair}
use Rattle.refusal.specs.declared.Refusal.{Refusal}
use Rattle.std.specs.Prelude.{Option, Some, None, Ok, Err}

module _ (n k : ℕ) (roster pile : List ℕ) where
  module _ (nonce : List ℕ) (sized : length nonce ≡ 32) where
    -- "its blocks are counted as a certificate's"
    pub pile-blocks : contradiction_blocks_of n k roster pile ≡ certificate_blocks n k roster nonce pile
    unfolding contradiction_blocks_of contradiction_refusal certificate_blocks unread first_fault
    pile-blocks = simp (eq-eqb (length nonce) 32 sized)

    -- "The refusals are those of a certificate, 13 excepted"
    pub refused-alike : (log position m : ℕ) → m ≢ 13 → contradiction_refusal n k roster pile ≡ some m ↔ certificate_refusal n k roster nonce log position pile ≡ some m
    unfolding contradiction_refusal certificate_refusal unread first_fault
    refused-alike log position m h =
        simp (eq-eqb (length nonce) 32 sized) (go (permitted n k) (is_roster n roster) (is_certificate pile) (is_none (first_place roster nonce log position pile k)))
      where
        go : (a b c d : Bool) → cond (not a) (some 17) (cond (not b) (some 12) (cond (not c) (some 9) none)) ≡ some m
            ↔ cond (not a) (some 17) (cond (not b) (some 12) (cond (not c) (some 9) (cond d (some 13) none))) ≡ some m
        go false b c d = (λ e. e, λ e. e)
        go true false c d = (λ e. e, λ e. e)
        go true true false d = (λ e. e, λ e. e)
        go true true true false = (λ e. e, λ e. e)
        go true true true true = (λ e. absurd (none-ne-some m e), λ e. absurd (h (sym (some-injective 13 m e))))

pair-injective : (o p : Option Pair) → pair_values o ≡ pair_values p → o ≡ p
pair-injective (Some a) (Some b) h = let f : a.first ≡ b.first = cc in let s : a.second ≡ b.second = cc in λ i. Some (record { first = f i; second = s i })
pair-injective (Some a) None h = let z : ◌≡◌ {A = ℕ} 0 1 = cc in absurd (omega arith)
pair-injective None (Some b) h = let z : ◌≡◌ {A = ℕ} 0 1 = cc in absurd (omega arith)
pair-injective None None h = refl

abbrev hashed : Option Pair → ℕ → Contradiction
hashed o m = Ok (record { value = o; blocks = m })

abbrev refused : Refusal → ℕ → Contradiction
refused w m = Err (record { why = w; blocks = m })

-- no two answers have one number, places and number of blocks
pub contradiction-injective : (s t : Contradiction) → contradiction_answer s ≡ contradiction_answer t → contradiction_blocks s ≡ contradiction_blocks t → s ≡ t
contradiction-injective (Ok x) (Ok y) h e = ap₂ hashed (pair-injective x.value y.value (ap (λ (a : Answer). a.values) h)) e
contradiction-injective (Ok x) (Err y) h e = let u : 0 ≡ number_of y.why = ap (λ (a : Answer). a.number) h in let p = number_of-positive y.why in absurd (omega arith)
contradiction-injective (Err x) (Ok y) h e = let u : number_of x.why ≡ 0 = ap (λ (a : Answer). a.number) h in let p = number_of-positive x.why in absurd (omega arith)
contradiction-injective (Err x) (Err y) h e = ap₂ refused (number_of-injective x.why y.why (ap (λ (a : Answer). a.number) h)) e
