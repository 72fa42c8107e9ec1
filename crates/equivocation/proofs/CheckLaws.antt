-- A receipt checked for its own question: what the program has of a stranger's and of a member's receipt; one mark more; and that the
-- marks are the accepted receipts.
use mathlib.Core.Path.{◌≡◌, refl, sym, ap, ap₂, ◌∙◌}
use mathlib.Core.Logic.{◌≢◌, ⊎_elim}
use Prim.Native.Nat.{ℕ, ◌+◌, ◌<◌}
use native.Mathlib.Omega.{arith}
use mathlib.Core.Bool.{Bool, true, false}
use mathlib.Core.List.{List}
use lib.Dec.{eqb}
use lib.ListN.{length, get_or, set}
use lib.Seq.{get_or-set_same, get_or-set_other}
use borrow.Author.Tests.{eq-eqb, ne_eqb, eqb-true}
use Rattle.octets.proofs.Parts.{length_part}
use Rattle.octets.proofs.Tests.{equal_or_not, and_left, and_right, and_both}
use Rattle.refusal.specs.Number.{number_of}
use Rattle.refusal.specs.Answer.{Answer}
use Rattle.refusal.proofs.NumberLaws.{number_of-positive}
use Rattle.octets.specs.Octets.{same}
use Rattle.receipt.specs.Attestation.{Attestation, LOOKUP, read_attestation}
use Rattle.receipt.specs.Verdict.{Verdict, verdict, verdict_answer}
use Rattle.receipt.specs.declared.Ask.{Ask}
use Rattle.receipt.specs.declared.Ask.TheVariants.{Lookup, End}
use Rattle.receipt.specs.declared.Question.{Question}
use Rattle.roster.specs.Roster.{size, keeper_at, key_at, member, distinct}
use Rattle.std.specs.Prelude.{Option, Some, None, Ok, Err, is_ok}
use Rattle.roster.proofs.RosterLaws.{member_below, member_is}
use Rattle.quorum.specs.Bits.{any_below}
use Rattle.quorum.specs.Certificate.{receipt_at}
use Rattle.quorum.proofs.Masks.{any_at, any_some}
use Rattle.equivocation.specs.Pairs.{own_question, accepted_by, accepted_at}
use Rattle.equivocation.specs.Marks.{checked_under, checked, Marked}

-- two tests that hold of the same are one
both_ways : (a b : Bool) → (a ≡ true → b ≡ true) → (b ≡ true → a ≡ true) → a ≡ b
both_ways true b h k = sym (h refl)
both_ways false true h k = k refl
both_ways false false h k = refl

pub nonce-size : (r : List ℕ) → length r ≡ 160 → length (read_attestation r).nonce ≡ 32
unfolding read_attestation
nonce-size r h = length_part r 32 32 (omega arith)

-- accepted is what the verifier answers 0: a refusal has another number
pub ok-accepts : (v : Verdict) → is_ok v ≡ eqb (verdict_answer v).number 0
ok-accepts (Ok done) = refl
ok-accepts (Err refused) = let n : number_of refused.why ≢ 0 = λ z. let p = number_of-positive refused.why in omega arith in sym (ne_eqb (number_of refused.why) 0 n)

-- what a receipt asks
pub asks-lookup : (a : Attestation) {n : ℕ} → same a.name LOOKUP ≡ true → n ≡ a.position → Lookup n ≡ (own_question a).ask
unfolding own_question
asks-lookup a h e = simp h (ap Lookup e)

pub asks-end : (a : Attestation) → same a.name LOOKUP ≡ false → End ≡ (own_question a).ask
unfolding own_question
asks-end a h = simp h

-- what the program has of a receipt whose keeper number it looked for among n items
module _ (roster r : List ℕ) (n : ℕ) (z : size roster ≡ n) (k : ℕ) (e : k ≡ (read_attestation r).keeper) where
  by-found : (f : Option ℕ) → member roster k n ≡ f → checked_under roster r f ≡ checked roster r
  unfolding checked
  by-found f h = ap (checked_under roster r) (sym h ∙ ap₂ (member roster) e (sym z))

  -- a stranger's
  pub stranger : member roster k n ≡ None → false ≡ checked roster r
  stranger h = by-found None h

  -- the question that was put together is the receipt's own
  own : (l : ℕ) (ask : Ask) → l ≡ (read_attestation r).log → ask ≡ (own_question (read_attestation r)).ask
      → ◌≡◌ {A = Question} (record { keeper = k; log = l; ask = ask }) (own_question (read_attestation r))
  unfolding own_question
  own l ask f g = λ i. record { keeper = e i; log = f i; ask = g i }

  -- a member's
  pub of-member : (i : ℕ) (key nonce : List ℕ) (l : ℕ) (ask : Ask) (v : Verdict) → member roster k n ≡ Some i → key ≡ key_at roster i
      → l ≡ (read_attestation r).log → ask ≡ (own_question (read_attestation r)).ask → nonce ≡ (read_attestation r).nonce
      → verdict_answer v ≡ verdict key r nonce (record { keeper = k; log = l; ask = ask }) → is_ok v ≡ checked roster r
  of-member i key nonce l ask v h s f g o a =
      let q : Question = own_question (read_attestation r) in
      let is : verdict_answer v ≡ verdict (key_at roster i) r (read_attestation r).nonce q =
      a ∙ ap₂ (λ (x : List ℕ) (y : Question). verdict x r nonce y) s (own l ask f g) ∙ ap (λ (x : List ℕ). verdict (key_at roster i) r x q) o in
      ok-accepts v ∙ ap (λ (x : Answer). eqb x.number 0) is ∙ by-found (Some i) h

module _ (roster r : List ℕ) where
  -- accepted by member i: the test taken apart and put together
  pub accepted-apart : (i : ℕ) → accepted_by roster r i ≡ true → (keeper_at roster i ≡ (read_attestation r).keeper) × (checked_under roster r (Some i) ≡ true)
  unfolding accepted_by
  accepted-apart i h = (
    eqb-true (keeper_at roster i) (read_attestation r).keeper (and_left (eqb (keeper_at roster i) (read_attestation r).keeper) _ h),
    and_right (eqb (keeper_at roster i) (read_attestation r).keeper) _ h,
  )

  pub accepted-both : (i : ℕ) → keeper_at roster i ≡ (read_attestation r).keeper → checked_under roster r (Some i) ≡ true → accepted_by roster r i ≡ true
  unfolding accepted_by
  accepted-both i k h = and_both (eqb (keeper_at roster i) (read_attestation r).keeper) _ (eq-eqb (keeper_at roster i) (read_attestation r).keeper k) h

  -- the receipt that is checked is a member's accepted one
  checked-accepted : (f : Option ℕ) → member roster (read_attestation r).keeper (size roster) ≡ f → checked_under roster r f ≡ true → any_below (size roster) (accepted_by roster r) ≡ true
  checked-accepted (Some i) e h =
      let m = member_below roster (read_attestation r).keeper (size roster) i e in
      any_at (size roster) (accepted_by roster r) i m.0 (accepted-both i m.1 h)
  checked-accepted None e h = let z : ◌≡◌ {A = ℕ} 0 1 = cc in absurd (omega arith)

  -- and, keeper numbers being distinct, the other way round
  accepted-checked : distinct roster (size roster) ≡ true → any_below (size roster) (accepted_by roster r) ≡ true → checked roster r ≡ true
  unfolding checked
  accepted-checked d h =
      let m = any_some (size roster) (accepted_by roster r) h in
      let a = accepted-apart m.0 m.2 in
      ap (λ (x : ℕ). checked_under roster r (member roster x (size roster))) (sym a.0) ∙ ap (checked_under roster r) (member_is roster (size roster) m.0 d m.1) ∙ a.1

  checked-is : distinct roster (size roster) ≡ true → checked roster r ≡ any_below (size roster) (accepted_by roster r)
  unfolding checked
  checked-is d = both_ways (checked roster r) (any_below (size roster) (accepted_by roster r)) (checked-accepted (member roster (read_attestation r).keeper (size roster)) refl) (accepted-checked d)

-- a mark says whether its receipt is accepted
pub mark-says : (roster pile : List ℕ) (p : ℕ) (m : Bool) → distinct roster (size roster) ≡ true → m ≡ checked roster (receipt_at pile p) → m ≡ accepted_at roster pile p
unfolding accepted_at
mark-says roster pile p m d h = h ∙ checked-is roster (receipt_at pile p) d

-- one mark more
pub marks-step : (roster pile : List ℕ) (marks : List Bool) (p : ℕ) (m : Bool) {r : List ℕ} → p < length marks → Marked roster pile p marks → r ≡ receipt_at pile p → m ≡ checked roster r
    → Marked roster pile (p + 1) (set marks p m)
marks-step roster pile marks p m l h e g q k =
    ⊎_elim (λ (w : q ≡ p). ap (λ (i : ℕ). get_or (set marks p m) i false) w ∙ get_or-set_same marks p m false l ∙ g ∙ ap (checked roster) (e ∙ ap (receipt_at pile) (sym w)))
    (λ w. get_or-set_other marks p q m false w ∙ h q (omega arith)) (equal_or_not q p)
