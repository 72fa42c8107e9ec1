-- What the screen reads off any bytes, whole or torn; and that no other mark is whole.
use Prim.Native.Nat.{ℕ, ◌≤◌, ◌<◌}
use mathlib.Core.Path.{◌≡◌, refl, ap, ◌∙◌}
use mathlib.Core.List.{List, [], ◌∷◌}
use mathlib.Core.Bool.{Bool, true, false, not}
use mathlib.Core.Logic.{◌≢◌}
use mathlib.Core.Option.{Option, none, some}
use native.Mathlib.Omega.{arith}
use borrow.Author.Tests.{lt-ltb, le-ltb}
use lib.Dec.{ltb}
use lib.ListN.{length}
use Rattle.octets.specs.Octets.{part}
use Rattle.octets.proofs.Same.{eq-same}
use Rattle.refusal.specs.Answer.{Answer, answer, answer_with}
use Rattle.refusal.specs.Order.{fault, first_fault}
use Rattle.refusal.proofs.OrderLaws.{found_first, passes}
use Rattle.layout.specs.Layout.{header_size, mark, stock_of, read_table}
use Rattle.layout.specs.Tests.{marked}
use Rattle.std.proofs.Common.{Result, Ok, Err}
use Rattle.refusal.specs.declared.Refusal.{Refusal}
use Rattle.refusal.proofs.NumberLaws.{number_of-injective, number_of-positive}
use Rattle.table.specs.Conditions.{Whole}
use Rattle.table.specs.Free.{free_chain}
use Rattle.table.specs.Whole.{whole}
use Rattle.table.specs.Screen.{screen_refusal, screen, screen_answer}
use Rattle.table.proofs.ConditionLaws.{whole_conditions}
use Rattle.table.proofs.WholeLaws.{whole-count}

module _ (b : List ℕ) where
  shown : screen_refusal b ≡ none → screen b ≡ answer 0 ((stock_of b).count ∷ [])
  unfolding screen answer_with
  shown e = ap (λ (o : Option ℕ). answer_with o ((stock_of b).count ∷ [])) e

  refused : screen_refusal b ≡ some 1 → screen b ≡ answer 1 []
  unfolding screen answer_with
  refused e = ap (λ (o : Option ℕ). answer_with o ((stock_of b).count ∷ [])) e

  -- the reading, way out by way out
  pub screen-short : length b < header_size → screen b ≡ answer 1 []
  unfolding screen_refusal
  screen-short h = refused (found_first 1 (ltb (length b) header_size) (fault 1 (not (marked b)) ∷ []) (lt-ltb (length b) header_size h))

  module _ (h : header_size ≤ length b) where
    long : screen_refusal b ≡ first_fault (fault 1 (not (marked b)) ∷ [])
    unfolding screen_refusal
    long = passes 1 (ltb (length b) header_size) (fault 1 (not (marked b)) ∷ []) (le-ltb (length b) header_size h)

    pub screen-unmarked : not (marked b) ≡ true → screen b ≡ answer 1 []
    screen-unmarked e = refused (long ∙ found_first 1 (not (marked b)) [] e)

    pub screen-marked : not (marked b) ≡ false → screen b ≡ answer 0 ((stock_of b).count ∷ [])
    unfolding first_fault
    screen-marked e = shown (long ∙ passes 1 (not (marked b)) [] e)

    -- "even where demand 1 sees a torn table": any bytes with a header and the mark, so torn ones too
    pub screen-any : part b 0 4 ≡ mark → screen b ≡ answer 0 ((stock_of b).count ∷ [])
    screen-any e = screen-marked (ap not (eq-same (part b 0 4) mark e))

  -- on a whole table the screen shows the length of the free chain
  pub screen-whole : whole b ≡ true → screen b ≡ answer 0 (length (free_chain (read_table b)) ∷ [])
  screen-whole e =
      let w : Whole b = whole_conditions b e in
      screen-any (omega (arith, w.sized)) w.marked ∙ ap (λ (n : ℕ). answer 0 (n ∷ [])) (whole-count b e)

  -- "Such tables begin A2MU .., and the calls take only these."
  pub other-mark : part b 0 4 ≢ mark → whole b ≡ false
  other-mark h = go (whole b) refl
    where
      go : (t : Bool) → whole b ≡ t → t ≡ false
      go true e = absurd (h (whole_conditions b e).marked)
      go false e = refl

-- no two readings have one answer
pub screen_answer-injective : (r s : Result ℕ Refusal) → screen_answer r ≡ screen_answer s → r ≡ s
screen_answer-injective (Ok m) (Ok n) e = let h : m ∷ [] ≡ n ∷ [] = ap (λ (a : Answer). a.values) e in cc
screen_answer-injective (Ok m) (Err w) e = absurd (let z = ap (λ (a : Answer). a.number) e in let y = number_of-positive w in omega arith)
screen_answer-injective (Err w) (Ok n) e = absurd (let z = ap (λ (a : Answer). a.number) e in let y = number_of-positive w in omega arith)
screen_answer-injective (Err v) (Err w) e = ap Err (number_of-injective v w (ap (λ (a : Answer). a.number) e))
