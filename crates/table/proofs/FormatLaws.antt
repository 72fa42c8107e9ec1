-- Format's answer and bytes by its tests, and what an accepted one has passed.
use Prim.Native.Nat.{ℕ, ◌≤◌, ◌<◌}
use mathlib.Core.Path.{◌≡◌, refl, sym, ap, ap₂, ◌∙◌}
use mathlib.Core.List.{List}
use mathlib.Core.Bool.{Bool, true, false, cond, not, ◌&&◌}
use mathlib.Core.Logic.{◌≢◌}
use mathlib.Core.Option.{Option, none, some}
use native.Mathlib.Omega.{arith}
use borrow.Author.Tests.{eq-eqb, ne_eqb, lt-ltb, le-ltb, eqb-true, ltb-false}
use lib.Dec.{eqb, ltb}
use lib.ListN.{length}
use Rattle.refusal.specs.Order.{first_fault, answer_of, afterwards}
use Rattle.layout.specs.Fits.{Range}
use Rattle.layout.specs.Layout.{table_size}
use Rattle.layout.specs.Tests.{in_range}
use Rattle.layout.proofs.HeaderLaws.{in-range, range-in}
use Rattle.layout.proofs.TestLaws.{and_yes, and_no, and-not, and_split}
use Rattle.table.specs.Free.{write_table}
use Rattle.table.specs.Reserve.{sum}
use Rattle.table.specs.Format.{formatted, format_refusal, format_bytes}

-- what an accepted format has passed
pub record Passed (size logs slots key_size : ℕ) (reserves : List ℕ) : Type 0 where
  pub counts : Range logs slots
  pub key : key_size ≡ 32
  pub buffer : size ≡ table_size logs slots
  pub reserved : length reserves ≡ logs
  pub together : sum reserves ≤ slots

-- the three tests, in order
abbrev by_tests : Bool → Bool → Bool → Option ℕ
by_tests r l s = cond (not r) (some 8) (cond (not l) (some 7) (cond s (some 8) none))

passed-tests : (r l s : Bool) → by_tests r l s ≡ none → (r ≡ true) × (l ≡ true) × (s ≡ false)
passed-tests true true false e = (refl, refl, refl)
passed-tests true true true e = absurd (let z : ◌≡◌ {A = ℕ} 0 1 = cc in omega arith)
passed-tests true false s e = absurd (let z : ◌≡◌ {A = ℕ} 0 1 = cc in omega arith)
passed-tests false l s e = absurd (let z : ◌≡◌ {A = ℕ} 0 1 = cc in omega arith)

module _ (size logs slots key_size : ℕ) (reserves : List ℕ) where
  abbrev sized : Bool
  sized = eqb key_size 32 && eqb size (table_size logs slots) && eqb (length reserves) logs

  abbrev refusal : Option ℕ
  refusal = format_refusal size logs slots key_size reserves

  all-sized : key_size ≡ 32 → size ≡ table_size logs slots → length reserves ≡ logs → sized ≡ true
  all-sized k b r = and_yes _ (and_yes _ (eq-eqb key_size 32 k) ∙ eq-eqb size (table_size logs slots) b) ∙ eq-eqb (length reserves) logs r

  by-counts : in_range logs slots ≡ false → refusal ≡ some 8
  unfolding format_refusal first_fault
  by-counts e = ap (λ (t : Bool). by_tests t sized (ltb slots (sum reserves))) e

  by_lengths : in_range logs slots ≡ true → sized ≡ false → refusal ≡ some 7
  unfolding format_refusal first_fault
  by_lengths e h = ap₂ (λ (r l : Bool). by_tests r l (ltb slots (sum reserves))) e h

  by-reserves : in_range logs slots ≡ true → sized ≡ true → refusal ≡ cond (ltb slots (sum reserves)) (some 8) none
  unfolding format_refusal first_fault
  by-reserves e h = ap₂ (λ (r l : Bool). by_tests r l (ltb slots (sum reserves))) e h

  -- format is accepted exactly when it has passed
  pub format-passes : refusal ≡ none → Passed size logs slots key_size reserves
  unfolding format_refusal first_fault
  format-passes e =
      let t = passed-tests (in_range logs slots) sized (ltb slots (sum reserves)) e in
      let u = and_split (eqb key_size 32 && eqb size (table_size logs slots)) (eqb (length reserves) logs) t.1 in
      let v = and_split (eqb key_size 32) (eqb size (table_size logs slots)) u.0 in
      record {
        counts = in-range logs slots t.0;
        key = eqb-true key_size 32 v.0;
        buffer = eqb-true size (table_size logs slots) v.1;
        reserved = eqb-true (length reserves) logs u.1;
        together = ltb-false slots (sum reserves) t.2;
      }

  pub no-refusal : Passed size logs slots key_size reserves → refusal ≡ none
  no-refusal p =
      by-reserves (range-in logs slots p.counts) (all-sized p.key p.buffer p.reserved)
      ∙ ap (λ (t : Bool). cond t (some 8) none) (le-ltb slots (sum reserves) p.together)

module _ (b : List ℕ) (logs slots keeper : ℕ) (key reserves : List ℕ) where
  -- an answer, and the bytes after it
  abbrev pub Answers : ℕ → List ℕ → Type 0
  Answers n a = (n ≡ answer_of (format_refusal (length b) logs slots (length key) reserves)) × (a ≡ format_bytes b logs slots keeper key reserves)

  answers : (o : Option ℕ) → format_refusal (length b) logs slots (length key) reserves ≡ o → Answers (answer_of o) (afterwards o (write_table (formatted slots keeper key reserves)) b)
  unfolding format_bytes
  answers o e = (sym (ap answer_of e), sym (ap (λ (q : Option ℕ). afterwards q (write_table (formatted slots keeper key reserves)) b) e))

  -- the answer, and the bytes as they were
  refused : (n : ℕ) → format_refusal (length b) logs slots (length key) reserves ≡ some n → Answers n b
  unfolding answer_of afterwards
  refused n e = answers (some n) e

  pub refused-counts : in_range logs slots ≡ false → Answers 8 b
  refused-counts e = refused 8 (by-counts (length b) logs slots (length key) reserves e)

  module _ (e : in_range logs slots ≡ true) where
    refused-length : sized (length b) logs slots (length key) reserves ≡ false → Answers 7 b
    refused-length h = refused 7 (by_lengths (length b) logs slots (length key) reserves e h)

    pub refused-key : length key ≢ 32 → Answers 7 b
    refused-key h = refused-length (and_no _ (and_no _ (ne_eqb (length key) 32 h)))

    pub refused-buffer : length b ≢ table_size logs slots → Answers 7 b
    refused-buffer h = refused-length (and_no _ (and-not (eqb (length key) 32) (ne_eqb (length b) (table_size logs slots) h)))

    -- another count of reserves than of logs
    pub refused-reserved : length reserves ≢ logs → Answers 7 b
    refused-reserved h = refused-length (and-not (eqb (length key) 32 && eqb (length b) (table_size logs slots)) (ne_eqb (length reserves) logs h))

    -- reserves that together pass the slots
    pub refused-together : length key ≡ 32 → length b ≡ table_size logs slots → length reserves ≡ logs → slots < sum reserves → Answers 8 b
    refused-together k z r h =
        refused 8 (by-reserves (length b) logs slots (length key) reserves e (all-sized (length b) logs slots (length key) reserves k z r) ∙ ap (λ (t : Bool). cond t (some 8) none) (lt-ltb slots (sum reserves) h))

  -- an accepted one
  pub accepted : (a : List ℕ) → Passed (length b) logs slots (length key) reserves → a ≡ write_table (formatted slots keeper key reserves) → Answers 0 a
  unfolding answer_of afterwards
  accepted a p w = let s = answers none (no-refusal (length b) logs slots (length key) reserves p) in (s.0, w ∙ s.1)
