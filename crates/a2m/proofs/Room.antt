-- Request [5]: which append or advance gets a slot, and which of 5 and 16 answers where none may be taken.
use Prim.Native.Nat.{ℕ, suc, ◌≤◌, ◌<◌}
use mathlib.Core.Path.{◌≡◌, refl, sym, ap, ◌∙◌}
use mathlib.Core.Logic.{◌≢◌, ◌⊎◌, inl, inr, ◌↔◌}
use mathlib.Core.List.{List, [], ◌∷◌}
use mathlib.Core.Bool.{Bool, true, false, not}
use mathlib.Core.Option.{Option, none, some}
use native.Mathlib.Omega.{arith, by_contra}
use borrow.Author.Tests.{eq-eqb, ne_eqb, lt-leb, le-ltb, le-leb, ltb-true, ltb-false}
use lib.Dec.{eqb, leb, ltb}
use lib.ListN.{length}
use Rattle.layout.specs.Image.{Image}
use Rattle.layout.specs.Layout.{read_table}
use Rattle.layout.proofs.TableLaws.{length-rows}
use Rattle.layout.proofs.TestLaws.{and_yes, and-not}
use Rattle.table.specs.Free.{free_chain}
use Rattle.table.specs.Reserve.{held_in, lack_but}
use Rattle.table.specs.Conditions.{Links}
use Rattle.table.proofs.WalkLaws.{chain-none}
use Rattle.table.proofs.WholeLaws.{whole-image}
use Rattle.table.proofs.ReserveLaws.{whole-linked, lack-below}
use Rattle.a2m.specs.Call.{Call, append, advance, truncate, lookup, end, log_of, Puts}
use Rattle.a2m.specs.ImageCalls.{row_in, full, promised, withheld}
use Rattle.a2m.specs.TableCalls.{table_refusal}
use Rattle.a2m.specs.Room.{Passes}
use Rattle.a2m.proofs.Cases.{is-full, is-promised, no-refusal}
use Rattle.a2m.proofs.WholeChains.{free-links}

-- how many entries log g of a table holds, and its reserve
abbrev pub held : List ℕ → ℕ → ℕ
held b g = held_in (read_table b).slots g (row_in (read_table b) g)

abbrev pub reserve : List ℕ → ℕ → ℕ
reserve b g = (row_in (read_table b) g).reserve

-- "while its log holds fewer entries than its reserve. Beyond that .. if the free slots outnumber what the other logs still lack of their reserves"
abbrev pub MayTake : List ℕ → ℕ → Type 0
MayTake b g = (held b g < reserve b g) ⊎ (lack_but (read_table b) g < length (free_chain (read_table b)))

-- of a put the tests of 5 and 16 are these
puts-full : (m : Image) (c : Call) → Puts c → full m c ≡ eqb m.free 0
unfolding full
puts-full m (append g x) p = refl
puts-full m (advance g n d x) p = refl
puts-full m (truncate g n) p = absurd p
puts-full m (lookup g n k l) p = absurd p
puts-full m (end g k l) p = absurd p

puts-promised : (m : Image) (c : Call) → Puts c → promised m c ≡ withheld m (log_of c)
unfolding promised
puts-promised m (append g x) p = refl
puts-promised m (advance g n d x) p = refl
puts-promised m (truncate g n) p = absurd p
puts-promised m (lookup g n k l) p = absurd p
puts-promised m (end g k l) p = absurd p

module _ (b : List ℕ) (c : Call) (p : Puts c) (h : Passes b c) where
  known : leb (length (read_table b).rows) (log_of c) ≡ false
  known = lt-leb (length (read_table b).rows) (log_of c) (omega (arith, h.log, length-rows b))

  -- a slot is free exactly where the header names one
  free-none : (read_table b).free ≡ 0 → free_chain (read_table b) ≡ []
  free-none e = chain-none (read_table b).slots 0 (read_table b).free e

  free-some : free_chain (read_table b) ≡ [] → (read_table b).free ≡ 0
  free-some e = go (free_chain (read_table b)) e (free-links (read_table b) (whole-linked (read_table b) (whole-image b h.whole)))
    where
      go : (q : List ℕ) → q ≡ [] → Links (read_table b).slots 0 (read_table b).free q 0 → (read_table b).free ≡ 0
      go [] e l = l
      go (s ∷ q) e l = absurd (let z : suc (length q) ≡ 0 = ap length e in omega arith)

  -- either way more slots are free than the others lack
  outnumber : MayTake b (log_of c) → lack_but (read_table b) (log_of c) < length (free_chain (read_table b))
  outnumber (inl k) = lack-below (read_table b) (log_of c) (omega (arith, h.log, length-rows b)) (whole-image b h.whole) k
  outnumber (inr k) = k

  taken : MayTake b (log_of c) → table_refusal b c ≡ none
  unfolding withheld
  taken t =
      let k = outnumber t in
      let f : (read_table b).free ≢ 0 = λ e. let z : length (free_chain (read_table b)) ≡ 0 = ap length (free-none e) in omega arith in
      no-refusal b c h.sized h.whole known h.position h.room (puts-full (read_table b) c p ∙ ne_eqb (read_table b).free 0 f)
      (puts-promised (read_table b) c p ∙ and-not (not (ltb (held b (log_of c)) (reserve b (log_of c)))) (lt-leb (length (free_chain (read_table b))) (lack_but (read_table b) (log_of c)) k))

  is-5 : free_chain (read_table b) ≡ [] → table_refusal b c ≡ some 5
  is-5 e = is-full b c h.sized h.whole known h.position h.room (puts-full (read_table b) c p ∙ eq-eqb (read_table b).free 0 (free-some e))

  is-16 : free_chain (read_table b) ≢ [] → (MayTake b (log_of c) → ⊥) → table_refusal b c ≡ some 16
  unfolding withheld
  is-16 e n =
      let k : reserve b (log_of c) ≤ held b (log_of c) = by_contra (reserve b (log_of c)) (held b (log_of c)) (λ x. n (inl x)) in
      let j : length (free_chain (read_table b)) ≤ lack_but (read_table b) (log_of c) = by_contra (length (free_chain (read_table b))) (lack_but (read_table b) (log_of c)) (λ x. n (inr x)) in
      is-promised b c h.sized h.whole known h.position h.room (puts-full (read_table b) c p ∙ ne_eqb (read_table b).free 0 (λ z. e (free-none z)))
      (puts-promised (read_table b) c p ∙ and_yes _ (ap not (le-ltb (held b (log_of c)) (reserve b (log_of c)) k)) ∙ le-leb (length (free_chain (read_table b))) (lack_but (read_table b) (log_of c)) j)

  -- it is one of three
  abbrev Ways : Type 0
  Ways = MayTake b (log_of c) ⊎ ((free_chain (read_table b) ≡ []) ⊎ ((free_chain (read_table b) ≢ []) × (MayTake b (log_of c) → ⊥)))

  ways : Ways
  ways = first (ltb (held b (log_of c)) (reserve b (log_of c))) refl
    where
      third : (MayTake b (log_of c) → ⊥) → (q : List ℕ) → free_chain (read_table b) ≡ q → Ways
      third n [] e = inr (inl e)
      third n (s ∷ q) e = inr (inr (λ z. let l : suc (length q) ≡ 0 = ap length (sym e ∙ z) in omega arith, n))

      second : (held b (log_of c) < reserve b (log_of c) → ⊥) → (t : Bool) → ltb (lack_but (read_table b) (log_of c)) (length (free_chain (read_table b))) ≡ t → Ways
      second n true e = inl (inr (ltb-true _ _ e))
      second n false e =
          let j = ltb-false (lack_but (read_table b) (log_of c)) (length (free_chain (read_table b))) e in
          third (λ t. either n j t) (free_chain (read_table b)) refl
        where
          either : (held b (log_of c) < reserve b (log_of c) → ⊥) → length (free_chain (read_table b)) ≤ lack_but (read_table b) (log_of c) → MayTake b (log_of c) → ⊥
          either n j (inl x) = n x
          either n j (inr x) = omega arith

      first : (t : Bool) → ltb (held b (log_of c)) (reserve b (log_of c)) ≡ t → Ways
      first true e = inl (inl (ltb-true _ _ e))
      first false e =
          let j = ltb-false (held b (log_of c)) (reserve b (log_of c)) e in
          second (λ x. omega arith) (ltb (lack_but (read_table b) (log_of c)) (length (free_chain (read_table b)))) refl

  -- 0 stands for none
  number : Option ℕ → ℕ
  number none = 0
  number (some k) = k

  apart : (o : Option ℕ) {k j : ℕ} → o ≡ some k → o ≡ some j → k ≡ j
  apart o e f = let z : ◌≡◌ {A = Option ℕ} (some _) (some _) = sym e ∙ f in cc

  some-none : (o : Option ℕ) (k : ℕ) → o ≡ some (suc k) → o ≡ none → ⊥
  unfolding number
  some-none o k e f = let z : suc k ≡ 0 = ap number (sym e ∙ f) in omega arith

  -- a slot that may be taken leaves some free
  taken_free : MayTake b (log_of c) → free_chain (read_table b) ≡ [] → ⊥
  taken_free t e = let z : length (free_chain (read_table b)) ≡ 0 = ap length e in let k = outnumber t in omega arith

  -- "always gets a slot while its log holds fewer entries than its reserve"
  pub always : held b (log_of c) < reserve b (log_of c) → table_refusal b c ≡ none
  always k = taken (inl k)

  -- "Beyond that it gets one exactly if the free slots outnumber what the other logs still lack of their reserves."
  pub exactly : table_refusal b c ≡ none ↔ MayTake b (log_of c)
  exactly = (λ e. go e ways, taken)
    where
      go : table_refusal b c ≡ none → Ways → MayTake b (log_of c)
      go e (inl t) = t
      go e (inr (inl f)) = absurd (some-none (table_refusal b c) 4 (is-5 f) e)
      go e (inr (inr f)) = absurd (some-none (table_refusal b c) 15 (is-16 f.0 f.1) e)

  -- 5 where no slot is free
  pub full-exactly : table_refusal b c ≡ some 5 ↔ free_chain (read_table b) ≡ []
  full-exactly = (λ e. go e ways, is-5)
    where
      go : table_refusal b c ≡ some 5 → Ways → free_chain (read_table b) ≡ []
      go e (inl t) = absurd (some-none (table_refusal b c) 4 e (taken t))
      go e (inr (inl f)) = f
      go e (inr (inr f)) = absurd (let z = apart (table_refusal b c) (is-16 f.0 f.1) e in omega arith)

  -- 16: "free slots none of which may be taken"
  pub promised-exactly : table_refusal b c ≡ some 16 ↔ ((free_chain (read_table b) ≢ []) × (MayTake b (log_of c) → ⊥))
  promised-exactly = (λ e. go e ways, λ f. is-16 f.0 f.1)
    where
      go : table_refusal b c ≡ some 16 → Ways → (free_chain (read_table b) ≢ []) × (MayTake b (log_of c) → ⊥)
      go e (inl t) = absurd (some-none (table_refusal b c) 15 e (taken t))
      go e (inr (inl f)) = absurd (let z = apart (table_refusal b c) (is-5 f) e in omega arith)
      go e (inr (inr f)) = f
