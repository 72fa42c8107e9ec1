-- The loop over the rows: what is left to compute from row g on, n slots and lacks of l and o being counted.
use Prim.Native.Nat.{ℕ, suc, ◌+◌, ◌-◌, ◌*◌, ◌≤◌, ◌<◌}
use mathlib.Core.Path.{◌≡◌, refl, sym, ap, ◌∙◌}
use mathlib.Core.Logic.{◌≢◌}
use mathlib.Core.List.{List, ◌∷◌, ◌++◌}
use mathlib.Core.Bool.{Bool, true, false, cond, ◌&&◌}
use native.Mathlib.Nat.{zero-add, add-zero}
use native.Mathlib.Omega.{arith}
use borrow.Author.Tests.{ne_eqb}
use lib.Dec.{eqb}
use lib.ListN.{length, drop, length-append, drop_of_length-le}
use lib.Seq.{drop-cons}
use Rattle.layout.specs.declared.Row.{Row}
use Rattle.layout.specs.Image.{Slot, Image, row_at, fresh_row}
use Rattle.table.specs.declared.Met.{Met}
use Rattle.table.specs.Forms.{Modest}
use Rattle.table.specs.Chains.{chain, last_of}
use Rattle.table.specs.Reserve.{lack_in, lack_from, lack_but, lack_all}
use Rattle.table.specs.Walks.{walk_of, held_of, held_walk, row_walk}
use Rattle.table.specs.WholeImage.{row_ok, rows_ok, held_by}
use Rattle.table.proofs.WalkLaws.{chain-short}
use Rattle.table.proofs.Found.{Held, met_of, holding_of, met-same, holding-same}
use Rattle.std.proofs.Common.{Some, None}

-- n slots more, and so much more lack
abbrev pub plus : ℕ → ℕ → ℕ → Held → Held
plus n l o None = None
plus n l o (Some h) = holding_of (n + h.held) (l + h.lack) (o + h.others)

-- what an answer says of its test
pub walk_broken : (t : Bool) (c : List ℕ) → None ≡ walk_of t c → t ≡ false
walk_broken true c e = cc
walk_broken false c e = refl

pub walk-met : (t : Bool) (c : List ℕ) (n last : ℕ) → met_of n last ≡ walk_of t c → (t ≡ true) × (length c ≡ n) × (last_of c ≡ last)
walk-met true c n last e = let s = met-same (record { count = n; last = last }) (record { count = length c; last = last_of c }) e in (refl, sym s.0, sym s.1)
walk-met false c n last e = cc

pub held_broken : (t : Bool) (c : List ℕ) (l o : ℕ) → None ≡ held_of t c l o → t ≡ false
held_broken true c l o e = cc
held_broken false c l o e = refl

pub held-slots : (t : Bool) (c : List ℕ) (l o n p q : ℕ) → holding_of n p q ≡ held_of t c l o → (t ≡ true) × (length c ≡ n) × (l ≡ p) × (o ≡ q)
held-slots true c l o n p q e = let s = holding-same (record { held = n; lack = p; others = q }) (record { held = length c; lack = l; others = o }) e in (refl, sym s.0, sym s.1, sym s.2)
held-slots false c l o n p q e = cc

held-eq : {n n' l l' o o' : ℕ} → n ≡ n' → l ≡ l' → o ≡ o' → holding_of n l o ≡ holding_of n' l' o'
held-eq e f k = cc

-- top is no log's number, log is the one left out
module _ (slots : List Slot) (top log : ℕ) where
  -- the rows from log g on
  abbrev pub held_from : ℕ → List Row → Held
  held_from g rows = held_of (rows_ok slots g rows) (held_by slots g rows) (lack_from slots top g rows) (lack_from slots log g rows)

  module _ (rows : List Row) (x : Held) (n l o g : ℕ) (inv : x ≡ plus n l o (held_from g (drop g rows))) where
    pub held-last : length rows ≤ g → holding_of n l o ≡ x
    unfolding rows_ok held_by lack_from
    held-last h = sym (inv ∙ ap (λ (k : List Row). plus n l o (held_from g k)) (drop_of_length-le rows {i = g} h) ∙ held-eq (add-zero n) (add-zero l) (add-zero o))

    module _ (h : g < length rows) (r : Row) (is : r ≡ row_at rows g) where
      -- what follows row g, by its test
      next : Bool → Held
      next t =
          plus n l o (held_of (t && rows_ok slots (suc g) (drop (suc g) rows)) (chain slots (suc g) r.first ++ held_by slots (suc g) (drop (suc g) rows))
          (cond (eqb g top) 0 (lack_in slots g r) + lack_from slots top (suc g) (drop (suc g) rows)) (cond (eqb g log) 0 (lack_in slots g r) + lack_from slots log (suc g) (drop (suc g) rows)))

      unrolled : x ≡ next (row_ok slots g r)
      unfolding rows_ok held_by lack_from next
      unrolled = inv ∙ ap (λ (k : List Row). plus n l o (held_from g k)) (drop-cons rows g (fresh_row 0) h) ∙ ap (λ (q : Row). plus n l o (held_from g (q ∷ drop (suc g) rows))) (sym is)

      pub held-stop : None ≡ row_walk slots g r → None ≡ x
      unfolding next
      held-stop e =
          let t : row_ok slots g r ≡ false = walk_broken (row_ok slots g r) (chain slots (suc g) r.first) e in
          sym (unrolled ∙ ap next t)

      module _ (count last : ℕ) (met : met_of count last ≡ row_walk slots g r) where
        pub held-most : count ≤ length slots
        held-most = let m = walk-met (row_ok slots g r) (chain slots (suc g) r.first) count last met in omega (arith, m.1, chain-short slots (suc g) r.first)

        pub held_on : g ≢ top → (short own : ℕ) → short ≡ r.reserve - count → own ≡ cond (eqb g log) 0 short
            → x ≡ plus (n + count) (l + short) (o + own) (held_from (g + 1) (drop (g + 1) rows))
        unfolding next
        held_on k short own s w =
            let m = walk-met (row_ok slots g r) (chain slots (suc g) r.first) count last met in
            let c : List ℕ = chain slots (suc g) r.first in
            let e : suc g ≡ g + 1 = omega arith in
            let i : lack_in slots g r ≡ short = ap (λ (j : ℕ). r.reserve - j) m.1 ∙ sym s in
            unrolled ∙ ap next m.0
            ∙ more (rows_ok slots (suc g) (drop (suc g) rows)) c (held_by slots (suc g) (drop (suc g) rows)) (lack_from slots top (suc g) (drop (suc g) rows)) (lack_from slots log (suc g) (drop (suc g) rows)) m.1
            (ap (λ (t : Bool). cond t 0 (lack_in slots g r)) (ne_eqb g top k) ∙ i) (ap (cond (eqb g log) 0) i ∙ sym w)
            ∙ ap (λ (i : ℕ). plus (n + count) (l + short) (o + own) (held_from i (drop i rows))) e
          where
            more : (t : Bool) (c d : List ℕ) {p q a b : ℕ} (u v : ℕ) → length c ≡ count → p ≡ a → q ≡ b → plus n l o (held_of t (c ++ d) (p + u) (q + v)) ≡ plus (n + count) (l + a) (o + b) (held_of t d u v)
            more true c d u v f e₁ e₂ = held-eq (omega (arith, length-append c d)) (omega arith) (omega arith)
            more false c d u v f e₁ e₂ = refl

-- before the first row
pub held_first : (m : Image) (log : ℕ) → held_walk m log ≡ plus 0 0 0 (held_from m.slots (length m.rows) log 0 (drop 0 m.rows))
unfolding held_walk lack_all lack_but
held_first m log = go (held_from m.slots (length m.rows) log 0 m.rows)
  where
    go : (h : Held) → h ≡ plus 0 0 0 h
    go None = refl
    go (Some h) = held-eq (sym (zero-add h.held)) (sym (zero-add h.lack)) (sym (zero-add h.others))

-- a log adds no more to the others' lack than it lacks
pub own-most : (g log lack : ℕ) {own : ℕ} → own ≡ cond (eqb g log) 0 lack → own ≤ lack
own-most g log lack = go (eqb g log)
  where
    go : (t : Bool) {own : ℕ} → own ≡ cond t 0 lack → own ≤ lack
    go true e = omega arith
    go false e = omega arith

-- the rows before log g: what their chains hold, and what they lack
pub record HeldTurn (m : Image) (logs log g held lack others : ℕ) : Type 0 where
  pub modest : Modest m logs
  pub held-few : held ≤ 800 * g
  pub lack-few : lack ≤ 65536 * g
  pub others-few : others ≤ 65536 * g
  pub rest : held_walk m log ≡ plus held lack others (held_from m.slots (length m.rows) log g (drop g m.rows))

pub held-begin : (m : Image) (logs log : ℕ) → Modest m logs → HeldTurn m logs log 0 0 0 0
held-begin m logs log modest = record { modest = modest; held-few = omega arith; lack-few = omega arith; others-few = omega arith; rest = held_first m log }

module _ {m : Image} {logs log g held lack others : ℕ} (t : HeldTurn m logs log g held lack others) where
  pub held-end : logs ≤ g → holding_of held lack others ≡ held_walk m log
  held-end h = held-last m.slots (length m.rows) log m.rows (held_walk m log) held lack others g t.rest (omega (arith, t.modest.rows))

  module _ (more : g < logs) (r : Row) (is : r ≡ row_at m.rows g) where
    within : g < length m.rows
    within = omega (arith, t.modest.rows)

    pub held-broken : None ≡ row_walk m.slots g r → None ≡ held_walk m log
    held-broken e = held-stop m.slots (length m.rows) log m.rows (held_walk m log) held lack others g t.rest within r is e

    module _ (met : Met) where
      -- what a row lacks stands in two bytes, as its reserve does
      module _ {short : ℕ} (s : short ≡ r.reserve - met.count) where
        pub short-few : short ≤ 65536
        short-few = let e : r.reserve ≡ (row_at m.rows g).reserve = ap (λ (q : Row). q.reserve) is in omega (arith, t.modest.reserves g)

        pub own-few : {own : ℕ} → own ≡ cond (eqb g log) 0 short → own ≤ 65536
        own-few w = let h = own-most g log short w in omega (arith, short-few)

      module _ (found : Some met ≡ row_walk m.slots g r) where
        pub met-few : met.count ≤ 800
        met-few = let h = held-most m.slots (length m.rows) log m.rows (held_walk m log) held lack others g t.rest within r is met.count met.last found in omega (arith, t.modest.slots)

        pub held-on : (short own : ℕ) → short ≡ r.reserve - met.count → own ≡ cond (eqb g log) 0 short → HeldTurn m logs log (g + 1) (held + met.count) (lack + short) (others + own)
        held-on short own s w =
            let f = short-few s in
            let h = own-few s w in
            record {
              modest = t.modest;
              held-few = omega (arith, t.held-few, met-few);
              lack-few = omega (arith, t.lack-few);
              others-few = omega (arith, t.others-few);
              rest = held_on m.slots (length m.rows) log m.rows (held_walk m log) held lack others g t.rest within r is met.count met.last found (λ e. omega arith) short own s w;
            }
