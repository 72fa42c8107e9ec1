-- The walk of a lookup: what is left to search is the definition's search from here on, and each way out is one law.
use Prim.Native.Nat.{ℕ, suc, ◌+◌, ◌≤◌, ◌<◌}
use mathlib.Core.Path.{◌≡◌, refl, sym, ap, subst, ◌∙◌}
use mathlib.Core.Logic.{◌≢◌}
use mathlib.Core.List.{List, [], ◌∷◌}
use mathlib.Core.Bool.{true}
use native.Mathlib.Omega.{arith}
use native.Mathlib.Numerals.{add-one}
use lib.ListN.{length}
use borrow.Author.Tests.{lt-ltb, le-ltb, eq-eqb, ne_eqb}
use Rattle.layout.specs.declared.Row.{Row}
use Rattle.layout.specs.declared.Link.{Link}
use Rattle.layout.specs.Image.{Entry, Slot, blank_entry, entry_of, slot_at}
use Rattle.layout.specs.Changes.{link_of}
use Rattle.table.specs.Chains.{chain, reaches, entries_of}
use Rattle.std.specs.Prelude.{Option, None, Some}
use Rattle.receipt.specs.declared.Kind.{Kind}
use Rattle.receipt.specs.declared.Kind.TheVariants as kind
use Rattle.a2m.specs.declared.Hit.{Hit}
use Rattle.a2m.specs.Search.{Found, search, looked_up}
use Rattle.a2m.specs.Opened.{found_of}
use Rattle.table.proofs.Links.{chain_links, links-fit}
use Rattle.table.specs.Conditions.{Links}
use Rattle.table.proofs.LinkLaws.{reach-links}
use Rattle.a2m.proofs.OpenedLaws.{chain-cons}

abbrev hit : Kind → ℕ → Option ℕ → ℕ → Hit
hit kind reference slot examined = record { kind = kind; reference = reference; slot = slot; examined = examined }

-- slot 0 shows the blank entry
none-shown : (slots : List Slot) → entry_of (slot_at slots 0) ≡ blank_entry
unfolding slot_at
none-shown slots = refl

-- ---- the definition's steps

module _ (n k : ℕ) (e : Entry) (es : List Entry) where
  search-at : e.position ≡ n → search n k (e ∷ es) ≡ record { kind = 1; reference = n; shown = e; examined = suc k }
  unfolding search
  search-at h = rw (search, eq-eqb n e.position (sym h))

  search-above : n < e.position → search n k (e ∷ es) ≡ record { kind = 2; reference = e.position; shown = e; examined = suc k }
  unfolding search
  search-above h = rw (search, ne_eqb n e.position (λ (q : n ≡ e.position). omega arith), lt-ltb n e.position h)

  search-on : e.position < n → search n k (e ∷ es) ≡ search n (suc k) es
  unfolding search
  search-on h = rw (search, ne_eqb n e.position (λ (q : n ≡ e.position). omega arith), le-ltb n e.position (omega arith))

search-out : (n k : ℕ) → search n k [] ≡ record { kind = 2; reference = 0; shown = blank_entry; examined = k }
unfolding search
search-out n k = refl

-- ---- the walk

-- after k slots, at slot s: the rest of the chain is still to be searched
pub record Going (slots : List Slot) (o n first s k : ℕ) : Type 0 where
  pub links : Links slots o s (chain slots o s) 0
  pub count : k + length (chain slots o s) ≤ length slots
  pub rest : search n 0 (entries_of slots (chain slots o first)) ≡ search n k (entries_of slots (chain slots o s))

module _ (slots : List Slot) (o n first : ℕ) where
  pub going-first : reaches slots o first ≡ true → Going slots o n first first 0
  going-first h = let l = reach-links slots o first h in let f = links-fit slots o first (chain slots o first) l in record { links = l; count = omega arith; rest = refl }

  module _ (s k : ℕ) (G : Going slots o n first s k) (ne : s ≢ 0) where
    cons : (d : List ℕ) × (chain slots o s ≡ s ∷ d)
    cons = chain-cons slots o s (chain slots o s) (omega arith) G.links

    linked : Links slots o s (s ∷ cons.0) 0
    linked = subst (λ (c : List ℕ). Links slots o s c 0) cons.1 G.links

    pub within : (1 ≤ s) × (s ≤ length slots)
    within = (linked.1, linked.2)

    pub counted-on : k + 1 ≤ length slots
    counted-on = let c = G.count in omega (arith, ap length cons.1)

  module _ (s k : ℕ) (G : Going slots o n first s k) (ne : s ≢ 0) (l : Link) (el : l ≡ link_of (slot_at slots s)) where
    next-is : chain slots o l.next ≡ (cons s k G ne).0
    next-is = chain_links slots o l.next (cons s k G ne).0 (subst (λ (x : ℕ). Links slots o x (cons s k G ne).0 0) (sym (ap (λ (x : Link). x.next) el)) (linked s k G ne).4)

    chain-is : chain slots o s ≡ s ∷ chain slots o l.next
    chain-is = (cons s k G ne).1 ∙ ap {B = List ℕ} (λ (d : List ℕ). s ∷ d) (sym next-is)

    rest-is : search n 0 (entries_of slots (chain slots o first)) ≡ search n k (entries_of slots (s ∷ chain slots o l.next))
    rest-is = G.rest ∙ ap (λ (c : List ℕ). search n k (entries_of slots c)) chain-is

    place : l.position ≡ (slot_at slots s).position
    place = ap (λ (x : Link). x.position) el

    pub at_entry : l.position ≡ n → found_of slots (hit kind.Assigned n (Some s) (k + 1)) ≡ search n 0 (entries_of slots (chain slots o first))
    at_entry h = rw add-one (sym (rest-is ∙ search-at n k (entry_of (slot_at slots s)) (entries_of slots (chain slots o l.next)) (sym place ∙ h)))

    pub above_entry : n < l.position → found_of slots (hit kind.Skipped l.position (Some s) (k + 1)) ≡ search n 0 (entries_of slots (chain slots o first))
    above_entry h =
        let p : n < (slot_at slots s).position = omega (arith, place) in
        rw (add-one, place) (sym (rest-is ∙ search-above n k (entry_of (slot_at slots s)) (entries_of slots (chain slots o l.next)) p))

    pub going_on : l.position ≢ n → l.position ≤ n → Going slots o n first l.next (k + 1)
    going_on h h' =
        let p : (slot_at slots s).position < n = let q : l.position ≢ n = h in omega (arith, place) in
        let c = G.count in
        record {
          links = subst (λ (d : List ℕ). Links slots o l.next d 0) (sym next-is) (subst (λ (x : ℕ). Links slots o x (cons s k G ne).0 0) (sym (ap (λ (x : Link). x.next) el)) (linked s k G ne).4);
          count = omega (arith, ap length chain-is);
          rest = rw add-one (rest-is ∙ search-on n k (entry_of (slot_at slots s)) (entries_of slots (chain slots o l.next)) p);
        }

    pub less : length (chain slots o l.next) < length (chain slots o s)
    less = omega (arith, ap length chain-is)

  pub chain-over : (s k : ℕ) → Going slots o n first s k → s ≡ 0 → found_of slots (hit kind.Skipped 0 None k) ≡ search n 0 (entries_of slots (chain slots o first))
  chain-over s k G z =
      let e : chain slots o s ≡ [] = chain_links slots o s [] z in
      rw (none-shown slots) (sym (G.rest ∙ ap (λ (c : List ℕ). search n k (entries_of slots c)) e ∙ search-out n k))

-- ---- above the high position, below the low one, between

module _ (slots : List Slot) (r : Row) (es : List Entry) (n : ℕ) where
  pub is-unassigned : r.high < n → found_of slots (hit kind.Unassigned r.high None 0) ≡ looked_up r es n
  unfolding looked_up
  is-unassigned h = rw (looked_up, lt-ltb r.high n h, none-shown slots)

  pub is-forgotten : n ≤ r.high → n < r.low → found_of slots (hit kind.Forgotten r.low None 0) ≡ looked_up r es n
  unfolding looked_up
  is-forgotten k h = rw (looked_up, le-ltb r.high n k, lt-ltb n r.low h, none-shown slots)

  pub is-searched : n ≤ r.high → r.low ≤ n → (f : Found) → f ≡ search n 0 es → f ≡ looked_up r es n
  unfolding looked_up
  is-searched k h f e = rw (looked_up, le-ltb r.high n k, le-ltb n r.low h) e
