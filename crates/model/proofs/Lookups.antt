-- A search along a chain finds what the model says of the position, and examines as many entries.
use Prim.Native.Nat.{ℕ, suc, ◌+◌, ◌≤◌, ◌<◌}
use mathlib.Core.Path.{◌≡◌, refl, sym, ap, ◌∙◌}
use mathlib.Core.Logic.{◌≢◌}
use mathlib.Core.List.{List, [], ◌∷◌}
use mathlib.Core.Bool.{Bool, true, false, cond}
use native.Mathlib.Omega.{arith}
use native.Mathlib.Nat.{zero-add}
use lib.ListN.{length}
use lib.Dec.{eqb, leb, ltb}
use borrow.Author.Tests.{eqb-true, eqb-false, ltb-true, ltb-false, eq-eqb, ne_eqb, le-leb, lt-leb, lt-ltb, le-ltb}
use Rattle.layout.specs.declared.Row.{Row}
use Rattle.layout.specs.Image.{Entry}
use Rattle.a2m.specs.Search.{Found, search, looked_up}
use Rattle.model.specs.Log.{Log, last_entry, keep_from, keep_below, Standing, unassigned, forgotten, assigned, skipped, standing_among, standing, kind_of, reference_of, examined_for}
use Rattle.model.specs.Model.{rules01, rules, shown_for}
use Rattle.model.proofs.Represents.{LogOk, Rising}

-- what the model says of a standing, with so many entries examined
unfoldable pub found_as : Log → Standing → ℕ → Found
found_as l s k = record { kind = kind_of s; reference = reference_of l s; shown = shown_for rules s; examined = k }

keep_below-none : (n w : ℕ) (es : List Entry) → Rising w es → n ≤ w → keep_below n es ≡ []
unfolding keep_below
keep_below-none n w [] r h = refl
keep_below-none n w (e ∷ es) r h =
    let q : w ≤ e.position = r.0 in
    rw (keep_below, le-ltb e.position n (omega arith)) (keep_below-none n (suc e.position) es r.1 (omega arith))

-- what a search is to give among the entries es, k being behind
abbrev Finds : Log → ℕ → ℕ → List Entry → Type 0
Finds l n k es = search n k es ≡ found_as l (standing_among n (keep_from n es)) (k + suc (length (keep_below n es)))

module _ (l : Log) (n k : ℕ) (x : Entry) (es : List Entry) where
  -- the entry is at n, above it, or below
  search-at : n ≡ x.position → Rising (suc x.position) es → Finds l n k (x ∷ es)
  unfolding search keep_from keep_below standing_among found_as kind_of reference_of shown_for
  search-at e r =
      let c : suc k ≡ k + suc (length (keep_below n es)) = rw (keep_below-none n (suc x.position) es r (omega arith)) (omega arith) in
      rw (search, keep_from, keep_below, eq-eqb n x.position e, le-leb n x.position (omega arith), le-ltb x.position n (omega arith), standing_among, eq-eqb x.position n (sym e))
      (λ i. record { kind = 1; reference = e i; shown = x; examined = c i })

  search-above : n < x.position → Rising (suc x.position) es → Finds l n k (x ∷ es)
  unfolding search keep_from keep_below standing_among found_as kind_of reference_of shown_for rules rules01
  search-above h r =
      let c : suc k ≡ k + suc (length (keep_below n es)) = rw (keep_below-none n (suc x.position) es r (omega arith)) (omega arith) in
      rw (search, keep_from, keep_below, ne_eqb n x.position (λ (e : n ≡ x.position). omega arith), lt-ltb n x.position h, le-leb n x.position (omega arith), le-ltb x.position n (omega arith), standing_among, ne_eqb x.position n (λ (e : x.position ≡ n). omega arith))
      (λ i. record { kind = 2; reference = x.position; shown = shown_for rules (skipped x); examined = c i })

  search-below : x.position < n → Finds l n (suc k) es → Finds l n k (x ∷ es)
  unfolding search keep_from keep_below
  search-below h below =
      let c : suc k + suc (length (keep_below n es)) ≡ k + suc (suc (length (keep_below n es))) = omega arith in
      rw (search, keep_from, keep_below, ne_eqb n x.position (λ (e : n ≡ x.position). omega arith), le-ltb n x.position (omega arith), lt-leb n x.position h, lt-ltb x.position n h)
      (below ∙ ap (found_as l (standing_among n (keep_from n es))) c)

-- a search that reaches an entry at n or above
search_is : (l : Log) (n k : ℕ) (es : List Entry) (w : ℕ) → Rising w es → 1 ≤ n → n ≤ (last_entry es).position → Finds l n k es
unfolding last_entry
search_is l n k [] w r n1 top = absurd (omega arith)
search_is l n k (x ∷ []) w r n1 top = go (eqb n x.position) refl
  where
    go : (t : Bool) → eqb n x.position ≡ t → Finds l n k (x ∷ [])
    go true e = search-at l n k x [] (eqb-true n x.position e) tt
    go false e = let q : n ≢ x.position = eqb-false n x.position e in search-above l n k x [] (omega arith) tt
search_is l n k (x ∷ y ∷ es) w r n1 top = go (search_is l n (suc k) (y ∷ es) (suc x.position) r.1 n1 top) (eqb n x.position) refl (ltb n x.position) refl
  where
    go : Finds l n (suc k) (y ∷ es) → (t : Bool) → eqb n x.position ≡ t → (u : Bool) → ltb n x.position ≡ u → Finds l n k (x ∷ y ∷ es)
    go below true e u f = search-at l n k x (y ∷ es) (eqb-true n x.position e) r.1
    go below false e true f = search-above l n k x (y ∷ es) (ltb-true n x.position f) r.1
    go below false e false f =
        let q : n ≢ x.position = eqb-false n x.position e in
        let p = ltb-false n x.position f in
        search-below l n k x (y ∷ es) (omega arith) below

-- it stands among the entries, so that the model counts those behind it
counted : (l : Log) (n : ℕ) (es : List Entry) → 1 ≤ n → n ≤ (last_entry es).position → examined_for l n (standing_among n (keep_from n es)) ≡ suc (length (keep_below n l.entries))
unfolding last_entry keep_from standing_among examined_for
counted l n [] n1 top = absurd (omega arith)
counted l n (x ∷ []) n1 top = rw (keep_from, le-leb n x.position top, standing_among) (go (eqb x.position n))
  where
    go : (t : Bool) → examined_for l n (cond t (assigned x) (skipped x)) ≡ suc (length (keep_below n l.entries))
    go true = refl
    go false = refl
counted l n (x ∷ y ∷ es) n1 top = go (leb n x.position) refl (counted l n (y ∷ es) n1 top) (eqb x.position n) refl
  where
    go : (t : Bool) → leb n x.position ≡ t → examined_for l n (standing_among n (keep_from n (y ∷ es))) ≡ suc (length (keep_below n l.entries)) → (u : Bool) → eqb x.position n ≡ u → examined_for l n (standing_among n (keep_from n (x ∷ y ∷ es))) ≡ suc (length (keep_below n l.entries))
    go true e below true f = rw (keep_from, e, standing_among, f)
    go true e below false f = rw (keep_from, e, standing_among, f)
    go false e below u f = rw (keep_from, e) below

-- a lookup in the row and the entries of a log that keeps its rules
pub lookup-is : (l : Log) → LogOk l → (r : Row) → r.low ≡ l.low → r.high ≡ l.high → (n : ℕ) → 1 ≤ n → looked_up r l.entries n ≡ found_as l (standing l n) (examined_for l n (standing l n))
unfolding looked_up standing found_as kind_of reference_of examined_for shown_for
lookup-is l ok r low high n n1 = rw (low, high) (go (ltb l.high n) refl (ltb n l.low) refl)
  where
    Goal : Bool → Bool → Type 0
    Goal t u = cond t (record { kind = 0; reference = l.high; shown = shown_for rules unassigned; examined = 0 }) (cond u (record { kind = 3; reference = l.low; shown = shown_for rules forgotten; examined = 0 }) (search n 0 l.entries)) ≡ found_as l (cond t unassigned (cond u forgotten (standing_among n (keep_from n l.entries)))) (examined_for l n (cond t unassigned (cond u forgotten (standing_among n (keep_from n l.entries)))))

    go : (t : Bool) → ltb l.high n ≡ t → (u : Bool) → ltb n l.low ≡ u → Goal (ltb l.high n) (ltb n l.low)
    go true e u f = rw e refl
    go false e true f = rw (e, f) refl
    go false e false f =
        let top : n ≤ (last_entry l.entries).position = let t = ok.top in let h = ltb-false l.high n e in omega arith in
        let c : 0 + suc (length (keep_below n l.entries)) ≡ examined_for l n (standing_among n (keep_from n l.entries)) = zero-add _ ∙ sym (counted l n l.entries n1 top) in
        rw (e, f) (search_is l n 0 l.entries l.low ok.rising n1 top ∙ ap (found_as l (standing_among n (keep_from n l.entries))) c)
