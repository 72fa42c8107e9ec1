-- What a position's standing tells of a log that keeps its rules.
use Prim.Native.Nat.{ℕ, suc, ◌≤◌, ◌<◌}
use mathlib.Core.Path.{◌≡◌, refl, sym, ap, subst}
use mathlib.Core.Logic.{◌≢◌, inl, inr}
use mathlib.Core.List.{List, [], ◌∷◌}
use mathlib.Core.Bool.{Bool, true, false, cond}
use native.Mathlib.Omega.{arith}
use lib.Dec.{eqb, leb, ltb}
use borrow.Author.Tests.{eqb-true, eqb-false, leb-true, ltb-true, ltb-false}
use Rattle.layout.specs.Image.{Entry}
use Rattle.table.proofs.Lists.{In}
use Rattle.model.specs.Log.{Log, last_entry, keep_from, Standing, unassigned, forgotten, assigned, skipped, standing_among, standing}
use Rattle.model.specs.Model.{is_nil}
use Rattle.model.proofs.Represents.{LogOk, Rising}
use Rattle.model.proofs.Sound.{keep_from-rising}
use Rattle.model.proofs.Later.{in-keep_from, in_kept}
use Rattle.model.proofs.Entries.{last-in, rising-in}

-- above H; below L; at an entry; at L or above and below the entry shown, which is the next
abbrev pub Means : Log → ℕ → Standing → Type 0
Means l n unassigned = l.high < n
Means l n forgotten = n < l.low
Means l n (assigned e) = In e l.entries × (e.position ≡ n)
Means l n (skipped e) = In e l.entries × (n < e.position) × (l.low ≤ n) × ((f : Entry) → In f l.entries → n ≤ f.position → e.position ≤ f.position)

kept_above : (n : ℕ) (e : Entry) (es : List Entry) → In e (keep_from n es) → n ≤ e.position
unfolding keep_from
kept_above n e [] m = elim m [ ]
kept_above n e (x ∷ es) m = go (leb n x.position) refl m (λ (q : In e (keep_from n es)). kept_above n e es q)
  where
    go : (t : Bool) → leb n x.position ≡ t → In e (cond t (x ∷ keep_from n es) (keep_from n es)) → (In e (keep_from n es) → n ≤ e.position) → n ≤ e.position
    go true h (inl q) below = subst (λ (y : Entry). n ≤ y.position) (sym q) (leb-true n x.position h)
    go true h (inr q) below = below q
    go false h q below = below q

some-held : (es : List Entry) → 1 ≤ (last_entry es).position → is_nil es ≡ false
unfolding last_entry is_nil
some-held [] h = absurd (omega arith)
some-held (e ∷ es) h = refl

module _ (l : Log) (ok : LogOk l) (n : ℕ) (n1 : 1 ≤ n) where
  among-means : n ≤ l.high → l.low ≤ n → (es : List Entry) → keep_from n l.entries ≡ es → Means l n (standing_among n es)
  unfolding standing_among
  among-means h low [] q =
      let t = ok.top in
      let last = last_entry l.entries in
      absurd (subst (In last) q (in_kept n last l.entries (last-in l.entries (some-held l.entries (omega arith))) (omega arith)))
  among-means h low (x ∷ es) q = go (eqb x.position n) refl
    where
      kept : In x (keep_from n l.entries)
      kept = subst (In x) (sym q) (inl refl)

      rising : Rising n (x ∷ es)
      rising = subst (Rising n) q (keep_from-rising n l.low l.entries ok.rising)

      first : (f : Entry) → In f (x ∷ es) → x.position ≤ f.position
      first f (inl p) = let e : f.position ≡ x.position = ap (λ (y : Entry). y.position) p in omega arith
      first f (inr m) = let h = (rising-in (suc x.position) es rising.1 f m).0 in omega arith

      go : (t : Bool) → eqb x.position n ≡ t → Means l n (cond t (assigned x) (skipped x))
      go true e = (in-keep_from n x l.entries kept, eqb-true x.position n e)
      go false e =
          let ne : x.position ≢ n = eqb-false x.position n e in
          let le = kept_above n x l.entries kept in
          (in-keep_from n x l.entries kept, omega arith, low, λ (f : Entry) (m : In f l.entries) (h : n ≤ f.position). first f (subst (In f) q (in_kept n f l.entries m h)))

  pub standing-means : Means l n (standing l n)
  unfolding standing
  standing-means = go (ltb l.high n) refl (ltb n l.low) refl
    where
      go : (t : Bool) → ltb l.high n ≡ t → (u : Bool) → ltb n l.low ≡ u → Means l n (cond t unassigned (cond u forgotten (standing_among n (keep_from n l.entries))))
      go true e u f = ltb-true l.high n e
      go false e true f = ltb-true n l.low f
      go false e false f = among-means (ltb-false l.high n e) (ltb-false n l.low f) (keep_from n l.entries) refl
