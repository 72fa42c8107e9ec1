-- Demand 3's facts on receipts, on the model alone: never two stories of one position, none of a skipped or forgotten one.
use Prim.Native.Nat.{ℕ, suc, ◌≤◌, ◌<◌}
use mathlib.Core.Path.{◌≡◌, refl, sym, ap, subst, ◌∙◌}
use mathlib.Core.Logic.{◌⊎◌, inl, inr}
use mathlib.Core.List.{List, [], ◌∷◌}
use mathlib.Core.Bool.{Bool, true, false}
use mathlib.Core.Option.{some, some-injective}
use native.Mathlib.Omega.{arith}
use lib.ListN.{take}
use lib.Dec.{leb}
use borrow.Author.Tests.{leb-true, leb-false}
use Rattle.layout.specs.Image.{Entry}
use Rattle.a2m.specs.NewEntry.{new_entry}
use Rattle.a2m.specs.Call.{advance, truncate, Reply, replies, after}
use Rattle.table.proofs.Lists.{In, in-cases}
use Rattle.model.specs.Log.{Log, entered, cut_at}
use Rattle.model.specs.Model.{Model, log_at}
use Rattle.model.specs.Claim.{Turn, model_turn, call_at, ShowsAt, SkipsAt, ForgetsAt}
use Rattle.model.proofs.Turns.{WideTurn, Each}
use Rattle.model.proofs.Represents.{LogOk}
use Rattle.model.proofs.Later.{Later}
use Rattle.model.proofs.Entries.{EntryAt, in_bounds, rising-one}
use Rattle.model.proofs.Along.{Keeps, at-keeps, at-later, at_call, at-shown, truncated, skipping}

-- one position of one log, at two times
meet : (l k : Log) → LogOk l → Later l k → (n : ℕ) (v d v' d' : List ℕ) → EntryAt l n v d → EntryAt k n v' d' → (v ≡ v') × (d ≡ d')
meet l k ok lt n v d v' d' p q =
    let pp = p.position in
    let qp = q.position in
    let b = (in_bounds l ok p.entry p.there).1 in
    let m : In q.entry l.entries = lt.old q.entry q.there (omega arith) in
    let same : p.entry ≡ q.entry = rising-one l.low l.entries ok.rising p.entry q.entry p.there m (omega arith) in
    (sym p.value ∙ ap (λ (e : Entry). e.value) same ∙ q.value, sym p.digest ∙ ap (λ (e : Entry). e.digest) same ∙ q.digest)

module _ (b : Model) (keeps : Keeps b) (ts : List Turn) (w : Each WideTurn ts) where
  pub model-agreeing : (i j g n : ℕ) (v d v' d' : List ℕ) → ShowsAt (replies model_turn b ts) i g n v d → ShowsAt (replies model_turn b ts) j g n v' d' → (v ≡ v') × (d ≡ d')
  model-agreeing i j g n v d v' d' s t = go (leb i j) refl
    where
      at : (h : ℕ) → Log
      at h = log_at (after model_turn b (take h ts)).logs g

      go : (x : Bool) → leb i j ≡ x → (v ≡ v') × (d ≡ d')
      go true e = meet (at i) (at j) ((at-keeps b keeps ts w i).sound g) (at-later b ts i j (leb-true i j e) g) n v d v' d' (at-shown b keeps ts w i g n v d s) (at-shown b keeps ts w j g n v' d' t)
      go false e =
          let lt = leb-false i j e in
          let r = meet (at j) (at i) ((at-keeps b keeps ts w j).sound g) (at-later b ts j i (omega arith) g) n v' d' v d (at-shown b keeps ts w j g n v' d' t) (at-shown b keeps ts w i g n v d s) in
          (sym r.0, sym r.1)

  pub model-unskipped : (i j g p : ℕ) (v d : List ℕ) → SkipsAt b ts (replies model_turn b ts) j g p → ShowsAt (replies model_turn b ts) i g p v d → ⊥
  unfolding entered
  model-unskipped i j g p v d k s = go (leb i j) refl
    where
      at : ℕ → Log
      at h = log_at (after model_turn b (take h ts)).logs g

      e : EntryAt (log_at (after model_turn b (take i ts)).logs g) p v d
      e = at-shown b keeps ts w i g p v d s

      jumper : Entry
      jumper = new_entry k.n k.value k.given

      cases : In e.entry (at j).entries ⊎ In e.entry (jumper ∷ []) → ⊥
      cases (inl m) =
          let a = k.above in
          let q = e.position in
          let c = (in_bounds (at j) ((at-keeps b keeps ts w j).sound g) e.entry m).1 in
          omega arith
      cases (inr (inr x'')) = elim x'' [ ]
      cases (inr (inl z)) =
          let a = k.below in
          let q = e.position in
          let w : e.entry.position ≡ k.n = ap (λ (y : Entry). y.position) z in
          omega arith

      go : (x : Bool) → leb i j ≡ x → ⊥
      go true h =
          let a = k.above in
          let q = e.position in
          let c = (in_bounds (at i) ((at-keeps b keeps ts w i).sound g) e.entry e.there).1 in
          let l = (at-later b ts i j (leb-true i j h) g).high in
          omega arith
      go false h =
          let lt = leb-false i j h in
          let q = e.position in
          let a = k.below in
          let L : Later (entered (at j) jumper) (at i) = subst (λ (l : Log). Later l (at i)) (skipping b ts j g p k) (at-later b ts (suc j) i lt g) in
          cases (in-cases e.entry (at j).entries (jumper ∷ []) (L.old e.entry e.there (omega arith)))

  pub model-remembered : (i j g p n : ℕ) (v d : List ℕ) → j < i → ForgetsAt ts (replies model_turn b ts) j g n → p < n → ShowsAt (replies model_turn b ts) i g p v d → ⊥
  unfolding cut_at
  model-remembered i j g p n v d ji k pn s =
      let a = at_call b ts j (truncate g n) k.call in
      let e = at-shown b keeps ts w i g p v d s in
      let q = e.position in
      let c = (in_bounds (log_at (after model_turn b (take i ts)).logs g) ((at-keeps b keeps ts w i).sound g) e.entry e.there).0 in
      let next : log_at (after model_turn b (take (suc j) ts)).logs g ≡ cut_at n (log_at (after model_turn b (take j ts)).logs g) =
      ap (λ (x : Model). log_at x.logs g) a.next ∙ truncated a.turn.rules (after model_turn b (take j ts)) g n k.low k.high (sym a.reply ∙ k.accepted) in
      let L : Later (cut_at n (log_at (after model_turn b (take j ts)).logs g)) (log_at (after model_turn b (take i ts)).logs g) = rw next at (at-later b ts (suc j) i ji g) in
      let low : n ≤ (log_at (after model_turn b (take i ts)).logs g).low = L.low in
      omega arith

  pub model-positive : (i g n : ℕ) (v d : List ℕ) → ShowsAt (replies model_turn b ts) i g n v d → 1 ≤ n
  model-positive i g n v d s =
      let e = at-shown b keeps ts w i g n v d s in
      let ok = (at-keeps b keeps ts w i).sound g in
      let q = e.position in
      let c = (in_bounds (log_at (after model_turn b (take i ts)).logs g) ok e.entry e.there).0 in
      let l = ok.low1 in
      omega arith

-- "With n = H + 1 nothing is skipped.", of call j on log g, H being the log's high as the calls before it left it
pub next_skips-none : (b : Model) (ts : List Turn) (rs : List Reply) (j g p : ℕ) (d x : List ℕ)
    → call_at ts j ≡ some (advance g (suc (log_at (after model_turn b (take j ts)).logs g).high) d x) → SkipsAt b ts rs j g p → ⊥
next_skips-none b ts rs j g p d x h s =
    let high = (log_at (after model_turn b (take j ts)).logs g).high in
    let e : advance g (suc high) d x ≡ advance g s.n s.given s.value = some-injective _ _ (sym h ∙ s.call) in
    let n : suc high ≡ s.n = cc in
    let above = s.above in
    let below = s.below in
    omega arith
