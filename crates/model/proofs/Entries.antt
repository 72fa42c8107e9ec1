-- The entries of a log that keeps its rules: where they stand, one to a position, each of its size.
use Prim.Native.Nat.{ℕ, suc, ◌^◌, ◌≤◌, ◌<◌}
use mathlib.Core.Path.{◌≡◌, refl, sym, ap, ◌∙◌}
use mathlib.Core.Logic.{◌⊎◌, inl, inr}
use mathlib.Core.List.{List, [], ◌∷◌, ◌++◌}
use mathlib.Core.Bool.{false, true≢false}
use native.Mathlib.Omega.{arith}
use lib.ListN.{length}
use Rattle.layout.specs.Image.{Entry}
use Rattle.a2m.specs.Call.{Call, Wide}
use Rattle.table.proofs.Lists.{In, in-cases}
use Rattle.model.specs.Log.{Log, last_entry, entered, keep_from, cut_at}
use Rattle.model.specs.Model.{Rules, Model, log_at, is_nil, model_step}
use Rattle.model.proofs.Represents.{LogOk, Rising}
use Rattle.model.proofs.Changes.{Change, same, entering, cutting, step-change}
use Rattle.model.proofs.Later.{in-keep_from}

-- the log has an entry at n with this value and digest
pub record EntryAt (l : Log) (n : ℕ) (v d : List ℕ) : Type 0 where
  pub entry : Entry
  pub there : In entry l.entries
  pub position : entry.position ≡ n
  pub value : entry.value ≡ v
  pub digest : entry.digest ≡ d

pub last-in : (es : List Entry) → is_nil es ≡ false → In (last_entry es) es
unfolding is_nil last_entry
last-in [] h = absurd (true≢false h)
last-in (e ∷ []) h = inl refl
last-in (e ∷ f ∷ es) h = inr (last-in (f ∷ es) refl)

-- the position of an entry lies between low and high
pub rising-in : (w : ℕ) (es : List Entry) → Rising w es → (e : Entry) → In e es → (w ≤ e.position) × (e.position ≤ (last_entry es).position)
unfolding last_entry
rising-in w [] r e x'' = elim x'' [ ]
rising-in w (x ∷ []) r e (inr m) = elim m [ ]
rising-in w (x ∷ []) r e (inl q) = let p : e.position ≡ x.position = ap (λ (y : Entry). y.position) q in let h : w ≤ x.position = r.0 in omega arith
rising-in w (x ∷ y ∷ es) r e (inl q) =
    let p : e.position ≡ x.position = ap (λ (z : Entry). z.position) q in
    let h : w ≤ x.position = r.0 in
    let k = rising-in (suc x.position) (y ∷ es) r.1 y (inl refl) in
    let a = k.0 in
    let c = k.1 in
    omega arith
rising-in w (x ∷ y ∷ es) r e (inr m) =
    let h : w ≤ x.position = r.0 in
    let k = rising-in (suc x.position) (y ∷ es) r.1 e m in
    let a = k.0 in
    let c = k.1 in
    omega arith

pub in_bounds : (l : Log) → LogOk l → (e : Entry) → In e l.entries → (l.low ≤ e.position) × (e.position ≤ l.high)
in_bounds l ok e m = let r = rising-in l.low l.entries ok.rising e m in let a = r.0 in let c = r.1 in let t = ok.top in omega arith

-- one position has one entry
pub rising-one : (w : ℕ) (es : List Entry) → Rising w es → (e f : Entry) → In e es → In f es → e.position ≡ f.position → e ≡ f
rising-one w [] r e f x4 _ h = elim x4 [ ]
rising-one w (x ∷ es) r e f (inl p) (inl q) h = p ∙ sym q
rising-one w (x ∷ es) r e f (inl p) (inr q) h =
    absurd (let k = (rising-in (suc x.position) es r.1 f q).0 in let a : e.position ≡ x.position = ap (λ (z : Entry). z.position) p in omega arith)
rising-one w (x ∷ es) r e f (inr p) (inl q) h =
    absurd (let k = (rising-in (suc x.position) es r.1 e p).0 in let a : f.position ≡ x.position = ap (λ (z : Entry). z.position) q in omega arith)
rising-one w (x ∷ es) r e f (inr p) (inr q) h = rising-one (suc x.position) es r.1 e f p q h

-- ---- sizes

-- what is written down fits its bytes
pub record Fit (l : Log) : Type 0 where
  pub high : l.high < 2 ^ 64
  pub sized : (e : Entry) → In e l.entries → (length e.value ≡ 32) × (length e.digest ≡ 32)

abbrev pub AllFit : Model → Type 0
AllFit b = (g : ℕ) → Fit (log_at b.logs g)

change-fit : (Ok : Type 0) (l k : Log) → Ok → Change Ok l k → Fit l → Fit k
unfolding entered cut_at
change-fit Ok l k v (same e) f = rw e f
change-fit Ok l k v (entering e hi w lv ld q) f = rw q (record { high = w v f.high; sized = λ (x : Entry) (m : In x (l.entries ++ (e ∷ []))). go x (in-cases x l.entries (e ∷ []) m) })
  where
    go : (x : Entry) → In x l.entries ⊎ In x (e ∷ []) → (length x.value ≡ 32) × (length x.digest ≡ 32)
    go x (inl m) = f.sized x m
    go x (inr (inr x5)) = elim x5 [ ]
    go x (inr (inl p)) = (rw p lv, rw p ld)
change-fit Ok l k v (cutting n lo hi q) f = rw q (record { high = f.high; sized = λ (x : Entry) (m : In x (keep_from n l.entries)). f.sized x (in-keep_from n x l.entries m) })

pub step_fits : (ru : Rules) (b : Model) → AllFit b → (c : Call) → Wide c → AllFit (model_step ru b c).state
step_fits ru b f c v g = change-fit (Wide c) _ _ v (step-change ru b c g) (f g)
