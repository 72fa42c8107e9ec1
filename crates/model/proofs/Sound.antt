-- Every call keeps the model's logs in their rules.
use Prim.Native.Nat.{ℕ, suc, ◌≤◌, ◌<◌}
use native.Mathlib.Nat.{le_refl}
use mathlib.Core.Path.{◌≡◌, refl, ap, ◌∙◌}
use mathlib.Core.List.{List, [], ◌∷◌, ◌++◌}
use mathlib.Core.Bool.{Bool, true, false, cond}
use native.Mathlib.Omega.{arith}
use native.Mathlib.Decide.{ℕ_discrete}
use lib.Dec.{leb}
use borrow.Author.Tests.{leb-true, leb-false}
use Rattle.layout.specs.Image.{Entry}
use Rattle.a2m.specs.Call.{Call, Wide}
use Rattle.model.specs.Log.{Log, last_entry, entered, keep_from, cut_at}
use Rattle.model.specs.Model.{Rules, Model, log_at, model_step}
use Rattle.model.proofs.Represents.{LogOk, Sound, Rising}
use Rattle.model.proofs.Reading.{last_entry-snoc}
use Rattle.model.proofs.Positions.{rising-last, ok-low}
use Rattle.model.proofs.Truncate.{keep_from-all, keep_from-drop}
use Rattle.model.proofs.Changes.{Change, same, entering, cutting, step-change}

rising_snoc : (w : ℕ) (es : List Entry) (e : Entry) → Rising w es → (last_entry es).position < e.position → w ≤ e.position → Rising w (es ++ (e ∷ []))
unfolding last_entry
rising_snoc w [] e r top low = (low, tt)
rising_snoc w (x ∷ []) e r top low = (r.0, (top, tt))
rising_snoc w (x ∷ y ∷ es) e r top low =
    let h = rising-last (suc x.position) y es r.1 in
    (r.0, rising_snoc (suc x.position) (y ∷ es) e r.1 top (omega arith))

pub entered-ok : (l : Log) (e : Entry) → LogOk l → l.high < e.position → LogOk (entered l e)
unfolding entered
entered-ok l e ok h =
    let t = ok.top in
    let low : l.low ≤ e.position = go (ℕ_discrete l.high 0) in
    record { low1 = ok.low1; rising = rising_snoc l.low l.entries e ok.rising (omega arith) low; top = ap (λ (x : Entry). x.position) (last_entry-snoc l.entries e); fresh = λ (z : e.position ≡ 0). absurd (omega arith) }
  where
    go : Dec (l.high ≡ 0) → l.low ≤ e.position
    go (yes z) = let q = ok.fresh z in omega arith
    go (no n) = let q = ok-low l ok n in omega arith

pub keep_from-rising : (n w : ℕ) (es : List Entry) → Rising w es → Rising n (keep_from n es)
unfolding keep_from
keep_from-rising n w [] r = tt
keep_from-rising n w (e ∷ es) r = go (leb n e.position) refl (keep_from-rising n (suc e.position) es r.1)
  where
    go : (t : Bool) → leb n e.position ≡ t → Rising n (keep_from n es) → Rising n (cond t (e ∷ keep_from n es) (keep_from n es))
    go true q ih = let h = leb-true n e.position q in (h, rw (keep_from-all n (suc e.position) es r.1 (omega arith)) r.1)
    go false q ih = ih

keep_from-last : (n w : ℕ) (es : List Entry) → Rising w es → 1 ≤ n → n ≤ (last_entry es).position → last_entry (keep_from n es) ≡ last_entry es
unfolding last_entry
keep_from-last n w [] r n1 h = absurd (omega arith)
keep_from-last n w (e ∷ []) r n1 h = ap last_entry (keep_from-all n e.position (e ∷ []) (omega arith, tt) h)
keep_from-last n w (e ∷ f ∷ es) r n1 h = go (leb n e.position) refl (keep_from-last n (suc e.position) (f ∷ es) r.1 n1 h)
  where
    go : (t : Bool) → leb n e.position ≡ t → last_entry (keep_from n (f ∷ es)) ≡ last_entry (f ∷ es) → last_entry (keep_from n (e ∷ f ∷ es)) ≡ last_entry (f ∷ es)
    go true q ih = ap last_entry (keep_from-all n e.position (e ∷ f ∷ es) (le_refl _, r.1) (leb-true n e.position q))
    go false q ih = ap last_entry (keep_from-drop n e (f ∷ es) (leb-false n e.position q)) ∙ ih

pub cut_ok : (l : Log) (n : ℕ) → LogOk l → l.low < n → n ≤ l.high → LogOk (cut_at n l)
unfolding cut_at
cut_ok l n ok lo hi =
    let t = ok.top in
    record { low1 = omega arith; rising = keep_from-rising n l.low l.entries ok.rising; top = ap (λ (x : Entry). x.position) (keep_from-last n l.low l.entries ok.rising (omega arith) (omega arith)) ∙ ok.top; fresh = λ (z : l.high ≡ 0). absurd (omega arith) }

pub change-ok : (Ok : Type 0) (l k : Log) → Change Ok l k → LogOk l → LogOk k
change-ok Ok l k (same e) ok = rw e ok
change-ok Ok l k (entering e hi w v d q) ok = rw q (entered-ok l e ok hi)
change-ok Ok l k (cutting n lo hi q) ok = rw q (cut_ok l n ok lo hi)

pub step_sound : (ru : Rules) (b : Model) → Sound b → (call : Call) → Sound (model_step ru b call).state
step_sound ru b ok call g = change-ok (Wide call) (log_at b.logs g) (log_at (model_step ru b call).state.logs g) (step-change ru b call g) (ok g)
