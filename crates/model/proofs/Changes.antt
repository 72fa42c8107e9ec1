-- What a call does to each log of the model: nothing, one entry more, or a cut.
use Prim.Native.Nat.{ℕ, suc, ◌^◌, ◌≤◌, ◌<◌}
use mathlib.Core.Path.{◌≡◌, refl, sym, ap, subst}
use mathlib.Core.List.{List}
use native.Mathlib.Omega.{arith}
use native.Mathlib.Decide.{ℕ_discrete}
use lib.ListN.{length, set}
use lib.Seq.{get_or-set_same, get_or-set_other}
use Rattle.layout.specs.Image.{Entry}
use Rattle.a2m.specs.Call.{Call, append, advance, truncate, lookup, end, done, Effect, Wide}
use Rattle.a2m.specs.NewEntry.{new_entry}
use Rattle.entry.proofs.DigestLaws.{length-entry_digest}
use Rattle.model.specs.Log.{Log, fresh_log, last_entry, entered, cut_at}
use Rattle.model.specs.Model.{Rules, Model, log_at, model_done, model_accept, model_step}
use Rattle.model.proofs.Passed.{Passed, Stepped, turned, taken, stepped}

-- a log before and after a call whose arguments have their widths where Ok holds
pub data Change (Ok : Type 0) (l k : Log) : Type 0 where
  same : k ≡ l → Change Ok l k
  entering : (e : Entry) → l.high < e.position → (Ok → l.high < 2 ^ 64 → e.position < 2 ^ 64) → length e.value ≡ 32 → length e.digest ≡ 32 → k ≡ entered l e → Change Ok l k
  cutting : (n : ℕ) → l.low < n → n ≤ l.high → k ≡ cut_at n l → Change Ok l k

module _ (ru : Rules) (b : Model) where
  -- the log named changes, and no other
  change-at : (Ok : Type 0) (w g : ℕ) (l : Log) → g < length b.logs → Change Ok (log_at b.logs g) l → (k : ℕ) → Change Ok (log_at b.logs k) (log_at (model_done w b g l).state.logs k)
  unfolding model_done
  change-at Ok w g l g_g c k = go (ℕ_discrete k g)
    where
      go : Dec (k ≡ g) → Change Ok (log_at b.logs k) (log_at (set b.logs g l) k)
      go (yes e) = rw (e, get_or-set_same b.logs g l (fresh_log 0) g_g) c
      go (no n) = same (get_or-set_other b.logs g k l (fresh_log 0) n)

  accept-change : (call : Call) → Passed ru b call → (k : ℕ) → Change (Wide call) (log_at b.logs k) (log_at (model_accept ru b call).state.logs k)
  unfolding model_accept
  accept-change (append g x) a k =
      let l = log_at b.logs g in
      let r = a.room in
      change-at (Unit {0}) 2 g _ a.log (entering _ (omega arith) (λ (v : Unit {0}) (q : l.high < 2 ^ 64). omega arith) a.value (length-entry_digest _ x _) refl) k
  accept-change (advance g n d x) a k =
      let l = log_at b.logs g in
      change-at (n < 2 ^ 64) 2 g _ a.log (entering _ a.above (λ (v : n < 2 ^ 64) (q : l.high < 2 ^ 64). v) a.value (length-entry_digest n x _) refl) k
  accept-change (truncate g n) a k = change-at (n < 2 ^ 64) 0 g _ a.log (cutting n a.low a.high refl) k
  accept-change (lookup g n c q) a k = same refl
  accept-change (end g c q) a k = same refl

  pub step-change : (call : Call) (k : ℕ) → Change (Wide call) (log_at b.logs k) (log_at (model_step ru b call).state.logs k)
  step-change call k = go (stepped ru b call)
    where
      go : Stepped ru b call → Change (Wide call) (log_at b.logs k) (log_at (model_step ru b call).state.logs k)
      go (turned n e) = rw e (same refl)
      go (taken a e) = rw e (accept-change call a k)

-- ---- and by which call

-- what the call c makes of log g: nothing, an append's entry, an accepted advance's, or an accepted truncate's cut
pub data Did (ru : Rules) (b : Model) (g : ℕ) (c : Call) (k : Log) : Type 0 where
  idle : k ≡ log_at b.logs g → Did ru b g c k
  appending : (e : Entry) → e.position ≡ suc (log_at b.logs g).high → k ≡ entered (log_at b.logs g) e → Did ru b g c k
  advancing : (n : ℕ) (d x : List ℕ) (lo hi : ℕ) → c ≡ advance g n d x → (model_step ru b c).reply ≡ done lo hi → k ≡ entered (log_at b.logs g) (new_entry n x d) → Did ru b g c k
  truncating : (n lo hi : ℕ) → c ≡ truncate g n → (model_step ru b c).reply ≡ done lo hi → k ≡ cut_at n (log_at b.logs g) → Did ru b g c k

module _ (ru : Rules) (b : Model) (g : ℕ) where
  did_at : (c : Call) (w h : ℕ) (l : Log) → h < length b.logs → model_step ru b c ≡ model_done w b h l → (h ≡ g → Did ru b g c l) → Did ru b g c (log_at (model_step ru b c).state.logs g)
  unfolding model_done
  did_at c w h l h_g e f = rw e (go (ℕ_discrete h g))
    where
      go : Dec (h ≡ g) → Did ru b g c (log_at (set b.logs h l) g)
      go (yes q) = subst (Did ru b g c) (sym (subst (λ (y : ℕ). log_at (set b.logs h l) y ≡ l) q (get_or-set_same b.logs h l (fresh_log 0) h_g))) (f q)
      go (no z) = idle (get_or-set_other b.logs h g l (fresh_log 0) (λ (q : g ≡ h). z (sym q)))

  pub did : (c : Call) → Did ru b g c (log_at (model_step ru b c).state.logs g)
  unfolding model_accept model_done
  did c = go c (stepped ru b c)
    where
      go : (c : Call) → Stepped ru b c → Did ru b g c (log_at (model_step ru b c).state.logs g)
      go c (turned k e) = idle (ap (λ (o : Effect Model). log_at o.state.logs g) e)
      go (append h x) (taken a e) = did_at _ 2 h _ a.log e (λ (q : h ≡ g). appending _ (ap (λ (y : ℕ). suc (log_at b.logs y).high) q) (ap (λ (y : ℕ). entered (log_at b.logs y) (new_entry (suc (log_at b.logs h).high) x (last_entry (log_at b.logs h).entries).digest)) q))
      go (advance h n d x) (taken a e) = did_at _ 2 h _ a.log e (λ (q : h ≡ g). advancing n d x _ _ (ap (λ (y : ℕ). advance y n d x) q) (ap (λ (o : Effect Model). o.reply) e) (ap (λ (y : ℕ). entered (log_at b.logs y) (new_entry n x d)) q))
      go (truncate h n) (taken a e) = did_at _ 0 h _ a.log e (λ (q : h ≡ g). truncating n _ _ (ap (λ (y : ℕ). truncate y n) q) (ap (λ (o : Effect Model). o.reply) e) (ap (λ (y : ℕ). cut_at n (log_at b.logs y)) q))
      go (lookup h n c k) (taken a e) = idle (ap (λ (o : Effect Model). log_at o.state.logs g) e)
      go (end h c k) (taken a e) = idle (ap (λ (o : Effect Model). log_at o.state.logs g) e)

-- the low changes by an accepted truncate alone
pub did-low : (ru : Rules) (b : Model) (g : ℕ) (c : Call) (k : Log) → Did ru b g c k → (p : ℕ) → (log_at b.logs g).low ≤ p → ((n lo hi : ℕ) → c ≡ truncate g n → (model_step ru b c).reply ≡ done lo hi → n ≤ p) → k.low ≤ p
unfolding entered cut_at
did-low ru b g c k (idle e) p h cut = rw e h
did-low ru b g c k (appending x t e) p h cut = rw e h
did-low ru b g c k (advancing n d x lo hi t a e) p h cut = rw e h
did-low ru b g c k (truncating n lo hi t a e) p h cut = rw e (cut n lo hi t a)
