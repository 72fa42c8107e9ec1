-- Two models with one log in common: a call on that log, accepted in both, answers alike and leaves the log alike; so does any call on it, if puts are made only
-- while it holds fewer entries than its reserve. A call on another log leaves it.
use Prim.Native.Nat.{ℕ, ◌-◌, ◌^◌, ◌<◌}
use mathlib.Core.Path.{◌≡◌, refl, sym, ap, subst, ◌∙◌}
use mathlib.Core.Logic.{◌≢◌}
use mathlib.Core.Bool.{Bool, true, false, cond, ◌||◌}
use mathlib.Core.Option.{Option, none, some}
use lib.ListN.{length, length-set}
use lib.Seq.{get_or-set_same, get_or-set_other}
use lib.Dec.{eqb, leb}
use borrow.Author.Tests.{leb-false}
use Rattle.a2m.specs.Call.{Call, append, advance, truncate, lookup, end, log_of, Puts, done, Effect}
use Rattle.model.specs.Log.{Log, fresh_log}
use Rattle.model.specs.Model.{Model, log_at, with_log, not32, slot_rule, rules01, rules, model_refusal, model_receipt, model_lookup, model_end, model_done, model_accept, model_step}
use Rattle.model.proofs.Passed.{Passed, passed, Stepped, turned, taken, stepped}
use Rattle.model.proofs.Backed.{Backed, room}

-- log g, the number of logs, and what a receipt is made with
pub record Same (g : ℕ) (b d : Model) : Type 0 where
  pub count : length b.logs ≡ length d.logs
  pub keeper : b.keeper ≡ d.keeper
  pub key : b.key ≡ d.key
  pub log : log_at b.logs g ≡ log_at d.logs g

pub same_refl : (g : ℕ) (b : Model) → Same g b b
same_refl g b = record { count = refl; keeper = refl; key = refl; log = refl }

pub same-sym : (g : ℕ) (b d : Model) → Same g b d → Same g d b
same-sym g b d s = record { count = sym s.count; keeper = sym s.keeper; key = sym s.key; log = sym s.log }

pub same-trans : (g : ℕ) (a b c : Model) → Same g a b → Same g b c → Same g a c
same-trans g a b c p q = record { count = p.count ∙ q.count; keeper = p.keeper ∙ q.keeper; key = p.key ∙ q.key; log = p.log ∙ q.log }

-- the log holds fewer entries than its reserve
abbrev pub Below : Model → ℕ → Type 0
Below b g = length (log_at b.logs g).entries < (log_at b.logs g).reserve

pub below-same : (g : ℕ) (b d : Model) → Same g b d → Below b g → Below d g
below-same g b d s h = subst (λ (l : Log). length l.entries < l.reserve) s.log h

-- ---- a call on another log

pub others : (g : ℕ) (b : Model) (c : Call) → log_of c ≢ g → Same g (model_step rules b c).state b
unfolding model_accept model_done
others g b c n = go (stepped rules b c)
  where
    setting : (k : ℕ) (l : Log) → k ≢ g → Same g (with_log b k l) b
    setting k l z = record { count = length-set b.logs k l; keeper = refl; key = refl; log = get_or-set_other b.logs k g l (fresh_log 0) (λ (e : g ≡ k). z (sym e)) }

    accepted : (c : Call) → log_of c ≢ g → Same g (model_accept rules b c).state b
    accepted (append k x) z = setting k _ z
    accepted (advance k n d x) z = setting k _ z
    accepted (truncate k n) z = setting k _ z
    accepted (lookup k n c r) z = same_refl g b
    accepted (end k c r) z = same_refl g b

    go : Stepped rules b c → Same g (model_step rules b c).state b
    go (turned k e) = rw e (same_refl g b)
    go (taken a e) = rw e (accepted c n)

-- ---- a call on the log

-- one answer, the same blocks, and the log alike after it
pub record Alike (g : ℕ) (x y : Effect Model) : Type 0 where
  pub reply : x.reply ≡ y.reply
  pub blocks : x.blocks ≡ y.blocks
  pub state : Same g x.state y.state

done-alike : (b d : Model) (w g : ℕ) → Same g b d → g < length b.logs → (l k : Log) → l ≡ k → Alike g (model_done w b g l) (model_done w d g k)
unfolding model_done
done-alike b d w g s g_g l k e = record {
  reply = ap (λ (x : Log). done x.low x.high) e;
  blocks = refl;
  state = record {
    count = length-set b.logs g l ∙ s.count ∙ sym (length-set d.logs g k);
    keeper = s.keeper;
    key = s.key;
    log = get_or-set_same b.logs g l (fresh_log 0) g_g ∙ e ∙ sym (get_or-set_same d.logs g k (fresh_log 0) (subst (λ (n : ℕ). g < n) s.count g_g));
  };
}

-- an accepted one
pub accept-alike : (b d : Model) (c : Call) → Same (log_of c) b d → Passed rules b c → Alike (log_of c) (model_accept rules b c) (model_accept rules d c)
unfolding model_accept model_lookup model_end model_receipt
accept-alike b d (append g x) s a = done-alike b d _ g s a.log _ _ (rw s.log)
accept-alike b d (advance g n y x) s a = done-alike b d _ g s a.log _ _ (rw s.log)
accept-alike b d (truncate g n) s a = done-alike b d _ g s a.log _ _ (rw s.log)
accept-alike b d (lookup g n c r) s a = record { reply = rw (s.log, s.key, s.keeper); blocks = refl; state = s }
accept-alike b d (end g c r) s a = record { reply = rw (s.log, s.key, s.keeper); blocks = refl; state = s }

module _ (b d : Model) (kb : Backed b) (kd : Backed d) where
  -- past refusal 2 both have a slot
  past-2 : (g : ℕ) → Same g b d → Below b g → (x y : Option ℕ → Option ℕ) → ((o : Option ℕ) → x o ≡ y o)
      → cond (leb (length b.logs) g) (some 2) (x (slot_rule b g)) ≡ cond (leb (length d.logs) g) (some 2) (y (slot_rule d g))
  past-2 g s h x y xy = go (leb (length b.logs) g) refl
    where
      go : (t : Bool) → leb (length b.logs) g ≡ t → cond (leb (length b.logs) g) (some 2) (x (slot_rule b g)) ≡ cond (leb (length d.logs) g) (some 2) (y (slot_rule d g))
      go true e = let f : leb (length d.logs) g ≡ true = ap (λ (z : ℕ). leb z g) (sym s.count) ∙ e in rw (e, f)
      go false e =
          let f : leb (length d.logs) g ≡ false = ap (λ (z : ℕ). leb z g) (sym s.count) ∙ e in
          let l = leb-false (length b.logs) g e in
          let m = leb-false (length d.logs) g f in
          rw (e, f, room b kb g l h, room d kd g m (below-same g b d s h)) (xy none)

  same-refusal : (c : Call) → Same (log_of c) b d → (Puts c → Below b (log_of c)) → model_refusal rules b c ≡ model_refusal rules d c
  unfolding model_refusal rules rules01
  same-refusal (append g x) s h =
      ap (λ (o : Option ℕ). cond (not32 x) (some 7) o)
      (past-2 g s (h tt) (λ o. cond (eqb (log_at b.logs g).high (2 ^ 64 - 1)) (some 4) o) (λ o. cond (eqb (log_at d.logs g).high (2 ^ 64 - 1)) (some 4) o) (λ o. ap (λ (l : Log). cond (eqb l.high (2 ^ 64 - 1)) (some 4) o) s.log))
  same-refusal (advance g n y x) s h =
      ap (λ (o : Option ℕ). cond (not32 y || not32 x) (some 7) o)
      (past-2 g s (h tt) (λ o. cond (leb n (log_at b.logs g).high) (some 3) o) (λ o. cond (leb n (log_at d.logs g).high) (some 3) o) (λ o. ap (λ (l : Log). cond (leb n l.high) (some 3) o) s.log))
  same-refusal (truncate g n) s h = rw (s.count, s.log)
  same-refusal (lookup g n c r) s h = rw s.count
  same-refusal (end g c r) s h = rw (s.count, s.log)

  pub step-alike : (c : Call) → Same (log_of c) b d → (Puts c → Below b (log_of c)) → Alike (log_of c) (model_step rules b c) (model_step rules d c)
  unfolding model_step
  step-alike c s h = go (model_refusal rules d c) refl
    where
      go : (r : Option ℕ) → model_refusal rules d c ≡ r → Alike (log_of c) (model_step rules b c) (model_step rules d c)
      go none e = rw (model_step, same-refusal c s h, e) (accept-alike b d c s (passed rules b c (same-refusal c s h ∙ e)))
      go (some k) e = rw (model_step, same-refusal c s h, e) (record { reply = refl; blocks = refl; state = s })
