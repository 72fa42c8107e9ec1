-- The model never answers 1; nor any number but its own tests' that its rules lack.
use Prim.Native.Nat.{ℕ, zero, suc, ◌-◌, ◌^◌, ◌≤◌}
use mathlib.Core.Path.{◌≡◌, refl}
use mathlib.Core.Logic.{◌≢◌}
use mathlib.Core.List.{List, [], ◌∷◌}
use mathlib.Core.Bool.{Bool, true, false, cond, not, ◌||◌}
use mathlib.Core.Option.{Option, none, some, none-ne-some, some-injective}
use native.Mathlib.Omega.{arith}
use lib.ListN.{length}
use lib.Dec.{eqb, leb, ltb}
use Rattle.a2m.specs.Call.{Call, append, advance, truncate, lookup, end, Wide, refused, Effect, replies}
use Rattle.model.specs.Model.{Rules, rules01, slot_rule, rules, Model, log_at, total, lacks_but, is_nil, not32, model_refusal, model_lookup, model_end, model_done, model_accept, model_step}
use Rattle.model.specs.Claim.{Turn, model_turn, reply_at}
use Rattle.model.proofs.Turns.{WideTurn, turn-so, Each}

-- rules that have no number w
pub record Lacks (w : ℕ) (ru : Rules) : Type 0 where
  pub slot : (b : Model) (g : ℕ) → ru.no_slot b g ≢ some w
  pub end : ru.empty_end ≢ some w

abbrev pub Calm : Rules → Type 0
Calm ru = Lacks 1 ru

pub none-not : (w : ℕ) → ◌≢◌ {A = Option ℕ} none (some w)
none-not w h = none-ne-some w h

pub unless : (w : ℕ) (t : Bool) (k : ℕ) (rest : Option ℕ) → k ≢ w → rest ≢ some w → cond t (some k) rest ≢ some w
unless w true k rest h r e = h (some-injective k w e)
unless w false k rest h r e = r e

pub calm01 : Calm rules01
unfolding rules01
calm01 = record { slot = λ (b : Model) (g : ℕ). unless 1 (eqb (total b.logs) b.size) 5 none (λ z. omega arith) (none-not 1); end = λ h. let z : ◌≡◌ {A = ℕ} 6 1 = cc in omega arith }

if-so : (w : ℕ) (t : Bool) (x rest : Option ℕ) → x ≢ some w → rest ≢ some w → cond t x rest ≢ some w
if-so w true x rest h r e = h e
if-so w false x rest h r e = r e

-- of a number that is neither 5 nor 16
pub slot-not : (w : ℕ) → 5 ≢ w → 16 ≢ w → (b : Model) (g : ℕ) → slot_rule b g ≢ some w
unfolding slot_rule
slot-not w n5 n16 b g =
    let l = log_at b.logs g in
    unless w (eqb (total b.logs) b.size) 5 _ n5
    (if-so w (ltb (length l.entries) l.reserve) none _ (none-not w)
    (unless w (leb (b.size - total b.logs) (lacks_but g b.logs)) 16 none n16 (none-not w)))

pub calm : Calm rules
unfolding rules
calm = record { slot = slot-not 1 (λ z. omega arith) (λ z. omega arith); end = none-not 1 }

-- of a number w that is none of the model's own tests
module _ (w : ℕ) (n7 : 7 ≢ w) (n2 : 2 ≢ w) (n3 : 3 ≢ w) (n4 : 4 ≢ w) (ru : Rules) (k : Lacks w ru) (b : Model) where
  refusal-not : (call : Call) → model_refusal ru b call ≢ some w
  unfolding model_refusal
  refusal-not (append g x) =
      unless w (not32 x) 7 _ n7 (unless w (leb (length b.logs) g) 2 _ n2 (unless w (eqb (log_at b.logs g).high (2 ^ 64 - 1)) 4 _ n4 (k.slot b g)))
  refusal-not (advance g n d x) =
      unless w (not32 d || not32 x) 7 _ n7 (unless w (leb (length b.logs) g) 2 _ n2 (unless w (leb n (log_at b.logs g).high) 3 _ n3 (k.slot b g)))
  refusal-not (truncate g n) =
      unless w (leb (length b.logs) g) 2 _ n2 (unless w (leb n (log_at b.logs g).low || ltb (log_at b.logs g).high n) 3 _ n3 (none-not w))
  refusal-not (lookup g n c r) =
      unless w (not32 c || not (eqb r 160)) 7 _ n7 (unless w (leb (length b.logs) g) 2 _ n2 (unless w (eqb n 0) 3 _ n3 (none-not w)))
  refusal-not (end g c r) =
      unless w (not32 c || not (eqb r 160)) 7 _ n7
      (unless w (leb (length b.logs) g) 2 _ n2 (if-so w (is_nil (log_at b.logs g).entries) ru.empty_end none k.end (none-not w)))

  accept-not : (call : Call) → (model_accept ru b call).reply ≢ refused w
  unfolding model_accept model_done model_lookup model_end
  accept-not (append g x) h = let z : ◌≡◌ {A = ℕ} 0 1 = cc in omega arith
  accept-not (advance g n d x) h = let z : ◌≡◌ {A = ℕ} 0 1 = cc in omega arith
  accept-not (truncate g n) h = let z : ◌≡◌ {A = ℕ} 0 1 = cc in omega arith
  accept-not (lookup g n c r) h = let z : ◌≡◌ {A = ℕ} 0 1 = cc in omega arith
  accept-not (end g c r) h = let z : ◌≡◌ {A = ℕ} 0 1 = cc in omega arith

  pub step-not : (call : Call) → (model_step ru b call).reply ≢ refused w
  unfolding model_step
  step-not call h = go (model_refusal ru b call) refl
    where
      go : (r : Option ℕ) → model_refusal ru b call ≡ r → ⊥
      go none e = accept-not call (rw (model_step, e) at h)
      go (some n) e = refusal-not call (let q : refused n ≡ refused w = rw (model_step, e) at h in cc)

pub refused-not : (n w : ℕ) → n ≢ w → refused n ≢ refused w
refused-not n w h e = h cc

abbrev pub CalmTurn : Turn → Type 0
CalmTurn t = Calm t.rules

pub model-untorn : (b : Model) (ts : List Turn) → Each CalmTurn ts → (i : ℕ) → reply_at (replies model_turn b ts) i ≢ refused 1
unfolding replies
model-untorn b [] k i h = let z : ◌≡◌ {A = ℕ} 0 1 = cc in omega arith
model-untorn b (t ∷ ts) k zero h =
    turn-so b t (λ (o : Effect Model). o.reply ≢ refused 1) (λ (n : ℕ) (u : 7 ≤ n). refused-not n 1 (λ (z : n ≡ 1). omega arith))
    (λ (c : Call) (w : WideTurn t → Wide c). step-not 1 (λ z. omega arith) (λ z. omega arith) (λ z. omega arith) (λ z. omega arith) t.rules k.0 b c) h
model-untorn b (t ∷ ts) k (suc i) h = model-untorn (model_turn b t).state ts k.1 i h
