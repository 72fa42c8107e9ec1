-- What an accepted call of the model passed.
use Prim.Native.Nat.{ℕ, ◌-◌, ◌^◌, ◌≤◌, ◌<◌}
use mathlib.Core.Path.{◌≡◌, refl}
use mathlib.Core.Logic.{◌≢◌}
use mathlib.Core.List.{List}
use mathlib.Core.Bool.{Bool, true, false, cond, not, ◌||◌}
use mathlib.Core.Option.{Option, none, some, some-ne-none}
use lib.ListN.{length}
use lib.Dec.{eqb, leb, ltb}
use borrow.Author.Tests.{eqb-true, eqb-false, leb-false, ltb-false, not-false}
use Rattle.octets.proofs.Tests.{or-none}
use Rattle.a2m.specs.Call.{Call, append, advance, truncate, lookup, end, refused, effect}
use Rattle.model.specs.Model.{Rules, Model, log_at, not32, model_refusal, model_accept, model_step}

pub record AppendPassed (ru : Rules) (b : Model) (g : ℕ) (x : List ℕ) : Type 0 where
  pub value : length x ≡ 32
  pub log : g < length b.logs
  pub room : (log_at b.logs g).high ≢ 2 ^ 64 - 1
  pub slot : ru.no_slot b g ≡ none

pub record AdvancePassed (ru : Rules) (b : Model) (g n : ℕ) (d x : List ℕ) : Type 0 where
  pub value : length x ≡ 32
  pub log : g < length b.logs
  pub above : (log_at b.logs g).high < n
  pub slot : ru.no_slot b g ≡ none

pub record TruncatePassed (b : Model) (g n : ℕ) : Type 0 where
  pub log : g < length b.logs
  pub low : (log_at b.logs g).low < n
  pub high : n ≤ (log_at b.logs g).high

pub record LookupPassed (b : Model) (g n : ℕ) (c : List ℕ) : Type 0 where
  pub nonce : length c ≡ 32
  pub log : g < length b.logs
  pub position : n ≢ 0

pub record EndPassed (b : Model) (g : ℕ) (c : List ℕ) : Type 0 where
  pub nonce : length c ≡ 32
  pub log : g < length b.logs

abbrev pub Passed : Rules → Model → Call → Type 0
Passed ru b (append g x) = AppendPassed ru b g x
Passed ru b (advance g n d x) = AdvancePassed ru b g n d x
Passed ru b (truncate g n) = TruncatePassed b g n
Passed ru b (lookup g n c k) = LookupPassed b g n c
Passed ru b (end g c k) = EndPassed b g c

-- a test that gave no number did not hold
pub peel : (b : Bool) (k : ℕ) (rest : Option ℕ) → cond b (some k) rest ≡ none → (b ≡ false) × (rest ≡ none)
peel true k rest h = absurd (some-ne-none k h)
peel false k rest h = (refl, h)

is32 : (x : List ℕ) → not32 x ≡ false → length x ≡ 32
is32 x h = eqb-true (length x) 32 (not-false (eqb (length x) 32) h)

pub passed : (ru : Rules) (b : Model) (call : Call) → model_refusal ru b call ≡ none → Passed ru b call
unfolding model_refusal
passed ru b (append g x) h =
    let p7 = peel (not32 x) 7 _ h in
    let p2 = peel (leb (length b.logs) g) 2 _ p7.1 in
    let p4 = peel (eqb (log_at b.logs g).high (2 ^ 64 - 1)) 4 _ p2.1 in
    record { value = is32 x p7.0; log = leb-false (length b.logs) g p2.0; room = eqb-false (log_at b.logs g).high (2 ^ 64 - 1) p4.0; slot = p4.1 }
passed ru b (advance g n d x) h =
    let p7 = peel (not32 d || not32 x) 7 _ h in
    let p2 = peel (leb (length b.logs) g) 2 _ p7.1 in
    let p3 = peel (leb n (log_at b.logs g).high) 3 _ p2.1 in
    record { value = is32 x (or-none (not32 d) (not32 x) p7.0).1; log = leb-false (length b.logs) g p2.0; above = leb-false n (log_at b.logs g).high p3.0; slot = p3.1 }
passed ru b (truncate g n) h =
    let p2 = peel (leb (length b.logs) g) 2 _ h in
    let p3 = peel (leb n (log_at b.logs g).low || ltb (log_at b.logs g).high n) 3 _ p2.1 in
    let q = or-none (leb n (log_at b.logs g).low) (ltb (log_at b.logs g).high n) p3.0 in
    record { log = leb-false (length b.logs) g p2.0; low = leb-false n (log_at b.logs g).low q.0; high = ltb-false (log_at b.logs g).high n q.1 }
passed ru b (lookup g n c k) h =
    let p7 = peel (not32 c || not (eqb k 160)) 7 _ h in
    let p2 = peel (leb (length b.logs) g) 2 _ p7.1 in
    let p3 = peel (eqb n 0) 3 _ p2.1 in
    record { nonce = is32 c (or-none (not32 c) (not (eqb k 160)) p7.0).0; log = leb-false (length b.logs) g p2.0; position = eqb-false n 0 p3.0 }
passed ru b (end g c k) h =
    let p7 = peel (not32 c || not (eqb k 160)) 7 _ h in
    let p2 = peel (leb (length b.logs) g) 2 _ p7.1 in
    record { nonce = is32 c (or-none (not32 c) (not (eqb k 160)) p7.0).0; log = leb-false (length b.logs) g p2.0 }

-- the model's answer is a refusal, or what an accepted call gives
pub data Stepped (ru : Rules) (b : Model) (call : Call) : Type 0 where
  turned : (k : ℕ) → model_step ru b call ≡ effect (refused k) 0 b → Stepped ru b call
  taken : Passed ru b call → model_step ru b call ≡ model_accept ru b call → Stepped ru b call

pub stepped : (ru : Rules) (b : Model) (call : Call) → Stepped ru b call
unfolding model_step
stepped ru b call = go (model_refusal ru b call) refl
  where
    go : (r : Option ℕ) → model_refusal ru b call ≡ r → Stepped ru b call
    go none e = taken (passed ru b call e) (rw (model_step, e))
    go (some k) e = turned k (rw (model_step, e))
