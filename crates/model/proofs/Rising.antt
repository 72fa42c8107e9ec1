-- The positions that a list assigns in one log rise; so after an accepted close no position of its survey is assigned (request [10]).
use Prim.Native.Nat.{ℕ, suc, ◌<◌}
use mathlib.Core.Path.{◌≡◌, refl, sym, ap, subst, ◌∙◌}
use mathlib.Core.Logic.{◌≢◌}
use mathlib.Core.List.{List}
use mathlib.Core.Option.{some, map-eq-some_iff}
use native.Mathlib.Omega.{arith}
use lib.ListN.{take, get_elem?}
use lib.Seq.{get_or-set_same}
use Rattle.a2m.specs.Call.{Call, append, advance, log_of, Puts, refused, done, Effect, replies, after}
use Rattle.octets.specs.Octets.{zeros}
use Rattle.survey.specs.Packing.{packed, survey_of, last_reading}
use Rattle.survey.specs.Requests.{Request, closes, call_of, made_of, request_step}
use Rattle.model.specs.Log.{fresh_log, entered}
use Rattle.model.specs.Model.{Rules, Model, log_at, model_done, model_accept, model_step}
use Rattle.model.specs.Claim.{Turn, model_turn, request_at, call_at, reply_at, AssignsAt, ClosesAt}
use Rattle.model.proofs.Passed.{Stepped, turned, taken, stepped}
use Rattle.survey.proofs.RequestLaws.{Early, away, made-call, early-of}
use Rattle.model.proofs.Requests.{request-is}
use Rattle.model.proofs.Along.{at-later, at_turn, at_call, advanced}

-- a log's high before and after a call that assigns n in it
record Raised (b k : Model) (g n : ℕ) : Type 0 where
  before : (log_at b.logs g).high < n
  after : (log_at k.logs g).high ≡ n

raised : (ru : Rules) (b : Model) (n low : ℕ) (c : Call) → Puts c → (model_step ru b c).reply ≡ done low n → Raised b (model_step ru b c).state (log_of c) n
unfolding model_accept model_done entered
raised ru b n low c p r = go c p r (stepped ru b c)
  where
    go : (c : Call) → Puts c → (model_step ru b c).reply ≡ done low n → Stepped ru b c → Raised b (model_step ru b c).state (log_of c) n
    go c p r (turned k e) = absurd (let q : refused k ≡ done low n = rw e at r in let z : ◌≡◌ {A = ℕ} 0 1 = cc in omega arith)
    go (Rattle.a2m.specs.Call.truncate log _) p r (taken a e) = elim p [ ]
    go (Rattle.a2m.specs.Call.lookup log _ nonce lent) p r (taken a e) = elim p [ ]
    go (Rattle.a2m.specs.Call.end log nonce lent) p r (taken a e) = elim p [ ]
    go (append k y) p r (taken a e) =
        let q : done (log_at b.logs k).low (suc (log_at b.logs k).high) ≡ done low n = rw e at r in
        let at : suc (log_at b.logs k).high ≡ n = cc in
        record { before = omega arith; after = rw (e, get_or-set_same b.logs k _ (fresh_log 0) a.log) at }
    go (advance k m d y) p r (taken a e) =
        let q : done (log_at b.logs k).low m ≡ done low n = rw e at r in
        let at : m ≡ n = cc in
        let h = a.above in
        record { before = omega arith; after = rw (e, get_or-set_same b.logs k _ (fresh_log 0) a.log) at }

-- a position above a survey's last reading lies in another survey
past_survey : (s n : ℕ) → packed s last_reading < n → survey_of n ≢ s
unfolding packed last_reading survey_of
past_survey s n h e = omega arith

module _ (b : Model) (ts : List Turn) where
  at-raised : (i g n : ℕ) → AssignsAt ts (replies model_turn b ts) i g n → Raised (after model_turn b (take i ts)) (after model_turn b (take (suc i) ts)) g n
  at-raised i g n a =
      let o = at_call b ts i a.put a.call in
      subst (λ (k : ℕ). Raised (after model_turn b (take i ts)) (after model_turn b (take (suc i) ts)) k n) a.log
      (rw o.next (raised o.turn.rules (after model_turn b (take i ts)) n a.low a.put a.puts (sym o.reply ∙ a.accepted)))

  pub model-rising : (i j g n m : ℕ) → i < j → AssignsAt ts (replies model_turn b ts) i g n → AssignsAt ts (replies model_turn b ts) j g m → n < m
  model-rising i j g n m lt x y =
      let p = (at-raised i g n x).after in
      let q = (at-raised j g m y).before in
      let l = (at-later b ts (suc i) j lt g).high in
      omega arith

  -- an accepted request makes its call
  accepted-call : (i : ℕ) (q : Request) → request_at ts i ≡ some q → (low high : ℕ) → reply_at (replies model_turn b ts) i ≡ done low high → call_at ts i ≡ some (call_of q)
  unfolding request_at call_at made_of request_step
  accepted-call i q h low high r =
      let f = (map-eq-some_iff (λ (t : Turn). t.request) (get_elem? ts i)).0 h in
      go f.0 f.1 f.2 (early-of q)
    where
      go : (t : Turn) → get_elem? ts i ≡ some t → t.request ≡ q → Early q → call_at ts i ≡ some (call_of q)
      go t e z (away k u v) =
          let o = (at_turn b ts i t e).reply in
          let s : (model_turn (after model_turn b (take i ts)) t).reply ≡ refused k = ap (λ (x : Effect Model). x.reply) (request-is t.rules _ t.request) ∙ rw (z, request_step, v) refl in
          absurd (let y : refused k ≡ done low high = sym s ∙ sym o ∙ r in let x : ◌≡◌ {A = ℕ} 0 1 = cc in omega arith)
      go t e z (made-call v w) = rw (call_at, e, z, made_of, v) (ap (λ (x : Request). some (call_of x)) z)

  -- a close accepted assigned its survey's last reading
  closes_at : (i g s : ℕ) → ClosesAt ts (replies model_turn b ts) i g s → AssignsAt ts (replies model_turn b ts) i g (packed s last_reading)
  unfolding entered
  closes_at i g s k =
      let c = advance g (packed s last_reading) (zeros 32) k.value in
      let call : call_at ts i ≡ some c = accepted-call i (closes g s k.value) k.request k.low k.high k.accepted in
      let a : AssignsAt ts (replies model_turn b ts) i g k.high = record { put = c; call = call; puts = tt; log = refl; low = k.low; accepted = k.accepted } in
      let o = at_call b ts i c call in
      let to : (log_at (after model_turn b (take (suc i) ts)).logs g).high ≡ packed s last_reading =
      ap (λ (x : Model). (log_at x.logs g).high) o.next ∙ ap (λ l. l.high) (advanced o.turn.rules (after model_turn b (take i ts)) g (packed s last_reading) (zeros 32) k.value k.low k.high (sym o.reply ∙ k.accepted)) in
      subst (AssignsAt ts (replies model_turn b ts) i g) (sym (at-raised i g k.high a).after ∙ to) a

  pub model-closed : (i j g s n : ℕ) → i < j → ClosesAt ts (replies model_turn b ts) i g s → AssignsAt ts (replies model_turn b ts) j g n → survey_of n ≢ s
  model-closed i j g s n lt k a = past_survey s n (model-rising i j g (packed s last_reading) n lt (closes_at i g s k) a)
