-- The model along a list of requests: what request i meets and answers.
use Prim.Native.Nat.{ℕ, zero, suc, ◌^◌, ◌≤◌, ◌<◌}
use mathlib.Core.Path.{◌≡◌, refl, sym, ap, ◌∙◌}
use mathlib.Core.List.{List, [], ◌∷◌}
use mathlib.Core.Option.{Option, none, some, none-ne-some, some-ne-none, some-injective}
use native.Mathlib.Omega.{arith}
use native.Mathlib.Decide.{ℕ_discrete}
use lib.ListN.{length, take, get_elem?, length-set}
use lib.Seq.{get_or-set_same}
use Rattle.a2m.specs.Call.{Call, append, advance, truncate, lookup, end, refused, done, Effect, replies, after, receipt_in, Wide}
use Rattle.survey.specs.Requests.{made_of}
use Rattle.a2m.specs.NewEntry.{new_entry}
use Rattle.model.specs.Log.{Log, fresh_log, entered, cut_at}
use Rattle.model.specs.Model.{Rules, Model, log_at, model_done, model_accept, model_step}
use Rattle.model.specs.Claim.{Turn, model_turn, call_at, reply_at, ShowsAt, SkipsAt, ForgetsAt}
use Rattle.model.proofs.Turns.{WideTurn, turn-so, Each}
use Rattle.survey.proofs.RequestLaws.{made-step, unmade-state}
use Rattle.model.proofs.Requests.{request-is}
use Rattle.model.proofs.Represents.{Sound}
use Rattle.model.proofs.Passed.{Stepped, turned, taken, stepped}
use Rattle.model.proofs.Sound.{step_sound}
use Rattle.model.proofs.Changes.{Did, did, did-low}
use Rattle.model.proofs.Later.{Later, later_refl, after-later}
use Rattle.model.proofs.Entries.{EntryAt, AllFit, step_fits}
use Rattle.model.proofs.Shown.{step-shown}

-- ---- what no call changes

pub record Fixed (b c : Model) : Type 0 where
  pub size : c.size ≡ b.size
  pub keeper : c.keeper ≡ b.keeper
  pub key : c.key ≡ b.key
  pub count : length c.logs ≡ length b.logs

accept-fixed : (ru : Rules) (b : Model) (c : Call) → Fixed b (model_accept ru b c).state
unfolding model_accept model_done
accept-fixed ru b (append g x) = record { size = refl; keeper = refl; key = refl; count = length-set b.logs g _ }
accept-fixed ru b (advance g n d x) = record { size = refl; keeper = refl; key = refl; count = length-set b.logs g _ }
accept-fixed ru b (truncate g n) = record { size = refl; keeper = refl; key = refl; count = length-set b.logs g _ }
accept-fixed ru b (lookup g n c k) = record { size = refl; keeper = refl; key = refl; count = refl }
accept-fixed ru b (end g c k) = record { size = refl; keeper = refl; key = refl; count = refl }

pub step-fixed : (ru : Rules) (b : Model) (c : Call) → Fixed b (model_step ru b c).state
step-fixed ru b c = go (stepped ru b c)
  where
    go : Stepped ru b c → Fixed b (model_step ru b c).state
    go (turned k e) = rw e (record { size = refl; keeper = refl; key = refl; count = refl })
    go (taken a e) = rw e (accept-fixed ru b c)

turn-fixed : (b : Model) (t : Turn) → Fixed b (model_turn b t).state
turn-fixed b t =
    turn-so b t (λ (o : Effect Model). Fixed b o.state) (λ (k : ℕ) (h : 7 ≤ k). record { size = refl; keeper = refl; key = refl; count = refl }) (λ (c : Call) (w : WideTurn t → Wide c). step-fixed t.rules b c)

pub after-fixed : (b : Model) (ts : List Turn) → Fixed b (after model_turn b ts)
unfolding after
after-fixed b [] = record { size = refl; keeper = refl; key = refl; count = refl }
after-fixed b (t ∷ ts) =
    let r = after-fixed (model_turn b t).state ts in
    let s = turn-fixed b t in
    record { size = r.size ∙ s.size; keeper = r.keeper ∙ s.keeper; key = r.key ∙ s.key; count = r.count ∙ s.count }

-- ---- what every call keeps

pub record Keeps (b : Model) : Type 0 where
  pub sound : Sound b
  pub keeper : b.keeper < 2 ^ 64
  pub fits : AllFit b

step_keeps : (ru : Rules) (b : Model) → Keeps b → (c : Call) → Wide c → Keeps (model_step ru b c).state
step_keeps ru b k c w = record { sound = step_sound ru b k.sound c; keeper = rw (step-fixed ru b c).keeper k.keeper; fits = step_fits ru b k.fits c w }

pub turn-keeps : (b : Model) → Keeps b → (t : Turn) → WideTurn t → Keeps (model_turn b t).state
turn-keeps b k t w = turn-so b t (λ (o : Effect Model). Keeps o.state) (λ (n : ℕ) (h : 7 ≤ n). k) (λ (c : Call) (v : WideTurn t → Wide c). step_keeps t.rules b k c (v w))

-- ---- request i

pub at-keeps : (b : Model) → Keeps b → (ts : List Turn) → Each WideTurn ts → (i : ℕ) → Keeps (after model_turn b (take i ts))
unfolding after
at-keeps b k ts w zero = k
at-keeps b k [] w (suc i) = k
at-keeps b k (t ∷ ts) w (suc i) = at-keeps (model_turn b t).state (turn-keeps b k t w.0) ts w.1 i

pub keeps-after : (b : Model) → Keeps b → (ts : List Turn) → Each WideTurn ts → Keeps (after model_turn b ts)
unfolding after
keeps-after b k [] w = k
keeps-after b k (t ∷ ts) w = keeps-after (model_turn b t).state (turn-keeps b k t w.0) ts w.1

-- what call j meets is later than what an earlier call met
pub at-later : (b : Model) (ts : List Turn) (i j : ℕ) → i ≤ j → (g : ℕ) → Later (log_at (after model_turn b (take i ts)).logs g) (log_at (after model_turn b (take j ts)).logs g)
unfolding after
at-later b ts zero j h g = after-later b (take j ts) g
at-later b ts (suc i) zero h g = absurd (omega arith)
at-later b [] (suc i) (suc j) h g = later_refl (log_at b.logs g)
at-later b (t ∷ ts) (suc i) (suc j) h g = at-later (model_turn b t).state ts i j (omega arith) g

-- request j goes by its rules: what it leaves and what it answers
pub record AtTurn (b : Model) (ts : List Turn) (j : ℕ) (t : Turn) : Type 0 where
  pub next : after model_turn b (take (suc j) ts) ≡ (model_turn (after model_turn b (take j ts)) t).state
  pub reply : reply_at (replies model_turn b ts) j ≡ (model_turn (after model_turn b (take j ts)) t).reply

pub at_turn : (b : Model) (ts : List Turn) (j : ℕ) (t : Turn) → get_elem? ts j ≡ some t → AtTurn b ts j t
unfolding after replies
at_turn b [] j t h = absurd (none-ne-some t h)
at_turn b (x ∷ ts) zero t h =
    let e : x ≡ t = some-injective x t h in
    record { next = ap (λ (y : Turn). (model_turn b y).state) e; reply = ap (λ (y : Turn). (model_turn b y).reply) e }
at_turn b (x ∷ ts) (suc j) t h = let r = at_turn (model_turn b x).state ts j t h in record { next = r.next; reply = r.reply }

-- and makes the call c
pub record At (b : Model) (ts : List Turn) (j : ℕ) (c : Call) : Type 0 where
  pub turn : Turn
  pub there : get_elem? ts j ≡ some turn
  pub makes : made_of turn.request ≡ some c
  pub next : after model_turn b (take (suc j) ts) ≡ (model_step turn.rules (after model_turn b (take j ts)) c).state
  pub reply : reply_at (replies model_turn b ts) j ≡ (model_step turn.rules (after model_turn b (take j ts)) c).reply

pub at_call : (b : Model) (ts : List Turn) (j : ℕ) (c : Call) → call_at ts j ≡ some c → At b ts j c
unfolding call_at
at_call b ts j c h = go (get_elem? ts j) refl
  where
    go : (o : Option Turn) → get_elem? ts j ≡ o → At b ts j c
    go none e = absurd (none-ne-some c (rw (call_at, e) at h))
    go (some t) e =
        let m : made_of t.request ≡ some c = rw (call_at, e) at h in
        let a = at_turn b ts j t e in
        let s : model_turn (after model_turn b (take j ts)) t ≡ model_step t.rules (after model_turn b (take j ts)) c = request-is t.rules _ t.request ∙ made-step (model_step t.rules) _ t.request c m in
        record { turn = t; there = e; makes = m; next = a.next ∙ ap (λ (o : Effect Model). o.state) s; reply = a.reply ∙ ap (λ (o : Effect Model). o.reply) s }

-- one that makes no call leaves the model as it was
take_none : (ts : List Turn) (k : ℕ) → get_elem? ts k ≡ none → take (suc k) ts ≡ take k ts
take_none [] zero h = refl
take_none [] (suc k) h = refl
take_none (t ∷ ts) zero h = absurd (some-ne-none t h)
take_none (t ∷ ts) (suc k) h = ap {B = List Turn} (λ (l : List Turn). t ∷ l) (take_none ts k h)

pub at_none : (b : Model) (ts : List Turn) (j : ℕ) → call_at ts j ≡ none → after model_turn b (take (suc j) ts) ≡ after model_turn b (take j ts)
unfolding call_at
at_none b ts j h = go (get_elem? ts j) refl
  where
    go : (o : Option Turn) → get_elem? ts j ≡ o → after model_turn b (take (suc j) ts) ≡ after model_turn b (take j ts)
    go none e = ap (after model_turn b) (take_none ts j e)
    go (some t) e =
        let m : made_of t.request ≡ none = rw (call_at, e) at h in
        (at_turn b ts j t e).next ∙ ap (λ (o : Effect Model). o.state) (request-is t.rules _ t.request) ∙ unmade-state (model_step t.rules) _ t.request m

-- what a receipt shows assigned, the model has then
pub at-shown : (b : Model) → Keeps b → (ts : List Turn) → Each WideTurn ts → (i g n : ℕ) (v d : List ℕ) → ShowsAt (replies model_turn b ts) i g n v d → EntryAt (log_at (after model_turn b (take i ts)).logs g) n v d
unfolding after replies
at-shown b k [] w i g n v d s = absurd (none-ne-some s.receipt s.there)
at-shown b k (t ∷ ts) w zero g n v d s =
    turn-so b t (λ (o : Effect Model). receipt_in o.reply ≡ some s.receipt → EntryAt (log_at b.logs g) n v d)
    (λ (x : ℕ) (h : 7 ≤ x) (q : none ≡ some s.receipt). absurd (none-ne-some s.receipt q))
    (λ (c : Call) (u : WideTurn t → Wide c) (q : receipt_in (model_step t.rules b c).reply ≡ some s.receipt). step-shown t.rules b k.sound k.keeper k.fits c (u w.0) s.receipt q g n v d s.shows)
    s.there
at-shown b k (t ∷ ts) w (suc i) g n v d s = at-shown (model_turn b t).state (turn-keeps b k t w.0) ts w.1 i g n v d (record { receipt = s.receipt; there = s.there; shows = s.shows })

module _ (ru : Rules) where
  -- the log after an accepted advance has one entry more, at n; after an accepted truncate it is cut
  pub advanced : (b : Model) (g n : ℕ) (d x : List ℕ) (lo hi : ℕ) → (model_step ru b (advance g n d x)).reply ≡ done lo hi → log_at (model_step ru b (advance g n d x)).state.logs g ≡ entered (log_at b.logs g) (new_entry n x d)
  unfolding model_accept model_done
  advanced b g n d x lo hi h = go (stepped ru b (advance g n d x))
    where
      go : Stepped ru b (advance g n d x) → log_at (model_step ru b (advance g n d x)).state.logs g ≡ entered (log_at b.logs g) (new_entry n x d)
      go (turned k e) = absurd (let q : refused k ≡ done lo hi = rw e at h in let z : ◌≡◌ {A = ℕ} 0 1 = cc in omega arith)
      go (taken a e) = ap (λ (o : Effect Model). log_at o.state.logs g) e ∙ get_or-set_same b.logs g _ (fresh_log 0) a.log

  pub truncated : (b : Model) (g n : ℕ) (lo hi : ℕ) → (model_step ru b (truncate g n)).reply ≡ done lo hi → log_at (model_step ru b (truncate g n)).state.logs g ≡ cut_at n (log_at b.logs g)
  unfolding model_accept model_done
  truncated b g n lo hi h = go (stepped ru b (truncate g n))
    where
      go : Stepped ru b (truncate g n) → log_at (model_step ru b (truncate g n)).state.logs g ≡ cut_at n (log_at b.logs g)
      go (turned k e) = absurd (let q : refused k ≡ done lo hi = rw e at h in let z : ◌≡◌ {A = ℕ} 0 1 = cc in omega arith)
      go (taken a e) = rw e (get_or-set_same b.logs g (cut_at n (log_at b.logs g)) (fresh_log 0) a.log)

-- the log after an advance of the list that skips p
pub skipping : (b : Model) (ts : List Turn) (j g p : ℕ) (k : SkipsAt b ts (replies model_turn b ts) j g p)
    → log_at (after model_turn b (take (suc j) ts)).logs g ≡ entered (log_at (after model_turn b (take j ts)).logs g) (new_entry k.n k.value k.given)
skipping b ts j g p k =
    let a = at_call b ts j (advance g k.n k.given k.value) k.call in
    ap (λ (x : Model). log_at x.logs g) a.next ∙ advanced a.turn.rules (after model_turn b (take j ts)) g k.n k.given k.value k.low k.high (sym a.reply ∙ k.accepted)

-- what call j makes of log g
pub at_did : (b : Model) (ts : List Turn) (j g : ℕ) (c : Call) (o : At b ts j c) → Did o.turn.rules (after model_turn b (take j ts)) g c (log_at (after model_turn b (take (suc j) ts)).logs g)
at_did b ts j g c o = rw o.next (did o.turn.rules (after model_turn b (take j ts)) g c)

-- where no accepted truncate between calls i and j goes past n, the low stays at n or below
module _ (b : Model) (ts : List Turn) (i j g n : ℕ) (kept : (k m : ℕ) → i < k → k < j → ForgetsAt ts (replies model_turn b ts) k g m → m ≤ n) where
  abbrev at : ℕ → Log
  at k = log_at (after model_turn b (take k ts)).logs g

  pub low-stays : (at (suc i)).low ≤ n → (k : ℕ) → i < k → k ≤ j → (at k).low ≤ n
  low-stays low zero lo hi = absurd (omega arith)
  low-stays low (suc k) lo hi = go (ℕ_discrete k i) (λ (q : i < k). low-stays low k q (omega arith)) (call_at ts k) refl
    where
      go : Dec (k ≡ i) → (i < k → (at k).low ≤ n) → (o : Option Call) → call_at ts k ≡ o → (at (suc k)).low ≤ n
      go (yes e) below o f = rw e low
      go (no z) below none f = rw (at_none b ts k f) (below (omega arith))
      go (no z) below (some c) f =
          let o = at_call b ts k c f in
          did-low _ _ g c _ (at_did b ts k g c o) n (below (omega arith))
          (λ (m L H : ℕ) (t : c ≡ truncate g m) (a : (model_step o.turn.rules (after model_turn b (take k ts)) c).reply ≡ done L H). kept k m (omega arith) hi (record { call = f ∙ ap some t; low = L; high = H; accepted = o.reply ∙ a }))
