-- The model is no empty one: what a call put at n, a later lookup of n shows assigned, until a truncate goes past n.
use Prim.Native.Nat.{ℕ, suc, ◌^◌, ◌<◌}
use native.Mathlib.Nat.{le_refl}
use mathlib.Core.Path.{◌≡◌, refl, sym, ap, ◌∙◌}
use mathlib.Core.Logic.{inl, inr}
use mathlib.Core.List.{List, [], ◌∷◌}
use mathlib.Core.Option.{none}
use native.Mathlib.Omega.{arith}
use lib.ListN.{length, take}
use lib.Seq.{get_or-set_same}
use borrow.Author.Tests.{eq-eqb, ne_eqb, le-leb, lt-leb, le-ltb}
use Rattle.receipt.specs.Attestation.{Attestation, LOOKUP, receipt_bytes, read_attestation}
use Rattle.receipt.proofs.Fields.{read-receipt}
use Rattle.layout.specs.Image.{Entry}
use Rattle.a2m.specs.Call.{Call, append, advance, truncate, lookup, refused, done, Reply, replies, after, receipt_in}
use Rattle.table.proofs.Lists.{In, in_right}
use Rattle.model.specs.Log.{Log, fresh_log, keep_from, entered, assigned, standing_among, standing, kind_of, reference_of}
use Rattle.model.specs.Model.{Rules, Model, log_at, model_refusal, model_receipt, shown_for, model_lookup, model_done, model_accept, model_step}
use Rattle.model.specs.Claim.{Turn, model_turn, Shows, reply_at, ShowsAt, Stores, Asked}
use Rattle.model.proofs.Turns.{WideTurn, Each}
use Rattle.model.proofs.Represents.{LogOk, Rising}
use Rattle.model.proofs.Passed.{Stepped, turned, taken, stepped}
use Rattle.model.proofs.Entries.{EntryAt, in_bounds, rising-in}
use Rattle.model.proofs.Shown.{length-LOOKUP}
use Rattle.model.proofs.Along.{Keeps, after-fixed, at-keeps, at-later, at_call, low-stays}

-- ---- one call

-- a call that put x at n of log g
record Stored (b after : Model) (g n : ℕ) (x : List ℕ) : Type 0 where
  log : g < length b.logs
  digest : List ℕ
  entry : EntryAt (log_at after.logs g) n x digest

put_stored : (ru : Rules) (b : Model) (g n low : ℕ) (x : List ℕ) (c : Call) (w k : ℕ) (e : Entry) → k < length b.logs → k ≡ g → e.value ≡ x → model_step ru b c ≡ model_done w b k (entered (log_at b.logs k) e) → (model_step ru b c).reply ≡ done low n → Stored b (model_step ru b c).state g n x
unfolding model_done entered
put_stored ru b g n low x c w k e k_g q v s r =
    let l = log_at b.logs k in
    let d : done l.low e.position ≡ done low n = rw s at r in
    let p : e.position ≡ n = cc in
    record {
      log = rw (sym q) k_g;
      digest = e.digest;
      entry = rw (s, sym q, get_or-set_same b.logs k (entered l e) (fresh_log 0) k_g) (record { entry = e; there = in_right e l.entries (e ∷ []) (inl refl); position = p; value = v; digest = refl });
    }

stored : (ru : Rules) (b : Model) (g n low : ℕ) (x : List ℕ) (c : Call) → Stores g x c → (model_step ru b c).reply ≡ done low n → Stored b (model_step ru b c).state g n x
unfolding model_accept
stored ru b g n low x c s r = go c s r (stepped ru b c)
  where
    go : (c : Call) → Stores g x c → (model_step ru b c).reply ≡ done low n → Stepped ru b c → Stored b (model_step ru b c).state g n x
    go c s r (turned k e) = absurd (let q : refused k ≡ done low n = rw e at r in let z : ◌≡◌ {A = ℕ} 0 1 = cc in omega arith)
    go (truncate log _) s r (taken a e) = elim s [ ]
    go (lookup log _ nonce lent) s r (taken a e) = elim s [ ]
    go (Rattle.a2m.specs.Call.end log nonce lent) s r (taken a e) = elim s [ ]
    go (append k y) s r (taken a e) = put_stored ru b g n low x (append k y) 2 k _ a.log s.0 s.1 e r
    go (advance k m d y) s r (taken a e) = put_stored ru b g n low x (advance k m d y) 2 k _ a.log s.0 s.1 e r

-- ---- a lookup of n

among-is : (n w : ℕ) (es : List Entry) → Rising w es → (e : Entry) → In e es → e.position ≡ n → standing_among n (keep_from n es) ≡ assigned e
unfolding keep_from standing_among
among-is n w [] r e x3 h = elim x3 [ ]
among-is n w (x ∷ es) r e (inl p) h =
    let q : x.position ≡ n = ap (λ (y : Entry). y.position) (sym p) ∙ h in
    rw (keep_from, le-leb n x.position (omega arith), standing_among, eq-eqb x.position n q) (ap assigned (sym p))
among-is n w (x ∷ es) r e (inr m) h =
    let k = (rising-in (suc x.position) es r.1 e m).0 in
    rw (keep_from, lt-leb n x.position (omega arith)) (among-is n (suc x.position) es r.1 e m h)

standing-is : (l : Log) → LogOk l → (n : ℕ) (v d : List ℕ) (e : EntryAt l n v d) → standing l n ≡ assigned e.entry
unfolding standing
standing-is l ok n v d e =
    let p = e.position in
    let q = in_bounds l ok e.entry e.there in
    let lo = q.0 in
    let hi = q.1 in
    rw (standing, le-ltb l.high n (omega arith), le-ltb n l.low (omega arith)) (among-is n l.low l.entries ok.rising e.entry e.there e.position)

module _ (ru : Rules) (b : Model) (keeps : Keeps b) (g n : ℕ) (v d : List ℕ) (h : EntryAt (log_at b.logs g) n v d) (c : List ℕ) (hc : length c ≡ 32) (g_g : g < length b.logs) where
  accepted : model_refusal ru b (lookup g n c 160) ≡ none
  unfolding model_refusal
  accepted =
      let l = log_at b.logs g in
      let p = h.position in
      let q = (in_bounds l (keeps.sound g) h.entry h.there).0 in
      let w = (keeps.sound g).low1 in
      rw (model_refusal, eq-eqb (length c) 32 hc, lt-leb (length b.logs) g g_g, ne_eqb n 0 (λ (z : n ≡ 0). omega arith))

  reply-is : (model_step ru b (lookup g n c 160)).reply ≡ model_lookup ru b g n c (log_at b.logs g) (assigned h.entry)
  unfolding model_step model_accept
  reply-is = rw (model_step, accepted, model_accept, standing-is (log_at b.logs g) (keeps.sound g) n v d h)

  shows : Shows (model_receipt b LOOKUP 1 g n h.entry.position c h.entry) g n v d
  unfolding model_receipt
  shows =
      let l = log_at b.logs g in
      let e = h.entry in
      let z = (keeps.fits g).sized e h.there in
      let p64 : e.position < 2 ^ 64 = let t = (in_bounds l (keeps.sound g) e h.there).1 in let u = (keeps.fits g).high in omega arith in
      let n64 : n < 2 ^ 64 = let p = h.position in omega arith in
      let a : Attestation = record { name = LOOKUP; kind = 1; log = g; keeper = b.keeper; position = n; reference = e.position; nonce = c; value = e.value; digest = e.digest } in
      let q : read_attestation (receipt_bytes b.key a) ≡ a = read-receipt b.key a (record { name = length-LOOKUP; keeper = keeps.keeper; position = n64; reference = p64; nonce = hc; value = z.0; digest = z.1 }) in
      record { assigned = ap (λ (x : Attestation). x.kind) q; log = ap (λ (x : Attestation). x.log) q; position = ap (λ (x : Attestation). x.position) q; value = ap (λ (x : Attestation). x.value) q ∙ h.value; digest = ap (λ (x : Attestation). x.digest) q ∙ h.digest }

  shows-at : (rs : List Reply) (j : ℕ) → reply_at rs j ≡ (model_step ru b (lookup g n c 160)).reply → ShowsAt rs j g n v d
  unfolding model_lookup kind_of reference_of shown_for
  shows-at rs j e = record { receipt = _; there = ap receipt_in (e ∙ reply-is); shows = shows }

-- ---- along the list

module _ (b : Model) (keeps : Keeps b) (ts : List Turn) (w : Each WideTurn ts) (i j g n : ℕ) (x : List ℕ) (a : Asked ts (replies model_turn b ts) i j g n x) where
  met : ℕ → Model
  met k = after model_turn b (take k ts)

  put-at : Stored (met i) (met (suc i)) g n x
  unfolding met
  put-at = let r = at_call b ts i a.put a.first in rw r.next (stored r.turn.rules (met i) g n a.low x a.put a.stores (sym r.reply ∙ a.accepted))

  -- the entry stays, since the low does not go past n
  held_at : (d : List ℕ) → EntryAt (log_at (met (suc i)).logs g) n x d → EntryAt (log_at (met j).logs g) n x d
  unfolding met
  held_at d h =
      let p = h.position in
      let first = (in_bounds (log_at (met (suc i)).logs g) ((at-keeps b keeps ts w (suc i)).sound g) h.entry h.there).0 in
      let low = low-stays b ts i j g n a.kept (omega arith) j a.later (le_refl j) in
      record { entry = h.entry; there = (at-later b ts (suc i) j a.later g).kept h.entry h.there (omega arith); position = p; value = h.value; digest = h.digest }

  pub model-remembers : (d : List ℕ) × ShowsAt (replies model_turn b ts) j g n x d
  unfolding met
  model-remembers =
      let s = put-at in
      let e = held_at s.digest s.entry in
      let r = at_call b ts j (lookup g n a.nonce 160) a.second in
      let g_g : g < length (met j).logs = rw (after-fixed b (take j ts)).count (rw (after-fixed b (take i ts)).count at s.log) in
      (s.digest, shows-at r.turn.rules (met j) (at-keeps b keeps ts w j) g n x s.digest e a.nonce a.sized g_g (replies model_turn b ts) j r.reply)
