-- Request [13]: of one list no receipt shows a position assigned that another shows skipped. A skipped receipt shows a gap, and what H has passed is decided
-- for good: an entry stays until it is forgotten, and a gap never gets one.
use Prim.Native.Nat.{ℕ, zero, suc, ◌^◌, ◌≤◌, ◌<◌}
use mathlib.Core.Path.{◌≡◌, refl, sym, ap, subst, ◌∙◌}
use mathlib.Core.Logic.{◌≢◌}
use mathlib.Core.List.{List, [], ◌∷◌}
use mathlib.Core.Bool.{Bool, true, false, cond}
use mathlib.Core.Option.{none, some, none-ne-some, some-injective}
use native.Mathlib.Omega.{arith}
use lib.ListN.{length, take}
use lib.Dec.{leb}
use borrow.Author.Tests.{leb-true, leb-false}
use Rattle.receipt.specs.Attestation.{Attestation, LOOKUP, END, read_attestation}
use Rattle.receipt.proofs.Fields.{read-receipt}
use Rattle.layout.specs.Image.{Entry}
use Rattle.a2m.specs.Call.{Call, append, advance, truncate, lookup, end, Effect, replies, after, receipt_in, Wide}
use Rattle.table.proofs.Lists.{In}
use Rattle.model.specs.Log.{Log, last_entry, Standing, unassigned, forgotten, assigned, skipped, standing, kind_of, reference_of}
use Rattle.model.specs.Model.{Rules, Model, log_at, is_nil, model_receipt, shown_for, model_lookup, model_end, model_done, model_accept, model_step}
use Rattle.model.specs.Claim.{Turn, model_turn, ShowsAt, ShowsSkipped, SkippedAt}
use Rattle.model.proofs.Turns.{WideTurn, Each, turn-so}
use Rattle.model.proofs.Represents.{LogOk}
use Rattle.model.proofs.Passed.{Passed, Stepped, turned, taken, stepped}
use Rattle.model.proofs.Later.{Later}
use Rattle.model.proofs.Entries.{EntryAt, in_bounds}
use Rattle.model.proofs.Shown.{length-LOOKUP, length-END, shown-kind}
use Rattle.model.proofs.Standings.{Means, standing-means}
use Rattle.model.proofs.Along.{Keeps, turn-keeps, at-later, at-shown}
use Rattle.model.proofs.Accepted.{Attests, AttestsTurn}

-- ---- a gap of a log: a position from L to H without an entry

pub record Gap (l : Log) (n : ℕ) : Type 0 where
  pub low : l.low ≤ n
  pub high : n ≤ l.high
  pub empty : (e : Entry) → In e l.entries → e.position ≢ n

skipped-gap : (l : Log) → LogOk l → (n : ℕ) (e : Entry) → Means l n (skipped e) → Gap l n
skipped-gap l ok n e h =
    let above = h.1 in
    let top = (in_bounds l ok e h.0).1 in
    record { low = h.2; high = omega arith; empty = λ (f : Entry) (m : In f l.entries) (q : f.position ≡ n). let k = h.3 f m (omega arith) in omega arith }

-- what was assigned is no gap later, and a gap is not assigned later
assigned-first : (l k : Log) → Later l k → (n : ℕ) (v d : List ℕ) → EntryAt l n v d → Gap k n → ⊥
assigned-first l k lt n v d e z = let p = e.position in let q = z.low in z.empty e.entry (lt.kept e.entry e.there (omega arith)) p

gap-first : (l k : Log) → Later l k → (n : ℕ) (v d : List ℕ) → Gap l n → EntryAt k n v d → ⊥
gap-first l k lt n v d z e = let p = e.position in let q = z.high in z.empty e.entry (lt.old e.entry e.there (omega arith)) p

-- ---- a receipt that shows a position skipped shows a gap

module _ (ru : Rules) (t : Attests ru) (b : Model) (keeps : Keeps b) where
  lookup-gap : (g n : ℕ) (c : List ℕ) → length c ≡ 32 → n < 2 ^ 64 → (s : Standing) → Means (log_at b.logs g) n s → (r : List ℕ)
      → model_receipt b LOOKUP (kind_of s) g n (reference_of (log_at b.logs g) s) c (shown_for ru s) ≡ r → (k p : ℕ) → ShowsSkipped r k p → Gap (log_at b.logs k) p
  unfolding kind_of reference_of shown_for model_receipt
  lookup-gap g n c hc n64 unassigned e r q k p s = absurd (let z = sym (shown-kind b LOOKUP length-LOOKUP 0 g n _ c (shown_for ru unassigned) r q) ∙ s.skipped in omega arith)
  lookup-gap g n c hc n64 forgotten e r q k p s = absurd (let z = sym (shown-kind b LOOKUP length-LOOKUP 3 g n _ c (shown_for ru forgotten) r q) ∙ s.skipped in omega arith)
  lookup-gap g n c hc n64 (assigned x) e r q k p s = absurd (let z = sym (shown-kind b LOOKUP length-LOOKUP 1 g n _ c (shown_for ru (assigned x)) r q) ∙ s.skipped in omega arith)
  lookup-gap g n c hc n64 (skipped x) e r q k p s =
      let l = log_at b.logs g in
      let z = (keeps.fits g).sized x e.0 in
      let y = t.gap x z.0 z.1 in
      let r64 : x.position < 2 ^ 64 = let top = (in_bounds l (keeps.sound g) x e.0).1 in let u = (keeps.fits g).high in omega arith in
      let a : Attestation = record { name = LOOKUP; kind = 2; log = g; keeper = b.keeper; position = n; reference = x.position; nonce = c; value = (ru.gap x).value; digest = (ru.gap x).digest } in
      let f : a ≡ read_attestation r = sym (read-receipt b.key a (record { name = length-LOOKUP; keeper = keeps.keeper; position = n64; reference = r64; nonce = hc; value = y.0; digest = y.1 })) ∙ ap read_attestation q in
      let gk : g ≡ k = ap (λ (o : Attestation). o.log) f ∙ s.log in
      let np : n ≡ p = ap (λ (o : Attestation). o.position) f ∙ s.position in
      subst (λ (i : ℕ). Gap (log_at b.logs i) p) gk (subst (Gap l) np (skipped-gap l (keeps.sound g) n x e))

  -- an END shows no position skipped
  end-gap : (g : ℕ) (c : List ℕ) (o : Bool) (e : Entry) (r : List ℕ) → model_receipt b END (cond o 0 1) g e.position e.position c e ≡ r → (k p : ℕ) → ShowsSkipped r k p → ⊥
  end-gap g c true e r q k p s = let z = sym (shown-kind b END length-END 0 g _ _ c _ r q) ∙ s.skipped in omega arith
  end-gap g c false e r q k p s = let z = sym (shown-kind b END length-END 1 g _ _ c _ r q) ∙ s.skipped in omega arith

  accept-gap : (call : Call) → Wide call → Passed ru b call → (r : List ℕ) → receipt_in (model_accept ru b call).reply ≡ some r → (k p : ℕ) → ShowsSkipped r k p → Gap (log_at b.logs k) p
  unfolding model_accept model_done model_lookup model_end
  accept-gap (append g x) wide a r q k p s = absurd (none-ne-some r q)
  accept-gap (advance g n y x) wide a r q k p s = absurd (none-ne-some r q)
  accept-gap (truncate g n) wide a r q k p s = absurd (none-ne-some r q)
  accept-gap (lookup g n c len) wide a r q k p s =
      let n0 = a.position in
      lookup-gap g n c a.nonce wide (standing (log_at b.logs g) n) (standing-means (log_at b.logs g) (keeps.sound g) n (omega arith)) r (some-injective _ _ q) k p s
  accept-gap (end g c len) wide a r q k p s =
      absurd (end-gap g c (is_nil (log_at b.logs g).entries) (last_entry (log_at b.logs g).entries) r (some-injective _ _ q) k p s)

  step-gap : (call : Call) → Wide call → (r : List ℕ) → receipt_in (model_step ru b call).reply ≡ some r → (k p : ℕ) → ShowsSkipped r k p → Gap (log_at b.logs k) p
  step-gap call wide r q k p s = go (stepped ru b call)
    where
      go : Stepped ru b call → Gap (log_at b.logs k) p
      go (turned n e) = absurd (none-ne-some r (rw e at q))
      go (taken a e) = accept-gap call wide a r (rw e at q) k p s

-- ---- along the list

pub at_gap : (b : Model) → Keeps b → (ts : List Turn) → Each WideTurn ts → Each AttestsTurn ts → (j g n : ℕ) → SkippedAt (replies model_turn b ts) j g n → Gap (log_at (after model_turn b (take j ts)).logs g) n
unfolding after replies
at_gap b k [] w a j g n s = absurd (none-ne-some s.receipt s.there)
at_gap b k (t ∷ ts) w a zero g n s =
    turn-so b t (λ (o : Effect Model). receipt_in o.reply ≡ some s.receipt → Gap (log_at b.logs g) n)
    (λ (x : ℕ) (h : 7 ≤ x) (q : none ≡ some s.receipt). absurd (none-ne-some s.receipt q))
    (λ (c : Call) (u : WideTurn t → Wide c) (q : receipt_in (model_step t.rules b c).reply ≡ some s.receipt). step-gap t.rules a.0 b k c (u w.0) s.receipt q g n s.shows)
    s.there
at_gap b k (t ∷ ts) w a (suc j) g n s = at_gap (model_turn b t).state (turn-keeps b k t w.0) ts w.1 a.1 j g n (record { receipt = s.receipt; there = s.there; shows = s.shows })

module _ (b : Model) (keeps : Keeps b) (ts : List Turn) (w : Each WideTurn ts) (a : Each AttestsTurn ts) where
  pub model-apart : (i j g n : ℕ) (v d : List ℕ) → ShowsAt (replies model_turn b ts) i g n v d → SkippedAt (replies model_turn b ts) j g n → ⊥
  model-apart i j g n v d s t = go (leb i j) refl
    where
      at : ℕ → Log
      at h = log_at (after model_turn b (take h ts)).logs g

      go : (x : Bool) → leb i j ≡ x → ⊥
      go true e = assigned-first (at i) (at j) (at-later b ts i j (leb-true i j e) g) n v d (at-shown b keeps ts w i g n v d s) (at_gap b keeps ts w a j g n t)
      go false e =
          let lt = leb-false i j e in
          gap-first (at j) (at i) (at-later b ts j i (omega arith) g) n v d (at_gap b keeps ts w a j g n t) (at-shown b keeps ts w i g n v d s)
