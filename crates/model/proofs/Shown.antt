-- A receipt that shows a position assigned shows an entry that the model has then.
use Prim.Native.Nat.{ℕ, ◌^◌, ◌<◌}
use mathlib.Core.Path.{◌≡◌, refl, sym, ap, subst, ◌∙◌}
use mathlib.Core.List.{List, ◌∷◌, append_assoc}
use mathlib.Core.Bool.{Bool, true, false, cond}
use mathlib.Core.Option.{some, none-ne-some, some-injective}
use native.Mathlib.Omega.{arith}
use lib.ListN.{length, get_or}
use lib.Seq.{get_or_at}
use Rattle.hmac.specs.Hmac.{hmac}
use Rattle.receipt.specs.Attestation.{Attestation, LOOKUP, END, attested_bytes, receipt_bytes, read_attestation, Sized}
use Rattle.receipt.proofs.Fields.{read-receipt}
use Rattle.layout.specs.Image.{Entry}
use Rattle.a2m.specs.Call.{Call, append, advance, truncate, lookup, end, Wide, receipt_in}
use Rattle.table.proofs.Lists.{In}
use Rattle.model.specs.Log.{Log, last_entry, Standing, unassigned, forgotten, assigned, skipped, standing, kind_of, reference_of}
use Rattle.model.specs.Model.{Rules, Model, log_at, is_nil, model_receipt, shown_for, model_lookup, model_end, model_done, model_accept, model_step}
use Rattle.model.specs.Claim.{Shows}
use Rattle.model.proofs.Represents.{Sound}
use Rattle.model.proofs.Passed.{Passed, Stepped, turned, taken, stepped}
use Rattle.model.proofs.Standings.{Means, standing-means}
use Rattle.model.proofs.Entries.{EntryAt, Fit, AllFit, last-in}

-- ---- a receipt's bytes

kind-read : (key : List ℕ) (a : Attestation) → length a.name ≡ 6 → (read_attestation (receipt_bytes key a)).kind ≡ a.kind
unfolding read_attestation receipt_bytes attested_bytes
kind-read key a h = ap (λ (l : List ℕ). get_or l 6 0) (append_assoc a.name (a.kind ∷ a.log ∷ _) (hmac key (attested_bytes a))) ∙ get_or_at a.name a.kind _ 0 6 h

-- the kind that a receipt shows
pub shown-kind : (b : Model) (name : List ℕ) → length name ≡ 6 → (kind g n reference : ℕ) (nonce : List ℕ) (e : Entry) (r : List ℕ) → model_receipt b name kind g n reference nonce e ≡ r → (read_attestation r).kind ≡ kind
unfolding model_receipt
shown-kind b name six kind g n reference nonce e r q = ap (λ (x : List ℕ). (read_attestation x).kind) (sym q) ∙ kind-read b.key _ six

pub length-LOOKUP : length LOOKUP ≡ 6
unfolding LOOKUP
length-LOOKUP = refl

pub length-END : length END ≡ 6
unfolding END
length-END = refl

-- ---- an assigned receipt shows its entry

module _ (b : Model) (keeper : b.keeper < 2 ^ 64) (l : Log) (fit : Fit l) (e : Entry) (m : In e l.entries) (name : List ℕ) (six : length name ≡ 6) (g n : ℕ) (en : e.position ≡ n) (n64 : n < 2 ^ 64) (nonce : List ℕ) (hn : length nonce ≡ 32) where
  reads : (r : List ℕ) → model_receipt b name 1 g n n nonce e ≡ r → (k p : ℕ) (v d : List ℕ) → Shows r k p v d → (g ≡ k) × EntryAt l p v d
  unfolding model_receipt
  reads r q k p v d s =
      let z = fit.sized e m in
      let a : Attestation = record { name = name; kind = 1; log = g; keeper = b.keeper; position = n; reference = n; nonce = nonce; value = e.value; digest = e.digest } in
      let sz : Sized a = record { name = six; keeper = keeper; position = n64; reference = n64; nonce = hn; value = z.0; digest = z.1 } in
      let w : a ≡ read_attestation r = sym (read-receipt b.key a sz) ∙ ap read_attestation q in (
        ap (λ (x : Attestation). x.log) w ∙ s.log,
        record {
          entry = e;
          there = m;
          position = en ∙ ap (λ (x : Attestation). x.position) w ∙ s.position;
          value = ap (λ (x : Attestation). x.value) w ∙ s.value;
          digest = ap (λ (x : Attestation). x.digest) w ∙ s.digest;
        },
      )

module _ (ru : Rules) (b : Model) (ok : Sound b) (keeper : b.keeper < 2 ^ 64) (fits : AllFit b) where
  lookup-shown : (g n : ℕ) (c : List ℕ) → length c ≡ 32 → n < 2 ^ 64 → (s : Standing) → Means (log_at b.logs g) n s → (r : List ℕ)
      → model_receipt b LOOKUP (kind_of s) g n (reference_of (log_at b.logs g) s) c (shown_for ru s) ≡ r → (k p : ℕ) (v d : List ℕ) → Shows r k p v d → EntryAt (log_at b.logs k) p v d
  unfolding kind_of reference_of shown_for
  lookup-shown g n c hc n64 unassigned e r q k p v d s = absurd (let z : ◌≡◌ {A = ℕ} 0 1 = sym (shown-kind b LOOKUP length-LOOKUP 0 g n _ c _ r q) ∙ s.assigned in omega arith)
  lookup-shown g n c hc n64 forgotten e r q k p v d s = absurd (let z : ◌≡◌ {A = ℕ} 3 1 = sym (shown-kind b LOOKUP length-LOOKUP 3 g n _ c _ r q) ∙ s.assigned in omega arith)
  lookup-shown g n c hc n64 (skipped x) e r q k p v d s = absurd (let z : ◌≡◌ {A = ℕ} 2 1 = sym (shown-kind b LOOKUP length-LOOKUP 2 g n _ c _ r q) ∙ s.assigned in omega arith)
  lookup-shown g n c hc n64 (assigned x) e r q k p v d s =
      let q1 : model_receipt b LOOKUP 1 g n n c x ≡ r = ap (λ (y : ℕ). model_receipt b LOOKUP 1 g n y c x) (sym e.1) ∙ q in
      let z = reads b keeper (log_at b.logs g) (fits g) x e.0 LOOKUP length-LOOKUP g n e.1 n64 c hc r q1 k p v d s in
      subst (λ (y : ℕ). EntryAt (log_at b.logs y) p v d) z.0 z.1

  end-shown : (g : ℕ) (c : List ℕ) → length c ≡ 32 → (t : Bool) → is_nil (log_at b.logs g).entries ≡ t → (r : List ℕ)
      → model_receipt b END (cond t 0 1) g (last_entry (log_at b.logs g).entries).position (last_entry (log_at b.logs g).entries).position c (last_entry (log_at b.logs g).entries) ≡ r
      → (k p : ℕ) (v d : List ℕ) → Shows r k p v d → EntryAt (log_at b.logs k) p v d
  end-shown g c hc true e r q k p v d s = absurd (let z : ◌≡◌ {A = ℕ} 0 1 = sym (shown-kind b END length-END 0 g _ _ c _ r q) ∙ s.assigned in omega arith)
  end-shown g c hc false e r q k p v d s =
      let l = log_at b.logs g in
      let x = last_entry l.entries in
      let p64 : x.position < 2 ^ 64 = let t = (ok g).top in let u = (fits g).high in omega arith in
      let z = reads b keeper l (fits g) x (last-in l.entries e) END length-END g x.position refl p64 c hc r q k p v d s in
      subst (λ (y : ℕ). EntryAt (log_at b.logs y) p v d) z.0 z.1

  accept-shown : (call : Call) → Wide call → Passed ru b call → (r : List ℕ) → receipt_in (model_accept ru b call).reply ≡ some r → (k p : ℕ) (v d : List ℕ) → Shows r k p v d → EntryAt (log_at b.logs k) p v d
  unfolding model_accept model_done model_lookup model_end
  accept-shown (append g x) wide a r q k p v d s = absurd (none-ne-some r q)
  accept-shown (advance g n y x) wide a r q k p v d s = absurd (none-ne-some r q)
  accept-shown (truncate g n) wide a r q k p v d s = absurd (none-ne-some r q)
  accept-shown (lookup g n c len) wide a r q k p v d s =
      let n0 = a.position in
      lookup-shown g n c a.nonce wide (standing (log_at b.logs g) n) (standing-means (log_at b.logs g) (ok g) n (omega arith)) r (some-injective _ _ q) k p v d s
  accept-shown (end g c len) wide a r q k p v d s =
      end-shown g c a.nonce (is_nil (log_at b.logs g).entries) refl r (some-injective _ _ q) k p v d s

  pub step-shown : (call : Call) → Wide call → (r : List ℕ) → receipt_in (model_step ru b call).reply ≡ some r → (k p : ℕ) (v d : List ℕ) → Shows r k p v d → EntryAt (log_at b.logs k) p v d
  step-shown call wide r q k p v d s = go (stepped ru b call)
    where
      go : Stepped ru b call → EntryAt (log_at b.logs k) p v d
      go (turned n e) = absurd (none-ne-some r (rw e at q))
      go (taken a e) = accept-shown call wide a r (rw e at q) k p v d s
