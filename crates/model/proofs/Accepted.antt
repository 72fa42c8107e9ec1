-- What the model writes, the verifier accepts: under its key, for the question that the call was, with the values that the model says. A lemma for each
-- kind of receipt, then a call, then a list of calls.
use Prim.Native.Nat.{ℕ, ◌^◌, ◌≤◌, ◌<◌}
use mathlib.Core.Path.{◌≡◌, refl, sym, ap, ap₂, subst, ◌∙◌}
use mathlib.Core.Logic.{◌≢◌, inl, inr}
use mathlib.Core.List.{List, [], ◌∷◌}
use mathlib.Core.Bool.{false, cond}
use mathlib.Core.Option.{some, none-ne-some, some-injective}
use native.Mathlib.Omega.{arith}
use lib.Dec.{lit<}
use lib.ListN.{length, get_or, take}
use Rattle.octets.specs.Octets.{zeros}
use Rattle.octets.proofs.Zeros.{length-zeros}
use Rattle.refusal.specs.Answer.{answer}
use Rattle.receipt.specs.Attestation.{Attestation, LOOKUP, END}
use Rattle.receipt.specs.Verdict.{carried, verdict}
use Rattle.receipt.specs.declared.Ask.TheVariants.{Lookup, End}
use Rattle.receipt.specs.declared.Question.{Question}
use Rattle.receipt.proofs.Verifier.{complete}
use Rattle.layout.specs.Image.{Entry, blank_entry}
use Rattle.a2m.specs.Call.{Call, append, advance, truncate, lookup, end, Wide, replies, after, receipt_in}
use Rattle.table.proofs.Lists.{In}
use Rattle.model.specs.Log.{Log, last_entry, Standing, unassigned, forgotten, assigned, skipped, standing, kind_of, reference_of}
use Rattle.model.specs.Model.{Rules, rules01, rules, Model, log_at, is_nil, model_receipt, shown_for, model_lookup, model_end, model_done, model_accept, model_step}
use Rattle.model.specs.Claim.{Turn, model_turn, call_at, reply_at}
use Rattle.model.specs.Question.{question_of, nonce_of, values_of}
use Rattle.model.proofs.Represents.{LogOk}
use Rattle.model.proofs.Positions.{ok-low}
use Rattle.model.proofs.Passed.{Passed, Stepped, turned, taken, stepped}
use Rattle.model.proofs.Entries.{last-in, in_bounds}
use Rattle.model.proofs.Shown.{length-LOOKUP, length-END}
use Rattle.model.proofs.Along.{Keeps, after-fixed, at-keeps, at_call}
use Rattle.model.proofs.Turns.{WideTurn, Each, each_at}
use Rattle.survey.proofs.RequestLaws.{made_wide}
use Rattle.model.proofs.Standings.{Means, standing-means}

-- ---- a receipt of the model

abbrev attested : Model → List ℕ → ℕ → ℕ → ℕ → ℕ → List ℕ → Entry → Attestation
attested b name kind g n reference nonce e = record { name = name; kind = kind; log = g; keeper = b.keeper; position = n; reference = reference; nonce = nonce; value = e.value; digest = e.digest }

-- accepted for the question q, with the values that it shows
abbrev Accepted : Model → List ℕ → ℕ → ℕ → ℕ → ℕ → List ℕ → Entry → Question → Type 0
Accepted b name kind g n reference nonce e q = verdict b.key (model_receipt b name kind g n reference nonce e) nonce q ≡ answer 0 (b.keeper ∷ g ∷ n ∷ kind ∷ reference ∷ [])

not_end : LOOKUP ≢ END
unfolding LOOKUP END
not_end h = let z : ◌≡◌ {A = ℕ} 76 69 = ap (λ (l : List ℕ). get_or l 0 0) h in omega arith

-- rules by which the verifier accepts every receipt: a skipped one shows a value and a digest of 32 bytes. Asked of each call's rules, so that a list may
-- begin by document 01's: a verifier that is changed with the present rules must go on to accept the receipts given by the old ones
pub record Attests (ru : Rules) : Type 0 where
  pub gap : (e : Entry) → length e.value ≡ 32 → length e.digest ≡ 32 → (length (ru.gap e).value ≡ 32) × (length (ru.gap e).digest ≡ 32)

pub attests01 : Attests rules01
unfolding rules01
attests01 = record { gap = λ (e : Entry) (v : length e.value ≡ 32) (d : length e.digest ≡ 32). (length-zeros 32, length-zeros 32) }

pub attests : Attests rules
unfolding rules
attests = record { gap = λ (e : Entry) (v : length e.value ≡ 32) (d : length e.digest ≡ 32). (v, d) }

abbrev pub AttestsTurn : Turn → Type 0
AttestsTurn t = Attests t.rules

module _ (b : Model) (keeps : Keeps b) (key : length b.key ≡ 32) (g : ℕ) (log : g ≤ 15) (c : List ℕ) (nonce : length c ≡ 32) where
  abbrev L : Log
  L = log_at b.logs g

  -- a LOOKUP of a possible kind, whose numbers fit
  lookup-accepted : (n : ℕ) → 1 ≤ n → n < 2 ^ 64 → (kind reference : ℕ) (e : Entry) → reference < 2 ^ 64 → length e.value ≡ 32 → length e.digest ≡ 32
      → kind ≤ 3 → (kind ≡ 1 → reference ≡ n) → (kind ≡ 0 → reference < n) → (2 ≤ kind → n < reference) → ((kind ≡ 1 → ⊥) → (kind ≡ 2 → ⊥) → (e.value ≡ zeros 32) × (e.digest ≡ zeros 32))
      → Accepted b LOOKUP kind g n reference c e (record { keeper = b.keeper; log = g; ask = Lookup n })
  unfolding model_receipt carried
  lookup-accepted n n1 n64 kind reference e r64 lv ld k3 at below above blank =
      complete b.key _ c _ (attested b LOOKUP kind g n reference c e) (record {
        key = key;
        sized = record { name = length-LOOKUP; keeper = keeps.keeper; position = n64; reference = r64; nonce = nonce; value = lv; digest = ld };
        possible = inl (record { named = inl refl; kind = k3; log = log; position = n1; assigned = at; unassigned = below; passed = above; blank = blank; end = λ (z : LOOKUP ≡ END). absurd (not_end z) });
        bytes = refl;
        keeper = refl;
        log = refl;
        nonce = refl;
        ask = (refl, refl);
      })

  module _ (n : ℕ) (n1 : 1 ≤ n) (n64 : n < 2 ^ 64) where
    abbrev Looked : ℕ → ℕ → Entry → Type 0
    Looked kind reference e = Accepted b LOOKUP kind g n reference c e (record { keeper = b.keeper; log = g; ask = Lookup n })

    unassigned-accepted : L.high < n → Looked 0 L.high blank_entry
    unassigned-accepted h =
        lookup-accepted n n1 n64 0 L.high blank_entry (keeps.fits g).high (length-zeros 32) (length-zeros 32) (omega arith)
        (λ (z : 0 ≡ 1). absurd (omega arith)) (λ (z : 0 ≡ 0). h) (λ (z : 2 ≤ 0). absurd (omega arith)) (λ (z : 0 ≡ 1 → ⊥) (y : 0 ≡ 2 → ⊥). (refl, refl))

    forgotten-accepted : n < L.low → Looked 3 L.low blank_entry
    forgotten-accepted h =
        let started : L.high ≢ 0 = λ (z : L.high ≡ 0). let f = (keeps.sound g).fresh z in omega arith in
        let le = ok-low L (keeps.sound g) started in
        let u = (keeps.fits g).high in
        lookup-accepted n n1 n64 3 L.low blank_entry (omega arith) (length-zeros 32) (length-zeros 32) (omega arith)
        (λ (z : 3 ≡ 1). absurd (omega arith)) (λ (z : 3 ≡ 0). absurd (omega arith)) (λ (z : 2 ≤ 3). h) (λ (z : 3 ≡ 1 → ⊥) (y : 3 ≡ 2 → ⊥). (refl, refl))

    assigned-accepted : (e : Entry) → In e L.entries → e.position ≡ n → Looked 1 e.position e
    assigned-accepted e m h =
        let z = (keeps.fits g).sized e m in
        lookup-accepted n n1 n64 1 e.position e (omega arith) z.0 z.1 (omega arith)
        (λ (q : 1 ≡ 1). h) (λ (q : 1 ≡ 0). absurd (omega arith)) (λ (q : 2 ≤ 1). absurd (omega arith)) (λ (q : 1 ≡ 1 → ⊥) (y : 1 ≡ 2 → ⊥). absurd (q refl))

    skipped-accepted : (ru : Rules) → Attests ru → (e : Entry) → In e L.entries → n < e.position → Looked 2 e.position (ru.gap e)
    skipped-accepted ru t e m h =
        let size = (keeps.fits g).sized e m in
        let shown = t.gap e size.0 size.1 in
        let top = (in_bounds L (keeps.sound g) e m).1 in
        let u = (keeps.fits g).high in
        lookup-accepted n n1 n64 2 e.position (ru.gap e) (omega arith) shown.0 shown.1 (omega arith)
        (λ (z : 2 ≡ 1). absurd (omega arith)) (λ (z : 2 ≡ 0). absurd (omega arith)) (λ (z : 2 ≤ 2). h) (λ (z : 2 ≡ 1 → ⊥) (y : 2 ≡ 2 → ⊥). absurd (y refl))

    -- whatever the position's standing
    standing-accepted : (ru : Rules) → Attests ru → (s : Standing) → Means L n s → Looked (kind_of s) (reference_of L s) (shown_for ru s)
    unfolding kind_of reference_of shown_for
    standing-accepted ru t unassigned h = unassigned-accepted h
    standing-accepted ru t forgotten h = forgotten-accepted h
    standing-accepted ru t (assigned e) h = assigned-accepted e h.0 h.1
    standing-accepted ru t (skipped e) h = skipped-accepted ru t e h.0 h.1

  abbrev Ended : ℕ → ℕ → Entry → Type 0
  Ended kind n e = Accepted b END kind g n n c e (record { keeper = b.keeper; log = g; ask = End })

  -- an END shows the entry at H
  held-accepted : is_nil L.entries ≡ false → Ended 1 L.high (last_entry L.entries)
  unfolding model_receipt carried
  held-accepted held =
      let e = last_entry L.entries in
      let m = last-in L.entries held in
      let z = (keeps.fits g).sized e m in
      let low = (keeps.sound g).low1 in
      let top = (keeps.sound g).top in
      let from = (in_bounds L (keeps.sound g) e m).0 in
      complete b.key _ c _ (attested b END 1 g L.high L.high c e) (record {
        key = key;
        sized = record { name = length-END; keeper = keeps.keeper; position = (keeps.fits g).high; reference = (keeps.fits g).high; nonce = nonce; value = z.0; digest = z.1 };
        possible = inl (record {
          named = inr refl;
          kind = omega arith;
          log = log;
          position = omega arith;
          assigned = λ (q : 1 ≡ 1). refl;
          unassigned = λ (q : 1 ≡ 0). absurd (omega arith);
          passed = λ (q : 2 ≤ 1). absurd (omega arith);
          blank = λ (q : 1 ≡ 1 → ⊥) (y : 1 ≡ 2 → ⊥). absurd (q refl);
          end = λ (q : END ≡ END). refl;
        });
        bytes = refl;
        keeper = refl;
        log = refl;
        nonce = refl;
        ask = refl;
      })

  -- or that there is none
  fresh-accepted : Ended 0 0 blank_entry
  unfolding model_receipt carried
  fresh-accepted =
      complete b.key _ c _ (attested b END 0 g 0 0 c blank_entry) (record {
        key = key;
        sized = record { name = length-END; keeper = keeps.keeper; position = lit< tt; reference = lit< tt; nonce = nonce; value = length-zeros 32; digest = length-zeros 32 };
        possible = inr (record { named = refl; unassigned = refl; log = log; position = refl; reference = refl; value = refl; digest = refl });
        bytes = refl;
        keeper = refl;
        log = refl;
        nonce = refl;
        ask = refl;
      })

  end-accepted : Ended (cond (is_nil L.entries) 0 1) L.high (last_entry L.entries)
  unfolding is_nil last_entry
  end-accepted = go L.entries refl
    where
      go : (es : List Entry) → L.entries ≡ es → Ended (cond (is_nil es) 0 1) L.high (last_entry es)
      go [] q = subst (λ (n : ℕ). Ended 0 n blank_entry) (sym (ap (λ (es : List Entry). (last_entry es).position) q) ∙ (keeps.sound g).top) fresh-accepted
      go (e ∷ es) q = subst (λ (l : List Entry). Ended 1 L.high (last_entry l)) q (held-accepted (ap is_nil q))

-- ---- a call of the model

-- the verifier's verdict on what a call wrote
abbrev pub Verifies : List ℕ → ℕ → Call → List ℕ → List ℕ → Type 0
Verifies key keeper call r values = verdict key r (nonce_of call) (question_of keeper call) ≡ answer 0 values

-- the position of the last entry is H
end-shows : (b : Model) (g : ℕ) (c : List ℕ) → LogOk (log_at b.logs g)
    → model_receipt b END (cond (is_nil (log_at b.logs g).entries) 0 1) g (last_entry (log_at b.logs g).entries).position (last_entry (log_at b.logs g).entries).position c (last_entry (log_at b.logs g).entries)
    ≡ model_receipt b END (cond (is_nil (log_at b.logs g).entries) 0 1) g (log_at b.logs g).high (log_at b.logs g).high c (last_entry (log_at b.logs g).entries)
end-shows b g c ok =
    let es = (log_at b.logs g).entries in
    ap (λ (n : ℕ). model_receipt b END (cond (is_nil es) 0 1) g n n c (last_entry es)) ok.top

module _ (b : Model) (keeps : Keeps b) (key : length b.key ≡ 32) (few : length b.logs ≤ 16) (ru : Rules) (t : Attests ru) where
  accept-verified : (call : Call) → Wide call → Passed ru b call → (r : List ℕ) → receipt_in (model_accept ru b call).reply ≡ some r → Verifies b.key b.keeper call r (values_of b call)
  unfolding model_accept model_done model_lookup model_end nonce_of question_of values_of
  accept-verified (append g x) w a r q = absurd (none-ne-some r q)
  accept-verified (advance g n d x) w a r q = absurd (none-ne-some r q)
  accept-verified (truncate g n) w a r q = absurd (none-ne-some r q)
  accept-verified (lookup g n c k) w a r q =
      let l = log_at b.logs g in
      let g_g = a.log in
      let n0 = a.position in
      let n1 : 1 ≤ n = omega arith in
      ap (λ (x : List ℕ). verdict b.key x c (record { keeper = b.keeper; log = g; ask = Lookup n })) (sym (some-injective _ _ q))
      ∙ standing-accepted b keeps key g (omega arith) c a.nonce n n1 w ru t (standing l n) (standing-means l (keeps.sound g) n n1)
  accept-verified (end g c k) w a r q =
      let l = log_at b.logs g in
      let g_g = a.log in
      ap (λ (x : List ℕ). verdict b.key x c (record { keeper = b.keeper; log = g; ask = End })) (sym (some-injective _ _ q) ∙ end-shows b g c (keeps.sound g))
      ∙ end-accepted b keeps key g (omega arith) c a.nonce

  pub step-verified : (call : Call) → Wide call → (r : List ℕ) → receipt_in (model_step ru b call).reply ≡ some r → Verifies b.key b.keeper call r (values_of b call)
  step-verified call w r q = go (stepped ru b call)
    where
      go : Stepped ru b call → Verifies b.key b.keeper call r (values_of b call)
      go (turned k e) = absurd (none-ne-some r (rw e at q))
      go (taken a e) = accept-verified call w a r (rw e at q)

-- ---- a list of calls

pub model-verified : (b : Model) → Keeps b → length b.key ≡ 32 → length b.logs ≤ 16 → (ts : List Turn) → Each WideTurn ts → Each AttestsTurn ts → (i : ℕ) (c : Call) (r : List ℕ)
    → call_at ts i ≡ some c → receipt_in (reply_at (replies model_turn b ts) i) ≡ some r → Verifies b.key b.keeper c r (values_of (after model_turn b (take i ts)) c)
model-verified b keeps key few ts w a i c r at q =
    let m = after model_turn b (take i ts) in
    let f = after-fixed b (take i ts) in
    let o = at_call b ts i c at in
    let there : receipt_in (model_step o.turn.rules m c).reply ≡ some r = ap receipt_in (sym o.reply) ∙ q in
    let v : Verifies m.key m.keeper c r (values_of m c) =
    step-verified m (at-keeps b keeps ts w i) (ap length f.key ∙ key) (subst (λ (n : ℕ). n ≤ 16) (sym f.count) few) o.turn.rules (each_at AttestsTurn ts a i _ o.there) c (made_wide o.turn.request c o.makes (each_at WideTurn ts w i _ o.there)) r there in
    ap₂ (λ (k : List ℕ) (n : ℕ). verdict k r (nonce_of c) (question_of n c)) (sym f.key) (sym f.keeper) ∙ v
