-- Document 01, of advance: "Positions from the old H + 1 to n − 1 become skipped." In a list of calls, each by its own rules: what an accepted advance skips, a
-- later lookup shows skipped, with n for its reference, until an accepted truncate goes past it; and of a list that begins on fresh logs a receipt shows
-- nothing else skipped.
use Prim.Native.Nat.{ℕ, zero, suc, ◌^◌, ◌≤◌, ◌<◌}
use native.Mathlib.Nat.{le_refl}
use mathlib.Core.Path.{◌≡◌, refl, sym, ap, subst, ◌∙◌}
use mathlib.Core.Logic.{◌≢◌, ◌⊎◌, inl, inr}
use mathlib.Core.List.{List, [], ◌∷◌}
use mathlib.Core.Bool.{Bool, true, false}
use mathlib.Core.Option.{Option, none, some, none-ne-some, some-injective}
use native.Mathlib.Omega.{arith}
use native.Mathlib.Decide.{ℕ_discrete}
use lib.ListN.{length, take, get_elem?, get_or-map}
use lib.Dec.{leb}
use borrow.Author.Tests.{leb-true, leb-false}
use Rattle.receipt.specs.Attestation.{Attestation, LOOKUP, read_attestation}
use Rattle.receipt.proofs.Fields.{read-receipt}
use Rattle.layout.specs.Image.{Entry}
use Rattle.table.specs.Format.{format_refusal, format_bytes}
use Rattle.table.proofs.Lists.{In, in_right, in-cases}
use Rattle.a2m.specs.Call.{Call, lookup, Reply, replies, after, receipt_in}
use Rattle.a2m.specs.NewEntry.{new_entry}
use Rattle.survey.specs.Requests.{Request, request_step, AllWideRequests}
use Rattle.survey.proofs.RequestLaws.{made_wide}
use Rattle.model.specs.Log.{Log, fresh_log, entered, cut_at, Standing, unassigned, forgotten, assigned, skipped, standing, kind_of, reference_of}
use Rattle.model.specs.Model.{Rules, rules, rules01, Model, new_model, log_at, model_receipt, shown_for, model_lookup, model_accept, model_step}
use Rattle.model.specs.Program.{program_step}
use Rattle.model.specs.Claim.{Turn, asking, model_turn, call_at, reply_at, ShowsSkipped, SkippedAt, SkipsAt, ForgetsAt}
use Rattle.model.proofs.Represents.{LogOk}
use Rattle.model.proofs.Positions.{ok-low}
use Rattle.model.proofs.Passed.{Stepped, turned, taken, stepped}
use Rattle.model.proofs.Standings.{Means, standing-means}
use Rattle.model.proofs.Changes.{Did, idle, appending, advancing, truncating}
use Rattle.model.proofs.Later.{Later}
use Rattle.model.proofs.Entries.{in_bounds}
use Rattle.model.proofs.Turns.{WideTurn, Each, each_at, each-so}
use Rattle.model.proofs.Shown.{length-LOOKUP}
use Rattle.model.proofs.Along.{Keeps, at-keeps, at-later, At, at_call, at_none, at_did, low-stays, skipping}
use Rattle.model.proofs.Accepted.{Attests, attests, AttestsTurn}
use Rattle.model.proofs.Apart.{Gap, at_gap}
use Rattle.model.proofs.ImageClaim.{Proper, proper, new-keeps}
use Rattle.model.proofs.Program.{program_claim}
use Rattle.model.proofs.Jumped.{ShowsPut, asked_by}

-- ---- a log

-- what e jumped over, from l's high on, is skipped by e in every later log whose low has not passed it
gap-stays : (l k : Log) → LogOk l → LogOk k → (e : Entry) → Later (entered l e) k → (p : ℕ) → l.high < p → p < e.position → k.low ≤ p → standing k p ≡ skipped e
unfolding entered
gap-stays l k ok ok' e later p above below low = go (standing k p) (standing-means k ok' p (omega arith))
  where
    only : (f : Entry) → p ≤ f.position → In f l.entries ⊎ In f (e ∷ []) → f ≡ e
    only f up (inl m) = let h = (in_bounds l ok f m).1 in absurd (omega arith)
    only f up (inr (inr x'')) = elim x'' [ ]
    only f up (inr (inl z)) = z

    is : (f : Entry) → In f k.entries → p ≤ f.position → f.position ≤ e.position → f ≡ e
    is f m up down = only f up (in-cases f l.entries (e ∷ []) (later.old f m down))

    go : (s : Standing) → Means k p s → s ≡ skipped e
    go unassigned m = let h = later.high in absurd (omega arith)
    go forgotten m = absurd (omega arith)
    go (assigned f) m =
        let q = m.1 in
        let z : f.position ≡ e.position = ap (λ (y : Entry). y.position) (is f m.0 (omega arith) (omega arith)) in
        absurd (omega arith)
    go (skipped f) m =
        let up = m.1 in
        let held : In e k.entries = later.kept e (in_right e l.entries (e ∷ []) (inl refl)) (omega arith) in
        ap skipped (is f m.0 (omega arith) (m.3 e held (omega arith)))

-- the low is at most one above the high
low-high : (l : Log) → LogOk l → (p : ℕ) → l.high < p → l.low ≤ p
low-high l ok p h = go (ℕ_discrete l.high 0)
  where
    go : Dec (l.high ≡ 0) → l.low ≤ p
    go (yes e) = let f = ok.fresh e in omega arith
    go (no z) = let f = ok-low l ok z in omega arith

-- ---- along the list

-- call i, after the advance at j that skips p, looks p up and gets the receipt r; no truncate between them that was accepted goes past p
pub record GapAsked (b : Model) (ts : List Turn) (rs : List Reply) (i j g p : ℕ) (r : List ℕ) : Type 0 where
  pub skips : SkipsAt b ts rs j g p
  pub later : j < i
  pub kept : (h m : ℕ) → j < h → h < i → ForgetsAt ts rs h g m → m ≤ p
  pub nonce : List ℕ
  pub lent : ℕ
  pub call : call_at ts i ≡ some (lookup g p nonce lent)
  pub receipt : receipt_in (reply_at rs i) ≡ some r

-- r shows p of log g skipped by the entry e, with what the rules have a gap show
pub record MarksGap (ru : Rules) (g p : ℕ) (e : Entry) (r : List ℕ) : Type 0 where
  pub skipped : ShowsSkipped r g p
  pub reference : (read_attestation r).reference ≡ e.position
  pub value : (read_attestation r).value ≡ (ru.gap e).value
  pub digest : (read_attestation r).digest ≡ (ru.gap e).digest

-- a lookup that finds p skipped by e
lookup_marks : (ru : Rules) → Attests ru → (b : Model) → Keeps b → (g p : ℕ) → p < 2 ^ 64 → (c : List ℕ) (lent : ℕ) (r : List ℕ) → receipt_in (model_step ru b (lookup g p c lent)).reply ≡ some r
    → (e : Entry) → standing (log_at b.logs g) p ≡ skipped e → MarksGap ru g p e r
unfolding model_accept model_lookup model_receipt kind_of reference_of shown_for
lookup_marks ru t b keeps g p p64 c lent r q e s = go (stepped ru b (lookup g p c lent))
  where
    go : Stepped ru b (lookup g p c lent) → MarksGap ru g p e r
    go (turned k z) = absurd (none-ne-some r (rw z at q))
    go (taken a z) =
        let l = log_at b.logs g in
        let p0 = a.position in
        let m : Means l p (skipped e) = subst (Means l p) s (standing-means l (keeps.sound g) p (omega arith)) in
        let sized = (keeps.fits g).sized e m.0 in
        let shown = t.gap e sized.0 sized.1 in
        let r64 : e.position < 2 ^ 64 = let top = (in_bounds l (keeps.sound g) e m.0).1 in let u = (keeps.fits g).high in omega arith in
        let x : model_receipt b LOOKUP 2 g p e.position c (ru.gap e) ≡ r = ap (λ (u : Standing). model_receipt b LOOKUP (kind_of u) g p (reference_of l u) c (shown_for ru u)) (sym s) ∙ some-injective _ _ (rw z at q) in
        let f = ap read_attestation (sym x) ∙ read-receipt b.key _ (record { name = length-LOOKUP; keeper = keeps.keeper; position = p64; reference = r64; nonce = a.nonce; value = shown.0; digest = shown.1 }) in
        record {
          skipped = record { skipped = ap (λ (y : Attestation). y.kind) f; log = ap (λ (y : Attestation). y.log) f; position = ap (λ (y : Attestation). y.position) f };
          reference = ap (λ (y : Attestation). y.reference) f;
          value = ap (λ (y : Attestation). y.value) f;
          digest = ap (λ (y : Attestation). y.digest) f;
        }

module _ (b : Model) (keeps : Keeps b) (ts : List Turn) (wide : Each WideTurn ts) where
  abbrev at : ℕ → ℕ → Log
  at g h = log_at (after model_turn b (take h ts)).logs g

  abbrev rs : List Reply
  rs = replies model_turn b ts

  -- a lookup of what an advance skipped, and no truncate has passed since, shows it skipped by that advance
  pub model-gap : (i j g p : ℕ) (r : List ℕ) (a : GapAsked b ts (replies model_turn b ts) i j g p r) (t : Turn) → get_elem? ts i ≡ some t → Attests t.rules
      → MarksGap t.rules g p (new_entry a.skips.n a.skips.value a.skips.given) r
  unfolding entered
  model-gap i j g p r a t there attests =
      let k = a.skips in
      let above = k.above in
      let below = k.below in
      let o = at_call b ts i (lookup g p a.nonce a.lent) a.call in
      let same : o.turn ≡ t = some-injective _ _ (sym o.there ∙ there) in
      let first : LogOk (at g j) = (at-keeps b keeps ts wide j).sound g in
      let m = after model_turn b (take i ts) in
      let e = new_entry k.n k.value k.given in
      let jumped : at g (suc j) ≡ entered (at g j) e = skipping b ts j g p k in
      let low : (at g (suc j)).low ≤ p = rw jumped (low-high (at g j) first p above) in
      let s : standing (at g i) p ≡ skipped e = gap-stays (at g j) (at g i) first ((at-keeps b keeps ts wide i).sound g) e (rw jumped at (at-later b ts (suc j) i a.later g)) p above below (low-stays b ts j i g p a.kept low i a.later (le_refl i)) in
      let p64 : p < 2 ^ 64 = made_wide o.turn.request _ o.makes (each_at WideTurn ts wide i _ o.there) in
      let q : receipt_in (model_step t.rules m (lookup g p a.nonce a.lent)).reply ≡ some r = ap (λ (u : Turn). receipt_in (model_step u.rules m (lookup g p a.nonce a.lent)).reply) (sym same) ∙ ap receipt_in (sym o.reply) ∙ a.receipt in
      lookup_marks t.rules attests m (at-keeps b keeps ts wide i) g p p64 a.nonce a.lent r q e s

  -- by the present rules it shows the reading that jumped over it
  pub model-gap-put : (i j g p : ℕ) (r : List ℕ) (a : GapAsked b ts (replies model_turn b ts) i j g p r) → ((t : Turn) → get_elem? ts i ≡ some t → t.rules ≡ rules)
      → ShowsSkipped r g p × ShowsPut a.skips.n a.skips.given a.skips.value (read_attestation r)
  unfolding rules rules01
  model-gap-put i j g p r a present =
      let k = a.skips in
      let o = at_call b ts i (lookup g p a.nonce a.lent) a.call in
      let ru : o.turn.rules ≡ rules = present o.turn o.there in
      let m : MarksGap rules g p (new_entry k.n k.value k.given) r = subst (λ (x : Rules). MarksGap x g p (new_entry k.n k.value k.given) r) ru (model-gap i j g p r a o.turn o.there (subst Attests (sym ru) attests)) in
      (m.skipped, record { reference = m.reference; shown = m.value; digest = m.digest })

  -- a gap, if log g was fresh at first, is one that an accepted advance skipped
  gap_from : (g p : ℕ) → (log_at b.logs g).high ≡ 0 → (i : ℕ) → Gap (at g i) p → (j : ℕ) × (j < i) × SkipsAt b ts rs j g p
  unfolding after entered cut_at
  gap_from g p fresh zero z = let lo = (keeps.sound g).low1 in let l = z.low in let h = z.high in absurd (omega arith)
  gap_from g p fresh (suc i) z = go (leb p (at g i).high) refl (λ (y : Gap (at g i) p). gap_from g p fresh i y) (call_at ts i) refl
    where
      -- it was one before the call, or the call made it
      earlier : p ≤ (at g i).high → Gap (at g i) p
      earlier h =
          let l = at-later b ts i (suc i) (omega arith) g in
          let a = l.low in
          let c = z.low in
          record { low = omega arith; high = h; empty = λ (e : Entry) (m : In e (at g i).entries) (q : e.position ≡ p). z.empty e (l.kept e m (omega arith)) q }

      made : (at g i).high < p → (c : Call) → call_at ts i ≡ some c → (o : At b ts i c) → Did o.turn.rules (after model_turn b (take i ts)) g c (at g (suc i)) → SkipsAt b ts rs i g p
      made h c f o (idle e) = let y = (subst (λ (l : Log). Gap l p) e z).high in absurd (omega arith)
      made h c f o (appending x t e) =
          let y = subst (λ (l : Log). Gap l p) e z in
          let top = y.high in
          absurd (y.empty x (in_right x (at g i).entries (x ∷ []) (inl refl)) (omega arith))
      made h c f o (advancing n d x lo hi t a e) =
          let y = subst (λ (l : Log). Gap l p) e z in
          let top = y.high in
          let off : n ≢ p = y.empty (new_entry n x d) (in_right _ (at g i).entries (new_entry n x d ∷ []) (inl refl)) in
          record { n = n; given = d; value = x; call = f ∙ ap some t; low = lo; high = hi; accepted = o.reply ∙ a; above = h; below = omega arith }
      made h c f o (truncating n lo hi t a e) = let y = (subst (λ (l : Log). Gap l p) e z).high in absurd (omega arith)

      go : (x : Bool) → leb p (at g i).high ≡ x → (Gap (at g i) p → (j : ℕ) × (j < i) × SkipsAt b ts rs j g p) → (c : Option Call) → call_at ts i ≡ c → (j : ℕ) × (j < suc i) × SkipsAt b ts rs j g p
      go true e before c f = let s = before (earlier (leb-true p (at g i).high e)) in let lt = s.1 in (s.0, omega arith, s.2)
      go false e before none f =
          let h = leb-false p (at g i).high e in
          let top = (subst (λ (m : Model). Gap (log_at m.logs g) p) (at_none b ts i f) z).high in
          absurd (omega arith)
      go false e before (some c) f = let o = at_call b ts i c f in (i, le_refl (suc i), made (leb-false p (at g i).high e) c f o (at_did b ts i g c o))

  -- so what a receipt shows skipped, an accepted advance before it skipped
  pub model-made : Each AttestsTurn ts → (i g p : ℕ) → (log_at b.logs g).high ≡ 0 → SkippedAt (replies model_turn b ts) i g p → (j : ℕ) × (j < i) × SkipsAt b ts (replies model_turn b ts) j g p
  model-made a i g p fresh s = gap_from g p fresh i (at_gap b keeps ts wide a i g p s)

-- ---- the list that the program makes on the table of an accepted format

module _ (lent : List ℕ) (G S keeper : ℕ) (key reserves : List ℕ) (k64 : keeper < 2 ^ 64) (accepted : format_refusal (length lent) G S (length key) reserves ≡ none) (qs : List Request) (w : AllWideRequests qs) where
  abbrev answered : List Reply
  answered = replies (request_step program_step) (format_bytes lent G S keeper key reserves) qs

  abbrev start : Model
  start = new_model S keeper key reserves

  abbrev turns : List Turn
  turns = asking rules qs

  -- a gap shows skipped, by the reading that jumped over it, until it is truncated
  pub gap-shown : (i j g p : ℕ) (r : List ℕ) (a : GapAsked start turns answered i j g p r) → ShowsSkipped r g p × ShowsPut a.skips.n a.skips.given a.skips.value (read_attestation r)
  gap-shown =
      rw (program_claim lent G S keeper key reserves k64 accepted qs w).answers
      (λ (i j g p : ℕ) (r : List ℕ) (a : GapAsked start turns (replies model_turn start turns) i j g p r). model-gap-put start (new-keeps S keeper key reserves k64) turns (each-so Proper WideTurn (λ (t : Turn) (y : Proper t). y.wide) turns (proper qs w)) i j g p r a (asked_by qs i))

  -- and nothing but a gap does
  pub gap-made : (i g p : ℕ) → SkippedAt answered i g p → (j : ℕ) × (j < i) × SkipsAt start turns answered j g p
  gap-made =
      let P = proper qs w in
      rw (program_claim lent G S keeper key reserves k64 accepted qs w).answers
      (λ (i g p : ℕ) (s : SkippedAt (replies model_turn start turns) i g p). model-made start (new-keeps S keeper key reserves k64) turns (each-so Proper WideTurn (λ (t : Turn) (y : Proper t). y.wide) turns P) (each-so Proper AttestsTurn (λ (t : Turn) (y : Proper t). y.attests) turns P) i g p (ap (λ (l : Log). l.high) (get_or-map fresh_log reserves g 0)) s)
