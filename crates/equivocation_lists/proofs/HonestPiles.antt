-- Document 02 [13]: "Receipts that one list of calls as in demand 3 wrote are never such a pair", of two receipts and of a pile; and that a roster which has
-- the keeper accepts each of them, so that this is said of receipts that count.
use Prim.Native.Nat.{ℕ, zero, suc, ◌<◌}
use mathlib.Core.Path.{◌≡◌, refl, sym, ap, ◌∙◌}
use mathlib.Core.Logic.{◌⊎◌, inl, inr}
use native.Mathlib.Omega.{arith}
use mathlib.Core.Bool.{Bool, true, false}
use mathlib.Core.List.{List, [], ◌∷◌}
use mathlib.Core.Option.{Option, none, some, none-ne-some, some-ne-none}
use lib.Dec.{eqb}
use borrow.Author.Tests.{both_ways, eqb-true}
use Rattle.octets.proofs.Tests.{and_left}
use Rattle.refusal.specs.Answer.{Answer, answer}
use Rattle.receipt.specs.Attestation.{read_attestation}
use Rattle.receipt.specs.Verdict.{answers, verdict}
use Rattle.receipt.specs.declared.Question.{Question}
use Rattle.receipt.proofs.Verifier.{passes}
use Rattle.roster.specs.Roster.{size, keeper_at, key_at}
use Rattle.quorum.specs.Certificate.{receipt_count, receipt_at}
use Rattle.quorum.proofs.Masks.{any_at}
use Rattle.equivocation.specs.Pairs.{own_question, accepted_by, accepted_at, Differ, Skips, Conflicting, conflicting, is_pair, first_pair, contradiction, Admitted, IsPair}
use Rattle.equivocation.proofs.PairLaws.{own-accepted, accepted-by, accepted-at, conflicting-exactly, is-pair}
use Rattle.equivocation.proofs.FirstPairs.{none-exactly, pair-exactly, nothing-exactly}
use Rattle.layout.specs.Image.{Image}
use Rattle.a2m.specs.Call.{Call, append, advance, truncate, lookup, end, Reply, refused, Effect, effect, replies, receipt_in}
use Rattle.survey.specs.Requests.{Request, call_of, early, made_of, request_step}
use Rattle.model.specs.Model.{Model, model_step}
use Rattle.model.specs.Claim.{Turn, model_turn, call_at, reply_at, ListClaim}
use Rattle.model.specs.Question.{question_of, nonce_of}
use Rattle.model.proofs.Requests.{request-is}
use Rattle.model.proofs.NeverPair.{OneStory, never-pair}
use Rattle.equivocation_lists.specs.Written.{Wrote, OneList}

-- ---- what is written was asked for by a call

away : (S : Type 0) (step : S → Call → Effect S) (s : S) (q : Request) → made_of q ≡ none → receipt_in (request_step step s q).reply ≡ none
unfolding made_of request_step
away S step s q h = go (early q) h (request_step step s q) refl
  where
    go : (o : Option ℕ) → ◌≡◌ {A = Option Call} (elim o [ none ↦ some (call_of q) | some k ↦ none ]) none → (e : Effect S) → e ≡ elim o [ none ↦ step s (call_of q) | some k ↦ effect (refused k) 0 s ] → receipt_in e.reply ≡ none
    go none h e g = absurd (some-ne-none (call_of q) h)
    go (some k) h e g = ap (λ (x : Effect S). receipt_in x.reply) g

asked : (b : Model) (ts : List Turn) (j : ℕ) (r : List ℕ) → receipt_in (reply_at (replies model_turn b ts) j) ≡ some r → (c : Call) × (call_at ts j ≡ some c)
unfolding replies call_at
asked b [] j r h = absurd (none-ne-some r h)
asked b (t ∷ ts) zero r h = go (made_of t.request) refl
  where
    go : (o : Option Call) → made_of t.request ≡ o → (c : Call) × (made_of t.request ≡ some c)
    go none e = absurd (none-ne-some r (sym (ap (λ (x : Effect Model). receipt_in x.reply) (request-is t.rules b t.request) ∙ away Model (model_step t.rules) b t.request e) ∙ h))
    go (some c) e = (c, e)
asked b (t ∷ ts) (suc j) r h = asked (model_turn b t).state ts j r h

question-keeper : (keeper : ℕ) (c : Call) → (question_of keeper c).keeper ≡ keeper
unfolding question_of
question-keeper keeper (append g x) = refl
question-keeper keeper (advance g n d x) = refl
question-keeper keeper (truncate g n) = refl
question-keeper keeper (lookup g n c k) = refl
question-keeper keeper (end g c k) = refl

answers-keeper : (r : List ℕ) (q : Question) (nonce : List ℕ) → answers (read_attestation r) q nonce ≡ true → (read_attestation r).keeper ≡ q.keeper
unfolding answers
answers-keeper r q nonce h = eqb-true (read_attestation r).keeper q.keeper (and_left (eqb (read_attestation r).keeper q.keeper) _ h)

module _ (b : Model) (ts : List Turn) (rs : List Reply) (ks : List ℕ) (m : Image) (claim : ListClaim b ts rs ks m) where
  -- what the list wrote is accepted by every roster that has its keeper with its key
  pub written-accepted : (roster : List ℕ) (i : ℕ) → key_at roster i ≡ b.key → keeper_at roster i ≡ b.keeper → (r : List ℕ) → Wrote rs r → accepted_by roster r i ≡ true
  written-accepted roster i key keeper r w =
      let c = asked b ts w.0 r (ap (λ (x : List Reply). receipt_in (reply_at x w.0)) (sym claim.answers) ∙ w.1) in
      let q = question_of b.keeper c.0 in
      let v = ap (λ (x : Answer). x.number) (claim.verified w.0 c.0 r c.1 w.1) in
      let p = passes b.key r (nonce_of c.0) q v in
      (accepted-by roster r i).1 (record {
        keeper = keeper ∙ sym (answers-keeper r q (nonce_of c.0) p.answers ∙ question-keeper b.keeper c.0);
        accepted = ap (λ (x : List ℕ). (verdict x r (read_attestation r).nonce (own_question (read_attestation r))).number) key ∙ own-accepted b.key r (nonce_of c.0) q v;
      })

  -- so in a pile
  pub written-counts : (roster pile : List ℕ) (i p : ℕ) → i < size roster → key_at roster i ≡ b.key → keeper_at roster i ≡ b.keeper → Wrote rs (receipt_at pile p) → accepted_at roster pile p ≡ true
  unfolding accepted_at
  written-counts roster pile i p l key keeper w = any_at (size roster) (accepted_by roster (receipt_at pile p)) i l (written-accepted roster i key keeper (receipt_at pile p) w)

  -- "Receipts that one list of calls as in demand 3 wrote are never such a pair": by `agreeing` and `apart` of the claim
  pub never-conflicting : (r s : List ℕ) → Wrote rs r → Wrote rs s → conflicting (read_attestation r) (read_attestation s) ≡ false
  never-conflicting r s u w = go (conflicting (read_attestation r) (read_attestation s)) refl
    where
      no : Conflicting (read_attestation r) (read_attestation s) → ⊥
      no c = told (never-pair b ts rs ks m claim u.0 w.0 r s u.1 w.1 c.log c.position) c.stories
        where
          told : OneStory (read_attestation r) (read_attestation s) → Differ (read_attestation r) (read_attestation s) ⊎ (Skips (read_attestation r) (read_attestation s) ⊎ Skips (read_attestation s) (read_attestation r)) → ⊥
          told o (inl d) = let e = o.assigned d.first d.second in d.apart e.0 e.1
          told o (inr (inl k)) = o.unskipped k.assigned k.skipped
          told o (inr (inr k)) = o.unassigned k.skipped k.assigned

      go : (t : Bool) → conflicting (read_attestation r) (read_attestation s) ≡ t → conflicting (read_attestation r) (read_attestation s) ≡ false
      go true e = absurd (no ((conflicting-exactly (read_attestation r) (read_attestation s)).0 e))
      go false e = e

-- ---- a pile

module _ (roster pile : List ℕ) where
  -- if one list wrote each accepted receipt of a keeper's, no pair is that keeper's
  pub honest-keeper : (keeper : ℕ) → OneList roster pile keeper → (p q : ℕ) → IsPair roster pile p q → (read_attestation (receipt_at pile p)).keeper ≡ keeper → ⊥
  honest-keeper keeper h p q i e =
      let within = i.within in
      let order = i.order in
      let c = i.conflict in
      let u = h.wrote p (omega arith) ((accepted-at roster pile p).1 i.first) e in
      let w = h.wrote q within ((accepted-at roster pile q).1 i.second) (sym c.keeper ∙ e) in
      both_ways _ (never-conflicting h.start h.turns h.answers h.blocks h.table h.claim (receipt_at pile p) (receipt_at pile q) u w)
      ((conflicting-exactly (read_attestation (receipt_at pile p)) (read_attestation (receipt_at pile q))).1 c)

  -- if so of every keeper of the roster's, there is no pair
  pub honest-pile : ((i : ℕ) → i < size roster → OneList roster pile (keeper_at roster i)) → first_pair roster pile ≡ none
  honest-pile h = (none-exactly roster pile).1 (λ p q l w. go p q l w (is_pair roster pile p q) refl)
    where
      go : (p q : ℕ) → p < q → q < receipt_count pile → (t : Bool) → is_pair roster pile p q ≡ t → is_pair roster pile p q ≡ false
      go p q l w true e =
          let i = (is-pair roster pile p q l w).0 e in
          absurd (honest-keeper (keeper_at roster i.first.0) (h i.first.0 i.first.1) p q i (sym i.first.2.keeper))
      go p q l w false e = e

  -- so of a pile that one list wrote
  pub one_list : (b : Model) (ts : List Turn) (rs : List Reply) (ks : List ℕ) (m : Image) → ListClaim b ts rs ks m → ((p : ℕ) → p < receipt_count pile → Wrote rs (receipt_at pile p)) → first_pair roster pile ≡ none
  one_list b ts rs ks m claim w =
      honest-pile (λ i l. record { start = b; turns = ts; answers = rs; blocks = ks; table = m; claim = claim; wrote = λ p h a e. w p h })

module _ (n k : ℕ) (roster pile : List ℕ) where
  -- and the answer is that there is none
  pub honest-answer : Admitted n k roster pile → ((i : ℕ) → i < size roster → OneList roster pile (keeper_at roster i)) → contradiction n k roster pile ≡ answer 0 []
  honest-answer a h = (nothing-exactly n k roster pile).1 (a, λ p q i. honest-keeper roster pile (keeper_at roster i.first.0) (h i.first.0 i.first.1) p q i (sym i.first.2.keeper))

  -- a pair that is answered was not written by one list
  pub answered-unwritten : (p q : ℕ) → contradiction n k roster pile ≡ answer 0 (p ∷ q ∷ [])
      → (b : Model) (ts : List Turn) (rs : List Reply) (ks : List ℕ) (m : Image) → ListClaim b ts rs ks m → Wrote rs (receipt_at pile p) → Wrote rs (receipt_at pile q) → ⊥
  answered-unwritten p q h b ts rs ks m claim u w =
      let f = ((pair-exactly n k roster pile p q).0 h).1 in
      both_ways _ (never-conflicting b ts rs ks m claim (receipt_at pile p) (receipt_at pile q) u w)
      ((conflicting-exactly (read_attestation (receipt_at pile p)) (read_attestation (receipt_at pile q))).1 f.pair.conflict)
