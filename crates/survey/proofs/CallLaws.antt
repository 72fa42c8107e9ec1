-- How a call by survey and reading on a table ends, for each way out: turned away with 7 or 18, or as the call that it makes. Over plain values: b is the
-- table before, a the one after; old is the lent receipt before, out the one after.
use Prim.Native.Nat.{ℕ}
use mathlib.Core.Path.{◌≡◌, refl, sym, ap, ap₂, subst, ◌∙◌}
use mathlib.Core.Logic.{◌≢◌}
use mathlib.Core.Bool.{Bool, true, false, not, ◌||◌}
use mathlib.Core.List.{List, [], ◌∷◌}
use mathlib.Core.Option.{Option, none, some}
use lib.ListN.{length}
use lib.Dec.{eqb}
use borrow.Author.Tests.{eq-eqb, ne_eqb}
use Rattle.octets.specs.Octets.{zeros}
use Rattle.refusal.specs.Answer.{answer}
use Rattle.refusal.specs.Number.{number_of}
use Rattle.refusal.specs.declared.Refusal.{Refusal}
use Rattle.refusal.specs.declared.Hashed.{Hashed}
use Rattle.refusal.specs.declared.Refused.{Refused}
use Rattle.std.specs.Prelude.{Result}
use Rattle.a2m.specs.declared.Bounds.{Bounds}
use Rattle.a2m.specs.Call.{advance, lookup, Reply, refused, Effect}
use Rattle.a2m.specs.ImageCalls.{wrong_length}
use Rattle.a2m.specs.TableCalls.{table_step}
use Rattle.a2m.specs.Opened.{receipt_after, Changed, Looked}
use Rattle.a2m.proofs.AnswerLaws.{refused-blocks}
use Rattle.a2m.proofs.Unchanged.{refused_unchanged}
use Rattle.a2m.proofs.Answered.{Leaves, Shows}
use Rattle.a2m.proofs.CallLaws.{advance-sized}
use Rattle.a2m.proofs.ReadLaws.{lookup-sized}
use Rattle.survey.specs.Packing.{packed, too_wide, last_reading, packing}
use Rattle.survey.specs.Requests.{Request, advances, looks, closes, call_of, early, request_step}
use Rattle.survey.proofs.PackingLaws.{packed-at, packed-away}
use Rattle.survey.proofs.RequestLaws.{away-length, away-wide, stays, passed-step, away-step, close-step}

module _ (b : List ℕ) (q : Request) where
  away-steps : (k : ℕ) → early q ≡ some k → Leaves (request_step table_step b q) (refused k) 0 b
  away-steps k h =
      let e = away-step table_step b q k h in
      let F = Effect (List ℕ) in
      (sym (ap (λ (f : F). f.reply) e), (sym (ap (λ (f : F). f.blocks) e), sym (ap (λ (f : F). f.state) e)))

  away-reads : (k : ℕ) (old : List ℕ) → early q ≡ some k → Shows (request_step table_step b q) (refused k) 0 old old
  unfolding receipt_after
  away-reads k old h = let p = away-steps k h in (p.0, (p.1.0, ap (λ (r : Reply). receipt_after r old) p.0))

  passed-change : early q ≡ none → {r : Result (Hashed Bounds) Refused} {a : List ℕ} → Changed (table_step b (call_of q)) r a → Changed (request_step table_step b q) r a
  passed-change h {r} {a} p = subst (λ (f : Effect (List ℕ)). Changed f r a) (sym (passed-step table_step b q h)) p

  passed-look : early q ≡ none → {r : Result (Hashed ℕ) Refused} {old out : List ℕ} → Looked (table_step b (call_of q)) r old out → Looked (request_step table_step b q) r old out
  passed-look h {r} {old} {out} p = subst (λ (f : Effect (List ℕ)). Looked f r old out) (sym (passed-step table_step b q h)) p

  -- "A refusal changes no lent byte", and by request [2] hashed nothing
  pub refused-request : (k : ℕ) → (request_step table_step b q).reply ≡ refused k → ((request_step table_step b q).state ≡ b) × ((request_step table_step b q).blocks ≡ 0)
  refused-request k h = go (early q) refl
    where
      go : (o : Option ℕ) → early q ≡ o → ((request_step table_step b q).state ≡ b) × ((request_step table_step b q).blocks ≡ 0)
      go none e =
          let m = passed-step table_step b q e in
          let u = refused_unchanged b (call_of q) k (sym (ap (λ (f : Effect (List ℕ)). f.reply) m) ∙ h) in
          (ap (λ (f : Effect (List ℕ)). f.state) m ∙ u.0, ap (λ (f : Effect (List ℕ)). f.blocks) m ∙ refused-blocks b (call_of q) k u.1)
      go (some j) e = let p = away-steps j e in (sym p.1.1, sym p.1.0)

-- one of two lengths is wrong
first_wrong : (m n k : ℕ) → m ≢ 32 → not (eqb m 32) || not (eqb n k) ≡ true
first_wrong m n k h = ap (λ (t : Bool). not t || not (eqb n k)) (ne_eqb m 32 h)

second_wrong : (m n k : ℕ) → m ≡ 32 → n ≢ k → not (eqb m 32) || not (eqb n k) ≡ true
second_wrong m n k e h = ap₂ (λ (t u : Bool). not t || not u) (eq-eqb m 32 e) (ne_eqb n k h)

-- ---- advance

module _ (b : List ℕ) (g s r : ℕ) (d x : List ℕ) where
  pub advances-digest : length d ≢ 32 → Leaves (request_step table_step b (advances g s r d x)) (refused 7) 0 b
  unfolding early wrong_length
  advances-digest h = away-steps b (advances g s r d x) 7 (away-length (advance g (packed s r) d x) (too_wide s r) (first_wrong (length d) (length x) 32 h))

  pub advances-value : length d ≡ 32 → length x ≢ 32 → Leaves (request_step table_step b (advances g s r d x)) (refused 7) 0 b
  unfolding early wrong_length
  advances-value k h = away-steps b (advances g s r d x) 7 (away-length (advance g (packed s r) d x) (too_wide s r) (second_wrong (length d) (length x) 32 k h))

  module _ (hd : length d ≡ 32) (hx : length x ≡ 32) where
    sized : wrong_length (advance g (packed s r) d x) ≡ false
    sized = advance-sized b (packed s r) d x g hd hx

    pub advances-away : (w : Refusal) → answer (number_of w) [] ≡ packing s r → Leaves (request_step table_step b (advances g s r d x)) (refused (number_of w)) 0 b
    unfolding early
    advances-away w h =
        let p = packed-away s r (number_of w) h in
        subst (λ (k : ℕ). Leaves (request_step table_step b (advances g s r d x)) (refused k) 0 b) (sym p.1) (away-steps b (advances g s r d x) 18 (away-wide (advance g (packed s r) d x) (too_wide s r) sized p.0))

    pub advances-made : (n : ℕ) → answer 0 (n ∷ []) ≡ packing s r → {r' : Result (Hashed Bounds) Refused} {a : List ℕ} → Changed (table_step b (advance g n d x)) r' a → Changed (request_step table_step b (advances g s r d x)) r' a
    unfolding early
    advances-made n h {r'} {a} e =
        let p = packed-at s r n h in
        passed-change b (advances g s r d x) (stays (advance g (packed s r) d x) (too_wide s r) sized p.0) (subst (λ (m : ℕ). Changed (table_step b (advance g m d x)) r' a) p.1 e)

-- ---- close

pub closed-change : (b : List ℕ) (g s r : ℕ) (d x : List ℕ) → r ≡ last_reading → d ≡ zeros 32 → {y : Result (Hashed Bounds) Refused} {a : List ℕ} → Changed (request_step table_step b (advances g s r d x)) y a → Changed (request_step table_step b (closes g s x)) y a
closed-change b g s r d x er ed {y} {a} h =
    let e : request_step table_step b (advances g s r d x) ≡ request_step table_step b (closes g s x) = ap₂ (λ (m : ℕ) (z : List ℕ). request_step table_step b (advances g s m z x)) er ed ∙ sym (close-step table_step b g s x) in
    subst (λ (f : Effect (List ℕ)). Changed f y a) e h

-- ---- lookup

module _ (b : List ℕ) (g s r : ℕ) (c old : List ℕ) where
  pub looks-nonce : length c ≢ 32 → Shows (request_step table_step b (looks g s r c (length old))) (refused 7) 0 old old
  unfolding early wrong_length
  looks-nonce h = away-reads b (looks g s r c (length old)) 7 old (away-length (lookup g (packed s r) c (length old)) (too_wide s r) (first_wrong (length c) (length old) 160 h))

  pub looks-receipt : length c ≡ 32 → length old ≢ 160 → Shows (request_step table_step b (looks g s r c (length old))) (refused 7) 0 old old
  unfolding early wrong_length
  looks-receipt e h = away-reads b (looks g s r c (length old)) 7 old (away-length (lookup g (packed s r) c (length old)) (too_wide s r) (second_wrong (length c) (length old) 160 e h))

  module _ (hc : length c ≡ 32) (ho : length old ≡ 160) where
    fitting : wrong_length (lookup g (packed s r) c (length old)) ≡ false
    fitting = lookup-sized b c old (packed s r) g (length old) hc ho

    pub looks-away : (w : Refusal) → answer (number_of w) [] ≡ packing s r → Shows (request_step table_step b (looks g s r c (length old))) (refused (number_of w)) 0 old old
    unfolding early
    looks-away w h =
        let p = packed-away s r (number_of w) h in
        subst (λ (k : ℕ). Shows (request_step table_step b (looks g s r c (length old))) (refused k) 0 old old) (sym p.1) (away-reads b (looks g s r c (length old)) 18 old (away-wide (lookup g (packed s r) c (length old)) (too_wide s r) fitting p.0))

    pub looks-made : (n : ℕ) → answer 0 (n ∷ []) ≡ packing s r → {y : Result (Hashed ℕ) Refused} {out : List ℕ} → Looked (table_step b (lookup g n c (length old))) y old out → Looked (request_step table_step b (looks g s r c (length old))) y old out
    unfolding early
    looks-made n h {y} {out} e =
        let p = packed-at s r n h in
        passed-look b (looks g s r c (length old)) (stays (lookup g (packed s r) c (length old)) (too_wide s r) fitting p.0) (subst (λ (m : ℕ). Looked (table_step b (lookup g m c (length old))) y old out) p.1 e)
