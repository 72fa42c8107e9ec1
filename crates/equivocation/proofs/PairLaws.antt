-- The tests of document 02 [13] are its conditions: accepted receipts, and two that contradict each other.
use mathlib.Core.Path.{◌≡◌, refl, sym, ap, ◌∙◌}
use mathlib.Core.Logic.{◌↔◌, ◌≢◌, ◌⊎◌, ⊎_elim, inl, inr}
use Prim.Native.Nat.{ℕ, ◌<◌}
use native.Mathlib.Omega.{arith}
use mathlib.Core.Bool.{Bool, true, false, not, ◌&&◌, cond}
use mathlib.Core.List.{List}
use lib.ListN.{length}
use lib.Dec.{eqb}
use borrow.Author.Tests.{eqb-true, eq-eqb}
use Rattle.octets.specs.Octets.{Bytes, same}
use Rattle.octets.proofs.Tests.{and_left, and_right, and_both, equal_or_not}
use Rattle.octets.proofs.Same.{same-eq, eq-same, same_not}
use Rattle.refusal.specs.Answer.{Answer}
use Rattle.receipt.specs.Attestation.{Attestation, LOOKUP, END, read_attestation}
use Rattle.receipt.specs.Possible.{Admissible, possible}
use Rattle.receipt.specs.Verdict.{Asks, answers, is_tagged, verdict, Genuine}
use Rattle.receipt.specs.declared.Ask.TheVariants.{Lookup, End}
use Rattle.receipt.specs.declared.Question.{Question}
use Rattle.receipt.proofs.Cases.{by-ask, key-length, nonce-length, receipt-length, impossible, wrong-tag, accepts}
use Rattle.receipt.proofs.PossibleLaws.{possible-sound, asks-complete}
use Rattle.receipt.proofs.Verifier.{says, complete, sound, passes}
use Rattle.roster.specs.Roster.{size, key_at}
use Rattle.quorum.specs.Certificate.{receipt_count, receipt_at}
use Rattle.quorum.proofs.Masks.{any_at, any_some}
use Rattle.equivocation.specs.Pairs.{own_question, accepted_by, accepted_at, stories_differ, conflicting, is_pair, AcceptedBy, EntryOf, AcceptedAt, Differ, Skips, Conflicting, IsPair}
use Rattle.equivocation.proofs.CheckLaws.{nonce-size, accepted-apart, accepted-both}
use Rattle.equivocation.proofs.StoryLaws.{both-assigned, assigned-first, skipped-first, no-story, by-stories}

-- ---- a receipt and its own question

own-keeper : (a : Attestation) → a.keeper ≡ (own_question a).keeper
unfolding own_question
own-keeper a = refl

own-log : (a : Attestation) → a.log ≡ (own_question a).log
unfolding own_question
own-log a = refl

-- a possible entry answers it: its name is LOOKUP or END
own-asks : (a : Attestation) → Admissible a → Asks (own_question a).ask a
unfolding own_question
own-asks a h = go (same a.name LOOKUP) refl
  where
    end : same a.name LOOKUP ≡ false → a.name ≡ END
    end e = ⊎_elim (λ p. ⊎_elim (λ (l : a.name ≡ LOOKUP). absurd (same_not a.name LOOKUP e l)) (λ (z : a.name ≡ END). z) p.named) (λ f. f.named) h

    go : (b : Bool) → same a.name LOOKUP ≡ b → Asks (cond b (Lookup a.position) End) a
    go true e = (same-eq a.name LOOKUP e, refl)
    go false e = end e

module _ (key r : List ℕ) where
  abbrev A : Attestation
  A = read_attestation r

  own-answers : possible A ≡ true → answers A (own_question A) A.nonce ≡ true
  own-answers h = sym (by-ask A (own_question A) A.nonce (own-keeper A) (own-log A) (eq-same A.nonce A.nonce refl)) ∙ asks-complete A (own_question A).ask (own-asks A (possible-sound A h))

  -- so a receipt that is accepted for any question is accepted for its own
  pub own-accepted : (nonce : List ℕ) (q : Question) → (verdict key r nonce q).number ≡ 0 → (verdict key r A.nonce (own_question A)).number ≡ 0
  own-accepted nonce q h =
      let p = passes key r nonce q h in
      sym (ap (λ (x : Answer). x.number) (accepts key r A.nonce (own_question A) p.key (nonce-size r p.size) p.size p.possible p.tagged (own-answers p.possible)).0)

  -- and none is refused with 11, "the question differs"
  pub never-eleven : (verdict key r A.nonce (own_question A)).number ≢ 11
  never-eleven h =
      ⊎_elim (λ k. ⊎_elim (λ n. ⊎_elim (λ l. looked k n l (possible A) refl) (λ l. other (receipt-length key r A.nonce (own_question A) k n l).0 (λ z. omega arith)) (equal_or_not (length r) 160))
      (λ n. other (nonce-length key r A.nonce (own_question A) k n).0 (λ z. omega arith)) (equal_or_not (length A.nonce) 32)) (λ k. other (key-length key r A.nonce (own_question A) k).0 (λ z. omega arith)) (equal_or_not (length key) 32)
    where
      other : {a : Answer} → a ≡ verdict key r A.nonce (own_question A) → a.number ≢ 11 → ⊥
      other e n = n (ap (λ (x : Answer). x.number) e ∙ h)

      tagged : length key ≡ 32 → length A.nonce ≡ 32 → length r ≡ 160 → possible A ≡ true → (b : Bool) → is_tagged key r ≡ b → ⊥
      tagged k n l p true t = other (accepts key r A.nonce (own_question A) k n l p t (own-answers p)).0 (λ z. omega arith)
      tagged k n l p false t = other (wrong-tag key r A.nonce (own_question A) k n l p t).0 (λ z. omega arith)

      looked : length key ≡ 32 → length A.nonce ≡ 32 → length r ≡ 160 → (b : Bool) → possible A ≡ b → ⊥
      looked k n l true p = tagged k n l p (is_tagged key r) refl
      looked k n l false p = other (impossible key r A.nonce (own_question A) k n l p).0 (λ z. omega arith)

-- ---- accepted receipts

module _ (roster r : List ℕ) (i : ℕ) where
  pub accepted-by : accepted_by roster r i ≡ true ↔ AcceptedBy roster r i
  accepted-by = (
    λ h. let a = accepted-apart roster r i h in record { keeper = a.0; accepted = eqb-true _ 0 a.1 },
    λ g. accepted-both roster r i g.keeper (eq-eqb _ 0 g.accepted),
  )

  -- "roster members' accepted receipts": exactly the bytes of a possible entry of the member's under its key
  pub accepted-exactly : Bytes r → accepted_by roster r i ≡ true ↔ EntryOf roster r i
  accepted-exactly b = (to, from)
    where
      to : accepted_by roster r i ≡ true → EntryOf roster r i
      to h =
          let a = accepted-by.0 h in
          let g = sound (key_at roster i) r (read_attestation r).nonce (own_question (read_attestation r)) b a.accepted in
          record { entry = read_attestation r; sized = g.sized; possible = g.possible; key = g.key; bytes = g.bytes; keeper = a.keeper }

      genuine : (e : EntryOf roster r i) → Genuine (key_at roster i) r e.entry.nonce (own_question e.entry) e.entry
      genuine e = record {
        key = e.key;
        sized = e.sized;
        possible = e.possible;
        bytes = e.bytes;
        keeper = own-keeper e.entry;
        log = own-log e.entry;
        nonce = refl;
        ask = own-asks e.entry e.possible;
      }

      from : EntryOf roster r i → accepted_by roster r i ≡ true
      from e =
          let s = says (key_at roster i) r e.entry.nonce (own_question e.entry) e.entry (genuine e) in
          let v = ap (λ (x : Answer). x.number) (complete (key_at roster i) r e.entry.nonce (own_question e.entry) e.entry (genuine e)) in
          accepted-by.1 (record {
            keeper = e.keeper ∙ ap (λ (a : Attestation). a.keeper) (sym s);
            accepted = ap (λ (a : Attestation). (verdict (key_at roster i) r a.nonce (own_question a)).number) s ∙ v;
          })

pub accepted-at : (roster pile : List ℕ) (p : ℕ) → accepted_at roster pile p ≡ true ↔ AcceptedAt roster pile p
unfolding accepted_at
accepted-at roster pile p = (
  λ h. let m = any_some (size roster) (accepted_by roster (receipt_at pile p)) h in (m.0, m.1, (accepted-by roster (receipt_at pile p) m.0).0 m.2),
  λ g. any_at (size roster) (accepted_by roster (receipt_at pile p)) g.0 g.1 ((accepted-by roster (receipt_at pile p) g.0).1 g.2),
)

-- ---- two receipts

module _ (a b : Attestation) where
  abbrev Stories : Type 0
  Stories = Differ a b ⊎ (Skips a b ⊎ Skips b a)

  differ : a.kind ≡ 1 → b.kind ≡ 1 → (t : Bool) → same a.value b.value && same a.digest b.digest ≡ t → not t ≡ true → Differ a b
  differ h k true e n = let z : ◌≡◌ {A = ℕ} 0 1 = cc in absurd (omega arith)
  differ h k false e n = record {
    first = h;
    second = k;
    apart = λ v d. let t = and_both (same a.value b.value) (same a.digest b.digest) (eq-same a.value b.value v) (eq-same a.digest b.digest d) in
        let z : ◌≡◌ {A = ℕ} 0 1 = cc in omega arith;
  }

  abbrev same_both : Bool
  same_both = same a.value b.value && same a.digest b.digest

  same-story : Differ a b → (t : Bool) → same a.value b.value && same a.digest b.digest ≡ t → not t ≡ true
  same-story d true e =
      absurd (d.apart (same-eq a.value b.value (and_left (same a.value b.value) _ e)) (same-eq a.digest b.digest (and_right (same a.value b.value) _ e)))
  same-story d false e = refl

  pub stories-exactly : stories_differ a b ≡ true ↔ Stories
  stories-exactly = (to, from)
    where
      to : stories_differ a b ≡ true → Stories
      to h =
          ⊎_elim
          (λ (x : a.kind ≡ 1). ⊎_elim (λ (y : b.kind ≡ 1). inl (differ x y same_both refl (both-assigned a b x y ∙ h)))
          (λ (y : b.kind ≡ 1 → ⊥). inr (inl (record { assigned = x; skipped = eqb-true b.kind 2 (assigned-first a b x y ∙ h) }))) (equal_or_not b.kind 1))
          (λ (x : a.kind ≡ 1 → ⊥). ⊎_elim (λ (y : a.kind ≡ 2). inr (inr (record { assigned = eqb-true b.kind 1 (skipped-first a b x y ∙ h); skipped = y })))
          (λ (y : a.kind ≡ 2 → ⊥). absurd (let f = no-story a b x y in let z : ◌≡◌ {A = ℕ} 0 1 = cc in omega arith)) (equal_or_not a.kind 2)) (equal_or_not a.kind 1)

      from : Stories → stories_differ a b ≡ true
      from (inl d) = sym (both-assigned a b d.first d.second) ∙ same-story d same_both refl
      from (inr (inl s)) = sym (assigned-first a b s.assigned (λ z. let k = s.skipped in omega arith)) ∙ eq-eqb b.kind 2 s.skipped
      from (inr (inr s)) = sym (skipped-first a b (λ z. let k = s.skipped in omega arith) s.skipped) ∙ eq-eqb b.kind 1 s.assigned

  pub conflicting-exactly : conflicting a b ≡ true ↔ Conflicting a b
  unfolding conflicting
  conflicting-exactly = (
    λ h. let k = and_right (eqb a.keeper b.keeper) _ h in
        let l = and_right (eqb a.log b.log) _ k in
        record {
          keeper = eqb-true a.keeper b.keeper (and_left (eqb a.keeper b.keeper) _ h);
          log = eqb-true a.log b.log (and_left (eqb a.log b.log) _ k);
          position = eqb-true a.position b.position (and_left (eqb a.position b.position) _ l);
          stories = stories-exactly.0 (and_right (eqb a.position b.position) _ l);
        },
    λ c. sym (by-stories a b c.keeper c.log c.position) ∙ stories-exactly.1 c.stories,
  )

module _ (roster pile : List ℕ) (p q : ℕ) where
  -- a place is a pair's first and another its second
  pub is-pair : p < q → q < receipt_count pile → is_pair roster pile p q ≡ true ↔ IsPair roster pile p q
  unfolding is_pair
  is-pair o w = (
    λ h. let k = and_right (accepted_at roster pile p) _ h in
        record {
          order = o;
          within = w;
          first = (accepted-at roster pile p).0 (and_left (accepted_at roster pile p) _ h);
          second = (accepted-at roster pile q).0 (and_left (accepted_at roster pile q) _ k);
          conflict = (conflicting-exactly _ _).0 (and_right (accepted_at roster pile q) _ k);
        },
    λ i. and_both (accepted_at roster pile p) _ ((accepted-at roster pile p).1 i.first) (and_both (accepted_at roster pile q) _ ((accepted-at roster pile q).1 i.second) ((conflicting-exactly _ _).1 i.conflict)),
  )
