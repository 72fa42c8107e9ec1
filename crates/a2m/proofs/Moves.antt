-- The head of one chain goes, with new content, to the end of another: what append, advance and truncate do to the slots.
use Prim.Native.Nat.{ℕ, ◌≤◌}
use mathlib.Core.Path.{◌≡◌, refl, sym, ap, ap₂, subst, ◌∙◌}
use mathlib.Core.Logic.{◌⊎◌, inl, inr, ◌≢◌}
use mathlib.Core.List.{List, [], ◌∷◌, ◌++◌}
use mathlib.Core.Bool.{Bool, true, false, cond}
use native.Mathlib.Omega.{arith}
use lib.ListN.{length}
use lib.Dec.{eqb}
use borrow.Author.Tests.{eq-eqb, ne_eqb}
use Rattle.layout.specs.Image.{Entry, Slot, entry_of, slot_at, set_slot}
use Rattle.layout.specs.Changes.{with_next}
use Rattle.table.specs.Chains.{last_of, entries_of}
use Rattle.a2m.specs.ImageCalls.{joined, first_of}
use Rattle.table.proofs.Lists.{In, in-append-apart, Snoc, nothing, ending, snoc, last_of-nil, last_of_snoc, map-append, in-last}
use Rattle.table.specs.Conditions.{Links}
use Rattle.table.proofs.Links.{slot_at-same, slot_at-other, length-set_slot, links-split, links-join, links-in, links-distinct, links-frame, entries-frame, Holds, holds_frame}

pub length-joined : (slots : List Slot) (t last : ℕ) (x : Slot) → length (joined slots t last x) ≡ length slots
unfolding joined
length-joined slots t last x = go (eqb last 0)
  where
    go : (b : Bool) → length (cond b (set_slot slots t x) (set_slot (set_slot slots t x) last (with_next (slot_at slots last) t))) ≡ length slots
    go true = length-set_slot slots t x
    go false = length-set_slot (set_slot slots t x) last (with_next (slot_at slots last) t) ∙ length-set_slot slots t x

module _ (slots : List Slot) (t last : ℕ) (x : Slot) (t1 : 1 ≤ t) (t_s : t ≤ length slots) (l_s : last ≤ length slots) (apart : last ≢ t) where
  pub joined_at_lem : slot_at (joined slots t last x) t ≡ x
  unfolding joined
  joined_at_lem = go (eqb last 0)
    where
      go : (b : Bool) → slot_at (cond b (set_slot slots t x) (set_slot (set_slot slots t x) last (with_next (slot_at slots last) t))) t ≡ x
      go true = slot_at-same slots t x t1 t_s
      go false = slot_at-other (set_slot slots t x) t last (with_next (slot_at slots last) t) (λ (q : t ≡ last). apart (sym q)) ∙ slot_at-same slots t x t1 t_s

  pub joined-last : 1 ≤ last → slot_at (joined slots t last x) last ≡ with_next (slot_at slots last) t
  unfolding joined
  joined-last l1 =
      let n : eqb last 0 ≡ false = ne_eqb last 0 (λ (z : last ≡ 0). omega arith) in
      rw (n, joined) (slot_at-same (set_slot slots t x) last (with_next (slot_at slots last) t) l1 (rw (length-set_slot slots t x) l_s))

  pub joined-other : (s : ℕ) → s ≢ t → s ≢ last → slot_at (joined slots t last x) s ≡ slot_at slots s
  unfolding joined
  joined-other s nt nl = go (eqb last 0)
    where
      go : (b : Bool) → slot_at (cond b (set_slot slots t x) (set_slot (set_slot slots t x) last (with_next (slot_at slots last) t))) s ≡ slot_at slots s
      go true = slot_at-other slots s t x nt
      go false = slot_at-other (set_slot slots t x) s last (with_next (slot_at slots last) t) nl ∙ slot_at-other slots s t x nt

-- the head t of a chain of owner a goes, with a new content, to the end of a chain of owner b
pub record Move (slots : List Slot) (a b t : ℕ) (A : List ℕ) (s : ℕ) (B : List ℕ) (last : ℕ) (x : Slot) : Type 0 where
  pub from : Links slots a t (t ∷ A) 0
  pub to : Links slots b s B 0
  pub apart : a ≢ b
  pub end : last ≡ last_of B
  pub owner : x.owner ≡ b
  pub stops : x.next ≡ 0

module _ (slots : List Slot) (a b t : ℕ) (A : List ℕ) (s : ℕ) (B : List ℕ) (last : ℕ) (x : Slot) (M : Move slots a b t A s B last x) where
  -- the slot that the new one is hooked behind is none, or of the chain's owner
  behind : (last ≡ 0) ⊎ ((last ≤ length slots) × ((slot_at slots last).owner ≡ b))
  behind = go (in-last B)
    where
      go : (last_of B ≡ 0) ⊎ In (last_of B) B → (last ≡ 0) ⊎ ((last ≤ length slots) × ((slot_at slots last).owner ≡ b))
      go (inl e) = inl (M.end ∙ e)
      go (inr m) =
          let r = links-in slots b s B 0 (last_of B) M.to m in
          inr (rw M.end r.1, rw M.end r.2)

  pub reach : last ≤ length slots
  reach = go behind
    where
      go : (last ≡ 0) ⊎ ((last ≤ length slots) × ((slot_at slots last).owner ≡ b)) → last ≤ length slots
      go (inl e) = omega arith
      go (inr h) = h.0

  -- a slot of another owner is not that one
  not_behind : (u o : ℕ) → 1 ≤ u → (slot_at slots u).owner ≡ o → o ≢ b → u ≢ last
  not_behind u o u1 own n e = go behind
    where
      go : (last ≡ 0) ⊎ ((last ≤ length slots) × ((slot_at slots last).owner ≡ b)) → ⊥
      go (inl z) = omega arith
      go (inr h) = n (sym own ∙ ap (λ (y : ℕ). (slot_at slots y).owner) e ∙ h.1)

  pub hook-apart : last ≢ t
  hook-apart e = not_behind t a M.from.1 M.from.3 M.apart (sym e)

  unmoved : (u : ℕ) → u ≢ t → u ≢ last → slot_at (joined slots t last x) u ≡ slot_at slots u
  unmoved = joined-other slots t last x M.from.1 M.from.2 reach hook-apart

  -- a chain of a third owner
  pub move-other : (o f : ℕ) (C : List ℕ) (es : List Entry) → o ≢ a → o ≢ b → Holds slots o f C es → Holds (joined slots t last x) o f C es
  move-other o f C es oa ob h = holds_frame slots (joined slots t last x) o f C es (length-joined slots t last x) same h
    where
      same : (u : ℕ) → In u C → slot_at (joined slots t last x) u ≡ slot_at slots u
      same u m =
          let r = links-in slots o f C 0 u h.links m in
          unmoved u (λ (e : u ≡ t). oa (sym r.2 ∙ ap (λ (y : ℕ). (slot_at slots y).owner) e ∙ M.from.3)) (not_behind u o r.0 r.2 ob)

  -- the chain that lost its head
  pub move-from : (es : List Entry) → entries_of slots A ≡ es → Holds (joined slots t last x) a (slot_at slots t).next A es
  move-from es h = holds_frame slots (joined slots t last x) a (slot_at slots t).next A es (length-joined slots t last x) same (record { links = M.from.4; held = h })
    where
      same : (u : ℕ) → In u A → slot_at (joined slots t last x) u ≡ slot_at slots u
      same u m =
          let r = links-in slots a (slot_at slots t).next A 0 u M.from.4 m in
          unmoved u (λ (e : u ≡ t). (links-distinct slots a t (t ∷ A) M.from).0 (rw e at m)) (not_behind u a r.0 r.2 M.apart)

  after-t : Links (joined slots t last x) b t (t ∷ []) 0
  after-t =
      let q : slot_at (joined slots t last x) t ≡ x = joined_at_lem slots t last x M.from.1 M.from.2 reach hook-apart in
      (refl, M.from.1, rw (length-joined slots t last x) M.from.2, rw q M.owner, rw q M.stops)

  entries-snoc : (es : List Entry) → entries_of (joined slots t last x) B ≡ es → entries_of (joined slots t last x) (B ++ (t ∷ [])) ≡ es ++ (entry_of x ∷ [])
  entries-snoc es h =
      let q : slot_at (joined slots t last x) t ≡ x = joined_at_lem slots t last x M.from.1 M.from.2 reach hook-apart in
      map-append (λ (u : ℕ). entry_of (slot_at (joined slots t last x) u)) B (t ∷ []) ∙ ap₂ (λ (es : List Entry) (y : Slot). es ++ (entry_of y ∷ [])) h q

  -- the chain that got a new last slot
  pub move-to : (es : List Entry) → entries_of slots B ≡ es → Holds (joined slots t last x) b (first_of last s t) (B ++ (t ∷ [])) (es ++ (entry_of x ∷ []))
  move-to es h = go B (snoc B) refl
    where
      go : (C : List ℕ) → Snoc C → C ≡ B → Holds (joined slots t last x) b (first_of last s t) (B ++ (t ∷ [])) (es ++ (entry_of x ∷ []))
      go C nothing q =
          let l0 : last ≡ 0 = M.end ∙ ap last_of (sym q) ∙ last_of-nil in
          let e0 : entries_of (joined slots t last x) B ≡ es = ap (entries_of (joined slots t last x)) (sym q) ∙ ap (entries_of slots) q ∙ h in
          record { links = rw (eq-eqb last 0 l0, ← q) after-t; held = entries-snoc es e0 }
      go C (ending c z) q =
          let lz : last ≡ z = M.end ∙ ap last_of (sym q) ∙ last_of_snoc c z in
          let to : Links slots b s (c ++ (z ∷ [])) 0 = rw q M.to in
          let p = links-split slots b s c (z ∷ []) 0 to in
          let z1 : 1 ≤ z = p.2.1 in
          let l1 : 1 ≤ last = omega arith in
          let at-z : slot_at (joined slots t last x) z ≡ with_next (slot_at slots z) t = subst (λ (y : ℕ). slot_at (joined slots t last x) y ≡ with_next (slot_at slots y) t) lz (joined-last slots t last x M.from.1 M.from.2 reach hook-apart l1) in
          let same : (u : ℕ) → In u c → slot_at (joined slots t last x) u ≡ slot_at slots u =
          λ (u : ℕ) (m : In u c).
          let r = links-in slots b s c p.0 u p.1 m in
          unmoved u
          (λ (e : u ≡ t). M.apart (sym M.from.3 ∙ ap (λ (y : ℕ). (slot_at slots y).owner) (sym e) ∙ r.2))
          (λ (e : u ≡ last). in-append-apart u c (z ∷ []) (links-distinct slots b s (c ++ (z ∷ [])) to) m (inl (e ∙ lz))) in
          let begin : Links (joined slots t last x) b s c p.0 = links-frame slots (joined slots t last x) b s c p.0 (length-joined slots t last x) same p.1 in
          let next : Links (joined slots t last x) b p.0 (z ∷ []) t = (p.2.0, z1, rw (length-joined slots t last x) p.2.2, rw at-z p.2.3, rw at-z refl) in
          let all : Links (joined slots t last x) b s (c ++ (z ∷ [])) t = links-join (joined slots t last x) b s c (z ∷ []) p.0 t begin next in
          let e0 : entries_of (joined slots t last x) (c ++ (z ∷ [])) ≡ entries_of slots (c ++ (z ∷ [])) =
          map-append (λ (u : ℕ). entry_of (slot_at (joined slots t last x) u)) c (z ∷ [])
          ∙ ap₂ (λ (es : List Entry) (y : Slot). es ++ (entry_of y ∷ [])) (entries-frame slots (joined slots t last x) c same) at-z
          ∙ sym (map-append (λ (u : ℕ). entry_of (slot_at slots u)) c (z ∷ [])) in
          record {
            links = rw (ne_eqb last 0 (λ (e : last ≡ 0). omega arith)) (links-join (joined slots t last x) b s B (t ∷ []) t 0 (rw q at all) after-t);
            held = entries-snoc es (rw q at e0 ∙ h);
          }
