-- A request is turned away by its arguments alone, or is the call that it makes; so is a list of them, for any step of calls.
use Prim.Native.Nat.{ℕ, ◌^◌, ◌≤◌, ◌<◌}
use native.Mathlib.Omega.{arith}
use mathlib.Core.Path.{◌≡◌, refl, sym, ap, subst, ◌∙◌}
use mathlib.Core.Logic.{◌⊎◌, inl, inr}
use mathlib.Core.Bool.{Bool, true, false}
use mathlib.Core.List.{List, [], ◌∷◌, map}
use mathlib.Core.Option.{Option, none, some, none-ne-some, some-ne-none, some-injective}
use Rattle.octets.specs.Octets.{zeros}
use Rattle.refusal.specs.Order.{fault, first_fault}
use Rattle.refusal.proofs.OrderLaws.{peel}
use Rattle.a2m.specs.Call.{Call, advance, lookup, Wide, AllWide, refused, Effect, effect, replies, works, after}
use Rattle.a2m.specs.ImageCalls.{wrong_length}
use Rattle.survey.specs.Packing.{packed, too_wide, last_reading}
use Rattle.survey.specs.Requests.{Request, plain, advances, looks, closes, call_of, turned_away, early, made_of, made, woven, request_step, WideRequest, AllWideRequests}
use Rattle.survey.proofs.PackingLaws.{fits}

-- ---- one request

module _ (c : Call) (w : Bool) where
  pub away-length : wrong_length c ≡ true → turned_away c w ≡ some 7
  unfolding turned_away first_fault
  away-length h = rw h

  pub away-wide : wrong_length c ≡ false → w ≡ true → turned_away c w ≡ some 18
  unfolding turned_away first_fault
  away-wide h k = rw (h, k)

  pub stays : wrong_length c ≡ false → w ≡ false → turned_away c w ≡ none
  unfolding turned_away first_fault
  stays h k = rw (h, k)

  pub not-away : turned_away c w ≡ none → (wrong_length c ≡ false) × (w ≡ false)
  unfolding turned_away
  not-away h = let p = peel 7 (wrong_length c) (fault 18 w ∷ []) h in (p.0, (peel 18 w [] p.1).0)

  pub only : (k : ℕ) → turned_away c w ≡ some k → (k ≡ 7) ⊎ (k ≡ 18)
  unfolding turned_away first_fault
  only k h = go (wrong_length c) w refl refl
    where
      go : (t u : Bool) → wrong_length c ≡ t → w ≡ u → (k ≡ 7) ⊎ (k ≡ 18)
      go true u e f = inl (some-injective k 7 (sym h ∙ away-length e))
      go false true e f = inr (some-injective k 18 (sym h ∙ away-wide e f))
      go false false e f = absurd (none-ne-some k (sym (stays e f) ∙ h))

-- 7 or 18, and no other number
pub early-only : (q : Request) (k : ℕ) → early q ≡ some k → (k ≡ 7) ⊎ (k ≡ 18)
unfolding early
early-only (plain c) k h = absurd (none-ne-some k h)
early-only (advances g s r d x) k h = only (advance g (packed s r) d x) (too_wide s r) k h
early-only (looks g s r c l) k h = only (lookup g (packed s r) c l) (too_wide s r) k h
early-only (closes g s x) k h = only (advance g (packed s last_reading) (zeros 32) x) (too_wide s last_reading) k h

module _ {S : Type 0} (step : S → Call → Effect S) (s : S) (q : Request) where
  pub passed-step : early q ≡ none → request_step step s q ≡ step s (call_of q)
  unfolding request_step
  passed-step h = rw (request_step, h)

  pub away-step : (k : ℕ) → early q ≡ some k → request_step step s q ≡ effect (refused k) 0 s
  unfolding request_step
  away-step k h = rw (request_step, h)

pub plain_step : {S : Type 0} (step : S → Call → Effect S) (s : S) (c : Call) → request_step step s (plain c) ≡ step s c
unfolding request_step early
plain_step step s c = refl

-- a close is an advance by survey and reading, to the survey's last reading
pub close-step : {S : Type 0} (step : S → Call → Effect S) (s : S) (g n : ℕ) (x : List ℕ) → request_step step s (closes g n x) ≡ request_step step s (advances g n last_reading (zeros 32) x)
unfolding request_step early
close-step step s g n x = refl

module _ (q : Request) where
  pub is_made : early q ≡ none → made_of q ≡ some (call_of q)
  unfolding made_of
  is_made h = rw (made_of, h)

  pub not_made : (k : ℕ) → early q ≡ some k → made_of q ≡ none
  unfolding made_of
  not_made k h = rw (made_of, h)

-- the position of a call that is made has 64 bits
stays-fits : (c : Call) (s r : ℕ) → turned_away c (too_wide s r) ≡ none → packed s r < 2 ^ 64
stays-fits c s r h = fits s r (not-away c (too_wide s r) h).1

stays_wide : (q : Request) → WideRequest q → early q ≡ none → Wide (call_of q)
unfolding early
stays_wide (plain c) w h = w
stays_wide (advances g s r d x) w h = stays-fits (advance g (packed s r) d x) s r h
stays_wide (looks g s r c l) w h = stays-fits (lookup g (packed s r) c l) s r h
stays_wide (closes g s x) w h = stays-fits (advance g (packed s last_reading) (zeros 32) x) s last_reading h

-- so a request is turned away, or makes a call whose position has its 64 bits
pub data Early (q : Request) : Type 0 where
  away : (k : ℕ) → 7 ≤ k → early q ≡ some k → Early q
  made-call : early q ≡ none → (WideRequest q → Wide (call_of q)) → Early q

pub early-of : (q : Request) → Early q
early-of q = go (early q) refl
  where
    seven : (k : ℕ) → (k ≡ 7) ⊎ (k ≡ 18) → 7 ≤ k
    seven k (inl e) = omega arith
    seven k (inr e) = omega arith

    go : (o : Option ℕ) → early q ≡ o → Early q
    go none e = made-call e (λ w. stays_wide q w e)
    go (some k) e = away k (seven k (early-only q k e)) e

-- what holds of two steps where a request is turned away, and where it makes its call, holds of the request
pub steps-so : {S T : Type 0} (f : S → Call → Effect S) (g : T → Call → Effect T) (s : S) (t : T) (q : Request) (P : Effect S → Effect T → Type 0)
    → ((k : ℕ) → 7 ≤ k → P (effect (refused k) 0 s) (effect (refused k) 0 t)) → ((WideRequest q → Wide (call_of q)) → P (f s (call_of q)) (g t (call_of q))) → P (request_step f s q) (request_step g t q)
unfolding request_step
steps-so f g s t q P a m = go (early-of q)
  where
    go : Early q → P (request_step f s q) (request_step g t q)
    go (away k h e) = rw (request_step, e) (a k h)
    go (made-call e w) = rw (request_step, e) (m w)

pub step_so : {S : Type 0} (f : S → Call → Effect S) (s : S) (q : Request) (P : Effect S → Type 0)
    → ((k : ℕ) → 7 ≤ k → P (effect (refused k) 0 s)) → ((WideRequest q → Wide (call_of q)) → P (f s (call_of q))) → P (request_step f s q)
step_so f s q P a m = steps-so f f s s q (λ (x y : Effect _). P x) a m

-- ---- the call that it makes

record Made (q : Request) (c : Call) : Type 0 where
  passes : early q ≡ none
  call : call_of q ≡ c

made-of : (q : Request) (c : Call) → made_of q ≡ some c → Made q c
made-of q c h = go (early q) refl
  where
    go : (o : Option ℕ) → early q ≡ o → Made q c
    go none e = record { passes = e; call = some-injective (call_of q) c (sym (is_made q e) ∙ h) }
    go (some k) e = absurd (none-ne-some c (sym (not_made q k e) ∙ h))

pub made-step : {S : Type 0} (step : S → Call → Effect S) (s : S) (q : Request) (c : Call) → made_of q ≡ some c → request_step step s q ≡ step s c
made-step step s q c h = let m = made-of q c h in passed-step step s q m.passes ∙ ap (step s) m.call

pub made_wide : (q : Request) (c : Call) → made_of q ≡ some c → WideRequest q → Wide c
made_wide q c h w = let m = made-of q c h in subst Wide m.call (stays_wide q w m.passes)

-- one turned away leaves all as it was
pub unmade-state : {S : Type 0} (step : S → Call → Effect S) (s : S) (q : Request) → made_of q ≡ none → (request_step step s q).state ≡ s
unmade-state step s q h = go (early q) refl
  where
    go : (o : Option ℕ) → early q ≡ o → (request_step step s q).state ≡ s
    go none e = absurd (some-ne-none (call_of q) (sym (is_made q e) ∙ h))
    go (some k) e = ap (λ (f : Effect _). f.state) (away-step step s q k e)

-- ---- lists of them

pub all-made_wide : (qs : List Request) → AllWideRequests qs → AllWide (made qs)
unfolding made
all-made_wide [] w = tt
all-made_wide (q ∷ qs) w = go (made_of q) refl (all-made_wide qs w.1)
  where
    go : (o : Option Call) → made_of q ≡ o → AllWide (made qs) → AllWide (elim o [ none ↦ made qs | some c ↦ c ∷ made qs ])
    go none e ih = ih
    go (some c) e ih = (made_wide q c e w.0, ih)

module _ (q : Request) (qs : List Request) where
  made-first : early q ≡ none → made (q ∷ qs) ≡ call_of q ∷ made qs
  unfolding made
  made-first h = rw (made, is_made q h)

  made-rest : (k : ℕ) → early q ≡ some k → made (q ∷ qs) ≡ made qs
  unfolding made
  made-rest k h = rw (made, not_made q k h)

  module _ {A : Type 0} (away : ℕ → A) where
    woven-first : (a : A) (rest : List A) → early q ≡ none → woven away (q ∷ qs) (a ∷ rest) ≡ a ∷ woven away qs rest
    unfolding woven
    woven-first a rest h = rw (woven, h)

    woven-rest : (k : ℕ) (rest : List A) → early q ≡ some k → woven away (q ∷ qs) rest ≡ away k ∷ woven away qs rest
    unfolding woven
    woven-rest k rest h = rw (woven, h)

pub made_plain : (cs : List Call) → made (map plain cs) ≡ cs
unfolding made made_of early
made_plain [] = refl
made_plain (c ∷ cs) = ap {B = List _} (λ l. c ∷ l) (made_plain cs)

module _ {S : Type 0} (step : S → Call → Effect S) where
  pub requests-after : (s : S) (qs : List Request) → after (request_step step) s qs ≡ after step s (made qs)
  unfolding after made
  requests-after s [] = refl
  requests-after s (q ∷ qs) = go (early q) refl (requests-after (request_step step s q).state qs)
    where
      go : (o : Option ℕ) → early q ≡ o → after (request_step step) (request_step step s q).state qs ≡ after step (request_step step s q).state (made qs)
          → after (request_step step) (request_step step s q).state qs ≡ after step s (made (q ∷ qs))
      go none e ih = ih ∙ ap (λ (f : Effect S). after step f.state (made qs)) (passed-step step s q e) ∙ sym (ap (after step s) (made-first q qs e))
      go (some k) e ih = ih ∙ ap (λ (f : Effect S). after step f.state (made qs)) (away-step step s q k e) ∙ sym (ap (after step s) (made-rest q qs k e))

-- what a list shows, by a reading of each effect: its replies, or its blocks
seen : {C S A : Type 0} → (Effect S → A) → (S → C → Effect S) → S → List C → List A
seen see step s [] = []
seen see step s (c ∷ cs) = see (step s c) ∷ seen see step (step s c).state cs

module _ {C S : Type 0} (step : S → C → Effect S) where
  seen-replies : (s : S) (cs : List C) → replies step s cs ≡ seen (λ (f : Effect S). f.reply) step s cs
  unfolding replies seen
  seen-replies s [] = refl
  seen-replies s (c ∷ cs) = ap {B = List _} (λ l. (step s c).reply ∷ l) (seen-replies (step s c).state cs)

  seen-works : (s : S) (cs : List C) → works step s cs ≡ seen (λ (f : Effect S). f.blocks) step s cs
  unfolding works seen
  seen-works s [] = refl
  seen-works s (c ∷ cs) = ap {B = List _} (λ l. (step s c).blocks ∷ l) (seen-works (step s c).state cs)

module _ {S A : Type 0} (step : S → Call → Effect S) (see : Effect S → A) (away : ℕ → A) (agree : (k : ℕ) (s : S) → see (effect (refused k) 0 s) ≡ away k) where
  requests-seen : (s : S) (qs : List Request) → seen see (request_step step) s qs ≡ woven away qs (seen see step s (made qs))
  unfolding seen woven
  requests-seen s [] = refl
  requests-seen s (q ∷ qs) = go (early q) refl (requests-seen (request_step step s q).state qs)
    where
      go : (o : Option ℕ) → early q ≡ o → seen see (request_step step) (request_step step s q).state qs ≡ woven away qs (seen see step (request_step step s q).state (made qs))
          → see (request_step step s q) ∷ seen see (request_step step) (request_step step s q).state qs ≡ woven away (q ∷ qs) (seen see step s (made (q ∷ qs)))
      go none e ih =
          ap {B = List _} (λ l. see (request_step step s q) ∷ l) ih
          ∙ ap (λ (f : Effect S). see f ∷ woven away qs (seen see step f.state (made qs))) (passed-step step s q e)
          ∙ sym (woven-first q qs away (see (step s (call_of q))) (seen see step (step s (call_of q)).state (made qs)) e)
          ∙ sym (ap (λ (l : List Call). woven away (q ∷ qs) (seen see step s l)) (made-first q qs e))
      go (some k) e ih =
          ap {B = List _} (λ l. see (request_step step s q) ∷ l) ih
          ∙ ap (λ (f : Effect S). see f ∷ woven away qs (seen see step f.state (made qs))) (away-step step s q k e)
          ∙ ap {B = List _} (λ a. a ∷ woven away qs (seen see step s (made qs))) (agree k s)
          ∙ sym (woven-rest q qs away k (seen see step s (made qs)) e)
          ∙ sym (ap (λ (l : List Call). woven away (q ∷ qs) (seen see step s l)) (made-rest q qs k e))

module _ {S : Type 0} (step : S → Call → Effect S) (s : S) (qs : List Request) where
  pub requests-replies : replies (request_step step) s qs ≡ woven refused qs (replies step s (made qs))
  requests-replies =
      seen-replies (request_step step) s qs ∙ requests-seen step (λ (f : Effect S). f.reply) refused (λ (k : ℕ) (z : S). refl) s qs ∙ sym (ap (woven refused qs) (seen-replies step s (made qs)))

  -- a request that is turned away hashed nothing
  pub requests-works : works (request_step step) s qs ≡ woven (λ (k : ℕ). 0) qs (works step s (made qs))
  requests-works =
      seen-works (request_step step) s qs ∙ requests-seen step (λ (f : Effect S). f.blocks) (λ (k : ℕ). 0) (λ (k : ℕ) (z : S). refl) s qs ∙ sym (ap (woven (λ (k : ℕ). 0) qs) (seen-works step s (made qs)))
