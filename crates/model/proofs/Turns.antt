-- Lists of turns: all by one set of rules, and two lists on end; and one turn, by what its request makes.
use Prim.Native.Nat.{ℕ, zero, suc, ◌≤◌}
use mathlib.Core.Path.{◌≡◌, refl, ap, subst}
use mathlib.Core.List.{List, [], ◌∷◌, ◌++◌, map}
use mathlib.Core.Option.{some, none-ne-some, some-injective}
use lib.ListN.{get_elem?}
use Rattle.a2m.specs.Call.{Call, Wide, Reply, refused, Effect, effect, replies, works, after}
use Rattle.survey.specs.Requests.{Request, call_of, WideRequest}
use Rattle.model.specs.Model.{Rules, Model, model_step}
use Rattle.model.specs.ModelRequests.{model_request}
use Rattle.model.specs.Claim.{Turn, asks, under, asking, by, model_turn}
use Rattle.model.proofs.Requests.{request-so}

-- ---- a list of items, each of them another's name

pub replies-map : {S C D : Type 0} (step : S → D → Effect S) (f : C → D) (s : S) (cs : List C) → replies step s (map f cs) ≡ replies (λ (t : S) (c : C). step t (f c)) s cs
unfolding replies
replies-map step f s [] = refl
replies-map step f s (c ∷ cs) = ap {B = List Reply} (λ (l : List Reply). (step s (f c)).reply ∷ l) (replies-map step f (step s (f c)).state cs)

pub works-map : {S C D : Type 0} (step : S → D → Effect S) (f : C → D) (s : S) (cs : List C) → works step s (map f cs) ≡ works (λ (t : S) (c : C). step t (f c)) s cs
unfolding works
works-map step f s [] = refl
works-map step f s (c ∷ cs) = ap {B = List ℕ} (λ (l : List ℕ). (step s (f c)).blocks ∷ l) (works-map step f (step s (f c)).state cs)

pub after_map : {S C D : Type 0} (step : S → D → Effect S) (f : C → D) (s : S) (cs : List C) → after step s (map f cs) ≡ after (λ (t : S) (c : C). step t (f c)) s cs
unfolding after
after_map step f s [] = refl
after_map step f s (c ∷ cs) = after_map step f (step s (f c)).state cs

-- all by one set of rules: calls, and requests
pub replies-by : (ru : Rules) (b : Model) (cs : List Call) → replies model_turn b (by ru cs) ≡ replies (model_step ru) b cs
replies-by ru b cs = replies-map model_turn (under ru) b cs

pub after-by : (ru : Rules) (b : Model) (cs : List Call) → after model_turn b (by ru cs) ≡ after (model_step ru) b cs
after-by ru b cs = after_map model_turn (under ru) b cs

pub replies-asking : (ru : Rules) (b : Model) (qs : List Request) → replies model_turn b (asking ru qs) ≡ replies (model_request ru) b qs
replies-asking ru b qs = replies-map model_turn (asks ru) b qs

pub works-asking : (ru : Rules) (b : Model) (qs : List Request) → works model_turn b (asking ru qs) ≡ works (model_request ru) b qs
works-asking ru b qs = works-map model_turn (asks ru) b qs

pub after-asking : (ru : Rules) (b : Model) (qs : List Request) → after model_turn b (asking ru qs) ≡ after (model_request ru) b qs
after-asking ru b qs = after_map model_turn (asks ru) b qs

pub replies-on : (b : Model) (ts us : List Turn) → replies model_turn b (ts ++ us) ≡ replies model_turn b ts ++ replies model_turn (after model_turn b ts) us
unfolding replies after
replies-on b [] us = refl
replies-on b (t ∷ ts) us = ap {B = List Reply} (λ (l : List Reply). (model_turn b t).reply ∷ l) (replies-on (model_turn b t).state ts us)

pub works-on : (b : Model) (ts us : List Turn) → works model_turn b (ts ++ us) ≡ works model_turn b ts ++ works model_turn (after model_turn b ts) us
unfolding works after
works-on b [] us = refl
works-on b (t ∷ ts) us = ap {B = List ℕ} (λ (l : List ℕ). (model_turn b t).blocks ∷ l) (works-on (model_turn b t).state ts us)

pub after_on : (b : Model) (ts us : List Turn) → after model_turn b (ts ++ us) ≡ after model_turn (after model_turn b ts) us
unfolding after
after_on b [] us = refl
after_on b (t ∷ ts) us = after_on (model_turn b t).state ts us

-- ---- one turn

-- what holds where the request is turned away, with 7 or more, and where it makes its call, holds of the turn
pub turn-so : (b : Model) (t : Turn) (P : Effect Model → Type 0)
    → ((k : ℕ) → 7 ≤ k → P (effect (refused k) 0 b)) → ((c : Call) → (WideRequest t.request → Wide c) → P (model_step t.rules b c)) → P (model_turn b t)
turn-so b t P a m = request-so t.rules b t.request P a (m (call_of t.request))

-- ---- what each turn of a list has

abbrev pub WideTurn : Turn → Type 0
WideTurn t = WideRequest t.request

abbrev pub Each : (Turn → Type 0) → List Turn → Type 0
Each P [] = Unit {0}
Each P (t ∷ ts) = P t × Each P ts

pub each_at : (P : Turn → Type 0) (ts : List Turn) → Each P ts → (j : ℕ) (t : Turn) → get_elem? ts j ≡ some t → P t
each_at P [] e j t h = absurd (none-ne-some t h)
each_at P (x ∷ ts) e zero t h = subst P (some-injective x t h) e.0
each_at P (x ∷ ts) e (suc j) t h = each_at P ts e.1 j t h

pub each_on : (P : Turn → Type 0) (ts us : List Turn) → Each P ts → Each P us → Each P (ts ++ us)
each_on P [] us e f = f
each_on P (t ∷ ts) us e f = (e.0, each_on P ts us e.1 f)

pub each-so : (P Q : Turn → Type 0) → ((t : Turn) → P t → Q t) → (ts : List Turn) → Each P ts → Each Q ts
each-so P Q f [] e = tt
each-so P Q f (t ∷ ts) e = (f t e.0, each-so P Q f ts e.1)
