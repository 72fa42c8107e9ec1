-- Demand 3 on images: along every list of requests an image answers as the model that it says, and what demand 3 says holds of answers and image.
use Prim.Native.Nat.{ℕ, ◌^◌, ◌≤◌, ◌<◌}
use mathlib.Core.Path.{◌≡◌, refl, sym, ap, ap₂, subst, ◌∙◌}
use mathlib.Core.List.{List, [], ◌∷◌, ◌++◌}
use lib.ListN.{length, get_or-map}
use lib.Dec.{lit<}
use Rattle.layout.specs.Image.{Entry, Image}
use Rattle.a2m.specs.Call.{Call, Reply, Effect, replies, works, after, Wide, AllWide}
use Rattle.survey.specs.Requests.{Request, call_of, request_step, WideRequest, AllWideRequests}
use Rattle.a2m.specs.ImageCalls.{image_step}
use Rattle.model.specs.Log.{fresh_log}
use Rattle.model.specs.Model.{rules01, rules, Model, new_model, log_at, model_step}
use Rattle.model.specs.ModelRequests.{model_request}
use Rattle.model.specs.Claim.{Turn, asking, by, model_turn, RowSays, ListClaim}
use Rattle.model.proofs.Represents.{Rep, Sound}
use Rattle.model.proofs.Reading.{entries-are}
use Rattle.model.proofs.Backed.{Backed, step_backed}
use Rattle.model.proofs.Step.{Agree, step-agrees}
use Rattle.model.proofs.Sound.{step_sound}
use Rattle.model.proofs.Turns.{WideTurn, Each, each_on, each-so, replies-asking, works-asking, after-asking, replies-on, works-on, after_on}
use Rattle.model.proofs.Along.{Keeps, after-fixed, keeps-after}
use Rattle.model.proofs.History.{model-agreeing, model-unskipped, model-remembered, model-positive}
use Rattle.model.proofs.Remembers.{model-remembers}
use Rattle.model.proofs.Apart.{model-apart}
use Rattle.model.proofs.Accepted.{Attests, attests01, attests, AttestsTurn, model-verified}
use Rattle.survey.proofs.RequestLaws.{steps-so}
use Rattle.model.proofs.Requests.{request-is}
use Rattle.model.proofs.Rising.{model-rising, model-closed}
use Rattle.model.proofs.Once.{meets-once}
use Rattle.model.proofs.Untorn.{Calm, calm01, calm, CalmTurn, model-untorn}
use Rattle.model.proofs.Fresh.{fresh_sound}

-- a request on an image that says a sound model, with the slots promised there: both answer alike and go on so
record AgreeOn (x : Effect Image) (y : Effect Model) : Type 0 where
  agree : Agree x y
  sound : Sound y.state
  backed : Backed y.state

request_agrees : (m : Image) (b : Model) → Rep m b → Sound b → Backed b → (q : Request) → AgreeOn (request_step image_step m q) (model_request rules b q)
request_agrees m b R ok k q =
    subst (AgreeOn (request_step image_step m q)) (sym (request-is rules b q))
    (steps-so image_step (model_step rules) m b q AgreeOn (λ (n : ℕ) (h : 7 ≤ n). record { agree = record { reply = refl; blocks = refl; state = R }; sound = ok; backed = k })
    (λ (w : WideRequest q → Wide (call_of q)). record { agree = step-agrees m b R ok k (call_of q); sound = step_sound rules b ok (call_of q); backed = step_backed b k (call_of q) }))

-- the answers to a list, and the states after it
pub record AgreeAll (m : Image) (b : Model) (qs : List Request) : Type 0 where
  pub answers : replies (request_step image_step) m qs ≡ replies (model_request rules) b qs
  pub blocks : works (request_step image_step) m qs ≡ works (model_request rules) b qs
  pub state : Rep (after (request_step image_step) m qs) (after (model_request rules) b qs)
  pub sound : Sound (after (model_request rules) b qs)

pub list_agrees : (m : Image) (b : Model) → Rep m b → Sound b → Backed b → (qs : List Request) → AgreeAll m b qs
unfolding replies works after
list_agrees m b R ok k [] = record { answers = refl; blocks = refl; state = R; sound = ok }
list_agrees m b R ok k (q ∷ qs) =
    let s = request_agrees m b R ok k q in
    let ih = list_agrees (request_step image_step m q).state (model_request rules b q).state s.agree.state s.sound s.backed qs in
    record {
      answers = ap₂ {C = List Reply} (λ (x : Reply) (l : List Reply). x ∷ l) s.agree.reply ih.answers;
      blocks = ap₂ {C = List ℕ} (λ (k : ℕ) (l : List ℕ). k ∷ l) s.agree.blocks ih.blocks;
      state = ih.state;
      sound = ih.sound;
    }

pub row-says : (m : Image) (b : Model) → Rep m b → (g : ℕ) → RowSays m g (log_at b.logs g)
row-says m b R g = record { low = (R.rows g).low; high = (R.rows g).high; entries = entries-are m b R g; reserve = (R.rows g).reserve }

pub new-keeps : (S keeper : ℕ) (key reserves : List ℕ) → keeper < 2 ^ 64 → Keeps (new_model S keeper key reserves)
new-keeps S keeper key reserves h = record {
  sound = fresh_sound S keeper key reserves;
  keeper = h;
  fits = λ (g : ℕ). rw (get_or-map fresh_log reserves g 0) (record { high = lit< tt; sized = λ (e : Entry) (m : ⊥). absurd m });
}

-- ---- what a list's requests and their rules must be

pub record Proper (t : Turn) : Type 0 where
  pub wide : WideTurn t
  pub calm : Calm t.rules
  pub attests : Attests t.rules

pub proper01 : (cs : List Call) → AllWide cs → Each Proper (by rules01 cs)
proper01 [] w = tt
proper01 (c ∷ cs) w = (record { wide = w.0; calm = calm01; attests = attests01 }, proper01 cs w.1)

pub proper : (qs : List Request) → AllWideRequests qs → Each Proper (asking rules qs)
proper [] w = tt
proper (q ∷ qs) w = (record { wide = w.0; calm = calm; attests = attests }, proper qs w.1)

-- requests ts by whatever rules, of the model alone; then requests qs on an image that says the model after them
pub image-claim : (b : Model) → Keeps b → length b.key ≡ 32 → length b.logs ≤ 16 → (ts : List Turn) → Each Proper ts → (m : Image) → Rep m (after model_turn b ts) → Backed (after model_turn b ts) → (qs : List Request) → AllWideRequests qs
    → ListClaim b (ts ++ asking rules qs) (replies model_turn b ts ++ replies (request_step image_step) m qs) (works model_turn b ts ++ works (request_step image_step) m qs) (after (request_step image_step) m qs)
image-claim b keeps key few ts pt m R k qs w =
    let c = after model_turn b ts in
    let us = asking rules qs in
    let P : Each Proper (ts ++ us) = each_on Proper ts us pt (proper qs w) in
    let W : Each WideTurn (ts ++ us) = each-so Proper WideTurn (λ (t : Turn) (p : Proper t). p.wide) (ts ++ us) P in
    let K : Each CalmTurn (ts ++ us) = each-so Proper CalmTurn (λ (t : Turn) (p : Proper t). p.calm) (ts ++ us) P in
    let A2 : Each AttestsTurn (ts ++ us) = each-so Proper AttestsTurn (λ (t : Turn) (p : Proper t). p.attests) (ts ++ us) P in
    let kc : Keeps c = keeps-after b keeps ts (each-so Proper WideTurn (λ (t : Turn) (p : Proper t). p.wide) ts pt) in
    let A = list_agrees m c R kc.sound k qs in
    let M = after (request_step image_step) m qs in
    let e : replies model_turn b ts ++ replies (request_step image_step) m qs ≡ replies model_turn b (ts ++ us) = ap (λ (l : List Reply). replies model_turn b ts ++ l) (A.answers ∙ sym (replies-asking rules c qs)) ∙ sym (replies-on b ts us) in
    let s : after (model_request rules) c qs ≡ after model_turn b (ts ++ us) = sym (after_on b ts us ∙ after-asking rules c qs) in
    let R1 : Rep M (after model_turn b (ts ++ us)) = subst (λ (x : Model). Rep M x) s A.state in
    let f = after-fixed b (ts ++ us) in
    let size : length M.slots ≡ b.size = R1.size ∙ f.size in
    record {
      answers = e;
      blocks = ap (λ (l : List ℕ). works model_turn b ts ++ l) (A.blocks ∙ sym (works-asking rules c qs)) ∙ sym (works-on b ts us);
      agreeing = rw e (model-agreeing b keeps (ts ++ us) W);
      unskipped = rw e (model-unskipped b keeps (ts ++ us) W);
      remembered = rw e (model-remembered b keeps (ts ++ us) W);
      apart = rw e (model-apart b keeps (ts ++ us) W A2);
      positive = rw e (model-positive b keeps (ts ++ us) W);
      verified = rw e (model-verified b keeps key few (ts ++ us) W A2);
      slots = λ (s : ℕ) (s1 : 1 ≤ s) (s_s : s ≤ b.size). meets-once M (after model_turn b (ts ++ us)) R1 (keeps-after b keeps (ts ++ us) W).sound s s1 (rw size s_s);
      rows = λ (g : ℕ) (g_g : g < length b.logs). row-says M (after model_turn b (ts ++ us)) R1 g;
      logs = R1.count ∙ f.count;
      size = size;
      untorn = rw e (model-untorn b (ts ++ us) K);
      recalled = rw e (model-remembers b keeps (ts ++ us) W);
      rising = rw e (model-rising b (ts ++ us));
      closed = rw e (model-closed b (ts ++ us));
    }
