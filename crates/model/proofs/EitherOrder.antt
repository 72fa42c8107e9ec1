-- Request [14], "Two logs, either order", of any bytes: that they are a whole table follows from what is accepted. A whole table answers every list as the
-- model that it says, and there the two requests commute.
use Prim.Native.Nat.{ℕ, ◌^◌, ◌<◌}
use mathlib.Core.Path.{◌≡◌, refl, sym, ap, subst, ◌∙◌}
use mathlib.Core.List.{List, [], ◌∷◌, map}
use mathlib.Core.Bool.{true}
use mathlib.Core.Option.{Option, none, some}
use lib.ListN.{get_or, drop}
use borrow.Author.Tests.{not-false}
use Rattle.octets.specs.Octets.{Bytes}
use Rattle.layout.specs.Layout.{read_table}
use Rattle.table.specs.Whole.{whole}
use Rattle.table.proofs.WholeLaws.{write_read}
use Rattle.a2m.specs.Call.{Call, lookup, end, log_of, Wide, AllWide, Reply, refused, Effect, replies, works}
use Rattle.a2m.specs.TableCalls.{table_refusal, table_step}
use Rattle.a2m.proofs.Clear.{clear}
use Rattle.survey.specs.Requests.{Request, plain, call_of, early, request_step, WideRequest, AllWideRequests}
use Rattle.survey.proofs.RequestLaws.{passed-step}
use Rattle.model.specs.Model.{rules, Model}
use Rattle.model.specs.ModelRequests.{model_request}
use Rattle.model.specs.ModelOf.{model_of}
use Rattle.model.specs.Program.{program_step}
use Rattle.model.specs.EitherOrder.{log_asked, Accepted, BothAccepted, EitherOrder, SameReceipts}
use Rattle.model.proofs.Turns.{replies-map, works-map, replies-asking, works-asking}
use Rattle.model.proofs.OfTable.{stands, whole-list}
use Rattle.model.proofs.Program.{SameList, same-list}
use Rattle.model.proofs.Commutes.{accepted-made, commutes}

-- ---- a step that answers every list as a model does

module _ (step : List ℕ → Request → Effect (List ℕ)) (b : List ℕ) (m : Model) (answers : (qs : List Request) → AllWideRequests qs → replies step b qs ≡ replies (model_request rules) m qs) (blocks : (qs : List Request) → AllWideRequests qs → works step b qs ≡ works (model_request rules) m qs) where
  pub as_model : (q p : Request) → WideRequest q → WideRequest p → BothAccepted step log_asked b q p → EitherOrder step AllWideRequests b q p
  unfolding replies works
  as_model q p wq wp a =
      let qp = answers (q ∷ p ∷ []) (wq, (wp, tt)) in
      let pq = answers (p ∷ q ∷ []) (wp, (wq, tt)) in
      let kqp = blocks (q ∷ p ∷ []) (wq, (wp, tt)) in
      let kpq = blocks (p ∷ q ∷ []) (wp, (wq, tt)) in
      let at : ℕ → List Reply → Reply = λ (i : ℕ) (l : List Reply). get_or l i (refused 0) in
      let of : ℕ → List ℕ → ℕ = λ (i : ℕ) (l : List ℕ). get_or l i 0 in
      let C = commutes m q p (record {
        apart = a.apart;
        first = subst Accepted (ap (at 0) qp) a.first;
        then = subst Accepted (ap (at 1) qp) a.then;
        other = subst Accepted (ap (at 0) pq) a.other;
        thence = subst Accepted (ap (at 1) pq) a.thence;
      }) in
      record {
        one = ap (at 0) qp ∙ C.one ∙ sym (ap (at 1) pq);
        one_work = ap (of 0) kqp ∙ C.one_work ∙ sym (ap (of 1) kpq);
        two = ap (at 0) pq ∙ C.two ∙ sym (ap (at 1) qp);
        two_work = ap (of 0) kpq ∙ C.two_work ∙ sym (ap (of 1) kqp);
        later = λ (qs : List Request) (w : AllWideRequests qs).
            ap (drop 2) (answers (q ∷ p ∷ qs) (wq, (wp, w))) ∙ ap (λ (x : Model). replies (model_request rules) x qs) C.state ∙ sym (ap (drop 2) (answers (p ∷ q ∷ qs) (wp, (wq, w))));
        later_work = λ (qs : List Request) (w : AllWideRequests qs).
            ap (drop 2) (blocks (q ∷ p ∷ qs) (wq, (wp, w))) ∙ ap (λ (x : Model). works (model_request rules) x qs) C.state ∙ sym (ap (drop 2) (blocks (p ∷ q ∷ qs) (wp, (wq, w))));
      }

-- ---- bytes

-- an accepted call met a whole table, an accepted request too
accepted-whole : (b : List ℕ) (c : Call) → Accepted (table_step b c).reply → whole b ≡ true
unfolding table_step table_refusal
accepted-whole b c a = go (table_refusal b c) refl
  where
    go : (r : Option ℕ) → table_refusal b c ≡ r → whole b ≡ true
    go (some k) e = absurd (a k (rw (table_step, e)))
    go none e = not-false (whole b) (clear _ (read_table b) c e).whole

request-whole : (b : List ℕ) (q : Request) → Accepted (request_step table_step b q).reply → whole b ≡ true
request-whole b q a = accepted-whole b (call_of q) (subst (λ (o : Effect (List ℕ)). Accepted o.reply) (passed-step table_step b q (accepted-made table_step b q a)) a)

program-whole : (b : List ℕ) (q : Request) → Accepted (request_step program_step b q).reply → whole b ≡ true
unfolding program_step
program-whole b q a = accepted-whole b (call_of q) (subst (λ (o : Effect (List ℕ)). Accepted o.reply) (passed-step program_step b q (accepted-made program_step b q a)) a)

module _ (b : List ℕ) (h : Bytes b) where
  abbrev M : Model
  M = model_of (read_table b)

  table-answers : whole b ≡ true → (qs : List Request) → AllWideRequests qs → replies (request_step table_step) b qs ≡ replies (model_request rules) M qs
  table-answers w qs wide = (whole-list b h w qs wide).answers ∙ replies-asking rules M qs

  table-blocks : whole b ≡ true → (qs : List Request) → AllWideRequests qs → works (request_step table_step) b qs ≡ works (model_request rules) M qs
  table-blocks w qs wide = (whole-list b h w qs wide).blocks ∙ works-asking rules M qs

  -- request [14]: two requests, be they among the five calls or by survey and reading
  pub either_order : (q p : Request) → WideRequest q → WideRequest p → BothAccepted (request_step table_step) log_asked b q p → EitherOrder (request_step table_step) AllWideRequests b q p
  either_order q p wq wp a =
      let w = request-whole b q a.first in
      as_model (request_step table_step) b M (table-answers w) (table-blocks w) q p wq wp a

  -- the five calls
  pub calls-either-order : (c d : Call) → Wide c → Wide d → BothAccepted table_step log_of b c d → EitherOrder table_step AllWide b c d
  unfolding request_step early
  calls-either-order c d wc wd a =
      let E = either_order (plain c) (plain d) wc wd (record { apart = a.apart; first = a.first; then = a.then; other = a.other; thence = a.thence }) in
      let cd = (table_step (table_step b c).state d).state in
      let dc = (table_step (table_step b d).state c).state in
      record {
        one = E.one;
        one_work = E.one_work;
        two = E.two;
        two_work = E.two_work;
        later = λ (cs : List Call) (w : AllWide cs). sym (replies-map (request_step table_step) plain cd cs) ∙ E.later (map plain cs) (all_plain cs w) ∙ replies-map (request_step table_step) plain dc cs;
        later_work = λ (cs : List Call) (w : AllWide cs). sym (works-map (request_step table_step) plain cd cs) ∙ E.later_work (map plain cs) (all_plain cs w) ∙ works-map (request_step table_step) plain dc cs;
      }
    where
      all_plain : (cs : List Call) → AllWide cs → AllWideRequests (map plain cs)
      all_plain [] w = tt
      all_plain (c ∷ cs) w = (w.0, all_plain cs w.1)

  -- "afterwards every log's lookups and ends give the same receipts"
  pub same-receipts : (q p : Request) → WideRequest q → WideRequest p → BothAccepted (request_step table_step) log_asked b q p
      → SameReceipts (request_step table_step (request_step table_step b q).state p).state (request_step table_step (request_step table_step b p).state q).state
  unfolding replies request_step early
  same-receipts q p wq wp a =
      let E = either_order q p wq wp a in
      record {
        lookups = λ (g n : ℕ) (nonce : List ℕ) (lent : ℕ) (w : n < 2 ^ 64). ap (λ (l : List Reply). get_or l 0 (refused 0)) (E.later (plain (lookup g n nonce lent) ∷ []) (w, tt));
        ends = λ (g : ℕ) (nonce : List ℕ) (lent : ℕ). ap (λ (l : List Reply). get_or l 0 (refused 0)) (E.later (plain (end g nonce lent) ∷ []) (tt, tt));
      }

  -- and as the program makes the calls: a lookup or an end is lent the table to read it
  pub program-either-order : (q p : Request) → WideRequest q → WideRequest p → BothAccepted (request_step program_step) log_asked b q p → EitherOrder (request_step program_step) AllWideRequests b q p
  program-either-order q p wq wp a =
      let w = program-whole b q a.first in
      let same : (qs : List Request) → AllWideRequests qs → SameList b qs = λ (qs : List Request) (v : AllWideRequests qs). subst (λ (x : List ℕ). SameList x qs) (write_read b h w) (same-list (read_table b) M (stands b h w) qs v) in
      as_model (request_step program_step) b M (λ (qs : List Request) (v : AllWideRequests qs). (same qs v).answers ∙ table-answers w qs v) (λ (qs : List Request) (v : AllWideRequests qs). (same qs v).blocks ∙ table-blocks w qs v) q p wq wp a
