-- Demand 3 on bytes: along every list of requests the table's bytes are those of the image, so what holds of images holds of them.
use Prim.Native.Nat.{ℕ, ◌+◌, ◌≤◌}
use mathlib.Core.Path.{◌≡◌, refl, sym, ap, subst, ◌∙◌}
use mathlib.Core.List.{List, [], ◌∷◌, ◌++◌}
use mathlib.Core.Bool.{true}
use native.Mathlib.Omega.{arith}
use lib.ListN.{length}
use Rattle.layout.specs.Image.{Image}
use Rattle.layout.specs.Layout.{Stock, read_table, stock_of}
use Rattle.table.specs.Free.{free_chain, write_table}
use Rattle.layout.specs.Fits.{Fits}
use Rattle.layout.specs.Fits.{Range}
use Rattle.table.specs.Whole.{whole}
use Rattle.table.proofs.WholeLaws.{read-write, stock-write, written-whole}
use Rattle.a2m.specs.Call.{Call, Wide, AllWide, Reply, Effect, replies, works, after}
use Rattle.a2m.specs.ImageCalls.{image_step}
use Rattle.a2m.specs.TableCalls.{written, table_step}
use Rattle.survey.specs.Requests.{Request, call_of, request_step, WideRequest, AllWideRequests}
use Rattle.table.proofs.Links.{chain_links}
use Rattle.a2m.proofs.FitsAfter.{step_fits}
use Rattle.a2m.proofs.Written.{step-written}
use Rattle.model.specs.Model.{rules, Model, total, model_step}
use Rattle.model.specs.ModelRequests.{model_request}
use Rattle.model.specs.Claim.{Turn, asking, model_turn, ListClaim}
use Rattle.model.proofs.Represents.{Rep, Sound}
use Rattle.model.proofs.Backed.{Backed, step_backed}
use Rattle.model.proofs.WholeOf.{whole_of}
use Rattle.model.proofs.Step.{step-agrees}
use Rattle.model.proofs.Sound.{step_sound}
use Rattle.model.proofs.Along.{Keeps, step-fixed, after-fixed}
use Rattle.model.proofs.Turns.{Each, after-asking}
use Rattle.survey.proofs.RequestLaws.{steps-so}
use Rattle.model.proofs.Requests.{request-is}
use Rattle.model.proofs.ImageClaim.{Proper, image-claim}

-- bytes of an image that says a sound model, all within their fields, with the slots promised there
pub record Stands (m : Image) (b : Model) : Type 0 where
  pub says : Rep m b
  pub sound : Sound b
  pub backed : Backed b
  pub fits : Fits m
  pub counts : Range (length b.logs) b.size

pub in-range : (m : Image) (b : Model) → Stands m b → Range (length m.rows) (length m.slots)
in-range m b s = rw (s.says.count, s.says.size) s.counts

pub step_stands : (m : Image) (b : Model) → Stands m b → (c : Call) (w : AllWide (c ∷ [])) → Stands (image_step m c).state (model_step rules b c).state
step_stands m b s c w = record {
  says = (step-agrees m b s.says s.sound s.backed c).state;
  sound = step_sound rules b s.sound c;
  backed = step_backed b s.backed c;
  fits = step_fits m s.fits c w.0;
  counts = rw ((step-fixed rules b c).count, (step-fixed rules b c).size) s.counts;
}

-- a request likewise
pub request_stands : (m : Image) (b : Model) → Stands m b → (q : Request) → WideRequest q → Stands (request_step image_step m q).state (model_request rules b q).state
request_stands m b s q w =
    subst (λ (o : Effect Model). Stands (request_step image_step m q).state o.state) (sym (request-is rules b q))
    (steps-so image_step (model_step rules) m b q (λ (x : Effect Image) (y : Effect Model). Stands x.state y.state) (λ (k : ℕ) (h : 7 ≤ k). s) (λ (v : WideRequest q → Wide (call_of q)). step_stands m b s (call_of q) (v w, tt)))

pub request-written : (m : Image) (b : Model) → Stands m b → (q : Request) → request_step table_step (write_table m) q ≡ written (request_step image_step m q)
request-written m b s q =
    steps-so table_step image_step (write_table m) m q (λ (x : Effect (List ℕ)) (y : Effect Image). x ≡ written y) (λ (k : ℕ) (h : 7 ≤ k). refl) (λ (w : WideRequest q → Wide (call_of q)). step-written m s.fits (in-range m b s) (call_of q))

-- the answers to a list, their blocks, the bytes after it, and that they still stand
pub record WrittenAll (m : Image) (b : Model) (qs : List Request) : Type 0 where
  pub answers : replies (request_step table_step) (write_table m) qs ≡ replies (request_step image_step) m qs
  pub blocks : works (request_step table_step) (write_table m) qs ≡ works (request_step image_step) m qs
  pub bytes : after (request_step table_step) (write_table m) qs ≡ write_table (after (request_step image_step) m qs)
  pub stands : Stands (after (request_step image_step) m qs) (after (model_request rules) b qs)

pub list_written : (m : Image) (b : Model) → Stands m b → (qs : List Request) → AllWideRequests qs → WrittenAll m b qs
unfolding replies works after
list_written m b s [] w = record { answers = refl; blocks = refl; bytes = refl; stands = s }
list_written m b s (q ∷ qs) w =
    let e = request-written m b s q in
    let ih = list_written (request_step image_step m q).state (model_request rules b q).state (request_stands m b s q w.0) qs w.1 in
    record {
      answers = rw e (ap {B = List Reply} (λ l. (request_step image_step m q).reply ∷ l) ih.answers);
      blocks = rw e (ap {B = List ℕ} (λ l. (request_step image_step m q).blocks ∷ l) ih.blocks);
      bytes = rw e ih.bytes;
      stands = ih.stands;
    }

-- the claim: requests ts by whatever rules, of the model alone, then requests qs on the bytes of an image that says the model after them
pub table-claim : (b : Model) → Keeps b → (ts : List Turn) → Each Proper ts → (m : Image) → Stands m (after model_turn b ts) → (qs : List Request) → AllWideRequests qs
    → ListClaim b (ts ++ asking rules qs) (replies model_turn b ts ++ replies (request_step table_step) (write_table m) qs) (works model_turn b ts ++ works (request_step table_step) (write_table m) qs) (read_table (after (request_step table_step) (write_table m) qs))
table-claim b keeps ts p m s qs w =
    let W = list_written m (after model_turn b ts) s qs w in
    let f = after-fixed b ts in
    let key : length b.key ≡ 32 = ap length (sym (s.says.key ∙ f.key)) ∙ s.fits.key in
    let few : length b.logs ≤ 16 = subst (λ (n : ℕ). n ≤ 16) f.count s.counts.logs-most in
    rw (W.answers, W.blocks, W.bytes, read-write (after (request_step image_step) m qs) W.stands.fits) (image-claim b keeps key few ts p m s.says s.backed qs w)

-- and the table is whole all along
pub table-whole : (m : Image) (b : Model) → Stands m b → (qs : List Request) → AllWideRequests qs → whole (after (request_step table_step) (write_table m) qs) ≡ true
table-whole m b s qs w =
    let W = list_written m b s qs w in
    let t = W.stands in
    let M = after (request_step image_step) m qs in
    ap whole W.bytes ∙ written-whole M t.fits (in-range _ _ t) ∙ whole_of M (after (model_request rules) b qs) t.says t.sound t.backed

-- request [1], "each call keeps it true": the number that the bytes hold, and the entries of all logs, make the slots
pub table-count : (m : Image) (b : Model) → Stands m b → (qs : List Request) → AllWideRequests qs → (stock_of (after (request_step table_step) (write_table m) qs)).count + total (after (model_request rules) b qs).logs ≡ b.size
table-count m b s qs w =
    let W = list_written m b s qs w in
    let t = W.stands in
    let M = after (request_step image_step) m qs in
    let number : (stock_of (after (request_step table_step) (write_table m) qs)).count ≡ length (free_chain M) = ap (λ (l : List ℕ). (stock_of l).count) W.bytes ∙ ap (λ (k : Stock). k.count) (stock-write M t.fits) in
    let queue : length (free_chain M) ≡ length t.says.queue = ap length (chain_links M.slots 0 M.free t.says.queue t.says.free.links) in
    let size : (after (model_request rules) b qs).size ≡ b.size = ap (λ (x : Model). x.size) (sym (after-asking rules b qs)) ∙ (after-fixed b (asking rules qs)).size in
    omega (arith, number, queue, t.says.sum, t.says.size, size)
