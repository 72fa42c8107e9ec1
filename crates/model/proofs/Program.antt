-- Demand 3 of the list that the program makes: append, advance and truncate leave what `table_step` says, and lookup and end, which are lent the table to
-- read it, leave it as it was. The answers, and the bytes after the list, are those through `table_step`.
use Prim.Native.Nat.{ℕ, ◌^◌, ◌≤◌, ◌<◌}
use mathlib.Core.Path.{◌≡◌, refl, sym, ap, ◌∙◌}
use mathlib.Core.List.{List, [], ◌∷◌}
use mathlib.Core.Bool.{true}
use mathlib.Core.Option.{Option, none, some}
use lib.ListN.{length}
use Rattle.layout.specs.Image.{Image}
use Rattle.layout.specs.Layout.{read_table}
use Rattle.table.specs.Free.{write_table}
use Rattle.table.specs.Format.{formatted, format_refusal, format_bytes}
use Rattle.table.specs.Whole.{whole}
use Rattle.a2m.specs.Call.{Call, append, advance, truncate, lookup, end, Wide, Reply, Effect, effect, replies, works, after}
use Rattle.a2m.specs.ImageCalls.{image_refusal, image_accept, image_step}
use Rattle.a2m.specs.TableCalls.{table_step}
use Rattle.survey.specs.Requests.{Request, call_of, request_step, WideRequest, AllWideRequests}
use Rattle.a2m.proofs.Unchanged.{Reads}
use Rattle.a2m.proofs.Written.{step-written}
use Rattle.model.specs.Model.{rules, Model, new_model}
use Rattle.model.specs.ModelRequests.{model_request}
use Rattle.model.specs.Claim.{asking, ListClaim}
use Rattle.model.specs.Program.{passed_on, program_step}
use Rattle.model.proofs.TableClaim.{Stands, in-range, request_stands, request-written}
use Rattle.survey.proofs.RequestLaws.{steps-so}
use Rattle.model.proofs.Demand3.{stands, bytes-are, list_claim, stays_whole}

-- ---- one call

accept-same : (m : Image) (call : Call) → Reads call → (image_accept m call).state ≡ m
unfolding image_accept
accept-same m (append log value) h = elim h [ ]
accept-same m (advance log n digest value) h = elim h [ ]
accept-same m (truncate log n) h = elim h [ ]
accept-same m (lookup g n c k) h = refl
accept-same m (end g c k) h = refl

read_same : (m : Image) (call : Call) → Reads call → (image_step m call).state ≡ m
unfolding image_step
read_same m call h = go (image_refusal m call) refl
  where
    go : (r : Option ℕ) → image_refusal m call ≡ r → (image_step m call).state ≡ m
    go none e = rw (image_step, e) (accept-same m call h)
    go (some k) e = rw (image_step, e)

module _ (m : Image) (b : Model) (s : Stands m b) where
  after_call : (call : Call) → (table_step (write_table m) call).state ≡ write_table (image_step m call).state
  after_call call = ap (λ (o : Effect (List ℕ)). o.state) (step-written m s.fits (in-range m b s) call)

  after_read : (call : Call) → Reads call → (table_step (write_table m) call).state ≡ write_table m
  after_read call h = after_call call ∙ ap write_table (read_same m call h)

  passed : (call : Call) → passed_on (write_table m) call ≡ (table_step (write_table m) call).state
  unfolding passed_on
  passed (append g x) = refl
  passed (advance g n d x) = refl
  passed (truncate g n) = refl
  passed (lookup g n c k) = sym (after_read (lookup g n c k) tt)
  passed (end g c k) = sym (after_read (end g c k) tt)

  -- a call, and a request, leave the same bytes either way
  same-call : (call : Call) → program_step (write_table m) call ≡ table_step (write_table m) call
  unfolding program_step
  same-call call = ap (effect (table_step (write_table m) call).reply (table_step (write_table m) call).blocks) (passed call)

  same-request : (q : Request) → request_step program_step (write_table m) q ≡ request_step table_step (write_table m) q
  same-request q =
      steps-so program_step table_step (write_table m) (write_table m) q (λ (x y : Effect (List ℕ)). x ≡ y) (λ (k : ℕ) (h : 7 ≤ k). refl) (λ (w : WideRequest q → Wide (call_of q)). same-call (call_of q))

-- ---- the list

pub record SameList (b : List ℕ) (qs : List Request) : Type 0 where
  pub answers : replies (request_step program_step) b qs ≡ replies (request_step table_step) b qs
  pub blocks : works (request_step program_step) b qs ≡ works (request_step table_step) b qs
  pub bytes : after (request_step program_step) b qs ≡ after (request_step table_step) b qs

pub same-list : (m : Image) (b : Model) → Stands m b → (qs : List Request) → AllWideRequests qs → SameList (write_table m) qs
unfolding replies works after
same-list m b s [] w = record { answers = refl; blocks = refl; bytes = refl }
same-list m b s (q ∷ qs) w =
    let e = same-request m b s q in
    let t = request-written m b s q in
    let ih = same-list (request_step image_step m q).state (model_request rules b q).state (request_stands m b s q w.0) qs w.1 in
    record {
      answers = rw (e, t) (ap {B = List Reply} (λ (l : List Reply). (request_step image_step m q).reply ∷ l) ih.answers);
      blocks = rw (e, t) (ap {B = List ℕ} (λ (l : List ℕ). (request_step image_step m q).blocks ∷ l) ih.blocks);
      bytes = rw (e, t) ih.bytes;
    }

module _ (lent : List ℕ) (G S keeper : ℕ) (key reserves : List ℕ) (k64 : keeper < 2 ^ 64) (accepted : format_refusal (length lent) G S (length key) reserves ≡ none) where
  same : (qs : List Request) → AllWideRequests qs → SameList (write_table (formatted S keeper key reserves)) qs
  same qs w = same-list (formatted S keeper key reserves) (new_model S keeper key reserves) (stands lent G S keeper key reserves k64 accepted) qs w

  pub program_claim : (qs : List Request) → AllWideRequests qs → ListClaim (new_model S keeper key reserves) (asking rules qs) (replies (request_step program_step) (format_bytes lent G S keeper key reserves) qs) (works (request_step program_step) (format_bytes lent G S keeper key reserves) qs) (read_table (after (request_step program_step) (format_bytes lent G S keeper key reserves) qs))
  program_claim qs w =
      let h = bytes-are lent G S keeper key reserves k64 accepted in
      let c : ListClaim (new_model S keeper key reserves) (asking rules qs) (replies (request_step table_step) (write_table (formatted S keeper key reserves)) qs) (works (request_step table_step) (write_table (formatted S keeper key reserves)) qs) (read_table (after (request_step table_step) (write_table (formatted S keeper key reserves)) qs)) = rw h at (list_claim lent G S keeper key reserves k64 accepted qs w) in
      rw (h, (same qs w).answers, (same qs w).blocks, (same qs w).bytes) c

  -- the table is whole before and after each request
  pub program_whole : (qs : List Request) → AllWideRequests qs → whole (after (request_step program_step) (format_bytes lent G S keeper key reserves) qs) ≡ true
  program_whole qs w =
      let h = bytes-are lent G S keeper key reserves k64 accepted in
      ap (λ (x : List ℕ). whole (after (request_step program_step) x qs)) h ∙ ap whole (same qs w).bytes ∙ ap (λ (x : List ℕ). whole (after (request_step table_step) x qs)) (sym h) ∙ stays_whole lent G S keeper key reserves k64 accepted qs w
