-- Request [5], "A stage log asked to append or advance only while it holds fewer entries than its reserve then gives the same calls in the same order the same
-- answers and receipts after one formatting, the table passed on as in demand 3, however the other logs are called", on bytes.
use Prim.Native.Nat.{ℕ, ◌^◌, ◌<◌}
use mathlib.Core.Path.{◌≡◌, ap, subst, ◌∙◌}
use mathlib.Core.List.{List, [], ◌∷◌}
use mathlib.Core.Option.{none}
use lib.ListN.{length}
use Rattle.layout.specs.Image.{Image}
use Rattle.layout.specs.Layout.{read_table}
use Rattle.table.specs.Free.{write_table}
use Rattle.table.specs.Format.{formatted, format_refusal, format_bytes}
use Rattle.table.proofs.WholeLaws.{read-write}
use Rattle.a2m.specs.Call.{log_of, Puts, Effect, replies, works}
use Rattle.survey.specs.Requests.{Request, call_of, request_step, AllWideRequests}
use Rattle.a2m.specs.ImageCalls.{row_in, entries_in, image_step}
use Rattle.a2m.specs.TableCalls.{table_step}
use Rattle.model.specs.Model.{Model, new_model, rules}
use Rattle.model.specs.ModelRequests.{model_request}
use Rattle.model.specs.Stage.{requests_of, answers_of, Within}
use Rattle.model.proofs.Reading.{entries-are}
use Rattle.model.proofs.SameLog.{Below}
use Rattle.model.proofs.Stage.{WithinModel, stage-answers}
use Rattle.model.proofs.ImageClaim.{list_agrees}
use Rattle.model.proofs.TableClaim.{Stands, request_stands, request-written, list_written}
use Rattle.model.proofs.Demand3.{stands, bytes-are}

-- what the bytes say of log g is what the model says
below_in : (m : Image) (b : Model) → Stands m b → (g : ℕ) → length (entries_in (read_table (write_table m)) g) < (row_in (read_table (write_table m)) g).reserve → Below b g
below_in m b s g h =
    let back : read_table (write_table m) ≡ m = read-write m s.fits in
    let R = s.says in
    rw (← (entries-are m b R g), ← (R.rows g).reserve) (subst (λ (i : Image). length (entries_in i g) < (row_in i g).reserve) back h)

within_model : (m : Image) (b : Model) → Stands m b → (g : ℕ) (qs : List Request) → AllWideRequests qs → Within (write_table m) g qs → WithinModel b g qs
within_model m b s g [] a w = tt
within_model m b s g (q ∷ qs) a w =
    let rest : Within (write_table (request_step image_step m q).state) g qs = subst (λ (x : List ℕ). Within x g qs) (ap (λ (o : Effect (List ℕ)). o.state) (request-written m b s q)) w.1 in
    (λ (z : log_of (call_of q) ≡ g) (p : Puts (call_of q)). below_in m b s g (w.0 z p), within_model (request_step image_step m q).state (model_request rules b q).state (request_stands m b s q a.0) g qs a.1 rest)

-- the bytes answer as the model, with its blocks
as_model : (m : Image) (b : Model) → Stands m b → (qs : List Request) → AllWideRequests qs → (replies (request_step table_step) (write_table m) qs ≡ replies (model_request rules) b qs) × (works (request_step table_step) (write_table m) qs ≡ works (model_request rules) b qs)
as_model m b s qs a =
    let W = list_written m b s qs a in
    let A = list_agrees m b s.says s.sound s.backed qs in
    (W.answers ∙ A.answers, W.blocks ∙ A.blocks)

-- two lists of requests after one formatting, in buffers lent before, with the same requests on log g in the same order: if the first asks log g to append or advance
-- only below its reserve, refused calls included, both give these calls the same answers, receipts among them, and the same blocks. Nothing is asked of the
-- other calls, nor that there be a log g
pub stage_log : (lent lent' : List ℕ) (G S keeper : ℕ) (key reserves : List ℕ) → keeper < 2 ^ 64
    → format_refusal (length lent) G S (length key) reserves ≡ none → format_refusal (length lent') G S (length key) reserves ≡ none
    → (g : ℕ) (qs qs' : List Request) → AllWideRequests qs → AllWideRequests qs' → requests_of g qs ≡ requests_of g qs' → Within (format_bytes lent G S keeper key reserves) g qs
    → (answers_of g qs (replies (request_step table_step) (format_bytes lent G S keeper key reserves) qs) ≡ answers_of g qs' (replies (request_step table_step) (format_bytes lent' G S keeper key reserves) qs'))
    × (answers_of g qs (works (request_step table_step) (format_bytes lent G S keeper key reserves) qs) ≡ answers_of g qs' (works (request_step table_step) (format_bytes lent' G S keeper key reserves) qs'))
stage_log lent lent' G S keeper key reserves k64 f f' g qs qs' a a' e w =
    let m = formatted S keeper key reserves in
    let b = new_model S keeper key reserves in
    let s = stands lent G S keeper key reserves k64 f in
    let bytes = bytes-are lent G S keeper key reserves k64 f in
    let bytes' = bytes-are lent' G S keeper key reserves k64 f' in
    let p = as_model m b s qs a in
    let p' = as_model m b s qs' a' in
    let r = stage-answers g b s.backed qs qs' e (within_model m b s g qs a (subst (λ (x : List ℕ). Within x g qs) bytes w)) in
    rw (bytes, bytes', p.0, p.1, p'.0, p'.1) r
