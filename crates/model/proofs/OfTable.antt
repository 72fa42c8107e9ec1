-- A whole table, whoever wrote it: calls on its bytes answer as the model that it says, and leave a whole table.
use Prim.Native.Nat.{ℕ}
use mathlib.Core.Path.{◌≡◌, sym, ap, subst, ◌∙◌}
use mathlib.Core.List.{List, [], ◌∷◌}
use mathlib.Core.Bool.{true}
use Rattle.octets.specs.Octets.{Bytes}
use Rattle.layout.specs.Layout.{read_table}
use Rattle.layout.proofs.TableLaws.{length-rows, length-slots, fits_read}
use Rattle.table.specs.Whole.{whole}
use Rattle.table.proofs.WholeLaws.{whole_formed, whole-range, whole-image, read-write, write_read}
use Rattle.a2m.specs.Call.{Call, Wide, Effect, replies, works, after}
use Rattle.survey.specs.Requests.{Request, plain, early, request_step, AllWideRequests}
use Rattle.a2m.specs.ImageCalls.{image_step}
use Rattle.a2m.specs.TableCalls.{written, table_step}
use Rattle.a2m.proofs.FitsAfter.{step_fits}
use Rattle.a2m.proofs.Written.{step-written}
use Rattle.model.specs.Model.{rules, model_step}
use Rattle.model.specs.ModelOf.{model_of}
use Rattle.model.specs.Claim.{asking, ListClaim}
use Rattle.model.proofs.OfWhole.{whole-step}
use Rattle.model.proofs.OfImage.{image-stands, image-list}
use Rattle.model.proofs.TableClaim.{Stands, in-range, table-whole}

module _ (b : List ℕ) (h : Bytes b) (w : whole b ≡ true) where
  pub stands : Stands (read_table b) (model_of (read_table b))
  stands = image-stands (read_table b) (fits_read b h (whole_formed b w)) (whole-image b w) (rw (length-rows b, length-slots b) (whole-range b w))

  -- every list of requests, the refused ones among them, leaves it whole
  pub kept_whole : (qs : List Request) → AllWideRequests qs → whole (after (request_step table_step) b qs) ≡ true
  kept_whole qs wide = ap (λ (x : List ℕ). whole (after (request_step table_step) x qs)) (sym (write_read b h w)) ∙ table-whole (read_table b) (model_of (read_table b)) stands qs wide

  -- and answers as the model that it says, with all that demand 3 says of answers and tables
  pub whole-list : (qs : List Request) → AllWideRequests qs → ListClaim (model_of (read_table b)) (asking rules qs) (replies (request_step table_step) b qs) (works (request_step table_step) b qs) (read_table (after (request_step table_step) b qs))
  whole-list qs wide =
      let m = read_table b in
      subst (λ (x : List ℕ). ListClaim (model_of m) (asking rules qs) (replies (request_step table_step) x qs) (works (request_step table_step) x qs) (read_table (after (request_step table_step) x qs))) (write_read b h w)
      (image-list m (fits_read b h (whole_formed b w)) (whole-image b w) (rw (length-rows b, length-slots b) (whole-range b w)) qs wide)

  -- a call answers as the model, leaves a table that says the model after, and that is whole
  pub record Follows (call : Call) : Type 0 where
    pub reply : (table_step b call).reply ≡ (model_step rules (model_of (read_table b)) call).reply
    pub blocks : (table_step b call).blocks ≡ (model_step rules (model_of (read_table b)) call).blocks
    pub model : model_of (read_table (table_step b call).state) ≡ (model_step rules (model_of (read_table b)) call).state
    pub whole : whole (table_step b call).state ≡ true

  pub table_step_lem : (call : Call) → Wide call → Follows call
  unfolding after early request_step
  table_step_lem call wide =
      let m = read_table b in
      let s = stands in
      let f = whole-step m (whole-image b w) call in
      let e : table_step b call ≡ written (image_step m call) = ap (λ (x : List ℕ). table_step x call) (sym (write_read b h w)) ∙ step-written m s.fits (in-range m (model_of m) s) call in
      let back : read_table (table_step b call).state ≡ (image_step m call).state = ap (λ (o : Effect (List ℕ)). read_table o.state) e ∙ read-write (image_step m call).state (step_fits m s.fits call wide) in
      record {
        reply = ap (λ (o : Effect (List ℕ)). o.reply) e ∙ f.reply;
        blocks = ap (λ (o : Effect (List ℕ)). o.blocks) e ∙ f.blocks;
        model = ap model_of back ∙ f.model;
        whole = kept_whole (plain call ∷ []) (wide, tt);
      }
