-- Request [8], "Loggers already on the bank": a carried table answers every later list of calls as the plain book now does, and demand 3's list may hold one carry.
use Prim.Native.Nat.{ℕ, ◌^◌, ◌<◌}
use mathlib.Core.Path.{◌≡◌, refl, sym, ap, ap₂, subst, ◌∙◌}
use mathlib.Core.List.{List, ◌++◌}
use mathlib.Core.Bool.{Bool, true, cond}
use mathlib.Core.Option.{Option, none, some}
use lib.ListN.{length, length-map, length-replicate, replicate}
use lib.Dec.{eqb}
use borrow.Author.Tests.{eq-eqb}
use Rattle.octets.specs.Octets.{Bytes}
use Rattle.layout.specs.Fits.{Range}
use Rattle.layout.specs.Layout.{logs_of, slots_of, table_size, read_table}
use Rattle.layout.specs.Layout01.{read01}
use Rattle.layout.proofs.Layout01Laws.{length_rows01, length_slots01, unreserved01}
use Rattle.table.specs.Free.{write_table}
use Rattle.table.specs.WholeImage.{whole_image}
use Rattle.table.specs.Whole.{whole}
use Rattle.table.specs.Whole01.{whole01}
use Rattle.table.specs.Carry.{carry_refusal, carry_bytes}
use Rattle.table.proofs.ReserveLaws.{unreserved-whole}
use Rattle.table.proofs.ConditionLaws01.{whole01-formed, whole01-linked, whole01-fits}
use Rattle.table.proofs.CarryLaws.{carry-sized, carry-passes, accepted}
use Rattle.a2m.specs.Call.{Call, AllWide, Reply, replies, works, after}
use Rattle.a2m.specs.TableCalls.{table_step}
use Rattle.survey.specs.Requests.{Request, request_step, AllWideRequests}
use Rattle.model.specs.Log.{fresh_log}
use Rattle.model.specs.Model.{rules01, rules, Model}
use Rattle.model.specs.ModelOf.{model_of}
use Rattle.model.specs.Claim.{Turn, asking, by, model_turn, ListClaim}
use Rattle.model.specs.Carried.{model01, carried_turns, Reached01}
use Rattle.model.proofs.OfImage.{image-stands, image-list}
use Rattle.model.proofs.Turns.{Each, replies-by, after-by}
use Rattle.model.proofs.Along.{Keeps, after-fixed}
use Rattle.model.proofs.ImageClaim.{Proper, proper01, new-keeps}
use Rattle.model.proofs.TableClaim.{Stands, table-claim, table-whole}

-- an accepted carry writes the image that the old table says
pub carry-writes : (old lent : List ℕ) → carry_refusal old (length lent) ≡ none → carry_bytes old lent ≡ write_table (read01 old)
carry-writes old lent e = let p = carry-passes old (length lent) e in sym (accepted old lent (write_table (read01 old)) p.0 p.1 refl).1

-- ---- a table that document 01 calls whole, whoever wrote it

module _ (old : List ℕ) (h : Bytes old) (w : whole01 old ≡ true) where
  old-whole : whole_image (read01 old) ≡ true
  old-whole = unreserved-whole (read01 old) (unreserved01 old) ∙ whole01-linked old w

  old-range : Range (length (read01 old).rows) (length (read01 old).slots)
  old-range = rw (length_rows01 old, length_slots01 old) (whole01-formed old w).counts

  pub old-stands : Stands (read01 old) (model_of (read01 old))
  old-stands = image-stands (read01 old) (whole01-fits old h w) old-whole old-range

-- "Every later list of calls, the copy passed on as in demand 3, answers as the plain book now does, begun with these."
pub later : (old lent : List ℕ) → Bytes old → carry_refusal old (length lent) ≡ none → (qs : List Request) → AllWideRequests qs
    → ListClaim (model_of (read01 old)) (asking rules qs) (replies (request_step table_step) (carry_bytes old lent) qs) (works (request_step table_step) (carry_bytes old lent) qs) (read_table (after (request_step table_step) (carry_bytes old lent) qs))
later old lent h e qs wide =
    let w = (carry-passes old (length lent) e).0 in
    rw (carry-writes old lent e) (image-list (read01 old) (whole01-fits old h w) (old-whole old h w) (old-range old h w) qs wide)

-- and the copy is whole all along
pub later-whole : (old lent : List ℕ) → Bytes old → carry_refusal old (length lent) ≡ none → (qs : List Request) → AllWideRequests qs → whole (after (request_step table_step) (carry_bytes old lent) qs) ≡ true
later-whole old lent h e qs wide = rw (carry-writes old lent e) (table-whole (read01 old) (model_of (read01 old)) (old-stands old h (carry-passes old (length lent) e).0) qs wide)

-- turns by whatever rules, of the model alone; then a carry of a table that says the model after them; then calls on the carried table
pub carry-claim : (b : Model) → Keeps b → (ts : List Turn) → Each Proper ts → (old : List ℕ) → Stands (read01 old) (after model_turn b ts) → (lent : List ℕ) → carry_refusal old (length lent) ≡ none → (qs : List Request) → AllWideRequests qs
    → ListClaim b (ts ++ asking rules qs) (replies model_turn b ts ++ replies (request_step table_step) (carry_bytes old lent) qs) (works model_turn b ts ++ works (request_step table_step) (carry_bytes old lent) qs) (read_table (after (request_step table_step) (carry_bytes old lent) qs))
carry-claim b keeps ts p old s lent e qs wide = rw (carry-writes old lent e) (table-claim b keeps ts p (read01 old) s qs wide)

-- ---- a table that document 01's calls have reached

-- a buffer of the length asked for is not refused
pub length_none : (old : List ℕ) (n size : ℕ) → carry_refusal old n ≡ cond (eqb n size) none (some 7) → n ≡ size → carry_refusal old n ≡ none
length_none old n size e h = e ∙ ap (λ (t : Bool). cond {A = Option ℕ} t none (some 7)) (eq-eqb n size h)

-- a table that says the book after some calls has its G and S, so a carry is refused only for another buffer length
pub said-answer : (G S keeper : ℕ) (key : List ℕ) (ts : List Turn) (old : List ℕ) → whole01 old ≡ true → Stands (read01 old) (after model_turn (model01 G S keeper key) ts)
    → (n : ℕ) → carry_refusal old n ≡ cond (eqb n (table_size G S)) none (some 7)
said-answer G S keeper key ts old w s n =
    let f = after-fixed (model01 G S keeper key) ts in
    let logs : logs_of old ≡ G = sym (length_rows01 old) ∙ s.says.count ∙ f.count ∙ length-map (replicate G 0) fresh_log ∙ length-replicate G 0 in
    let slots : slots_of old ≡ S = sym (length_slots01 old) ∙ s.says.size ∙ f.size in
    carry-sized old n w ∙ ap₂ (λ (g k : ℕ). cond {A = Option ℕ} (eqb n (table_size g k)) none (some 7)) logs slots

module _ (G S keeper : ℕ) (key : List ℕ) (cs₁ : List Call) (rs₁ : List Reply) (old : List ℕ) (r : Reached01 G S keeper key cs₁ rs₁ old) where
  pub reached : Stands (read01 old) (after model_turn (model01 G S keeper key) (by rules01 cs₁))
  reached = subst (λ (b : Model). Stands (read01 old) b) (r.says ∙ sym (after-by rules01 (model01 G S keeper key) cs₁)) (old-stands old r.bytes r.whole)

  -- the book's answer to the carry: 1 never occurs
  pub carry-answer : (n : ℕ) → carry_refusal old n ≡ cond (eqb n (table_size G S)) none (some 7)
  carry-answer = said-answer G S keeper key (by rules01 cs₁) old r.whole reached

  keeper-fits : keeper < 2 ^ 64
  keeper-fits = subst (λ (k : ℕ). k < 2 ^ 64) (reached.says.keeper ∙ (after-fixed (model01 G S keeper key) (by rules01 cs₁)).keeper) reached.fits.keeper

  -- "Demand 3's list may hold one carry: it counts from the old formatting, the calls before the carry going by 01's rules."
  pub carried_claim : AllWide cs₁ → (lent : List ℕ) → length lent ≡ table_size G S → (qs : List Request) → AllWideRequests qs
      → ListClaim (model01 G S keeper key) (carried_turns cs₁ qs) (rs₁ ++ replies (request_step table_step) (carry_bytes old lent) qs) (works model_turn (model01 G S keeper key) (by rules01 cs₁) ++ works (request_step table_step) (carry_bytes old lent) qs) (read_table (after (request_step table_step) (carry_bytes old lent) qs))
  carried_claim w₁ lent e qs w₂ =
      let b = model01 G S keeper key in
      let n = length_none old (length lent) (table_size G S) (carry-answer (length lent)) e in
      rw (r.answers ∙ sym (replies-by rules01 b cs₁)) (carry-claim b (new-keeps S keeper key (replicate G 0) keeper-fits) (by rules01 cs₁) (proper01 cs₁ w₁) old reached lent n qs w₂)
