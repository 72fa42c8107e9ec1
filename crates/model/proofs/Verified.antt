-- What the keeper writes, the verifier accepts: of every byte string that a lookup or an end takes for a table, whoever wrote it.
use Prim.Native.Nat.{ℕ, zero, suc, ◌≤◌}
use mathlib.Core.Path.{◌≡◌, refl, sym, ap, ap₂, subst, ◌∙◌}
use mathlib.Core.Logic.{◌≢◌, inl, inr}
use mathlib.Core.List.{List, [], ◌∷◌, map}
use mathlib.Core.Bool.{Bool, true, false, cond}
use mathlib.Core.Option.{Option, none, some, none-ne-some}
use native.Mathlib.Omega.{arith}
use lib.ListN.{length}
use borrow.Author.Tests.{eqb-false, not-false}
use Rattle.octets.specs.Octets.{Bytes}
use Rattle.octets.proofs.Zeros.{length-zeros}
use Rattle.refusal.specs.Answer.{answer}
use Rattle.receipt.specs.Verdict.{carried, verdict}
use Rattle.layout.specs.Image.{Entry, Image, entry_of, slot_at}
use Rattle.layout.specs.Layout.{read_table}
use Rattle.layout.specs.Fits.{Fits}
use Rattle.layout.proofs.ListLaws.{length-tabulate}
use Rattle.layout.proofs.TableLaws.{length-rows, fits_read}
use Rattle.table.specs.Chains.{chain}
use Rattle.table.specs.Whole.{whole}
use Rattle.table.specs.WholeImage.{whole_image}
use Rattle.table.proofs.ReserveLaws.{whole-linked}
use Rattle.table.proofs.WholeLaws.{whole_formed, whole-range, whole-image}
use Rattle.a2m.specs.Call.{Call, append, advance, truncate, lookup, end, log_of, Wide, receipt_in}
use Rattle.a2m.specs.Search.{Found, looked_up}
use Rattle.a2m.specs.ImageCalls.{row_in, entries_in, misplaced, lookup_attested, end_kind, end_attested}
use Rattle.a2m.specs.TableCalls.{table_refusal, table_step}
use Rattle.a2m.proofs.Clear.{clear}
use Rattle.table.proofs.Lists.{In}
use Rattle.model.specs.Log.{Log, standing, kind_of, reference_of, examined_for}
use Rattle.model.specs.Model.{rules, model_step}
use Rattle.model.specs.ModelOf.{log_in, model_of}
use Rattle.model.specs.Question.{question_of, nonce_of, values_in, values_of}
use Rattle.model.proofs.Represents.{LogOk}
use Rattle.model.proofs.Lookups.{found_as, lookup-is}
use Rattle.model.proofs.Along.{Keeps}
use Rattle.model.proofs.Reading.{empty-is}
use Rattle.model.proofs.OfWhole.{log-in, model-says, model-sound}
use Rattle.model.proofs.OfTable.{table_step_lem}
use Rattle.model.proofs.Accepted.{attests, step-verified}

-- ---- the model that a whole table says keeps what the verifier asks

-- what every slot of a chain has
in_map : (f : ℕ → Entry) (P : Entry → Type 0) → ((s : ℕ) → P (f s)) → (c : List ℕ) (e : Entry) → In e (map f c) → P e
in_map f P h [] e x' = elim x' [ ]
in_map f P h (s ∷ c) e (inl q) = subst P (sym q) (h s)
in_map f P h (s ∷ c) e (inr m) = in_map f P h c e m

abbrev Sizes : Entry → Type 0
Sizes e = (length e.value ≡ 32) × (length e.digest ≡ 32)

slot-sizes : (m : Image) → Fits m → (s : ℕ) → Sizes (entry_of (slot_at m.slots s))
unfolding slot_at
slot-sizes m f zero = (length-zeros 32, length-zeros 32)
slot-sizes m f (suc i) = ((f.slots i).value, (f.slots i).digest)

pub whole-keeps : (m : Image) → whole_image m ≡ true → Fits m → Keeps (model_of m)
unfolding model_of log_in entries_in
whole-keeps m w f = record {
  sound = model-sound m (whole-linked m w);
  keeper = f.keeper;
  fits = λ (g : ℕ). rw (log-in m g) (record {
    high = (f.rows g).high;
    sized = λ (e : Entry) (i : In e (entries_in m g)). in_map (λ (s : ℕ). entry_of (slot_at m.slots s)) Sizes (slot-sizes m f) (chain m.slots (suc g) (row_in m g).first) e i;
  });
}

-- ---- what it says is what the table attests

pub found_in : (m : Image) (g n : ℕ) → LogOk (log_in m g) → 1 ≤ n → looked_up (row_in m g) (entries_in m g) n ≡ found_as (log_in m g) (standing (log_in m g) n) (examined_for (log_in m g) n (standing (log_in m g) n))
unfolding log_in
found_in m g n ok n1 = lookup-is (log_in m g) ok (row_in m g) refl refl n n1

module _ (m : Image) (w : whole_image m ≡ true) where
  lookup-values : (g n : ℕ) (c : List ℕ) (k : ℕ) → 1 ≤ n → values_of (model_of m) (lookup g n c k) ≡ values_in m (lookup g n c k)
  unfolding values_of values_in carried lookup_attested model_of found_as
  lookup-values g n c k n1 =
      ap (λ (l : Log). m.keeper ∷ g ∷ n ∷ kind_of (standing l n) ∷ reference_of l (standing l n) ∷ []) (log-in m g)
      ∙ ap (λ (f : Found). m.keeper ∷ g ∷ n ∷ f.kind ∷ f.reference ∷ []) (sym (found_in m g n (subst LogOk (log-in m g) (model-sound m (whole-linked m w) g)) n1))

  end-values : (g : ℕ) (c : List ℕ) (k : ℕ) → values_of (model_of m) (end g c k) ≡ values_in m (end g c k)
  unfolding values_of values_in carried end_kind end_attested model_of log_in
  end-values g c k =
      ap₂ (λ (n : ℕ) (t : Bool). m.keeper ∷ g ∷ n ∷ cond t 0 1 ∷ n ∷ []) (ap (λ (l : Log). l.high) (log-in m g)) (sym (empty-is m (model_of m) (model-says m (whole-linked m w)) g))

  values-are : (call : Call) → misplaced (row_in m (log_of call)) call ≡ false → values_of (model_of m) call ≡ values_in m call
  unfolding misplaced values_of values_in
  values-are (append g x) h = refl
  values-are (advance g n d x) h = refl
  values-are (truncate g n) h = refl
  values-are (lookup g n c k) h = let z : n ≢ 0 = eqb-false n 0 h in lookup-values g n c k (omega arith)
  values-are (end g c k) h = end-values g c k

-- ---- the theorem

pub written-accepted : (b : List ℕ) → Bytes b → (call : Call) → Wide call → (r : List ℕ) → receipt_in (table_step b call).reply ≡ some r
    → verdict (read_table b).key r (nonce_of call) (question_of (read_table b).keeper call) ≡ answer 0 (values_in (read_table b) call)
unfolding table_step table_refusal model_of
written-accepted b h call wide r q = go (table_refusal b call) refl
  where
    go : (o : Option ℕ) → table_refusal b call ≡ o → verdict (read_table b).key r (nonce_of call) (question_of (read_table b).keeper call) ≡ answer 0 (values_in (read_table b) call)
    go none e =
        let c = clear _ (read_table b) call e in
        let w : whole b ≡ true = not-false (whole b) c.whole in
        let f = fits_read b h (whole_formed b w) in
        let n = (whole-range b w).logs-most in
        let few : length (model_of (read_table b)).logs ≤ 16 = subst (λ (k : ℕ). k ≤ 16) (sym (length-tabulate (length (read_table b).rows) (log_in (read_table b)) ∙ length-rows b)) n in
        let there : receipt_in (model_step rules (model_of (read_table b)) call).reply ≡ some r = ap receipt_in (sym (table_step_lem b h w call wide).reply) ∙ q in
        step-verified (model_of (read_table b)) (whole-keeps (read_table b) (whole-image b w) f) f.key few rules attests call wide r there
        ∙ ap (answer 0) (values-are (read_table b) (whole-image b w) call c.position)
    go (some k) e = absurd (none-ne-some r (rw (table_step, e) at q))
