-- Document 02, [3]: "A skipped receipt now carries the value and digest of the entry at its reference .. the digest is the entry's own, not the one advance
-- was given." Of every whole image, of every lookup of the model by the present rules, and of every byte string that a lookup takes for a table.
use Prim.Native.Nat.{ℕ, ◌^◌, ◌≤◌, ◌<◌}
use mathlib.Core.Path.{◌≡◌, refl, sym, ap, subst, ◌∙◌}
use mathlib.Core.List.{List}
use mathlib.Core.Bool.{true}
use mathlib.Core.Option.{Option, none, some, none-ne-some, some-injective}
use native.Mathlib.Omega.{arith}
use lib.ListN.{length}
use borrow.Author.Tests.{not-false}
use Rattle.octets.specs.Octets.{Bytes}
use Rattle.receipt.specs.Attestation.{Attestation, LOOKUP, read_attestation}
use Rattle.receipt.proofs.Fields.{read-receipt}
use Rattle.layout.specs.Image.{Entry, Image}
use Rattle.layout.specs.Layout.{read_table}
use Rattle.layout.proofs.TableLaws.{fits_read}
use Rattle.table.specs.Whole.{whole}
use Rattle.table.specs.WholeImage.{whole_image}
use Rattle.table.proofs.ReserveLaws.{whole-linked}
use Rattle.table.proofs.WholeLaws.{whole_formed, whole-image}
use Rattle.a2m.specs.Call.{lookup, receipt_in}
use Rattle.a2m.specs.Search.{Found, looked_up}
use Rattle.a2m.specs.ImageCalls.{row_in, entries_in, lookup_attested}
use Rattle.a2m.specs.TableCalls.{table_refusal, table_step}
use Rattle.a2m.proofs.Clear.{clear}
use Rattle.table.proofs.Lists.{In}
use Rattle.model.specs.Log.{Log, Standing, unassigned, forgotten, assigned, skipped, standing, kind_of, reference_of, examined_for}
use Rattle.model.specs.Model.{rules01, rules, Model, log_at, model_receipt, shown_for, model_lookup, model_accept, model_step}
use Rattle.model.specs.ModelOf.{log_in, model_of}
use Rattle.model.proofs.Represents.{LogOk}
use Rattle.model.proofs.Standings.{Means, standing-means}
use Rattle.model.proofs.Entries.{in_bounds}
use Rattle.model.proofs.Passed.{Stepped, turned, taken, stepped}
use Rattle.model.proofs.Shown.{shown-kind, length-LOOKUP}
use Rattle.model.proofs.Along.{Keeps}
use Rattle.model.proofs.Lookups.{found_as}
use Rattle.model.proofs.OfTable.{table_step_lem}
use Rattle.model.proofs.OfWhole.{log-in, model-sound}
use Rattle.model.proofs.Verified.{whole-keeps, found_in}

-- of position n of a log a shows the entry at its reference, value and digest the entry's own: that is the next one above n, and none stands at n
pub record ShowsNext (l : Log) (n : ℕ) (a : Attestation) : Type 0 where
  pub position : a.position ≡ n
  pub entry : Entry
  pub held : In entry l.entries
  pub reference : a.reference ≡ entry.position
  pub value : a.value ≡ entry.value
  pub digest : a.digest ≡ entry.digest
  pub low : l.low ≤ n
  pub above : n < entry.position
  pub next : (e : Entry) → In e l.entries → n ≤ e.position → entry.position ≤ e.position

skipped-only : (s : Standing) → kind_of s ≡ 2 → (e : Entry) × (s ≡ skipped e)
unfolding kind_of
skipped-only unassigned h = absurd (omega arith)
skipped-only forgotten h = absurd (omega arith)
skipped-only (assigned e) h = absurd (omega arith)
skipped-only (skipped e) h = (e, refl)

-- the entry that a position is skipped by, where a attests it
shows-next : (l : Log) (n : ℕ) (e : Entry) → Means l n (skipped e) → (a : Attestation) → a.position ≡ n → a.reference ≡ e.position → a.value ≡ e.value → a.digest ≡ e.digest
    → ShowsNext l n a
shows-next l n e h a p r v d = record { position = p; entry = e; held = h.0; reference = r; value = v; digest = d; low = h.2; above = h.1; next = h.3 }

-- ---- whole images

module _ (m : Image) (w : whole_image m ≡ true) (g n : ℕ) (c : List ℕ) (n1 : 1 ≤ n) where
  pub skipped-shows : (looked_up (row_in m g) (entries_in m g) n).kind ≡ 2 → ShowsNext (log_in m g) n (lookup_attested m g n c (looked_up (row_in m g) (entries_in m g) n))
  unfolding log_in lookup_attested found_as reference_of shown_for rules rules01
  skipped-shows two =
      let l = log_in m g in
      let ok : LogOk l = subst LogOk (log-in m g) (model-sound m (whole-linked m w) g) in
      let f = found_in m g n ok n1 in
      let s = skipped-only (standing l n) (ap (λ (x : Found). x.kind) (sym f) ∙ two) in
      let e = s.0 in
      let x : looked_up (row_in m g) (entries_in m g) n ≡ found_as l (skipped e) (examined_for l n (standing l n)) = f ∙ ap (λ (y : Standing). found_as l y (examined_for l n (standing l n))) s.1 in
      shows-next l n e (subst (Means l n) s.1 (standing-means l ok n n1)) _ refl (ap (λ (y : Found). y.reference) x) (ap (λ (y : Found). y.shown.value) x) (ap (λ (y : Found). y.shown.digest) x)

-- ---- a lookup of the model

module _ (b : Model) (keeps : Keeps b) (g n : ℕ) (n64 : n < 2 ^ 64) (c : List ℕ) (k : ℕ) where
  abbrev L : Log
  L = log_at b.logs g

  -- a skipped receipt's bytes say what was written
  said : length c ≡ 32 → (e : Entry) → Means L n (skipped e) → (r : List ℕ) → model_receipt b LOOKUP 2 g n e.position c e ≡ r → ShowsNext L n (read_attestation r)
  unfolding model_receipt
  said hc e h r q =
      let z = (keeps.fits g).sized e h.0 in
      let p64 : e.position < 2 ^ 64 = let t = (in_bounds L (keeps.sound g) e h.0).1 in let u = (keeps.fits g).high in omega arith in
      let a : Attestation = record { name = LOOKUP; kind = 2; log = g; keeper = b.keeper; position = n; reference = e.position; nonce = c; value = e.value; digest = e.digest } in
      let x : read_attestation r ≡ a = ap read_attestation (sym q) ∙ read-receipt b.key a (record { name = length-LOOKUP; keeper = keeps.keeper; position = n64; reference = p64; nonce = hc; value = z.0; digest = z.1 }) in
      shows-next L n e h (read_attestation r) (ap (λ (y : Attestation). y.position) x) (ap (λ (y : Attestation). y.reference) x) (ap (λ (y : Attestation). y.value) x) (ap (λ (y : Attestation). y.digest) x)

  pub model-skipped : (r : List ℕ) → receipt_in (model_step rules b (lookup g n c k)).reply ≡ some r → (read_attestation r).kind ≡ 2 → ShowsNext L n (read_attestation r)
  unfolding model_accept model_lookup kind_of reference_of shown_for rules rules01
  model-skipped r q two = go (stepped rules b (lookup g n c k))
    where
      go : Stepped rules b (lookup g n c k) → ShowsNext L n (read_attestation r)
      go (turned j e) = absurd (none-ne-some r (rw e at q))
      go (taken a e) =
          let n0 = a.position in
          let n1 : 1 ≤ n = omega arith in
          let s = standing L n in
          let x : model_receipt b LOOKUP (kind_of s) g n (reference_of L s) c (shown_for rules s) ≡ r = some-injective _ _ (rw e at q) in
          let y = skipped-only s (sym (shown-kind b LOOKUP length-LOOKUP (kind_of s) g n _ c _ r x) ∙ two) in
          said a.nonce y.0 (subst (Means L n) y.1 (standing-means L (keeps.sound g) n n1)) r (ap (λ (t : Standing). model_receipt b LOOKUP (kind_of t) g n (reference_of L t) c (shown_for rules t)) (sym y.1) ∙ x)

-- ---- bytes that a lookup takes for a table, whoever wrote them

pub skipped-receipt : (b : List ℕ) → Bytes b → (g n : ℕ) (c : List ℕ) (k : ℕ) → n < 2 ^ 64 → (r : List ℕ) → receipt_in (table_step b (lookup g n c k)).reply ≡ some r
    → (read_attestation r).kind ≡ 2 → ShowsNext (log_in (read_table b) g) n (read_attestation r)
unfolding table_step table_refusal
skipped-receipt b h g n c k n64 r q two = go (table_refusal b (lookup g n c k)) refl
  where
    go : (o : Option ℕ) → table_refusal b (lookup g n c k) ≡ o → ShowsNext (log_in (read_table b) g) n (read_attestation r)
    go (some j) e = absurd (none-ne-some r (rw (table_step, e) at q))
    go none e =
        let m = read_table b in
        let w : whole b ≡ true = not-false (whole b) (clear _ m (lookup g n c k) e).whole in
        let keeps = whole-keeps m (whole-image b w) (fits_read b h (whole_formed b w)) in
        let there : receipt_in (model_step rules (model_of m) (lookup g n c k)).reply ≡ some r = ap receipt_in (sym (table_step_lem b h w (lookup g n c k) n64).reply) ∙ q in
        subst (λ (l : Log). ShowsNext l n (read_attestation r)) (log-in m g) (model-skipped (model_of m) keeps g n n64 c k r there two)
