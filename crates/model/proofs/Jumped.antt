-- Document 02, [3], in a list of calls: what the receipt of a skipped position shows is "the reading that jumped over it", the one that the advance put.
use Prim.Native.Nat.{ℕ, zero, suc, ◌^◌, ◌<◌}
use mathlib.Core.Path.{◌≡◌, refl, sym, ap, subst, ◌∙◌}
use mathlib.Core.Logic.{◌⊎◌, inl, inr}
use mathlib.Core.List.{List, [], ◌∷◌}
use mathlib.Core.Bool.{Bool, true, false}
use mathlib.Core.Option.{none, some, none-ne-some, some-injective}
use native.Mathlib.Omega.{arith}
use lib.ListN.{length, take, get_elem?}
use lib.Dec.{leb}
use borrow.Author.Tests.{leb-true, leb-false}
use Rattle.receipt.specs.Attestation.{Attestation, read_attestation}
use Rattle.layout.specs.Image.{Entry}
use Rattle.table.specs.Format.{format_refusal, format_bytes}
use Rattle.entry.specs.Digest.{entry_digest}
use Rattle.a2m.specs.Call.{lookup, Reply, replies, after, receipt_in}
use Rattle.survey.specs.Requests.{Request, request_step, AllWideRequests}
use Rattle.a2m.specs.NewEntry.{new_entry}
use Rattle.table.proofs.Lists.{In, in_right, in-cases}
use Rattle.model.specs.Log.{Log, entered}
use Rattle.model.specs.Model.{Rules, rules, Model, new_model, log_at, model_step}
use Rattle.model.specs.Program.{program_step}
use Rattle.model.specs.Claim.{Turn, asks, asking, model_turn, call_at, reply_at, SkipsAt}
use Rattle.model.proofs.Entries.{in_bounds}
use Rattle.model.proofs.Later.{Later}
use Rattle.model.proofs.Turns.{WideTurn, Each, each_at, each-so}
use Rattle.model.proofs.Along.{Keeps, at-keeps, at-later, at_call, skipping}
use Rattle.model.proofs.ImageClaim.{Proper, proper, new-keeps}
use Rattle.model.proofs.Program.{program_claim}
use Rattle.survey.proofs.RequestLaws.{made_wide}
use Rattle.model.proofs.Skipped.{ShowsNext, model-skipped}

-- a attests the entry that the advance put
pub record ShowsPut (n : ℕ) (given value : List ℕ) (a : Attestation) : Type 0 where
  pub reference : a.reference ≡ n
  pub shown : a.value ≡ value
  pub digest : a.digest ≡ entry_digest n value given

module _ (b : Model) (keeps : Keeps b) (ts : List Turn) (wide : Each WideTurn ts) where
  -- a lookup that goes by the present rules and finds p skipped shows the reading of the advance that skipped it: there is one entry next above p, and the
  -- advance put it
  pub model-jumped : (i j g p : ℕ) (k : SkipsAt b ts (replies model_turn b ts) j g p) (c : List ℕ) (lent : ℕ) (r : List ℕ) → call_at ts i ≡ some (lookup g p c lent) → ((t : Turn) → get_elem? ts i ≡ some t → t.rules ≡ rules)
      → receipt_in (reply_at (replies model_turn b ts) i) ≡ some r → (read_attestation r).kind ≡ 2 → ShowsPut k.n k.given k.value (read_attestation r)
  unfolding call_at entered
  model-jumped i j g p k c lent r there present q two = record {
    reference = s.reference ∙ ap (λ (y : Entry). y.position) is;
    shown = s.value ∙ ap (λ (y : Entry). y.value) is;
    digest = s.digest ∙ ap (λ (y : Entry). y.digest) is;
  }
    where
      at : ℕ → Log
      at h = log_at (after model_turn b (take h ts)).logs g

      s : ShowsNext (log_at (after model_turn b (take i ts)).logs g) p (read_attestation r)
      s =
          let call = lookup g p c lent in
          let o = at_call b ts i call there in
          let ru : o.turn.rules ≡ rules = present o.turn o.there in
          let fits : p < 2 ^ 64 = made_wide o.turn.request call o.makes (each_at WideTurn ts wide i _ o.there) in
          let m = after model_turn b (take i ts) in
          let written : receipt_in (model_step rules m call).reply ≡ some r = ap (λ (x : Rules). receipt_in (model_step x m call).reply) (sym ru) ∙ ap receipt_in (sym o.reply) ∙ q in
          model-skipped m (at-keeps b keeps ts wide i) g p fits c lent r written two

      jumper : Entry
      jumper = new_entry k.n k.value k.given

      cases : In s.entry (at j).entries ⊎ In s.entry (jumper ∷ []) → s.entry ≡ jumper
      cases (inr (inr x'')) = elim x'' [ ]
      cases (inr (inl z)) = z
      cases (inl m) =
          let h = (in_bounds (at j) ((at-keeps b keeps ts wide j).sound g) s.entry m).1 in
          let a = k.above in
          let t = s.above in
          absurd (omega arith)

      go : (x : Bool) → leb i j ≡ x → s.entry ≡ jumper
      go true e =
          let h = (in_bounds (at i) ((at-keeps b keeps ts wide i).sound g) s.entry s.held).1 in
          let l = (at-later b ts i j (leb-true i j e) g).high in
          let a = k.above in
          let t = s.above in
          absurd (omega arith)
      go false e =
          let later : Later (entered (at j) jumper) (at i) = subst (λ (l : Log). Later l (at i)) (skipping b ts j g p k) (at-later b ts (suc j) i (leb-false i j e) g) in
          let below = k.below in
          let low = s.low in
          let there : In jumper (at i).entries = later.kept jumper (in_right jumper (at j).entries (jumper ∷ []) (inl refl)) (omega arith) in
          cases (in-cases s.entry (at j).entries (jumper ∷ []) (later.old s.entry s.held (s.next jumper there (omega arith))))

      is : s.entry ≡ jumper
      is = go (leb i j) refl

-- ---- the list that the program makes on the table of an accepted format

pub asked_by : (qs : List Request) (i : ℕ) (t : Turn) → get_elem? (asking rules qs) i ≡ some t → t.rules ≡ rules
asked_by [] i t h = absurd (none-ne-some t h)
asked_by (q ∷ qs) zero t h = ap (λ (x : Turn). x.rules) (sym (some-injective (asks rules q) t h))
asked_by (q ∷ qs) (suc i) t h = asked_by qs i t h

module _ (lent : List ℕ) (G S keeper : ℕ) (key reserves : List ℕ) (k64 : keeper < 2 ^ 64) (accepted : format_refusal (length lent) G S (length key) reserves ≡ none) (qs : List Request) (w : AllWideRequests qs) where
  abbrev answered : List Reply
  answered = replies (request_step program_step) (format_bytes lent G S keeper key reserves) qs

  pub jumped-shown : (i j g p : ℕ) (k : SkipsAt (new_model S keeper key reserves) (asking rules qs) answered j g p) (c : List ℕ) (size : ℕ) (r : List ℕ) → call_at (asking rules qs) i ≡ some (lookup g p c size)
      → receipt_in (reply_at answered i) ≡ some r → (read_attestation r).kind ≡ 2 → ShowsPut k.n k.given k.value (read_attestation r)
  jumped-shown =
      let wide : Each WideTurn (asking rules qs) = each-so Proper WideTurn (λ (t : Turn) (p : Proper t). p.wide) (asking rules qs) (proper qs w) in
      rw (program_claim lent G S keeper key reserves k64 accepted qs w).answers
      (λ (i j g p : ℕ) (k : SkipsAt (new_model S keeper key reserves) (asking rules qs) (replies model_turn (new_model S keeper key reserves) (asking rules qs)) j g p) (c : List ℕ) (size : ℕ) (r : List ℕ) (h : call_at (asking rules qs) i ≡ some (lookup g p c size)).
      model-jumped (new_model S keeper key reserves) (new-keeps S keeper key reserves k64) (asking rules qs) wide i j g p k c size r h (asked_by qs i))
