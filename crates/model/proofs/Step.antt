-- On an image that says a sound model, every call answers as the model does, and leaves an image that says the model after.
use Prim.Native.Nat.{ℕ, suc, ◌+◌, ◌<◌}
use native.Mathlib.Numerals.{add-one}
use mathlib.Core.Path.{◌≡◌, refl, sym, ap, ap₂, subst, ◌∙◌}
use mathlib.Core.Logic.{◌≢◌}
use mathlib.Core.List.{List}
use mathlib.Core.Bool.{false}
use mathlib.Core.Option.{Option, none, some}
use native.Mathlib.Omega.{arith}
use lib.ListN.{length, set}
use lib.Seq.{get_or-set_same}
use lib.Dec.{eqb}
use Rattle.receipt.specs.Attestation.{receipt_bytes}
use Rattle.layout.specs.Image.{Entry, Image, entry_of, slot_at}
use Rattle.a2m.specs.Call.{Call, append, advance, truncate, lookup, end, Reply, done, found, ended, Effect}
use Rattle.a2m.specs.NewEntry.{new_entry}
use Rattle.a2m.specs.Search.{looked_up}
use Rattle.a2m.specs.ImageCalls.{row_in, entries_in, put, previous_in, lookup_attested, end_kind, end_attested, image_done, image_accept, image_step}
use Rattle.model.specs.Log.{Log, fresh_log, last_entry, entered, standing, examined_for}
use Rattle.model.specs.Model.{slot_rule, rules, Model, log_at, total, with_log, model_refusal, model_receipt, model_lookup, model_end, model_done, model_accept, model_step}
use Rattle.model.proofs.Represents.{Rep, Sound}
use Rattle.model.proofs.Reading.{entries-are, empty-is, full_is, last-is}
use Rattle.model.proofs.Backed.{Backed}
use Rattle.model.proofs.Put.{put_keeps}
use Rattle.model.proofs.Truncate.{truncate-keeps}
use Rattle.model.proofs.Refusals.{refusal_is}
use Rattle.model.proofs.Lookups.{found_as, lookup-is}
use Rattle.model.proofs.Passed.{Passed, peel, passed}

-- one answer with its blocks, and states that say the same
pub record Agree (x : Effect Image) (y : Effect Model) : Type 0 where
  pub reply : x.reply ≡ y.reply
  pub blocks : x.blocks ≡ y.blocks
  pub state : Rep x.state y.state

done-agree : (k : ℕ) (m : Image) (b : Model) (g : ℕ) (l : Log) → g < length b.logs → Rep m (with_log b g l) → Agree (image_done k m g) (model_done k b g l)
unfolding image_done model_done
done-agree k m b g l g_g R =
    let at : log_at (set b.logs g l) g ≡ l = get_or-set_same b.logs g l (fresh_log 0) g_g in
    let w = R.rows g in
    record { reply = ap₂ (λ (x y : ℕ). done x y) (w.low ∙ ap (λ (k : Log). k.low) at) (w.high ∙ ap (λ (k : Log). k.high) at); blocks = refl; state = R }

module _ (m : Image) (b : Model) (R : Rep m b) (ok : Sound b) (k : Backed b) where
  free-slot : (g : ℕ) → rules.no_slot b g ≡ none → eqb m.free 0 ≡ false
  unfolding rules slot_rule
  free-slot g h = full_is m b R ∙ (peel (eqb (total b.logs) b.size) 5 _ h).0

  lookup-agrees : (g n : ℕ) (c : List ℕ) → n ≢ 0
      → ◌≡◌ {A = Reply} (found (receipt_bytes m.key (lookup_attested m g n c (looked_up (row_in m g) (entries_in m g) n))) (looked_up (row_in m g) (entries_in m g) n).examined) (model_lookup rules b g n c (log_at b.logs g) (standing (log_at b.logs g) n))
  unfolding lookup_attested model_lookup model_receipt found_as
  lookup-agrees g n c n0 =
      let l = log_at b.logs g in
      let f : looked_up (row_in m g) (entries_in m g) n ≡ found_as l (standing l n) (examined_for l n (standing l n)) = ap (λ (es : List Entry). looked_up (row_in m g) es n) (entries-are m b R g) ∙ lookup-is l (ok g) (row_in m g) (R.rows g).low (R.rows g).high n (omega arith) in
      rw (f, R.key, R.keeper)

  end-agrees : (g : ℕ) (c : List ℕ) → ◌≡◌ {A = Reply} (ended (receipt_bytes m.key (end_attested m g c))) (model_end b g c (log_at b.logs g).entries)
  unfolding end_kind end_attested model_end model_receipt
  end-agrees g c =
      let e : entry_of (slot_at m.slots (row_in m g).last) ≡ last_entry (log_at b.logs g).entries = last-is m b R g in
      let p : (row_in m g).high ≡ (last_entry (log_at b.logs g).entries).position = (R.rows g).high ∙ sym (ok g).top in
      let v : (slot_at m.slots (row_in m g).last).value ≡ (last_entry (log_at b.logs g).entries).value = ap (λ (x : Entry). x.value) e in
      let d : (slot_at m.slots (row_in m g).last).digest ≡ (last_entry (log_at b.logs g).entries).digest = ap (λ (x : Entry). x.digest) e in
      rw (empty-is m b R g, R.key, R.keeper, p, v, d)

  accept-agrees : (call : Call) → Passed rules b call → Agree (image_accept m call) (model_accept rules b call)
  unfolding image_accept model_accept
  accept-agrees (append g x) a =
      let l = log_at b.logs g in
      let e : new_entry ((row_in m g).high + 1) x (previous_in m g) ≡ new_entry (suc l.high) x (last_entry l.entries).digest =
      ap₂ (λ (n : ℕ) (d : List ℕ). new_entry n x d) (add-one (row_in m g).high ∙ ap suc (R.rows g).high) (ap (λ (y : Entry). y.digest) (last-is m b R g)) in
      subst (λ (y : Entry). Agree (image_done 2 (put m g y) g) (model_done 2 b g (entered l (new_entry (suc l.high) x (last_entry l.entries).digest)))) (sym e)
      (done-agree 2 _ b g _ a.log (put_keeps m b R g a.log _ (free-slot g a.slot)))
  accept-agrees (advance g n d x) a = done-agree 2 _ b g _ a.log (put_keeps m b R g a.log _ (free-slot g a.slot))
  accept-agrees (truncate g n) a = let lo = a.low in done-agree 0 _ b g _ a.log (truncate-keeps m b R g n a.log (ok g) (omega arith) a.high)
  accept-agrees (lookup g n c r) a = record { reply = lookup-agrees g n c a.position; blocks = refl; state = R }
  accept-agrees (end g c r) a = record { reply = end-agrees g c; blocks = refl; state = R }

  pub step-agrees : (call : Call) → Agree (image_step m call) (model_step rules b call)
  unfolding image_step model_step
  step-agrees call = go (model_refusal rules b call) refl
    where
      go : (r : Option ℕ) → model_refusal rules b call ≡ r → Agree (image_step m call) (model_step rules b call)
      go none e = rw (image_step, model_step, refusal_is m b R ok k call, e) (accept-agrees call (passed rules b call e))
      go (some n) e = rw (image_step, model_step, refusal_is m b R ok k call, e) (record { reply = refl; blocks = refl; state = R })
