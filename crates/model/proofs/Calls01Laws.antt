-- Document 01's calls on the bytes of an image that says a model without reserves: they answer as the model does by 01's rules, and leave the bytes of an image
-- that says the model after.
use Prim.Native.Nat.{ℕ, ◌≤◌}
use mathlib.Core.Path.{◌≡◌, refl, ap, ap₂, ◌∙◌}
use mathlib.Core.Logic.{◌≢◌}
use mathlib.Core.List.{List, [], ◌∷◌}
use mathlib.Core.Bool.{true, not}
use mathlib.Core.Option.{Option, none, some}
use native.Mathlib.Omega.{arith}
use lib.ListN.{length}
use Rattle.refusal.specs.Order.{first_fault}
use Rattle.receipt.specs.Attestation.{receipt_bytes}
use Rattle.layout.specs.Image.{Entry, Image}
use Rattle.layout.specs.Fits.{Fits, Unreserved, Range}
use Rattle.layout.specs.Layout01.{read01, write01}
use Rattle.layout.proofs.Layout01Laws.{read-write01}
use Rattle.table.specs.WholeImage.{linked}
use Rattle.table.specs.Whole01.{whole01}
use Rattle.table.proofs.ConditionLaws01.{whole-write01}
use Rattle.a2m.specs.Call.{Call, append, advance, truncate, lookup, end, Wide, AllWide, Reply, found, replies, after}
use Rattle.a2m.specs.Search.{looked_up}
use Rattle.a2m.specs.ImageCalls.{row_in, entries_in, wrong_length, misplaced, spent, full, lookup_attested, image_accept, image_step}
use Rattle.a2m.proofs.FitsAfter.{step_fits}
use Rattle.model.specs.Log.{Log, Standing, unassigned, forgotten, assigned, skipped, standing, kind_of, reference_of, examined_for}
use Rattle.model.specs.Model.{rules01, rules, Model, log_at, total, model_refusal, model_receipt, shown_for, model_lookup, model_accept, model_step}
use Rattle.model.specs.Calls01.{nothing_held01, faults01, shown01, accept01, step01, GivesBytes, AllGiveBytes}
use Rattle.model.proofs.Represents.{Rep, Sound}
use Rattle.model.proofs.Reading.{entries-are, empty-is, full_is}
use Rattle.model.proofs.Backed.{Backed}
use Rattle.model.proofs.Passed.{passed}
use Rattle.model.proofs.Lookups.{found_as, lookup-is}
use Rattle.model.proofs.WholeOf.{linked_of}
use Rattle.model.proofs.Refusals.{outside, refusal_is}
use Rattle.model.proofs.Step.{Agree, step-agrees}
use Rattle.model.proofs.Sound.{step_sound}
use Rattle.model.proofs.Along.{step-fixed}
use Rattle.model.proofs.NoReserves.{NoReserves, unreserved_backed, passes01, step_unreserved}
use Rattle.model.proofs.Octets01.{ImageOctets, accept_octets}

-- what a lookup shows by document 01's rules
shown-is : (l : Log) (s : Standing) (k : ℕ) → shown01 (found_as l s k) ≡ record { kind = kind_of s; reference = reference_of l s; shown = shown_for rules01 s; examined = k }
unfolding shown01 found_as kind_of shown_for rules01
shown-is l unassigned k = refl
shown-is l forgotten k = refl
shown-is l (assigned e) k = refl
shown-is l (skipped e) k = refl

-- ---- calls on an image

module _ (m : Image) (b : Model) (R : Rep m b) (ok : Sound b) (u : NoReserves b) where
  fewer : total b.logs ≤ b.size
  fewer = omega (arith, R.sum, R.size)

  pub backed01 : Backed b
  backed01 = unreserved_backed b u fewer

  pub rows-unreserved : Unreserved m
  rows-unreserved g = (R.rows g).reserve ∙ u g

  refusal01-is : (call : Call) → first_fault (faults01 (not (linked m)) m call) ≡ model_refusal rules01 b call
  unfolding faults01 first_fault wrong_length misplaced spent nothing_held01 full model_refusal rules01
  refusal01-is (append g x) = rw (linked_of m b R ok, R.count, (R.rows g).high, full_is m b R)
  refusal01-is (advance g n d x) = rw (linked_of m b R ok, R.count, (R.rows g).high, full_is m b R)
  refusal01-is (truncate g n) = rw (linked_of m b R ok, R.count, (R.rows g).low, (R.rows g).high, outside)
  refusal01-is (lookup g n c r) = rw (linked_of m b R ok, R.count)
  refusal01-is (end g c r) = rw (linked_of m b R ok, R.count, empty-is m b R g)

  module _ (call : Call) (e : model_refusal rules01 b call ≡ none) where
    -- the present calls accept it too
    step-accepts : image_step m call ≡ image_accept m call
    unfolding image_step
    step-accepts = rw (image_step, refusal_is m b R ok backed01 call, passes01 b u fewer call e)

    accept-agrees : Agree (image_accept m call) (model_accept rules b call)
    unfolding model_step
    accept-agrees = rw (model_step, passes01 b u fewer call e, step-accepts) at (step-agrees m b R ok backed01 call)

    accept-fits : Fits m → Wide call → Fits (image_accept m call).state
    accept-fits f w = rw step-accepts at (step_fits m f call w)

  lookup-agrees01 : (g n : ℕ) (c : List ℕ) → n ≢ 0
      → ◌≡◌ {A = Reply} (found (receipt_bytes m.key (lookup_attested m g n c (shown01 (looked_up (row_in m g) (entries_in m g) n)))) (shown01 (looked_up (row_in m g) (entries_in m g) n)).examined) (model_lookup rules01 b g n c (log_at b.logs g) (standing (log_at b.logs g) n))
  unfolding lookup_attested model_lookup model_receipt
  lookup-agrees01 g n c n0 =
      let l = log_at b.logs g in
      let f : looked_up (row_in m g) (entries_in m g) n ≡ found_as l (standing l n) (examined_for l n (standing l n)) = ap (λ (es : List Entry). looked_up (row_in m g) es n) (entries-are m b R g) ∙ lookup-is l (ok g) (row_in m g) (R.rows g).low (R.rows g).high n (omega arith) in
      rw (ap shown01 f ∙ shown-is l (standing l n) (examined_for l n (standing l n)), R.key, R.keeper)

  accept-agrees01 : (call : Call) → model_refusal rules01 b call ≡ none → Agree (accept01 m call) (model_accept rules01 b call)
  unfolding accept01 model_accept
  accept-agrees01 (append g x) e = accept-agrees (append g x) e
  accept-agrees01 (advance g n d x) e = accept-agrees (advance g n d x) e
  accept-agrees01 (truncate g n) e = accept-agrees (truncate g n) e
  accept-agrees01 (lookup g n c r) e = record { reply = lookup-agrees01 g n c (passed rules01 b (lookup g n c r) e).position; blocks = refl; state = R }
  accept-agrees01 (end g c r) e = accept-agrees (end g c r) e

  accept-fits01 : Fits m → (call : Call) → Wide call → model_refusal rules01 b call ≡ none → Fits (accept01 m call).state
  unfolding accept01
  accept-fits01 f (append g x) w e = accept-fits (append g x) e f w
  accept-fits01 f (advance g n d x) w e = accept-fits (advance g n d x) e f w
  accept-fits01 f (truncate g n) w e = accept-fits (truncate g n) e f w
  accept-fits01 f (lookup g n c r) w e = f
  accept-fits01 f (end g c r) w e = accept-fits (end g c r) e f w

-- ---- calls on bytes

-- bytes of an image that says a sound model without reserves, all within their fields
pub record Stands01 (m : Image) (b : Model) : Type 0 where
  pub says : Rep m b
  pub sound : Sound b
  pub unreserved : NoReserves b
  pub fits : Fits m
  pub counts : Range (length b.logs) b.size

module _ (m : Image) (b : Model) (s : Stands01 m b) where
  pub says-unreserved : Unreserved m
  says-unreserved = rows-unreserved m b s.says s.sound s.unreserved

  pub read_back : read01 (write01 m) ≡ m
  read_back = read-write01 m s.fits says-unreserved

  -- the bytes are whole by document 01's test exactly if the image's chains are in order
  linked-whole : whole01 (write01 m) ≡ linked m
  linked-whole = whole-write01 m s.fits (rw (s.says.count, s.says.size) s.counts) says-unreserved

  pub whole-written : whole01 (write01 m) ≡ true
  whole-written = linked-whole ∙ linked_of m b s.says s.sound

  refusal-written : (call : Call) → first_fault (faults01 (not (whole01 (write01 m))) (read01 (write01 m)) call) ≡ model_refusal rules01 b call
  refusal-written call = rw (linked-whole, read_back) (refusal01-is m b s.says s.sound s.unreserved call)

-- a call answers as the model, and leaves the bytes of an image that says the model after
record Follows01 (m : Image) (b : Model) (call : Call) : Type 0 where
  image : Image
  reply : (step01 (write01 m) call).reply ≡ (model_step rules01 b call).reply
  bytes : (step01 (write01 m) call).state ≡ write01 image
  stands : Stands01 image (model_step rules01 b call).state
  octets : ImageOctets m → GivesBytes call → ImageOctets image

step_follows01 : (m : Image) (b : Model) → Stands01 m b → (call : Call) → Wide call → Follows01 m b call
unfolding step01 model_step
step_follows01 m b s call w = go (model_refusal rules01 b call) refl
  where
    go : (r : Option ℕ) → model_refusal rules01 b call ≡ r → Follows01 m b call
    go none e =
        let a = accept-agrees01 m b s.says s.sound s.unreserved call e in
        let f = step-fixed rules01 b call in
        record {
          image = (accept01 m call).state;
          reply = rw (step01, model_step, refusal-written m b s call, e, read_back m b s) a.reply;
          bytes = rw (step01, refusal-written m b s call, e, read_back m b s);
          stands = record {
            says = rw (model_step, e) a.state;
            sound = step_sound rules01 b s.sound call;
            unreserved = step_unreserved rules01 b s.unreserved call;
            fits = accept-fits01 m b s.says s.sound s.unreserved s.fits call w e;
            counts = rw (f.count, f.size) s.counts;
          };
          octets = λ (o : ImageOctets m) (g : GivesBytes call). accept_octets m o call g;
        }
    go (some k) e =
        record {
          image = m;
          reply = rw (step01, model_step, refusal-written m b s call, e);
          bytes = rw (step01, refusal-written m b s call, e);
          stands = rw (model_step, e) s;
          octets = λ (o : ImageOctets m) (g : GivesBytes call). o;
        }

-- a list of calls
pub record FollowsAll01 (m : Image) (b : Model) (cs : List Call) : Type 0 where
  pub image : Image
  pub answers : replies step01 (write01 m) cs ≡ replies (model_step rules01) b cs
  pub bytes : after step01 (write01 m) cs ≡ write01 image
  pub stands : Stands01 image (after (model_step rules01) b cs)
  pub octets : ImageOctets m → AllGiveBytes cs → ImageOctets image

pub list_follows01 : (m : Image) (b : Model) → Stands01 m b → (cs : List Call) → AllWide cs → FollowsAll01 m b cs
unfolding replies after
list_follows01 m b s [] w = record { image = m; answers = refl; bytes = refl; stands = s; octets = λ (o : ImageOctets m) (g : Unit {0}). o }
list_follows01 m b s (c ∷ cs) w =
    let o = step_follows01 m b s c w.0 in
    let ih = list_follows01 o.image (model_step rules01 b c).state o.stands cs w.1 in
    record {
      image = ih.image;
      answers = ap₂ {C = List Reply} (λ (r : Reply) (l : List Reply). r ∷ l) o.reply (ap (λ (x : List ℕ). replies step01 x cs) o.bytes ∙ ih.answers);
      bytes = ap (λ (x : List ℕ). after step01 x cs) o.bytes ∙ ih.bytes;
      stands = ih.stands;
      octets = λ (x : ImageOctets m) (g : AllGiveBytes (c ∷ cs)). ih.octets (o.octets x g.0) g.1;
    }
