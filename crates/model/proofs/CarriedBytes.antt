-- Request [8] with document 01's calls on bytes: from the bytes of the old formatting, through its calls and the carry, to the last table, one list of demand 3.
use Prim.Native.Nat.{ℕ, zero, suc, ◌^◌, ◌<◌}
use mathlib.Core.Path.{◌≡◌, refl, sym, ap, ◌∙◌}
use mathlib.Core.List.{List, ◌++◌}
use mathlib.Core.Bool.{true, cond}
use mathlib.Core.Option.{none, some}
use native.Mathlib.Omega.{arith}
use lib.ListN.{length, length-map, length-replicate, replicate}
use lib.Dec.{eqb}
use Rattle.octets.specs.Octets.{Bytes}
use Rattle.layout.specs.Image.{Image, free_slot}
use Rattle.layout.specs.Fits.{Range}
use Rattle.layout.specs.Layout.{table_size, read_table}
use Rattle.layout.specs.Layout01.{read01}
use Rattle.layout.proofs.ListLaws.{every-tabulate}
use Rattle.table.specs.Free.{queued_next, queue}
use Rattle.table.specs.Format.{formatted}
use Rattle.table.specs.Reserve.{sum}
use Rattle.table.specs.Whole01.{whole01}
use Rattle.table.specs.Carry.{carry_refusal, carry_bytes}
use Rattle.table.proofs.FormattedLaws.{formatted-fits}
use Rattle.a2m.specs.Call.{Call, AllWide, replies, works, after}
use Rattle.a2m.specs.TableCalls.{table_step}
use Rattle.survey.specs.Requests.{Request, request_step, AllWideRequests}
use Rattle.model.specs.Log.{fresh_log}
use Rattle.model.specs.Model.{rules01, Model, model_step}
use Rattle.model.specs.ModelOf.{model_of}
use Rattle.model.specs.Claim.{by, model_turn, ListClaim}
use Rattle.model.specs.Calls01.{format01, step01, AllGiveBytes}
use Rattle.model.specs.Carried.{model01, carried_turns, Reached01}
use Rattle.model.proofs.OfWhole.{rep_model}
use Rattle.model.proofs.NoReserves.{unreserved01}
use Rattle.model.proofs.Turns.{replies-by, after-by}
use Rattle.model.proofs.ImageClaim.{proper01, new-keeps}
use Rattle.model.proofs.Fresh.{formatted-rep, fresh_sound}
use Rattle.model.proofs.TableClaim.{Stands}
use Rattle.model.proofs.Octets01.{SlotOctets, ImageOctets, free_octets, write_octets}
use Rattle.model.proofs.Calls01Laws.{Stands01, backed01, read_back, whole-written, FollowsAll01, list_follows01}
use Rattle.model.proofs.Carried.{carry-claim, length_none, said-answer}

sum-none : (n : ℕ) → sum (replicate n 0) ≡ 0
unfolding sum
sum-none zero = refl
sum-none (suc n) = omega (arith, sum-none n)

-- what stands by document 01 stands by the present rules: its logs lack nothing
stands_now : (m : Image) (b : Model) → Stands01 m b → Stands m b
stands_now m b s = record { says = s.says; sound = s.sound; backed = backed01 m b s.says s.sound s.unreserved; fits = s.fits; counts = s.counts }

module _ (G S keeper : ℕ) (key : List ℕ) (counts : Range G S) (k64 : keeper < 2 ^ 64) (k32 : length key ≡ 32) where
  abbrev start : Model
  start = model01 G S keeper key

  abbrev first : Image
  first = formatted S keeper key (replicate G 0)

  format-stands : Stands01 first start
  format-stands = record {
    says = formatted-rep S keeper key (replicate G 0) counts.slots-least;
    sound = fresh_sound S keeper key (replicate G 0);
    unreserved = unreserved01 G S keeper key;
    fits = formatted-fits S keeper key (replicate G 0) G (length-replicate {A = ℕ} G 0) counts (rw (sum-none G) (omega arith)) k64 k32;
    counts = rw (length-map (replicate G 0) fresh_log, length-replicate {A = ℕ} G 0) counts;
  }

  format-octets : Bytes key → ImageOctets first
  unfolding formatted queue
  format-octets k = record { key = k; slots = every-tabulate SlotOctets S (λ i. free_slot (queued_next S (suc i))) (free_slot 0) (free_octets 0) (λ i h. free_octets (queued_next S (suc i))) }

  module _ (cs : List Call) (w : AllWide cs) where
    F : FollowsAll01 first start cs
    F = list_follows01 first start format-stands cs w

    -- the table that document 01's calls leave
    abbrev old : List ℕ
    old = after step01 (format01 G S keeper key) cs

    reached-image : read01 old ≡ F.image
    reached-image = ap read01 F.bytes ∙ read_back F.image (after (model_step rules01) start cs) F.stands

    pub reached-stands : Stands (read01 old) (after model_turn start (by rules01 cs))
    reached-stands = rw (reached-image, after-by rules01 start cs) (stands_now F.image (after (model_step rules01) start cs) F.stands)

    -- the calls answer as the plain book by document 01's rules
    pub answers01 : replies step01 (format01 G S keeper key) cs ≡ replies (model_step rules01) start cs
    answers01 = F.answers

    -- and leave a table that says it, and that document 01 calls whole
    pub says01 : model_of (read01 old) ≡ after (model_step rules01) start cs
    says01 = ap model_of reached-image ∙ rep_model F.image (after (model_step rules01) start cs) F.stands.says

    pub stays-whole01 : whole01 old ≡ true
    stays-whole01 = ap whole01 F.bytes ∙ whole-written F.image (after (model_step rules01) start cs) F.stands

    -- so `Carried: carried_claim` speaks of what they do: where key and values are bytes, the table is one that `Reached01` asks for
    pub calls01 : Bytes key → AllGiveBytes cs → Reached01 G S keeper key cs (replies step01 (format01 G S keeper key) cs) old
    calls01 k g = record { bytes = rw F.bytes (write_octets F.image (F.octets (format-octets k) g)); whole = stays-whole01; says = says01; answers = answers01 }

    -- the book's answer to the carry
    pub answer01 : (n : ℕ) → carry_refusal old n ≡ cond (eqb n (table_size G S)) none (some 7)
    answer01 = said-answer G S keeper key (by rules01 cs) old stays-whole01 reached-stands

    -- one list of demand 3, with document 01's calls and the carry in it
    pub carried_bytes : (lent : List ℕ) → length lent ≡ table_size G S → (qs : List Request) → AllWideRequests qs
        → ListClaim start (carried_turns cs qs) (replies step01 (format01 G S keeper key) cs ++ replies (request_step table_step) (carry_bytes old lent) qs) (works model_turn start (by rules01 cs) ++ works (request_step table_step) (carry_bytes old lent) qs) (read_table (after (request_step table_step) (carry_bytes old lent) qs))
    carried_bytes lent e qs w₂ =
        let n = length_none old (length lent) (table_size G S) (answer01 (length lent)) e in
        rw (answers01 ∙ sym (replies-by rules01 start cs)) (carry-claim start (new-keeps S keeper key (replicate G 0) k64) (by rules01 cs) (proper01 cs w) old reached-stands lent n qs w₂)
