-- Request [8], "the copy passed on as in demand 3": the lists of `Carried` and `CarriedBytes` as the program makes them, lookup and end being lent the copy to
-- read it.
use Prim.Native.Nat.{ℕ, ◌^◌, ◌<◌}
use mathlib.Core.Path.{◌≡◌}
use mathlib.Core.List.{List, ◌++◌}
use mathlib.Core.Option.{none}
use lib.ListN.{length}
use Rattle.octets.specs.Octets.{Bytes}
use Rattle.layout.specs.Fits.{Range}
use Rattle.layout.specs.Layout.{table_size, read_table}
use Rattle.layout.specs.Layout01.{read01}
use Rattle.table.specs.Carry.{carry_refusal, carry_bytes}
use Rattle.table.proofs.CarryLaws.{carry-passes}
use Rattle.a2m.specs.Call.{Call, AllWide, Reply, replies, works, after}
use Rattle.survey.specs.Requests.{Request, request_step, AllWideRequests}
use Rattle.model.specs.Model.{rules01, rules, Model}
use Rattle.model.specs.ModelOf.{model_of}
use Rattle.model.specs.Claim.{asking, by, model_turn, ListClaim}
use Rattle.model.specs.Program.{program_step}
use Rattle.model.specs.Calls01.{format01, step01}
use Rattle.model.specs.Carried.{model01, carried_turns, Reached01}
use Rattle.model.proofs.TableClaim.{Stands}
use Rattle.model.proofs.Program.{SameList, same-list}
use Rattle.model.proofs.Carried.{carry-writes, old-stands, later, length_none, reached, carry-answer, carried_claim}
use Rattle.model.proofs.CarriedBytes.{reached-stands, answer01, carried_bytes}

-- the program's calls on the copy are those through `table_step`
copy-same : (old lent : List ℕ) → carry_refusal old (length lent) ≡ none → (b : Model) → Stands (read01 old) b → (qs : List Request) → AllWideRequests qs → SameList (carry_bytes old lent) qs
copy-same old lent e b s qs w = rw (carry-writes old lent e) (same-list (read01 old) b s qs w)

pub later_program : (old lent : List ℕ) → Bytes old → carry_refusal old (length lent) ≡ none → (qs : List Request) → AllWideRequests qs
    → ListClaim (model_of (read01 old)) (asking rules qs) (replies (request_step program_step) (carry_bytes old lent) qs) (works (request_step program_step) (carry_bytes old lent) qs) (read_table (after (request_step program_step) (carry_bytes old lent) qs))
later_program old lent h e qs w =
    let t = copy-same old lent e (model_of (read01 old)) (old-stands old h (carry-passes old (length lent) e).0) qs w in
    rw (t.answers, t.blocks, t.bytes) (later old lent h e qs w)

pub reached_program : (G S keeper : ℕ) (key : List ℕ) (cs₁ : List Call) (rs₁ : List Reply) (old : List ℕ) → Reached01 G S keeper key cs₁ rs₁ old → AllWide cs₁ → (lent : List ℕ) → length lent ≡ table_size G S → (qs : List Request) → AllWideRequests qs
    → ListClaim (model01 G S keeper key) (carried_turns cs₁ qs) (rs₁ ++ replies (request_step program_step) (carry_bytes old lent) qs) (works model_turn (model01 G S keeper key) (by rules01 cs₁) ++ works (request_step program_step) (carry_bytes old lent) qs) (read_table (after (request_step program_step) (carry_bytes old lent) qs))
reached_program G S keeper key cs₁ rs₁ old r w₁ lent e qs w₂ =
    let n = length_none old (length lent) (table_size G S) (carry-answer G S keeper key cs₁ rs₁ old r (length lent)) e in
    let t = copy-same old lent n _ (reached G S keeper key cs₁ rs₁ old r) qs w₂ in
    rw (t.answers, t.blocks, t.bytes) (carried_claim G S keeper key cs₁ rs₁ old r w₁ lent e qs w₂)

module _ (G S keeper : ℕ) (key : List ℕ) (counts : Range G S) (k64 : keeper < 2 ^ 64) (k32 : length key ≡ 32) (cs₁ : List Call) (w₁ : AllWide cs₁) where
  abbrev old : List ℕ
  old = after step01 (format01 G S keeper key) cs₁

  pub carried_program : (lent : List ℕ) → length lent ≡ table_size G S → (qs : List Request) → AllWideRequests qs
      → ListClaim (model01 G S keeper key) (carried_turns cs₁ qs) (replies step01 (format01 G S keeper key) cs₁ ++ replies (request_step program_step) (carry_bytes old lent) qs)
      (works model_turn (model01 G S keeper key) (by rules01 cs₁) ++ works (request_step program_step) (carry_bytes old lent) qs) (read_table (after (request_step program_step) (carry_bytes old lent) qs))
  carried_program lent e qs w₂ =
      let n = length_none old (length lent) (table_size G S) (answer01 G S keeper key counts k64 k32 cs₁ w₁ (length lent)) e in
      let t = copy-same old lent n _ (reached-stands G S keeper key counts k64 k32 cs₁ w₁) qs w₂ in
      rw (t.answers, t.blocks, t.bytes) (carried_bytes G S keeper key counts k64 k32 cs₁ w₁ lent e qs w₂)
