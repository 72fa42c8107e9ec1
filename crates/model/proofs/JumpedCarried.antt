-- Document 02, [3] and [8]: a position that was skipped before the carry or after it, and is looked up after it, shows "the reading that jumped over it".
use Prim.Native.Nat.{ℕ, zero, suc, ◌^◌, ◌≤◌, ◌<◌}
use mathlib.Core.Path.{◌≡◌}
use mathlib.Core.List.{List, [], ◌∷◌, ◌++◌}
use mathlib.Core.Option.{some}
use native.Mathlib.Omega.{arith}
use lib.ListN.{length, get_elem?, replicate}
use Rattle.receipt.specs.Attestation.{read_attestation}
use Rattle.layout.specs.Fits.{Range}
use Rattle.layout.specs.Layout.{table_size}
use Rattle.table.specs.Carry.{carry_bytes}
use Rattle.a2m.specs.Call.{Call, lookup, AllWide, Reply, replies, after, receipt_in}
use Rattle.survey.specs.Requests.{Request, request_step, AllWideRequests}
use Rattle.model.specs.Model.{rules01, rules, Model}
use Rattle.model.specs.Claim.{Turn, asking, by, model_turn, call_at, reply_at, SkipsAt}
use Rattle.model.specs.Program.{program_step}
use Rattle.model.specs.Calls01.{format01, step01}
use Rattle.model.specs.Carried.{model01, carried_turns}
use Rattle.model.proofs.Turns.{WideTurn, Each, each_on, each-so}
use Rattle.model.proofs.ImageClaim.{Proper, proper, proper01, new-keeps}
use Rattle.model.proofs.CarriedProgram.{carried_program}
use Rattle.model.proofs.Jumped.{ShowsPut, model-jumped, asked_by}

-- what stands after the carry goes by the present rules
carried-by : (cs : List Call) (qs : List Request) (i : ℕ) → length cs ≤ i → (t : Turn) → get_elem? (carried_turns cs qs) i ≡ some t → t.rules ≡ rules
carried-by [] qs i l t h = asked_by qs i t h
carried-by (c ∷ cs) qs zero l t h = absurd (omega arith)
carried-by (c ∷ cs) qs (suc i) l t h = carried-by cs qs i (omega arith) t h

module _ (G S keeper : ℕ) (key : List ℕ) (counts : Range G S) (k64 : keeper < 2 ^ 64) (k32 : length key ≡ 32) (cs₁ : List Call) (w₁ : AllWide cs₁) (lent : List ℕ) (e : length lent ≡ table_size G S) (qs : List Request) (w₂ : AllWideRequests qs) where
  abbrev start : Model
  start = model01 G S keeper key

  abbrev turns : List Turn
  turns = carried_turns cs₁ qs

  abbrev answered : List Reply
  answered = replies step01 (format01 G S keeper key) cs₁ ++ replies (request_step program_step) (carry_bytes (after step01 (format01 G S keeper key) cs₁) lent) qs

  -- call j, the advance, stands anywhere in the list
  pub jumped-carried : (i j g p : ℕ) (k : SkipsAt start turns answered j g p) (c : List ℕ) (size : ℕ) (r : List ℕ) → length cs₁ ≤ i → call_at turns i ≡ some (lookup g p c size)
      → receipt_in (reply_at answered i) ≡ some r → (read_attestation r).kind ≡ 2 → ShowsPut k.n k.given k.value (read_attestation r)
  jumped-carried =
      let both : Each Proper turns = each_on Proper (by rules01 cs₁) (asking rules qs) (proper01 cs₁ w₁) (proper qs w₂) in
      let wide : Each WideTurn turns = each-so Proper WideTurn (λ (t : Turn) (p : Proper t). p.wide) turns both in
      rw (carried_program G S keeper key counts k64 k32 cs₁ w₁ lent e qs w₂).answers
      (λ (i j g p : ℕ) (k : SkipsAt start turns (replies model_turn start turns) j g p) (c : List ℕ) (size : ℕ) (r : List ℕ) (l : length cs₁ ≤ i) (h : call_at turns i ≡ some (lookup g p c size)).
      model-jumped start (new-keeps S keeper key (replicate G 0) k64) turns wide i j g p k c size r h (carried-by cs₁ qs i l))
