-- Demand 3: what it says of a list of calls. Request [10]: "demand 3 counts them as the calls they make, a close as an advance", so an item of the list is a request.
use Rattle.std.specs.Prelude.{ℕ, suc, ◌<◌, ◌≤◌, ◌≡◌, ◌≢◌, List, [], ◌∷◌, map, cond, length, get_or, take, eqb}
use Rattle.std.proofs.Math.Option
use Rattle.std.proofs.Math.Option.{Option, none, some}
use Rattle.std.proofs.Math.ListN.{get_elem?}
use Rattle.refusal.specs.Answer.{answer}
use Rattle.receipt.specs.Attestation.{read_attestation}
use Rattle.receipt.specs.Verdict.{verdict}
use Rattle.layout.specs.Image.{Image}
use Rattle.table.specs.WholeImage.{meets}
use Rattle.a2m.specs.Call.{Call, append, advance, truncate, lookup, end, log_of, Puts, Reply, refused, done, Effect, replies, works, after, receipt_in}
use Rattle.a2m.specs.ImageCalls.{row_in, entries_in}
use Rattle.survey.specs.Packing.{survey_of}
use Rattle.survey.specs.Requests.{Request, plain, closes, made_of}
use Rattle.model.specs.Log.{Log}
use Rattle.model.specs.Model.{Rules, Model, log_at}
use Rattle.model.specs.ModelRequests.{model_request}
use Rattle.model.specs.Question.{question_of, nonce_of, values_of}

-- ---- lists in which each request goes by its own rules

pub record Turn : Type 0 where
  pub rules : Rules
  pub request : Request

abbrev pub asks : Rules → Request → Turn
asks ru q = record { rules = ru; request = q }

abbrev pub under : Rules → Call → Turn
under ru c = asks ru (plain c)

-- all of them by one set of rules: requests, or the five calls alone
abbrev pub asking : Rules → List Request → List Turn
asking ru qs = map (asks ru) qs

abbrev pub by : Rules → List Call → List Turn
by ru cs = map (under ru) cs

abbrev pub model_turn : Model → Turn → Effect Model
model_turn b t = model_request t.rules b t.request

-- request j of the list, and the call that it makes: none if it was turned away
unfoldable pub request_at : List Turn → ℕ → Option Request
request_at ts j = Option.map (λ (t : Turn). t.request) (get_elem? ts j)

unfoldable pub call_at : List Turn → ℕ → Option Call
call_at ts j = elim (get_elem? ts j) [ none ↦ none | some t ↦ made_of t.request ]

-- ---- what a list's answers show

-- receipt r shows position n of log g assigned, with this value and digest
pub record Shows (r : List ℕ) (g n : ℕ) (v d : List ℕ) : Type 0 where
  pub assigned : (read_attestation r).kind ≡ 1
  pub log : (read_attestation r).log ≡ g
  pub position : (read_attestation r).position ≡ n
  pub value : (read_attestation r).value ≡ v
  pub digest : (read_attestation r).digest ≡ d

abbrev pub reply_at : List Reply → ℕ → Reply
reply_at rs i = get_or rs i (refused 0)

-- the answer to call i has a receipt that shows this
pub record ShowsAt (rs : List Reply) (i g n : ℕ) (v d : List ℕ) : Type 0 where
  pub receipt : List ℕ
  pub there : receipt_in (reply_at rs i) ≡ some receipt
  pub shows : Shows receipt g n v d

-- receipt r shows position n of log g skipped, whatever value and digest it carries
pub record ShowsSkipped (r : List ℕ) (g n : ℕ) : Type 0 where
  pub skipped : (read_attestation r).kind ≡ 2
  pub log : (read_attestation r).log ≡ g
  pub position : (read_attestation r).position ≡ n

-- the answer to call j has a receipt that shows this
pub record SkippedAt (rs : List Reply) (j g n : ℕ) : Type 0 where
  pub receipt : List ℕ
  pub there : receipt_in (reply_at rs j) ≡ some receipt
  pub shows : ShowsSkipped receipt g n

-- "A position is skipped when an accepted advance of the list on that log jumps over it": call j is an advance of log g to n that was accepted, and
-- p lies between H as the calls before it left it and n
pub record SkipsAt (b : Model) (ts : List Turn) (rs : List Reply) (j g p : ℕ) : Type 0 where
  pub n : ℕ
  pub given : List ℕ
  pub value : List ℕ
  pub call : call_at ts j ≡ some (advance g n given value)
  pub low : ℕ
  pub high : ℕ
  pub accepted : reply_at rs j ≡ done low high
  pub above : (log_at (after model_turn b (take j ts)).logs g).high < p
  pub below : p < n

-- "forgotten when it lies below the n of an earlier accepted truncate on that log": call j is a truncate of log g at n that was accepted
pub record ForgetsAt (ts : List Turn) (rs : List Reply) (j g n : ℕ) : Type 0 where
  pub call : call_at ts j ≡ some (truncate g n)
  pub low : ℕ
  pub high : ℕ
  pub accepted : reply_at rs j ≡ done low high

-- the call puts x into log g
abbrev pub Stores : ℕ → List ℕ → Call → Type 0
Stores g x (append k y) = (k ≡ g) × (y ≡ x)
Stores g x (advance k n d y) = (k ≡ g) × (y ≡ x)
Stores g x (truncate k n) = ⊥
Stores g x (lookup k n c r) = ⊥
Stores g x (end k c r) = ⊥

-- call i put x at n of log g and was accepted; call j, later, looks n up; no truncate between them that was accepted goes past n
pub record Asked (ts : List Turn) (rs : List Reply) (i j g n : ℕ) (x : List ℕ) : Type 0 where
  pub put : Call
  pub stores : Stores g x put
  pub first : call_at ts i ≡ some put
  pub low : ℕ
  pub accepted : reply_at rs i ≡ done low n
  pub nonce : List ℕ
  pub sized : length nonce ≡ 32
  pub second : call_at ts j ≡ some (lookup g n nonce 160)
  pub later : i < j
  pub kept : (k m : ℕ) → i < k → k < j → ForgetsAt ts rs k g m → m ≤ n

-- request i makes an append or advance of log g, by whatever name, which was accepted: it assigns n, the H answered
pub record AssignsAt (ts : List Turn) (rs : List Reply) (i g n : ℕ) : Type 0 where
  pub put : Call
  pub call : call_at ts i ≡ some put
  pub puts : Puts put
  pub log : log_of put ≡ g
  pub low : ℕ
  pub accepted : reply_at rs i ≡ done low n

-- request i closes survey s of log g and was accepted
pub record ClosesAt (ts : List Turn) (rs : List Reply) (i g s : ℕ) : Type 0 where
  pub value : List ℕ
  pub request : request_at ts i ≡ some (closes g s value)
  pub low : ℕ
  pub high : ℕ
  pub accepted : reply_at rs i ≡ done low high

-- ---- what the table after the list says

-- how often s stands in a list
unfoldable pub times : ℕ → List ℕ → ℕ
times s [] = 0
times s (x ∷ xs) = cond (eqb s x) (suc (times s xs)) (times s xs)

-- row g's L, H and reserve and the entries along its chain are the log's
pub record RowSays (m : Image) (g : ℕ) (l : Log) : Type 0 where
  pub low : (row_in m g).low ≡ l.low
  pub high : (row_in m g).high ≡ l.high
  pub entries : entries_in m g ≡ l.entries
  pub reserve : (row_in m g).reserve ≡ l.reserve

-- ---- the claim

-- of the model b at first, the requests ts, each by its rules, their answers rs with the blocks ks, and the table m after them. For an accepted format b is `new_model` of
-- its arguments, and every request goes by the present `rules`
pub record ListClaim (b : Model) (ts : List Turn) (rs : List Reply) (ks : List ℕ) (m : Image) : Type 0 where
  -- "every answer is the one that document 01's plain book gives for the calls so far": receipts and examined numbers included
  pub answers : rs ≡ replies model_turn b ts
  -- request [2], "An answer is all that a call returns": the blocks that each call reports are the plain book's
  pub blocks : ks ≡ works model_turn b ts
  -- "no two receipts from the list show one log and position assigned with different values or digests"
  pub agreeing : (i j g n : ℕ) (v d v' d' : List ℕ) → ShowsAt rs i g n v d → ShowsAt rs j g n v' d' → (v ≡ v') × (d ≡ d')
  -- "none shows as assigned a position that the list skips", be it before or after the receipt
  pub unskipped : (i j g p : ℕ) (v d : List ℕ) → SkipsAt b ts rs j g p → ShowsAt rs i g p v d → ⊥
  -- "or one forgotten by then"
  pub remembered : (i j g p n : ℕ) (v d : List ℕ) → j < i → ForgetsAt ts rs j g n → p < n → ShowsAt rs i g p v d → ⊥
  -- request [13], "Receipts that one list of calls as in demand 3 wrote are never such a pair": beside `agreeing`, no two show one log and position, one
  -- assigned and one skipped, whichever was written first
  pub apart : (i j g n : ℕ) (v d : List ℕ) → ShowsAt rs i g n v d → SkippedAt rs j g n → ⊥
  -- "Position 0 is never assigned."
  pub positive : (i g n : ℕ) (v d : List ℕ) → ShowsAt rs i g n v d → 1 ≤ n
  -- what a lookup or an end wrote, by whichever rules, the verifier accepts under the book's key, for the question that the call was, with what the book
  -- says then
  pub verified : (i : ℕ) (c : Call) (r : List ℕ) → call_at ts i ≡ some c → receipt_in (reply_at rs i) ≡ some r
      → verdict b.key r (nonce_of c) (question_of b.keeper c) ≡ answer 0 (values_of (after model_turn b (take i ts)) c)
  -- "after the list every slot is free or held by one log, exactly once": "all these chains together meet every slot from 1 to S exactly once"
  pub slots : (s : ℕ) → 1 ≤ s → s ≤ b.size → times s (meets m) ≡ 1
  -- "After the list, each row's L and H and the entries along its chain are the book's."
  pub rows : (g : ℕ) → g < length b.logs → RowSays m g (log_at (after model_turn b ts).logs g)
  -- the table has its G rows and S slots
  pub logs : length m.rows ≡ length b.logs
  pub size : length m.slots ≡ b.size
  -- "1 never occurs."
  pub untorn : (i : ℕ) → reply_at rs i ≢ refused 1
  -- and what a call put is found again: a later lookup shows it assigned with the value put, unless an accepted truncate went past it
  pub recalled : (i j g n : ℕ) (x : List ℕ) → Asked ts rs i j g n x → (d : List ℕ) × ShowsAt rs j g n x d
  -- the positions assigned in a log rise
  pub rising : (i j g n m : ℕ) → i < j → AssignsAt ts rs i g n → AssignsAt ts rs j g m → n < m
  -- "After an accepted close, no later call of demand 3's list assigns a position of that survey in that log."
  pub closed : (i j g s n : ℕ) → i < j → ClosesAt ts rs i g s → AssignsAt ts rs j g n → survey_of n ≢ s
