-- Request [14]: "two calls on different logs of one table, each accepted in both orders, give the same answers both ways, and .. afterwards every log's
-- lookups and ends give the same receipts." Said of a step of calls, of what stands before the two, and of a call's log. "Slot numbers may differ": nothing
-- is said of the tables but what they answer. A format, and a carry, is no such call.
use Rattle.std.specs.Prelude.{ℕ, ◌^◌, ◌<◌, ◌≡◌, ◌≢◌, List}
use Rattle.a2m.specs.Call.{lookup, end, log_of, Reply, refused, Effect, replies, works}
use Rattle.a2m.specs.TableCalls.{table_step}
use Rattle.survey.specs.Requests.{Request, call_of}

-- a request's log is that of the call that it makes
abbrev pub log_asked : Request → ℕ
log_asked q = log_of (call_of q)

-- the answer is no refusal
abbrev pub Accepted : Reply → Type 0
Accepted r = (k : ℕ) → r ≢ refused k

-- "on different logs .., each accepted in both orders": c and then d, d and then c
pub record BothAccepted {S C : Type 0} (step : S → C → Effect S) (log : C → ℕ) (s : S) (c d : C) : Type 0 where
  pub apart : log c ≢ log d
  pub first : Accepted (step s c).reply
  pub then : Accepted (step (step s c).state d).reply
  pub other : Accepted (step s d).reply
  pub thence : Accepted (step (step s d).state c).reply

-- "give the same answers both ways": what each call returns, a receipt and an examined number with it, and its blocks (request [2]). Afterwards every list of
-- calls, whatever their logs, is answered alike; `wide` says that a list's numbers are as wide as their types
pub record EitherOrder {S C : Type 0} (step : S → C → Effect S) (wide : List C → Type 0) (s : S) (c d : C) : Type 0 where
  pub one : (step s c).reply ≡ (step (step s d).state c).reply
  pub one_work : (step s c).blocks ≡ (step (step s d).state c).blocks
  pub two : (step s d).reply ≡ (step (step s c).state d).reply
  pub two_work : (step s d).blocks ≡ (step (step s c).state d).blocks
  pub later : (cs : List C) → wide cs → replies step (step (step s c).state d).state cs ≡ replies step (step (step s d).state c).state cs
  pub later_work : (cs : List C) → wide cs → works step (step (step s c).state d).state cs ≡ works step (step (step s d).state c).state cs

-- two tables of which "every log's lookups and ends give the same receipts", with the same numbers
pub record SameReceipts (x y : List ℕ) : Type 0 where
  pub lookups : (g n : ℕ) (nonce : List ℕ) (lent : ℕ) → n < 2 ^ 64 → (table_step x (lookup g n nonce lent)).reply ≡ (table_step y (lookup g n nonce lent)).reply
  pub ends : (g : ℕ) (nonce : List ℕ) (lent : ℕ) → (table_step x (end g nonce lent)).reply ≡ (table_step y (end g nonce lent)).reply
