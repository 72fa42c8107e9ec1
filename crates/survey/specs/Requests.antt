-- Request [10]: calls by survey and reading. A call of demand 3's list is one of the five, or one of these: "demand 3 counts them as the calls they make, a
-- close as an advance".
use Rattle.std.specs.Prelude.{ℕ, List, [], ◌∷◌, Bool}
use Rattle.std.proofs.Math.Option.{Option, none, some}
use Rattle.octets.specs.Octets.{zeros}
use Rattle.refusal.specs.Order.{fault, first_fault}
use Rattle.a2m.specs.Call.{Call, advance, lookup, Wide, refused, Effect, effect}
use Rattle.a2m.specs.ImageCalls.{wrong_length}
use Rattle.survey.specs.Packing.{packed, too_wide, last_reading}

pub data Request : Type 0 where
  plain : Call → Request
  advances : (log survey reading : ℕ) (digest value : List ℕ) → Request
  looks : (log survey reading : ℕ) (nonce : List ℕ) (lent : ℕ) → Request
  closes : (log survey : ℕ) (value : List ℕ) → Request

-- the call that it makes. "Closing a survey advances its log to that survey's reading 2^40 − 1 with a zero digest and a given value."
abbrev pub call_of : Request → Call
call_of (plain c) = c
call_of (advances g s r d x) = advance g (packed s r) d x
call_of (looks g s r c k) = lookup g (packed s r) c k
call_of (closes g s x) = advance g (packed s last_reading) (zeros 32) x

-- 18, "tested after 7 and before 1": what turns a call by survey and reading away before it becomes a call on the table, by its arguments alone
unfoldable pub turned_away : Call → Bool → Option ℕ
turned_away c wide = first_fault (fault 7 (wrong_length c) ∷ fault 18 wide ∷ [])

unfoldable pub early : Request → Option ℕ
early (plain c) = none
early (advances g s r d x) = turned_away (advance g (packed s r) d x) (too_wide s r)
early (looks g s r c k) = turned_away (lookup g (packed s r) c k) (too_wide s r)
early (closes g s x) = turned_away (advance g (packed s last_reading) (zeros 32) x) (too_wide s last_reading)

-- the call made, if the request is not turned away
unfoldable pub made_of : Request → Option Call
made_of q = elim (early q) [ none ↦ some (call_of q) | some k ↦ none ]

-- "demand 3 counts them as the calls they make": the calls of a list of requests, without those turned away
unfoldable pub made : List Request → List Call
made [] = []
made (q ∷ qs) = elim (made_of q) [ none ↦ made qs | some c ↦ c ∷ made qs ]

-- what those calls gave, and between them what a request that is turned away gives
abbrev next : {A : Type 0} → (List A → List A) → List A → List A
next more [] = []
next more (a ∷ rest) = a ∷ more rest

unfoldable pub woven : {A : Type 0} → (ℕ → A) → List Request → List A → List A
woven away [] rest = []
woven away (q ∷ qs) rest = elim (early q) [ none ↦ next (woven away qs) rest | some k ↦ away k ∷ woven away qs rest ]

-- a step of calls as one of requests: "A refusal changes no lent byte", and its blocks are "0 for a table call"
unfoldable pub request_step : {S : Type 0} → (S → Call → Effect S) → S → Request → Effect S
request_step step s q = elim (early q) [ none ↦ step s (call_of q) | some k ↦ effect (refused k) 0 s ]

-- the five calls' numbers are as wide as their types; of the others any number is given
abbrev pub WideRequest : Request → Type 0
WideRequest (plain c) = Wide c
WideRequest (advances g s r d x) = Unit {0}
WideRequest (looks g s r c k) = Unit {0}
WideRequest (closes g s x) = Unit {0}

abbrev pub AllWideRequests : List Request → Type 0
AllWideRequests [] = Unit {0}
AllWideRequests (q ∷ qs) = WideRequest q × AllWideRequests qs
