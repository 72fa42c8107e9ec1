-- The five calls and their answers as data, and what a list of calls answers and leaves.
use Rattle.std.specs.Prelude.{ℕ, ◌^◌, ◌<◌, List, [], ◌∷◌}
use Rattle.std.proofs.Math.Option.{Option, none, some}
use Rattle.refusal.specs.Answer.{Answer, answer}

-- document 01: "each call's arguments (of a lent receipt only the length)"
pub data Call : Type 0 where
  append : (log : ℕ) (value : List ℕ) → Call
  advance : (log n : ℕ) (digest value : List ℕ) → Call
  truncate : (log n : ℕ) → Call
  lookup : (log n : ℕ) (nonce : List ℕ) (lent : ℕ) → Call
  end : (log : ℕ) (nonce : List ℕ) (lent : ℕ) → Call

abbrev pub log_of : Call → ℕ
log_of (append g x) = g
log_of (advance g n d x) = g
log_of (truncate g n) = g
log_of (lookup g n c k) = g
log_of (end g c k) = g

-- request [5]: "asked to append or advance", whatever else is given
abbrev pub Puts : Call → Type 0
Puts (append g x) = Unit {0}
Puts (advance g n d x) = Unit {0}
Puts (truncate g n) = ⊥
Puts (lookup g n c k) = ⊥
Puts (end g c k) = ⊥

-- the numbers are as wide as their types: positions have 64 bits. Any log number is given, and any list of bytes
abbrev pub Wide : Call → Type 0
Wide (append g x) = Unit {0}
Wide (advance g n d x) = n < 2 ^ 64
Wide (truncate g n) = n < 2 ^ 64
Wide (lookup g n c k) = n < 2 ^ 64
Wide (end g c k) = Unit {0}

abbrev pub AllWide : List Call → Type 0
AllWide [] = Unit {0}
AllWide (c ∷ cs) = Wide c × AllWide cs

-- "An answer is all that a call returns, and the 160 bytes of the receipt that an accepted lookup or end writes": a refusal's
-- number; "0 with the L and H"; 0 with the receipt and the number of entries examined; 0 with the receipt
pub data Reply : Type 0 where
  refused : ℕ → Reply
  done : (low high : ℕ) → Reply
  found : (receipt : List ℕ) (examined : ℕ) → Reply
  ended : (receipt : List ℕ) → Reply

-- document 01's number of each answer, and the values that come with it: of a change L and H, of a lookup the number examined
abbrev pub numbered : Reply → Answer
numbered (refused k) = answer k []
numbered (done low high) = answer 0 (low ∷ high ∷ [])
numbered (found receipt examined) = answer 0 (examined ∷ [])
numbered (ended receipt) = answer 0 []

-- and the receipt; "a refused call has no receipt"
abbrev pub receipt_in : Reply → Option (List ℕ)
receipt_in (refused k) = none
receipt_in (done low high) = none
receipt_in (found receipt examined) = some receipt
receipt_in (ended receipt) = some receipt

-- an answer, the blocks hashed for it (request [2]), and what stands after the call
pub record Effect (S : Type 0) : Type 0 where
  pub reply : Reply
  pub blocks : ℕ
  pub state : S

abbrev pub effect : {S : Type 0} → Reply → ℕ → S → Effect S
effect r k s = record { reply = r; blocks = k; state = s }

-- the answers to a list of calls, and what stands after it: each call gets what the last one left. An item of the list is a call, or a call with more
unfoldable pub replies : {C S : Type 0} → (S → C → Effect S) → S → List C → List Reply
replies step s [] = []
replies step s (c ∷ cs) = (step s c).reply ∷ replies step (step s c).state cs

-- the blocks of each
unfoldable pub works : {C S : Type 0} → (S → C → Effect S) → S → List C → List ℕ
works step s [] = []
works step s (c ∷ cs) = (step s c).blocks ∷ works step (step s c).state cs

unfoldable pub after : {C S : Type 0} → (S → C → Effect S) → S → List C → S
after step s [] = s
after step s (c ∷ cs) = after step (step s c).state cs
