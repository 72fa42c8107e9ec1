-- The question that a lookup or an end answers, and the values that the verifier is to give for its receipt: keeper, log, position, kind and reference.
use Rattle.std.specs.Prelude.{ℕ, List, [], ◌∷◌, cond}
use Rattle.receipt.specs.Verdict.{carried, lookup_of, end_of}
use Rattle.receipt.specs.declared.Question.{Question}
use Rattle.layout.specs.Image.{Image}
use Rattle.a2m.specs.Call.{Call, append, advance, truncate, lookup, end}
use Rattle.a2m.specs.Search.{looked_up}
use Rattle.a2m.specs.ImageCalls.{row_in, entries_in, lookup_attested, end_attested}
use Rattle.model.specs.Log.{kind_of, reference_of, standing}
use Rattle.model.specs.Model.{Model, log_at, is_nil}

-- "A question names keeper, log, LOOKUP or END, nonce, and for LOOKUP the position". The other calls ask nothing: their nonce is none, which the verifier
-- refuses
unfoldable pub question_of : ℕ → Call → Question
question_of keeper (append g x) = end_of keeper g
question_of keeper (advance g n d x) = end_of keeper g
question_of keeper (truncate g n) = end_of keeper g
question_of keeper (lookup g n c k) = lookup_of keeper g n
question_of keeper (end g c k) = end_of keeper g

unfoldable pub nonce_of : Call → List ℕ
nonce_of (append g x) = []
nonce_of (advance g n d x) = []
nonce_of (truncate g n) = []
nonce_of (lookup g n c k) = c
nonce_of (end g c k) = c

-- what the table attests
unfoldable pub values_in : Image → Call → List ℕ
values_in m (append g x) = []
values_in m (advance g n d x) = []
values_in m (truncate g n) = []
values_in m (lookup g n c k) = carried (lookup_attested m g n c (looked_up (row_in m g) (entries_in m g) n))
values_in m (end g c k) = carried (end_attested m g c)

-- what the model says: of a lookup's position its standing; of an end's the entry at H, or that an empty list has none
unfoldable pub values_of : Model → Call → List ℕ
values_of b (append g x) = []
values_of b (advance g n d x) = []
values_of b (truncate g n) = []
values_of b (lookup g n c k) = let l = log_at b.logs g in b.keeper ∷ g ∷ n ∷ kind_of (standing l n) ∷ reference_of l (standing l n) ∷ []
values_of b (end g c k) = let l = log_at b.logs g in b.keeper ∷ g ∷ l.high ∷ cond (is_nil l.entries) 0 1 ∷ l.high ∷ []
