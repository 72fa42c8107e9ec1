-- Request [5], "A stage log asked to append or advance only while it holds fewer entries than its reserve": the calls on one log of a list, their answers, and
-- when the log is so asked.
use Rattle.std.specs.Prelude.{ℕ, ◌<◌, ◌≡◌, List, [], ◌∷◌, cond, length, eqb}
use Rattle.layout.specs.Layout.{read_table}
use Rattle.a2m.specs.Call.{log_of, Puts}
use Rattle.a2m.specs.ImageCalls.{row_in, entries_in}
use Rattle.a2m.specs.TableCalls.{table_step}
use Rattle.survey.specs.Requests.{Request, call_of, request_step}

-- the requests on log g, in their order
unfoldable pub requests_of : ℕ → List Request → List Request
requests_of g [] = []
requests_of g (q ∷ qs) = cond (eqb (log_of (call_of q)) g) (q ∷ requests_of g qs) (requests_of g qs)

-- of what a list of requests gives, one for each, that of the requests on log g
unfoldable pub answers_of : {A : Type 0} → ℕ → List Request → List A → List A
answers_of g [] xs = []
answers_of g (q ∷ qs) [] = []
answers_of g (q ∷ qs) (x ∷ xs) = cond (eqb (log_of (call_of q)) g) (x ∷ answers_of g qs xs) (answers_of g qs xs)

-- each append or advance of the list on log g, by whatever name, refused or not, meets the log holding fewer entries than its reserve
abbrev pub Within : List ℕ → ℕ → List Request → Type 0
Within b g [] = Unit {0}
Within b g (q ∷ qs) = (log_of (call_of q) ≡ g → Puts (call_of q) → length (entries_in (read_table b) g) < (row_in (read_table b) g).reserve) × Within (request_step table_step b q).state g qs
