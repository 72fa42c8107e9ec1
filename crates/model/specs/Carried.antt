-- Request [8]: "Demand 3's list may hold one carry: it counts from the old formatting, the calls before the carry going by 01's rules."
use Rattle.std.specs.Prelude.{ℕ, ◌≡◌, List, ◌++◌, true, replicate}
use Rattle.octets.specs.Octets.{Bytes}
use Rattle.layout.specs.Layout01.{read01}
use Rattle.table.specs.Whole01.{whole01}
use Rattle.a2m.specs.Call.{Call, Reply, replies, after}
use Rattle.survey.specs.Requests.{Request}
use Rattle.model.specs.Model.{Model, new_model, rules01, rules, model_step}
use Rattle.model.specs.ModelOf.{model_of}
use Rattle.model.specs.Claim.{Turn, by, asking}

-- the plain book of document 01's formatting: logs without reserves
abbrev pub model01 : ℕ → ℕ → ℕ → List ℕ → Model
model01 G S keeper key = new_model S keeper key (replicate G 0)

-- "the calls before the carry going by 01's rules", those after it, calls by survey and reading among them, by the present ones
abbrev pub carried_turns : List Call → List Request → List Turn
carried_turns before later = by rules01 before ++ asking rules later

-- what demand 3 says, by document 01's rules, of an A2MT table and the answers rs after a list of calls on it, wherever its free slots stand
pub record Reached01 (G S keeper : ℕ) (key : List ℕ) (cs : List Call) (rs : List Reply) (old : List ℕ) : Type 0 where
  pub bytes : Bytes old
  pub whole : whole01 old ≡ true
  pub says : model_of (read01 old) ≡ after (model_step rules01) (model01 G S keeper key) cs
  pub answers : rs ≡ replies (model_step rules01) (model01 G S keeper key) cs
