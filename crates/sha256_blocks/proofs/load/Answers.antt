-- `sha256_blocks::load` meets its contract.
use Rattle.std.proofs.Common.{ℕ, List, [], ◌∷◌, ◌++◌, refl, ap₂, ◌∙◌, add-one, arith, length-set, take-suc-set}
use Rattle.sha256.specs.Sha256.{words}
use Rattle.sha256_blocks.proofs.load.Goals as goal

pub loop-t-init : goal.loop-t-init
unfolding words
loop-t-init c = (refl, refl)

pub loop-t-preserved : goal.loop-t-preserved
unfolding words
loop-t-preserved c = (
  length-set c.loop-t.w c.loop-t.t c.number_at.result ∙ c.loop-t.invariant.0,
  rw add-one (take-suc-set c.loop-t.w c.loop-t.t c.number_at.result (omega arith) ∙ ap₂ (λ (a : List ℕ) (x : ℕ). a ++ (x ∷ [])) c.loop-t.invariant.1 c.number_at.ensures.0),
)
