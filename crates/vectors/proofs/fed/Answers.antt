-- `vectors::fed` meets its contract: what is absorbed part by part is what is absorbed at once.
use Rattle.sha256_digest.specs.Absorbed.{State, absorbed}
use Rattle.sha256_digest.proofs.Absorbed.{absorbed-append}
use Rattle.sha256_running.specs.Running.{state_of}
use Rattle.sha256_running.proofs.Absorb.{absorb-counts, absorb-within}
use Rattle.std.proofs.Common.{◌≡◌, List, ℕ, ◌++◌, ap, ap₂, ◌∙◌, arith, take-append-drop}
use Rattle.vectors.proofs.fed.Goals as goal

pub loop-n-preserved : goal.loop-n-preserved
loop-n-preserved c = let part : List ℕ = c.split_at.result.0.now in
    let after : List ℕ = c.split_at.result.1.now in
    let joined : part ++ after ≡ c.loop-n.rest.now = ap₂ (λ (a b : List ℕ). a ++ b) c.split_at.ensures.front c.split_at.ensures.back ∙ take-append-drop c.loop-n.n c.loop-n.rest.now in
    let count = absorb-counts _ _ _ c.absorb-s.ensures in
    record {
      growing = omega arith;
      counted = omega (arith, c.split_at.ensures.front_len, c.split_at.ensures.back_len, count);
      within = absorb-within _ _ _ c.absorb-s.ensures c.loop-n.invariant.within;
      absorbs = ap (λ (t : State). absorbed t after) c.absorb-s.ensures ∙ absorbed-append (state_of c.loop-n.s) part after ∙ ap (absorbed (state_of c.loop-n.s)) joined ∙ c.loop-n.invariant.absorbs;
    }
