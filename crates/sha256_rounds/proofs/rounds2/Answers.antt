-- `sha256_rounds::rounds2` meets its contract.
use Rattle.sha256.specs.Sha256.{K, round}
use Rattle.sha256_rounds.specs.Window.{last_rounds}
use Rattle.std.proofs.Common.{◌≡◌, ℕ, ◌+◌, List, get_or, sym, ap, ◌∙◌, ap₂, add-zero, arith}
use Rattle.sha256_rounds.proofs.rounds2.Goals as goal

pub returns : goal.returns
unfolding last_rounds
returns c = let next : 49 + c.args.t ≡ 48 + (c.args.t + 1) = omega arith in
    let w : List ℕ = c.args.w.now in
    c.round-2.ensures
    ∙ ap₂ (λ (u : List ℕ) (k : ℕ). round u k (get_or w (c.args.t + 1) 0))
    (c.round.ensures ∙ ap (λ (k : ℕ). round c.args.v k (get_or w c.args.t 0)) c.at.ensures ∙ ap (λ (i : ℕ). round c.args.v (get_or K (48 + i) 0) (get_or w i 0)) (sym (add-zero c.args.t)))
    (c.at-2.ensures ∙ ap (λ (i : ℕ). get_or K i 0) next)
