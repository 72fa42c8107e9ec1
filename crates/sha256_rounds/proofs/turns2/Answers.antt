-- `sha256_rounds::turns2` meets its contract.
use Rattle.sha256.specs.Sha256.{K}
use Rattle.sha256_rounds.specs.Window.{turned, turns}
use Rattle.std.proofs.Common.{ℕ, get_or, sym, ap, ◌∙◌, ap₂, add-zero}
use Rattle.sha256_rounds.proofs.turns2.Goals as goal

pub returns : goal.returns
unfolding turns
returns c = c.turn-2.ensures
    ∙ ap₂ turned (c.turn.ensures ∙ ap (turned c.args.s) (c.at.ensures ∙ ap (λ (i : ℕ). get_or K i 0) (sym (add-zero c.args.t)))) c.at-2.ensures
