-- `equivocation::pairs::stories_differ` meets its contract.
use mathlib.Core.Path.{sym, ap, ap₂, ◌∙◌}
use mathlib.Core.Bool.{not}
use borrow.Author.Tests.{eqb-true}
use Rattle.octets.specs.Octets.{same}
use Rattle.equivocation.proofs.StoryLaws.{same-pairs, both-assigned}
use Rattle.equivocation.proofs.pairs.stories_differ.Goals as goal

pub returns-then-is-2 : goal.returns-then-is-2
returns-then-is-2 c =
    ap not (c.equal.ensures ∙ ap₂ same c.pair_of.ensures c.pair_of-then-is-2.ensures ∙ same-pairs _ _ c.told-r c.told-s)
    ∙ both-assigned _ _ (eqb-true _ 1 (sym c.is.ensures ∙ c.if-is.true)) (eqb-true _ 1 (sym c.is-then-is.ensures ∙ c.if-is-2.true))
