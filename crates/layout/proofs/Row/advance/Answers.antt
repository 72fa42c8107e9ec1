-- `layout::Row::advance` meets its contract.
use Rattle.std.proofs.Common.{rules}
use Rattle.layout.specs.Changes.{advanced_row}
use Rattle.layout.proofs.Row.advance.Goals as goal

pub returns-then-self-eq0 : goal.returns-then-self-eq0
unfolding advanced_row
returns-then-self-eq0 c = search rules

pub returns-else-self-eq0 : goal.returns-else-self-eq0
unfolding advanced_row
returns-else-self-eq0 c = search rules
