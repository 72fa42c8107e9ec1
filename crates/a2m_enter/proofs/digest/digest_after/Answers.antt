-- `a2m_enter::digest::digest_after` meets its contract. Assumes nothing.
use mathlib.Core.Path.{◌≡◌, refl}
use mathlib.Core.Bool.{true}
use Rattle.octets.specs.Octets.{zeros}
use Rattle.refusal.specs.Unwritten.{unwritten, counts}
use Rattle.a2m.proofs.SlotLaws.{none_before}
use Rattle.a2m_enter.proofs.digest.digest_after.Code.Mir.{function}
use Rattle.a2m_enter.proofs.digest.digest_after.Goals as goal

-- no literal of the body becomes the count
pub counted : unwritten counts function.body ≡ true
counted = refl

pub returns-in-None-clause-digest : goal.returns-in-None-clause-digest
unfolding zeros
returns-in-None-clause-digest c = none_before c.args.lent.table.now c.args.position c.args.value.now c.in-None.is c.entry_digest.ensures.0
