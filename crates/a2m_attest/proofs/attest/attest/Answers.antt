-- `a2m_attest::attest::attest` meets its contract. Assumes nothing.
use Rattle.octets.specs.Octets.{zeros}
use Rattle.a2m.proofs.ReadLaws.{attest-none, attest-shown}
use mathlib.Core.Path.{refl, ◌≡◌}
use mathlib.Core.Bool.{true}
use Rattle.refusal.specs.Unwritten.{unwritten, counts}
use Rattle.a2m_attest.proofs.attest.attest.Code.Mir.{function}
use Rattle.a2m_attest.proofs.attest.attest.Goals as goal

-- no literal of the body becomes the count
pub counted : unwritten counts function.body ≡ true
counted = refl

pub returns-in-None : goal.returns-in-None
unfolding zeros
returns-in-None c =
    record {
      blocks = c.put_receipt.ensures.blocks;
      bytes = attest-none c.args.lent.table.now c.args.facts c.args.nonce.now c.key_of-key.result.now _ _ c.put_receipt.new.out c.key_of-key.ensures c.put_receipt.ensures.bytes c.args.shown c.in-None.is refl refl;
    }

pub returns-in-Some : goal.returns-in-Some
returns-in-Some c =
    record {
      blocks = c.put_receipt-in-Some.ensures.blocks;
      bytes = attest-shown c.args.lent.table.now c.args.facts c.args.nonce.now c.key_of-key.result.now c.value_at.result.now c.digest_at.result.now c.put_receipt-in-Some.new.out c.key_of-key.ensures c.put_receipt-in-Some.ensures.bytes c.args.shown c.in-Some.s c.in-Some.is c.value_at.ensures c.digest_at.ensures;
    }
