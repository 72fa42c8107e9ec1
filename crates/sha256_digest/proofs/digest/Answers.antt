-- `sha256_digest::digest` meets its contract.
use Rattle.std.proofs.Common.{ℕ, ◌*◌, List, replicate, refl, ap₂, ◌∙◌, add-one, arith}
use Rattle.bigendian.specs.BigEndian.{be}
use Rattle.octets.specs.Octets.{splice}
use Rattle.sha256.proofs.Bytes.{word-written}
use Rattle.sha256.specs.Sha256.{bytes}
use Rattle.sha256_digest.proofs.digest.Goals as goal

pub loop-i-init : goal.loop-i-init
unfolding bytes
loop-i-init c = (refl, refl)

pub loop-i-preserved : goal.loop-i-preserved
loop-i-preserved c = let z : List ℕ = replicate 32 0 in
    let i : ℕ = c.loop-i.i in (
      rw add-one (c.put_number.ensures
          ∙ ap₂ (λ (o : List ℕ) (x : ℕ). splice o (i * 4) (be 4 x)) c.loop-i.invariant.0 c.from.ensures
          ∙ word-written c.args.h z i (omega arith)),
      c.put_number.auto.out ∙ c.loop-i.invariant.1,
    )
