-- `runs_compare::put_block` meets its contract.
use mathlib.Core.Path.{ap, ◌∙◌}
use Prim.Native.Nat.{ℕ, ◌+◌}
use Rattle.octets.specs.Octets.{splice}
use Rattle.bigendian.specs.BigEndian.{be}
use Rattle.runs.specs.Lent.{whole}
use Rattle.runs.proofs.BlockLaws.{size-block_from, put_is}
use Rattle.runs_compare.proofs.put_block.Goals as goal

pub returns : goal.returns
returns c = record {
  bytes = put_is (whole c.args.run.now) c.args.k c.args.digest.now c.requires.in_run c.told-digest c.args.out.now c.args.at c.requires.in_bounds
      (c.put_number.ensures ∙ ap (λ (n : ℕ). splice c.args.out.now c.args.at (be 8 n)) c.position.ensures)
      (c.put.ensures ∙ ap (splice c.put_number.new.out (c.args.at + 8)) c.value.ensures)
      c.put-2.ensures;
  size = size-block_from (whole c.args.run.now) c.args.k c.args.digest.now c.requires.in_run c.told-digest;
}
