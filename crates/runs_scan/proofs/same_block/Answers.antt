-- `runs_scan::same_block` meets its contract.
use mathlib.Core.Path.{◌≡◌, ◌∙◌}
use Rattle.runs.proofs.BlockLaws.{Entries, one-position, two-positions, digests-decide, other-entries}
use Rattle.runs_scan.proofs.same_block.Goals as goal
use Rattle.runs_scan.proofs.same_block.Goals.{then-position, else-position}

pub returns-then-equal : goal.returns-then-equal
returns-then-equal c =
    let t : c.if-position.value ≡ Entries c.args.one.now c.args.two.now c.args.k c.args.l c.requires.in_one c.requires.in_two =
    elim c.if-position.branch [
      | then-position w ↦ one-position c.args.one.now c.args.two.now c.args.k c.args.l c.requires.in_one c.requires.in_two c.position.ensures c.position-2.ensures w.if-position.true w.value.ensures w.value-then-position.ensures (w.value-is ∙ w.equal.ensures)
      | else-position w ↦ two-positions c.args.one.now c.args.two.now c.args.k c.args.l c.requires.in_one c.requires.in_two c.position.ensures c.position-2.ensures w.value-is w.if-position.false
    ] in
    digests-decide c.args.one.now c.args.two.now c.args.k c.args.l c.requires.in_one c.requires.in_two c.args.digest1.now c.args.digest2.now t c.if-equal.true c.equal-then-equal.ensures

pub returns-else-equal : goal.returns-else-equal
returns-else-equal c =
    let t : c.if-position.value ≡ Entries c.args.one.now c.args.two.now c.args.k c.args.l c.requires.in_one c.requires.in_two =
    elim c.if-position.branch [
      | then-position w ↦ one-position c.args.one.now c.args.two.now c.args.k c.args.l c.requires.in_one c.requires.in_two c.position.ensures c.position-2.ensures w.if-position.true w.value.ensures w.value-then-position.ensures (w.value-is ∙ w.equal.ensures)
      | else-position w ↦ two-positions c.args.one.now c.args.two.now c.args.k c.args.l c.requires.in_one c.requires.in_two c.position.ensures c.position-2.ensures w.value-is w.if-position.false
    ] in
    other-entries c.args.one.now c.args.two.now c.args.k c.args.l c.requires.in_one c.requires.in_two c.args.digest1.now c.args.digest2.now t c.if-equal.false
