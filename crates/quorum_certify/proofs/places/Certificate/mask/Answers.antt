-- `quorum_certify::places::Certificate::mask` meets its contract.
use Rattle.std.proofs.Common.{ap₂, sym, ◌∙◌, arith}
use Rattle.std.specs.List.{concat}
use Rattle.octets.specs.Octets.{same}
use Rattle.quorum.proofs.Tallies.{mask_start, mask-set_bit, mask-other_pair, mask-no_member}
use Rattle.quorum_certify.proofs.places.Certificate.mask.Goals.{in-Some+then-equal, in-Some+else-equal, in_default}
use Rattle.quorum_certify.proofs.places.Certificate.mask.Goals as goal

pub loop-q-init : goal.loop-q-init
loop-q-init c = mask_start c.args.self.members.now (concat c.args.self.receipts.now) c.args.p

pub loop-q-preserved : goal.loop-q-preserved
loop-q-preserved c =
    elim c.match-self-q.branch [
      | in-Some+then-equal w ↦
          let s = ap₂ same (sym w.pair_at.ensures) (sym c.pair_at-pair.ensures) ∙ sym w.equal.ensures ∙ w.if-equal.true in
          w.mask-is ∙ mask-set_bit c.args.self.members.now (concat c.args.self.receipts.now) c.loop-q.q c.args.p c.loop-q.invariant w.in-Some.i w.in-Some.is (c.args.self.bounded c.loop-q.q w.in-Some.i (omega arith) w.in-Some.is) s
      | in-Some+else-equal w ↦
          let s = ap₂ same (sym w.pair_at.ensures) (sym c.pair_at-pair.ensures) ∙ sym w.equal.ensures ∙ w.if-equal.false in
          w.mask-is ∙ mask-other_pair c.args.self.members.now (concat c.args.self.receipts.now) c.loop-q.q c.args.p c.loop-q.invariant w.in-Some.i w.in-Some.is (c.args.self.bounded c.loop-q.q w.in-Some.i (omega arith) w.in-Some.is) s
      | in_default w ↦ w.mask-is ∙ mask-no_member c.args.self.members.now (concat c.args.self.receipts.now) c.loop-q.q c.args.p c.loop-q.invariant w.in_default.is
    ]
