-- `quorum::receipts::receipts_in` meets its contract.
use Rattle.std.proofs.Common.{◌%◌, length, arith}
use Rattle.roster.proofs.OnEnd.{cut, nothing_left, something_left}
use Rattle.quorum.specs.Certificate.{receipt_count}
use Rattle.quorum.proofs.Tallies.{is-certificate, not-whole_number, too-many}
use Rattle.quorum.proofs.receipts.receipts_in.Goals.{else-is_empty-via-then-is_empty+else-receipts-le32, else-is_empty-via-else-is_empty}
use Rattle.quorum.proofs.receipts.receipts_in.Goals as goal

pub returns-then-receipts-le32 : goal.returns-then-receipts-le32
unfolding receipt_count
returns-then-receipts-le32 c =
    let whole = nothing_left _ (length c.args.pile.now % 160) _ c.as_chunks.ensures.back_len c.is_empty.ensures c.if-is_empty.true in
    (is-certificate c.args.pile.now whole (omega (arith, c.as_chunks.ensures.front_len, c.if-receipts-le32.true)), (cut 159 c.args.pile.now c.as_chunks.result.0.now c.as_chunks.ensures.front whole, c.as_chunks.ensures.front_len))

pub returns-else-is_empty : goal.returns-else-is_empty
returns-else-is_empty c = elim c.else-is_empty.branch [
  | else-is_empty-via-then-is_empty+else-receipts-le32 w ↦
      let whole = nothing_left _ (length c.args.pile.now % 160) _ c.as_chunks.ensures.back_len c.is_empty.ensures w.if-is_empty.true in
      too-many c.args.pile.now whole (omega (arith, c.as_chunks.ensures.front_len, w.if-receipts-le32.false))
  | else-is_empty-via-else-is_empty w ↦ not-whole_number c.args.pile.now (something_left _ (length c.args.pile.now % 160) _ c.as_chunks.ensures.back_len c.is_empty.ensures w.if-is_empty.false)
]
