-- `receipt_write::put_attested` meets its contract.
use Rattle.receipt.proofs.Writing.{attested-written, written-length}
use Rattle.receipt_write.proofs.put_attested.Goals as goal

pub returns-clause-bytes : goal.returns-clause-bytes
returns-clause-bytes c = attested-written c.args.out.now c.args.a.facts c.args.a.nonce.now c.args.a.value.now c.args.a.digest.now c.told-out c.put_array.ensures.array c.put_array-2.ensures.array c.put_array-3.ensures.array
    c.put_facts.ensures c.put_array.ensures.put c.put_array-2.ensures.put c.put_array-3.ensures.put

pub returns-clause-size : goal.returns-clause-size
returns-clause-size c = written-length c.args.a.facts c.args.a.nonce.now c.args.a.value.now c.args.a.digest.now c.put_array.ensures.array c.put_array-2.ensures.array c.put_array-3.ensures.array
