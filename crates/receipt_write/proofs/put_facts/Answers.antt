-- `receipt_write::put_facts` meets its contract.
use Rattle.receipt.proofs.Writing.{facts-written}
use Rattle.receipt_write.proofs.put_facts.Goals as goal

pub returns : goal.returns
returns c = facts-written c.args.out.now c.args.f c.told-out c.put_name.ensures c.put.ensures c.put_number.ensures c.put_number-2.ensures c.put_number-3.ensures
