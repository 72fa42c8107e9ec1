-- `a2m_read::lookup::lookup_sized` meets its contract. Assumes nothing.
use native.Mathlib.Omega.{arith}
use Prim.Native.Nat.{ℕ}
use mathlib.Core.Path.{◌≡◌, refl, ap}
use lib.ListN.{length}
use Rattle.a2m.specs.Call.{lookup}
use Rattle.a2m.specs.TableCalls.{table_step}
use Rattle.a2m.proofs.Answered.{as_err, looked_not, same-look}
use Rattle.a2m.proofs.ReadLaws.{lookup-sized, read_unopened}
use Rattle.a2m.proofs.OpenedLaws.{opened}
use mathlib.Core.Bool.{true}
use Rattle.refusal.specs.Unwritten.{unwritten, counts}
use Rattle.a2m_read.proofs.lookup.lookup_sized.Code.Mir.{function}
use Rattle.a2m_read.proofs.lookup.lookup_sized.Goals as goal

-- no literal of the body becomes the count
pub counted : unwritten counts function.body ≡ true
counted = refl

pub returns-in_err-view : goal.returns-in_err-view
returns-in_err-view c =
    let call = lookup c.args.log c.args.position c.args.nonce.now (length c.args.receipt.now) in
    looked_not (table_step c.args.table.now call) _ (as_err _ c.from_residual.ensures) (read_unopened c.args.table.now c.args.log _ call c.args.receipt.now c.in_err-view.ensures refl (lookup-sized c.args.table.now c.args.nonce.now c.args.receipt.now c.args.position c.args.log (length c.args.receipt.now) (omega arith) (omega arith)))

pub invariant_of-lookup_open : goal.invariant_of-lookup_open
invariant_of-lookup_open c = record { opened = (opened c.args.table.now c.args.log c.in_ok-view.view c.in_ok-view.ensures).0 }

pub returns : goal.returns
returns c = same-look c.args.table.now (ap (λ (g : ℕ). lookup g c.args.position c.args.nonce.now (length c.args.receipt.now)) (opened c.args.table.now c.args.log c.in_ok-view.view c.in_ok-view.ensures).1) refl c.lookup_open.ensures
