-- `layout_header::in_range` meets its contract.
use Rattle.std.proofs.Common.{arith, sym}
use Rattle.layout.proofs.HeaderLaws.{range-in, out_of_range}
use Rattle.layout_header.proofs.in_range.Goals as goal

pub returns-in-1-to-16-1-to-800 : goal.returns-in-1-to-16-1-to-800
returns-in-1-to-16-1-to-800 c = sym (range-in _ _ (record { logs-least = omega arith; logs-most = omega arith; slots-least = omega arith; slots-most = omega arith }))

pub returns-in_default : goal.returns-in_default
returns-in_default c = out_of_range _ _ (λ r. omega arith)

pub returns-in_default-2 : goal.returns-in_default-2
returns-in_default-2 c = out_of_range _ _ (λ r. omega arith)

pub returns-in_default-3 : goal.returns-in_default-3
returns-in_default-3 c = out_of_range _ _ (λ r. omega arith)

pub returns-in_default-4 : goal.returns-in_default-4
returns-in_default-4 c = out_of_range _ _ (λ r. omega arith)
