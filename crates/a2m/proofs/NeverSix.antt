-- Document 02, [6]: "Refusal 6 is shown never to occur": no call on any table answers it.
use mathlib.Core.Path.{refl}
use mathlib.Core.Logic.{◌≢◌}
use Prim.Native.Nat.{ℕ}
use mathlib.Core.List.{List}
use mathlib.Core.Option.{some}
use Rattle.refusal.proofs.UnusedLaws.{never}
use Rattle.a2m.specs.Call.{Call, refused}
use Rattle.a2m.specs.ImageCalls.{faults}
use Rattle.a2m.specs.TableCalls.{table_refusal, table_step}
use Rattle.a2m.proofs.Unchanged.{refused_unchanged}

pub table_refusal_lem : (b : List ℕ) (call : Call) → table_refusal b call ≢ some 6
unfolding table_refusal faults
table_refusal_lem b call = never 6 _ refl

pub table-answer : (b : List ℕ) (call : Call) → (table_step b call).reply ≢ refused 6
table-answer b call h = table_refusal_lem b call (refused_unchanged b call 6 h).1
