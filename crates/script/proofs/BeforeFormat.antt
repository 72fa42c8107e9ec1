-- Document 01: "before a format the table is torn".
use mathlib.Core.Path.{◌≡◌, refl}
use mathlib.Core.Bool.{false}
use mathlib.Core.List.{[]}
use mathlib.Core.Option.{some}
use Rattle.octets.specs.Octets.{same}
use Rattle.refusal.specs.Order.{first_fault}
use Rattle.table.specs.Whole.{whole}
use Rattle.layout.specs.Tests.{constants_fit, header_fits_in}
use Rattle.a2m.specs.Call.{Call}
use Rattle.a2m.specs.ImageCalls.{wrong_length, faults}
use Rattle.a2m.specs.TableCalls.{table_refusal, table_step}
use Rattle.script.specs.declared.Answer.TheVariants.{Plain}
use Rattle.script.specs.Answer.{call_answer}

empty_torn : whole [] ≡ false
unfolding whole header_fits_in constants_fit same
empty_torn = refl

torn-first : (call : Call) → wrong_length call ≡ false → table_refusal [] call ≡ some 1
unfolding table_refusal faults first_fault
torn-first call h = rw (h, empty_torn)

-- a call of a script, whose lengths are right, is answered 1 and leaves the table
pub before_format : (call : Call) → wrong_length call ≡ false → (call_answer [] call ≡ Plain 1) × ((table_step [] call).state ≡ [])
unfolding call_answer table_step
before_format call h = (rw (table_step, torn-first call h), rw (table_step, torn-first call h))
