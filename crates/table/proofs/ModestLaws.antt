-- Tables of either layout are modest: so many logs, no more than 800 slots, and reserves of two bytes.
use Rattle.std.proofs.Common.{ℕ, List, ◌∙◌, refl, sym, arith}
use Rattle.octets.specs.Octets.{Bytes}
use Rattle.layout.specs.Layout.{plan, plan01, row_offset}
use Rattle.layout.specs.Fits.{Counted, Counted01}
use Rattle.layout.specs.Strict.{strict_table, strict01}
use Rattle.layout.proofs.StrictCells.{strict-are, strict_are01, strict-count, strict_count01}
use Rattle.layout.proofs.TableLaws.{length-rows, rows_fit}
use Rattle.layout.proofs.Layout01Laws.{length_rows01, unreserved01}
use Rattle.table.specs.Forms.{Modest, FormLaws}

pub strict-modest : (b : List ℕ) (logs slots : ℕ) → Bytes b → Counted b logs slots → Modest (strict_table b) logs
strict-modest b logs slots bytes c =
    record {
      rows = length-rows b ∙ sym c.logs-are;
      slots = omega (arith, strict-count b, c.slots-are, c.slots-most);
      reserves = λ g. let f = rows_fit b bytes g in omega (arith, f.reserve);
    }

pub strict-modest01 : (b : List ℕ) (logs slots : ℕ) → Counted01 b logs slots → Modest (strict01 b) logs
strict-modest01 b logs slots c =
    record {
      rows = length_rows01 b ∙ sym c.logs-are;
      slots = omega (arith, strict_count01 b, c.slots-are, c.slots-most);
      reserves = λ g. omega (arith, unreserved01 b g);
    }

pub present-laws : FormLaws plan strict_table
present-laws = record { near = λ logs h. omega arith; slots = λ b logs slots c. strict-are b logs slots (row_offset logs) c refl; modest = λ b logs slots bytes c. strict-modest b logs slots bytes c }

pub old-laws : FormLaws plan01 strict01
old-laws = record { near = λ logs h. omega arith; slots = λ b logs slots c. strict_are01 b logs slots c; modest = λ b logs slots bytes c. strict-modest01 b logs slots c }
