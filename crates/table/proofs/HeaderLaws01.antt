-- The tests of the constants in the header of an A2MT table, test by test as the code makes them.
use Prim.Native.Nat.{ℕ, ◌≤◌}
use mathlib.Core.Path.{◌≡◌, refl, sym, ap, ◌∙◌}
use mathlib.Core.Bool.{false}
use mathlib.Core.List.{List}
use mathlib.Core.Logic.{◌≢◌}
use native.Mathlib.Omega.{arith}
use borrow.Author.Tests.{eq-eqb, ne_eqb}
use lib.Dec.{eqb}
use lib.ListN.{length}
use Rattle.octets.specs.Octets.{Bytes, part, same, zeros}
use Rattle.octets.proofs.Parts.{length_part}
use Rattle.bigendian.specs.BigEndian.{be, unbe}
use Rattle.layout.specs.Layout.{plan01, header_size, zero_offset, count_offset}
use Rattle.layout.proofs.HeaderLaws.{zero_test}
use Rattle.layout.proofs.TestLaws.{and_yes, and_no, and-not, field-same, zero-bytes}
use Rattle.table.specs.Whole01.{constants_fit01}

-- the mark "A2MT" as a big-endian number
abbrev pub mark_number01 : ℕ
mark_number01 = 0x41324D54

mark01-four : be 4 mark_number01 ≡ plan01.mark
unfolding be
mark01-four = refl

-- the constants

module _ (b : List ℕ) (bytes : Bytes b) (long : header_size ≤ length b) where
  module _ {x : ℕ} (mark : x ≡ unbe (part b 0 4)) where
    mark-test01 : eqb x mark_number01 ≡ same (part b 0 4) plan01.mark
    mark-test01 = ap (λ (n : ℕ). eqb n mark_number01) mark ∙ field-same b 0 4 mark_number01 bytes (omega arith) (omega arith) ∙ ap (same (part b 0 4)) mark01-four

    pub other-mark01 : x ≢ mark_number01 → false ≡ constants_fit01 b
    unfolding constants_fit01
    other-mark01 h = sym (and_no _ (and_no _ (sym mark-test01 ∙ ne_eqb x mark_number01 h)))

    module _ {y : ℕ} (zero : y ≡ unbe (part b zero_offset 1)) where
      zero-test01 : eqb y 0 ≡ same (part b zero_offset 1) (zeros 1)
      zero-test01 = ap (λ (n : ℕ). eqb n 0) zero ∙ zero_test b zero_offset bytes (omega arith)

      pub other-zero01 : y ≢ 0 → false ≡ constants_fit01 b
      unfolding constants_fit01
      other-zero01 h = sym (and_no _ (and-not (same (part b 0 4) plan01.mark) (sym zero-test01 ∙ ne_eqb y 0 h)))

      pub by-unused01 : {z : ℕ} → x ≡ mark_number01 → y ≡ 0 → z ≡ unbe (part b count_offset 2) → eqb z 0 ≡ constants_fit01 b
      unfolding constants_fit01
      by-unused01 m h e =
          ap (λ (n : ℕ). eqb n 0) e
          ∙ zero-bytes (part b count_offset 2)
          ∙ ap (λ (n : ℕ). same (part b count_offset 2) (zeros n)) (length_part b count_offset 2 (omega arith))
          ∙ sym (and_yes _ (and_yes _ (sym mark-test01 ∙ eq-eqb x mark_number01 m) ∙ (sym zero-test01 ∙ eq-eqb y 0 h)))
