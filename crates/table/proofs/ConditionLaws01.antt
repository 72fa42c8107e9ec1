-- Document 01's own test `whole01` and its conditions `Whole01` agree, both ways; and bytes that an image writes in its layout are whole as the image is linked.
use Prim.Native.Nat.{ℕ}
use mathlib.Core.Path.{◌≡◌, sym, ap, ap₂, ◌∙◌, subst}
use mathlib.Core.Logic.{◌↔◌}
use mathlib.Core.List.{List}
use mathlib.Core.Bool.{true, ◌&&◌}
use lib.ListN.{length}
use Rattle.octets.specs.Octets.{Bytes, part, same, zeros}
use Rattle.octets.proofs.Same.{same-eq, eq-same}
use Rattle.layout.specs.Image.{Image}
use Rattle.layout.specs.Layout.{plan01, zero_offset, count_offset, row_offset_in, logs_of, slots_of}
use Rattle.layout.specs.Layout01.{table_size01, read01, write01}
use Rattle.layout.specs.Fits.{Fits, Unreserved, Range}
use Rattle.layout.specs.Tests.{pads_from}
use Rattle.layout.proofs.TestLaws.{and_yes, and_split}
use Rattle.layout.proofs.HeaderLaws.{in-range, header-parts, header-test}
use Rattle.layout.proofs.Layout01Laws.{length_slots01, fits-read01, length-write01, logs-write01, slots-write01, mark-write01, zero-write01, unused-write01, pads-write01, read-write01}
use Rattle.table.specs.WholeImage.{linked}
use Rattle.table.specs.Free.{free_chain}
use Rattle.table.specs.Whole01.{constants_fit01, header_fits01, pads_fit01, whole01}
use Rattle.table.specs.Conditions01.{Whole01}
use Rattle.table.proofs.ConditionLaws.{pads-conditions, pads-test, linked_conditions, conditions-linked}

-- length, constants and counts, of bytes in document 01's layout
pub record Formed01 (b : List ℕ) : Type 0 where
  pub marked : part b 0 4 ≡ plan01.mark
  pub zero : part b zero_offset 1 ≡ zeros 1
  pub unused : part b count_offset 2 ≡ zeros 2
  pub counts : Range (logs_of b) (slots_of b)
  pub sized : length b ≡ table_size01 (logs_of b) (slots_of b)

module _ (b : List ℕ) where
  pub header-conditions01 : header_fits01 b ≡ true → Formed01 b
  unfolding constants_fit01
  header-conditions01 e =
      let p = header-parts plan01 constants_fit01 b e in
      let u = and_split (same (part b 0 4) plan01.mark && same (part b zero_offset 1) (zeros 1)) (same (part b count_offset 2) (zeros 2)) p.0 in
      let v = and_split (same (part b 0 4) plan01.mark) (same (part b zero_offset 1) (zeros 1)) u.0 in
      record {
        marked = same-eq (part b 0 4) plan01.mark v.0;
        zero = same-eq (part b zero_offset 1) (zeros 1) v.1;
        unused = same-eq (part b count_offset 2) (zeros 2) u.1;
        counts = in-range (logs_of b) (slots_of b) p.1;
        sized = p.2;
      }

  header-test01 : Formed01 b → header_fits01 b ≡ true
  unfolding constants_fit01
  header-test01 f =
      header-test plan01 constants_fit01 b
      (and_yes _ (and_yes _ (eq-same (part b 0 4) plan01.mark f.marked) ∙ eq-same (part b zero_offset 1) (zeros 1) f.zero) ∙ eq-same (part b count_offset 2) (zeros 2) f.unused)
      f.counts
      f.sized

  whole01-parts : whole01 b ≡ true → (header_fits01 b ≡ true) × (pads_fit01 b ≡ true) × (linked (read01 b) ≡ true)
  unfolding whole01
  whole01-parts e =
      let s = and_split (header_fits01 b && pads_fit01 b) (linked (read01 b)) e in
      let t = and_split (header_fits01 b) (pads_fit01 b) s.0 in
      (t.0, t.1, s.1)

  pub whole01-formed : whole01 b ≡ true → Formed01 b
  whole01-formed e = header-conditions01 (whole01-parts e).0

  pub whole01-linked : whole01 b ≡ true → linked (read01 b) ≡ true
  whole01-linked e = (whole01-parts e).2

  pub whole01-fits : Bytes b → whole01 b ≡ true → Fits (read01 b)
  whole01-fits h e = fits-read01 b h (whole01-formed e).sized

  whole01-conditions : whole01 b ≡ true → Whole01 b
  whole01-conditions e =
      let p = whole01-parts e in
      let f = header-conditions01 p.0 in
      let l = linked_conditions (read01 b) p.2 in
      record {
        sized = f.sized;
        marked = f.marked;
        zero = f.zero;
        unused = f.unused;
        pads = pads-conditions b (row_offset_in plan01 (logs_of b)) (slots_of b) p.1;
        counts = f.counts;
        freed = free_chain (read01 b);
        free = l.free;
        blank = l.blank;
        chains = l.chains;
        rows = l.rows;
        total = l.total ∙ length_slots01 b;
      }

  conditions-whole01 : Whole01 b → whole01 b ≡ true
  unfolding whole01
  conditions-whole01 w =
      and_yes _ (and_yes _ (header-test01 (record { marked = w.marked; zero = w.zero; unused = w.unused; counts = w.counts; sized = w.sized }))
      ∙ pads-test b (row_offset_in plan01 (logs_of b)) (slots_of b) w.pads)
      ∙ (conditions-linked (read01 b) w.freed w.chains w.free w.blank w.rows (w.total ∙ sym (length_slots01 b))).0

  pub whole01-exactly : whole01 b ≡ true ↔ Whole01 b
  whole01-exactly = (whole01-conditions, conditions-whole01)

-- what an image writes in document 01's layout is whole as the image is linked
module _ (m : Image) (h : Fits m) (r : Range (length m.rows) (length m.slots)) where
  formed-write01 : Formed01 (write01 m)
  formed-write01 =
      record {
        marked = mark-write01 m h;
        zero = zero-write01 m h;
        unused = unused-write01 m h;
        counts = subst (λ (g : ℕ). Range g (slots_of (write01 m))) (sym (logs-write01 m h)) (subst (Range (length m.rows)) (sym (slots-write01 m h)) r);
        sized = length-write01 m h ∙ sym (ap₂ table_size01 (logs-write01 m h) (slots-write01 m h));
      }

  pads01 : pads_fit01 (write01 m) ≡ true
  pads01 = ap₂ (λ (g s : ℕ). pads_from (write01 m) (row_offset_in plan01 g) s) (logs-write01 m h) (slots-write01 m h) ∙ pads-test (write01 m) (row_offset_in plan01 (length m.rows)) (length m.slots) (pads-write01 m h)

  pub whole-write01 : Unreserved m → whole01 (write01 m) ≡ linked m
  unfolding whole01
  whole-write01 u = and_yes _ (and_yes _ (header-test01 (write01 m) formed-write01) ∙ pads01) ∙ ap linked (read-write01 m h u)
