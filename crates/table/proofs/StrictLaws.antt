-- Slots read with their zero bytes: where all zero bytes are zero they are the table's slots; and where the chains along them are in order, all zero bytes are zero.
use Prim.Native.Nat.{ℕ, ◌≤◌, ◌<◌}
use mathlib.Core.Path.{◌≡◌}
use mathlib.Core.List.{List}
use mathlib.Core.Bool.{true}
use native.Mathlib.Omega.{arith}
use lib.ListN.{length}
use Rattle.layout.specs.Image.{Image, slot_at}
use Rattle.layout.specs.Layout.{cells_from}
use Rattle.layout.specs.Fits.{Slotted}
use Rattle.layout.specs.Strict.{strict_from, with_slots}
use Rattle.layout.specs.Tests.{pads_from}
use Rattle.layout.proofs.StrictCells.{length-strict, strict_same, strict-pads}
use Rattle.table.specs.WholeImage.{linked}
use Rattle.table.proofs.MetLaws.{owners-most}
use Rattle.table.proofs.ConditionLaws.{pads-conditions, pads-test}

module _ (b : List ℕ) (start slots : ℕ) where
  pub pads-same : pads_from b start slots ≡ true → strict_from b start slots ≡ cells_from b start slots
  pads-same e = strict_same b start slots (pads-conditions b start slots e)

  pub linked-pads : Slotted b start slots → (m : Image) → length m.rows ≤ 16 → linked (with_slots m (strict_from b start slots)) ≡ true → pads_from b start slots ≡ true
  linked-pads c m few w = pads-test b start slots (strict-pads b start slots c owners)
    where
      owners : (s : ℕ) → 1 ≤ s → s ≤ slots → (slot_at (strict_from b start slots) s).owner < 256
      owners s h k =
          let o = owners-most (with_slots m (strict_from b start slots)) w s h (omega (arith, length-strict b start slots)) in
          omega arith
