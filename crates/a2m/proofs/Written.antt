-- A call on the bytes of an image is the call on the image, written: `table_step` is `image_step` lifted.
use Prim.Native.Nat.{ℕ}
use mathlib.Core.Path.{◌≡◌, refl}
use mathlib.Core.Option.{Option, none, some}
use lib.ListN.{length}
use Rattle.layout.specs.Image.{Image}
use Rattle.table.specs.Free.{write_table}
use Rattle.layout.specs.Fits.{Fits}
use Rattle.layout.specs.Fits.{Range}
use Rattle.table.proofs.WholeLaws.{read-write, written-whole}
use Rattle.a2m.specs.Call.{Call}
use Rattle.a2m.specs.ImageCalls.{image_refusal, image_step}
use Rattle.a2m.specs.TableCalls.{table_refusal, written, table_step}

module _ (m : Image) (f : Fits m) (counts : Range (length m.rows) (length m.slots)) (call : Call) where
  refusal-written : table_refusal (write_table m) call ≡ image_refusal m call
  unfolding table_refusal image_refusal
  refusal-written = rw (written-whole m f counts, read-write m f)

  pub step-written : table_step (write_table m) call ≡ written (image_step m call)
  unfolding table_step image_step
  step-written = go (image_refusal m call) refl
    where
      go : (r : Option ℕ) → image_refusal m call ≡ r → table_step (write_table m) call ≡ written (image_step m call)
      go none e = rw (table_step, image_step, refusal-written, e, read-write m f)
      go (some k) e = rw (table_step, image_step, refusal-written, e)
