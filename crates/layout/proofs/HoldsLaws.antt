-- Bytes that are an image's table, through calls that change them: what a caller of this crate carries from call to call, with no offset.
use Prim.Native.Nat.{ℕ, zero, suc, ◌^◌, ◌≤◌, ◌<◌}
use mathlib.Core.Path.{◌≡◌, refl, sym, ap, ap₂, ◌∙◌}
use mathlib.Core.List.{List}
use native.Mathlib.Omega.{arith}
use lib.ListN.{length, length-set}
use Rattle.octets.specs.Octets.{Bytes}
use Rattle.layout.specs.declared.Row.{Row}
use Rattle.layout.specs.Image.{Slot, Image, slot_at, set_slot}
use Rattle.layout.specs.Layout.{Stock, stocked, logs_of, slots_of, table_size, read_table, stock_of, write_with, put_row, put_slot, put_next, put_free, put_count, put_last}
use Rattle.layout.specs.Changes.{with_row, with_slot, with_free, with_next}
use Rattle.layout.specs.Fits.{RowFits, SlotFits, Fits, Formed, Counted}
use Rattle.layout.proofs.TableLaws.{length-rows, length-slots, length-write, logs-written, slots-written, read-with, write_read, fits_read}
use Rattle.layout.proofs.SpliceLaws.{fits-row, fits-slot, fits-free, next_fits, write-row, write-slot, write-next, write-free, write-count, write-last}

-- b is the table of the image m with the stock k
pub record Holds (b : List ℕ) (k : Stock) (m : Image) (logs slots : ℕ) : Type 0 where
  pub is : b ≡ write_with k m
  pub fits : Fits m
  pub logs-are : length m.rows ≡ logs
  pub slots-are : length m.slots ≡ slots
  pub logs-most : logs ≤ 16
  pub slots-most : slots ≤ 800

-- bytes of a table's length and constants are the table of their image and stock
pub holds_read : (b : List ℕ) (logs slots : ℕ) → Bytes b → Formed b → logs ≡ logs_of b → slots ≡ slots_of b → logs ≤ 16 → slots ≤ 800 → Holds b (stock_of b) (read_table b) logs slots
holds_read b logs slots h f g s l k =
    record {
      is = sym (write_read b h f);
      fits = fits_read b h f;
      logs-are = length-rows b ∙ sym g;
      slots-are = length-slots b ∙ sym s;
      logs-most = l;
      slots-most = k;
    }

module _ (b : List ℕ) (stock : Stock) (m : Image) (logs slots : ℕ) (h : Holds b stock m logs slots) where
  -- what the calls on rows and slots ask
  pub holds-counted : Counted b logs slots
  holds-counted =
      record {
        logs-are = sym (ap logs_of h.is ∙ logs-written stock m h.fits ∙ h.logs-are);
        slots-are = sym (ap slots_of h.is ∙ slots-written stock m h.fits ∙ h.slots-are);
        logs-most = h.logs-most;
        slots-most = h.slots-most;
        sized = ap length h.is ∙ length-write stock m h.fits ∙ ap₂ table_size h.logs-are h.slots-are;
      }

  pub holds-image : read_table b ≡ m
  holds-image = ap read_table h.is ∙ read-with stock m h.fits

  -- one more call: a is the table after it
  pub holds_row : (a : List ℕ) (g : ℕ) (r : Row) → a ≡ put_row b g r → g < logs → RowFits r → Holds a stock (with_row m g r) logs slots
  holds_row a g r e k f =
      record {
        is = e ∙ ap (λ (l : List ℕ). put_row l g r) h.is ∙ write-row stock m h.fits g r (omega (arith, h.logs-are));
        fits = fits-row m h.fits g r f;
        logs-are = length-set m.rows g r ∙ h.logs-are;
        slots-are = h.slots-are;
        logs-most = h.logs-most;
        slots-most = h.slots-most;
      }

  length-set_slot : (s : ℕ) (x : Slot) → length (set_slot m.slots s x) ≡ length m.slots
  unfolding set_slot
  length-set_slot zero x = refl
  length-set_slot (suc i) x = length-set m.slots i x

  pub holds-slot : (a : List ℕ) (s : ℕ) (x : Slot) → a ≡ put_slot b s x → 1 ≤ s → s ≤ slots → SlotFits x → Holds a stock (with_slot m s x) logs slots
  holds-slot a s x e l k f =
      record {
        is = e ∙ ap (λ (l : List ℕ). put_slot l s x) h.is ∙ write-slot stock m h.fits s x l (omega (arith, h.slots-are)) f;
        fits = fits-slot m h.fits s x f;
        logs-are = h.logs-are;
        slots-are = length-set_slot s x ∙ h.slots-are;
        logs-most = h.logs-most;
        slots-most = h.slots-most;
      }

  pub holds-next : (a : List ℕ) (s n : ℕ) → a ≡ put_next b s n → 1 ≤ s → s ≤ slots → n < 256 ^ 2 → Holds a stock (with_slot m s (with_next (slot_at m.slots s) n)) logs slots
  holds-next a s n e l k f =
      record {
        is = e ∙ ap (λ (l : List ℕ). put_next l s n) h.is ∙ write-next stock m h.fits s n l (omega (arith, h.slots-are));
        fits = fits-slot m h.fits s (with_next (slot_at m.slots s) n) (next_fits m h.fits s n f);
        logs-are = h.logs-are;
        slots-are = length-set_slot s (with_next (slot_at m.slots s) n) ∙ h.slots-are;
        logs-most = h.logs-most;
        slots-most = h.slots-most;
      }

  pub holds-free : (a : List ℕ) (f : ℕ) → a ≡ put_free b f → f < 256 ^ 2 → Holds a stock (with_free m f) logs slots
  holds-free a f e k =
      record {
        is = e ∙ ap (λ (l : List ℕ). put_free l f) h.is ∙ write-free stock m h.fits f;
        fits = fits-free m h.fits f k;
        logs-are = h.logs-are;
        slots-are = h.slots-are;
        logs-most = h.logs-most;
        slots-most = h.slots-most;
      }

  pub holds-count : (a : List ℕ) (n : ℕ) → a ≡ put_count b n → Holds a (stocked n stock.last) m logs slots
  holds-count a n e =
      record {
        is = e ∙ ap (λ (l : List ℕ). put_count l n) h.is ∙ write-count stock m h.fits n;
        fits = h.fits;
        logs-are = h.logs-are;
        slots-are = h.slots-are;
        logs-most = h.logs-most;
        slots-most = h.slots-most;
      }

  pub holds-last : (a : List ℕ) (s : ℕ) → a ≡ put_last b s → Holds a (stocked stock.count s) m logs slots
  holds-last a s e =
      record {
        is = e ∙ ap (λ (l : List ℕ). put_last l s) h.is ∙ write-last stock m h.fits s;
        fits = h.fits;
        logs-are = h.logs-are;
        slots-are = h.slots-are;
        logs-most = h.logs-most;
        slots-most = h.slots-most;
      }
