-- Truncate releases slots below n, and stops at the first at n or above: that one stays.
use Prim.Native.Nat.{ℕ, suc, ◌≤◌, ◌<◌}
use mathlib.Core.Path.{◌≡◌}
use borrow.Author.Tests.{le-leb, lt-leb}
use Rattle.layout.specs.Image.{Image, slot_at}
use Rattle.a2m.specs.ImageCalls.{row_in, release, releases}

pub releases-stop : (k n : ℕ) (m : Image) (g : ℕ) → n ≤ (slot_at m.slots (row_in m g).first).position → releases (suc k) n m g ≡ m
unfolding releases
releases-stop k n m g h = rw (releases, le-leb n (slot_at m.slots (row_in m g).first).position h)

pub releases-go : (k n : ℕ) (m : Image) (g : ℕ) → (slot_at m.slots (row_in m g).first).position < n → releases (suc k) n m g ≡ releases k n (release m g) g
unfolding releases
releases-go k n m g h = rw (releases, lt-leb n (slot_at m.slots (row_in m g).first).position h)
