-- What the header says of the free slots, read and written.
use Rattle.std.proofs.Common.{ℕ, List, ◌≡◌}
use Rattle.octets.specs.Octets.{part, splice}
use Rattle.bigendian.specs.BigEndian.{be, unbe}
use Rattle.layout.specs.declared.Free.{Free}
use Rattle.layout.specs.declared.Free.TheVariants.{First, Count, Last}
use Rattle.layout.specs.Layout.{free_of, stock_of, put_free, put_count, put_last}
use Rattle.layout.specs.Free.{free_place, free_part, put_part}

pub free-read : (f : Free) (b : List ℕ) {n : ℕ} → n ≡ unbe (part b (free_place f) 2) → n ≡ free_part f b
unfolding free_of stock_of
free-read First b e = e
free-read Count b e = e
free-read Last b e = e

pub free-put : (f : Free) (b : List ℕ) (n : ℕ) {o : List ℕ} → o ≡ splice b (free_place f) (be 2 n) → o ≡ put_part f b n
unfolding put_free put_count put_last
free-put First b n e = e
free-put Count b n e = e
free-put Last b n e = e
