-- What a header says of the free slots, by which part of it: the first, how many, and the last.
use Rattle.std.specs.Prelude.{ℕ, List}
use Rattle.layout.specs.declared.Free.{Free}
use Rattle.layout.specs.declared.Free.TheVariants.{First, Count, Last}
use Rattle.layout.specs.Layout.{free_offset, count_offset, last_offset, free_of, stock_of, put_free, put_count, put_last}

abbrev pub free_place : Free → ℕ
free_place First = free_offset
free_place Count = count_offset
free_place Last = last_offset

abbrev pub free_part : Free → List ℕ → ℕ
free_part First b = free_of b
free_part Count b = (stock_of b).count
free_part Last b = (stock_of b).last

abbrev pub put_part : Free → List ℕ → ℕ → List ℕ
put_part First b n = put_free b n
put_part Count b n = put_count b n
put_part Last b n = put_last b n
