-- Lines of document 01's sample, and lines that are none, as the definition has them.
use mathlib.Core.Path.{◌≡◌, refl}
use mathlib.Core.List.{[], ◌∷◌}
use Rattle.std.specs.Prelude.{Some, None}
use Rattle.decimal.specs.Decimal.{all_digits, value_after, number_of}
use Rattle.octets.specs.Octets.{same}
use Rattle.line.specs.Fields.{parts_of, numbers_of}
use Rattle.line.specs.Command.{command_of, reserves_of, padded}
use Rattle.line.specs.declared.Command.TheVariants.{Format, Append, Advance, End}

-- format,2,3,7,1,0
sample_format : command_of (102 ∷ 111 ∷ 114 ∷ 109 ∷ 97 ∷ 116 ∷ 44 ∷ 50 ∷ 44 ∷ 51 ∷ 44 ∷ 55 ∷ 44 ∷ 49 ∷ 44 ∷ 48 ∷ []) ≡ Some (Format 2 3 7 (padded 16 (1 ∷ 0 ∷ [])))
unfolding command_of parts_of numbers_of number_of all_digits value_after same
sample_format = refl

sample_reserves : reserves_of (102 ∷ 111 ∷ 114 ∷ 109 ∷ 97 ∷ 116 ∷ 44 ∷ 50 ∷ 44 ∷ 51 ∷ 44 ∷ 55 ∷ 44 ∷ 49 ∷ 44 ∷ 48 ∷ []) ≡ 1 ∷ 0 ∷ []
unfolding reserves_of command_of parts_of numbers_of number_of all_digits value_after same
sample_reserves = refl

-- format,2,3,7 and format,2,3,7,1: "G reserves follow the keeper number, otherwise 15"
no_reserves : command_of (102 ∷ 111 ∷ 114 ∷ 109 ∷ 97 ∷ 116 ∷ 44 ∷ 50 ∷ 44 ∷ 51 ∷ 44 ∷ 55 ∷ []) ≡ None
unfolding command_of parts_of numbers_of number_of all_digits value_after same
no_reserves = refl

one-reserve : command_of (102 ∷ 111 ∷ 114 ∷ 109 ∷ 97 ∷ 116 ∷ 44 ∷ 50 ∷ 44 ∷ 51 ∷ 44 ∷ 55 ∷ 44 ∷ 49 ∷ []) ≡ None
unfolding command_of parts_of numbers_of number_of all_digits value_after same
one-reserve = refl

-- format,0,3,7: no log, no reserve
no-log : command_of (102 ∷ 111 ∷ 114 ∷ 109 ∷ 97 ∷ 116 ∷ 44 ∷ 48 ∷ 44 ∷ 51 ∷ 44 ∷ 55 ∷ []) ≡ Some (Format 0 3 7 (padded 16 []))
unfolding command_of parts_of numbers_of number_of all_digits value_after same
no-log = refl

-- advance,0,5,0,43
sample-advance : command_of (97 ∷ 100 ∷ 118 ∷ 97 ∷ 110 ∷ 99 ∷ 101 ∷ 44 ∷ 48 ∷ 44 ∷ 53 ∷ 44 ∷ 48 ∷ 44 ∷ 52 ∷ 51 ∷ []) ≡ Some (Advance 0 5 0 43)
unfolding command_of parts_of numbers_of number_of all_digits value_after same
sample-advance = refl

-- end,1
sample-end : command_of (101 ∷ 110 ∷ 100 ∷ 44 ∷ 49 ∷ []) ≡ Some (End 1)
unfolding command_of parts_of numbers_of number_of all_digits value_after same
sample-end = refl

-- append,0,18446744073709551615
most : command_of (97 ∷ 112 ∷ 112 ∷ 101 ∷ 110 ∷ 100 ∷ 44 ∷ 48 ∷ 44 ∷ 49 ∷ 56 ∷ 52 ∷ 52 ∷ 54 ∷ 55 ∷ 52 ∷ 52 ∷ 48 ∷ 55 ∷ 51 ∷ 55 ∷ 48 ∷ 57 ∷ 53 ∷ 53 ∷ 49 ∷ 54 ∷ 49 ∷ 53 ∷ []) ≡ Some (Append 0 18446744073709551615)
unfolding command_of parts_of numbers_of number_of all_digits value_after same
most = refl

-- append,0,18446744073709551616
too_large : command_of (97 ∷ 112 ∷ 112 ∷ 101 ∷ 110 ∷ 100 ∷ 44 ∷ 48 ∷ 44 ∷ 49 ∷ 56 ∷ 52 ∷ 52 ∷ 54 ∷ 55 ∷ 52 ∷ 52 ∷ 48 ∷ 55 ∷ 51 ∷ 55 ∷ 48 ∷ 57 ∷ 53 ∷ 53 ∷ 49 ∷ 54 ∷ 49 ∷ 54 ∷ []) ≡ None
unfolding command_of parts_of numbers_of number_of all_digits value_after same
too_large = refl

-- append,00,1
leading-zero : command_of (97 ∷ 112 ∷ 112 ∷ 101 ∷ 110 ∷ 100 ∷ 44 ∷ 48 ∷ 48 ∷ 44 ∷ 49 ∷ []) ≡ None
unfolding command_of parts_of numbers_of number_of all_digits value_after same
leading-zero = refl

-- append,0,1,
trailing_comma : command_of (97 ∷ 112 ∷ 112 ∷ 101 ∷ 110 ∷ 100 ∷ 44 ∷ 48 ∷ 44 ∷ 49 ∷ 44 ∷ []) ≡ None
unfolding command_of parts_of numbers_of number_of all_digits value_after same
trailing_comma = refl

-- lookup,0
missing-field : command_of (108 ∷ 111 ∷ 111 ∷ 107 ∷ 117 ∷ 112 ∷ 44 ∷ 48 ∷ []) ≡ None
unfolding command_of parts_of numbers_of number_of all_digits value_after same
missing-field = refl
