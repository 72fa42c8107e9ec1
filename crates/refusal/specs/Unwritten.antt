-- Document 02 [2]: "The hash now also returns how many 64-byte blocks it compressed .. Everything above passes the total on."
-- A contract that says `r ≡ 6` holds of a body that writes 6 as well as of one that passes the hash's count on. A body that is
-- `unwritten` has no literal of these values, so none that could become the count. Not shut out: a count computed from larger
-- literals, or had from another function; so each function that passes a count on has a fact `counted` of its own.
use Rattle.std.specs.Prelude.{ℕ, ◌-◌, ◌^◌, Bool, true, false, not, ◌&&◌, ◌||◌, List, [], ◌∷◌, eqb}
use mir.Syntax.{Width, w8, w16, w32, w64, w128, Opd, copy, int, int_neg, int_big, float, opd_true, opd_false, opd_unit, ptr_const, size_of, align_of, num_of, fn_addr, vtable, Op1, bit_not, cast, ptr_addr, count_leading_zeros, count_trailing_zeros, count_ones, float_neg, float_sqrt, float_to_int, int_to_float, float_to_float, float_to_bits, float_from_bits, vt_method, vt_size, vt_align, map1, recast, bitmask, Rv, rv_opd, op2, op1, addr_of, aggregate, repeat, repeat_p, select, Body, skip, seq, assign, block, loop, cond, switch, exit, return, call, unreachable, call_v, lend_static, Arms, arm, default, no_default}

-- the counts of an entry and of a tag, 2 and 6, and the numbers between, so that no sum of two such literals is 6
abbrev pub counts : List ℕ
counts = 2 ∷ 3 ∷ 4 ∷ 5 ∷ 6 ∷ []

abbrev pub among : List ℕ → ℕ → Bool
among [] n = false
among (k ∷ ks) n = eqb k n || among ks n

-- the width of a u64, which a count is. A usize has it too; a byte and the tag of an enum (that of `Length` is 5) have not
abbrev pub count_wide : Width → Bool
count_wide w8 = false
count_wide w16 = false
count_wide w32 = false
count_wide w64 = true
count_wide w128 = false

-- no literal u64 of these values, also none written as 2 ^ 64 - k, and no literal pointer, size or number of a type at all
abbrev pub unwritten_opd : List ℕ → Opd → Bool
unwritten_opd ns (copy p) = true
unwritten_opd ns (int w n) = not (count_wide w && among ns n)
unwritten_opd ns (int_neg w k) = not (count_wide w && among ns (2 ^ 64 - k))
unwritten_opd ns (int_big w n) = not (count_wide w && among ns n)
unwritten_opd ns (float f n) = true
unwritten_opd ns opd_true = true
unwritten_opd ns opd_false = true
unwritten_opd ns opd_unit = true
unwritten_opd ns (ptr_const n) = false
unwritten_opd ns (size_of t) = false
unwritten_opd ns (align_of t) = false
unwritten_opd ns (num_of w t) = false
unwritten_opd ns (fn_addr f s) = false
unwritten_opd ns (vtable t s) = false

abbrev pub unwritten_all : List ℕ → List Opd → Bool
unwritten_all ns [] = true
unwritten_all ns (o ∷ os) = unwritten_opd ns o && unwritten_all ns os

-- no cast to a u64, so that no literal of another type becomes one
abbrev pub unwidened : Op1 → Bool
unwidened bit_not = true
unwidened (cast s t w) = not (count_wide w)
unwidened ptr_addr = true
unwidened count_leading_zeros = true
unwidened count_trailing_zeros = true
unwidened count_ones = true
unwidened float_neg = true
unwidened (float_to_int s w) = not (count_wide w)
unwidened (int_to_float s f) = true
unwidened (float_to_float f) = true
unwidened float_to_bits = false
unwidened (float_from_bits f) = true
unwidened float_sqrt = true
unwidened (vt_method n) = false
unwidened vt_size = false
unwidened vt_align = false
unwidened (map1 o) = unwidened o
unwidened (recast w) = not (count_wide w)
unwidened (bitmask w) = not (count_wide w)

abbrev pub unwritten_rv : List ℕ → Rv → Bool
unwritten_rv ns (rv_opd o) = unwritten_opd ns o
unwritten_rv ns (op2 f a b) = unwritten_opd ns a && unwritten_opd ns b
unwritten_rv ns (op1 f a) = unwidened f && unwritten_opd ns a
unwritten_rv ns (addr_of p) = true
unwritten_rv ns (aggregate os) = unwritten_all ns os
unwritten_rv ns (repeat o n) = unwritten_opd ns o
unwritten_rv ns (repeat_p o n) = unwritten_opd ns o
unwritten_rv ns (select a b c) = unwritten_opd ns a && (unwritten_opd ns b && unwritten_opd ns c)

abbrev mutual
  pub unwritten : List ℕ → Body → Bool
  unwritten ns skip = true
  unwritten ns (seq a b) = unwritten ns a && unwritten ns b
  unwritten ns (assign p r) = unwritten_rv ns r
  unwritten ns (block b) = unwritten ns b
  unwritten ns (loop b) = unwritten ns b
  unwritten ns (cond o a b) = unwritten_opd ns o && (unwritten ns a && unwritten ns b)
  unwritten ns (switch o rest) = unwritten_opd ns o && unwritten_arms ns rest
  unwritten ns (exit n) = true
  unwritten ns return = true
  unwritten ns (call f os p) = unwritten_all ns os
  unwritten ns unreachable = true
  unwritten ns (call_v f s os p) = unwritten_opd ns f && unwritten_all ns os
  unwritten ns (lend_static p t c) = false

  pub unwritten_arms : List ℕ → Arms → Bool
  unwritten_arms ns (arm ks b rest) = unwritten ns b && unwritten_arms ns rest
  unwritten_arms ns (default b) = unwritten ns b
  unwritten_arms ns no_default = true
