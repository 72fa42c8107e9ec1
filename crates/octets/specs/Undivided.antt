-- Document 02 [12]: "write no decimal in our programs or in [9]'s sentences with a division or remainder".
-- A contract says what text a function writes, and not how. A function that stands between a number and its text therefore has a fact
-- `undivided` on its own code: no statement divides, and every call is of a function that the fact names. Each of these has such a fact
-- itself, or stands on the short list of `.ci/undivided`, which sees to that.
use Rattle.std.specs.Prelude.{◌≡◌, Bool, true, false, ◌&&◌, ◌||◌, List, [], ◌∷◌}
use lib.Text.{eqt}
use mir.Syntax.{Symbol, Dict, Dicts, impl, given, dnil, dcons, Callee, fn, method, forked, awaited, prim, Op2, add, sub, mul, div, rem, bit_and, bit_or, bit_xor, shl, shr, eq, ne, lt, le, with_addr, offset, ptr_eq, ptr_ne, ptr_lt, ptr_le, float_add, float_sub, float_mul, float_div, float_rem, float_eq, float_ne, float_lt, float_le, wrap_add, wrap_sub, wrap_mul, map2, mask, shuffle, swizzle, fold, dot4, Rv, rv_opd, op2, op1, addr_of, aggregate, repeat, repeat_p, select, Body, skip, seq, assign, block, loop, cond, switch, exit, return, call, unreachable, call_v, lend_static, Arms, arm, default, no_default, Fn}

-- an operation that is no division and no remainder
abbrev pub plain_op : Op2 → Bool
plain_op (add s) = true
plain_op (sub s) = true
plain_op (mul s) = true
plain_op (div s) = false
plain_op (rem s) = false
plain_op bit_and = true
plain_op bit_or = true
plain_op bit_xor = true
plain_op shl = true
plain_op (shr s) = true
plain_op eq = true
plain_op ne = true
plain_op (lt s) = true
plain_op (le s) = true
plain_op with_addr = true
plain_op offset = true
plain_op ptr_eq = true
plain_op ptr_ne = true
plain_op ptr_lt = true
plain_op ptr_le = true
plain_op float_add = true
plain_op float_sub = true
plain_op float_mul = true
plain_op float_div = false
plain_op float_rem = false
plain_op float_eq = true
plain_op float_ne = true
plain_op float_lt = true
plain_op float_le = true
plain_op wrap_add = true
plain_op wrap_sub = true
plain_op wrap_mul = true
plain_op (map2 o) = plain_op o
plain_op (mask o) = plain_op o
plain_op (shuffle ns) = true
plain_op (swizzle n) = true
plain_op (fold o) = plain_op o
plain_op dot4 = true

abbrev pub plain_rv : Rv → Bool
plain_rv (rv_opd o) = true
plain_rv (op2 o a b) = plain_op o
plain_rv (op1 o a) = true
plain_rv (addr_of p) = true
plain_rv (aggregate os) = true
plain_rv (repeat o n) = true
plain_rv (repeat_p o n) = true
plain_rv (select a b c) = true

abbrev pub among : List Symbol → Symbol → Bool
among [] f = false
among (g ∷ gs) f = eqt g f || among gs f

abbrev pub all_among : List Symbol → List Symbol → Bool
all_among fs [] = true
all_among fs (g ∷ gs) = among fs g && all_among fs gs

-- what answers for a bound: methods of these names, or what the caller handed over
abbrev mutual
  pub plain_dict : List Symbol → Dict → Bool
  plain_dict fs (impl ms ts ds) = all_among fs ms && plain_dicts fs ds
  plain_dict fs (given n) = true

  pub plain_dicts : List Symbol → Dicts → Bool
  plain_dicts fs dnil = true
  plain_dicts fs (dcons d ds) = plain_dict fs d && plain_dicts fs ds

-- a function of these names, in this thread
abbrev pub plain_callee : List Symbol → Callee → Bool
plain_callee fs (fn f a) = among fs f && plain_dicts fs a.1
plain_callee fs (method d n a) = plain_dict fs d && plain_dicts fs a.1
plain_callee fs (forked ts f) = false
plain_callee fs (awaited ts) = false
plain_callee fs (prim a) = false

abbrev mutual
  -- no statement divides, and every call is of one of these functions
  pub plain : List Symbol → Body → Bool
  plain fs skip = true
  plain fs (seq a b) = plain fs a && plain fs b
  plain fs (assign p r) = plain_rv r
  plain fs (block b) = plain fs b
  plain fs (loop b) = plain fs b
  plain fs (cond o a b) = plain fs a && plain fs b
  plain fs (switch o rest) = plain_arms fs rest
  plain fs (exit n) = true
  plain fs return = true
  plain fs (call f os p) = plain_callee fs f
  plain fs unreachable = true
  plain fs (call_v f s os p) = false
  plain fs (lend_static p t c) = true

  pub plain_arms : List Symbol → Arms → Bool
  plain_arms fs (arm ks b rest) = plain fs b && plain_arms fs rest
  plain_arms fs (default b) = plain fs b
  plain_arms fs no_default = true

-- the code of f does not divide, and calls these functions alone
abbrev pub Undivided : List Symbol → Fn → Type 0
Undivided fs f = plain fs f.body ≡ true
