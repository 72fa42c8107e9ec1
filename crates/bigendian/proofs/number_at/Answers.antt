-- `bigendian::number_at` meets its contract: the part stands behind zeros in eight bytes, of which the library makes the number.
use mathlib.Core.Path.{◌≡◌, ap, ◌∙◌}
use mathlib.Core.List.{List}
use Prim.Native.Nat.{ℕ}
use native.Mathlib.Omega.{arith}
use lib.ListN.{length}
use Rattle.octets.specs.Octets.{part}
use Rattle.octets.proofs.Parts.{length_part, part-between}
use Rattle.bigendian.specs.BigEndian.{unbe}
use Rattle.bigendian.proofs.Laws.{from_be_bytes-padded, unbe-part-lt}
use Rattle.bigendian.proofs.number_at.Goals as goal

pub returns : goal.returns
returns g c =
    let n : ℕ = g.row.N in
    let s : List ℕ = c.args.s.now in
    let e : c.copy_from_slice.new.self ≡ part s c.args.at n = c.copy_from_slice.ensures.after ∙ part-between s c.args.at n in
    let k : length c.copy_from_slice.new.self ≡ n = ap length e ∙ length_part s c.args.at n c.requires.0 in
    let v : c.from_be_bytes.result ≡ unbe (part s c.args.at n) = c.from_be_bytes.ensures ∙ from_be_bytes-padded n c.copy_from_slice.new.self k c.requires.1 ∙ ap unbe e in
    (v, omega (arith, v, unbe-part-lt s c.args.at n (λ i. omega (arith, c.type_inv.s i))))
