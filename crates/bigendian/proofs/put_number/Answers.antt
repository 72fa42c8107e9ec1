-- `bigendian::put_number` meets its contract: the last N of the number's eight bytes are put there.
use mathlib.Core.Path.{◌≡◌, ap, ◌∙◌}
use mathlib.Core.List.{List}
use Prim.Native.Nat.{ℕ, ◌-◌}
use lib.ListN.{take, drop}
use Rattle.octets.proofs.Parts.{put_back}
use Rattle.bigendian.specs.BigEndian.{be}
use Rattle.bigendian.proofs.Laws.{to_be_bytes-be, be-low, length-be}
use Rattle.bigendian.proofs.put_number.Goals as goal

pub returns : goal.returns
returns g c =
    let n : ℕ = g.row.N in
    let low : c.copy_from_slice.new.self ≡ be n c.args.n = c.copy_from_slice.ensures.after ∙ ap (λ (l : List ℕ). take (8 - (8 - n)) (drop (8 - n) l)) (c.to_be_bytes.ensures ∙ to_be_bytes-be c.args.n) ∙ be-low n c.args.n c.requires.1 in
    put_back c.args.out.now _ (be n c.args.n) c.args.at n low (length-be n c.args.n)
