-- `sha256_running::Running::finish` meets its contract: the block has room for the padding (`padded`), or not (`unfilled`).
use mathlib.Core.Path.{◌≡◌, ap, ◌∙◌}
use Prim.Native.Nat.{ℕ, ◌*◌, ◌%◌}
use native.Mathlib.Omega.{arith}
use mathlib.Core.List.{List}
use lib.ListN.{length, set}
use Rattle.octets.specs.Octets.{splice}
use Rattle.bigendian.specs.BigEndian.{be}
use Rattle.refusal.specs.declared.Hashed.{Hashed}
use Rattle.sha256_running.specs.declared.Running.{Running}
use Rattle.sha256_digest.specs.Absorbed.{finished, finished_blocks}
use Rattle.sha256_running.proofs.Absorb.{padded, unfilled}
use Rattle.sha256_running.proofs.Running.finish.Goals as goal

pub returns-then-fill-lt56 : goal.returns-then-fill-lt56
returns-then-fill-lt56 c = let s : Running = c.args.self in
    let size : length s.block ≡ 64 = omega arith in
    let e = padded s c.pressed-last.result c.put_number.new.out size (omega arith)
    (c.put_number.ensures ∙ ap (λ (b : List ℕ). splice (set b (s.count % 64) 128) 56 (be 8 (s.count * 8))) c.put.ensures)
    c.pressed-last.ensures in
    (c.digest.ensures ∙ e.0, e.1)

pub returns : goal.returns
returns c = let size : length c.args.self.block ≡ 64 = omega arith in
    let h : Hashed (List ℕ) = record { value = c.args.self.chain; blocks = c.args.self.blocks } in
    let e = unfilled c.args.self size in
    (c.digest_from.ensures.0 ∙ ap finished e, c.digest_from.ensures.1 ∙ ap finished_blocks e)
