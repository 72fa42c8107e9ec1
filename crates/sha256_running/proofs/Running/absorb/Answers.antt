-- `sha256_running::Running::absorb` meets its contract: the part leaves the block unfilled (`short`), or fills it (`fills`).
use lib.ListN.{length}
use Rattle.sha256_running.proofs.Absorb.{room, short, fills}
use Rattle.sha256_running.specs.declared.Running.{Running}
use Rattle.sha256_running.specs.Running.{state_of}
use native.Mathlib.Omega.{arith}
use mathlib.Core.List.{List}
use mathlib.Core.Path.{◌≡◌, refl, ap, ◌∙◌}
use Prim.Native.Nat.{ℕ, ◌+◌, ◌-◌, ◌%◌}
use Rattle.sha256_running.proofs.Running.absorb.Goals as goal

pub returns-then-n-room : goal.returns-then-n-room
returns-then-n-room c = let s : Running = c.args.self in
    let size : length s.block ≡ 64 = omega arith in
    let n : ℕ = s.count + length c.args.part.now in
    ap (λ (b : List ℕ). state_of (record { chain = s.chain; block = b; count = n; blocks = s.blocks })) c.put.ensures
    ∙ short s c.args.part.now n size (omega arith) (omega arith)

pub returns : goal.returns
returns c = let s : Running = c.args.self in
    let p : List ℕ = c.args.part.now in
    let size : length s.block ≡ 64 = omega arith in
    fills s p size (omega (arith, c.if-n-room.false)) (s.count + length c.args.part.now) (length p - (length p - room s) % 64) c.pressed-last.result
    c.put-2.ensures c.pressed-last.ensures c.put-3.ensures refl (omega arith)
