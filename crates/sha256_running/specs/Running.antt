-- The program's running digest as a state of the hash.
use Rattle.std.specs.Prelude.{◌%◌, take}
use Rattle.sha256_digest.specs.Absorbed.{State}
use Rattle.sha256_running.specs.declared.Running.{Running}

-- the state that the program's struct holds; what stands in the block after the rest does not count
unfoldable pub state_of : Running → State
state_of s = record { value = s.chain; rest = take (s.count % 64) s.block; size = s.count; blocks = s.blocks }
