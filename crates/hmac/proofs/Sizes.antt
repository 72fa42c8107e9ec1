-- A tag has 32 elements, each a byte.
use mathlib.Core.Path.{◌≡◌}
use Prim.Native.Nat.{ℕ}
use mathlib.Core.List.{List}
use lib.ListN.{length}
use Rattle.octets.specs.Octets.{Bytes}
use Rattle.sha256.proofs.Sizes.{length-sha256, bytes-sha256}
use Rattle.hmac.specs.Hmac.{hmac}

pub length-hmac : (key text : List ℕ) → length (hmac key text) ≡ 32
unfolding hmac
length-hmac key text = length-sha256 _

pub bytes-hmac : (key text : List ℕ) → Bytes (hmac key text)
unfolding hmac
bytes-hmac key text = bytes-sha256 _
