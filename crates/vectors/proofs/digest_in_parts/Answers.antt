-- `vectors::digest_in_parts` is safe.
use Rattle.sha256_running.proofs.Absorb.{holds-new, holds-count, holds-within, absorb-counts, absorb-within}
use Rattle.std.proofs.Common.{arith}
use Rattle.vectors.proofs.digest_in_parts.Goals as goal

pub fed-requires : goal.fed-requires
fed-requires c = let h = holds-new _ c.new.ensures in
    (omega (arith, holds-count _ _ h), holds-within _ _ h)

pub finish-requires : goal.finish-requires
finish-requires c = let h = holds-new _ c.new.ensures in
    (omega (arith, holds-count _ _ h, absorb-counts _ _ _ c.fed.ensures), absorb-within _ _ _ c.fed.ensures (holds-within _ _ h))
