-- `vectors::prefixed_in_parts` is safe.
use Rattle.sha256_running.proofs.Absorb.{holds-new, holds-count, holds-within, absorb-counts, absorb-within}
use Rattle.std.proofs.Common.{arith}
use Rattle.vectors.proofs.prefixed_in_parts.Goals as goal

pub fed-s-requires : goal.fed-s-requires
fed-s-requires c = let h = holds-new _ c.new.ensures in
    (omega (arith, holds-count _ _ h), holds-within _ _ h)

pub fed-requires : goal.fed-requires
fed-requires c = let h = holds-new _ c.new.ensures in (
  omega (arith, holds-count _ _ h, absorb-counts _ _ _ c.fed-s.ensures),
  absorb-within _ _ _ c.fed-s.ensures (holds-within _ _ h),
)

pub finish-requires : goal.finish-requires
finish-requires c = let h = holds-new _ c.new.ensures in (
  omega (arith, holds-count _ _ h, absorb-counts _ _ _ c.fed-s.ensures, absorb-counts _ _ _ c.fed.ensures),
  absorb-within _ _ _ c.fed.ensures (absorb-within _ _ _ c.fed-s.ensures (holds-within _ _ h)),
)
