-- `runs_scan::walked` meets its contract.
use mathlib.Core.Path.{ap₂, ◌∙◌}
use Prim.Native.Nat.{ℕ}
use mathlib.Core.List.{List}
use Rattle.entry.specs.Digest.{entry_digest}
use Rattle.runs.specs.Lent.{whole}
use Rattle.runs.proofs.BlockLaws.{walked-is}
use Rattle.runs_scan.proofs.walked.Goals as goal

pub returns : goal.returns
returns c =
    let fed = ap₂ (λ (p : ℕ) (v : List ℕ). entry_digest p v c.args.digest.now) c.position.ensures c.value.ensures in
    (walked-is (whole c.args.run.now) c.args.k c.args.digest.now (c.entry_digest.ensures.0 ∙ fed), c.entry_digest.ensures.1)
