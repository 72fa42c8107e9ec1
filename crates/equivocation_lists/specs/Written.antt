-- Document 02 [13]: "Receipts that one list of calls as in demand 3 wrote", in a pile. A list is one that demand 3's claim is made of, by whatever rules its
-- calls go: calls by survey and reading, and one carry, included.
use Rattle.std.specs.Prelude.{ℕ, ◌<◌, ◌≡◌, true, List}
use Rattle.std.proofs.Math.Option.{some}
use Rattle.receipt.specs.Attestation.{read_attestation}
use Rattle.quorum.specs.Certificate.{receipt_count, receipt_at}
use Rattle.equivocation.specs.Pairs.{accepted_at}
use Rattle.layout.specs.Image.{Image}
use Rattle.a2m.specs.Call.{Reply, receipt_in}
use Rattle.model.specs.Model.{Model}
use Rattle.model.specs.Claim.{Turn, reply_at, ListClaim}

-- the receipt r is in one of the answers
abbrev pub Wrote : List Reply → List ℕ → Type 0
Wrote rs r = (j : ℕ) × (receipt_in (reply_at rs j) ≡ some r)

-- one list wrote each accepted receipt of the keeper's in the pile
pub record OneList (roster pile : List ℕ) (keeper : ℕ) : Type 0 where
  pub start : Model
  pub turns : List Turn
  pub answers : List Reply
  pub blocks : List ℕ
  pub table : Image
  pub claim : ListClaim start turns answers blocks table
  pub wrote : (p : ℕ) → p < receipt_count pile → accepted_at roster pile p ≡ true → (read_attestation (receipt_at pile p)).keeper ≡ keeper → Wrote answers (receipt_at pile p)
