-- `receipt_write::put_tag` meets its contract.
use native.Mathlib.Omega.{arith}
use mathlib.Core.Path.{◌≡◌, refl, sym, ap, ap₂, ◌∙◌}
use mathlib.Core.Bool.{true}
use mathlib.Core.List.{List, ◌++◌}
use mathlib.Core.Option.{none}
use Prim.Native.Nat.{ℕ, ◌+◌}
use lib.ListN.{length}
use Rattle.octets.specs.Octets.{splice}
use Rattle.octets.proofs.Parts.{splice-whole, splice-right}
use Rattle.refusal.specs.Order.{afterwards}
use Rattle.refusal.proofs.OrderLaws.{done-is}
use Rattle.hmac.specs.Hmac.{hmac, tag_refusal, tag_blocks}
use Rattle.hmac.proofs.BlockLaws.{tag_six}
use Rattle.hmac.proofs.TagCases.{accepted}
use Rattle.hmac.proofs.Sizes.{length-hmac}
use Rattle.refusal.specs.Unwritten.{unwritten, counts}
use Rattle.receipt_write.proofs.put_tag.Code.Mir.{function}
use Rattle.receipt_write.proofs.put_tag.Goals as goal

-- no literal of the body becomes the count
pub counted : unwritten counts function.body ≡ true
counted = refl

-- the tag writer was lent the bytes o behind the bytes x that it read
module _ (out key x o : List ℕ) (whole : out ≡ x ++ o) (l : length x ≡ 128) (m : length o ≡ 32) (k : length key ≡ 32) where
  done : tag_refusal key x o ≡ none
  done = accepted key x o m (omega arith) (omega arith)

  blocks : {b : ℕ} → b ≡ afterwards (tag_refusal key x o) (tag_blocks key x) 0 → b ≡ 6
  blocks h = h ∙ sym (done-is (tag_blocks key x) 0 done).1 ∙ tag_six key x k l

  bytes : {y : List ℕ} → y ≡ afterwards (tag_refusal key x o) (hmac key x) o → x ++ y ≡ splice out 128 (hmac key x)
  bytes {y} h =
      let e : length x + 0 ≡ 128 = omega arith in
      ap (λ (t : List ℕ). x ++ t) (h ∙ sym (done-is (hmac key x) o done).1 ∙ sym (splice-whole o (hmac key x) (length-hmac key x ∙ sym m)))
      ∙ sym (splice-right x o 0 (hmac key x)) ∙ ap₂ (λ (z : List ℕ) (n : ℕ). splice z n (hmac key x)) (sym whole) e

pub returns-clause-blocks : goal.returns-clause-blocks
returns-clause-blocks c =
    let h = c.split_at_mut-attested.ensures in
    c.worked_blocks.ensures ∙ blocks c.args.out.now c.args.key.now _ _ h.value h.front_len (omega (arith, h.back_len, c.told-out)) c.told-key c.tag-done.ensures.blocks

pub returns-clause-bytes : goal.returns-clause-bytes
returns-clause-bytes c =
    let h = c.split_at_mut-attested.ensures in
    bytes c.args.out.now c.args.key.now _ _ h.value h.front_len (omega (arith, h.back_len, c.told-out)) c.told-key c.tag-done.ensures.bytes
    ∙ ap (λ (x : List ℕ). splice c.args.out.now 128 (hmac c.args.key.now x)) h.front
