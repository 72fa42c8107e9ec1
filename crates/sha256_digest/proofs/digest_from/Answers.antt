-- `sha256_digest::digest_from` meets its contract (`closing`).
use Rattle.std.proofs.Common.{◌≡◌, ℕ, ◌+◌, ◌-◌, ◌*◌, ◌/◌, ◌≤◌, List, length, take, set, replicate, refl, sym, ap, ◌∙◌, arith}
use lib.Seq.{length-take-le}
use Rattle.bigendian.specs.BigEndian.{be}
use Rattle.octets.specs.Octets.{splice}
use Rattle.sha256.specs.Sha256.{blocks}
use Rattle.sha256.proofs.Padding.{last_blocks}
use Rattle.sha256_digest.proofs.Absorbed.{closing, blocks-take}
use Rattle.sha256_digest.proofs.digest_from.Goals as goal

pub returns : goal.returns
returns c = let p : List ℕ = c.args.part.now in
    let v : List ℕ = c.compress_blocks-value.result.value in
    let t : List ℕ = c.put_number.new.out in
    let f : ℕ = length c.as_chunks.result.1.now in
    let room : last_blocks f * 64 ≤ 128 = omega (arith, c.as_chunks.ensures.back_len) in
    let fits : last_blocks f * 64 ≤ length t = omega arith in
    let count : length (take (last_blocks f * 64) t) / 64 ≡ last_blocks f = omega (arith, length-take-le (last_blocks f * 64) t fits) in
    let last : c.compress_blocks-last.result.value ≡ blocks (last_blocks f) v t =
    c.compress_blocks-last.ensures.0 ∙ ap (λ (n : ℕ). blocks n v (take (last_blocks f * 64) t)) count ∙ sym (blocks-take (last_blocks f) v t fits) in
    let e = closing c.args.h c.compress_blocks-value.result c.compress_blocks-last.result p (replicate 128 0) t c.args.before f
    c.requires.0 c.as_chunks.ensures.back_len refl room
    c.compress_blocks-value.ensures
    (c.put_number.ensures
    ∙ ap (λ (b : List ℕ). splice (set b f 128) (last_blocks f * 64 - 8) (be 8 ((c.args.before + length p) * 8)))
    (c.put.ensures ∙ ap (splice (replicate 128 0) 0) c.as_chunks.ensures.back))
    (last, omega (arith, c.compress_blocks-last.ensures.1, count)) in
    (c.digest.ensures ∙ e.0, e.1)
