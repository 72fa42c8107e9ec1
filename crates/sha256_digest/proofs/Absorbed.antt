-- The laws of a running hash: absorbing one part and then another is absorbing both, and finishing gives the hash.
--
use mathlib.Core.Path.{◌≡◌, refl, sym, ap, ap₂, ◌∙◌}
use Prim.Native.Nat.{ℕ, zero, suc, ◌+◌, ◌-◌, ◌*◌, ◌/◌, ◌%◌, ◌≤◌}
use native.Mathlib.Nat.{add-zero, add-suc, add_assoc, zero-add}
use native.Mathlib.Omega.{arith}
use mathlib.Core.List.{List, [], ◌++◌, append_assoc}
use lib.ListN.{length, take, drop, set, replicate, length-append, length-take, length-drop, take-append-drop, drop_of_length-le}
use lib.Seq.{take-append-le, drop-append-le, drop-drop, length-take-le}
use Rattle.octets.specs.Octets.{splice}
use Rattle.sha256.specs.Sha256.{H0, compress, blocks, padding, pad, bytes, block_count, sha256}
use Rattle.refusal.specs.declared.Hashed.{Hashed}
use Rattle.sha256_digest.specs.Absorbed.{State, after, start, absorbed, finished, finished_blocks}
use Rattle.bigendian.specs.BigEndian.{be}
use Rattle.sha256.proofs.Padding.{last_blocks, tail, length-tail, tail-is as tail-padded}

abbrev pub state : List ℕ → List ℕ → ℕ → ℕ → State
state v r n b = record { value = v; rest = r; size = n; blocks = b }

pub state-eq : {v v' r r' : List ℕ} {n n' b b' : ℕ} → v ≡ v' → r ≡ r' → n ≡ n' → b ≡ b' → state v r n b ≡ state v' r' n' b'
state-eq p q e f i = record { value = p i; rest = q i; size = e i; blocks = f i }

pub blocks_more : (n k : ℕ) (h m : List ℕ) → blocks (n + k) h m ≡ blocks k (blocks n h m) (drop (n * 64) m)
unfolding blocks
blocks_more n zero h m = ap (λ (i : ℕ). blocks i h m) (add-zero n)
blocks_more n (suc k) h m =
    let e : (n + k) * 64 ≡ n * 64 + k * 64 = omega arith in
    ap (λ (i : ℕ). blocks i h m) (add-suc n k)
    ∙ ap₂ (λ (v b : List ℕ). compress v (take 64 b)) (blocks_more n k h m)
    (ap (λ (i : ℕ). drop i m) e ∙ sym (drop-drop (k * 64) (n * 64) m))

blocks-prefix : (n : ℕ) (h a b : List ℕ) → n * 64 ≤ length a → blocks n h (a ++ b) ≡ blocks n h a
unfolding blocks
blocks-prefix zero h a b k = refl
blocks-prefix (suc n) h a b k =
    ap₂ compress (blocks-prefix n h a b (omega arith))
    (ap (take 64) (drop-append-le (n * 64) a b (omega arith))
    ∙ take-append-le 64 (drop (n * 64) a) b (rw length-drop (omega arith)))

-- after the whole blocks of j, the rest of j with b after it
module _ (v j b : List ℕ) where
  whole : ℕ
  whole = length j / 64

  left : List ℕ
  left = drop (whole * 64) j ++ b

  left_is : left ≡ drop (whole * 64) (j ++ b)
  unfolding left whole
  left_is = sym (drop-append-le (whole * 64) j b (omega arith))

  count-is : length (j ++ b) / 64 ≡ whole + length left / 64
  unfolding left whole
  count-is = simp (length-append, length-drop) (omega arith)

  value-is : blocks (length left / 64) (blocks whole v j) left ≡ blocks (length (j ++ b) / 64) v (j ++ b)
  unfolding whole
  value-is =
      ap₂ (λ (h m : List ℕ). blocks (length left / 64) h m) (sym (blocks-prefix whole v j b (omega arith))) left_is
      ∙ sym (blocks_more whole (length left / 64) v (j ++ b))
      ∙ ap (λ (n : ℕ). blocks n v (j ++ b)) (sym count-is)

  rest-is : drop (length left / 64 * 64) left ≡ drop (length (j ++ b) / 64 * 64) (j ++ b)
  rest-is =
      let k : ℕ = length left / 64 in
      let e : whole * 64 + k * 64 ≡ length (j ++ b) / 64 * 64 = omega (arith, count-is) in
      ap (drop (k * 64)) left_is ∙ drop-drop (k * 64) (whole * 64) (j ++ b) ∙ ap (λ (n : ℕ). drop n (j ++ b)) e

pub blocks-take : (n : ℕ) (h m : List ℕ) → n * 64 ≤ length m → blocks n h m ≡ blocks n h (take (n * 64) m)
blocks-take n h m k =
    ap (blocks n h) (sym (take-append-drop (n * 64) m))
    ∙ blocks-prefix n h (take (n * 64) m) (drop (n * 64) m) (simp length-take (omega arith))

-- what `digest_from` computes, with f bytes after the whole blocks of p: v after those blocks, t the array of one or two blocks that
-- was l, and d after its blocks
pub closing : (h v d : Hashed (List ℕ)) (p l t : List ℕ) (before f : ℕ) → before % 64 ≡ 0 → f ≡ length p % 64 → l ≡ replicate (length l) 0 → last_blocks f * 64 ≤ length l
    → (v.value ≡ blocks (length p / 64) h.value p) × (v.blocks ≡ h.blocks + length p / 64)
    → t ≡ splice (set (splice l 0 (drop (length p / 64 * 64) p)) f 128) (last_blocks f * 64 - 8) (be 8 ((before + length p) * 8))
    → (d.value ≡ blocks (last_blocks f) v.value t) × (d.blocks ≡ v.blocks + last_blocks f)
    → (bytes d.value ≡ finished (absorbed (after h before) p)) × (d.blocks ≡ finished_blocks (absorbed (after h before) p))
unfolding finished finished_blocks absorbed after
closing h v d p l t before f whole ef blank long ev et ed =
    let n : ℕ = before + length p in
    let r : List ℕ = drop (length p / 64 * 64) p in
    let e : f ≡ n % 64 = omega arith in
    let lr : length r ≡ n % 64 = rw length-drop (omega arith) in
    let room : last_blocks (n % 64) * 64 ≤ length l = omega arith in
    let tail-eq : t ≡ tail l r n = et ∙ ap (λ (g : ℕ). splice (set (splice l 0 r) g 128) (last_blocks g * 64 - 8) (be 8 (n * 8))) e in
    let fits : last_blocks f * 64 ≤ length t = omega (arith, ap length tail-eq, length-tail l r n blank room lr) in
    let front : take (last_blocks f * 64) t ≡ r ++ padding n = ap₂ (λ (g : ℕ) (u : List ℕ). take (last_blocks g * 64) u) e tail-eq ∙ tail-padded l r n blank room lr in
    let size : length (r ++ padding n) ≡ last_blocks f * 64 = sym (ap length front) ∙ length-take-le (last_blocks f * 64) t fits in
    let count : last_blocks f ≡ length (r ++ padding n) / 64 = omega arith in (
      ap bytes
          (ed.0
          ∙ blocks-take (last_blocks f) v.value t fits
          ∙ ap (blocks (last_blocks f) v.value) front
          ∙ ap₂ (λ (i : ℕ) (u : List ℕ). blocks i u (r ++ padding n)) count ev.0),
      ed.1 ∙ ap₂ (λ (i j : ℕ). i + j) ev.1 count,
    )

-- absorbing one part and then another is absorbing both
pub absorbed-append : (s : State) (a b : List ℕ) → absorbed (absorbed s a) b ≡ absorbed s (a ++ b)
unfolding absorbed left whole
absorbed-append s a b =
    let e : s.rest ++ a ++ b ≡ s.rest ++ (a ++ b) = append_assoc s.rest a b in
    let n : s.size + length a + length b ≡ s.size + length (a ++ b) = rw length-append (omega arith) in
    let count : length (s.rest ++ a ++ b) / 64 ≡ length (s.rest ++ a) / 64 + length (drop (length (s.rest ++ a) / 64 * 64) (s.rest ++ a) ++ b) / 64 = count-is s.value (s.rest ++ a) b in
    state-eq
    (value-is s.value (s.rest ++ a) b ∙ ap (λ (w : List ℕ). blocks (length w / 64) s.value w) e)
    (rest-is s.value (s.rest ++ a) b ∙ ap (λ (w : List ℕ). drop (length w / 64 * 64) w) e)
    n
    (add_assoc s.blocks _ _ ∙ ap (λ (i : ℕ). s.blocks + i) (sym count ∙ ap (λ (w : List ℕ). length w / 64) e))

-- the hash of what was absorbed from the start, and the blocks of the padded message
pub finished-is : (m : List ℕ) → (finished (absorbed start m) ≡ sha256 m) × (finished_blocks (absorbed start m) ≡ block_count m)
unfolding finished finished_blocks sha256 block_count pad absorbed start
finished-is m =
    let e : absorbed (absorbed start m) (padding (0 + length m)) ≡ absorbed start (m ++ padding (length m)) =
    ap (λ (n : ℕ). absorbed (absorbed start m) (padding n)) (zero-add (length m)) ∙ absorbed-append start m (padding (length m)) in
    (ap (λ (s : State). bytes s.value) e, ap (λ (s : State). s.blocks) e ∙ zero-add _)

-- what finishing gives, from a state that has absorbed m
pub digest-is : (m : List ℕ) (s : State) (d : Hashed (List ℕ)) → s ≡ absorbed start m → (d.value ≡ finished s) × (d.blocks ≡ finished_blocks s)
    → (d.value ≡ sha256 m) × (d.blocks ≡ block_count m)
digest-is m s d h k = (k.0 ∙ ap finished h ∙ (finished-is m).0, k.1 ∙ ap finished_blocks h ∙ (finished-is m).1)

-- nothing before a message
pub from_initial : (i : Hashed (List ℕ)) (m : List ℕ) → (i.value ≡ H0) × (i.blocks ≡ 0) → absorbed (after i 0) m ≡ absorbed start m
unfolding after start
from_initial i m h = ap (λ (s : State). absorbed s m) (state-eq h.0 refl refl h.1)

-- a block, and a text after it
pub after_block : (i h : Hashed (List ℕ)) (b m : List ℕ) → length b ≡ 64 → (i.value ≡ H0) × (i.blocks ≡ 0)
    → (h.value ≡ blocks (length b / 64) i.value b) × (h.blocks ≡ i.blocks + length b / 64) → absorbed (after h 64) m ≡ absorbed start (b ++ m)
unfolding absorbed after start
after_block i h b m size e k =
    let none : drop (length b / 64 * 64) b ≡ [] = drop_of_length-le b {i = length b / 64 * 64} (omega arith) in
    let v : h.value ≡ blocks (length b / 64) H0 b = k.0 ∙ ap (λ (u : List ℕ). blocks (length b / 64) u b) e.0 in
    let n : h.blocks ≡ 0 + length b / 64 = omega (arith, e.1, k.1) in
    ap (λ (s : State). absorbed s m) (state-eq v (sym none) (omega arith) n) ∙ absorbed-append start b m
