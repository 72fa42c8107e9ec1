-- What `finish` and `absorb` compute: the padding fits into the block or not, a part fills the block or not. Then the laws that callers use.
--
use mathlib.Core.Path.{◌≡◌, refl, sym, ap, ap₂, ◌∙◌}
use Prim.Native.Nat.{ℕ, ◌+◌, ◌-◌, ◌*◌, ◌/◌, ◌%◌, ◌^◌, ◌≤◌, ◌<◌}
use native.Mathlib.Nat.{zero-add}
use native.Mathlib.Omega.{arith}
use mathlib.Core.List.{List, [], ◌++◌, append-nil}
use lib.ListN.{length, take, drop, set, replicate, length-append, length-take, length-drop, drop_of_length-le}
use lib.Seq.{take_at, take_all, take-append-add, drop-append-add, drop-drop, length-take-le}
use Rattle.octets.specs.Octets.{splice}
use Rattle.octets.proofs.Parts.{splice_nested, length-splice}
use Rattle.bigendian.specs.BigEndian.{be}
use Rattle.sha256.specs.Sha256.{compress, blocks, bytes}
use Rattle.sha256.proofs.Padding.{last_blocks}
use Rattle.refusal.specs.declared.Hashed.{Hashed}
use Rattle.sha256_digest.specs.Absorbed.{State, after, start, absorbed, finished, finished_blocks}
use Rattle.sha256_digest.proofs.Absorbed.{state-eq, blocks_more, closing, absorbed-append}
use Rattle.sha256_running.specs.Running.{state_of}
use Rattle.sha256_running.specs.declared.Running.{Running}

-- bytes that leave the block unfilled, after whole blocks
pub unfilled : (s : Running) → length s.block ≡ 64
    → absorbed (after (record { value = s.chain; blocks = s.blocks }) (s.count - s.count % 64)) (take (s.count % 64) s.block) ≡ state_of s
unfolding absorbed after state_of blocks
unfilled s size =
    let f : ℕ = s.count % 64 in
    let lr : length (take f s.block) ≡ f = length-take-le f s.block (omega arith) in
    let none : length (take f s.block) / 64 ≡ 0 = omega arith in
    state-eq
    (ap (λ (i : ℕ). blocks i s.chain (take f s.block)) none)
    (ap (λ (i : ℕ). drop (i * 64) (take f s.block)) none)
    (omega arith)
    (omega arith)

-- a part of no whole block
pub no_block : (p h : List ℕ) → length p < 64 → h ≡ blocks (length p / 64) h p
unfolding blocks
no_block p h k = let none : length p / 64 ≡ 0 = omega arith in ap (λ (i : ℕ). blocks i h p) (sym none)

-- what `finish` computes where the block has room for the padding: t the block that was zero, and d after it, with nothing behind it
pub padded : (s : Running) (d : Hashed (List ℕ)) (t : List ℕ) → length s.block ≡ 64 → s.count % 64 < 56
    → t ≡ splice (set (splice (replicate 64 0) 0 (take (s.count % 64) s.block)) (s.count % 64) 128) 56 (be 8 (s.count * 8))
    → (d.value ≡ blocks (length {A = ℕ} [] / 64) (blocks 1 s.chain t) []) × (d.blocks ≡ s.blocks + 1 + length {A = ℕ} [] / 64)
    → (bytes d.value ≡ finished (state_of s)) × (d.blocks ≡ finished_blocks (state_of s))
padded s d t size k et ed =
    let f : ℕ = s.count % 64 in
    let z : List ℕ = replicate 64 0 in
    let p : List ℕ = take f s.block in
    let h : Hashed (List ℕ) = record { value = s.chain; blocks = s.blocks } in
    let lp : length p ≡ f = length-take-le f s.block (omega arith) in
    let none : length p / 64 ≡ 0 = omega arith in
    let one : last_blocks f ≡ 1 = omega arith in
    let n : s.count ≡ s.count - f + length p = omega arith in
    let fits : last_blocks f * 64 ≤ 64 = omega arith in
    let e = closing h h d p z t (s.count - f) f (omega arith) (omega arith) refl fits
    (no_block p s.chain (omega arith), omega arith)
    (et ∙ ap (λ (i : ℕ). splice (set (splice z 0 (drop (i * 64) p)) f 128) 56 (be 8 (s.count * 8))) (sym none)
    ∙ ap₂ (λ (i j : ℕ). splice (set (splice z 0 (drop (length p / 64 * 64) p)) f 128) (i * 64 - 8) (be 8 (j * 8))) (sym one) n)
    (ed.0 ∙ sym (no_block [] (blocks 1 s.chain t) (omega arith)) ∙ ap (λ (i : ℕ). blocks i s.chain t) (sym one), omega (arith, ed.1, one)) in
    (e.0 ∙ ap finished (unfilled s size), e.1 ∙ ap finished_blocks (unfilled s size))

-- for a caller: a part counts its bytes
pub absorb-counts : (s t : Running) (x : List ℕ) → state_of t ≡ absorbed (state_of s) x → t.count ≡ s.count + length x
unfolding state_of absorbed
absorb-counts s t x h = ap (λ (u : State). u.size) h

-- and compresses no more blocks than it has bytes
pub absorb-within : (s t : Running) (x : List ℕ) → state_of t ≡ absorbed (state_of s) x → s.blocks ≤ s.count → t.blocks ≤ t.count
unfolding state_of absorbed
absorb-within s t x h k =
    let b : t.blocks ≡ s.blocks + length (take (s.count % 64) s.block ++ x) / 64 = ap (λ (u : State). u.blocks) h in
    let n : t.count ≡ s.count + length x = ap (λ (u : State). u.size) h in
    let l : length (take (s.count % 64) s.block ++ x) ≤ s.count % 64 + length x = simp (length-append, length-take) (omega arith) in
    omega arith

-- for a caller: what `absorb` asks of a state that is to take n bytes more
abbrev pub Takes : Running → ℕ → Type 0
Takes s n = (s.count + n < 2 ^ 64) × (s.blocks ≤ s.count)

-- for a caller: what a running digest has absorbed since `new`

-- s has absorbed m and nothing else
abbrev pub Holds : Running → List ℕ → Type 0
Holds s m = state_of s ≡ absorbed start m

pub holds-new : (s : Running) → state_of s ≡ start → Holds s []
unfolding absorbed start blocks
holds-new s h = h

pub holds_more : (s t : Running) (m x : List ℕ) → Holds s m → state_of t ≡ absorbed (state_of s) x → Holds t (m ++ x)
holds_more s t m x h k = k ∙ ap (λ (u : State). absorbed u x) h ∙ absorbed-append start m x

pub holds-count : (s : Running) (m : List ℕ) → Holds s m → s.count ≡ length m
unfolding state_of absorbed start
holds-count s m h = ap (λ (u : State). u.size) h ∙ zero-add (length m)

pub holds-within : (s : Running) (m : List ℕ) → Holds s m → s.blocks ≤ s.count
unfolding state_of absorbed start
holds-within s m h =
    let b : s.blocks ≡ 0 + length m / 64 = ap (λ (u : State). u.blocks) h in
    let n : s.count ≡ 0 + length m = ap (λ (u : State). u.size) h in
    omega arith

-- a part that leaves the block unfilled
pub short : (s : Running) (part : List ℕ) (n : ℕ) → length s.block ≡ 64 → length part < 64 - s.count % 64 → n ≡ s.count + length part
    → state_of (record { chain = s.chain; block = splice s.block (s.count % 64) part; count = n; blocks = s.blocks }) ≡ absorbed (state_of s) part
unfolding state_of absorbed splice blocks
short s part n size k e =
    let f : ℕ = s.count % 64 in
    let r : List ℕ = take f s.block in
    let lr : length r ≡ f = length-take-le f s.block (omega arith) in
    let lj : length (r ++ part) ≡ f + length part = rw length-append (omega arith) in
    let none : length (r ++ part) / 64 ≡ 0 = omega arith in
    let q : n % 64 ≡ f + length part = omega arith in
    state-eq
    (ap (λ (i : ℕ). blocks i s.chain (r ++ part)) (sym none))
    (ap (λ (i : ℕ). take i (splice s.block f part)) q ∙ ap (take (f + length part)) (splice_nested s.block f part) ∙ take_at (r ++ part) (drop (f + length part) s.block) (f + length part) lj ∙ ap (λ (i : ℕ). drop (i * 64) (r ++ part)) (sym none))
    e
    (omega arith)

-- one block
one_block : (h m : List ℕ) → length m ≡ 64 → blocks 1 h m ≡ compress h m
unfolding blocks
one_block h m size = ap (compress h) (take_all 64 m (omega arith))

-- a part that fills the block, with the blocks after that
abbrev pub room : Running → ℕ
room s = 64 - s.count % 64

abbrev pub more : Running → List ℕ → ℕ
more s part = (length part - room s) / 64

abbrev pub full : Running → List ℕ → List ℕ
full s part = splice s.block (s.count % 64) (take (room s) part)

abbrev rest : Running → List ℕ
rest s = take (s.count % 64) s.block

module _ (s : Running) (part : List ℕ) (size : length s.block ≡ 64) (k : 64 - s.count % 64 ≤ length part) where
  length_rest : length (rest s) ≡ s.count % 64
  length_rest = length-take-le (s.count % 64) s.block (omega arith)

  sum_is : length (rest s) + room s ≡ 64
  sum_is = omega (arith, length_rest)

  full_is : full s part ≡ take 64 (rest s ++ part)
  unfolding splice
  full_is =
      let e : s.count % 64 + length (take (room s) part) ≡ 64 = rw (length-take-le (room s) part k) (omega arith) in
      let out : drop 64 s.block ≡ [] = drop_of_length-le s.block {i = 64} (omega arith) in
      splice_nested s.block (s.count % 64) (take (room s) part)
      ∙ ap (λ (l : List ℕ). rest s ++ take (room s) part ++ l) (ap (λ (n : ℕ). drop n s.block) e ∙ out)
      ∙ append-nil (rest s ++ take (room s) part)
      ∙ sym (take-append-add (rest s) part (room s))
      ∙ ap (λ (n : ℕ). take n (rest s ++ part)) sum_is

  length-full : length (full s part) ≡ 64
  length-full = length-splice s.block (take (room s) part) (s.count % 64) (simp length-take (omega arith)) ∙ size

  tail-is : drop 64 (rest s ++ part) ≡ drop (room s) part
  tail-is = ap (λ (n : ℕ). drop n (rest s ++ part)) (sym sum_is) ∙ drop-append-add (rest s) part (room s)

  times : length (rest s ++ part) / 64 ≡ 1 + more s part
  times = rw length-append (omega (arith, length_rest))

  long : (n at : ℕ) (first last : Hashed (List ℕ)) {next : List ℕ}
      → (first.value ≡ blocks 1 s.chain (full s part)) × (first.blocks ≡ s.blocks + 1)
      → (last.value ≡ blocks (more s part) first.value (take (length part - room s) (drop (room s) part))) × (last.blocks ≡ first.blocks + more s part)
      → next ≡ splice (full s part) 0 (take (length part - at) (drop at part)) → at ≡ room s + more s part * 64 → n ≡ s.count + length part
      → state_of (record { chain = last.value; block = next; count = n; blocks = last.blocks }) ≡ absorbed (state_of s) part
  unfolding state_of absorbed blocks splice
  long n at first last ef el en ea ec =
      let j : List ℕ = rest s ++ part in
      let chop : take (length part - room s) (drop (room s) part) ≡ drop (room s) part = take_all (length part - room s) (drop (room s) part) (rw length-drop (omega arith)) in
      let chop' : take (length part - at) (drop at part) ≡ drop at part = take_all (length part - at) (drop at part) (rw length-drop (omega arith)) in
      let ends : (1 + more s part) * 64 ≡ 64 + more s part * 64 = omega arith in
      let over : drop ((1 + more s part) * 64) j ≡ drop at part =
      ap (λ (i : ℕ). drop i j) ends ∙ sym (drop-drop (more s part * 64) 64 j) ∙ ap (drop (more s part * 64)) tail-is
      ∙ drop-drop (more s part * 64) (room s) part ∙ ap (λ (i : ℕ). drop i part) (sym ea) in
      let q : n % 64 ≡ length (drop at part) = rw length-drop (omega arith) in
      state-eq
      (el.0
      ∙ ap (λ (h : List ℕ). blocks (more s part) h (take (length part - room s) (drop (room s) part))) (ef.0 ∙ one_block s.chain (full s part) length-full)
      ∙ ap₂ (λ (h m : List ℕ). blocks (more s part) (compress s.chain h) m) full_is (chop ∙ sym tail-is)
      ∙ sym (blocks_more 1 (more s part) s.chain j)
      ∙ ap (λ (i : ℕ). blocks i s.chain j) (sym times))
      (ap₂ take q (en ∙ ap (splice (full s part) 0) chop') ∙ take_at (drop at part) (drop (0 + length (drop at part)) (full s part)) (length (drop at part)) refl
      ∙ sym over ∙ ap (λ (i : ℕ). drop (i * 64) j) (sym times))
      ec
      (omega (arith, ef.1, el.1, times))

  -- what comes after the block
  abbrev over : List ℕ
  over = take (length part - room s) (drop (room s) part)

  -- `long` as `pressed` tells it: b the block, filled
  pub fills : (n at : ℕ) (last : Hashed (List ℕ)) {b next : List ℕ} → b ≡ full s part
      → (last.value ≡ blocks (length over / 64) (blocks 1 s.chain b) over) × (last.blocks ≡ s.blocks + 1 + length over / 64)
      → next ≡ splice b 0 (take (length part - at) (drop at part)) → at ≡ length part - (length part - room s) % 64 → n ≡ s.count + length part
      → state_of (record { chain = last.value; block = next; count = n; blocks = last.blocks }) ≡ absorbed (state_of s) part
  fills n at last eb el en ea ec =
      let count : length over / 64 ≡ more s part = ap (λ (i : ℕ). i / 64) (simp (length-take, length-drop) (omega arith)) in
      long n at (record { value = blocks 1 s.chain (full s part); blocks = s.blocks + 1 }) last
      (refl, refl)
      (el.0 ∙ ap₂ (λ (i : ℕ) (l : List ℕ). blocks i (blocks 1 s.chain l) over) count eb, el.1 ∙ ap (λ (i : ℕ). s.blocks + 1 + i) count)
      (en ∙ ap (λ (l : List ℕ). splice l 0 (take (length part - at) (drop at part))) eb)
      (omega arith)
      ec
