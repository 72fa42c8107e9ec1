-- A row, a slot and a header, field by field: what was written is read, and what was read is written.
use Prim.Native.Nat.{ℕ, ◌+◌, ◌≤◌}
use mathlib.Core.Path.{◌≡◌, refl, sym, ap, ap₂, ◌∙◌}
use mathlib.Core.List.{List, ◌++◌}
use native.Mathlib.Omega.{arith}
use lib.ListN.{length, length-append}
use lib.Seq.{take_at, take_all}
use Rattle.octets.specs.Octets.{Bytes, part, splice, zeros}
use Rattle.octets.proofs.Parts.{part-append-right, part-add, splice-left, splice-right, splice-whole}
use Rattle.octets.proofs.Zeros.{length-zeros}
use Rattle.bigendian.specs.BigEndian.{be, unbe}
use Rattle.bigendian.proofs.Laws.{length-be, unbe-be, be-unbe-part}
use Rattle.layout.specs.declared.Row.{Row}
use Rattle.layout.specs.Image.{Slot}
use Rattle.layout.specs.Layout.{Stock, stocked, mark, header_size, row_size, slot_size, free_offset, zero_offset, count_offset, last_offset, read_row, row_bytes, read_slot, slot_bytes, header_bytes}
use Rattle.layout.specs.Changes.{with_next}
use Rattle.layout.specs.Fits.{RowFits, SlotFits}

pub length-row_bytes : (r : Row) → length (row_bytes r) ≡ row_size
unfolding row_bytes
length-row_bytes r = simp (length-append, length-be)

pub length-slot_bytes : (s : Slot) → SlotFits s → length (slot_bytes s) ≡ slot_size
unfolding slot_bytes
length-slot_bytes s h = simp (length-append, length-be, length-zeros) (omega (arith, h.value, h.digest))

pub length-header_bytes : (logs slots keeper free : ℕ) (stock : Stock) (key : List ℕ) → length key ≡ 32 → length (header_bytes logs slots keeper free stock key) ≡ header_size
unfolding header_bytes
length-header_bytes logs slots keeper free stock key h = simp (length-append, length-be, length-zeros) (omega (arith, h))

-- a field of fields on end: past one of k bytes, at the front, and the last
pub skip : (p q : List ℕ) (k a n : ℕ) → length p ≡ k → part (p ++ q) (k + a) n ≡ part q a n
skip p q k a n h = ap (λ (m : ℕ). part (p ++ q) (m + a) n) (sym h) ∙ part-append-right p q a n

pub here : (p q : List ℕ) (n : ℕ) → length p ≡ n → part (p ++ q) 0 n ≡ p
here p q n h = take_at p q n h

pub only : (p : List ℕ) (n : ℕ) → length p ≡ n → part p 0 n ≡ p
only p n h = take_all n p (omega arith)

-- the same for a splice
pub over : (p q : List ℕ) (k a : ℕ) (x : List ℕ) → length p ≡ k → splice (p ++ q) (k + a) x ≡ p ++ splice q a x
over p q k a x h = ap (λ (m : ℕ). splice (p ++ q) (m + a) x) (sym h) ∙ splice-right p q a x

front : (p q x : List ℕ) → length x ≡ length p → splice (p ++ q) 0 x ≡ x ++ q
front p q x h = splice-left p q 0 x (omega arith) ∙ ap (λ (l : List ℕ). l ++ q) (splice-whole p x h)

pub read-row : (r : Row) → RowFits r → read_row (row_bytes r) ≡ r
unfolding read_row row_bytes
read-row r h =
    let l : List ℕ = be 8 r.low in
    let m : List ℕ = be 8 r.high in
    let f : List ℕ = be 2 r.first in
    let e : List ℕ = be 2 r.last in
    let v : List ℕ = be 2 r.reserve in
    let past : (a n : ℕ) → part (l ++ (m ++ (f ++ (e ++ v)))) (8 + (8 + a)) n ≡ part (f ++ (e ++ v)) a n =
    λ a n. skip l (m ++ (f ++ (e ++ v))) 8 (8 + a) n (length-be 8 r.low) ∙ skip m (f ++ (e ++ v)) 8 a n (length-be 8 r.high) in
    λ i. record {
      low = (ap unbe (here l (m ++ (f ++ (e ++ v))) 8 (length-be 8 r.low)) ∙ unbe-be 8 r.low h.low) i;
      high = (ap unbe (skip l (m ++ (f ++ (e ++ v))) 8 0 8 (length-be 8 r.low) ∙ here m (f ++ (e ++ v)) 8 (length-be 8 r.high)) ∙ unbe-be 8 r.high h.high) i;
      first = (ap unbe (past 0 2 ∙ here f (e ++ v) 2 (length-be 2 r.first)) ∙ unbe-be 2 r.first h.first) i;
      last = (ap unbe (past 2 2 ∙ skip f (e ++ v) 2 0 2 (length-be 2 r.first) ∙ here e v 2 (length-be 2 r.last)) ∙ unbe-be 2 r.last h.last) i;
      reserve = (ap unbe (past 4 2 ∙ skip f (e ++ v) 2 2 2 (length-be 2 r.first) ∙ skip e v 2 0 2 (length-be 2 r.last) ∙ only v 2 (length-be 2 r.reserve)) ∙ unbe-be 2 r.reserve h.reserve) i;
    }

pub write-row : (b : List ℕ) → Bytes b → length b ≡ row_size → row_bytes (read_row b) ≡ b
unfolding read_row row_bytes
write-row b h l =
    ap₂ ◌++◌ (be-unbe-part b 0 8 h (omega arith)) (ap₂ ◌++◌ (be-unbe-part b 8 8 h (omega arith)) (ap₂ ◌++◌ (be-unbe-part b 16 2 h (omega arith)) (ap₂ ◌++◌ (be-unbe-part b 18 2 h (omega arith)) (be-unbe-part b 20 2 h (omega arith)))))
    ∙ sym (part-add b 0 8 14 ∙ ap (λ (q : List ℕ). part b 0 8 ++ q) (part-add b 8 8 6 ∙ ap (λ (q : List ℕ). part b 8 8 ++ q) (part-add b 16 2 4 ∙ ap (λ (q : List ℕ). part b 16 2 ++ q) (part-add b 18 2 2))))
    ∙ only b row_size l

-- the parts of a slot's bytes: the first of one byte, the zero, and what follows
module _ (s : Slot) where
  after-pad : List ℕ
  after-pad = be 2 s.next ++ (be 8 s.position ++ (s.value ++ s.digest))

  past-pad : (a k : ℕ) → part (slot_bytes s) (1 + (1 + a)) k ≡ part after-pad a k
  unfolding slot_bytes after-pad
  past-pad a k = skip (be 1 s.owner) (zeros 1 ++ after-pad) 1 (1 + a) k (length-be 1 s.owner) ∙ skip (zeros 1) after-pad 1 a k (length-zeros 1)

  pub pad-written : part (slot_bytes s) 1 1 ≡ zeros 1
  unfolding slot_bytes after-pad
  pad-written = skip (be 1 s.owner) (zeros 1 ++ after-pad) 1 0 1 (length-be 1 s.owner) ∙ here (zeros 1) after-pad 1 (length-zeros 1)

  owner-written : part (slot_bytes s) 0 1 ≡ be 1 s.owner
  unfolding slot_bytes after-pad
  owner-written = here (be 1 s.owner) (zeros 1 ++ after-pad) 1 (length-be 1 s.owner)

  pub read-slot : SlotFits s → read_slot (slot_bytes s) ≡ s
  unfolding read_slot after-pad
  read-slot h =
      let n : List ℕ = be 2 s.next in
      let p : List ℕ = be 8 s.position in
      let v : List ℕ = s.value in
      let d : List ℕ = s.digest in
      let ln = length-be 2 s.next in
      let lp = length-be 8 s.position in
      λ i. record {
        owner = (ap unbe owner-written ∙ unbe-be 1 s.owner h.owner) i;
        next = (ap unbe (past-pad 0 2 ∙ here n (p ++ (v ++ d)) 2 ln) ∙ unbe-be 2 s.next h.next) i;
        position = (ap unbe (past-pad 2 8 ∙ skip n (p ++ (v ++ d)) 2 0 8 ln ∙ here p (v ++ d) 8 lp) ∙ unbe-be 8 s.position h.position) i;
        value = (past-pad 10 32 ∙ skip n (p ++ (v ++ d)) 2 8 32 ln ∙ skip p (v ++ d) 8 0 32 lp ∙ here v d 32 h.value) i;
        digest = (past-pad 42 32 ∙ skip n (p ++ (v ++ d)) 2 40 32 ln ∙ skip p (v ++ d) 8 32 32 lp ∙ skip v d 32 0 32 h.value ∙ only d 32 h.digest) i;
      }

  -- another next in a slot's bytes
  pub splice-next : (n : ℕ) → slot_bytes (with_next s n) ≡ splice (slot_bytes s) 2 (be 2 n)
  unfolding slot_bytes
  splice-next n =
      let r : List ℕ = be 8 s.position ++ (s.value ++ s.digest) in
      sym (over (be 1 s.owner) (zeros 1 ++ (be 2 s.next ++ r)) 1 1 (be 2 n) (length-be 1 s.owner)
      ∙ ap (λ (q : List ℕ). be 1 s.owner ++ q) (over (zeros 1) (be 2 s.next ++ r) 1 0 (be 2 n) (length-zeros 1)
      ∙ ap (λ (q : List ℕ). zeros 1 ++ q) (front (be 2 s.next) r (be 2 n) (length-be 2 n ∙ sym (length-be 2 s.next)))))

pub write-slot : (b : List ℕ) → Bytes b → length b ≡ slot_size → part b 1 1 ≡ zeros 1 → slot_bytes (read_slot b) ≡ b
unfolding read_slot slot_bytes
write-slot b h l z =
    ap₂ ◌++◌ (be-unbe-part b 0 1 h (omega arith)) (ap₂ ◌++◌ (sym z) (ap₂ ◌++◌ (be-unbe-part b 2 2 h (omega arith)) (ap (λ (q : List ℕ). q ++ (part b 12 32 ++ part b 44 32)) (be-unbe-part b 4 8 h (omega arith)))))
    ∙ sym (part-add b 0 1 75 ∙ ap (λ (q : List ℕ). part b 0 1 ++ q) (part-add b 1 1 74 ∙ ap (λ (q : List ℕ). part b 1 1 ++ q) (part-add b 2 2 72 ∙ ap (λ (q : List ℕ). part b 2 2 ++ q) (part-add b 4 8 64 ∙ ap (λ (q : List ℕ). part b 4 8 ++ q) (part-add b 12 32 32)))))
    ∙ only b slot_size l

-- the header's fields
module _ (logs slots keeper free : ℕ) (stock : Stock) (key : List ℕ) where
  -- what follows the slot count
  after-count : List ℕ
  after-count = be 8 keeper ++ (be 2 free ++ (be 2 stock.count ++ (key ++ be 2 stock.last)))

  pub mark-header : part (header_bytes logs slots keeper free stock key) 0 4 ≡ mark
  unfolding header_bytes
  mark-header = here mark (be 1 logs ++ (zeros 1 ++ (be 2 slots ++ (be 8 keeper ++ (be 2 free ++ (be 2 stock.count ++ (key ++ be 2 stock.last))))))) 4 refl

  pub logs-header : part (header_bytes logs slots keeper free stock key) 4 1 ≡ be 1 logs
  unfolding header_bytes after-count
  logs-header = skip mark (be 1 logs ++ (zeros 1 ++ (be 2 slots ++ after-count))) 4 0 1 refl ∙ here (be 1 logs) (zeros 1 ++ (be 2 slots ++ after-count)) 1 (length-be 1 logs)

  pub zero-header : part (header_bytes logs slots keeper free stock key) zero_offset 1 ≡ zeros 1
  unfolding header_bytes after-count
  zero-header =
      skip mark (be 1 logs ++ (zeros 1 ++ (be 2 slots ++ after-count))) 4 1 1 refl ∙ skip (be 1 logs) (zeros 1 ++ (be 2 slots ++ after-count)) 1 0 1 (length-be 1 logs) ∙ here (zeros 1) (be 2 slots ++ after-count) 1 (length-zeros 1)

  past-zero : (a n : ℕ) → part (header_bytes logs slots keeper free stock key) (4 + (1 + (1 + a))) n ≡ part (be 2 slots ++ after-count) a n
  unfolding header_bytes after-count
  past-zero a n =
      skip mark (be 1 logs ++ (zeros 1 ++ (be 2 slots ++ after-count))) 4 (1 + (1 + a)) n refl
      ∙ skip (be 1 logs) (zeros 1 ++ (be 2 slots ++ after-count)) 1 (1 + a) n (length-be 1 logs)
      ∙ skip (zeros 1) (be 2 slots ++ after-count) 1 a n (length-zeros 1)

  past-count : (a n : ℕ) → part (header_bytes logs slots keeper free stock key) (8 + a) n ≡ part after-count a n
  past-count a n = let e : 8 + a ≡ 4 + (1 + (1 + (2 + a))) = omega arith in ap (λ (k : ℕ). part (header_bytes logs slots keeper free stock key) k n) e ∙ past-zero (2 + a) n ∙ skip (be 2 slots) after-count 2 a n (length-be 2 slots)

  pub slots-header : part (header_bytes logs slots keeper free stock key) 6 2 ≡ be 2 slots
  slots-header = past-zero 0 2 ∙ here (be 2 slots) after-count 2 (length-be 2 slots)

  pub keeper-header : part (header_bytes logs slots keeper free stock key) 8 8 ≡ be 8 keeper
  unfolding after-count
  keeper-header = past-count 0 8 ∙ here (be 8 keeper) _ 8 (length-be 8 keeper)

  past-keeper : (a n : ℕ) → part (header_bytes logs slots keeper free stock key) (16 + a) n ≡ part (be 2 free ++ (be 2 stock.count ++ (key ++ be 2 stock.last))) a n
  unfolding after-count
  past-keeper a n = let e : 16 + a ≡ 8 + (8 + a) = omega arith in ap (λ (k : ℕ). part (header_bytes logs slots keeper free stock key) k n) e ∙ past-count (8 + a) n ∙ skip (be 8 keeper) (be 2 free ++ (be 2 stock.count ++ (key ++ be 2 stock.last))) 8 a n (length-be 8 keeper)

  pub free-header : part (header_bytes logs slots keeper free stock key) free_offset 2 ≡ be 2 free
  free-header = past-keeper 0 2 ∙ here (be 2 free) (be 2 stock.count ++ (key ++ be 2 stock.last)) 2 (length-be 2 free)

  pub count-header : part (header_bytes logs slots keeper free stock key) count_offset 2 ≡ be 2 stock.count
  count-header = past-keeper 2 2 ∙ skip (be 2 free) (be 2 stock.count ++ (key ++ be 2 stock.last)) 2 0 2 (length-be 2 free) ∙ here (be 2 stock.count) (key ++ be 2 stock.last) 2 (length-be 2 stock.count)

  pub key-header : length key ≡ 32 → part (header_bytes logs slots keeper free stock key) 20 32 ≡ key
  key-header h = past-keeper 4 32 ∙ skip (be 2 free) (be 2 stock.count ++ (key ++ be 2 stock.last)) 2 2 32 (length-be 2 free) ∙ skip (be 2 stock.count) (key ++ be 2 stock.last) 2 0 32 (length-be 2 stock.count) ∙ here key (be 2 stock.last) 32 h

  pub last-header : length key ≡ 32 → part (header_bytes logs slots keeper free stock key) last_offset 2 ≡ be 2 stock.last
  last-header h =
      past-keeper 36 2
      ∙ skip (be 2 free) (be 2 stock.count ++ (key ++ be 2 stock.last)) 2 34 2 (length-be 2 free)
      ∙ skip (be 2 stock.count) (key ++ be 2 stock.last) 2 32 2 (length-be 2 stock.count)
      ∙ skip key (be 2 stock.last) 32 0 2 h
      ∙ only (be 2 stock.last) 2 (length-be 2 stock.last)

  -- a header, what follows the keeper number given
  headed : List ℕ → List ℕ
  headed q = mark ++ (be 1 logs ++ (zeros 1 ++ (be 2 slots ++ (be 8 keeper ++ q))))

  splice-past : (a : ℕ) (x : List ℕ) → splice (header_bytes logs slots keeper free stock key) (4 + (1 + (1 + (2 + (8 + a))))) x ≡ headed (splice (be 2 free ++ (be 2 stock.count ++ (key ++ be 2 stock.last))) a x)
  unfolding header_bytes headed
  splice-past a x =
      let t : List ℕ = be 2 free ++ (be 2 stock.count ++ (key ++ be 2 stock.last)) in
      let k : List ℕ = be 8 keeper ++ t in
      let s : List ℕ = be 2 slots ++ k in
      over mark (be 1 logs ++ (zeros 1 ++ s)) 4 (1 + (1 + (2 + (8 + a)))) x refl
      ∙ ap (λ (q : List ℕ). mark ++ q) (over (be 1 logs) (zeros 1 ++ s) 1 (1 + (2 + (8 + a))) x (length-be 1 logs)
      ∙ ap (λ (q : List ℕ). be 1 logs ++ q) (over (zeros 1) s 1 (2 + (8 + a)) x (length-zeros 1)
      ∙ ap (λ (q : List ℕ). zeros 1 ++ q) (over (be 2 slots) k 2 (8 + a) x (length-be 2 slots)
      ∙ ap (λ (q : List ℕ). be 2 slots ++ q) (over (be 8 keeper) t 8 a x (length-be 8 keeper)))))

  -- another first free slot in a header
  pub splice-free : (f : ℕ) → splice (header_bytes logs slots keeper free stock key) free_offset (be 2 f) ≡ header_bytes logs slots keeper f stock key
  unfolding header_bytes headed
  splice-free f = splice-past 0 (be 2 f) ∙ ap headed (front (be 2 free) (be 2 stock.count ++ (key ++ be 2 stock.last)) (be 2 f) (length-be 2 f ∙ sym (length-be 2 free)))

  -- another number of free slots
  pub splice-count : (n : ℕ) → splice (header_bytes logs slots keeper free stock key) count_offset (be 2 n) ≡ header_bytes logs slots keeper free (stocked n stock.last) key
  unfolding header_bytes headed
  splice-count n =
      splice-past 2 (be 2 n)
      ∙ ap headed (over (be 2 free) (be 2 stock.count ++ (key ++ be 2 stock.last)) 2 0 (be 2 n) (length-be 2 free)
      ∙ ap (λ (q : List ℕ). be 2 free ++ q) (front (be 2 stock.count) (key ++ be 2 stock.last) (be 2 n) (length-be 2 n ∙ sym (length-be 2 stock.count))))

  -- another last free slot
  pub splice-last : length key ≡ 32 → (n : ℕ) → splice (header_bytes logs slots keeper free stock key) last_offset (be 2 n) ≡ header_bytes logs slots keeper free (stocked stock.count n) key
  unfolding header_bytes headed
  splice-last h n =
      let l : List ℕ = be 2 stock.last in
      splice-past 36 (be 2 n)
      ∙ ap headed (over (be 2 free) (be 2 stock.count ++ (key ++ l)) 2 34 (be 2 n) (length-be 2 free)
      ∙ ap (λ (q : List ℕ). be 2 free ++ q) (over (be 2 stock.count) (key ++ l) 2 32 (be 2 n) (length-be 2 stock.count)
      ∙ ap (λ (q : List ℕ). be 2 stock.count ++ q) (over key l 32 0 (be 2 n) h
      ∙ ap (λ (q : List ℕ). key ++ q) (splice-whole l (be 2 n) (length-be 2 n ∙ sym (length-be 2 stock.last))))))

-- a header that was read, written again
pub write-header : (b : List ℕ) → Bytes b → header_size ≤ length b → part b 0 4 ≡ mark → part b zero_offset 1 ≡ zeros 1
    → header_bytes (unbe (part b 4 1)) (unbe (part b 6 2)) (unbe (part b 8 8)) (unbe (part b free_offset 2)) (stocked (unbe (part b count_offset 2)) (unbe (part b last_offset 2))) (part b 20 32) ≡ part b 0 header_size
unfolding header_bytes
write-header b h l m z =
    ap₂ ◌++◌ (sym m) (ap₂ ◌++◌ (be-unbe-part b 4 1 h (omega arith)) (ap₂ ◌++◌ (sym z) (ap₂ ◌++◌ (be-unbe-part b 6 2 h (omega arith)) (ap₂ ◌++◌ (be-unbe-part b 8 8 h (omega arith)) (ap₂ ◌++◌ (be-unbe-part b 16 2 h (omega arith)) (ap₂ ◌++◌ (be-unbe-part b count_offset 2 h (omega arith)) (ap (λ (q : List ℕ). part b 20 32 ++ q) (be-unbe-part b last_offset 2 h (omega arith)))))))))
    ∙ sym (part-add b 0 4 50
    ∙ ap (λ (q : List ℕ). part b 0 4 ++ q) (part-add b 4 1 49
    ∙ ap (λ (q : List ℕ). part b 4 1 ++ q) (part-add b 5 1 48
    ∙ ap (λ (q : List ℕ). part b 5 1 ++ q) (part-add b 6 2 46
    ∙ ap (λ (q : List ℕ). part b 6 2 ++ q) (part-add b 8 8 38
    ∙ ap (λ (q : List ℕ). part b 8 8 ++ q) (part-add b 16 2 36
    ∙ ap (λ (q : List ℕ). part b 16 2 ++ q) (part-add b 18 2 34
    ∙ ap (λ (q : List ℕ). part b 18 2 ++ q) (part-add b 20 32 2))))))))
