-- A refused call changes no byte of the table; nor does an accepted lookup or end.
use Prim.Native.Nat.{ℕ}
use mathlib.Core.Path.{◌≡◌, refl, ap, ◌∙◌}
use mathlib.Core.List.{List}
use mathlib.Core.Option.{Option, none, some}
use native.Mathlib.Omega.{arith}
use borrow.Author.Tests.{not-false}
use Rattle.octets.specs.Octets.{Bytes}
use Rattle.layout.specs.Image.{Image}
use Rattle.layout.specs.Layout.{read_table}
use Rattle.table.specs.Free.{write_table}
use Rattle.table.specs.Whole.{whole}
use Rattle.table.proofs.WholeLaws.{write_read}
use Rattle.a2m.specs.Call.{Call, append, advance, truncate, lookup, end, refused}
use Rattle.a2m.specs.ImageCalls.{image_done, image_accept}
use Rattle.a2m.specs.TableCalls.{table_refusal, table_step}
use Rattle.a2m.proofs.Clear.{clear}

accept-not : (m : Image) (call : Call) (k : ℕ) → (image_accept m call).reply ≡ refused k → ⊥
unfolding image_accept image_done
accept-not m (append g x) k h = let z : ◌≡◌ {A = ℕ} 0 1 = cc in omega arith
accept-not m (advance g n d x) k h = let z : ◌≡◌ {A = ℕ} 0 1 = cc in omega arith
accept-not m (truncate g n) k h = let z : ◌≡◌ {A = ℕ} 0 1 = cc in omega arith
accept-not m (lookup g n c r) k h = let z : ◌≡◌ {A = ℕ} 0 1 = cc in omega arith
accept-not m (end g c r) k h = let z : ◌≡◌ {A = ℕ} 0 1 = cc in omega arith

-- document 01: "A refusal changes no lent byte and returns its number alone."
pub refused_unchanged : (b : List ℕ) (call : Call) (k : ℕ) → (table_step b call).reply ≡ refused k → ((table_step b call).state ≡ b) × (table_refusal b call ≡ some k)
unfolding table_step
refused_unchanged b call k h = go (table_refusal b call) refl
  where
    go : (r : Option ℕ) → table_refusal b call ≡ r → ((table_step b call).state ≡ b) × (table_refusal b call ≡ some k)
    go none e = absurd (accept-not (read_table b) call k (rw (table_step, e) at h))
    go (some j) e =
        let q : refused j ≡ refused k = rw (table_step, e) at h in
        (rw (table_step, e), e ∙ (let p : j ≡ k = cc in ap some p))

-- the calls that take the table to read it
abbrev pub Reads : Call → Type 0
Reads (append g x) = ⊥
Reads (advance g n d x) = ⊥
Reads (truncate g n) = ⊥
Reads (lookup g n c r) = Unit {0}
Reads (end g c r) = Unit {0}

read_same : (m : Image) (call : Call) → Reads call → (image_accept m call).state ≡ m
unfolding image_accept
read_same m (append g x) h = elim h [ ]
read_same m (advance g n d x) h = elim h [ ]
read_same m (truncate g n) h = elim h [ ]
read_same m (lookup g n c r) h = refl
read_same m (end g c r) h = refl

-- document 01: "Lookup and end change nothing"
pub read_unchanged : (b : List ℕ) → Bytes b → (call : Call) → Reads call → (table_step b call).state ≡ b
unfolding table_step table_refusal
read_unchanged b h call r = go (table_refusal b call) refl
  where
    go : (o : Option ℕ) → table_refusal b call ≡ o → (table_step b call).state ≡ b
    go none e =
        let c = clear _ (read_table b) call e in
        rw (table_step, e) (ap write_table (read_same (read_table b) call r) ∙ write_read b h (not-false (whole b) c.whole))
    go (some k) e = rw (table_step, e)
