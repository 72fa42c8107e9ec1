-- What the calls' answers say determines the answer; and a refused call leaves every lent byte as it was.
use Prim.Native.Nat.{ℕ}
use mathlib.Core.Path.{◌≡◌, refl, sym, ap, ◌∙◌}
use mathlib.Core.List.{List}
use mathlib.Core.Option.{some}
use native.Mathlib.Omega.{arith}
use Rattle.refusal.specs.Number.{number_of}
use Rattle.refusal.proofs.NumberLaws.{number_of-injective}
use Rattle.refusal.specs.declared.Hashed.{Hashed}
use Rattle.refusal.specs.declared.Refused.{Refused}
use Rattle.refusal.specs.Work.{worked_blocks}
use Rattle.std.specs.Prelude.{Result, Ok, Err}
use Rattle.a2m.specs.declared.Bounds.{Bounds}
use Rattle.a2m.specs.Call.{Call, Reply, refused, done, found, ended}
use Rattle.a2m.specs.TableCalls.{table_refusal, table_step}
use Rattle.a2m.specs.Opened.{change_reply, change_blocks, finding_reply, finding_blocks, end_reply, receipt_after}
use Rattle.a2m.proofs.Cases.{refused-step}
use Rattle.a2m.proofs.Unchanged.{refused_unchanged}

-- ---- no two answers say the same, with the same blocks

abbrev is_refused : Reply → ℕ
is_refused (refused k) = 1
is_refused (done low high) = 0
is_refused (found receipt examined) = 0
is_refused (ended receipt) = 0

-- a refusal is its number and its blocks
same_refusal : (r s : Refused) → refused (number_of r.why) ≡ refused (number_of s.why) → r.blocks ≡ s.blocks → r ≡ s
same_refusal r s e f =
    let p : number_of r.why ≡ number_of s.why = cc in
    let q = number_of-injective r.why s.why p in
    λ i. record { why = q i; blocks = f i }

-- a done answer is no refusal
not-refused : (k : ℕ) (r : Reply) → is_refused r ≡ 0 → r ≡ refused k → ⊥
not-refused k r z e = let h : is_refused r ≡ 1 = ap is_refused e in omega arith

pub change-injective : (r s : Result (Hashed Bounds) Refused) → change_reply r ≡ change_reply s → change_blocks r ≡ change_blocks s → r ≡ s
change-injective (Ok a) (Ok b) e f =
    let p : done a.value.low a.value.high ≡ done b.value.low b.value.high = e in
    let l : a.value.low ≡ b.value.low = cc in
    let h : a.value.high ≡ b.value.high = cc in
    ap Ok (λ i. record { value = record { low = l i; high = h i }; blocks = f i })
change-injective (Ok a) (Err s) e f = absurd (not-refused (number_of s.why) (done a.value.low a.value.high) refl e)
change-injective (Err r) (Ok b) e f = absurd (not-refused (number_of r.why) (done b.value.low b.value.high) refl (sym e))
change-injective (Err r) (Err s) e f = ap Err (same_refusal r s e f)

pub finding-injective : (r s : Result (Hashed ℕ) Refused) (x y : List ℕ) → finding_reply r x ≡ finding_reply s y → finding_blocks r ≡ finding_blocks s → r ≡ s
finding-injective (Ok a) (Ok b) x y e f =
    let p : found x a.value ≡ found y b.value = e in
    let q : a.value ≡ b.value = cc in
    ap Ok (λ i. record { value = q i; blocks = f i })
finding-injective (Ok a) (Err s) x y e f = absurd (not-refused (number_of s.why) (found x a.value) refl e)
finding-injective (Err r) (Ok b) x y e f = absurd (not-refused (number_of r.why) (found y b.value) refl (sym e))
finding-injective (Err r) (Err s) x y e f = ap Err (same_refusal r s e f)

pub end-injective : (r s : Result (Hashed Unit) Refused) (x y : List ℕ) → end_reply r x ≡ end_reply s y → worked_blocks r ≡ worked_blocks s → r ≡ s
end-injective (Ok a) (Ok b) x y e f = ap Ok (λ i. record { value = tt; blocks = f i })
end-injective (Ok a) (Err s) x y e f = absurd (not-refused (number_of s.why) (ended x) refl e)
end-injective (Err r) (Ok b) x y e f = absurd (not-refused (number_of r.why) (ended y) refl (sym e))
end-injective (Err r) (Err s) x y e f = ap Err (same_refusal r s e f)

-- ---- "A refusal changes no lent byte": the hypotheses are what the contracts of the five calls say

-- append, advance, truncate: a is the table after the call on b
pub refused_change : (b a : List ℕ) (call : Call) (w : Refused) → change_reply (Err w) ≡ (table_step b call).reply → a ≡ (table_step b call).state → a ≡ b
refused_change b a call w r s = s ∙ (refused_unchanged b call (number_of w.why) (sym r)).0

kept : (b : List ℕ) (call : Call) (k : ℕ) (out old : List ℕ) → refused k ≡ (table_step b call).reply → out ≡ receipt_after (table_step b call).reply old → out ≡ old
unfolding receipt_after
kept b call k out old r s = s ∙ sym (ap (λ (x : Reply). receipt_after x old) r)

-- lookup and end, which take the table as a shared slice: out is the lent receipt after the call, old the one before
pub refused-lookup : (b : List ℕ) (call : Call) (w : Refused) (out old : List ℕ) → finding_reply (Err w) out ≡ (table_step b call).reply → out ≡ receipt_after (table_step b call).reply old → out ≡ old
refused-lookup b call w out old r s = kept b call (number_of w.why) out old r s

pub refused_end : (b : List ℕ) (call : Call) (w : Refused) (out old : List ℕ) → end_reply (Err w) out ≡ (table_step b call).reply → out ≡ receipt_after (table_step b call).reply old → out ≡ old
refused_end b call w out old r s = kept b call (number_of w.why) out old r s

-- request [2], "0 for a table call": a refused call hashed nothing
pub refused-blocks : (b : List ℕ) (call : Call) (k : ℕ) → table_refusal b call ≡ some k → (table_step b call).blocks ≡ 0
refused-blocks b call k e = sym (refused-step b call k e).1.0
