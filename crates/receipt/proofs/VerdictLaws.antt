-- No two verdicts have one answer and one number of blocks.
use Prim.Native.Nat.{ℕ}
use native.Mathlib.Omega.{arith}
use mathlib.Core.Path.{◌≡◌, refl, sym, ap, ap₂, ◌∙◌}
use mathlib.Core.List.{List, [], ◌∷◌}
use lib.ListN.{get_or}
use Rattle.std.specs.Prelude.{Ok, Err}
use Rattle.refusal.proofs.NumberLaws.{number_of-injective}
use Rattle.refusal.specs.Answer.{Answer}
use Rattle.refusal.specs.declared.Refusal.{Refusal}
use Rattle.receipt.specs.Kind.{kind_number}
use Rattle.receipt.specs.declared.Kind.{Kind}
use Rattle.receipt.specs.declared.Kind.TheVariants.{Unassigned, Assigned, Skipped, Forgotten}
use Rattle.receipt.specs.Verdict.{Verdict, accepted_values, verdict_answer, verdict_blocks}
use Rattle.receipt.specs.declared.Accepted.{Accepted}

-- the kind of a number
abbrev kind_of : ℕ → Kind
kind_of n = get_or (Unassigned ∷ Assigned ∷ Skipped ∷ Forgotten ∷ []) n Unassigned

kind-back : (k : Kind) → kind_of (kind_number k) ≡ k
kind-back Unassigned = refl
kind-back Assigned = refl
kind-back Skipped = refl
kind-back Forgotten = refl

made : ℕ → ℕ → ℕ → Kind → ℕ → Accepted
made a l p k r = record { keeper = a; log = l; position = p; kind = k; reference = r }

accepted-injective : (a b : Accepted) → accepted_values a ≡ accepted_values b → a ≡ b
unfolding made
accepted-injective a b h =
    let n : kind_number a.kind ≡ kind_number b.kind = cc in
    let k : a.kind ≡ b.kind = sym (kind-back a.kind) ∙ ap kind_of n ∙ kind-back b.kind in
    let e : made a.keeper a.log a.position a.kind a.reference ≡ made b.keeper b.log b.position b.kind b.reference = cc in e

pub verdict-injective : (v w : Verdict) → verdict_answer v ≡ verdict_answer w → verdict_blocks v ≡ verdict_blocks w → v ≡ w
verdict-injective (Ok v) (Ok w) h k =
    let e = accepted-injective v.value w.value (ap (λ (x : Answer). x.values) h) in
    ap₂ (λ (a : Accepted) (n : ℕ). Ok (record { value = a; blocks = n })) e k
verdict-injective (Ok v) (Err w) h k =
    let l : ◌≡◌ {A = List ℕ} (accepted_values v.value) [] = ap (λ (x : Answer). x.values) h in
    let z : ◌≡◌ {A = ℕ} 0 1 = cc in absurd (omega arith)
verdict-injective (Err v) (Ok w) h k =
    let l : ◌≡◌ {A = List ℕ} [] (accepted_values w.value) = ap (λ (x : Answer). x.values) h in
    let z : ◌≡◌ {A = ℕ} 0 1 = cc in absurd (omega arith)
verdict-injective (Err v) (Err w) h k =
    ap₂ (λ (r : Refusal) (n : ℕ). Err (record { why = r; blocks = n })) (number_of-injective v.why w.why (ap (λ (x : Answer). x.number) h)) k
