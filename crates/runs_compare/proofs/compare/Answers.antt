-- `runs_compare::compare` meets its contract.
use mathlib.Core.Path.{◌≡◌, sym, ap, subst, ◌∙◌}
use mathlib.Core.Logic.{◌≢◌}
use Prim.Native.Nat.{ℕ}
use mathlib.Core.List.{List}
use lib.ListN.{length}
use Rattle.std.specs.Borrow.{Bor}
use Rattle.std.specs.Prelude.{Option, Some, None, Ok, Err, MatchOption, ok_or}
use Rattle.std.specs.Array.{IsWholeChunk}
use Rattle.refusal.specs.declared.Refusal.{Refusal}
use Rattle.refusal.specs.declared.Refusal.TheVariants.{Length}
use Rattle.refusal.specs.Work.{unhashed}
use Rattle.runs.specs.Lent.{lent, whole}
use Rattle.runs.specs.Run.{run}
use Rattle.runs.proofs.PassLaws.{kept-inside, concludes}
use Rattle.runs.proofs.CompareCases.{handed-on, other-start1, other-start2, other-buffer, no-run1, no-run2, compares}
use Rattle.runs_compare.proofs.compare.Goals as goal

-- a start digest that `as_array` and `ok_or` read, and one that they refuse
this : (l : List ℕ) (o : Option (Bor (List ℕ))) → MatchOption o (length l ≢ 32) (λ x. IsWholeChunk l x.now 32)
    → (x : Bor (List ℕ)) → ok_or o Length ≡ Ok x → IsWholeChunk l x.now 32
this l None h x e = absurd cc
this l (Some y) h x e = let z : y ≡ x = cc in subst (λ (b : Bor (List ℕ)). IsWholeChunk l b.now 32) z h

other : (l : List ℕ) (o : Option (Bor (List ℕ))) → MatchOption o (length l ≢ 32) (λ x. IsWholeChunk l x.now 32)
    → (why : Refusal) → ok_or o Length ≡ Err why → (why ≡ Length) × (length l ≡ 32 → ⊥)
other l None h why e = (cc, h)
other l (Some y) h why e = absurd cc

pub returns-in_err-start1 : goal.returns-in_err-start1
returns-in_err-start1 c =
    let u = other c.args.one.start.now c.as_array.result c.as_array.ensures.cases _ (sym c.ok_or.ensures.value ∙ c.in_err-start1.was) in
    let e = handed-on _ c.from_residual.result c.from_residual.ensures ∙ ap (λ why. Err (unhashed why)) u.0 in
    let d = other-start1 (lent c.args.one) (lent c.args.two) c.args.out.now u.1 c.from_residual.result e in
    record { answer = d.0; blocks = d.1.0; bytes = d.1.1 }

pub returns-in_err-start2 : goal.returns-in_err-start2
returns-in_err-start2 c =
    let s = this c.args.one.start.now c.as_array.result c.as_array.ensures.cases _ (sym c.ok_or.ensures.value ∙ c.in_ok-start1.was) in
    let u = other c.args.two.start.now c.as_array-2.result c.as_array-2.ensures.cases _ (sym c.ok_or-2.ensures.value ∙ c.in_err-start2.was) in
    let e = handed-on _ c.from_residual-in_err-start2.result c.from_residual-in_err-start2.ensures ∙ ap (λ why. Err (unhashed why)) u.0 in
    let d = other-start2 (lent c.args.one) (lent c.args.two) c.args.out.now s.long u.1 c.from_residual-in_err-start2.result e in
    record { answer = d.0; blocks = d.1.0; bytes = d.1.1 }

pub returns-then-out-ne144 : goal.returns-then-out-ne144
returns-then-out-ne144 c =
    let s = this c.args.one.start.now c.as_array.result c.as_array.ensures.cases _ (sym c.ok_or.ensures.value ∙ c.in_ok-start1.was) in
    let t = this c.args.two.start.now c.as_array-2.result c.as_array-2.ensures.cases _ (sym c.ok_or-2.ensures.value ∙ c.in_ok-start2.was) in
    let d = other-buffer (lent c.args.one) (lent c.args.two) c.args.out.now s.long t.long c.if-out-ne144.true (Err c.into.result) (ap Err c.into.ensures) in
    record { answer = d.0; blocks = d.1.0; bytes = d.1.1 }

pub returns-in_err-one : goal.returns-in_err-one
returns-in_err-one c =
    let s = this c.args.one.start.now c.as_array.result c.as_array.ensures.cases _ (sym c.ok_or.ensures.value ∙ c.in_ok-start1.was) in
    let t = this c.args.two.start.now c.as_array-2.result c.as_array-2.ensures.cases _ (sym c.ok_or-2.ensures.value ∙ c.in_ok-start2.was) in
    let e = handed-on _ c.from_residual-in_err-one.result c.from_residual-in_err-one.ensures ∙ ap (λ why. Err (unhashed why)) c.in_err-one.ensures.0 in
    let d = no-run1 (lent c.args.one) (lent c.args.two) c.args.out.now s.long t.long c.if-out-ne144.false c.in_err-one.ensures.1 c.from_residual-in_err-one.result e in
    record { answer = d.0; blocks = d.1.0; bytes = d.1.1 }

pub returns-in_err-two : goal.returns-in_err-two
returns-in_err-two c =
    let s = this c.args.one.start.now c.as_array.result c.as_array.ensures.cases _ (sym c.ok_or.ensures.value ∙ c.in_ok-start1.was) in
    let t = this c.args.two.start.now c.as_array-2.result c.as_array-2.ensures.cases _ (sym c.ok_or-2.ensures.value ∙ c.in_ok-start2.was) in
    let e = handed-on _ c.from_residual-in_err-two.result c.from_residual-in_err-two.ensures ∙ ap (λ why. Err (unhashed why)) c.in_err-two.ensures.0 in
    let d = no-run2 (lent c.args.one) (lent c.args.two) c.args.out.now s.long t.long c.if-out-ne144.false c.in_ok-one.ensures.1 c.in_err-two.ensures.1 c.from_residual-in_err-two.result e in
    record { answer = d.0; blocks = d.1.0; bytes = d.1.1 }

pub conclude-value-requires : goal.conclude-value-requires
conclude-value-requires c = record { out_len = c.if-out-ne144.false; in_runs = kept-inside (whole c.in_ok-one.one) (whole c.in_ok-two.two) c.pass-scan.ensures }

pub returns : goal.returns
returns c =
    let s = this c.args.one.start.now c.as_array.result c.as_array.ensures.cases _ (sym c.ok_or.ensures.value ∙ c.in_ok-start1.was) in
    let t = this c.args.two.start.now c.as_array-2.result c.as_array-2.ensures.cases _ (sym c.ok_or-2.ensures.value ∙ c.in_ok-start2.was) in
    let a : whole c.in_ok-one.one ≡ lent c.args.one = c.in_ok-one.ensures.0 ∙ ap (λ (s : List ℕ). run s c.args.one.first c.args.one.values.now) s.same in
    let b : whole c.in_ok-two.two ≡ lent c.args.two = c.in_ok-two.ensures.0 ∙ ap (λ (s : List ℕ). run s c.args.two.first c.args.two.values.now) t.same in
    let v = rw (a, b) at (concludes (whole c.in_ok-one.one) (whole c.in_ok-two.two) c.pass-scan.ensures c.args.out.now c.conclude-value.ensures) in
    let d = compares (lent c.args.one) (lent c.args.two) c.args.out.now s.long t.long c.if-out-ne144.false c.in_ok-one.ensures.1 c.in_ok-two.ensures.1 _ _ _ v in
    record { answer = d.0; blocks = d.1.0; bytes = d.1.1 }
