-- The chains of an image that says a model meet every slot exactly once.
use Prim.Native.Nat.{ℕ, suc, ◌≤◌}
use mathlib.Core.Path.{subst, ◌≡◌, refl, ap}
use mathlib.Core.Logic.{inl, inr}
use mathlib.Core.List.{List, [], ◌∷◌}
use lib.ListN.{length}
use borrow.Author.Tests.{eq-eqb, ne_eqb}
use Rattle.layout.specs.Image.{Image}
use Rattle.table.specs.WholeImage.{meets}
use Rattle.table.proofs.Lists.{In, Distinct}
use Rattle.table.proofs.MetLaws.{meets-distinct, meets-every}
use Rattle.model.specs.Model.{Model}
use Rattle.model.specs.Claim.{times}
use Rattle.model.proofs.Represents.{Rep, Sound}
use Rattle.model.proofs.WholeOf.{linked_of}

times-out : (s : ℕ) (c : List ℕ) → (In s c → ⊥) → times s c ≡ 0
unfolding times
times-out s [] n = refl
times-out s (x ∷ c) n = rw (times, ne_eqb s x (λ (e : s ≡ x). n (inl e))) (times-out s c (λ (m : In s c). n (inr m)))

times-in : (s : ℕ) (c : List ℕ) → Distinct c → In s c → times s c ≡ 1
unfolding times
times-in s [] d x'' = elim x'' [ ]
times-in s (x ∷ c) d (inl e) = rw (times, eq-eqb s x e) (ap suc (times-out s c (λ (m : In s c). d.0 (subst (λ (y : ℕ). In y c) e m))))
times-in s (x ∷ c) d (inr m) =
    rw (times, ne_eqb s x (λ (e : s ≡ x). d.0 (subst (λ (y : ℕ). In y c) e m))) (times-in s c d.1 m)

-- every slot of the table, once
pub meets-once : (m : Image) (b : Model) → Rep m b → Sound b → (s : ℕ) → 1 ≤ s → s ≤ length m.slots → times s (meets m) ≡ 1
meets-once m b R ok s s1 s_s =
    let w = linked_of m b R ok in
    times-in s (meets m) (meets-distinct m w) (meets-every m w s s1 s_s)
