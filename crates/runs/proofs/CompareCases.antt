-- The six ways out of `compare`.
use mathlib.Core.Path.{◌≡◌, refl, ap}
use Prim.Native.Nat.{ℕ, ◌+◌, ◌*◌}
use mathlib.Core.Bool.{true, false}
use mathlib.Core.Option.{none, some}
use mathlib.Core.List.{List}
use lib.ListN.{length}
use borrow.Author.Tests.{eq-eqb, ne_eqb}
use Rattle.std.specs.Prelude.{Result, Ok, Err, IsErr, IsErrAnd}
use Rattle.refusal.specs.Number.{number_of}
use Rattle.refusal.specs.Order.{first_fault, afterwards}
use Rattle.refusal.specs.Work.{unhashed}
use Rattle.refusal.specs.declared.Hashed.{Hashed}
use Rattle.refusal.specs.declared.Refusal.{Refusal}
use Rattle.refusal.specs.declared.Refusal.TheVariants.{Length, NoRun}
use Rattle.refusal.specs.declared.Refused.{Refused}
use Rattle.sha256.specs.Sha256.{sha256}
use Rattle.runs.specs.Run.{Run, count}
use Rattle.runs.specs.Compare.{comparison, handed_over}
use Rattle.runs.specs.Call.{no_run, compare_refusal, done, answered, verdict_named, comparison_answer, comparison_blocks, compare_answer, compare_blocks, compare_bytes}
use Rattle.runs.specs.declared.Comparison.{Comparison}

abbrev Compared : Type 0
Compared = Result (Hashed Comparison) Refused

-- what `?` makes of a refusal
pub handed-on : (why : Refusal) (r : Compared) → IsErr r × IsErrAnd r (λ u. u ≡ unhashed why) → r ≡ Err (unhashed why)
handed-on why (Ok compared) h = absurd h.1
handed-on why (Err refused) h = ap Err h.1

module _ (a b : Run) (out : List ℕ) where
  abbrev Answers : Compared → List ℕ → Type 0
  Answers r d = (comparison_answer r ≡ compare_answer a b out) × ((comparison_blocks r ≡ compare_blocks a b out) × (d ≡ compare_bytes a b out))

  -- by the refusal's number
  abbrev Refuses : Refusal → Type 0
  Refuses why = (r : Compared) → r ≡ Err (unhashed why) → Answers r out

  refuses : (why : Refusal) → compare_refusal a b out ≡ some (number_of why) → Refuses why
  unfolding compare_answer compare_blocks compare_bytes answered afterwards
  refuses why h r e = rw e (simp h (refl, (refl, refl)))

  pub other-start1 : (length a.start ≡ 32 → ⊥) → Refuses Length
  unfolding compare_refusal first_fault
  other-start1 h = refuses Length (simp (ne_eqb (length a.start) 32 h))

  module _ (s : length a.start ≡ 32) where
    pub other-start2 : (length b.start ≡ 32 → ⊥) → Refuses Length
    unfolding compare_refusal first_fault
    other-start2 h = refuses Length (simp (eq-eqb (length a.start) 32 s, ne_eqb (length b.start) 32 h))

    module _ (t : length b.start ≡ 32) where
      pub other-buffer : (length out ≡ 144 → ⊥) → Refuses Length
      unfolding compare_refusal first_fault
      other-buffer h = refuses Length (simp (eq-eqb (length a.start) 32 s, eq-eqb (length b.start) 32 t, ne_eqb (length out) 144 h))

      module _ (o : length out ≡ 144) where
        pub no-run1 : no_run a.first a.values ≡ true → Refuses NoRun
        unfolding compare_refusal first_fault
        no-run1 h = refuses NoRun (simp (eq-eqb (length a.start) 32 s, eq-eqb (length b.start) 32 t, eq-eqb (length out) 144 o, h))

        module _ (g : no_run a.first a.values ≡ false) where
          pub no-run2 : no_run b.first b.values ≡ true → Refuses NoRun
          unfolding compare_refusal first_fault
          no-run2 h = refuses NoRun (simp (eq-eqb (length a.start) 32 s, eq-eqb (length b.start) 32 t, eq-eqb (length out) 144 o, g, h))

          accepts : no_run b.first b.values ≡ false → compare_refusal a b out ≡ none
          unfolding compare_refusal first_fault
          accepts h = simp (eq-eqb (length a.start) 32 s, eq-eqb (length b.start) 32 t, eq-eqb (length out) 144 o, g, h)

          pub compares : no_run b.first b.values ≡ false → (v : Comparison) (n : ℕ) (d : List ℕ)
              → (verdict_named v ≡ comparison sha256 a b) × ((n ≡ 2 * (count a + count b)) × (d ≡ handed_over sha256 a b out))
              → Answers (Ok (record { value = v; blocks = n })) d
          unfolding compare_answer compare_blocks compare_bytes answered afterwards
          compares h v n d e = simp (accepts h) (ap done e.0, e.1)
