-- A model whose logs have no reserves, as document 01's: it lacks nothing, so what 01's rules let pass, the present rules let pass.
use Prim.Native.Nat.{ℕ, zero, suc, ◌-◌, ◌^◌, ◌≤◌}
use mathlib.Core.Path.{◌≡◌, refl, ap, ◌∙◌}
use mathlib.Core.Logic.{◌≢◌}
use mathlib.Core.List.{List, [], ◌∷◌}
use mathlib.Core.Bool.{Bool, true, false, cond, not, ◌||◌}
use mathlib.Core.Option.{Option, none, some, some-ne-none}
use native.Mathlib.Omega.{arith}
use lib.ListN.{length, get_or, replicate, get_or-map}
use lib.Dec.{eqb, leb}
use borrow.Author.Tests.{eqb-false, lt-leb, le-ltb}
use Rattle.a2m.specs.Call.{Call, append, advance, truncate, lookup, end, Wide}
use Rattle.model.specs.Log.{Log, fresh_log, entered, cut_at}
use Rattle.model.specs.Model.{Rules, rules01, rules, slot_rule, Model, log_at, total, lacks, lacks_but, is_nil, not32, no_log, model_refusal, model_step}
use Rattle.model.specs.Carried.{model01}
use Rattle.model.proofs.Backed.{Backed}
use Rattle.model.proofs.Passed.{peel}
use Rattle.model.proofs.Changes.{Change, same, entering, cutting, step-change}

abbrev Without : List Log → Type 0
Without ls = (g : ℕ) → (log_at ls g).reserve ≡ 0

abbrev pub NoReserves : Model → Type 0
NoReserves b = Without b.logs

-- ---- nothing is lacking

lacks-none : (ls : List Log) → Without ls → lacks ls ≡ 0
unfolding lacks
lacks-none [] h = refl
lacks-none (l ∷ ls) h = let a : l.reserve ≡ 0 = h 0 in let ih = lacks-none ls (λ (g : ℕ). h (suc g)) in omega arith

lacks_but-none : (g : ℕ) (ls : List Log) → Without ls → lacks_but g ls ≡ 0
unfolding lacks_but
lacks_but-none g [] h = refl
lacks_but-none zero (l ∷ ls) h = lacks-none ls (λ (g : ℕ). h (suc g))
lacks_but-none (suc g) (l ∷ ls) h = let a : l.reserve ≡ 0 = h 0 in let ih = lacks_but-none g ls (λ (k : ℕ). h (suc k)) in omega arith

pub unreserved_backed : (b : Model) → NoReserves b → total b.logs ≤ b.size → Backed b
unreserved_backed b u h = omega (arith, lacks-none b.logs u, h)

-- ---- what document 01's rules let pass

module _ (b : Model) (u : NoReserves b) (h : total b.logs ≤ b.size) where
  slot-passes : (g : ℕ) → rules01.no_slot b g ≡ none → rules.no_slot b g ≡ none
  unfolding rules01 rules slot_rule
  slot-passes g e =
      let p = (peel (eqb (total b.logs) b.size) 5 none e).0 in
      let ne : total b.logs ≢ b.size = eqb-false (total b.logs) b.size p in
      let z = u g in
      rw (slot_rule, p, le-ltb (length (log_at b.logs g).entries) (log_at b.logs g).reserve (omega arith), lacks_but-none g b.logs u, lt-leb (b.size - total b.logs) 0 (omega arith))

  -- what the tests after this one let pass
  onward : (t : Bool) (k : ℕ) (r s : Option ℕ) → (r ≡ none → s ≡ none) → cond t (some k) r ≡ none → cond t (some k) s ≡ none
  onward true k r s f e = absurd (some-ne-none k e)
  onward false k r s f e = f e

  -- an end that passes is one of a list with entries
  end-passes : (t : Bool) → cond t rules01.empty_end none ≡ none → cond t rules.empty_end none ≡ none
  unfolding rules01
  end-passes true e = absurd (some-ne-none 6 e)
  end-passes false e = refl

  pub passes01 : (call : Call) → model_refusal rules01 b call ≡ none → model_refusal rules b call ≡ none
  unfolding model_refusal
  passes01 (append g x) e = onward (not32 x) 7 _ _ (onward (no_log b g) 2 _ _ (onward (eqb (log_at b.logs g).high (2 ^ 64 - 1)) 4 _ _ (slot-passes g))) e
  passes01 (advance g n d x) e = onward (not32 d || not32 x) 7 _ _ (onward (no_log b g) 2 _ _ (onward (leb n (log_at b.logs g).high) 3 _ _ (slot-passes g))) e
  passes01 (truncate g n) e = e
  passes01 (lookup g n c k) e = e
  passes01 (end g c k) e = onward (not32 c || not (eqb k 160)) 7 _ _ (onward (no_log b g) 2 _ _ (end-passes (is_nil (log_at b.logs g).entries))) e

-- ---- a reserve stays as formatting gave it

reserve-kept : (Ok : Type 0) (l k : Log) → Change Ok l k → k.reserve ≡ l.reserve
unfolding entered cut_at
reserve-kept Ok l k (same e) = ap (λ (x : Log). x.reserve) e
reserve-kept Ok l k (entering e hi w v d q) = ap (λ (x : Log). x.reserve) q
reserve-kept Ok l k (cutting n lo hi q) = ap (λ (x : Log). x.reserve) q

pub step_unreserved : (ru : Rules) (b : Model) → NoReserves b → (call : Call) → NoReserves (model_step ru b call).state
step_unreserved ru b u call g = reserve-kept (Wide call) _ _ (step-change ru b call g) ∙ u g

pub replicate-zero : (n i : ℕ) → ◌≡◌ {A = ℕ} (get_or (replicate n 0) i 0) 0
replicate-zero zero i = refl
replicate-zero (suc n) zero = refl
replicate-zero (suc n) (suc i) = replicate-zero n i

pub unreserved01 : (G S keeper : ℕ) (key : List ℕ) → NoReserves (model01 G S keeper key)
unreserved01 G S keeper key g = ap (λ (l : Log). l.reserve) (get_or-map fresh_log (replicate G 0) g 0) ∙ replicate-zero G g
