-- A log later: low and high only grow, what the high position has passed is decided for good, and what the low position has not passed is kept.
use Prim.Native.Nat.{ℕ, ◌≤◌, ◌<◌}
use native.Mathlib.Nat.{le_refl, le_trans}
use mathlib.Core.Path.{◌≡◌, ap, subst}
use mathlib.Core.Logic.{◌⊎◌, inl, inr}
use mathlib.Core.List.{List, [], ◌∷◌, ◌++◌}
use mathlib.Core.Bool.{Bool, true, false, cond}
use native.Mathlib.Omega.{arith}
use lib.Dec.{leb}
use borrow.Author.Tests.{le-leb}
use Rattle.layout.specs.Image.{Entry}
use Rattle.a2m.specs.Call.{Call, Effect, after, Wide}
use Rattle.table.proofs.Lists.{In, in_left, in-cases}
use Rattle.model.specs.Log.{Log, entered, keep_from, cut_at}
use Rattle.model.specs.Model.{Model, log_at}
use Rattle.model.specs.Claim.{Turn, model_turn}
use Rattle.model.proofs.Turns.{WideTurn, turn-so}
use Rattle.model.proofs.Changes.{Change, same, entering, cutting, step-change}

pub record Later (l k : Log) : Type 0 where
  pub low : l.low ≤ k.low
  pub high : l.high ≤ k.high
  pub old : (e : Entry) → In e k.entries → e.position ≤ l.high → In e l.entries
  pub kept : (e : Entry) → In e l.entries → k.low ≤ e.position → In e k.entries

pub later_refl : (l : Log) → Later l l
later_refl l = record { low = le_refl _; high = le_refl _; old = λ (e : Entry) (m : In e l.entries) (h : e.position ≤ l.high). m; kept = λ (e : Entry) (m : In e l.entries) (h : l.low ≤ e.position). m }

pub later_trans : (l k j : Log) → Later l k → Later k j → Later l j
later_trans l k j p q = record { low = le_trans p.low q.low; high = le_trans p.high q.high; old = λ (e : Entry) (m : In e j.entries) (h : e.position ≤ l.high). p.old e (q.old e m (le_trans h p.high)) h; kept = λ (e : Entry) (m : In e l.entries) (h : j.low ≤ e.position). q.kept e (p.kept e m (le_trans q.low h)) h }

pub in-keep_from : (n : ℕ) (e : Entry) (es : List Entry) → In e (keep_from n es) → In e es
unfolding keep_from
in-keep_from n e [] m = elim m [ ]
in-keep_from n e (x ∷ es) m = go (leb n x.position) m (λ (q : In e (keep_from n es)). in-keep_from n e es q)
  where
    go : (t : Bool) → In e (cond t (x ∷ keep_from n es) (keep_from n es)) → (In e (keep_from n es) → In e es) → In e (x ∷ es)
    go true (inl q) below = inl q
    go true (inr q) below = inr (below q)
    go false q below = inr (below q)

-- an entry at n or above is kept
pub in_kept : (n : ℕ) (e : Entry) (es : List Entry) → In e es → n ≤ e.position → In e (keep_from n es)
unfolding keep_from
in_kept n e [] x'' h = elim x'' [ ]
in_kept n e (x ∷ es) (inl p) h = rw (keep_from, le-leb n x.position (subst (λ (y : Entry). n ≤ y.position) p h)) (inl p)
in_kept n e (x ∷ es) (inr m) h = go (leb n x.position) (in_kept n e es m h)
  where
    go : (t : Bool) → In e (keep_from n es) → In e (cond t (x ∷ keep_from n es) (keep_from n es))
    go true q = inr q
    go false q = q

later-entered : (l : Log) (e : Entry) → l.high < e.position → Later l (entered l e)
unfolding entered
later-entered l e h = record { low = le_refl _; high = omega arith; old = λ (x : Entry) (m : In x (l.entries ++ (e ∷ []))) (k : x.position ≤ l.high). go x k (in-cases x l.entries (e ∷ []) m); kept = λ (x : Entry) (m : In x l.entries) (k : l.low ≤ x.position). in_left x l.entries (e ∷ []) m }
  where
    go : (x : Entry) → x.position ≤ l.high → In x l.entries ⊎ In x (e ∷ []) → In x l.entries
    go x k (inl m) = m
    go x k (inr (inr x3)) = elim x3 [ ]
    go x k (inr (inl q)) = absurd (let p : x.position ≡ e.position = ap (λ (y : Entry). y.position) q in omega arith)

later-cut : (l : Log) (n : ℕ) → l.low < n → Later l (cut_at n l)
unfolding cut_at
later-cut l n h = record { low = omega arith; high = le_refl _; old = λ (x : Entry) (m : In x (keep_from n l.entries)) (k : x.position ≤ l.high). in-keep_from n x l.entries m; kept = λ (x : Entry) (m : In x l.entries) (k : n ≤ x.position). in_kept n x l.entries m k }

pub change-later : (Ok : Type 0) (l k : Log) → Change Ok l k → Later l k
change-later Ok l k (same e) = rw e (later_refl l)
change-later Ok l k (entering e hi w v d q) = rw q (later-entered l e hi)
change-later Ok l k (cutting n lo hi q) = rw q (later-cut l n lo)

pub turn-later : (b : Model) (t : Turn) (g : ℕ) → Later (log_at b.logs g) (log_at (model_turn b t).state.logs g)
turn-later b t g =
    turn-so b t (λ (o : Effect Model). Later (log_at b.logs g) (log_at o.state.logs g)) (λ (k : ℕ) (h : 7 ≤ k). later_refl _)
    (λ (c : Call) (w : WideTurn t → Wide c). change-later (Wide c) _ _ (step-change t.rules b c g))

pub after-later : (b : Model) (ts : List Turn) (g : ℕ) → Later (log_at b.logs g) (log_at (after model_turn b ts).logs g)
unfolding after
after-later b [] g = later_refl (log_at b.logs g)
after-later b (t ∷ ts) g = later_trans (log_at b.logs g) (log_at (model_turn b t).state.logs g) _ (turn-later b t g) (after-later (model_turn b t).state ts g)
