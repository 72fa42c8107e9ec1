-- The slots promised are there: what the logs lack of their reserves, and what they hold, are together no more than the slots. So a log below its reserve
-- gets a slot, whatever the others did.
use Prim.Native.Nat.{ℕ, zero, suc, ◌+◌, ◌-◌, ◌≤◌, ◌<◌}
use mathlib.Core.Path.{◌≡◌, refl, ap, ◌∙◌}
use mathlib.Core.Logic.{◌≢◌}
use mathlib.Core.List.{List, [], ◌∷◌, ◌++◌, map}
use mathlib.Core.Bool.{Bool, true, false, cond}
use mathlib.Core.Option.{Option, none, some}
use native.Mathlib.Omega.{arith}
use lib.ListN.{length, set, length-set, length-append}
use lib.Seq.{get_or-set_same}
use lib.Dec.{eqb, leb, ltb}
use borrow.Author.Tests.{ne_eqb, leb-false, ltb-true, ltb-false, lt-ltb}
use Rattle.layout.specs.Image.{Entry}
use Rattle.table.specs.Reserve.{sum}
use Rattle.a2m.specs.Call.{Call, append, advance, truncate, lookup, end}
use Rattle.model.specs.Log.{Log, fresh_log, lack, entered, keep_from, cut_at}
use Rattle.model.specs.Model.{Model, new_model, log_at, with_log, total, lacks, lacks_but, slot_rule, rules, model_done, model_accept, model_step}
use Rattle.model.proofs.Passed.{Passed, Stepped, turned, taken, stepped, peel}
use Rattle.model.proofs.Reading.{total-set, total-at}

abbrev pub Backed : Model → Type 0
Backed b = lacks b.logs + total b.logs ≤ b.size

abbrev held : Model → ℕ → ℕ
held b g = length (log_at b.logs g).entries

abbrev reserve : Model → ℕ → ℕ
reserve b g = (log_at b.logs g).reserve

-- ---- all logs, and all but one

pub lacks_but_lem : (g : ℕ) (ls : List Log) → g < length ls → lacks ls ≡ lacks_but g ls + lack (log_at ls g)
unfolding lacks lacks_but
lacks_but_lem g [] h = absurd (omega arith)
lacks_but_lem zero (l ∷ ls) h = omega arith
lacks_but_lem (suc g) (l ∷ ls) h = let ih = lacks_but_lem g ls (omega arith) in omega arith

but-set : (g : ℕ) (ls : List Log) (l : Log) → lacks_but g (set ls g l) ≡ lacks_but g ls
unfolding lacks lacks_but
but-set g [] l = refl
but-set zero (k ∷ ls) l = refl
but-set (suc g) (k ∷ ls) l = ap (λ (x : ℕ). lack k + x) (but-set g ls l)

-- one log other than it was
set_backed : (b : Model) (g : ℕ) (l : Log) → g < length b.logs → lacks_but g b.logs + lack l + (total b.logs + length l.entries) ≤ b.size + held b g → Backed (with_log b g l)
set_backed b g l g_g h =
    let t = total-set b.logs g l g_g in
    let u = total-at b.logs g in
    let s : length (set b.logs g l) ≡ length b.logs = length-set b.logs g l in
    let e = lacks_but_lem g (set b.logs g l) (omega arith) in
    let f = but-set g b.logs l in
    let n : lack (log_at (set b.logs g l) g) ≡ lack l = ap (λ (k : Log). lack k) (get_or-set_same b.logs g l (fresh_log 0) g_g) in
    omega (arith, e, f, n, t, u)

-- ---- the rule for slots

-- "always gets a slot while its log holds fewer entries than its reserve": neither 5 nor 16
pub room : (b : Model) → Backed b → (g : ℕ) → g < length b.logs → held b g < reserve b g → slot_rule b g ≡ none
unfolding slot_rule
room b k g g_g h =
    let e = lacks_but_lem g b.logs g_g in
    let ne : total b.logs ≢ b.size = λ (z : total b.logs ≡ b.size). omega arith in
    rw (slot_rule, ne_eqb (total b.logs) b.size ne, lt-ltb (held b g) (reserve b g) h)

-- a put that gets a slot leaves one for each that the logs then lack
room_after : (b : Model) → Backed b → (g : ℕ) → g < length b.logs → slot_rule b g ≡ none → lacks_but g b.logs + (reserve b g - suc (held b g)) + suc (total b.logs) ≤ b.size
unfolding slot_rule
room_after b k g g_g h = go (ltb (held b g) (reserve b g)) refl
  where
    e : lacks b.logs ≡ lacks_but g b.logs + lack (log_at b.logs g)
    e = lacks_but_lem g b.logs g_g

    rest : cond {A = Option ℕ} (ltb (held b g) (reserve b g)) none (cond (leb (b.size - total b.logs) (lacks_but g b.logs)) (some 16) none) ≡ none
    rest = (peel (eqb (total b.logs) b.size) 5 _ h).1

    go : (x : Bool) → ltb (held b g) (reserve b g) ≡ x → lacks_but g b.logs + (reserve b g - suc (held b g)) + suc (total b.logs) ≤ b.size
    go true p = let l = ltb-true (held b g) (reserve b g) p in omega (arith, e)
    go false p =
        let l = ltb-false (held b g) (reserve b g) p in
        let q = peel (leb (b.size - total b.logs) (lacks_but g b.logs)) 16 none (rw p at rest) in
        let m = leb-false (b.size - total b.logs) (lacks_but g b.logs) q.0 in
        omega (arith, e)

-- ---- every call leaves the slots promised

put_backed : (b : Model) → Backed b → (g : ℕ) → g < length b.logs → slot_rule b g ≡ none → (e : Entry) → Backed (with_log b g (entered (log_at b.logs g) e))
unfolding entered
put_backed b k g g_g h e =
    let r = room_after b k g g_g h in
    let a : length ((log_at b.logs g).entries ++ (e ∷ [])) ≡ suc (held b g) = length-append (log_at b.logs g).entries (e ∷ []) ∙ omega arith in
    set_backed b g (entered (log_at b.logs g) e) g_g (omega (arith, a, r))

keep_from-less : (n : ℕ) (es : List Entry) → length (keep_from n es) ≤ length es
unfolding keep_from
keep_from-less n [] = omega arith
keep_from-less n (e ∷ es) = go (leb n e.position) (keep_from-less n es)
  where
    go : (t : Bool) → length (keep_from n es) ≤ length es → length (cond t (e ∷ keep_from n es) (keep_from n es)) ≤ suc (length es)
    go true h = omega arith
    go false h = omega arith

cut_backed : (b : Model) → Backed b → (g : ℕ) → g < length b.logs → (n : ℕ) → Backed (with_log b g (cut_at n (log_at b.logs g)))
unfolding cut_at
cut_backed b k g g_g n =
    let e = lacks_but_lem g b.logs g_g in
    let m = keep_from-less n (log_at b.logs g).entries in
    set_backed b g (cut_at n (log_at b.logs g)) g_g (omega (arith, e, m))

accept_backed : (b : Model) → Backed b → (c : Call) → Passed rules b c → Backed (model_accept rules b c).state
unfolding model_accept model_done rules
accept_backed b k (append g x) a = put_backed b k g a.log a.slot _
accept_backed b k (advance g n d x) a = put_backed b k g a.log a.slot _
accept_backed b k (truncate g n) a = cut_backed b k g a.log n
accept_backed b k (lookup g n c r) a = k
accept_backed b k (end g c r) a = k

pub step_backed : (b : Model) → Backed b → (c : Call) → Backed (model_step rules b c).state
step_backed b k c = go (stepped rules b c)
  where
    go : Stepped rules b c → Backed (model_step rules b c).state
    go (turned n e) = rw e k
    go (taken a e) = rw e (accept_backed b k c a)

-- ---- a new model

fresh-lacks : (rs : List ℕ) → lacks (map fresh_log rs) + total (map fresh_log rs) ≡ sum rs
unfolding lacks total sum
fresh-lacks [] = refl
fresh-lacks (r ∷ rs) = let ih = fresh-lacks rs in omega arith

pub new_backed : (S keeper : ℕ) (key reserves : List ℕ) → sum reserves ≤ S → Backed (new_model S keeper key reserves)
new_backed S keeper key reserves h = let e = fresh-lacks reserves in omega (arith, e, h)
