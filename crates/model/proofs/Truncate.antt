-- Truncate on an image and on the model: the slots of entries below n go to the free chain's end, one by one.
use Prim.Native.Nat.{ℕ, zero, suc, ◌≤◌, ◌<◌}
use mathlib.Core.Path.{◌≡◌, refl, sym, ap, subst, ◌∙◌}
use mathlib.Core.Logic.{◌≢◌}
use mathlib.Core.List.{List, [], ◌∷◌, ◌++◌, nil≢cons, tail-eq_of_cons-eq, head-eq_of_cons-eq}
use mathlib.Core.Bool.{Bool, true, false}
use native.Mathlib.Omega.{arith}
use lib.ListN.{length, set, length-set, length-append, replicate, replicate-append-replicate}
use lib.Seq.{get_or-set_same, set-set, set-get_or}
use lib.Dec.{leb}
use borrow.Author.Tests.{leb-true, leb-false, le-leb, lt-leb}
use Rattle.layout.specs.Image.{Entry, Slot, Image, entry_of, blank_entry, free_slot, slot_at, row_at}
use Rattle.layout.specs.Changes.{truncated_row}
use Rattle.table.specs.Chains.{last_of, entries_of}
use Rattle.table.specs.Free.{joint}
use Rattle.a2m.specs.ImageCalls.{row_in, joined, first_of, release, releases, lowered}
use Rattle.table.specs.Conditions.{Links}
use Rattle.table.proofs.Links.{Holds, links-head}
use Rattle.a2m.proofs.Chained.{Chained, release-move}
use Rattle.a2m.proofs.Releases.{releases-stop, releases-go}
use Rattle.a2m.proofs.Moves.{Move, move-other, move-from, move-to, length-joined}
use Rattle.model.specs.Log.{Log, fresh_log, last_entry, keep_from, cut_at}
use Rattle.model.specs.Model.{Model, log_at, with_log}
use Rattle.model.proofs.Represents.{Rep, RowRep, LogOk, Rising}
use Rattle.model.proofs.Reading.{total-set, total-at, rows-set}

-- ---- release: the log's first slot goes to the end of the free chain

abbrev pub with_entries : Log → List Entry → Log
with_entries l es = record { low = l.low; high = l.high; entries = es; reserve = l.reserve }

module _ (m : Image) (b : Model) (R : Rep m b) (g : ℕ) (g_g : g < length b.logs) where
  -- x is the entry that leaves; one at least is left
  release-rep : (t : ℕ) (A : List ℕ) (x y : Entry) (es : List Entry) → Chained m g ((row_in m g).first ∷ t ∷ A) (x ∷ y ∷ es) R.queue → (log_at b.logs g).entries ≡ x ∷ y ∷ es → Rep (release m g) (with_log b g (with_entries (log_at b.logs g) (y ∷ es)))
  unfolding release last_of truncated_row
  release-rep t A x y es chained was = record {
    keeper = R.keeper;
    key = R.key;
    count = length-set m.rows g _ ∙ R.count ∙ sym (length-set b.logs g _);
    size = same_size ∙ R.size;
    rows = rows-set slots m.rows b.logs g _ _ (rw R.count g_g) g_g others this;
    queue = R.queue ++ ((row_in m g).first ∷ []);
    free = blanks (move-to _ _ _ _ _ _ _ _ _ M _ R.free.held);
    sum =
        let s = total-set b.logs g (with_entries (log_at b.logs g) (y ∷ es)) g_g in
        let a = length-append R.queue ((row_in m g).first ∷ []) in
        let l = same_size in
        let n : length (log_at b.logs g).entries ≡ suc (suc (length es)) = ap length was in
        let k = R.sum in
        omega arith;
  }
    where
      slots : List Slot
      slots = joined m.slots (row_in m g).first (joint m) (free_slot 0)

      same_size : length slots ≡ length m.slots
      same_size = length-joined m.slots (row_in m g).first (joint m) (free_slot 0)

      M : Move m.slots (suc g) 0 (row_in m g).first (t ∷ A) m.free R.queue (joint m) (free_slot 0)
      M = release-move m g t A x (y ∷ es) R.queue chained

      others : (k : ℕ) → k ≢ g → RowRep slots k (row_at m.rows k) (log_at b.logs k)
      others k n =
          let v = R.rows k in
          record { chain = v.chain; holds = move-other _ _ _ _ _ _ _ _ _ M _ _ _ _ (λ (q : suc k ≡ suc g). n (omega arith)) (λ (q : suc k ≡ 0). omega arith) v.holds; last = v.last; low = v.low; high = v.high; reserve = v.reserve }

      this : RowRep slots g (truncated_row (row_in m g) (row_in m g).low (slot_at m.slots (row_in m g).first).next) (with_entries (log_at b.logs g) (y ∷ es))
      this = record { chain = t ∷ A; holds = move-from _ _ _ _ _ _ _ _ _ M (y ∷ es) (tail-eq_of_cons-eq chained.log.held); last = chained.last; low = (R.rows g).low; high = (R.rows g).high; reserve = (R.rows g).reserve }

      first : ℕ
      first = first_of (joint m) m.free (row_in m g).first

      queue : List ℕ
      queue = R.queue ++ ((row_in m g).first ∷ [])

      blanks : Holds slots 0 first queue (replicate (length R.queue) blank_entry ++ (blank_entry ∷ [])) → Holds slots 0 first queue (replicate (length queue) blank_entry)
      blanks h = rw (length-append R.queue ((row_in m g).first ∷ []), ← (replicate-append-replicate (length R.queue) 1 blank_entry)) h

  pub release-keeps : (x y : Entry) (es : List Entry) → (log_at b.logs g).entries ≡ x ∷ y ∷ es → Rep (release m g) (with_log b g (with_entries (log_at b.logs g) (y ∷ es)))
  release-keeps x y es was = go (R.rows g).chain (R.rows g).last (R.rows g).holds.links ((R.rows g).holds.held ∙ was)
    where
      go : (c : List ℕ) → (row_in m g).last ≡ last_of c → Links m.slots (suc g) (row_in m g).first c 0 → entries_of m.slots c ≡ x ∷ y ∷ es → Rep (release m g) (with_log b g (with_entries (log_at b.logs g) (y ∷ es)))
      go [] l h k = absurd (nil≢cons k)
      go (u ∷ []) l h k = absurd (nil≢cons (tail-eq_of_cons-eq k))
      go (u ∷ t ∷ A) l h k =
          let first : u ≡ (row_in m g).first = sym h.0 in
          release-rep t A x y es (record { log = record { links = links-head m.slots (suc g) (row_in m g).first u (t ∷ A) 0 h; held = subst (λ (v : ℕ). entries_of m.slots (v ∷ t ∷ A) ≡ x ∷ y ∷ es) first k }; last = l ∙ ap (λ (v : ℕ). last_of (v ∷ t ∷ A)) first; free = R.free.links }) was

-- ---- releases: every entry below n

pub keep_from-all : (n w : ℕ) (es : List Entry) → Rising w es → n ≤ w → keep_from n es ≡ es
unfolding keep_from
keep_from-all n w [] r h = refl
keep_from-all n w (e ∷ es) r h =
    let q : w ≤ e.position = r.0 in
    rw (keep_from, le-leb n e.position (omega arith)) (ap {B = List Entry} (λ l. e ∷ l) (keep_from-all n (suc e.position) es r.1 (omega arith)))

pub first-position : (m : Image) (b : Model) (R : Rep m b) (g : ℕ) (x : Entry) (es : List Entry) → (log_at b.logs g).entries ≡ x ∷ es → (slot_at m.slots (row_in m g).first).position ≡ x.position
first-position m b R g x es was = go (R.rows g).chain (R.rows g).holds.links ((R.rows g).holds.held ∙ was)
  where
    go : (c : List ℕ) → Links m.slots (suc g) (row_in m g).first c 0 → entries_of m.slots c ≡ x ∷ es → (slot_at m.slots (row_in m g).first).position ≡ x.position
    go [] h k = absurd (nil≢cons k)
    go (u ∷ c) h k =
        let p : entry_of (slot_at m.slots u) ≡ x = head-eq_of_cons-eq k in
        rw h.0 (ap (λ (e : Entry). e.position) p)

pub with_log-same : (b : Model) (g : ℕ) (es : List Entry) → (log_at b.logs g).entries ≡ es → with_log b g (with_entries (log_at b.logs g) es) ≡ b
with_log-same b g es was =
    let q : set b.logs g (with_entries (log_at b.logs g) es) ≡ b.logs = ap (λ (x : List Entry). set b.logs g (with_entries (log_at b.logs g) x)) (sym was) ∙ set-get_or b.logs g (fresh_log 0) in
    λ i. record { size = b.size; keeper = b.keeper; key = b.key; logs = q i }

-- two changes of one log, the second given from the log as it was
pub with_log-twice : (b : Model) (g : ℕ) (l k : Log) → with_log (with_log b g l) g k ≡ with_log b g k
with_log-twice b g l k = λ i. record { size = b.size; keeper = b.keeper; key = b.key; logs = set-set b.logs g l k i }

pub keep_from-drop : (n : ℕ) (x : Entry) (es : List Entry) → x.position < n → keep_from n (x ∷ es) ≡ keep_from n es
unfolding keep_from
keep_from-drop n x es h = rw (keep_from, lt-leb n x.position h)

pub releases-keeps : (k n : ℕ) (m : Image) (b : Model) → Rep m b → (g : ℕ) → g < length b.logs → (es : List Entry) → (log_at b.logs g).entries ≡ es → (w : ℕ) → Rising w es → n ≤ (last_entry es).position → 1 ≤ n → length es ≤ k → Rep (releases k n m g) (with_log b g (with_entries (log_at b.logs g) (keep_from n es)))
unfolding last_entry
releases-keeps zero n m b R g g_g [] was w r top n1 fuel = absurd (omega arith)
releases-keeps zero n m b R g g_g (x ∷ es) was w r top n1 fuel = absurd (omega arith)
releases-keeps (suc k) n m b R g g_g [] was w r top n1 fuel = absurd (omega arith)
releases-keeps (suc k) n m b R g g_g (x ∷ es) was w r top n1 fuel =
    go (leb n x.position) refl es was r.1 top (omega arith)
    (λ (m' : Image) (b' : Model) (R' : Rep m' b') (g_g' : g < length b'.logs) (es' : List Entry) (was' : (log_at b'.logs g).entries ≡ es') (w' : ℕ) (r' : Rising w' es') (top' : n ≤ (last_entry es').position) (fuel' : length es' ≤ k). releases-keeps k n m' b' R' g g_g' es' was' w' r' top' n1 fuel')
  where
    at_first : (fs : List Entry) → (log_at b.logs g).entries ≡ x ∷ fs → (slot_at m.slots (row_in m g).first).position ≡ x.position
    at_first = first-position m b R g x

    go : (t : Bool) → leb n x.position ≡ t → (fs : List Entry) → (log_at b.logs g).entries ≡ x ∷ fs → Rising (suc x.position) fs → n ≤ (last_entry (x ∷ fs)).position → length fs ≤ k
        → ((m' : Image) (b' : Model) → Rep m' b' → g < length b'.logs → (es' : List Entry) → (log_at b'.logs g).entries ≡ es' → (w' : ℕ) → Rising w' es' → n ≤ (last_entry es').position → length es' ≤ k → Rep (releases k n m' g) (with_log b' g (with_entries (log_at b'.logs g) (keep_from n es'))))
        → Rep (releases (suc k) n m g) (with_log b g (with_entries (log_at b.logs g) (keep_from n (x ∷ fs))))
    go true e fs was' r' top' fuel' below =
        let le : n ≤ x.position = leb-true n x.position e in
        rw (releases-stop k n m g (rw (at_first fs was') le), keep_from-all n x.position (x ∷ fs) (omega arith, r') le, with_log-same b g (x ∷ fs) was') R
    go false e [] was' r' top' fuel' below = absurd (let lt = leb-false n x.position e in omega arith)
    go false e (y ∷ fs) was' r' top' fuel' below =
        let lt : x.position < n = leb-false n x.position e in
        let R1 : Rep (release m g) (with_log b g (with_entries (log_at b.logs g) (y ∷ fs))) = release-keeps m b R g g_g x y fs was' in
        let at : log_at (set b.logs g (with_entries (log_at b.logs g) (y ∷ fs))) g ≡ with_entries (log_at b.logs g) (y ∷ fs) = get_or-set_same b.logs g (with_entries (log_at b.logs g) (y ∷ fs)) (fresh_log 0) g_g in
        let R2 = below (release m g) (with_log b g (with_entries (log_at b.logs g) (y ∷ fs))) R1 (rw (length-set b.logs g (with_entries (log_at b.logs g) (y ∷ fs))) g_g) (y ∷ fs) (ap (λ (l : Log). l.entries) at) (suc x.position) r' top' fuel' in
        rw (releases-go k n m g (rw (at_first (y ∷ fs) was') lt), keep_from-drop n x (y ∷ fs) lt) (rw (at, with_log-twice b g) at R2)

-- ---- truncate

lowered-keeps : (m : Image) (b : Model) (R : Rep m b) (g n : ℕ) → g < length b.logs → Rep (lowered m g n) (with_log b g (record { low = n; high = (log_at b.logs g).high; entries = (log_at b.logs g).entries; reserve = (log_at b.logs g).reserve }))
unfolding lowered truncated_row
lowered-keeps m b R g n g_g = record {
  keeper = R.keeper;
  key = R.key;
  count = length-set m.rows g _ ∙ R.count ∙ sym (length-set b.logs g _);
  size = R.size;
  rows = rows-set m.slots m.rows b.logs g _ _ (rw R.count g_g) g_g (λ (k : ℕ) (q : k ≢ g). R.rows k) (let w = R.rows g in record { chain = w.chain; holds = w.holds; last = w.last; low = refl; high = w.high; reserve = w.reserve });
  queue = R.queue;
  free = R.free;
  sum = let t = total-set b.logs g (record { low = n; high = (log_at b.logs g).high; entries = (log_at b.logs g).entries; reserve = (log_at b.logs g).reserve }) g_g in let s = R.sum in omega arith;
}

pub truncate-keeps : (m : Image) (b : Model) (R : Rep m b) (g n : ℕ) → g < length b.logs → LogOk (log_at b.logs g) → 1 ≤ n → n ≤ (log_at b.logs g).high → Rep (lowered (releases (length m.slots) n m g) g n) (with_log b g (cut_at n (log_at b.logs g)))
unfolding cut_at
truncate-keeps m b R g n g_g ok n1 n_h =
    let l = log_at b.logs g in
    let fuel : length l.entries ≤ length m.slots = let t = total-at b.logs g in let s = R.sum in omega arith in
    let top : n ≤ (last_entry l.entries).position = let t = ok.top in omega arith in
    let R1 = releases-keeps (length m.slots) n m b R g g_g l.entries refl l.low ok.rising top n1 fuel in
    let at : log_at (set b.logs g (with_entries l (keep_from n l.entries))) g ≡ with_entries l (keep_from n l.entries) = get_or-set_same b.logs g (with_entries l (keep_from n l.entries)) (fresh_log 0) g_g in
    let R2 = lowered-keeps (releases (length m.slots) n m g) (with_log b g (with_entries l (keep_from n l.entries))) R1 g n (rw (length-set b.logs g (with_entries l (keep_from n l.entries))) g_g) in
    rw (at, with_log-twice b g) at R2
