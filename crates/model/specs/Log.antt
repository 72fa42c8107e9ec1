-- A log of the reference model: low, high, a list of entries (document 01, "The plain book") and a reserve (request [5]), and what "The log's rules" say of a position.
use Rattle.std.specs.Prelude.{ℕ, suc, ◌-◌, List, [], ◌∷◌, ◌++◌, cond, length, eqb, leb, ltb}
use Rattle.layout.specs.Image.{Entry, blank_entry}

-- "For each log it keeps L, H and a list of entries by rising position"
pub record Log : Type 0 where
  pub low : ℕ
  pub high : ℕ
  pub entries : List Entry
  pub reserve : ℕ

-- "at first 1, 0 and no entry"; the reserve is formatting's
abbrev pub fresh_log : ℕ → Log
fresh_log reserve = record { low = 1; high = 0; entries = []; reserve = reserve }

-- what a log lacks of its reserve; one with more entries lacks nothing
abbrev pub lack : Log → ℕ
lack l = l.reserve - length l.entries

-- the last entry, or a blank one: "the previous digest is the last entry's, or zero bytes on an empty list"
unfoldable pub last_entry : List Entry → Entry
last_entry [] = blank_entry
last_entry (e ∷ []) = e
last_entry (e ∷ f ∷ es) = last_entry (f ∷ es)

-- the entries at n or above, and those below
unfoldable pub keep_from : ℕ → List Entry → List Entry
keep_from n [] = []
keep_from n (e ∷ es) = cond (leb n e.position) (e ∷ keep_from n es) (keep_from n es)

unfoldable pub keep_below : ℕ → List Entry → List Entry
keep_below n [] = []
keep_below n (e ∷ es) = cond (ltb e.position n) (e ∷ keep_below n es) (keep_below n es)

-- "Append and advance put an entry at the list's end .. Its position .. is the new H."
unfoldable pub entered : Log → Entry → Log
entered l e = record { low = l.low; high = e.position; entries = l.entries ++ (e ∷ []); reserve = l.reserve }

-- "Truncate strikes the entries below n; L becomes n."
unfoldable pub cut_at : ℕ → Log → Log
cut_at n l = record { low = n; high = l.high; entries = keep_from n l.entries; reserve = l.reserve }

-- what a lookup finds at a position: an assigned one has an entry, a skipped one "the next entry above n, which is the advance that skipped it"
pub data Standing : Type 0 where
  unassigned : Standing
  forgotten : Standing
  assigned : Entry → Standing
  skipped : Entry → Standing

-- given the entries at n or above
unfoldable pub standing_among : ℕ → List Entry → Standing
standing_among n [] = unassigned
standing_among n (e ∷ es) = cond (eqb e.position n) (assigned e) (skipped e)

-- "unassigned if n > H ..; forgotten if n < L ..; assigned if an entry stands at n ..; otherwise skipped"
unfoldable pub standing : Log → ℕ → Standing
standing l n = cond (ltb l.high n) unassigned (cond (ltb n l.low) forgotten (standing_among n (keep_from n l.entries)))

-- "kind (0 unassigned, 1 assigned, 2 skipped, 3 forgotten)"
unfoldable pub kind_of : Standing → ℕ
kind_of unassigned = 0
kind_of (assigned e) = 1
kind_of (skipped e) = 2
kind_of forgotten = 3

-- the reference is H, L, n itself, or the next entry's position
unfoldable pub reference_of : Log → Standing → ℕ
reference_of l unassigned = l.high
reference_of l forgotten = l.low
reference_of l (assigned e) = e.position
reference_of l (skipped e) = e.position

-- "0 when unassigned or forgotten, otherwise the held entries from the lowest up to the first at n or above, that one included"
unfoldable pub examined_for : Log → ℕ → Standing → ℕ
examined_for l n unassigned = 0
examined_for l n forgotten = 0
examined_for l n (assigned e) = suc (length (keep_below n l.entries))
examined_for l n (skipped e) = suc (length (keep_below n l.entries))
