-- A lookup along a log's chain: what it finds, and how many entries it examines.
use Rattle.std.specs.Prelude.{ℕ, suc, List, [], ◌∷◌, cond, eqb, ltb}
use Rattle.layout.specs.declared.Row.{Row}
use Rattle.layout.specs.Image.{Entry, blank_entry}

-- the receipt's kind, reference and entry shown, and the entries examined. Shown is the entry at the reference where the position is
-- assigned, and where it is skipped: "A skipped receipt now carries the value and digest of the entry at its reference" (document 02, [3])
pub record Found : Type 0 where
  pub kind : ℕ
  pub reference : ℕ
  pub shown : Entry
  pub examined : ℕ

-- "assigned if an entry stands at n, reference n; otherwise skipped, reference the position of the next entry above n";
-- "the held entries from the lowest up to the first at n or above, that one included": k are behind
-- No whole table reaches the empty list: its last entry stands at H, and n is at most H.
unfoldable pub search : ℕ → ℕ → List Entry → Found
search n k [] = record { kind = 2; reference = 0; shown = blank_entry; examined = k }
search n k (e ∷ es) =
    cond (eqb n e.position) (record { kind = 1; reference = n; shown = e; examined = suc k })
    (cond (ltb n e.position) (record { kind = 2; reference = e.position; shown = e; examined = suc k }) (search n (suc k) es))

-- "unassigned if n > H, reference H; forgotten if n < L, reference L", and zero bytes shown; examined "0 when unassigned or forgotten"
unfoldable pub looked_up : Row → List Entry → ℕ → Found
looked_up r es n =
    cond (ltb r.high n) (record { kind = 0; reference = r.high; shown = blank_entry; examined = 0 })
    (cond (ltb n r.low) (record { kind = 3; reference = r.low; shown = blank_entry; examined = 0 }) (search n 0 es))
