-- The loops of the check, way out by way out: what has been met so far, and what is left of the walk to compute.
use Rattle.std.proofs.Common.{None}
use Prim.Native.Nat.{ℕ, suc, ◌+◌, ◌-◌, ◌≤◌, ◌<◌}
use mathlib.Core.Path.{◌≡◌, sym, ap, ◌∙◌, subst}
use mathlib.Core.List.{List, ◌∷◌}
use mathlib.Core.Bool.{Bool, true, false, ◌&&◌}
use mathlib.Core.Logic.{◌≢◌}
use mathlib.Core.Option.{none, map}
use native.Mathlib.Numerals.{add-one}
use native.Mathlib.Omega.{arith}
use borrow.Author.Tests.{eq-eqb, ne_eqb}
use lib.ListN.{length}
use lib.Dec.{eqb}
use Rattle.layout.specs.declared.Row.{Row}
use Rattle.layout.specs.declared.Link.{Link}
use Rattle.layout.specs.Image.{Slot, slot_at}
use Rattle.layout.specs.Changes.{link_of}
use Rattle.layout.specs.Tests.{blank}
use Rattle.layout.specs.Strict.{strict_from}
use Rattle.layout.proofs.TestLaws.{and_yes, and_no}
use Rattle.layout.proofs.StrictCells.{length-strict}
use Rattle.table.specs.Chains.{walk}
use Rattle.table.specs.Walks.{free_walk, started_walk}
use Rattle.table.proofs.Found.{met_of}
use Rattle.table.proofs.WalkLaws.{stop-long, stop-out, stop-owner, go_on, none-met}
use Rattle.table.proofs.WalkedLaws.{only_if, free_rest, free-first, free-last, free-blank, free-filled, log_rest, log-first, log-higher, log-lower, log-last}

-- the free chain from slot `first` on: n of the table's k slots met, the last of which is `last`, and the next is s
pub record FreeTurn (slots : List Slot) (k first n last s : ℕ) : Type 0 where
  pub len : length slots ≡ k
  pub short : n ≤ k
  pub rest : free_walk slots first ≡ free_rest slots n last (walk slots 0 (k - n) s)

pub free-begin : (b : List ℕ) (start k first : ℕ) → FreeTurn (strict_from b start k) k first 0 0 first
free-begin b start k first =
    let slots : List Slot = strict_from b start k in
    record {
      len = length-strict b start k;
      short = omega arith;
      rest = free-first slots first ∙ ap (λ (i : ℕ). free_rest slots 0 0 (walk slots 0 i first)) (none-met b start k);
    }

module _ {slots : List Slot} {k first n last s : ℕ} (t : FreeTurn slots k first n last s) where
  pub free-end : s ≡ 0 → met_of n last ≡ free_walk slots first
  free-end e = sym (t.rest ∙ ap (λ (i : ℕ). free_rest slots n last (walk slots 0 (k - n) i)) e ∙ free-last slots n last (k - n))

  module _ (more : s ≢ 0) where
    free-stop : walk slots 0 (k - n) s ≡ none → None ≡ free_walk slots first
    free-stop e = sym (t.rest ∙ ap (free_rest slots n last) e)

    pub free-long : n ≡ k → None ≡ free_walk slots first
    free-long e = free-stop (stop-long slots 0 k t.len n s more e)

    pub free-out : k < s → None ≡ free_walk slots first
    free-out h = free-stop (stop-out slots 0 k t.len n s more h)

    module _ (l : Link) (link : l ≡ link_of (slot_at slots s)) (inside : s ≤ k) where
      pub free-owner : l.owner ≢ 0 → None ≡ free_walk slots first
      free-owner h = free-stop (stop-owner slots 0 k t.len n s more inside (λ e. h (ap (λ (y : Link). y.owner) link ∙ e)))

      module _ (left : n ≢ k) (owner : l.owner ≡ 0) where
        free_step : free_walk slots first ≡ free_rest slots n last (map (λ (c : List ℕ). s ∷ c) (walk slots 0 (k - (n + 1)) (slot_at slots s).next))
        free_step = t.rest ∙ ap (free_rest slots n last) (go_on slots 0 k t.len n s more inside (sym (ap (λ (y : Link). y.owner) link) ∙ owner) (omega (arith, t.short)))

        pub free-dirty : blank (slot_at slots s) ≡ false → None ≡ free_walk slots first
        free-dirty h = sym (free_step ∙ free-filled slots n last s (walk slots 0 (k - (n + 1)) (slot_at slots s).next) h)

        pub free_on : blank (slot_at slots s) ≡ true → FreeTurn slots k first (n + 1) s l.next
        free_on h =
            record {
              len = t.len;
              short = omega (arith, t.short);
              rest =
                  free_step
                  ∙ free-blank slots n last s (walk slots 0 (k - (n + 1)) (slot_at slots s).next) h
                  ∙ ap (λ (y : Link). free_rest slots (n + 1) s (walk slots 0 (k - (n + 1)) y.next)) (sym link);
            }

-- the chain of log g: n of the table's k slots met, the last of which is `last`, at position floor, and the next is s
pub record LogTurn (slots : List Slot) (k g : ℕ) (r : Row) (n floor last s : ℕ) : Type 0 where
  pub len : length slots ≡ k
  pub short : n ≤ k
  pub rest : started_walk slots g r ≡ log_rest slots r n floor last (walk slots (suc g) (k - n) s)

pub log-begin : (b : List ℕ) (start k g : ℕ) (r : Row) → 1 ≤ r.low → r.low ≤ r.high → LogTurn (strict_from b start k) k g r 0 (r.low - 1) 0 r.first
log-begin b start k g r one order =
    let slots : List Slot = strict_from b start k in
    record {
      len = length-strict b start k;
      short = omega arith;
      rest = log-first slots r g one order ∙ ap (λ (i : ℕ). log_rest slots r 0 (r.low - 1) 0 (walk slots (suc g) i r.first)) (none-met b start k);
    }

module _ {slots : List Slot} {k g : ℕ} {r : Row} {n floor last s : ℕ} (t : LogTurn slots k g r n floor last s) where
  module _ (ended : s ≡ 0) where
    log-end : started_walk slots g r ≡ only_if (eqb floor r.high && eqb last r.last) (met_of n last)
    log-end = t.rest ∙ ap (λ (i : ℕ). log_rest slots r n floor last (walk slots (suc g) (k - n) i)) ended ∙ log-last slots r n floor last (suc g) (k - n)

    pub log-other-high : floor ≢ r.high → None ≡ started_walk slots g r
    log-other-high h = sym (log-end ∙ ap (λ (t : Bool). only_if t (met_of n last)) (and_no (eqb last r.last) (ne_eqb floor r.high h)))

    pub log-other-last : floor ≡ r.high → last ≢ r.last → None ≡ started_walk slots g r
    log-other-last e h = sym (log-end ∙ ap (λ (t : Bool). only_if t (met_of n last)) (and_yes (eqb last r.last) (eq-eqb floor r.high e) ∙ ne_eqb last r.last h))

    pub log-done : floor ≡ r.high → last ≡ r.last → met_of n last ≡ started_walk slots g r
    log-done e h = sym (log-end ∙ ap (λ (t : Bool). only_if t (met_of n last)) (and_yes (eqb last r.last) (eq-eqb floor r.high e) ∙ eq-eqb last r.last h))

  module _ (more : s ≢ 0) where
    log-stop : walk slots (suc g) (k - n) s ≡ none → None ≡ started_walk slots g r
    log-stop e = sym (t.rest ∙ ap (log_rest slots r n floor last) e)

    pub log-long : n ≡ k → None ≡ started_walk slots g r
    log-long e = log-stop (stop-long slots (suc g) k t.len n s more e)

    pub log-out : k < s → None ≡ started_walk slots g r
    log-out h = log-stop (stop-out slots (suc g) k t.len n s more h)

    module _ (l : Link) (link : l ≡ link_of (slot_at slots s)) (inside : s ≤ k) where
      pub log-owner : l.owner ≢ g + 1 → None ≡ started_walk slots g r
      log-owner h = log-stop (stop-owner slots (suc g) k t.len n s more inside (λ e. h (ap (λ (y : Link). y.owner) link ∙ e ∙ sym (add-one g))))

      module _ (left : n ≢ k) (owner : l.owner ≡ g + 1) where
        log-step : started_walk slots g r ≡ log_rest slots r n floor last (map (λ (c : List ℕ). s ∷ c) (walk slots (suc g) (k - (n + 1)) (slot_at slots s).next))
        log-step = t.rest ∙ ap (log_rest slots r n floor last) (go_on slots (suc g) k t.len n s more inside (sym (ap (λ (y : Link). y.owner) link) ∙ owner ∙ add-one g) (omega (arith, t.short)))

        pub log-low : l.position ≤ floor → None ≡ started_walk slots g r
        log-low h =
            sym (log-step ∙ log-lower slots r n floor last s (walk slots (suc g) (k - (n + 1)) (slot_at slots s).next) (subst (λ (y : Link). y.position ≤ floor) link h))

        pub log-on : floor < l.position → LogTurn slots k g r (n + 1) l.position s l.next
        log-on h =
            record {
              len = t.len;
              short = omega (arith, t.short);
              rest =
                  log-step
                  ∙ log-higher slots r n floor last s (walk slots (suc g) (k - (n + 1)) (slot_at slots s).next) (subst (λ (y : Link). floor < y.position) link h)
                  ∙ ap (λ (y : Link). log_rest slots r (n + 1) y.position s (walk slots (suc g) (k - (n + 1)) y.next)) (sym link);
            }
