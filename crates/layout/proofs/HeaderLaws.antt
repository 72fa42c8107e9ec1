-- The tests on the header, test by test as the code makes them, and what they tell when passed.
use Prim.Native.Nat.{ℕ, ◌+◌, ◌≤◌, ◌<◌}
use Rattle.std.proofs.Common.{Option, Some, None}
use mathlib.Core.Path.{◌≡◌, refl, sym, ap, ap₂, ◌∙◌}
use mathlib.Core.Bool.{Bool, true, false, ◌&&◌}
use mathlib.Core.List.{List}
use native.Mathlib.Omega.{arith}
use borrow.Author.Tests.{eq-eqb, ne_eqb, le-leb, eqb-true, leb-true}
use lib.Dec.{eqb, leb}
use lib.ListN.{length}
use Rattle.octets.specs.Octets.{Bytes, part, same, zeros}
use Rattle.bigendian.specs.BigEndian.{unbe}
use Rattle.layout.specs.declared.Counts.{Counts}
use Rattle.layout.specs.Layout.{Plan, mark_number, header_size, zero_offset, cell_offset_in, logs_of, slots_of}
use Rattle.layout.specs.Fits.{CountedIn}
use Rattle.layout.proofs.CodeLaws.{zero_one, mark-four}
use Rattle.layout.specs.Fits.{Range}
use Rattle.layout.specs.Tests.{in_range, marked, constants_fit, header_fits_in, counts_if}
use Rattle.layout.proofs.TestLaws.{and_yes, and_no, and-not, and_split, field-same}

-- counts in range

module _ (logs slots : ℕ) where
  pub in-range : in_range logs slots ≡ true → Range logs slots
  unfolding in_range
  in-range e =
      let s₃ = and_split (leb 1 logs && leb logs 16 && leb 1 slots) (leb slots 800) e in
      let s₂ = and_split (leb 1 logs && leb logs 16) (leb 1 slots) s₃.0 in
      let s₁ = and_split (leb 1 logs) (leb logs 16) s₂.0 in
      record { logs-least = leb-true 1 logs s₁.0; logs-most = leb-true logs 16 s₁.1; slots-least = leb-true 1 slots s₂.1; slots-most = leb-true slots 800 s₃.1 }

  pub range-in : Range logs slots → in_range logs slots ≡ true
  unfolding in_range
  range-in r = and_yes _ (and_yes _ (and_yes _ (le-leb 1 logs r.logs-least) ∙ le-leb logs 16 r.logs-most) ∙ le-leb 1 slots r.slots-least) ∙ le-leb slots 800 r.slots-most

  pub out_of_range : (Range logs slots → ⊥) → false ≡ in_range logs slots
  out_of_range h = go (in_range logs slots) refl
    where
      go : (t : Bool) → in_range logs slots ≡ t → false ≡ in_range logs slots
      go true e = absurd (h (in-range e))
      go false e = sym e

-- constants

pub zero_test : (b : List ℕ) (at : ℕ) → Bytes b → at + 1 ≤ length b → eqb (unbe (part b at 1)) 0 ≡ same (part b at 1) (zeros 1)
zero_test b at h k = field-same b at 1 0 h k (omega arith) ∙ ap (same (part b at 1)) zero_one

module _ (b : List ℕ) (bytes : Bytes b) (long : header_size ≤ length b) where
  pub mark-test : eqb (unbe (part b 0 4)) mark_number ≡ marked b
  mark-test = field-same b 0 4 mark_number bytes (omega arith) (omega arith) ∙ ap (same (part b 0 4)) mark-four

  pub by_zero : {x : ℕ} → marked b ≡ true → x ≡ unbe (part b zero_offset 1) → eqb x 0 ≡ constants_fit b
  unfolding constants_fit
  by_zero e k = ap (λ (n : ℕ). eqb n 0) k ∙ zero_test b zero_offset bytes (omega arith) ∙ sym (and_yes _ e)

pub no-mark : (b : List ℕ) {t : Bool} → t ≡ marked b → t ≡ false → t ≡ constants_fit b
unfolding constants_fit
no-mark b e h = h ∙ sym (and_no _ (sym e ∙ h))

-- the header, of any layout

module _ (p : Plan) (constants : List ℕ → Bool) (b : List ℕ) where
  -- the shortest table, of one log and one slot, is longer than a header, since a slot alone is
  pub too_short : length b < header_size → header_fits_in p constants b ≡ false
  unfolding header_fits_in
  too_short h = go (in_range (logs_of b) (slots_of b)) refl
    where
      go : (t : Bool) → in_range (logs_of b) (slots_of b) ≡ t → constants b && in_range (logs_of b) (slots_of b) && eqb (length b) (cell_offset_in p (logs_of b) (slots_of b)) ≡ false
      go true e =
          let r = in-range (logs_of b) (slots_of b) e in
          and-not (constants b && in_range (logs_of b) (slots_of b)) (ne_eqb (length b) (cell_offset_in p (logs_of b) (slots_of b)) (λ q. omega (arith, q, r.slots-least)))
      go false e = and_no _ (and-not (constants b) e)

  pub other-constants : constants b ≡ false → header_fits_in p constants b ≡ false
  unfolding header_fits_in
  other-constants h = and_no _ (and_no _ h)

  module _ (c : Counts) (logs : c.logs ≡ logs_of b) (slots : c.slots ≡ slots_of b) where
    pub other-counts : in_range c.logs c.slots ≡ false → header_fits_in p constants b ≡ false
    unfolding header_fits_in
    other-counts h = and_no _ (and-not (constants b) (sym (ap₂ in_range logs slots) ∙ h))

    pub other-length : (length b ≡ cell_offset_in p c.logs c.slots → ⊥) → header_fits_in p constants b ≡ false
    unfolding header_fits_in
    other-length h = and-not (constants b && in_range (logs_of b) (slots_of b)) (ne_eqb (length b) (cell_offset_in p (logs_of b) (slots_of b)) (λ e. h (e ∙ sym (ap₂ (cell_offset_in p) logs slots))))

    pub all-fit : constants b ≡ true → in_range c.logs c.slots ≡ true → length b ≡ cell_offset_in p c.logs c.slots → header_fits_in p constants b ≡ true
    unfolding header_fits_in
    all-fit h k l =
        and_yes _ (and_yes _ h ∙ (sym (ap₂ in_range logs slots) ∙ k))
        ∙ eq-eqb (length b) (cell_offset_in p (logs_of b) (slots_of b)) (l ∙ ap₂ (cell_offset_in p) logs slots)

  pub header-test : constants b ≡ true → Range (logs_of b) (slots_of b) → length b ≡ cell_offset_in p (logs_of b) (slots_of b) → header_fits_in p constants b ≡ true
  header-test h r l = all-fit (record { logs = logs_of b; slots = slots_of b }) refl refl h (range-in (logs_of b) (slots_of b) r) l

  -- what a passed header tells
  pub header-parts : header_fits_in p constants b ≡ true → (constants b ≡ true) × (in_range (logs_of b) (slots_of b) ≡ true) × (length b ≡ cell_offset_in p (logs_of b) (slots_of b))
  unfolding header_fits_in
  header-parts e =
      let s = and_split (constants b && in_range (logs_of b) (slots_of b)) (eqb (length b) (cell_offset_in p (logs_of b) (slots_of b))) e in
      let t = and_split (constants b) (in_range (logs_of b) (slots_of b)) s.0 in
      (t.0, t.1, eqb-true (length b) (cell_offset_in p (logs_of b) (slots_of b)) s.1)

  pub header-long : header_fits_in p constants b ≡ true → header_size ≤ length b
  header-long e =
      let q = header-parts e in
      let r = in-range (logs_of b) (slots_of b) q.1 in
      omega (arith, q.2, r.slots-least)

  -- the same, from what the code answers

  pub fits_true : (c : Counts) → Some c ≡ counts_if (header_fits_in p constants b) b → header_fits_in p constants b ≡ true
  fits_true c e = some-true (header_fits_in p constants b) e
    where
      some-true : (t : Bool) → Some c ≡ counts_if t b → t ≡ true
      some-true true k = refl
      some-true false k = cc

  pub fits_false : ◌≡◌ {A = Option Counts} None (counts_if (header_fits_in p constants b) b) → header_fits_in p constants b ≡ false
  fits_false e = none-false (header_fits_in p constants b) e
    where
      none-false : (t : Bool) → ◌≡◌ {A = Option Counts} None (counts_if t b) → t ≡ false
      none-false true k = cc
      none-false false k = refl

  pub counted : (c : Counts) → Some c ≡ counts_if (header_fits_in p constants b) b → CountedIn p b c.logs c.slots
  counted c e =
      let q = header-parts (fits_true c e) in
      let r = in-range (logs_of b) (slots_of b) q.1 in
      let a = fits_are (header_fits_in p constants b) e in
      record { logs-are = a.0; slots-are = a.1; logs-most = omega (arith, a.0, r.logs-most); slots-most = omega (arith, a.1, r.slots-most); sized = q.2 ∙ sym (ap₂ (cell_offset_in p) a.0 a.1) }
    where
      fits_are : (t : Bool) → Some c ≡ counts_if t b → (c.logs ≡ logs_of b) × (c.slots ≡ slots_of b)
      fits_are true k = (cc, cc)
      fits_are false k = (cc, cc)

-- what is answered
module _ (b : List ℕ) {t : Bool} where
  pub some-fit : (c : Counts) → c.logs ≡ logs_of b → c.slots ≡ slots_of b → t ≡ true → Some c ≡ counts_if t b
  some-fit c logs slots h = ap Some (λ i. record { logs = logs i; slots = slots i }) ∙ sym (ap (λ (t : Bool). counts_if t b) h)

  pub none-fit : t ≡ false → None ≡ counts_if t b
  none-fit h = sym (ap (λ (t : Bool). counts_if t b) h)
