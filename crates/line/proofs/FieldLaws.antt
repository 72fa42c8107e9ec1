-- Laws of fields and numbers.
use Prim.Native.Nat.{ℕ, suc, ◌+◌, ◌-◌, ◌≤◌, ◌<◌}
use mathlib.Core.Path.{◌≡◌, refl, sym, ap, ap₂, ◌∙◌}
use mathlib.Core.Logic.{◌⊎◌, inl, inr}
use mathlib.Core.Bool.{Bool, true, false, cond}
use mathlib.Core.List.{List, [], ◌∷◌, ◌++◌, append_assoc, append-nil}
use Rattle.std.specs.Prelude.{Option, Some, None}
use native.Mathlib.Omega.{arith}
use native.Mathlib.Numerals.{add-one}
use lib.ListN.{length, take, drop, get_or, set, length-append, length-drop, length-take, drop_of_length-le, take-append-drop}
use native.Mathlib.Decide.{dec_le}
use lib.Seq.{drop-cons, take_all}
use lib.Dec.{eqb}
use borrow.Author.Tests.{eq-eqb, ne_eqb, eqb-true}
use Rattle.decimal.specs.Decimal.{number_of}
use Rattle.line.specs.Fields.{on_first, before, numbers_of, parts_of, up_to}
use Rattle.line.specs.Command.{padded}
use Rattle.octets.specs.Octets.{zeros}
use Rattle.line.proofs.PaddedLaws.{padded-set, padded-full}

-- ---- the part before the first mark

module _ (mark : ℕ) where
  pub first-comma : (s : List ℕ) (i : ℕ) → i < length s → get_or s i 0 ≡ mark → length (up_to mark (drop i s)) ≡ 0
  unfolding up_to
  first-comma s i h e = ap (λ (l : List ℕ). length (up_to mark l)) (drop-cons s i 0 h) ∙ rw (eq-eqb (get_or s i 0) mark e)

  pub first_more : (s : List ℕ) (i : ℕ) → i < length s → (get_or s i 0 ≡ mark → ⊥) → length (up_to mark (drop i s)) ≡ suc (length (up_to mark (drop (i + 1) s)))
  unfolding up_to
  first_more s i h e =
      ap (λ (l : List ℕ). length (up_to mark l)) (drop-cons s i 0 h)
      ∙ rw (ne_eqb (get_or s i 0) mark e) (ap (λ (k : ℕ). suc (length (up_to mark (drop k s)))) (sym (add-one i)))

  pub first-none : (s : List ℕ) (i : ℕ) → length s ≤ i → length (up_to mark (drop i s)) ≡ 0
  unfolding up_to
  first-none s i h = ap (λ (l : List ℕ). length (up_to mark l)) (drop_of_length-le s h)

  pub take-first : (l : List ℕ) → take (length (up_to mark l)) l ≡ up_to mark l
  unfolding up_to
  take-first [] = refl
  take-first (b ∷ l) = go (eqb b mark) (take-first l)
    where
      go : (t : Bool) → take (length (up_to mark l)) l ≡ up_to mark l → take (length (cond t [] (b ∷ up_to mark l))) (b ∷ l) ≡ cond t [] (b ∷ up_to mark l)
      go true ih = refl
      go false ih = ap {B = List ℕ} (λ (x : List ℕ). b ∷ x) ih

  -- the line has no comma
  pub fields-last : (l : List ℕ) → length (up_to mark l) ≡ length l → parts_of mark l ≡ up_to mark l ∷ []
  unfolding up_to parts_of
  fields-last [] h = refl
  fields-last (b ∷ l) h = go (eqb b mark) (fields-last l) h
    where
      go : (t : Bool) → (length (up_to mark l) ≡ length l → parts_of mark l ≡ up_to mark l ∷ []) → length (cond t [] (b ∷ up_to mark l)) ≡ suc (length l) → cond t ([] ∷ parts_of mark l) (on_first b (parts_of mark l)) ≡ cond t [] (b ∷ up_to mark l) ∷ []
      go true ih q = absurd (omega arith)
      go false ih q = ap (on_first b) (ih (omega arith))

  -- the line has one
  pub fields-more : (l : List ℕ) → length (up_to mark l) < length l → parts_of mark l ≡ up_to mark l ∷ parts_of mark (drop (suc (length (up_to mark l))) l)
  unfolding up_to parts_of
  fields-more [] h = absurd (omega arith)
  fields-more (b ∷ l) h = go (eqb b mark) (fields-more l) h
    where
      go : (t : Bool) → (length (up_to mark l) < length l → parts_of mark l ≡ up_to mark l ∷ parts_of mark (drop (suc (length (up_to mark l))) l)) → length (cond t [] (b ∷ up_to mark l)) < suc (length l) → cond t ([] ∷ parts_of mark l) (on_first b (parts_of mark l)) ≡ cond t [] (b ∷ up_to mark l) ∷ parts_of mark (drop (length (cond t [] (b ∷ up_to mark l))) l)
      go true ih q = refl
      go false ih q = ap (on_first b) (ih (omega arith))

  -- ---- the same of a text l whose first part ends at e

  module _ (l : List ℕ) (e : ℕ) (ends : e ≡ length (up_to mark l)) where
    pub field-part : take e l ≡ up_to mark l
    field-part = ap (λ (k : ℕ). take k l) ends ∙ take-first l

    -- nothing follows it
    pub no-mark : e ≡ length l → up_to mark l ≡ l
    no-mark h = sym (take-first l) ∙ take_all (length (up_to mark l)) l (omega (arith, ends, h))

    pub last-field : e ≡ length l → parts_of mark l ≡ up_to mark l ∷ []
    last-field h = fields-last l (sym ends ∙ h)

    pub more-fields : e < length l → parts_of mark l ≡ up_to mark l ∷ parts_of mark (drop (e + 1) l)
    more-fields h =
        let q : suc (length (up_to mark l)) ≡ e + 1 = omega (arith, ends) in
        fields-more l (omega (arith, ends)) ∙ ap (λ (k : ℕ). up_to mark l ∷ parts_of mark (drop k l)) q

  pub length-up_to : (l : List ℕ) → length (up_to mark l) ≤ length l
  length-up_to l = omega (arith, ap length (take-first l), length-take (length (up_to mark l)) l)

-- ---- numbers, some of them read

abbrev pub prepend : List ℕ → Option (List ℕ) → Option (List ℕ)
prepend xs None = None
prepend xs (Some ys) = Some (xs ++ ys)

pub prepend-nil : (o : Option (List ℕ)) → o ≡ prepend [] o
prepend-nil None = refl
prepend-nil (Some ys) = refl

prepend-more : (xs : List ℕ) (v : ℕ) (o : Option (List ℕ)) → prepend xs (before (Some v) o) ≡ prepend (xs ++ (v ∷ [])) o
prepend-more xs v None = refl
prepend-more xs v (Some ys) = ap {B = Option (List ℕ)} Some (sym (append_assoc xs (v ∷ []) ys))

-- one more is read, and more follow
pub numbers_more : (xs : List ℕ) (f : List ℕ) (fs : List (List ℕ)) (v : ℕ) → number_of f ≡ Some v → prepend xs (numbers_of (f ∷ fs)) ≡ prepend (xs ++ (v ∷ [])) (numbers_of fs)
unfolding numbers_of
numbers_more xs f fs v e = ap (λ (n : Option ℕ). prepend xs (before n (numbers_of fs))) e ∙ prepend-more xs v (numbers_of fs)

-- one is none
pub numbers_bad : (xs : List ℕ) (f : List ℕ) (fs : List (List ℕ)) → number_of f ≡ None → prepend xs (numbers_of (f ∷ fs)) ≡ None
unfolding numbers_of
numbers_bad xs f fs e = ap (λ (n : Option ℕ). prepend xs (before n (numbers_of fs))) e

pub numbers-end : (xs : List ℕ) → prepend xs (numbers_of []) ≡ Some xs
unfolding numbers_of
numbers-end xs = ap {B = Option (List ℕ)} Some (append-nil xs)

-- ---- the loop that reads the numbers: n of them stand in values, the fields from at are to come

-- there is a first part
pub parts-cons : (mark : ℕ) (l : List ℕ) → (fs : List (List ℕ)) × (parts_of mark l ≡ up_to mark l ∷ fs)
parts-cons mark l = go (dec_le (length l) (length (up_to mark l)))
  where
    go : Dec (length l ≤ length (up_to mark l)) → (fs : List (List ℕ)) × (parts_of mark l ≡ up_to mark l ∷ fs)
    go (yes q) = ([], fields-last mark l (omega (arith, length-up_to mark l)))
    go (no q) = (parts_of mark (drop (suc (length (up_to mark l))) l), fields-more mark l (omega arith))

pub some_inj : (xs ys : List ℕ) → Some xs ≡ Some ys → xs ≡ ys
some_inj xs ys h = cc

pub none-some : (xs : List ℕ) → None ≡ Some xs → ⊥
none-some xs h = let z : ◌≡◌ {A = ℕ} 0 1 = cc in omega arith

-- n of the fields were read, and the first 19 of their numbers kept
pub record Reading (fields : List (List ℕ)) (n : ℕ) (values : List ℕ) : Type 0 where
  pub ns : List ℕ
  pub read : numbers_of fields ≡ prepend ns (numbers_of (drop n fields))
  pub size : length ns ≡ n
  pub kept : values ≡ padded 19 ns

pub reading-none : (fields : List (List ℕ)) (values : List ℕ) → values ≡ zeros 19 → Reading fields 0 values
unfolding padded zeros
reading-none fields values h = record { ns = []; read = prepend-nil (numbers_of fields); size = refl; kept = h }

pub reading-all : (fields : List (List ℕ)) (n : ℕ) (values : List ℕ) (r : Reading fields n values) → n ≡ length fields → numbers_of fields ≡ Some r.ns
reading-all fields n values r h =
    r.read ∙ ap (λ (fs : List (List ℕ)). prepend r.ns (numbers_of fs)) (drop_of_length-le fields (omega arith)) ∙ numbers-end r.ns

-- the fields to come begin with f
module _ (fields : List (List ℕ)) (n : ℕ) (f : List ℕ) (fs : List (List ℕ)) (come : drop n fields ≡ f ∷ fs) where
  short : n < length fields
  short = omega (arith, ap length come, length-drop n fields)

  split : f ∷ fs ≡ get_or fields n f ∷ drop (suc n) fields
  split = sym come ∙ drop-cons fields n f short

  pub next-field : (n < length fields) × (f ≡ get_or fields n f)
  next-field = (short, let e = split in cc)

  pub next-fields : drop (n + 1) fields ≡ fs
  next-fields = rw (add-one n) (let e = split in cc)

-- f is the next field
module _ (fields : List (List ℕ)) (n : ℕ) (values : List ℕ) (r : Reading fields n values) (f : List ℕ) (at : (n < length fields) × (f ≡ get_or fields n f)) where
  next : drop n fields ≡ f ∷ drop (n + 1) fields
  next = drop-cons fields n f at.0 ∙ ap₂ (λ (g : List ℕ) (k : ℕ). g ∷ drop k fields) (sym at.1) (sym (add-one n))

  -- it is no number
  pub reading-bad : number_of f ≡ None → numbers_of fields ≡ None
  reading-bad h = r.read ∙ ap (λ (fs : List (List ℕ)). prepend r.ns (numbers_of fs)) next ∙ numbers_bad r.ns f (drop (n + 1) fields) h

  -- it is one, v, which is stored if it is among the first 19
  module _ (v : ℕ) (is : number_of f ≡ Some v) (values' : List ℕ) (stored : ((n < 19) × (values' ≡ set values n v)) ⊎ ((19 ≤ n) × (values' ≡ values))) where
    still : values' ≡ padded 19 (r.ns ++ (v ∷ []))
    still = go stored
      where
        go : ((n < 19) × (values' ≡ set values n v)) ⊎ ((19 ≤ n) × (values' ≡ values)) → values' ≡ padded 19 (r.ns ++ (v ∷ []))
        go (inl w) = w.1 ∙ ap₂ (λ (l : List ℕ) (i : ℕ). set l i v) r.kept (sym r.size) ∙ padded-set 19 r.ns v (omega (arith, r.size, w.0))
        go (inr w) = w.1 ∙ r.kept ∙ padded-full 19 r.ns v (omega (arith, r.size, w.0))

    pub reading-more : Reading fields (n + 1) values'
    reading-more =
        record {
          ns = r.ns ++ (v ∷ []);
          read = r.read ∙ ap (λ (fs : List (List ℕ)). prepend r.ns (numbers_of fs)) next ∙ numbers_more r.ns f (drop (n + 1) fields) v is;
          size = omega (arith, length-append r.ns (v ∷ []), r.size);
          kept = still;
        }

-- the part before the first mark, and the mark
pub take-marked : (mark : ℕ) (l : List ℕ) → length (up_to mark l) < length l → take (length (up_to mark l) + 1) l ≡ up_to mark l ++ (mark ∷ [])
unfolding up_to
take-marked mark l h = ap (λ (k : ℕ). take k l) (add-one (length (up_to mark l))) ∙ go l h
  where
    go : (l : List ℕ) → length (up_to mark l) < length l → take (suc (length (up_to mark l))) l ≡ up_to mark l ++ (mark ∷ [])
    go [] h = absurd (omega arith)
    go (b ∷ l) h = at (eqb b mark) refl (go l) h
      where
        at : (t : Bool) → eqb b mark ≡ t → (length (up_to mark l) < length l → take (suc (length (up_to mark l))) l ≡ up_to mark l ++ (mark ∷ [])) → length (cond t [] (b ∷ up_to mark l)) < suc (length l) → take (suc (length (cond t [] (b ∷ up_to mark l)))) (b ∷ l) ≡ cond t [] (b ∷ up_to mark l) ++ (mark ∷ [])
        at true e ih q = ap {B = List ℕ} (λ (x : ℕ). x ∷ []) (eqb-true b mark e)
        at false e ih q = ap {B = List ℕ} (λ (x : List ℕ). b ∷ x) (ih (omega arith))

-- a text is the part before its first mark, the mark, and what follows
pub marked-off : (mark : ℕ) (l : List ℕ) (e : ℕ) → e ≡ length (up_to mark l) → e < length l → (up_to mark l ++ (mark ∷ [])) ++ drop (e + 1) l ≡ l
marked-off mark l e ends h =
    ap (λ (x : List ℕ). x ++ drop (e + 1) l) (sym (take-marked mark l (omega (arith, ends))) ∙ ap (λ (k : ℕ). take (k + 1) l) (sym ends))
    ∙ take-append-drop (e + 1) l
