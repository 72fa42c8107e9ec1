-- Laws of words, commands and reserves.
use Rattle.std.proofs.Common.{◌≡◌, ℕ, ◌+◌, ◌≤◌, ◌<◌, Bool, true, false, cond, eqb, leb, List, [], ◌∷◌, ◌++◌, Option, Some, None, length, take, drop, get_or, set, length-drop, get_or-drop, take-suc, take-suc-set, take_all, add-one, refl, sym, ap, ap₂, ◌∙◌, arith}
use borrow.Author.Tests.{eq-eqb, ne_eqb, le-leb, lt-leb, eqb-true}
use Rattle.line.specs.declared.Command.{Command}
use Rattle.line.specs.declared.Command.TheVariants.{Format, Append, Advance, Truncate, Lookup, End}
use Rattle.line.specs.declared.Word.{Word}
use Rattle.line.specs.declared.Word.TheVariants as word
use Rattle.line.specs.Fields.{fields_of, numbers_of}
use Rattle.line.specs.Command.{word_of, taking, made, of_numbers, of_fields, command_of, reserves_in, numbers_in, reserves_of, padded, count_of}
use Rattle.line.proofs.PaddedLaws.{length-padded, padded-at, padded-all, padded-three}

-- ---- so many numbers, or another number of them

-- the word is x, which makes the command c of these numbers
pub as_made : (w x : Word) (n : ℕ) (v : List ℕ) (c : Option Command) → w ≡ x → c ≡ made x n v → c ≡ made w n v
as_made w x n v c p e = e ∙ ap (λ (y : Word). made y n v) (sym p)

pub taken : (k n : ℕ) (c : Command) → n ≡ k → Some c ≡ taking k n c
taken k n c h = rw (eq-eqb n k h)

-- another number than the command takes
pub not_taken : (k n : ℕ) (c : Command) → (n ≡ k → ⊥) → None ≡ taking k n c
not_taken k n c h = rw (ne_eqb n k h)

-- ---- the numbers after a format's own three

pub following-more : (v r : List ℕ) (i : ℕ) → i < length r → length v ≡ 3 + length r → take i r ≡ take i (drop 3 v)
    → take (i + 1) (set r i (get_or v (3 + i) 0)) ≡ take (i + 1) (drop 3 v)
following-more v r i h l e =
    ap (λ (k : ℕ). take k (set r i (get_or v (3 + i) 0))) (add-one i)
    ∙ take-suc-set r i (get_or v (3 + i) 0) h
    ∙ ap₂ (λ (p : List ℕ) (x : ℕ). p ++ (x ∷ [])) e (sym (get_or-drop 3 v i 0))
    ∙ sym (take-suc (drop 3 v) i 0 (omega (arith, length-drop 3 v)))
    ∙ ap (λ (k : ℕ). take k (drop 3 v)) (sym (add-one i))

pub following-all : (v r : List ℕ) (i : ℕ) → length r ≡ i → length v ≡ 3 + i → take i r ≡ take i (drop 3 v) → r ≡ drop 3 v
following-all v r i h l e = sym (take_all i r (omega arith)) ∙ e ∙ take_all i (drop 3 v) (omega (arith, length-drop 3 v))

-- ---- the numbers of which the first 19 are kept

kept-three : (ns : List ℕ) → padded 16 (drop 3 (padded 19 ns)) ≡ padded 16 (drop 3 ns)
kept-three ns = ap (padded 16) (padded-three ns) ∙ padded-all 16 (padded 16 (drop 3 ns)) (length-padded 16 (drop 3 ns))

made-padded : (w : Word) (n : ℕ) (ns : List ℕ) → made w n (padded 19 ns) ≡ made w n ns
made-padded word.Format n ns = rw (kept-three ns, padded-at 19 0 ns (omega arith), padded-at 19 1 ns (omega arith), padded-at 19 2 ns (omega arith))
made-padded word.Append n ns = rw (padded-at 19 0 ns (omega arith), padded-at 19 1 ns (omega arith))
made-padded word.Advance n ns = rw (padded-at 19 0 ns (omega arith), padded-at 19 1 ns (omega arith), padded-at 19 2 ns (omega arith), padded-at 19 3 ns (omega arith))
made-padded word.Truncate n ns = rw (padded-at 19 0 ns (omega arith), padded-at 19 1 ns (omega arith))
made-padded word.Lookup n ns = rw (padded-at 19 0 ns (omega arith), padded-at 19 1 ns (omega arith))
made-padded word.End n ns = rw (padded-at 19 0 ns (omega arith))

-- ---- what a count says of the numbers

pub counted-not : (o : Option (List ℕ)) (c : Option ℕ) → c ≡ count_of o → c ≡ None → o ≡ None
counted-not None c p q = refl
counted-not (Some ns) c p q = cc

pub counted : (o : Option (List ℕ)) (c : Option ℕ) (n : ℕ) → c ≡ count_of o → c ≡ Some n → (ns : List ℕ) × (o ≡ Some ns) × (length ns ≡ n)
counted None c n p q = absurd cc
counted (Some ns) c n p q = (ns, refl, let k : length ns ≡ n = cc in k)

-- ---- a line

pub command-long : (l : List ℕ) → 200 < length l → command_of l ≡ None
unfolding command_of
command-long l h = rw (lt-leb (length l) 200 h)

command-fields : (l : List ℕ) → length l ≤ 200 → command_of l ≡ of_fields (fields_of l)
unfolding command_of
command-fields l h = rw (le-leb (length l) 200 h)

-- no command takes no numbers
made_none : (w : Option Word) → of_numbers w (Some []) ≡ None
made_none None = refl
made_none (Some word.Format) = refl
made_none (Some word.Append) = refl
made_none (Some word.Advance) = refl
made_none (Some word.Truncate) = refl
made_none (Some word.Lookup) = refl
made_none (Some word.End) = refl

-- a word alone
pub only-word : (l w : List ℕ) → length l ≤ 200 → fields_of l ≡ w ∷ [] → command_of l ≡ None
unfolding numbers_of
only-word l w h e = command-fields l h ∙ ap of_fields e ∙ made_none (word_of w)

-- a first field that is no word
pub no-word : (l f : List ℕ) (fs : List (List ℕ)) → length l ≤ 200 → fields_of l ≡ f ∷ fs → word_of f ≡ None → command_of l ≡ None
no-word l f fs h e o = command-fields l h ∙ ap of_fields e ∙ ap (λ (w : Option Word). of_numbers w (numbers_of fs)) o ∙ none-made (numbers_of fs)
  where
    none-made : (ns : Option (List ℕ)) → of_numbers None ns ≡ None
    none-made None = refl
    none-made (Some ns) = refl

-- a field that is no number
pub no-numbers : (l w : List ℕ) (fs : List (List ℕ)) → length l ≤ 200 → fields_of l ≡ w ∷ fs → numbers_of fs ≡ None → command_of l ≡ None
no-numbers l w fs h e o = command-fields l h ∙ ap of_fields e ∙ ap (of_numbers (word_of w)) o

-- a line that is no command has no reserves
pub malformed_reserves : (l : List ℕ) → command_of l ≡ None → reserves_of l ≡ []
unfolding reserves_of
malformed_reserves l e = ap (λ (c : Option Command). reserves_in c (numbers_in (fields_of l))) e

-- a line of a word and numbers
pub read-line : (r : Option Command) (l f : List ℕ) (fs : List (List ℕ)) (ns v : List ℕ) (w : Word) (n : ℕ) → length l ≤ 200 → fields_of l ≡ f ∷ fs → numbers_of fs ≡ Some ns
    → word_of f ≡ Some w → length ns ≡ n → v ≡ padded 19 ns → r ≡ made w n v → r ≡ command_of l
read-line r l f fs ns v w n h e o p s k q =
    q
    ∙ ap (made w n) k
    ∙ made-padded w n ns
    ∙ ap (λ (j : ℕ). made w j ns) (sym s)
    ∙ sym (command-fields l h ∙ ap of_fields e ∙ ap₂ of_numbers p o)

-- ---- request [5]: "G reserves follow the keeper number"

abbrev is_format : Option Command → Bool
is_format (Some (Format logs slots keeper first)) = true
is_format (Some (Append log value)) = false
is_format (Some (Advance log position digest value)) = false
is_format (Some (Truncate log position)) = false
is_format (Some (Lookup log position)) = false
is_format (Some (End log)) = false
is_format None = false

module _ (logs slots keeper : ℕ) (first : List ℕ) where
  abbrev format : Option Command
  format = Some (Format logs slots keeper first)

  not-format : (t : Bool) (c : Option Command) → is_format c ≡ false → cond t c None ≡ format → ⊥
  not-format true c h e = let z : true ≡ false = sym (ap is_format e) ∙ h in cc
  not-format false c h e = cc

  -- the reserves that numbers give, all of them, and the first 16
  abbrev Given : List ℕ → Type 0
  Given rs = (length rs ≡ logs) × (first ≡ padded 16 rs)

  made-count : (w : Word) (ns : List ℕ) → made w (length ns) ns ≡ format → Given (drop 3 ns)
  made-count word.Format ns h = go (eqb (length ns) (3 + get_or ns 0 0)) refl h
    where
      go : (t : Bool) → eqb (length ns) (3 + get_or ns 0 0) ≡ t → cond t (Some (Format (get_or ns 0 0) (get_or ns 1 0) (get_or ns 2 0) (padded 16 (drop 3 ns)))) None ≡ format → Given (drop 3 ns)
      go true e q =
          let z : get_or ns 0 0 ≡ logs = cc in
          (omega (arith, length-drop 3 ns, eqb-true (length ns) (3 + get_or ns 0 0) e), cc)
      go false e q = absurd (not-format false None refl q)
  made-count word.Append ns h = absurd (not-format (eqb (length ns) 2) (Some (Append (get_or ns 0 0) (get_or ns 1 0))) refl h)
  made-count word.Advance ns h = absurd (not-format (eqb (length ns) 4) (Some (Advance _ _ _ _)) refl h)
  made-count word.Truncate ns h = absurd (not-format (eqb (length ns) 2) (Some (Truncate (get_or ns 0 0) (get_or ns 1 0))) refl h)
  made-count word.Lookup ns h = absurd (not-format (eqb (length ns) 2) (Some (Lookup (get_or ns 0 0) (get_or ns 1 0))) refl h)
  made-count word.End ns h = absurd (not-format (eqb (length ns) 1) (Some (End (get_or ns 0 0))) refl h)

  fields-given : (fs : List (List ℕ)) → of_fields fs ≡ format → Given (drop 3 (numbers_in fs))
  fields-given [] h = absurd cc
  fields-given (w ∷ fs) h = go (word_of w) (numbers_of fs) h
    where
      go : (x : Option Word) (o : Option (List ℕ)) → of_numbers x o ≡ format → Given (drop 3 (elim o [ None ↦ [] | Some ns ↦ ns ]))
      go x None q = absurd cc
      go None (Some ns) q = absurd cc
      go (Some x) (Some ns) q = made-count x ns q

  given : (l : List ℕ) → command_of l ≡ format → Given (reserves_of l)
  unfolding command_of reserves_of
  given l h = rw h (go (leb (length l) 200) h)
    where
      go : (t : Bool) → cond t (of_fields (fields_of l)) None ≡ format → Given (drop 3 (numbers_in (fields_of l)))
      go true q = fields-given (fields_of l) q
      go false q = absurd cc

  -- a format line has as many reserves as logs
  pub reserves-count : (l : List ℕ) → command_of l ≡ format → length (reserves_of l) ≡ logs
  reserves-count l h = (given l h).0

  -- and its command has the first 16 of them, zeros where there are fewer
  pub reserves_first : (l : List ℕ) → command_of l ≡ format → first ≡ padded 16 (reserves_of l)
  reserves_first l h = (given l h).1
