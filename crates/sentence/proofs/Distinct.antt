-- Document 02 [9]: a sentence shows exactly the verdict's numbers, and no two verdicts have one sentence, nor one buffer.
use Prim.Native.Nat.{ℕ, zero, suc, ◌-◌}
use mathlib.Core.Path.{◌≡◌, refl, sym, ap, ap₂, ◌∙◌}
use mathlib.Core.Bool.{true, false}
use mathlib.Core.List.{List, [], ◌∷◌, ◌++◌}
use native.Mathlib.Omega.{arith}
use lib.ListN.{length, get_or}
use Rattle.octets.specs.Octets.{zeros}
use Rattle.octets.proofs.Tests.{and_both}
use Rattle.sentence.specs.Text.{ascii, words, text_of, numbers_in}
use Rattle.sentence.specs.Words.{word_at, kind_words, reason}
use Rattle.sentence.specs.declared.Subject.TheVariants.{Receipt, Certificate}
use Rattle.sentence.specs.Sentence.{members_below, others, agreed, pieces_of, sentence_of, numbers_said, Fits, padded}
use Rattle.sentence.specs.declared.Said.{Said}
use Rattle.sentence.specs.declared.Said.TheVariants.{Accepted, Certified, Refused}
use Rattle.sentence.proofs.TextLaws.{wordless, is_words, numbers_of, parted, Small, shown, Printed, text_printed}
use Rattle.sentence.proofs.WordLaws.{kind-short, reason-short}
use Rattle.sentence.proofs.MemberLaws.{Below, members-below, mask_is}

-- ---- the numbers

others_parted : (ns : List ℕ) → parted true (others ns ++ (words "." ∷ [])) ≡ true
unfolding parted others ascii wordless
others_parted [] = refl
others_parted (n ∷ ns) = others_parted ns

agreed_parted : (ns : List ℕ) → parted true (agreed ns ++ (words "." ∷ [])) ≡ true
unfolding parted agreed others ascii wordless
agreed_parted [] = refl
agreed_parted (n ∷ []) = refl
agreed_parted (n ∷ m ∷ ns) = others_parted ns

others-numbers : (ns : List ℕ) → numbers_of (others ns ++ (words "." ∷ [])) ≡ ns
unfolding numbers_of others
others-numbers [] = refl
others-numbers (n ∷ ns) = ap {B = List ℕ} (λ (l : List ℕ). n ∷ l) (others-numbers ns)

agreed-numbers : (ns : List ℕ) → numbers_of (agreed ns ++ (words "." ∷ [])) ≡ ns
unfolding numbers_of agreed others
agreed-numbers [] = refl
agreed-numbers (n ∷ []) = refl
agreed-numbers (n ∷ m ∷ ns) = ap {B = List ℕ} (λ (l : List ℕ). n ∷ m ∷ l) (others-numbers ns)

others-small : (ns : List ℕ) → Below 32 ns → Small (others ns ++ (words "." ∷ []))
unfolding others
others-small [] b = tt
others-small (n ∷ ns) b = (let q = b.0 in omega arith, others-small ns b.1)

agreed-small : (ns : List ℕ) → Below 32 ns → Small (agreed ns ++ (words "." ∷ []))
unfolding agreed others
agreed-small [] b = tt
agreed-small (n ∷ []) b = (let q = b.0 in omega arith, tt)
agreed-small (n ∷ m ∷ ns) b = (let q = b.0 in omega arith, (let q = b.1.0 in omega arith, others-small ns b.1.1))

-- words stand between the numbers
pieces_parted : (x : Said) → parted false (pieces_of x) ≡ true
unfolding pieces_of parted ascii wordless
pieces_parted (Accepted k g n kind r) = and_both (is_words (ascii (word_at kind_words kind))) true (kind-short kind).0 refl
pieces_parted (Certified p m) = agreed_parted (members_below 32 m)
pieces_parted (Refused Receipt n) = and_both (is_words (ascii (reason Receipt n))) true (reason-short Receipt n).0 refl
pieces_parted (Refused Certificate n) = and_both (is_words (ascii (reason Certificate n))) true (reason-short Certificate n).0 refl

pieces-small : (x : Said) → Fits x → Small (pieces_of x)
unfolding pieces_of
pieces-small (Accepted k g n kind r) f = (omega arith, (f.0, (f.1, (f.2, (f.3, (f.4, tt))))))
pieces-small (Certified p m) f = (omega arith, (f.0, agreed-small (members_below 32 m) (members-below 32 m)))
pieces-small (Refused s n) f = (f.1, tt)

-- "with every number of the verdict in it": they are the numbers that stand in the sentence, in this order, and no other does
pub sentence-numbers : (x : Said) → Fits x → numbers_in (sentence_of x) ≡ numbers_said x
unfolding sentence_of pieces_of numbers_of
sentence-numbers x f = shown (pieces_of x) (pieces_parted x) (pieces-small x f) ∙ go x
  where
    go : (x : Said) → numbers_of (pieces_of x) ≡ numbers_said x
    go (Accepted k g n kind r) = refl
    go (Certified p m) = ap {B = List ℕ} (λ (l : List ℕ). 0 ∷ p ∷ l) (agreed-numbers (members_below 32 m))
    go (Refused s n) = refl

-- ---- no two verdicts have one sentence

-- the fifth byte: r of receipt, c of certificate
unfoldable pub initial : Said → ℕ
initial (Accepted k g n kind r) = 114
initial (Certified p m) = 99
initial (Refused Receipt n) = 114
initial (Refused Certificate n) = 99

pub initial-is : (x : Said) → get_or (sentence_of x) 4 0 ≡ initial x
unfolding sentence_of pieces_of text_of ascii initial
initial-is (Accepted k g n kind r) = refl
initial-is (Certified p m) = refl
initial-is (Refused Receipt n) = refl
initial-is (Refused Certificate n) = refl

-- "No two verdicts that differ in one of these, in refusal number, or in being for a receipt or a certificate, have the same sentence"
pub sentence-injective : (x y : Said) → Fits x → Fits y → sentence_of x ≡ sentence_of y → x ≡ y
unfolding initial
sentence-injective x y f g e =
    let numbers : numbers_said x ≡ numbers_said y = sym (sentence-numbers x f) ∙ ap numbers_in e ∙ sentence-numbers y g in
    let first : initial x ≡ initial y = sym (initial-is x) ∙ ap (λ (l : List ℕ). get_or l 4 0) e ∙ initial-is y in
    go x y f g numbers first
  where
    go : (x y : Said) → Fits x → Fits y → numbers_said x ≡ numbers_said y → initial x ≡ initial y → x ≡ y
    go (Accepted k g n kind r) (Accepted k' g' n' kind' r') f f' e i = cc
    go (Accepted k g n kind r) (Certified p m) f f' e i = absurd (omega arith)
    go (Accepted k g n kind r) (Refused s c) f f' e i = absurd (let z : 0 ≡ c = cc in let q = f'.0 in omega arith)
    go (Certified p m) (Accepted k g n kind r) f f' e i = absurd (omega arith)
    go (Certified p m) (Certified p' m') f f' e i = let z : p ≡ p' = cc in let w : members_below 32 m ≡ members_below 32 m' = cc in ap₂ Certified z (mask_is m m' f.1 f'.1 w)
    go (Certified p m) (Refused s c) f f' e i = absurd (let z : 0 ≡ c = cc in let q = f'.0 in omega arith)
    go (Refused s c) (Accepted k g n kind r) f f' e i = absurd (let z : c ≡ 0 = cc in let q = f.0 in omega arith)
    go (Refused s c) (Certified p m) f f' e i = absurd (let z : c ≡ 0 = cc in let q = f.0 in omega arith)
    go (Refused Receipt c) (Refused Receipt c') f f' e i = cc
    go (Refused Certificate c) (Refused Certificate c') f f' e i = cc
    go (Refused Receipt c) (Refused Certificate c') f f' e i = absurd (omega arith)
    go (Refused Certificate c) (Refused Receipt c') f f' e i = absurd (omega arith)

-- ---- nor one buffer

-- no byte of a sentence is 0
pub sentence_printed : (x : Said) → Fits x → Printed (sentence_of x)
unfolding sentence_of
sentence_printed x f = text_printed false (pieces_of x) (pieces_parted x) (pieces-small x f)

zeros-head : (n : ℕ) → get_or (zeros n) 0 0 ≡ 0
unfolding zeros
zeros-head zero = refl
zeros-head (suc n) = refl

unpad : (a b : List ℕ) (j k : ℕ) → Printed a → Printed b → a ++ zeros j ≡ b ++ zeros k → a ≡ b
unfolding Printed
unpad [] [] j k p q e = refl
unpad [] (y ∷ b) j k p q e = absurd (let z : 0 ≡ y = sym (zeros-head j) ∙ ap (λ (l : List ℕ). get_or l 0 0) e in let h = q.0 in omega arith)
unpad (x ∷ a) [] j k p q e = absurd (let z : x ≡ 0 = ap (λ (l : List ℕ). get_or l 0 0) e ∙ zeros-head k in let h = p.0 in omega arith)
unpad (x ∷ a) (y ∷ b) j k p q e =
    let z : x ≡ y = cc in
    let t : a ++ zeros j ≡ b ++ zeros k = cc in
    ap₂ {C = List ℕ} (λ (h : ℕ) (l : List ℕ). h ∷ l) z (unpad a b j k p.1 q.1 t)

-- the same of the 200 bytes: the zeros behind a sentence do not blur it
pub buffer-injective : (x y : Said) → Fits x → Fits y → padded (sentence_of x) ≡ padded (sentence_of y) → x ≡ y
unfolding padded
buffer-injective x y f g e =
    sentence-injective x y f g (unpad (sentence_of x) (sentence_of y) (200 - length (sentence_of x)) (200 - length (sentence_of y)) (sentence_printed x f) (sentence_printed y g) e)
