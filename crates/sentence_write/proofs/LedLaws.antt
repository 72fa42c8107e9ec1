-- The member list as the loop writes it.
use Rattle.std.proofs.Common.{◌≡◌, ◌≢◌, ℕ, zero, suc, ◌+◌, ◌*◌, ◌/◌, ◌%◌, ◌^◌, ◌≤◌, ◌<◌, Bool, true, false, cond, List, [], ◌∷◌, ◌++◌, length, refl, sym, ap, ◌∙◌, append_assoc, append-nil, add-one, arith, length-append}
use lib.Dec.{eqb}
use lib.Count.{ones, ones_cat}
use lib.Pow.{mod-pow-add, pow_pos}
use native.Mathlib.Nat.{mod-eq_of_lt, mod-lt}
use borrow.Author.Tests.{ne_eqb, eq-eqb, eqb-true, eqb-false}
use Rattle.decimal.specs.Decimal.{decimal_of}
use Rattle.sentence.specs.Text.{ascii, Piece, words, number, text_of}
use Rattle.sentence.specs.Sentence.{members_below, others, agreed}
use Rattle.sentence.proofs.MemberLaws.{Below, members-below, below-weaker}
use Rattle.sentence.proofs.SizeLaws.{two_digits}
use Rattle.sentence_write.specs.Led.{lead, led, list_text}

-- ---- how many

-- a number's last n bits have as many ones as they have members
length-members : (n mask : ℕ) → length (members_below n mask) ≡ ones (mask % 2 ^ n)
unfolding members_below ones
length-members zero mask = ap ones (let e : 0 ≡ mask % 1 = omega arith in e)
length-members (suc n) mask =
    let j : suc n ≡ 1 + n = omega arith in
    let e : mask % 2 ^ suc n ≡ mask / 2 ^ n % 2 ^ 1 * 2 ^ n + mask % 2 ^ n = ap (λ (i : ℕ). mask % 2 ^ i) j ∙ mod-pow-add mask 1 n in
    let f : ones (mask % 2 ^ suc n) ≡ ones (mask / 2 ^ n % 2) + ones (mask % 2 ^ n) =
    ap ones e ∙ ones_cat n (mask / 2 ^ n % 2) (mask % 2 ^ n) (mod-lt mask (pow_pos n))
    in
    length-append (members_below n mask) _ ∙ go (eqb (mask / 2 ^ n % 2) 1) refl (length-members n mask) ∙ sym f
  where
    go : (t : Bool) → eqb (mask / 2 ^ n % 2) 1 ≡ t → length (members_below n mask) ≡ ones (mask % 2 ^ n) → length (members_below n mask) + length (cond t (n ∷ []) []) ≡ ones (mask / 2 ^ n % 2) + ones (mask % 2 ^ n)
    go true q h = let b = ap ones (eqb-true (mask / 2 ^ n % 2) 1 q) in omega arith
    go false q h = let w = eqb-false (mask / 2 ^ n % 2) 1 q in let z : mask / 2 ^ n % 2 ≡ 0 = omega arith in let b = ap ones z in omega arith

pub ones-members : (mask : ℕ) → mask < 2 ^ 32 → ones mask ≡ length (members_below 32 mask)
ones-members mask h = ap ones (sym (mod-eq_of_lt h)) ∙ sym (length-members 32 mask)

count_most : (mask i : ℕ) → length (members_below i mask) ≤ i
unfolding members_below
count_most mask zero = omega arith
count_most mask (suc i) = let h = count_most mask i in go (eqb (mask / 2 ^ i % 2) 1) h
  where
    go : (t : Bool) → length (members_below i mask) ≤ i → length (members_below i mask ++ cond t (i ∷ []) []) ≤ suc i
    go true h = omega (arith, length-append (members_below i mask) (i ∷ []))
    go false h = omega (arith, length-append (members_below i mask) [])

-- ---- a member

-- the members below i + 1, where i is one and where it is none
member-more : (mask i : ℕ) → mask / 2 ^ i % 2 ≡ 1 → members_below (i + 1) mask ≡ members_below i mask ++ (i ∷ [])
unfolding members_below
member-more mask i e =
    ap (λ (k : ℕ). members_below k mask) (add-one i) ∙ ap (λ (t : Bool). members_below i mask ++ cond t (i ∷ []) []) (eq-eqb (mask / 2 ^ i % 2) 1 e)

pub no-member : (mask i : ℕ) → mask / 2 ^ i % 2 ≢ 1 → members_below (i + 1) mask ≡ members_below i mask
unfolding members_below
no-member mask i h =
    ap (λ (k : ℕ). members_below k mask) (add-one i) ∙ ap (λ (t : Bool). members_below i mask ++ cond t (i ∷ []) []) (ne_eqb (mask / 2 ^ i % 2) 1 h)
    ∙ append-nil (members_below i mask)

-- behind a member comes a comma
pub comma : (all mask i : ℕ) → mask / 2 ^ i % 2 ≡ 1 → lead all (length (members_below (i + 1) mask)) ≡ ", "
unfolding lead
comma all mask i e =
    let n : length (members_below (i + 1) mask) ≡ suc (length (members_below i mask)) = omega (arith, ap length (member-more mask i e), length-append (members_below i mask) (i ∷ [])) in
    ap (lead all) n

-- before the first, by the number of all
pub first-lead : (all mask : ℕ) → lead all (length (members_below 0 mask)) ≡ cond (eqb all 1) ", agreed by member " ", agreed by members "
unfolding lead members_below
first-lead all mask = refl

-- ---- the list

led-end : (all k : ℕ) (ns : List ℕ) (n : ℕ) → text_of (led all k (ns ++ (n ∷ []))) ≡ text_of (led all k ns) ++ (ascii (lead all (k + length ns)) ++ decimal_of n)
unfolding led text_of
led-end all k [] n =
    ap (λ (l : List ℕ). ascii (lead all k) ++ l) (append-nil (decimal_of n))
    ∙ (let z : k ≡ k + 0 = omega arith in ap (λ (j : ℕ). ascii (lead all j) ++ decimal_of n) z)
led-end all k (m ∷ ns) n =
    let z : suc k + length ns ≡ k + suc (length ns) = omega arith in
    let a = ascii (lead all k) in
    let d = decimal_of m in
    let t = text_of (led all (suc k) ns) in
    let y = ascii (lead all (k + suc (length ns))) ++ decimal_of n in
    ap (λ (l : List ℕ). a ++ (d ++ l)) (led-end all (suc k) ns n ∙ ap (λ (j : ℕ). t ++ (ascii (lead all j) ++ decimal_of n)) z)
    ∙ ap (λ (l : List ℕ). a ++ l) (sym (append_assoc d t y)) ∙ sym (append_assoc a (d ++ t) y)

pub list-none : (all mask : ℕ) → list_text all 0 mask ≡ []
unfolding list_text members_below led text_of
list-none all mask = refl

pub list-more : (all i mask : ℕ) → mask / 2 ^ i % 2 ≡ 1
    → list_text all (i + 1) mask ≡ list_text all i mask ++ (ascii (lead all (length (members_below i mask))) ++ decimal_of i)
unfolding list_text
list-more all i mask e =
    let n : 0 + length (members_below i mask) ≡ length (members_below i mask) = omega arith in
    ap (λ (ns : List ℕ). text_of (led all 0 ns)) (member-more mask i e) ∙ led-end all 0 (members_below i mask) i
    ∙ ap (λ (k : ℕ). text_of (led all 0 (members_below i mask)) ++ (ascii (lead all k) ++ decimal_of i)) n

pub list-same : (all i mask : ℕ) → mask / 2 ^ i % 2 ≢ 1 → list_text all (i + 1) mask ≡ list_text all i mask
unfolding list_text
list-same all i mask h = ap (λ (ns : List ℕ). text_of (led all 0 ns)) (no-member mask i h)

-- the words before the first member take 18 bytes more than a comma
pub lead-size : (all k : ℕ) → length (ascii (lead all k)) ≤ 20
unfolding lead ascii
lead-size all zero = go (eqb all 1)
  where
    go : (t : Bool) → length (ascii (cond t ", agreed by member " ", agreed by members ")) ≤ 20
    go true = omega arith
    go false = omega arith
lead-size all (suc k) = omega arith

led-size : (all k : ℕ) (ns : List ℕ) → Below 32 ns → length (text_of (led all (suc k) ns)) ≤ 4 * length ns
unfolding led text_of lead ascii
led-size all k [] b = omega arith
led-size all k (n ∷ ns) b =
    let q = b.0 in
    let h = led-size all (suc k) ns b.1 in
    omega (arith, length-append (decimal_of n) (text_of (led all (suc (suc k)) ns)), two_digits n (omega arith))

all-size : (all : ℕ) (ns : List ℕ) → Below 32 ns → length (text_of (led all 0 ns)) ≤ 18 + 4 * length ns
unfolding led text_of
all-size all [] b = omega arith
all-size all (n ∷ ns) b =
    let q = b.0 in
    omega (arith, led-size all 0 ns b.1, lead-size all 0, two_digits n (omega arith), length-append (ascii (lead all 0)) (decimal_of n ++ text_of (led all 1 ns)), length-append (decimal_of n) (text_of (led all 1 ns)))

pub list-size : (all i mask : ℕ) → i ≤ 32 → length (list_text all i mask) ≤ 18 + 4 * i
unfolding list_text
list-size all i mask h = omega (arith, all-size all (members_below i mask) (below-weaker i 32 (members_below i mask) h (members-below i mask)), count_most mask i)

-- ---- it is the member list

led-others : (all k : ℕ) (ns : List ℕ) → led all (suc k) ns ≡ others ns
unfolding led lead others
led-others all k [] = refl
led-others all k (n ∷ ns) = ap {B = List Piece} (λ (l : List Piece). words ", " ∷ number n ∷ l) (led-others all (suc k) ns)

agreed-led : (ns : List ℕ) → (length ns ≡ 0 → ⊥) → led (length ns) 0 ns ≡ agreed ns
unfolding led lead agreed others
agreed-led [] h = absurd (h refl)
agreed-led (n ∷ []) h = refl
agreed-led (n ∷ m ∷ ns) h =
    ap (λ (t : Bool). words (cond t ", agreed by member " ", agreed by members ") ∷ number n ∷ led (suc (suc (length ns))) 1 (m ∷ ns)) (ne_eqb (suc (suc (length ns))) 1 (λ e. omega arith))
    ∙ ap {B = List Piece} (λ (l : List Piece). words ", agreed by members " ∷ number n ∷ l) (led-others (suc (suc (length ns))) 0 (m ∷ ns))

pub list-agreed : (all mask : ℕ) → all ≡ length (members_below 32 mask) → (all ≡ 0 → ⊥) → list_text all 32 mask ≡ text_of (agreed (members_below 32 mask))
unfolding list_text
list-agreed all mask e h =
    ap (λ (k : ℕ). text_of (led k 0 (members_below 32 mask))) e ∙ ap text_of (agreed-led (members_below 32 mask) (λ q. h (e ∙ q)))

pub agreed-none : (mask : ℕ) → length (members_below 32 mask) ≡ 0 → text_of (agreed (members_below 32 mask)) ≡ ascii ", agreed by none"
unfolding agreed text_of
agreed-none mask e = go (members_below 32 mask) e
  where
    go : (ns : List ℕ) → length ns ≡ 0 → text_of (agreed ns) ≡ ascii ", agreed by none"
    go [] h = append-nil (ascii ", agreed by none")
    go (n ∷ ns) h = absurd (omega arith)
