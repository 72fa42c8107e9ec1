-- The buffer that a sentence is written into.
use Rattle.std.proofs.Common.{◌≡◌, ◌≢◌, ℕ, ◌-◌, List, [], ◌∷◌, ◌++◌, length, refl, sym, ap, ◌∙◌, append_assoc, arith, length-append}
use Rattle.std.proofs.Math.Option.{some, none}
use Rattle.sentence.specs.declared.Said.{Said}
use Rattle.sentence.proofs.SizeLaws.{sentence-size}
use Rattle.octets.proofs.Zeros.{length-zeros}
use borrow.Author.Tests.{ne_eqb, eq-eqb}
use Rattle.octets.specs.Octets.{zeros}
use Rattle.refusal.specs.Order.{first_fault}
use Rattle.sentence.specs.Text.{Piece, piece_text, text_of}
use Rattle.sentence.specs.Sentence.{sentence_of, sentence_refusal, padded}

-- two lists of pieces on end
pub text_of-append : (ps qs : List Piece) → text_of (ps ++ qs) ≡ text_of ps ++ text_of qs
unfolding text_of
text_of-append [] qs = refl
text_of-append (p ∷ ps) qs = ap (λ (l : List ℕ). piece_text p ++ l) (text_of-append ps qs) ∙ sym (append_assoc (piece_text p) (text_of ps) (text_of qs))

-- a sentence with its padding fills the buffer
pub length-padded : (x : Said) → length (padded (sentence_of x)) ≡ 200
unfolding padded
length-padded x = omega (arith, sentence-size x, length-append (sentence_of x) (zeros (200 - length (sentence_of x))), length-zeros (200 - length (sentence_of x)))

pub other_length : (out : List ℕ) → length out ≢ 200 → sentence_refusal out ≡ some 7
unfolding sentence_refusal first_fault
other_length out h = rw (ne_eqb (length out) 200 h)

pub its-length : (out : List ℕ) → length out ≡ 200 → sentence_refusal out ≡ none
unfolding sentence_refusal first_fault
its-length out h = rw (eq-eqb (length out) 200 h)
