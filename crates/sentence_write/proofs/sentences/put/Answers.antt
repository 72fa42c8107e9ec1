-- `sentence_write::sentences::put` meets its contract.
use Rattle.std.proofs.Common.{◌≡◌, ℕ, List, ◌++◌, sym, ap, [], ◌∷◌, append_assoc, append-nil}
use Rattle.decimal.proofs.Theorems.{decimal-zero}
use Rattle.sentence.specs.Text.{ascii, words, text_of}
use Rattle.sentence.specs.Sentence.{members_below, agreed, pieces_of, sentence_of}
use Rattle.sentence.specs.declared.Said.TheVariants.{Accepted}
use Rattle.decimal.specs.Decimal.{decimal_of}
use Rattle.sentence_words.specs.Kind.{kind_text}
use Rattle.sentence_write.proofs.TextLaws.{text_of-append}
use mathlib.Core.Path.{refl}
use Rattle.octets.specs.Undivided.{Undivided}
use Rattle.sentence_write.proofs.sentences.put.Code.Mir.{function}
use Rattle.sentence_write.proofs.sentences.put.Goals as goal

pub undivided : Undivided ("sentence_words::Text::kind" ∷ "sentence_words::Text::number" ∷ "sentence_words::Text::reason" ∷ "sentence_words::Text::words" ∷ "sentence_write::members::put" ∷ "sentence_write::sentences::beginning" ∷ []) function
undivided = refl

-- the number 0 is written with the words around it
opening : ascii "The receipt is accepted (0): keeper " ≡ ascii "The receipt is accepted (" ++ (decimal_of 0 ++ ascii "): keeper ")
unfolding ascii
opening = ap (λ (zero : List ℕ). ascii "The receipt is accepted (" ++ (zero ++ ascii "): keeper ")) (sym decimal-zero)

accepted-text : (keeper log position kind reference : ℕ)
    → ((((((((([] ++ ascii "The receipt is accepted (0): keeper ") ++ decimal_of keeper) ++ ascii " says of log ") ++ decimal_of log) ++ ascii " that position ") ++ decimal_of position)
    ++ kind_text kind) ++ ascii "), reference ") ++ decimal_of reference) ++ ascii "." ≡ sentence_of (Accepted keeper log position kind reference)
unfolding sentence_of pieces_of text_of kind_text
accepted-text keeper log position kind reference = rw opening (simp (append_assoc, append-nil))

pub returns-in-Accepted : goal.returns-in-Accepted
unfolding ascii
returns-in-Accepted c =
    rw (
      c.in-Accepted.is,
      c.words-in-Accepted-4.ensures,
      c.number-in-Accepted-3.ensures.digits,
      c.words-in-Accepted-3.ensures,
      c.kind.ensures.kind,
      c.number-in-Accepted-2.ensures.digits,
      c.words-in-Accepted-2.ensures,
      c.number-in-Accepted.ensures.digits,
      c.words-in-Accepted.ensures,
      c.number.ensures.digits,
      c.words.ensures,
      c.requires,
    ) (accepted-text c.in-Accepted.keeper c.in-Accepted.log c.in-Accepted.position c.in-Accepted.kind c.in-Accepted.reference)

pub returns-in-Certified : goal.returns-in-Certified
unfolding sentence_of pieces_of text_of ascii
returns-in-Certified c = rw (c.in-Certified.is, text_of-append (agreed (members_below 32 c.in-Certified.mask)) (words "." ∷ [])) (simp (
  c.words-in-Certified-2.ensures,
  c.put.ensures.list,
  c.number-in-Certified.ensures.digits,
  c.words-in-Certified.ensures,
  c.requires,
  decimal-zero,
  append_assoc,
))

pub returns-in-Refused : goal.returns-in-Refused
unfolding sentence_of pieces_of text_of ascii
returns-in-Refused c = rw c.in-Refused.is (simp (
  c.words-in-Refused-3.ensures,
  c.reason.ensures.reason,
  c.words-in-Refused-2.ensures,
  c.number-in-Refused.ensures.digits,
  c.words-in-Refused.ensures,
  c.beginning.ensures.words,
  c.requires,
  append_assoc,
))
