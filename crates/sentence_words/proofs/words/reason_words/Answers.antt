-- `sentence_words::words::reason_words` meets its contract.
use Rattle.std.proofs.Common.{refl, ◌∙◌}
use borrow.Author.Tests.{ne_eqb}
use Rattle.sentence.specs.Text.{ascii}
use Rattle.sentence.specs.Words.{meanings, meaning_in}
use mathlib.Core.List.{[], ◌∷◌}
use Rattle.octets.specs.Undivided.{Undivided}
use Rattle.sentence_words.proofs.words.reason_words.Code.Mir.{function}
use Rattle.sentence_words.proofs.words.reason_words.Goals as goal
use Rattle.sentence_words.proofs.words.reason_words.Goals.{in_default-via-in-Receipt+in_default, in_default-via-in-Certificate+in_default}

pub undivided : Undivided ("sentence_words::words::refusal_word" ∷ []) function
undivided = refl

pub returns-in-Receipt-eq7-clause-words : goal.returns-in-Receipt-eq7-clause-words
unfolding meanings meaning_in ascii
returns-in-Receipt-eq7-clause-words c = rw (c.in-Receipt-eq7.is-0, c.in-Receipt-eq7.is-1) refl

pub returns-in-Receipt-eq9-clause-words : goal.returns-in-Receipt-eq9-clause-words
unfolding meanings meaning_in ascii
returns-in-Receipt-eq9-clause-words c = rw (c.in-Receipt-eq9.is-0, c.in-Receipt-eq9.is-1) refl

pub returns-in-Receipt-eq10-clause-words : goal.returns-in-Receipt-eq10-clause-words
unfolding meanings meaning_in ascii
returns-in-Receipt-eq10-clause-words c = rw (c.in-Receipt-eq10.is-0, c.in-Receipt-eq10.is-1) refl

pub returns-in-Receipt-eq11-clause-words : goal.returns-in-Receipt-eq11-clause-words
unfolding meanings meaning_in ascii
returns-in-Receipt-eq11-clause-words c = rw (c.in-Receipt-eq11.is-0, c.in-Receipt-eq11.is-1) refl

pub returns-in-Certificate-eq7-clause-words : goal.returns-in-Certificate-eq7-clause-words
unfolding meanings meaning_in ascii
returns-in-Certificate-eq7-clause-words c = rw (c.in-Certificate-eq7.is-0, c.in-Certificate-eq7.is-1) refl

pub returns-in-Certificate-eq9-clause-words : goal.returns-in-Certificate-eq9-clause-words
unfolding meanings meaning_in ascii
returns-in-Certificate-eq9-clause-words c = rw (c.in-Certificate-eq9.is-0, c.in-Certificate-eq9.is-1) refl

pub returns-in-Certificate-eq12-clause-words : goal.returns-in-Certificate-eq12-clause-words
unfolding meanings meaning_in ascii
returns-in-Certificate-eq12-clause-words c = rw (c.in-Certificate-eq12.is-0, c.in-Certificate-eq12.is-1) refl

pub returns-in-Certificate-eq13-clause-words : goal.returns-in-Certificate-eq13-clause-words
unfolding meanings meaning_in ascii
returns-in-Certificate-eq13-clause-words c = rw (c.in-Certificate-eq13.is-0, c.in-Certificate-eq13.is-1) refl

pub returns-in-Certificate-eq17-clause-words : goal.returns-in-Certificate-eq17-clause-words
unfolding meanings meaning_in ascii
returns-in-Certificate-eq17-clause-words c = rw (c.in-Certificate-eq17.is-0, c.in-Certificate-eq17.is-1) refl

pub returns-in_default-clause-words : goal.returns-in_default-clause-words
unfolding meanings meaning_in
returns-in_default-clause-words c = c.refusal_word.ensures.word ∙ elim c.in_default.branch [
  | in_default-via-in-Receipt+in_default w ↦
      let n = c.args.number in
      let h = w.in_default.is-1 in
      rw (w.in_default.is-0, ne_eqb n 7 h.0.0.0.1, ne_eqb n 9 h.0.0.1, ne_eqb n 10 h.0.1, ne_eqb n 11 h.1) refl
  | in_default-via-in-Certificate+in_default w ↦
      let n = c.args.number in
      let h = w.in_default.is-1 in
      rw (w.in_default.is-0, ne_eqb n 7 h.0.0.0.0.1, ne_eqb n 17 h.1, ne_eqb n 12 h.0.0.1, ne_eqb n 9 h.0.0.0.1, ne_eqb n 13 h.0.1) refl
]
