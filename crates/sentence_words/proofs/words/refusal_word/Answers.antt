-- `sentence_words::words::refusal_word` meets its contract.
use Rattle.std.proofs.Common.{refl, arith}
use Rattle.sentence.specs.Text.{ascii}
use Rattle.sentence.specs.Words.{refusal_words}
use Rattle.sentence_words.proofs.WordLaws.{no_refusal}
use mathlib.Core.List.{[]}
use Rattle.octets.specs.Undivided.{Undivided}
use Rattle.sentence_words.proofs.words.refusal_word.Code.Mir.{function}
use Rattle.sentence_words.proofs.words.refusal_word.Goals as goal

pub undivided : Undivided [] function
undivided = refl

pub returns-in-1-clause-word : goal.returns-in-1-clause-word
unfolding refusal_words ascii
returns-in-1-clause-word c = rw c.in-1.is refl

pub returns-in-2-clause-word : goal.returns-in-2-clause-word
unfolding refusal_words ascii
returns-in-2-clause-word c = rw c.in-2.is refl

pub returns-in-3-clause-word : goal.returns-in-3-clause-word
unfolding refusal_words ascii
returns-in-3-clause-word c = rw c.in-3.is refl

pub returns-in-4-clause-word : goal.returns-in-4-clause-word
unfolding refusal_words ascii
returns-in-4-clause-word c = rw c.in-4.is refl

pub returns-in-5-clause-word : goal.returns-in-5-clause-word
unfolding refusal_words ascii
returns-in-5-clause-word c = rw c.in-5.is refl

pub returns-in-7-clause-word : goal.returns-in-7-clause-word
unfolding refusal_words ascii
returns-in-7-clause-word c = rw c.in-7.is refl

pub returns-in-8-clause-word : goal.returns-in-8-clause-word
unfolding refusal_words ascii
returns-in-8-clause-word c = rw c.in-8.is refl

pub returns-in-9-clause-word : goal.returns-in-9-clause-word
unfolding refusal_words ascii
returns-in-9-clause-word c = rw c.in-9.is refl

pub returns-in-10-clause-word : goal.returns-in-10-clause-word
unfolding refusal_words ascii
returns-in-10-clause-word c = rw c.in-10.is refl

pub returns-in-11-clause-word : goal.returns-in-11-clause-word
unfolding refusal_words ascii
returns-in-11-clause-word c = rw c.in-11.is refl

pub returns-in-12-clause-word : goal.returns-in-12-clause-word
unfolding refusal_words ascii
returns-in-12-clause-word c = rw c.in-12.is refl

pub returns-in-13-clause-word : goal.returns-in-13-clause-word
unfolding refusal_words ascii
returns-in-13-clause-word c = rw c.in-13.is refl

pub returns-in-14-clause-word : goal.returns-in-14-clause-word
unfolding refusal_words ascii
returns-in-14-clause-word c = rw c.in-14.is refl

pub returns-in-15-clause-word : goal.returns-in-15-clause-word
unfolding refusal_words ascii
returns-in-15-clause-word c = rw c.in-15.is refl

pub returns-in-16-clause-word : goal.returns-in-16-clause-word
unfolding refusal_words ascii
returns-in-16-clause-word c = rw c.in-16.is refl

pub returns-in-17-clause-word : goal.returns-in-17-clause-word
unfolding refusal_words ascii
returns-in-17-clause-word c = rw c.in-17.is refl

pub returns-in-18-clause-word : goal.returns-in-18-clause-word
unfolding refusal_words ascii
returns-in-18-clause-word c = rw c.in-18.is refl

pub returns-in-19-clause-word : goal.returns-in-19-clause-word
unfolding refusal_words ascii
returns-in-19-clause-word c = rw c.in-19.is refl

pub returns-in_default-clause-word : goal.returns-in_default-clause-word
unfolding ascii
returns-in_default-clause-word c = rw (no_refusal c.args.number (omega arith)) refl
