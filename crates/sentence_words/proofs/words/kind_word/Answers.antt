-- `sentence_words::words::kind_word` meets its contract.
use Rattle.std.proofs.Common.{refl, arith}
use Rattle.sentence.specs.Text.{ascii}
use Rattle.sentence.specs.Words.{kind_words}
use Rattle.sentence_words.proofs.WordLaws.{no_kind}
use mathlib.Core.List.{[]}
use Rattle.octets.specs.Undivided.{Undivided}
use Rattle.sentence_words.proofs.words.kind_word.Code.Mir.{function}
use Rattle.sentence_words.proofs.words.kind_word.Goals as goal

pub undivided : Undivided [] function
undivided = refl

pub returns-in-0-clause-word : goal.returns-in-0-clause-word
unfolding kind_words ascii
returns-in-0-clause-word c = rw c.in-0.is refl

pub returns-in-1-clause-word : goal.returns-in-1-clause-word
unfolding kind_words ascii
returns-in-1-clause-word c = rw c.in-1.is refl

pub returns-in-2-clause-word : goal.returns-in-2-clause-word
unfolding kind_words ascii
returns-in-2-clause-word c = rw c.in-2.is refl

pub returns-in-3-clause-word : goal.returns-in-3-clause-word
unfolding kind_words ascii
returns-in-3-clause-word c = rw c.in-3.is refl

pub returns-in_default-clause-word : goal.returns-in_default-clause-word
unfolding ascii
returns-in_default-clause-word c = rw (no_kind c.args.kind (omega arith)) refl
