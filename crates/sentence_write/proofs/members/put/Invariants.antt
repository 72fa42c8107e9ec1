use Rattle.std.proofs.Common.{◌≡◌, ◌++◌, length}
use Rattle.sentence.specs.Text.{ascii}
use Rattle.sentence.specs.Sentence.{members_below}
use Rattle.sentence_write.specs.Led.{lead, list_text}
use Rattle.sentence_write.proofs.members.put.Given as goal

abbrev pub invariant-loop-i : goal.invariant-loop-i
invariant-loop-i l = record {
  text : l.text ≡ l.initial.text ++ list_text l.all l.i l.mask;
  next : l.lead ≡ ascii (lead l.all (length (members_below l.i l.mask)));
}
