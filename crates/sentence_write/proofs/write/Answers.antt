-- `sentence_write::write` meets its contract.
use Rattle.std.proofs.Common.{refl, sym, ap, ◌∙◌, length, arith}
use Rattle.refusal.specs.Order.{answer_of, afterwards}
use Rattle.sentence.specs.Sentence.{sentence_of, padded}
use Rattle.octets.proofs.Parts.{splice-whole}
use Rattle.sentence.proofs.SizeLaws.{sentence-size}
use Rattle.sentence_write.proofs.TextLaws.{length-padded, other_length, its-length}
use mathlib.Core.List.{[], ◌∷◌}
use Rattle.octets.specs.Undivided.{Undivided}
use Rattle.sentence_write.proofs.write.Code.Mir.{function}
use Rattle.sentence_write.proofs.write.Goals as goal

pub undivided : Undivided ("octets::put" ∷ "sentence_words::Text::as_padded" ∷ "sentence_words::Text::new" ∷ "sentence_write::sentences::put" ∷ []) function
undivided = refl

pub returns-then-out-ne-SENTENCE : goal.returns-then-out-ne-SENTENCE
unfolding answer_of afterwards
returns-then-out-ne-SENTENCE c = let e = other_length c.args.out.now c.if-out-ne-SENTENCE.true in record { answer = rw e refl; bytes = rw e refl }

pub as_padded-requires : goal.as_padded-requires
as_padded-requires c = omega (arith, ap length c.put.ensures, sentence-size c.args.said)

pub put-requires-2 : goal.put-requires-2
put-requires-2 c = omega (arith, ap length (c.as_padded.ensures ∙ ap padded c.put.ensures), length-padded c.args.said)

pub returns : goal.returns
unfolding answer_of afterwards
returns c =
    let e = its-length c.args.out.now c.if-out-ne-SENTENCE.false in
    let text = c.as_padded.ensures ∙ ap padded c.put.ensures in
    record {
      answer = rw e refl;
      bytes = rw (e, c.put-2.ensures, text) (splice-whole c.args.out.now (padded (sentence_of c.args.said)) (length-padded c.args.said ∙ sym c.if-out-ne-SENTENCE.false));
    }
