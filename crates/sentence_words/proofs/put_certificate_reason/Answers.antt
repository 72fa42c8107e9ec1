-- `sentence_words::put_certificate_reason` meets its contract.
use mathlib.Core.List.{[], ◌∷◌}
use mathlib.Core.Path.{refl}
use Rattle.sentence.specs.Text.{ascii}
use Rattle.sentence.specs.Words.{reason}
use Rattle.sentence.specs.declared.Subject.TheVariants.{Certificate}
use Rattle.sentence_words.proofs.PieceLaws.{wrote_as, reason-told}
use Rattle.octets.specs.Undivided.{Undivided}
use Rattle.sentence_words.proofs.put_certificate_reason.Code.Mir.{function}
use Rattle.sentence_words.proofs.put_certificate_reason.Goals as goal

pub undivided : Undivided ("sentence_words::put_words" ∷ "sentence_words::words::reason_words" ∷ []) function
undivided = refl

pub returns : goal.returns
returns c =
    let o = c.args.out.now in
    let n = c.args.number in
    let words = wrote_as o c.reason_words.result.now (ascii (reason Certificate n)) c.args.at c.reason_words.ensures.words (c.put_words.ensures.value, c.put_words.ensures.out_after) in
    let both = reason-told o c.args.at n Certificate n refl words in
    record { value = both.0; out_after = both.1 }
