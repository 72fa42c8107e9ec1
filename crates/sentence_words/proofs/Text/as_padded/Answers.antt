-- `sentence_words::Text::as_padded` meets its contract.
use Rattle.std.proofs.Common.{refl, [], arith}
use Rattle.sentence_words.proofs.TextLaws.{length-so_far, padded-take}
use Rattle.octets.specs.Undivided.{Undivided}
use Rattle.sentence_words.proofs.Text.as_padded.Code.Mir.{function}
use Rattle.sentence_words.proofs.Text.as_padded.Goals as goal

pub undivided : Undivided [] function
undivided = refl

pub returns : goal.returns
returns c =
    let t = c.self.inside in
    let n = length-so_far t.bytes c.args.self.now t.len (omega (arith, c.self.invariant.0)) c.self.view_is in
    padded-take t.bytes c.args.self.now t.len c.self.view_is c.self.invariant.1 (omega arith) n
