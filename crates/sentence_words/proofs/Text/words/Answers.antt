-- `sentence_words::Text::words` meets its contract.
use Rattle.std.proofs.Common.{arith}
use Rattle.sentence_words.proofs.TextLaws.{length-so_far, then, zeros-behind}
use mathlib.Core.List.{[], ◌∷◌}
use mathlib.Core.Path.{refl}
use Rattle.octets.specs.Undivided.{Undivided}
use Rattle.sentence_words.proofs.Text.words.Code.Mir.{function}
use Rattle.sentence_words.proofs.Text.words.Goals as goal

pub undivided : Undivided ("octets::put" ∷ []) function
undivided = refl

pub invariant_of-self : goal.invariant_of-self
invariant_of-self c =
    let t = c.self.inside in
    let so_far = length-so_far t.bytes c.args.self.now t.len (omega arith) c.self.view_is in
    (omega arith, rw c.put.ensures (zeros-behind t.bytes c.args.self.now t.len (omega arith) c.self.view_is 248 c.self.invariant.1 c.args.words.now (omega arith)))

pub returns : goal.returns
returns c = rw c.put.ensures (then c.self.inside.bytes c.args.self.now c.self.inside.len (omega arith) c.self.view_is c.args.words.now)
