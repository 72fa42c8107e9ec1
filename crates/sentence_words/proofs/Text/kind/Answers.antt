-- `sentence_words::Text::kind` meets its contract.
use Rattle.std.proofs.Common.{◌+◌, ◌≤◌, ◌≡◌, ◌++◌, take, length, ap, arith, length-append}
use Rattle.sentence_words.proofs.TextLaws.{length-so_far, then, zeros-behind}
use Rattle.sentence_words.specs.Kind.{kind_text}
use mathlib.Core.List.{[], ◌∷◌}
use mathlib.Core.Path.{refl}
use Rattle.octets.specs.Undivided.{Undivided}
use Rattle.sentence_words.proofs.Text.kind.Code.Mir.{function}
use Rattle.sentence_words.proofs.Text.kind.Goals as goal

pub undivided : Undivided ("sentence_words::put_kind" ∷ []) function
undivided = refl

pub put_kind-self-inside-requires : goal.put_kind-self-inside-requires
put_kind-self-inside-requires c = omega (arith, length-so_far c.self.inside.bytes c.args.self.now c.self.inside.len (omega arith) c.self.view_is)

pub invariant_of-self : goal.invariant_of-self
invariant_of-self c =
    let t = c.self.inside in
    let text = kind_text c.args.kind in
    let so_far = length-so_far t.bytes c.args.self.now t.len (omega arith) c.self.view_is in
    let put = c.put_kind-self-inside.ensures in
    let room : t.len + length text ≤ 248 = omega (arith, put.value) in
    (omega (arith, put.value), rw (put.value.0, put.out_after) (zeros-behind t.bytes c.args.self.now t.len (omega arith) c.self.view_is 248 c.self.invariant.1 text (omega arith)))

pub returns : goal.returns
returns c =
    let text = kind_text c.args.kind in
    let put = c.put_kind-self-inside in
    let so_far = length-so_far c.self.inside.bytes c.args.self.now c.self.inside.len (omega arith) c.self.view_is in
    let kind : take put.result put.new.out ≡ c.args.self.now ++ text =
    rw (put.ensures.value.0, put.ensures.out_after) (then c.self.inside.bytes c.args.self.now c.self.inside.len (omega arith) c.self.view_is text)
    in
    record { kind = kind; short = omega (arith, put.ensures.value, ap length kind, length-append c.args.self.now text) }
