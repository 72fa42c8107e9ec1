-- `decimal::read::parse` meets its contract.
use Rattle.std.proofs.Common.{◌≡◌, arith, sym, refl, ◌∙◌, [], ◌∷◌}
use Rattle.decimal.specs.Decimal.{number_of, read_after}
use Rattle.decimal.proofs.Laws.{number-none, number-zero, number_read, read-on, read_out, read-end}
use Rattle.octets.specs.Undivided.{Undivided}
use Rattle.decimal.proofs.read.parse.Code.Mir.{function}
use Rattle.decimal.proofs.read.parse.Goals as goal
use Rattle.decimal.proofs.read.parse.Goals.{in_default, in_default-2}

pub undivided : Undivided ("decimal::read::more" ∷ []) function
undivided = refl

pub returns-in-empty : goal.returns-in-empty
returns-in-empty c = sym (number-none c.args.s.now (omega arith))

pub returns-in-empty-2 : goal.returns-in-empty-2
returns-in-empty-2 c = sym (number-zero c.args.s.now (omega arith) (omega arith))

pub returns-in_default-more : goal.returns-in_default-more
returns-in_default-more c =
    let r : number_of c.args.s.now ≡ read_after 0 c.args.s.now = elim c.if-s-lt2.branch [ in_default w ↦ number_read c.args.s.now (omega arith) (λ p q. omega arith) | in_default-2 w ↦ number_read c.args.s.now (omega arith) (λ p q. omega arith) ] in
    sym (r ∙ c.loop-b.invariant ∙ read_out c.loop-b.v c.loop-b.b-index c.args.s.now (omega arith) (sym c.more.ensures ∙ c.in_default-more.is))

pub loop-b-preserved : goal.loop-b-preserved
loop-b-preserved c = c.loop-b.invariant ∙ read-on c.loop-b.v c.in-Some.next c.loop-b.b-index c.args.s.now (omega arith) (sym c.more.ensures ∙ c.in-Some.is)

pub returns : goal.returns
returns c =
    let r : number_of c.args.s.now ≡ read_after 0 c.args.s.now = elim c.if-s-lt2.branch [ in_default w ↦ number_read c.args.s.now (omega arith) (λ p q. omega arith) | in_default-2 w ↦ number_read c.args.s.now (omega arith) (λ p q. omega arith) ] in
    sym (r ∙ c.loop-b.invariant ∙ read-end c.loop-b.v c.loop-b.b-index c.args.s.now (omega arith))
