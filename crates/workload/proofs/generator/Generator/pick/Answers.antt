-- `workload::generator::Generator::pick` meets its contract.
use Rattle.std.proofs.Common.{◌≡◌, ◌%◌, arith}
use borrow.Author.Tests.{lt-ltb}
use Rattle.workload.specs.Generator.{next, drawn}
use Rattle.workload.proofs.generator.Generator.pick.Goals as goal

pub returns-in-0-to-3 : goal.returns-in-0-to-3
unfolding drawn
returns-in-0-to-3 c =
    record {
      draw = simp (c.next.ensures.draw, c.next-log.ensures.draw, c.next-log.ensures.state, c.next-kind.ensures.state, lt-ltb (next c.args.self.now.state % 8) 4 (rw (← c.next-kind.ensures.draw) (omega arith)));
      state = simp (c.next.ensures.state, c.next-log.ensures.state, c.next-kind.ensures.state, lt-ltb (next c.args.self.now.state % 8) 4 (rw (← c.next-kind.ensures.draw) (omega arith)));
    }

pub returns-in-4 : goal.returns-in-4
unfolding drawn
returns-in-4 c =
    let kind : next c.args.self.now.state % 8 ≡ 4 = rw (← c.next-kind.ensures.draw) c.in-4.is in
    record {
      draw = simp (c.next-value.ensures.draw, c.next-digest.ensures.draw, c.next-digest.ensures.state, c.position-position.ensures.position, c.position-position.ensures.state, c.next-log.ensures.draw, c.next-log.ensures.state, c.next-kind.ensures.state, kind);
      state = simp (c.next-value.ensures.state, c.next-digest.ensures.state, c.position-position.ensures.state, c.next-log.ensures.state, c.next-kind.ensures.state, kind);
    }

pub returns-in-5 : goal.returns-in-5
unfolding drawn
returns-in-5 c =
    let kind : next c.args.self.now.state % 8 ≡ 5 = rw (← c.next-kind.ensures.draw) c.in-5.is in
    record {
      draw = simp (c.position.ensures.position, c.next-log.ensures.draw, c.next-log.ensures.state, c.next-kind.ensures.state, kind);
      state = simp (c.position.ensures.state, c.next-log.ensures.state, c.next-kind.ensures.state, kind);
    }

pub returns-in-6 : goal.returns-in-6
unfolding drawn
returns-in-6 c =
    let kind : next c.args.self.now.state % 8 ≡ 6 = rw (← c.next-kind.ensures.draw) c.in-6.is in
    record {
      draw = simp (c.position-in-6.ensures.position, c.next-log.ensures.draw, c.next-log.ensures.state, c.next-kind.ensures.state, kind);
      state = simp (c.position-in-6.ensures.state, c.next-log.ensures.state, c.next-kind.ensures.state, kind);
    }

pub returns-in_default : goal.returns-in_default
unfolding drawn
returns-in_default c =
    let kind : next c.args.self.now.state % 8 ≡ 7 = rw (← c.next-kind.ensures.draw) (omega arith) in
    record {
      draw = simp (c.next-log.ensures.draw, c.next-kind.ensures.state, kind);
      state = simp (c.next-log.ensures.state, c.next-kind.ensures.state, kind);
    }
