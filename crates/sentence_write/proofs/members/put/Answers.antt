-- `sentence_write::members::put` meets its contract.
use Rattle.std.proofs.Common.{◌≡◌, ◌≢◌, ◌/◌, ◌%◌, ◌^◌, ◌++◌, List, ℕ, length, refl, sym, ap, ◌∙◌, append_assoc, append-nil, arith, length-append}
use lib.Bits.{and_mask}
use borrow.Author.Tests.{eq-eqb, ne_eqb}
use Rattle.sentence.specs.Text.{ascii}
use Rattle.sentence.specs.Sentence.{members_below}
use Rattle.sentence_write.specs.Led.{list_text}
use Rattle.sentence_write.proofs.LedLaws.{ones-members, comma, first-lead, no-member, list-none, list-more, list-same, lead-size, list-size, list-agreed, agreed-none}
use mathlib.Core.List.{[], ◌∷◌}
use Rattle.octets.specs.Undivided.{Undivided}
use Rattle.sentence_write.proofs.members.put.Code.Mir.{function}
use Rattle.sentence_write.proofs.members.put.Goals as goal
use Rattle.sentence_write.proofs.members.put.Goals.{then-all-eq1, else-all-eq1, then-mask-i-eq1, else-mask-i-eq1}
use lib.Count.{ones}

pub undivided : Undivided ("sentence_words::Text::number" ∷ "sentence_words::Text::words" ∷ []) function
undivided = refl

pub returns-then-all-eq0-clause-list : goal.returns-then-all-eq0-clause-list
unfolding ascii
returns-then-all-eq0-clause-list c =
    let none = agreed-none c.args.mask (sym (ones-members c.args.mask (omega arith)) ∙ c.if-all-eq0.true) in
    c.words.ensures ∙ ap (λ (t : List ℕ). c.args.text.now ++ t) (sym none)

pub loop-i-init : goal.loop-i-init
unfolding ascii
loop-i-init c = record {
  text = rw (list-none (ones c.args.mask) c.args.mask) (sym (append-nil c.args.text.now));
  next = elim c.if-all-eq1.branch [
    | then-all-eq1 w ↦ rw (w.lead-is, first-lead (ones c.args.mask) c.args.mask, eq-eqb (ones c.args.mask) 1 w.if-all-eq1.true) refl
    | else-all-eq1 w ↦ rw (w.lead-is, first-lead (ones c.args.mask) c.args.mask, ne_eqb (ones c.args.mask) 1 w.if-all-eq1.false) refl
  ];
}

pub words-requires-then-mask-i-eq1 : goal.words-requires-then-mask-i-eq1
words-requires-then-mask-i-eq1 c =
    let all = ones c.args.mask in
    let i = c.loop-i.i in
    omega (
      arith,
      ap length c.loop-i.invariant.text,
      length-append c.args.text.now (list_text all i c.args.mask),
      list-size all i c.args.mask (omega arith),
      ap length c.loop-i.invariant.next,
      lead-size all (length (members_below i c.args.mask)),
    )

pub number-requires : goal.number-requires
number-requires c =
    let all = ones c.args.mask in
    let i = c.loop-i.i in
    omega (
      arith,
      ap length c.words-then-mask-i-eq1.ensures,
      length-append c.loop-i.text c.loop-i.lead.now,
      ap length c.loop-i.invariant.text,
      length-append c.args.text.now (list_text all i c.args.mask),
      list-size all i c.args.mask (omega arith),
      ap length c.loop-i.invariant.next,
      lead-size all (length (members_below i c.args.mask)),
    )

pub loop-i-preserved : goal.loop-i-preserved
unfolding ascii
loop-i-preserved c =
    let all = ones c.args.mask in
    let mask = c.args.mask in
    let i = c.loop-i.i in
    elim c.if-mask-i-eq1.branch [
      | then-mask-i-eq1 w ↦
          let set : mask / 2 ^ i % 2 ≡ 1 = sym (and_mask (mask / 2 ^ i) 1) ∙ w.if-mask-i-eq1.true in
          record {
            text = rw (w.text-is, w.number.ensures.digits, w.words-then-mask-i-eq1.ensures, c.loop-i.invariant.text, c.loop-i.invariant.next, list-more all i mask set) (simp append_assoc);
            next = rw (w.lead-is, comma all mask i set) refl;
          }
      | else-mask-i-eq1 w ↦
          let unset : mask / 2 ^ i % 2 ≢ 1 = λ e. w.if-mask-i-eq1.false (and_mask (mask / 2 ^ i) 1 ∙ e) in
          record {
            text = rw (w.text-is, list-same all i mask unset) c.loop-i.invariant.text;
            next = rw (w.lead-is, no-member mask i unset) c.loop-i.invariant.next;
          }
    ]

pub returns : goal.returns
returns c =
    let all = ones c.args.mask in
    let i = c.loop-i.i in
    let t = list_text all i c.args.mask in
    let e : i ≡ 32 = omega arith in
    let last = ap (λ (k : ℕ). list_text all k c.args.mask) e ∙ list-agreed all c.args.mask (ones-members c.args.mask (omega arith)) c.if-all-eq0.false in
    record {
      list = c.loop-i.invariant.text ∙ ap (λ (s : List ℕ). c.args.text.now ++ s) last;
      short = omega (arith, ap length c.loop-i.invariant.text, length-append c.args.text.now t, list-size all i c.args.mask (omega arith));
    }
