-- `line_fields::numbers` meets its contract.
use Rattle.std.proofs.Common.{◌≡◌, ◌⊎◌, ℕ, ◌+◌, ◌≤◌, ◌-◌, ◌<◌, List, [], ◌∷◌, Some, None, set, length, take, drop, get_or, inl, inr, refl, sym, ap, ◌∙◌, length-drop, arith}
use Rattle.std.proofs.Math.Seq.{take_all}
use Rattle.decimal.specs.Decimal.{number_of}
use Rattle.octets.specs.Octets.{zeros}
use Rattle.line.specs.Fields.{fields_of, numbers_of, up_to}
use Rattle.line.specs.Command.{count_of, padded}
use Rattle.line.proofs.FieldLaws.{Reading, field-part, last-field, more-fields, parts-cons, next-field, next-fields, reading-none, reading-bad, reading-all, reading-more, some_inj, none-some}
use Rattle.octets.specs.Undivided.{Undivided}
use Rattle.line_fields.proofs.numbers.Code.Mir.{function}
use Rattle.line_fields.proofs.numbers.Goals as goal
use Rattle.line_fields.proofs.numbers.Goals.{then-n-lt-KEPT, else-n-lt-KEPT}

pub undivided : Undivided ("decimal::read::parse" ∷ "line_fields::find" ∷ []) function
undivided = refl

-- all that stands behind a place
tail : (from : ℕ) (l : List ℕ) → take (length l - from) (drop from l) ≡ drop from l
tail from l = take_all (length l - from) (drop from l) (omega (arith, length-drop from l))

-- the next field, which ends at e
ahead : (fs : List (List ℕ)) (n : ℕ) (rest : List ℕ) → drop n fs ≡ fields_of rest → (n < length fs) × (up_to 44 rest ≡ get_or fs n (up_to 44 rest))
ahead fs n rest come = let p = parts-cons 44 rest in next-field fs n (up_to 44 rest) p.0 (come ∙ p.1)

pub loop-v-init : goal.loop-v-init
unfolding zeros
loop-v-init c = record {
  short = omega (arith, ap length (tail c.args.from c.args.s.now), length-drop c.args.from c.args.s.now);
  size = ap length c.requires.1;
  come = ap fields_of (sym (tail c.args.from c.args.s.now));
  reading = reading-none (fields_of (drop c.args.from c.args.s.now)) c.args.values.now c.requires.1;
}

bad : (fs : List (List ℕ)) (n e : ℕ) (values rest : List ℕ) → Reading fs n values → drop n fs ≡ fields_of rest → e ≡ length (up_to 44 rest) → number_of (take e rest) ≡ None → numbers_of fs ≡ None
bad fs n e values rest r come ends none =
    reading-bad fs n values r (up_to 44 rest) (ahead fs n rest come) (ap number_of (sym (field-part 44 rest e ends)) ∙ none)

pub returns-in_default-clause-value : goal.returns-in_default-clause-value
returns-in_default-clause-value c =
    sym (ap count_of (bad (fields_of (drop c.args.from c.args.s.now)) c.loop-v.n c.find-e.result c.loop-v.values c.loop-v.rest.now c.loop-v.invariant.reading c.loop-v.invariant.come c.find-e.ensures.0 (sym c.parse.ensures ∙ c.in_default.is)))

pub returns-in_default-clause-by_index : goal.returns-in_default-clause-by_index
returns-in_default-clause-by_index c ns e =
    absurd (none-some ns (sym (bad (fields_of (drop c.args.from c.args.s.now)) c.loop-v.n c.find-e.result c.loop-v.values c.loop-v.rest.now c.loop-v.invariant.reading c.loop-v.invariant.come c.find-e.ensures.0 (sym c.parse.ensures ∙ c.in_default.is)) ∙ e))

-- one more is read
more : (fs : List (List ℕ)) (n e : ℕ) (values rest : List ℕ) → Reading fs n values → drop n fs ≡ fields_of rest → e ≡ length (up_to 44 rest) → (v : ℕ) → number_of (take e rest) ≡ Some v → (values' : List ℕ) → ((n < 19) × (values' ≡ set values n v)) ⊎ ((19 ≤ n) × (values' ≡ values)) → Reading fs (n + 1) values'
more fs n e values rest r come ends v is values' stored =
    reading-more fs n values r (up_to 44 rest) (ahead fs n rest come) v (ap number_of (sym (field-part 44 rest e ends)) ∙ is) values' stored

-- it was the last
all : (fs : List (List ℕ)) (n e : ℕ) (rest : List ℕ) → drop n fs ≡ fields_of rest → e ≡ length (up_to 44 rest) → e ≡ length rest → n + 1 ≡ length fs
all fs n e rest come ends last =
    let p : drop n fs ≡ up_to 44 rest ∷ [] = come ∙ last-field 44 rest e ends last in
    omega (arith, ap length p, length-drop n fs)

pub returns-then-e-rest-clause-value : goal.returns-then-e-rest-clause-value
returns-then-e-rest-clause-value c =
    let fs : List (List ℕ) = fields_of (drop c.args.from c.args.s.now) in
    let i = c.loop-v.invariant in
    let r = more fs c.loop-v.n c.find-e.result c.loop-v.values c.loop-v.rest.now i.reading i.come c.find-e.ensures.0 c.in-Some.v (sym c.parse.ensures ∙ c.in-Some.is) c.if-n-lt-KEPT.values
    (elim c.if-n-lt-KEPT.branch [ then-n-lt-KEPT w ↦ inl (omega (arith, w.if-n-lt-KEPT.true), w.values-is) | else-n-lt-KEPT w ↦ inr (omega (arith, w.if-n-lt-KEPT.false), w.values-is) ]) in
    let h = reading-all fs (c.loop-v.n + 1) c.if-n-lt-KEPT.values r (all fs c.loop-v.n c.find-e.result c.loop-v.rest.now i.come c.find-e.ensures.0 c.if-e-rest.true) in
    ap Some (sym r.size) ∙ sym (ap count_of h)

pub returns-then-e-rest-clause-by_index : goal.returns-then-e-rest-clause-by_index
returns-then-e-rest-clause-by_index c ns e =
    let fs : List (List ℕ) = fields_of (drop c.args.from c.args.s.now) in
    let i = c.loop-v.invariant in
    let r = more fs c.loop-v.n c.find-e.result c.loop-v.values c.loop-v.rest.now i.reading i.come c.find-e.ensures.0 c.in-Some.v (sym c.parse.ensures ∙ c.in-Some.is) c.if-n-lt-KEPT.values
    (elim c.if-n-lt-KEPT.branch [ then-n-lt-KEPT w ↦ inl (omega (arith, w.if-n-lt-KEPT.true), w.values-is) | else-n-lt-KEPT w ↦ inr (omega (arith, w.if-n-lt-KEPT.false), w.values-is) ]) in
    let h = reading-all fs (c.loop-v.n + 1) c.if-n-lt-KEPT.values r (all fs c.loop-v.n c.find-e.result c.loop-v.rest.now i.come c.find-e.ensures.0 c.if-e-rest.true) in
    r.kept ∙ ap (padded 19) (some_inj r.ns ns (sym h ∙ e))

pub loop-v-preserved : goal.loop-v-preserved
loop-v-preserved c =
    let fs : List (List ℕ) = fields_of (drop c.args.from c.args.s.now) in
    let i = c.loop-v.invariant in
    let l : List ℕ = c.loop-v.rest.now in
    let left : take (length l - (c.find-e.result + 1)) (drop (c.find-e.result + 1) l) ≡ drop (c.find-e.result + 1) l = tail (c.find-e.result + 1) l in
    let come : drop c.loop-v.n fs ≡ up_to 44 l ∷ fields_of (drop (c.find-e.result + 1) l) = i.come ∙ more-fields 44 l c.find-e.result c.find-e.ensures.0 (omega (arith, c.if-e-rest.false, c.find-e.ensures.1)) in
    record {
      short = omega (arith, i.short, ap length left, length-drop (c.find-e.result + 1) l, c.if-e-rest.false, c.find-e.ensures.1);
      size = omega (arith, c.if-n-lt-KEPT.auto.values, i.size);
      come = next-fields fs c.loop-v.n (up_to 44 l) (fields_of (drop (c.find-e.result + 1) l)) come ∙ ap fields_of (sym left);
      reading = more fs c.loop-v.n c.find-e.result c.loop-v.values l i.reading i.come c.find-e.ensures.0 c.in-Some.v (sym c.parse.ensures ∙ c.in-Some.is) c.if-n-lt-KEPT.values
          (elim c.if-n-lt-KEPT.branch [ then-n-lt-KEPT w ↦ inl (omega (arith, w.if-n-lt-KEPT.true), w.values-is) | else-n-lt-KEPT w ↦ inr (omega (arith, w.if-n-lt-KEPT.false), w.values-is) ]);
    }
