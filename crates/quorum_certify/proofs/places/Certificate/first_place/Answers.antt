-- `quorum_certify::places::Certificate::first_place` meets its contract.
use Rattle.std.proofs.Common.{◌≡◌, ℕ, suc, ◌+◌, ◌-◌, ◌<◌, List, length, sym, ap, ◌∙◌, add-one, arith, Option}
use Rattle.std.specs.List.{concat}
use Rattle.quorum.specs.Tally.{first_in, or_else, tried_at}
use Rattle.quorum.proofs.Tallies.{first_step, first-none}
use Rattle.quorum_certify.proofs.places.Certificate.first_place.Goals as goal

-- one place of the search
step : (t : List (Option ℕ)) (cert : List ℕ) (need n p : ℕ) {r : Option ℕ} → p < n → r ≡ tried_at t cert need n p
    → first_in t cert need n (n - p) p ≡ or_else r p (first_in t cert need n (n - (p + 1)) (p + 1))
step t cert need n p {r} h e =
    let z : n - p ≡ suc (n - (p + 1)) = omega arith in
    ap (λ (j : ℕ). first_in t cert need n j p) z ∙ first_step t cert need n p (n - (p + 1))
    ∙ ap (λ (o : Option ℕ). or_else o p (first_in t cert need n (n - (p + 1)) (suc p))) (sym e)
    ∙ ap (λ (q : ℕ). or_else r p (first_in t cert need n (n - (p + 1)) q)) (sym (add-one p))

pub returns-in-Some : goal.returns-in-Some
returns-in-Some c =
    let n = length c.args.self.receipts.now in
    sym (c.loop-place.invariant ∙ step c.args.self.members.now (concat c.args.self.receipts.now) c.args.need n c.loop-place.place (omega arith) c.try_place.ensures
    ∙ ap (λ (o : Option ℕ). or_else o c.loop-place.place (first_in c.args.self.members.now (concat c.args.self.receipts.now) c.args.need n (n - (c.loop-place.place + 1)) (c.loop-place.place + 1))) c.in-Some.is)

pub loop-place-preserved : goal.loop-place-preserved
loop-place-preserved c =
    let n = length c.args.self.receipts.now in
    c.loop-place.invariant ∙ step c.args.self.members.now (concat c.args.self.receipts.now) c.args.need n c.loop-place.place (omega arith) c.try_place.ensures
    ∙ ap (λ (o : Option ℕ). or_else o c.loop-place.place (first_in c.args.self.members.now (concat c.args.self.receipts.now) c.args.need n (n - (c.loop-place.place + 1)) (c.loop-place.place + 1))) c.in_default.is

pub returns : goal.returns
returns c =
    let n = length c.args.self.receipts.now in
    let z : n - c.loop-place.place ≡ 0 = omega arith in
    first-none c.args.self.members.now (concat c.args.self.receipts.now) c.args.need n c.loop-place.place
    ∙ sym (c.loop-place.invariant ∙ ap (λ (j : ℕ). first_in c.args.self.members.now (concat c.args.self.receipts.now) c.args.need n j c.loop-place.place) z)
