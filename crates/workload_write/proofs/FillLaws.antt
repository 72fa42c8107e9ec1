-- The loop that fills a buffer with lines.
use Rattle.std.proofs.Common.{◌≡◌, ℕ, ◌+◌, ◌-◌, ◌≤◌, ◌<◌, ◌⊎◌, List, [], ◌∷◌, ◌++◌, length, refl, sym, ap, ap₂, ◌∙◌, arith, length-append}
use borrow.Author.Count.{below_more}
use Rattle.octets.specs.Octets.{splice}
use Rattle.octets.proofs.Parts.{splice-append, splice-nil}
use Rattle.workload.specs.declared.Draw.{Draw}
use Rattle.workload.specs.declared.Script.{Script}
use Rattle.workload.specs.Generator.{drawn, state_after, Draws}
use Rattle.workload.specs.Text.{draw_line, lines_text, course, Fills}
use Rattle.workload.proofs.TextLaws.{line-more, state-more, line-size}

-- s is left of the script s₀: the lines before it stand at the start, up to a place
pub record Filling (out₀ : List ℕ) (s₀ : Script) (out : List ℕ) (s : Script) (to : ℕ) : Type 0 where
  pub few : s.count ≤ s₀.count
  pub state : s.seed ≡ state_after s₀.seed (s₀.count - s.count)
  pub place : to ≡ length (lines_text s₀.seed (s₀.count - s.count))
  pub room : to ≤ length out₀
  pub text : out ≡ splice out₀ 0 (lines_text s₀.seed (s₀.count - s.count))
  pub each : (j : ℕ) → j < s₀.count - s.count → length (lines_text s₀.seed j) + 55 ≤ length out₀

no_lines : (x : ℕ) → lines_text x 0 ≡ []
unfolding lines_text
no_lines x = refl

no_steps : (x : ℕ) → state_after x 0 ≡ x
unfolding state_after
no_steps x = refl

pub filling-none : (out₀ : List ℕ) (s₀ : Script) → Filling out₀ s₀ out₀ s₀ 0
filling-none out₀ s₀ =
    let z : 0 ≡ s₀.count - s₀.count = omega arith in
    let e : [] ≡ lines_text s₀.seed (s₀.count - s₀.count) = sym (no_lines s₀.seed) ∙ ap (lines_text s₀.seed) z in
    record {
      few = omega arith;
      state = sym (no_steps s₀.seed) ∙ ap (state_after s₀.seed) z;
      place = ap length e;
      room = omega arith;
      text = sym (splice-nil out₀ 0) ∙ ap (splice out₀ 0) e;
      each = λ j h. absurd (omega arith);
    }

-- a drawn line takes at most 55 bytes
pub line-fits : (s t : Script) (d : Draw) → Draws s d t → length (draw_line d ++ (10 ∷ [])) ≤ 55
line-fits s t d draws = omega (arith, line-size d draws.ranged, length-append (draw_line d) (10 ∷ []))

module _ (out₀ : List ℕ) (s₀ : Script) (out : List ℕ) (s : Script) (to : ℕ) (f : Filling out₀ s₀ out s to) where
  -- a line more, of the call that is drawn
  pub filling-more : to + 55 ≤ length out₀ → (d : Draw) (t : Script) → Draws s d t → (to' : ℕ) (out' : List ℕ) → to' ≡ to + length (draw_line d ++ (10 ∷ []))
      → out' ≡ splice out to (draw_line d ++ (10 ∷ [])) → Filling out₀ s₀ out' t to'
  filling-more room d t draws to' out' p e =
      let x : ℕ = s₀.seed in
      let j : ℕ = s₀.count - s.count in
      let l : List ℕ = draw_line d ++ (10 ∷ []) in
      let z : j + 1 ≡ s₀.count - t.count = omega (arith, f.few, draws.count) in
      let q : to ≡ 0 + length (lines_text x j) = omega (arith, f.place) in
      let was : d ≡ (drawn (state_after x j)).draw = draws.draw ∙ ap (λ (y : ℕ). (drawn y).draw) f.state in
      let more : lines_text x j ++ l ≡ lines_text x (s₀.count - t.count) =
      ap (λ (c : Draw). lines_text x j ++ (draw_line c ++ (10 ∷ []))) was ∙ sym (line-more x j) ∙ ap (lines_text x) z
      in
      let size : length l ≤ 55 = line-fits s t d draws in
      record {
        few = omega (arith, f.few, draws.count);
        state = draws.seed ∙ ap (λ (y : ℕ). (drawn y).state) f.state ∙ sym (state-more x j) ∙ ap (state_after x) z;
        place = omega (arith, f.place, length-append (lines_text x j) l, ap length more);
        room = omega arith;
        text =
            e
            ∙ ap₂ (λ (y : List ℕ) (i : ℕ). splice y i l) f.text q
            ∙ splice-append out₀ 0 (lines_text x j) l (omega arith)
            ∙ ap (splice out₀ 0) more;
        each = rw (sym z) (below_more _ _ f.each (omega (arith, f.place)));
      }

  pub filled : (s.count ≡ 0) ⊎ (length out₀ < to + 55) → Fills out₀ s₀.seed s₀.count out (course s to)
  filled full = record { few = f.few; state = f.state; place = f.place; room = f.room; text = f.text; each = f.each; full = full }
