-- What C gets of a certificate's verdict: its number, the blocks, and the results of one that stands.
use mathlib.Core.Path.{◌≡◌, refl, sym, ap, subst, ◌∙◌}
use mathlib.Core.Bool.{Bool, cond}
use mathlib.Core.List.{[], ◌∷◌}
use Prim.Native.Nat.{ℕ}
use lib.Dec.{eqb}
use lib.ListN.{get_or}
use Rattle.std.specs.Prelude.{Ok, Err}
use Rattle.refusal.specs.Number.{number_of}
use Rattle.refusal.specs.Answer.{Answer, answer}
use Rattle.refusal.specs.declared.Refusal.{Refusal}
use Rattle.quorum.specs.Certificate.{Station, station_answer, station_blocks}
use Rattle.capi_results.specs.Results.{place_after, mask_after}
use Rattle.capi_results.proofs.Done.{not_done}

-- what a certificate gives: its number n, and the results p and m
abbrev pub Certifies : (n p m place mask : ℕ) → Answer → Type 0
Certifies n p m place mask a = (n ≡ a.number) × ((p ≡ place_after a place) × (m ≡ mask_after a mask))

pub certified : (p m place mask : ℕ) → Certifies 0 p m place mask (answer 0 (p ∷ m ∷ []))
unfolding place_after mask_after
certified p m place mask = (refl, (refl, refl))

pub not-certified : (why : Refusal) (place mask : ℕ) → Certifies (number_of why) place mask place mask (answer (number_of why) [])
unfolding place_after mask_after
not-certified why place mask = (refl, (sym (ap (λ (t : Bool). cond t (get_or {A = ℕ} [] 0 0) place) (not_done why)), sym (ap (λ (t : Bool). cond t (get_or {A = ℕ} [] 1 0) mask) (not_done why))))

-- the same with the blocks b
abbrev pub CertifiesWithBlocks : (n b p m place mask : ℕ) → Answer → ℕ → Type 0
CertifiesWithBlocks n b p m place mask a k = (n ≡ a.number) × ((b ≡ k) × ((p ≡ place_after a place) × (m ≡ mask_after a mask)))

module _ (v : Station) (place mask : ℕ) where
  pub stands : (p m b : ℕ) → v ≡ Ok (record { value = record { place = p; mask = m }; blocks = b }) → CertifiesWithBlocks 0 b p m place mask (station_answer v) (station_blocks v)
  unfolding place_after mask_after
  stands p m b e = subst (λ (x : Station). CertifiesWithBlocks 0 b p m place mask (station_answer x) (station_blocks x)) (sym e) (refl, (refl, (refl, refl)))

  pub refused-certificate : {n b : ℕ} (why : Refusal) (k : ℕ) → v ≡ Err (record { why = why; blocks = k }) → (n ≡ number_of why) × (b ≡ k) → CertifiesWithBlocks n b place mask place mask (station_answer v) (station_blocks v)
  unfolding place_after mask_after
  refused-certificate {n} {b} why k e h =
      let kept : (x old : ℕ) → old ≡ cond (eqb (number_of why) 0) x old = λ x old. sym (ap (λ (t : Bool). cond t x old) (not_done why)) in
      subst (λ (x : Station). CertifiesWithBlocks n b place mask place mask (station_answer x) (station_blocks x)) (sym e) (h.0, (h.1, (kept 0 place, kept 0 mask)))

-- the same of the answer and the blocks that the certificate's contract names
pub certificate-given : {n b p m j k : ℕ} {a s : Answer} (place mask : ℕ) → CertifiesWithBlocks n b p m place mask a j → (a ≡ s) → (j ≡ k) → CertifiesWithBlocks n b p m place mask s k
certificate-given place mask h e f = (
  h.0 ∙ ap (λ (x : Answer). x.number) e,
  (h.1.0 ∙ f, (h.1.1.0 ∙ ap (λ (x : Answer). place_after x place) e, h.1.1.1 ∙ ap (λ (x : Answer). mask_after x mask) e)),
)
