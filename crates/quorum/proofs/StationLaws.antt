-- No two verdicts on a certificate have one answer and one number of blocks.
use Prim.Native.Nat.{ℕ}
use native.Mathlib.Omega.{arith}
use mathlib.Core.Path.{◌≡◌, ap, ap₂}
use mathlib.Core.List.{List, []}
use Rattle.std.specs.Prelude.{Ok, Err}
use Rattle.refusal.proofs.NumberLaws.{number_of-injective}
use Rattle.refusal.specs.Answer.{Answer}
use Rattle.refusal.specs.declared.Refusal.{Refusal}
use Rattle.quorum.specs.Certificate.{Station, certified_values, station_answer, station_blocks}
use Rattle.quorum.specs.declared.Certified.{Certified}

made : ℕ → ℕ → Certified
made p m = record { place = p; mask = m }

certified-injective : (a b : Certified) → certified_values a ≡ certified_values b → a ≡ b
unfolding made
certified-injective a b h = let e : made a.place a.mask ≡ made b.place b.mask = cc in e

pub station-injective : (s t : Station) → station_answer s ≡ station_answer t → station_blocks s ≡ station_blocks t → s ≡ t
station-injective (Ok s) (Ok t) h k =
    let e = certified-injective s.value t.value (ap (λ (x : Answer). x.values) h) in
    ap₂ (λ (c : Certified) (n : ℕ). Ok (record { value = c; blocks = n })) e k
station-injective (Ok s) (Err t) h k =
    let l : ◌≡◌ {A = List ℕ} (certified_values s.value) [] = ap (λ (x : Answer). x.values) h in
    let z : ◌≡◌ {A = ℕ} 0 1 = cc in absurd (omega arith)
station-injective (Err s) (Ok t) h k =
    let l : ◌≡◌ {A = List ℕ} [] (certified_values t.value) = ap (λ (x : Answer). x.values) h in
    let z : ◌≡◌ {A = ℕ} 0 1 = cc in absurd (omega arith)
station-injective (Err s) (Err t) h k =
    ap₂ (λ (r : Refusal) (n : ℕ). Err (record { why = r; blocks = n })) (number_of-injective s.why t.why (ap (λ (x : Answer). x.number) h)) k
