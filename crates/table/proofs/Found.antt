-- What the walks and the check answer, by its numbers.
use Rattle.std.proofs.Common.{ℕ, ◌≡◌, Option, Some, Result, Ok, ap}
use Rattle.refusal.specs.declared.Refusal.{Refusal}
use Rattle.table.specs.declared.Met.{Met}
use Rattle.table.specs.declared.Holding.{Holding}
use Rattle.table.specs.declared.Whole.{Whole}

abbrev pub Walked : Type 0
Walked = Option Met

abbrev pub Held : Type 0
Held = Option Holding

abbrev pub Checked : Type 0
Checked = Result Whole Refusal

abbrev pub met_of : ℕ → ℕ → Walked
met_of count last = Some (record { count = count; last = last })

abbrev pub holding_of : ℕ → ℕ → ℕ → Held
holding_of held lack others = Some (record { held = held; lack = lack; others = others })

abbrev pub found_whole : ℕ → ℕ → ℕ → Checked
found_whole free last others = Ok (record { free = free; last = last; others = others })

-- one answer has one reading

pub met-same : (m k : Met) → Some m ≡ Some k → (m.count ≡ k.count) × (m.last ≡ k.last)
met-same m k e = let h : m ≡ k = cc in (ap (λ (x : Met). x.count) h, ap (λ (x : Met). x.last) h)

pub holding-same : (m k : Holding) → Some m ≡ Some k → (m.held ≡ k.held) × (m.lack ≡ k.lack) × (m.others ≡ k.others)
holding-same m k e = let h : m ≡ k = cc in (ap (λ (x : Holding). x.held) h, ap (λ (x : Holding). x.lack) h, ap (λ (x : Holding). x.others) h)

pub whole-same : (m k : Whole) → ◌≡◌ {A = Checked} (Ok m) (Ok k) → (m.free ≡ k.free) × (m.last ≡ k.last) × (m.others ≡ k.others)
whole-same m k e = let h : m ≡ k = cc in (ap (λ (x : Whole). x.free) h, ap (λ (x : Whole). x.last) h, ap (λ (x : Whole). x.others) h)
