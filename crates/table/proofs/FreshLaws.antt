-- Fresh rows.
use Rattle.std.proofs.Common.{◌≡◌, ◌∙◌, Bool, true, false, ◌&&◌, refl, ap, nat_eq, eq-eqb, eqb-true}
use Rattle.layout.specs.declared.Row.{Row}
use Rattle.layout.specs.Image.{fresh_row}
use Rattle.layout.proofs.TestLaws.{and_split}
use Rattle.table.specs.WholeImage.{fresh}

flat : (a b c d : Bool) {e : Bool} → e ≡ true → a && (b && (c && (d && e))) ≡ a && b && c && d
flat false b c d h = refl
flat true false c d h = refl
flat true true false d h = refl
flat true true true false h = refl
flat true true true true h = h

module _ (r : Row) where
  -- the row is that of a log without entries, whatever its reserve
  pub fresh-same : {k : Row} → k ≡ fresh_row r.reserve
      → nat_eq r.low k.low && (nat_eq r.high k.high && (nat_eq r.first k.first && (nat_eq r.last k.last && nat_eq r.reserve k.reserve))) ≡ fresh r
  unfolding fresh
  fresh-same e =
      ap (λ (k : Row). nat_eq r.low k.low && (nat_eq r.high k.high && (nat_eq r.first k.first && (nat_eq r.last k.last && nat_eq r.reserve k.reserve)))) e
      ∙ flat (nat_eq r.low 1) (nat_eq r.high 0) (nat_eq r.first 0) (nat_eq r.last 0) (eq-eqb r.reserve r.reserve refl)

  -- a fresh row names no slot
  pub fresh-empty : fresh r ≡ true → (r.first ≡ 0) × (r.last ≡ 0)
  unfolding fresh
  fresh-empty e =
      let s = and_split (nat_eq r.low 1 && nat_eq r.high 0 && nat_eq r.first 0) (nat_eq r.last 0) e in
      let t = and_split (nat_eq r.low 1 && nat_eq r.high 0) (nat_eq r.first 0) s.0 in
      (eqb-true r.first 0 t.1, eqb-true r.last 0 s.1)
