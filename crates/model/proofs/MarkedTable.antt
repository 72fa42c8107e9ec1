-- The marked set, answered by a formatted table's bytes through `table_step`, which the contracts cite.
use Prim.Native.Nat.{ℕ}
use mathlib.Core.Path.{◌≡◌, refl, ap, ◌∙◌}
use mathlib.Core.List.{List, [], ◌∷◌, map}
use mathlib.Core.Option.{none}
use lib.ListN.{length}
use lib.Dec.{lit<}
use Rattle.octets.specs.Octets.{zeros}
use Rattle.layout.specs.Image.{Image}
use Rattle.layout.specs.Layout.{read_table}
use Rattle.table.specs.Free.{write_table}
use Rattle.table.proofs.WholeLaws.{read-write}
use Rattle.table.specs.Format.{formatted, format_refusal, format_bytes}
use Rattle.a2m.specs.Call.{Call, AllWide, log_of, Effect, numbered}
use Rattle.a2m.specs.ImageCalls.{row_in, image_step}
use Rattle.a2m.specs.TableCalls.{table_step}
use Rattle.a2m.proofs.Written.{step-written}
use Rattle.model.specs.Model.{rules, Model, new_model, model_step}
use Rattle.model.specs.Marked.{Line, line, columns_of, marked, low_in, high_in, answered}
use Rattle.model.proofs.TableClaim.{Stands, in-range, step_stands}
use Rattle.model.proofs.MarkedSet.{marked-image}
use Rattle.model.proofs.Demand3.{stands, bytes-are}

calls_of : List Line → List Call
calls_of ls = map (λ (l : Line). l.call) ls

abbrev image_lines : Image → List Line → List Line
image_lines m ls = answered image_step (λ (i : Image) (g : ℕ). (row_in i g).low) (λ (i : Image) (g : ℕ). (row_in i g).high) m ls

-- the lines that the bytes of an image give are those that the image gives
lines-written : (m : Image) (b : Model) → Stands m b → (ls : List Line) → AllWide (calls_of ls) → answered table_step low_in high_in (write_table m) ls ≡ image_lines m ls
unfolding answered calls_of
lines-written m b s [] w = refl
lines-written m b s (l ∷ ls) w =
    let o = image_step m l.call in
    let g = log_of l.call in
    let e = step-written m s.fits (in-range m b s) l.call in
    let t = step_stands m b s l.call (w.0, tt) in
    let back : read_table (write_table o.state) ≡ o.state = read-write o.state t.fits in
    let reply : (table_step (write_table m) l.call).reply ≡ o.reply = ap (λ (x : Effect (List ℕ)). x.reply) e in
    let low : low_in (table_step (write_table m) l.call).state g ≡ (row_in o.state g).low = ap (λ (x : Effect (List ℕ)). low_in x.state g) e ∙ ap (λ (i : Image). (row_in i g).low) back in
    let high : high_in (table_step (write_table m) l.call).state g ≡ (row_in o.state g).high = ap (λ (x : Effect (List ℕ)). high_in x.state g) e ∙ ap (λ (i : Image). (row_in i g).high) back in
    let rest : answered table_step low_in high_in (table_step (write_table m) l.call).state ls ≡ image_lines o.state ls =
    ap (λ (x : Effect (List ℕ)). answered table_step low_in high_in x.state ls) e ∙ lines-written o.state (model_step rules b l.call).state t ls w.1 in
    λ i. line l.number l.call (numbered (reply i)).number (columns_of (reply i)) (low i) (high i) ∷ rest i

wide : AllWide (calls_of marked)
unfolding calls_of marked
wide = (tt, (tt, (lit< tt, (tt, (lit< tt, (lit< tt, (tt, (lit< tt, (lit< tt, (tt, (tt, tt)))))))))))

-- after `format,2,3,7,0,0` with a zero key, in any buffer of that size
pub marked-table : (lent : List ℕ) → format_refusal (length lent) 2 3 (length (zeros 32)) (0 ∷ 0 ∷ []) ≡ none → answered table_step low_in high_in (format_bytes lent 2 3 7 (zeros 32) (0 ∷ 0 ∷ [])) marked ≡ marked
marked-table lent h =
    rw (bytes-are lent 2 3 7 (zeros 32) (0 ∷ 0 ∷ []) (lit< tt) h)
    (lines-written (formatted 3 7 (zeros 32) (0 ∷ 0 ∷ [])) (new_model 3 7 (zeros 32) (0 ∷ 0 ∷ [])) (stands lent 2 3 7 (zeros 32) (0 ∷ 0 ∷ []) (lit< tt) h) marked wide ∙ marked-image)
