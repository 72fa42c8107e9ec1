-- `script_pieces::held::Held::keep` meets its contract.
use Rattle.std.proofs.Common.{◌≡◌, ℕ, ◌+◌, ◌-◌, ◌≤◌, min, List, [], ◌∷◌, ◌++◌, length, take, drop, refl, sym, ap, ◌∙◌, arith}
use Rattle.std.proofs.Math.Seq.{length-take-le, take-append-add, take-append_seam}
use Rattle.octets.specs.Octets.{splice}
use Rattle.script.specs.Stream.{cut}
use Rattle.script.proofs.StreamLaws.{kept-bytes}
use Rattle.octets.specs.Undivided.{Undivided}
use Rattle.script_pieces.proofs.held.Held.keep.Code.Mir.{function}
use Rattle.script_pieces.proofs.held.Held.keep.Goals as goal
use Rattle.script_pieces.proofs.held.Held.keep.Goals.{then-part-room, else-part-room}

pub undivided : Undivided ("octets::put" ∷ []) function
undivided = refl

-- the front of a buffer that a part was written into, up to the part's end
front : (l x : List ℕ) (k n : ℕ) → k ≤ length l → length x ≡ n → take (k + n) (splice l k x) ≡ take k l ++ x
unfolding splice
front l x k n fits size =
    let z : length (take k l) ≡ k = length-take-le k l fits in
    ap (λ (m : ℕ). take (m + n) (take k l ++ (x ++ drop (k + length x) l))) (sym z)
    ∙ take-append-add (take k l) (x ++ drop (k + length x) l) n
    ∙ ap (λ (m : ℕ). take k l ++ take m (x ++ drop (k + length x) l)) (sym size)
    ∙ ap (λ (y : List ℕ). take k l ++ y) (take-append_seam x _)

pub returns-clause-kept : goal.returns-clause-kept
returns-clause-kept c =
    let l : List ℕ = c.self.inside.bytes in
    let k : ℕ = c.self.inside.kept in
    let n : ℕ = c.if-part-room.n in
    let p : List ℕ = c.args.part.now in
    let least : n ≡ min (length p) (201 - k) = elim c.if-part-room.branch [ then-part-room w ↦ omega (arith, w.n-is, w.if-part-room.true) | else-part-room w ↦ omega (arith, w.n-is, w.if-part-room.false) ] in
    let z : length (take k l) ≡ k = length-take-le k l (omega arith) in
    let size : length (take n p) ≡ n = length-take-le n p (omega (arith, least)) in
    ap (λ (x : List ℕ). take (k + n) x) c.put.ensures
    ∙ front l (take n p) k n (omega arith) size
    ∙ kept-bytes (take k l) p n (omega (arith, z)) (omega (arith, z, least))
    ∙ ap (λ (h : List ℕ). cut (h ++ p)) c.self.view_is
