-- The bytes written so far, in the buffer that holds them.
use Rattle.std.proofs.Common.{◌≡◌, ℕ, ◌+◌, ◌-◌, ◌≤◌, replicate, ap₂, List, ◌++◌, length, take, drop, sym, ap, ◌∙◌, arith, length-append}
use Rattle.std.proofs.Math.Seq.{take-append_seam, take-append-add, drop-append_seam}
use Rattle.std.proofs.lemmas.List.{length-take-le, take-append-drop, take-replicate, drop-replicate, drop-drop}
use Rattle.octets.specs.Octets.{splice, zeros}
use Rattle.sentence.specs.Sentence.{padded}
use Rattle.octets.proofs.Parts.{splice_nested}

module _ (l t : List ℕ) (k : ℕ) (here : k ≤ length l) (so_far : take k l ≡ t) where
  pub length-so_far : length t ≡ k
  length-so_far = ap length (sym so_far) ∙ length-take-le k l here

  -- x is written behind them
  pub then : (x : List ℕ) → take (k + length x) (splice l k x) ≡ t ++ x
  then x =
      let n : k + length x ≡ length (take k l ++ x) = omega (arith, length-append (take k l) x, length-take-le k l here) in
      let y = take k l ++ x in
      let rest = drop (k + length x) l in
      ap (take (k + length x)) (splice_nested l k x) ∙ ap (λ (j : ℕ). take j (y ++ rest)) n ∙ take-append_seam y rest ∙ ap (λ (s : List ℕ). s ++ x) so_far

  -- and zeros stay behind it
  pub zeros-behind : (n : ℕ) → drop k l ≡ zeros (n - k) → (x : List ℕ) → k + length x ≤ length l → drop (k + length x) (splice l k x) ≡ zeros (n - (k + length x))
  unfolding zeros
  zeros-behind n e x room =
      let y = take k l ++ x in
      let rest = drop (k + length x) l in
      let j : k + length x ≡ length y = omega (arith, length-append (take k l) x, length-take-le k l here) in
      let m : n - k - length x ≡ n - (k + length x) = omega arith in
      let behind : drop (k + length x) (splice l k x) ≡ rest =
      ap (drop (k + length x)) (splice_nested l k x) ∙ ap (λ (i : ℕ). drop i (y ++ rest)) j ∙ drop-append_seam y rest
      in
      let zero : drop (length x) (drop k l) ≡ zeros (n - k - length x) = ap (drop (length x)) e ∙ drop-replicate (length x) (n - k) 0 in
      behind ∙ sym (drop-drop (length x) k l) ∙ zero ∙ ap zeros m

-- the bytes and the zeros behind them, up to a sentence's size
pub padded-take : (l t : List ℕ) (k : ℕ) → take k l ≡ t → drop k l ≡ zeros (248 - k) → k ≤ 200 → length t ≡ k → take 200 l ≡ padded t
unfolding padded zeros
padded-take l t k e z h n =
    let whole : l ≡ t ++ replicate (248 - k) 0 = sym (take-append-drop k l) ∙ ap₂ {C = List ℕ} (λ (a b : List ℕ). a ++ b) e z in
    let p : 200 ≡ length t + (200 - length t) = omega arith in
    ap (take 200) whole ∙ ap (λ (i : ℕ). take i (t ++ replicate (248 - k) 0)) p ∙ take-append-add t (replicate (248 - k) 0) (200 - length t)
    ∙ ap (λ (r : List ℕ). t ++ r) (take-replicate (200 - length t) (248 - k) 0 (omega arith))
