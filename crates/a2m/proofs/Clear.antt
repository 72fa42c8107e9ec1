-- What an accepted call passed: none of its faults was found.
use mathlib.Core.Path.{◌≡◌}
use mathlib.Core.Bool.{Bool, false}
use mathlib.Core.Option.{none}
use lib.ListN.{length}
use lib.Dec.{leb}
use Rattle.refusal.specs.Order.{first_fault}
use Rattle.refusal.proofs.OrderLaws.{peel}
use Rattle.layout.specs.Image.{Image}
use Rattle.a2m.specs.Call.{Call, log_of}
use Rattle.a2m.specs.ImageCalls.{row_in, wrong_length, misplaced, spent, full, promised, faults}

pub record Clear (torn : Bool) (m : Image) (call : Call) : Type 0 where
  pub sized : wrong_length call ≡ false
  pub whole : torn ≡ false
  pub log : leb (length m.rows) (log_of call) ≡ false
  pub position : misplaced (row_in m (log_of call)) call ≡ false
  pub room : spent (row_in m (log_of call)) call ≡ false
  pub free : full m call ≡ false
  pub unpromised : promised m call ≡ false

pub clear : (torn : Bool) (m : Image) (call : Call) → first_fault (faults torn m call) ≡ none → Clear torn m call
unfolding faults
clear torn m call h =
    let r = row_in m (log_of call) in
    let p7 = peel 7 (wrong_length call) _ h in
    let p1 = peel 1 torn _ p7.1 in
    let p2 = peel 2 (leb (length m.rows) (log_of call)) _ p1.1 in
    let p3 = peel 3 (misplaced r call) _ p2.1 in
    let p4 = peel 4 (spent r call) _ p3.1 in
    let p5 = peel 5 (full m call) _ p4.1 in
    let p16 = peel 16 (promised m call) _ p5.1 in
    record { sized = p7.0; whole = p1.0; log = p2.0; position = p3.0; room = p4.0; free = p5.0; unpromised = p16.0 }
