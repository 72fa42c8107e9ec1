-- Request [5]: "An append or advance that 7, 1, 2, 3 and 4 let pass".
use Rattle.std.specs.Prelude.{◌<◌, ◌≡◌, true, false, List, ℕ}
use Rattle.layout.specs.Layout.{logs_of, read_table}
use Rattle.table.specs.Whole.{whole}
use Rattle.a2m.specs.Call.{Call, log_of}
use Rattle.a2m.specs.ImageCalls.{row_in, wrong_length, misplaced, spent}

pub record Passes (b : List ℕ) (call : Call) : Type 0 where
  pub sized : wrong_length call ≡ false
  pub whole : whole b ≡ true
  pub log : log_of call < logs_of b
  pub position : misplaced (row_in (read_table b) (log_of call)) call ≡ false
  pub room : spent (row_in (read_table b) (log_of call)) call ≡ false
