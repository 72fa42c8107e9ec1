-- `rush::main` meets its contract.
use Rattle.std.proofs.Common.{◌≡◌, ◌≤◌, length, refl, [], ◌∷◌, arith}
use Rattle.octets.specs.Undivided.{Undivided}
use Rattle.workload.specs.Text.{course}
use Rattle.workload.proofs.WholeRush.{begun-room}
use Rattle.rush.proofs.main.Code.Mir.{function}
use Rattle.rush.proofs.main.Goals as goal

pub undivided : Undivided ("core::rt::LibcRuntime::stderr" ∷ "core::rt::LibcRuntime::stdin" ∷ "core::rt::LibcRuntime::stdout" ∷ "program::fail" ∷ "program::has_arguments" ∷ "program::buffer" ∷ "program::read_full" ∷ "rush::send" ∷ "rush::usage" ∷ "std::env::system::LibcRuntimeEnv::arg" ∷ "std::env::system::LibcRuntimeEnv::var" ∷ "std::env::system::LibcRuntimeEnv::var_at" ∷ "std::env::system::LibcRuntimeEnv::current_dir" ∷ "std::env::system::LibcRuntimeEnv::set_current_dir" ∷ "std::io::stdio::StderrWrite::write" ∷ "std::io::stdio::StderrWrite::flush" ∷ "std::io::stdio::StderrWrite::write_all" ∷ "std::io::stdio::StdinRead::read" ∷ "std::io::stdio::StdinRead::read_exact" ∷ "std::io::stdio::StdoutWrite::write" ∷ "std::io::stdio::StdoutWrite::flush" ∷ "std::io::stdio::StdoutWrite::write_all" ∷ "workload_write::begin" ∷ []) function
undivided = refl

pub send-requires : goal.send-requires
send-requires c =
    let b = c.begin-first in
    let e : length b.new.out ≡ 65536 = omega (arith, b.auto.out, c.buffer-out.ensures) in
    let k : b.result.1 ≤ 22 = begun-room _ (course b.result.0 b.result.1) b.ensures.value in
    (omega arith, e)
