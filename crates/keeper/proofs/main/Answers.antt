-- `keeper::main` meets its contract.
use mathlib.Core.List.{[], ◌∷◌}
use mathlib.Core.Path.{refl}
use Rattle.octets.specs.Undivided.{Undivided}
use Rattle.keeper.proofs.main.Code.Mir.{function}

pub undivided : Undivided ("core::rt::LibcRuntime::stderr" ∷ "core::rt::LibcRuntime::stdin" ∷ "core::rt::LibcRuntime::stdout" ∷ "keeper::usage" ∷ "program::has_arguments" ∷ "script_run::run" ∷ "std::env::system::LibcRuntimeEnv::arg" ∷ "std::env::system::LibcRuntimeEnv::var" ∷ "std::env::system::LibcRuntimeEnv::var_at" ∷ "std::env::system::LibcRuntimeEnv::current_dir" ∷ "std::env::system::LibcRuntimeEnv::set_current_dir" ∷ "std::io::stdio::StderrWrite::write" ∷ "std::io::stdio::StderrWrite::flush" ∷ "std::io::stdio::StderrWrite::write_all" ∷ "std::io::stdio::StdinRead::read" ∷ "std::io::stdio::StdinRead::read_exact" ∷ "std::io::stdio::StdoutWrite::write" ∷ "std::io::stdio::StdoutWrite::flush" ∷ "std::io::stdio::StdoutWrite::write_all" ∷ []) function
undivided = refl
