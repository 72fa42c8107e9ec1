-- `long_script::main` meets its contract.
use mathlib.Core.List.{[], ◌∷◌}
use mathlib.Core.Path.{refl}
use Rattle.octets.specs.Undivided.{Undivided}
use Rattle.long_script.proofs.main.Code.Mir.{function}

pub undivided : Undivided ("core::rt::LibcRuntime::stderr" ∷ "core::rt::LibcRuntime::stdin" ∷ "core::rt::LibcRuntime::stdout" ∷ "script_run::run" ∷ "std::io::stdio::StderrWrite::write" ∷ "std::io::stdio::StderrWrite::flush" ∷ "std::io::stdio::StderrWrite::write_all" ∷ "std::io::stdio::StdinRead::read" ∷ "std::io::stdio::StdinRead::read_exact" ∷ "std::io::stdio::StdoutWrite::write" ∷ "std::io::stdio::StdoutWrite::flush" ∷ "std::io::stdio::StdoutWrite::write_all" ∷ []) function
undivided = refl
