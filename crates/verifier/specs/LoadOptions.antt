-- Definitions: the options that a program is loaded with (source: this project).
use Rattle.std.specs.Prelude.{ℕ, List}
use Rattle.bpf_model.specs.Program.{ProgramText}
use Rattle.verifier.specs.declared.types.LoadOptions.{LoadOptions}

-- the load options of a program: the counters that it declares, and the layout of its contexts
abbrev pub options_of : ProgramText → LoadOptions
options_of p = record { mask = p.declared; layout = p.layout }

-- the program of these bytes, loaded with these options
abbrev pub loaded_on : List ℕ → LoadOptions → ProgramText
loaded_on bytes options = record { bytes = bytes; declared = options.mask; layout = options.layout }
