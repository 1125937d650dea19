-- Definitions: the layouts of a context, the record of bytes that r1 points to when a program starts (source: this
-- project).
use Rattle.std.specs.Prelude.{ℕ, List}
use Rattle.bpf_model.specs.declared.context.Layout.{Layout}
use Rattle.bpf_model.specs.declared.context.Layout.TheVariants as layout
use Rattle.bpf_model.specs.declared.context.Context.{Context}
use Rattle.bpf_model.specs.declared.context.Context.TheVariants as context

-- the number of bytes of a context with this layout
abbrev pub context_len : Layout → ℕ
context_len layout.One = 64
context_len layout.Two = 80

abbrev pub layout_of : Context → Layout
layout_of (context.One bytes) = layout.One
layout_of (context.Two bytes) = layout.Two

abbrev pub bytes_of : Context → List ℕ
bytes_of (context.One bytes) = bytes
bytes_of (context.Two bytes) = bytes
