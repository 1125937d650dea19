-- Definitions: whether an argument of a command line names standard input, and what messages call the file that an
-- argument names: "standard input", or the argument itself (source: this project).
use Rattle.std.specs.Prelude.{ℕ, List, codes, Bool, false, ◌&&◌, ◌||◌, Option, Some, None, bytes_eq, if◌then◌else◌}

-- whether an argument names standard input
abbrev pub is_input : List ℕ → Bool
is_input word = bytes_eq word (codes "-")

-- whether an argument is given and names standard input
abbrev pub may_be_input : Option (List ℕ) → Bool
may_be_input None = false
may_be_input (Some word) = is_input word

-- what messages call the file that an argument names: "standard input" if the argument is `-`, or else the argument
abbrev pub name_of : List ℕ → List ℕ
name_of word = if is_input word then codes "standard input" else word

-- Whether two or all three of a job's files are standard input. The arguments name the configuration, the opening (if
-- there is one), and the file that the job is about.
abbrev pub reads_twice : List ℕ → Option (List ℕ) → List ℕ → Bool
reads_twice config opening other =
    (is_input other && (is_input config || may_be_input opening)) || (is_input config && may_be_input opening)

-- Whether a rule's file is standard input, and so is another of the job's files: the one that the job is about, the
-- configuration, or the opening, if there is one.
abbrev pub reads_rule_twice : List ℕ → Option (List ℕ) → List ℕ → List ℕ → Bool
reads_rule_twice config opening other rule = is_input rule && (is_input other || (is_input config || may_be_input opening))
