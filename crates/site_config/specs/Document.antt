-- Definitions: the TOML document in a configuration's bytes, and operations on results that are a value or a flaw.
use Rattle.std.specs.Prelude.{◌≡◌, ◌≢◌, ℕ, ◌+◌, List, [], ◌∷◌, ◌++◌, Bool, true, false, Option, Some, None, Result, Ok, Err, if◌then◌else◌}
use Rattle.std.specs.Str.{is_utf8}
use Rattle.toml.specs.Data.{Members}
use Rattle.toml.specs.Parse.{parse_document}
use Rattle.site_config.specs.declared.fault.ConfigFault.{ConfigFault}
use Rattle.site_config.specs.declared.fault.ConfigFault.TheVariants as fault
use Rattle.site_config.specs.declared.flaw.ConfigFlaw.{ConfigFlaw}
use Rattle.site_config.specs.declared.flaw.ConfigFlaw.TheVariants.{OutOfMemory}

infixl 10 ◌>>=◌
abbrev pub ◌>>=◌ : {A B : Type 0} → Result A ConfigFlaw → (A → Result B ConfigFlaw) → Result B ConfigFlaw
(Ok x) >>= f = f x
(Err e) >>= f = Err e

-- The value, or the flaw if there is no value.
abbrev pub or_flaw : {A : Type 0} → ConfigFlaw → Option A → Result A ConfigFlaw
or_flaw flaw (Some x) = Ok x
or_flaw flaw None = Err flaw

-- Ok if the condition holds, or else the flaw.
abbrev pub demand : ConfigFlaw → Bool → Result (Unit {0}) ConfigFlaw
demand flaw true = Ok tt
demand flaw false = Err flaw

-- Ok if the argument is None, or else the flaw in it.
abbrev pub without : Option ConfigFlaw → Result (Unit {0}) ConfigFlaw
without None = Ok tt
without (Some flaw) = Err flaw

-- The first of two optional flaws if it is Some, or else the second one.
abbrev pub first_of : Option ConfigFlaw → Option ConfigFlaw → Option ConfigFlaw
first_of (Some flaw) other = Some flaw
first_of None other = other

-- `Finds view call read`: `call`, which the code returned, agrees with `read`, which the definitions give:
-- - If `call` is a value, `read` is `view` of this value.
-- - If `call` is a flaw other than `OutOfMemory`, `read` is the same flaw.
-- - If `call` is the flaw `OutOfMemory`, nothing is claimed.
abbrev pub Finds : {X Y : Type 0} → (X → Y) → Result X ConfigFlaw → Result Y ConfigFlaw → Type 0
Finds view (Ok x) read = read ≡ Ok (view x)
Finds view (Err flaw) read = flaw ≢ OutOfMemory → read ≡ Err flaw

-- `Fails fault read`: `read` is this fault. If the fault is `OutOfMemory`, nothing is claimed.
abbrev pub Fails : {Y : Type 0} → ConfigFault → Result Y ConfigFault → Type 0
Fails fault.OutOfMemory read = Unit {0}
Fails f read = read ≡ Err f

-- `Gives view call read`: `call`, which the code returned, agrees with `read`, which the definitions give:
-- - If `call` is a value, `read` is `view` of this value.
-- - If `call` is a fault other than `OutOfMemory`, `read` is the same fault.
-- - If `call` is the fault `OutOfMemory`, nothing is claimed.
abbrev pub Gives : {X Y : Type 0} → (X → Y) → Result X ConfigFault → Result Y ConfigFault → Type 0
Gives view (Ok x) read = read ≡ Ok (view x)
Gives view (Err e) read = Fails e read

-- The TOML document in these bytes, or None if they aren't UTF-8 or aren't TOML (K1).
unfoldable pub document_of : List ℕ → Option Members
document_of bytes = if is_utf8 bytes then parse_document bytes else None

-- The items in `front`, followed by those in `rest`. If `rest` is a flaw, the result is this flaw.
abbrev pub with_front : {A : Type 0} → List A → Result (List A) ConfigFlaw → Result (List A) ConfigFlaw
with_front front rest = rest >>= (λ xs. Ok (front ++ xs))

-- Reads each item of a list with `one`. The first item has the place `place`, and each later one the next place. If an
-- item can't be read, the result is its flaw.
abbrev pub each_of : {A B : Type 0} → (ℕ → A → Result B ConfigFlaw) → ℕ → List A → Result (List B) ConfigFlaw
each_of one place [] = Ok []
each_of one place (x ∷ xs) = do
  y ← one place x
  ys ← each_of one (place + 1) xs
  Ok (y ∷ ys)
