-- Definitions: no setting has this name.
use Rattle.std.specs.Prelude.{◌≢◌, List, [], ◌∷◌}
use Rattle.explaining.specs.declared.names.Name.{Name}
use Rattle.explaining.specs.declared.names.Setting.{Setting}

-- none of the settings has the name
abbrev pub HasNewName : List Setting → Name → Type 0
HasNewName [] name = Unit {0}
HasNewName (s ∷ rest) name = (s.name ≢ name) × HasNewName rest name
