use Rattle.std.proofs.Common.{Some, None, ap, ◌∙◌}
use Rattle.site_config.specs.Typed.{is_key_of}
use Rattle.site_config.proofs.Keys.{other_of_keys}
use Rattle.site_config.proofs.values.unknown_key.Goals as goal

pub returns-in-Some : goal.returns-in-Some
returns-in-Some c =
    ap Some c.as_str.ensures.value ∙ other_of_keys (is_key_of c.args.section) c.args.table.now (Some c.in-Some.key.now) c.in-Some.ensures

pub returns-in-None : goal.returns-in-None
returns-in-None c = other_of_keys (is_key_of c.args.section) c.args.table.now None c.in-None.ensures
