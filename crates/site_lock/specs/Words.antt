-- Definitions: the words for why a forecourt wasn't closed (source: this project).
use Rattle.std.specs.Prelude.{ℕ, List, ◌++◌, codes}
use Rattle.std.specs.Fmt.{decimal}
use Rattle.site_lock.specs.declared.close.CloseRefusal.{CloseRefusal}
use Rattle.site_lock.specs.declared.close.CloseRefusal.TheVariants.{PassMissing, NotInHistory, OtherConfig}

abbrev pub close_refusal_text : CloseRefusal → List ℕ
close_refusal_text PassMissing = codes "the passes handed in aren't all of the site's, each once"
close_refusal_text (NotInHistory pass number) =
    codes "entry " ++ (decimal number ++ (codes " of the history isn't what pass " ++ (decimal pass ++ codes " was answered")))
close_refusal_text OtherConfig = codes "the site has another configuration"
