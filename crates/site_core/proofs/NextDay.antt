-- A list of entries is a legal history of the next day exactly if it could have followed the history of the day before,
-- with numbers raised by that history's length. This holds while both days together have at most 1,048,576 entries and
-- fewer than 4,096 versions.
use Rattle.std.proofs.Common.{◌≡◌, ◌+◌, ◌<◌, ◌≤◌, List, [], ◌∷◌, ◌++◌, length, map, refl, ap, ◌∙◌, sym, subst, arith, length-append}
use Rattle.std.specs.Prelude.{reverse}
use Rattle.std.proofs.lemmas.List.{reverse-append, length-reverse, length-map, map-append}
use Rattle.decision_journal.specs.declared.entries.Entry.{Entry}
use Rattle.site_core.specs.Limits.{IsConfig}
use Rattle.site_core.specs.State.{SiteState}
use Rattle.site_core.specs.History.{versions}
use Rattle.site_core.specs.Decide.{Effect}
use Rattle.site_core.specs.Step.{Step, effect, entry_of, entered_moment}
use Rattle.site_core.specs.Legal.{Legal}
use Rattle.site_core.specs.Site.{SiteValue, Upholds}
use Rattle.site_core.specs.Days.{next_day, with_number_raised, ClosingChangesOnlyNumbers}
use Rattle.site_core.proofs.Lawful.{legal-unique}
use Rattle.site_core.proofs.Days.{followed, versions-more, effect-followed}

length-followed : (site : SiteValue) (later : List Entry) → length (followed site later) ≡ length site.history + length later
length-followed site later =
    omega (
      arith,
      length-append (map (with_number_raised (length site.history)) later) (reverse site.history),
      length-map later (with_number_raised (length site.history)),
      length-reverse site.history,
    )

-- The number of the next entry after `later` on the next day, raised by the length of the site's history, is the number
-- of the next entry after the history of both days (`followed`).
numbers : (site : SiteValue) (later : List Entry) → length later + 1 + length site.history ≡ length (followed site later) + 1
numbers site later = let l = length-followed site later in omega arith

-- If the step after `later` on the next day makes the entry `e`, then the step after the history of both days
-- (`followed`) makes `e` with its number raised by the length of the site's history. Both days together must have fewer
-- than 4,096 versions.
step-on : (site : SiteValue) (later : List Entry) (before after : SiteState) (e : Entry) → IsConfig site.config
    → versions (reverse site.history) + versions later < 4096 → Step (next_day site) later before e.pass e.moment e.act e after
    → Step site.config (followed site later) before e.pass e.moment e.act (with_number_raised (length site.history) e) after
step-on site later before after e is few st =
    let same = effect-followed site later before e.moment e.act is few in
    let made : with_number_raised (length site.history) e ≡ with_number_raised (length site.history) (entry_of later e.pass e.moment e.act
    (effect (next_day site) later before e.moment e.act)) = ap (with_number_raised (length site.history)) st.enters in
    record {
      enters = made ∙ (λ i. record {
        number = numbers site later i;
        pass = e.pass;
        moment = entered_moment e.act e.moment;
        act = e.act;
        reply = (sym same i).reply;
        run = (sym same i).run;
      });
      leaves = st.leaves ∙ ap (λ (x : Effect). x.after) (sym same);
    }

-- The converse of `step-on`: if the step after the history of both days (`followed`) makes `e` with its number raised
-- by the length of the site's history, then the step after `later` on the next day makes `e`. Both days together must
-- have fewer than 4,096 versions.
step-back : (site : SiteValue) (later : List Entry) (before after : SiteState) (e : Entry) → IsConfig site.config
    → versions (reverse site.history) + versions later < 4096
    → Step site.config (followed site later) before e.pass e.moment e.act (with_number_raised (length site.history) e) after
    → Step (next_day site) later before e.pass e.moment e.act e after
step-back site later before after e is few st =
    let same = effect-followed site later before e.moment e.act is few in
    let number : e.number ≡ length later + 1 =
    (let n : e.number + length site.history ≡ length (followed site later) + 1 = ap (λ (x : Entry). x.number) st.enters in
    let m = numbers site later in
    omega arith) in
    let reply : e.reply ≡ (effect (next_day site) later before e.moment e.act).reply =
    ap (λ (x : Entry). x.reply) st.enters ∙ ap (λ (x : Effect). x.reply) same in
    let run : e.run ≡ (effect (next_day site) later before e.moment e.act).run =
    ap (λ (x : Entry). x.run) st.enters ∙ ap (λ (x : Effect). x.run) same in
    record {
      enters = λ i. record {
        number = number i;
        pass = (st.enters i).pass;
        moment = (st.enters i).moment;
        act = (st.enters i).act;
        reply = reply i;
        run = run i;
      };
      leaves = st.leaves ∙ ap (λ (x : Effect). x.after) same;
    }

-- If `later` is a legal history of the next day, then the history of both days together (`followed`) is legal for the
-- site, and leads to the same state. Both days together must have at most 1,048,576 entries and fewer than 4,096
-- versions.
goes-on : (site : SiteValue) (later : List Entry) (s : SiteState) → IsConfig site.config → Upholds site → length site.history + length later ≤ 1048576
    → versions (reverse site.history) + versions later < 4096 → Legal (next_day site) later s → Legal site.config (followed site later) s
goes-on site [] s is u room few l = subst (λ t. Legal site.config (reverse site.history) t) (sym l) u.legal
goes-on site (e ∷ later) s is u room few l =
    let fewer : versions (reverse site.history) + versions later < 4096 = omega (arith, versions-more e later) in
    let less : length (followed site later) < 1048576 = omega (arith, length-followed site later) in
    (l.0, goes-on site later l.0 is u (omega arith) fewer l.1, less, step-on site later l.0 s e is fewer l.3)

-- The converse of `goes-on`: if the history of both days together (`followed`) is legal for the site, then `later` is a
-- legal history of the next day, and leads to the same state. Both days together must have fewer than 4,096 versions.
comes-back : (site : SiteValue) (later : List Entry) (s : SiteState) → IsConfig site.config → Upholds site
    → versions (reverse site.history) + versions later < 4096 → Legal site.config (followed site later) s → Legal (next_day site) later s
comes-back site [] s is u few l = legal-unique site.config (reverse site.history) s site.state l u.legal
comes-back site (e ∷ later) s is u few l =
    let fewer : versions (reverse site.history) + versions later < 4096 = omega (arith, versions-more e later) in
    let long : length (followed site later) < 1048576 = l.2 in
    let less : length later < 1048576 = omega (arith, length-followed site later) in
    (l.0, comes-back site later l.0 is u fewer l.1, less, step-back site later l.0 s e is fewer l.3)

reverse-map : (f : Entry → Entry) (xs : List Entry) → reverse (map f xs) ≡ map f (reverse xs)
reverse-map f [] = refl
reverse-map f (x ∷ xs) =
    reverse-append (f x ∷ []) (map f xs)
    ∙ ap (λ ys. ys ++ f x ∷ []) (reverse-map f xs)
    ∙ sym (map-append f (reverse xs) (x ∷ []))
    ∙ ap (map f) (sym (reverse-append (x ∷ []) xs))

pub closing_changes_only_numbers : ClosingChangesOnlyNumbers
closing_changes_only_numbers site day state is u room few =
    let f : Entry → Entry = with_number_raised (length site.history) in
    let turned : reverse (site.history ++ map f day) ≡ followed site (reverse day) =
    reverse-append site.history (map f day) ∙ ap (λ xs. xs ++ reverse site.history) (reverse-map f day) in
    let fits : length site.history + length (reverse day) ≤ 1048576 = omega (arith, length-reverse day) in (
      λ l. subst (λ h. Legal site.config h state) (sym turned) (goes-on site (reverse day) state is u fits few l),
      λ l. comes-back site (reverse day) state is u few (subst (λ h. Legal site.config h state) turned l),
    )
