-- What one more entry adds to the lists of a day's rules.
use Rattle.std.proofs.Common.{◌≡◌, List, [], ◌∷◌, ◌++◌, Option, ap, ◌∙◌, sym}
use Rattle.std.specs.Prelude.{option_to_list}
use Rattle.std.specs.List.{filter_map}
use Rattle.std.proofs.lemmas.List.Elements.{filter_map-append}
use Rattle.std.proofs.lemmas.List.Sums.{fold_push}
use Rattle.decision_journal.specs.declared.entries.Entry.{Entry}
use Rattle.day_report.specs.Decisions.{decision_of, load_of, moment_after, price_change_of, refusal_of}
use Rattle.day_report.specs.Rulings.{ListsRulings}
use Rattle.day_report.specs.declared.rulings.Rulings.{Rulings}
use Rattle.day_report.proofs.OneMore.{cons-nil, loads-push}

-- If a list has what `f` finds in some entries, and what it finds in one more is added, the list has what `f` finds in
-- all of them.
found-more : {A : Type 0} (f : Entry → Option A) (old new : List A) (entries : List Entry) (e : Entry) → new ≡ old ++ option_to_list (f e)
    → old ≡ filter_map f entries → new ≡ filter_map f (entries ++ e ∷ [])
found-more f old new entries e added is =
    added ∙ ap (λ xs. xs ++ option_to_list (f e)) is ∙ ap (λ xs. filter_map f entries ++ xs) (sym (cons-nil (f e)))
    ∙ sym (filter_map-append f entries (e ∷ []))

pub listed-more : (old new : Rulings) (entries : List Entry) (e : Entry) → ListsRulings old entries
    → new.decisions.items ≡ old.decisions.items ++ option_to_list (decision_of e)
    → new.refusals.items ≡ old.refusals.items ++ option_to_list (refusal_of e)
    → new.prices.items ≡ old.prices.items ++ option_to_list (price_change_of e)
    → new.loads.items ≡ old.loads.items ++ option_to_list (load_of old.moment e) → new.moment ≡ moment_after old.moment e
    → ListsRulings new (entries ++ e ∷ [])
listed-more old new entries e h decisions refusals prices load moment = record {
  decisions = found-more decision_of old.decisions.items new.decisions.items entries e decisions h.decisions;
  refusals = found-more refusal_of old.refusals.items new.refusals.items entries e refusals h.refusals;
  prices = found-more price_change_of old.prices.items new.prices.items entries e prices h.prices;
  loads = load ∙ (λ i. h.loads i ++ option_to_list (load_of (h.moment i) e)) ∙ sym (loads-push 0 entries e);
  moment = moment ∙ ap (λ m. moment_after m e) h.moment ∙ sym (fold_push moment_after 0 entries e);
}
