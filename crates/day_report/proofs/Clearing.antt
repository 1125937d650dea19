-- What an entry of a legal history changed, and the sale that it made.
use Rattle.std.proofs.Common.{◌≡◌, ◌+◌, ℕ, true, false, List, [], ◌∷◌, Option, Some, None, refl, arith, ap, sym, subst, ◌∙◌, reverse, All}
use Rattle.std.specs.Prelude.{is_some, option_to_list, fold, unwrap_or}
use Rattle.std.proofs.lemmas.List.{reverse-append}
use Rattle.std.proofs.lemmas.List.Elements.{All-nil, All-cons}
use Rattle.std.proofs.lemmas.List.Sums.{fold_push}
use Rattle.fuelling_point.specs.Table.{PointState}
use Rattle.fuelling_point.specs.declared.kinds.Transaction.{Transaction}
use Rattle.decision_journal.specs.declared.entries.Entry.{Entry}
use Rattle.site_core.specs.Legal.{Legal}
use Rattle.site_core.specs.Limits.{ConfigValue}
use Rattle.site_core.specs.State.{SiteState, at_number}
use Rattle.site_core.specs.Decide.{is_till}
use Rattle.site_core.specs.Step.{clears_by, effect}
use Rattle.site_core.specs.Steps.{point_named, state_after, step_of, steps}
use Rattle.day_report.specs.Sales.{SalesValue, clearing_of, end_of, no_sales, sale_of, sales_after, unpaid_at}
use Rattle.day_report.specs.Totals.{cents_in, count_in}
use Rattle.day_report.specs.declared.sales.Clearing.{Clearing}
use Rattle.day_report.specs.declared.sales.Ended.{Ended}
use Rattle.day_report.specs.declared.sales.Sale.{Sale}
use Rattle.day_report.specs.declared.sales.SalesPart.TheVariants as part
use Rattle.day_report.proofs.Changing.{Acts, IsByTill, LeadsTo, effect-acts, number_of}
use Rattle.day_report.proofs.Growing.{amount_of}
use Rattle.day_report.proofs.Owing.{owes, owes-is}

-- ---- These lemmas show what is known of the sale that an entry made.

-- What is known of a sale that an entry made, which led from the state s to t. `us` are the deliveries that weren't
-- cleared before.
pub record IsSale (config : ConfigValue) (s t : SiteState) (us : List Ended) (sale : Sale) : Type 0 where
  pub owed : owes sale.transaction (at_number s.points sale.point) ≡ true
  pub gone : owes sale.transaction (at_number t.points sale.point) ≡ false
  pub ended : sale.ended ≡ end_of us sale.point sale.transaction
  pub till : is_till config sale.till ≡ true

-- An entry that led from s to t made this sale, or none. The sale has the cents that the site cleared.
pub record Sells (config : ConfigValue) (s t : SiteState) (us : List Ended) (sale : Option Sale) : Type 0 where
  pub each : All (IsSale config s t us) (option_to_list sale)
  pub count : t.clears ≡ s.clears + count_in part.All (option_to_list sale)
  pub cents : t.cleared ≡ s.cleared + cents_in part.All (option_to_list sale)

-- The sale of an entry that cleared this transaction, if it is there.
abbrev pub sale_with : List Ended → Entry → Clearing → Option Transaction → Option Sale
sale_with us entry c None = None
sale_with us entry c (Some t) = Some (record {
  number = entry.number;
  moment = entry.moment;
  till = c.till;
  point = c.point;
  transaction = c.number;
  product = t.product;
  price = t.price;
  amount = t.amount;
  volume = t.volume;
  ended = end_of us c.point c.number;
})

abbrev pub sale_by : List Ended → Entry → Option PointState → Option Clearing → Option Sale
sale_by us entry before None = None
sale_by us entry before (Some c) = sale_with us entry c (unpaid_at before c.number)

module _ (config : ConfigValue) (s t : SiteState) (us : List Ended) (entry : Entry) where
  sells-with : (c : Clearing) (o : Option Transaction) → unpaid_at (at_number s.points c.point) c.number ≡ o → LeadsTo s c.point (Some c.number) t
      → is_till config c.till ≡ true → Sells config s t us (sale_with us entry c o)
  sells-with c None is leads till =
      record {
        each = All-nil (IsSale config s t us);
        count = leads.clears ∙ ap (λ o. s.clears + clears_by (amount_of o)) is;
        cents = leads.cleared ∙ ap (λ o. s.cleared + unwrap_or (amount_of o) 0) is;
      }
  sells-with c (Some found) is leads till =
      let cents : t.cleared ≡ s.cleared + found.amount = leads.cleared ∙ ap (λ o. s.cleared + unwrap_or (amount_of o) 0) is in
      record {
        each = All-cons (IsSale config s t us) _ [] (record {
          owed = sym (owes-is c.number (at_number s.points c.point)) ∙ ap is_some is;
          gone = leads.gone;
          ended = refl;
          till = till;
        }) (All-nil (IsSale config s t us));
        count = leads.clears ∙ ap (λ o. s.clears + clears_by (amount_of o)) is;
        cents = omega (arith, cents);
      }

  sells-by : (m : ℕ) (o : Option Clearing) → LeadsTo s m (number_of o) t → IsByTill config m o → Sells config s t us (sale_by us entry (at_number s.points m) o)
  sells-by m None leads till = record { each = All-nil (IsSale config s t us); count = leads.clears; cents = leads.cleared }
  sells-by m (Some c) leads till =
      subst (λ n. Sells config s t us (sale_with us entry c (unpaid_at (at_number s.points n) c.number))) till.0
      (sells-with c (unpaid_at (at_number s.points c.point) c.number) refl (subst (λ n. LeadsTo s n (Some c.number) t) (sym till.0) leads) till.1)

-- ---- What is known of each entry of a legal history. Histories have their newest entry first.

-- What the entry did, and its sale, if `us` are the deliveries that weren't cleared before.
pub record Follows (config : ConfigValue) (past : List Entry) (entry : Entry) : Type 0 where
  pub leads : LeadsTo (state_after config past) (point_named entry.act) (number_of (clearing_of entry.act entry.reply)) (state_after config (entry ∷ past))
  pub sells : (us : List Ended) → Sells config (state_after config past) (state_after config (entry ∷ past)) us (sale_of us (step_of config past entry))

follows-by : (config : ConfigValue) (past : List Entry) (entry : Entry) → entry.reply ≡ (effect config past (state_after config past) entry.moment entry.act).reply
    → Follows config past entry
unfolding sale_of
follows-by config past entry answered =
    let s : SiteState = state_after config past in
    let m : ℕ = point_named entry.act in
    let acts : Acts config s entry.act (effect config past s entry.moment entry.act) = effect-acts config past s entry.moment entry.act in
    let leads : LeadsTo s m (number_of (clearing_of entry.act entry.reply)) (state_after config (entry ∷ past)) =
    subst (λ r. LeadsTo s m (number_of (clearing_of entry.act r)) (state_after config (entry ∷ past))) (sym answered) acts.does in
    let till = subst (λ r. IsByTill config m (clearing_of entry.act r)) (sym answered) acts.by_till in
    record { leads = leads; sells = λ us. sells-by config s (state_after config (entry ∷ past)) us entry m (clearing_of entry.act entry.reply) leads till }

-- The state of a legal history is the one that its entries lead to.
pub legal-after : (config : ConfigValue) (past : List Entry) (s : SiteState) → Legal config past s → s ≡ state_after config past
legal-after config [] s l = l
legal-after config (e ∷ past) s l = l.3.leaves ∙ ap (λ b. (effect config past b e.moment e.act).after) (legal-after config past l.0 l.1)

-- The sales after these entries, newest entry first.
abbrev pub sold : ConfigValue → List Entry → SalesValue
sold config past = fold sales_after no_sales (reverse (steps config past))

-- What holds of no entries and no sales, and stays true with each entry and its sale, holds of each legal history.
pub each-entry : (config : ConfigValue) (P : List Entry → SalesValue → Type 0) → P [] no_sales
    → ((past : List Entry) (e : Entry) (sales : SalesValue) → Follows config past e → P past sales → P (e ∷ past) (sales_after sales (step_of config past e)))
    → (past : List Entry) (s : SiteState) → Legal config past s → P past (sold config past)
each-entry config P first more [] s l = first
each-entry config P first more (e ∷ past) s l =
    let follows : Follows config past e =
    follows-by config past e (ap (λ (y : Entry). y.reply) l.3.enters ∙ ap (λ b. (effect config past b e.moment e.act).reply) (legal-after config past l.0 l.1)) in
    let next : sold config (e ∷ past) ≡ sales_after (sold config past) (step_of config past e) =
    ap (fold sales_after no_sales) (reverse-append (step_of config past e ∷ []) (steps config past))
    ∙ fold_push sales_after no_sales (reverse (steps config past)) (step_of config past e) in
    subst (P (e ∷ past)) (sym next) (more past e (sold config past) follows (each-entry config P first more past l.0 l.1))
