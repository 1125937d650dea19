-- Definitions: the context, which is the bytes that a program is given, as a table of fields (source: this project).
use Rattle.std.specs.Prelude.{ℕ, List, [], ◌∷◌, ◌++◌, length, Option, Some, None}
use Rattle.byteorder.specs.Endian.{little_bytes}
use Rattle.fuelling_point.specs.Table.{PointState}
use Rattle.fuelling_point.specs.States.{state_number}
use Rattle.bpf_model.specs.declared.context.Layout.{Layout}
use Rattle.bpf_model.specs.declared.context.Layout.TheVariants as layouts
use Rattle.bpf_model.specs.declared.context.Context.{Context}
use Rattle.bpf_model.specs.declared.context.Context.TheVariants as contexts
use Rattle.site_core.specs.declared.question.Kind.{Kind}
use Rattle.site_core.specs.declared.question.Kind.TheVariants.{Release, Preset, Price}
use Rattle.site_core.specs.declared.question.Question.{Question}
use Rattle.site_core.specs.declared.context.Field.{Field}
use Rattle.site_core.specs.declared.context.Field.TheVariants.{Four, Eight}
use Rattle.site_core.specs.State.{SiteState, at_number, price_of, busy_points, open_points}

abbrev pub kind_number : Kind → ℕ
kind_number Release = 1
kind_number Preset = 2
kind_number Price = 3

-- What `field` gives for the point, or 0 if there is no point.
abbrev pub field_or_zero : Option PointState → (PointState → ℕ) → ℕ
field_or_zero None field = 0
field_or_zero (Some p) field = field p

-- What `field` gives for the point that the question is about, or 0 if there is no such point, as for a price.
abbrev pub field_of_question_point : SiteState → Question → (PointState → ℕ) → ℕ
field_of_question_point s q field = field_or_zero (at_number s.points q.point) field

-- The product of a question: for a price the product whose price is to change. Otherwise it is the number of the
-- point's lifted nozzle, since nozzle n carries product n; 0 if no nozzle is lifted or there is no such point.
abbrev pub product_of : SiteState → Question → ℕ
product_of s q = elim q.kind [ Price ↦ q.product | _ ↦ field_of_question_point s q (λ p. p.nozzle) ]

-- The fields that both layouts begin with, in their order: 64 bytes.
abbrev pub shared_fields : SiteState → ℕ → ℕ → Question → List Field
shared_fields s till moment q =
    Four till
    ∷ Four q.point
    ∷ Four (kind_number q.kind)
    ∷ Four (field_of_question_point s q (λ p. state_number p.state))
    ∷ Four (field_of_question_point s q (λ p. p.nozzle))
    ∷ Four (product_of s q)
    ∷ Eight q.asked
    ∷ Eight moment
    ∷ Four (price_of s (product_of s q))
    ∷ Four (busy_points s)
    ∷ Four (field_of_question_point s q (λ p. length p.unpaid))
    ∷ Four q.slot
    ∷ Eight s.cleared
    ∷ []

-- The fields that the second layout has after the shared ones: 16 bytes.
abbrev pub further_fields : SiteState → List Field
further_fields s = Eight s.clears ∷ Four (open_points s) ∷ Four 0 ∷ []

abbrev pub fields : Layout → SiteState → ℕ → ℕ → Question → List Field
fields layouts.One s till moment q = shared_fields s till moment q
fields layouts.Two s till moment q = shared_fields s till moment q ++ further_fields s

-- How many bytes a field takes.
abbrev pub size_of : Field → ℕ
size_of (Four x) = 4
size_of (Eight x) = 8

-- The bytes of a field, the least significant first.
abbrev pub field_bytes : Field → List ℕ
field_bytes (Four x) = little_bytes 4 x
field_bytes (Eight x) = little_bytes 8 x

-- The bytes of the fields, one field after another.
unfoldable pub laid : List Field → List ℕ
laid [] = []
laid (field ∷ rest) = field_bytes field ++ laid rest

unfoldable pub context : Layout → SiteState → ℕ → ℕ → Question → Context
context layouts.One s till moment q = contexts.One (laid (fields layouts.One s till moment q))
context layouts.Two s till moment q = contexts.Two (laid (fields layouts.Two s till moment q))
