-- What stands in a row of a process of this number with these slots, whatever its histories and its clock are.
use Rattle.std.specs.Prelude.{◌≡◌, true, List, [], ◌∷◌, map, Option, Some, None, refl}
use Rattle.std.proofs.Common.{ap, sym, ◌∙◌}
use Rattle.da_values.specs.declared.val.Val.TheVariants as val
use Rattle.da_lang.specs.declared.query.AggOp.{AggOp}
use Rattle.da_lang.specs.declared.query.Cond.{Cond}
use Rattle.da_lang.specs.declared.query.Shape.{Shape}
use Rattle.da_lang.specs.declared.query.Shape.TheVariants as shape
use Rattle.da_lang.specs.declared.query.Term.{Term}
use Rattle.da_lang.specs.Matching.{Row}
use Rattle.da_lang.specs.Queries.{aggregate, holds, other_value, term_set, value_at}
use Rattle.da_lang.specs.World.{Data}
use Rattle.query_plan.specs.PlainNodes.{is_plain}
use Rattle.query_plan.specs.Told.{told_shown, told_value}
use Rattle.query_plan.proofs.PlainReads.{plain_alike, value_same}
use Rattle.row_terms.specs.declared.locals.Locals.{Locals}
use Rattle.row_terms.specs.Locals.{IsAt, data_of}

module _ (locals : Locals) (d : Data) (at : IsAt locals d) where
  pub value_there : (row : Row) (t : Term) → value_at (data_of locals) row t ≡ value_at d row t
  value_there row t = value_same (data_of locals) d (sym at.me) (sym at.slots) t row

  pub holds_there : (b : Cond) → is_plain b ≡ true → (row : Row) → holds (data_of locals) b row ≡ holds d b row
  holds_there b plain row = plain_alike (data_of locals) d (sym at.me) (sym at.slots) b plain row

  pub other_there : (row : Row) (other : Option Term) → other_value (data_of locals) row other ≡ other_value d row other
  other_there row None = refl
  other_there row (Some t) = value_there row t

  pub set_there : (t : Term) (rows : List Row) → term_set (data_of locals) t rows ≡ term_set d t rows
  set_there t rows = ap (λ me. term_set (record d { me = me; slots = locals.slots.now }) t rows) (sym at.me) ∙ ap (λ slots. term_set (record d { slots = slots }) t rows) (sym at.slots)

  pub aggregate_there : (op : AggOp) (row : Row) (other : Option Term) (t : Term) (rows : List Row)
      → aggregate op (other_value (data_of locals) row other) (term_set (data_of locals) t rows) ≡ aggregate op (other_value d row other) (term_set d t rows)
  aggregate_there op row other t rows =
      ap (λ x. aggregate op x (term_set (data_of locals) t rows)) (other_there row other) ∙ ap (aggregate op (other_value d row other)) (set_there t rows)

  pub told_there : (s : Shape) (rows : List Row) → told_value (data_of locals) s rows ≡ told_value d s rows
  told_there shape.Exists rows = refl
  told_there shape.Each rows = refl
  told_there (shape.Comp t) rows = ap val.Set (set_there t rows)
  told_there shape.Agg rows = refl

  pub shown_there : (s : Shape) (rows : List Row) → told_shown (data_of locals) s rows ≡ told_shown d s rows
  shown_there shape.Exists rows = refl
  shown_there shape.Each rows = refl
  shown_there (shape.Comp t) rows = ap (map (λ x. x ∷ [])) (set_there t rows)
  shown_there shape.Agg rows = refl
