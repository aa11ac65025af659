use Rattle.std.proofs.Common.{◌≡◌, ap, sym, ◌∙◌, map}
use Rattle.std.proofs.lemmas.Result.{IfOk-weaker}
use Rattle.da_values.specs.declared.val.Val.TheVariants as val
use Rattle.da_values.specs.Order.{val_cmp}
use Rattle.da_values.specs.Sets.{set_image}
use Rattle.da_values.specs.Value.{vals}
use Rattle.row_terms.specs.Locals.{data_of}
use Rattle.row_terms.specs.Told.{single}
use Rattle.query_plan.specs.Told.{told_shown}
use Rattle.row_terms.proofs.ListedLaws.{listed_rows, listed_values, shown_rows}
use Rattle.row_terms.proofs.told.told_listed.Goals as goal

pub returns-in_ok-set-in-Comp : goal.returns-in_ok-set-in-Comp
returns-in_ok-set-in-Comp c =
    let d = data_of c.args.locals.now in
    let rows = c.args.rows.now in
    IfOk-weaker c.singles.result (λ set. set ≡ set_image val_cmp single (vals c.as_slice.result.now)) (λ set. set ≡ map val.Tuple (told_shown d c.args.shape.now rows))
    (λ set made. listed_values d c.in-Comp.term rows (vals c.as_slice.result.now) set (c.as_slice.ensures.items ∙ c.in_ok-set-in-Comp.ensures) made
    ∙ sym (ap (λ s. map val.Tuple (told_shown d s rows)) c.in-Comp.is)) c.singles.ensures

pub returns-in_default : goal.returns-in_default
returns-in_default c =
    let d = data_of c.args.locals.now in
    let rows = c.args.rows.now in
    IfOk-weaker c.tuples.result (λ set. set ≡ set_image val_cmp val.Tuple rows) (λ set. set ≡ map val.Tuple (told_shown d c.args.shape.now rows))
    (λ set made. listed_rows set rows c.requires made ∙ sym (ap (map val.Tuple) (shown_rows d c.args.shape.now rows c.in_default.not-Comp))) c.tuples.ensures
