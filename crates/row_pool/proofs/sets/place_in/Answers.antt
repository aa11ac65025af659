use Rattle.std.proofs.Common.{List, sym, ◌∙◌, subst}
use Rattle.da_values.specs.Order.{val_cmp}
use Rattle.da_values.specs.Places.{IsBetween}
use Rattle.da_values.specs.Sets.{Ascends}
use Rattle.da_values.specs.Value.{val_of, vals}
use Rattle.da_values.specs.Views.{elements_of}
use Rattle.da_values.specs.declared.val.Val.{Val}
use Rattle.row_pool.proofs.KindLaws.{kept_elements, kept_none, place_of_none, placed_as}
use Rattle.row_pool.proofs.sets.place_in.Goals as goal

pub returns-in-Set-clause-found : goal.returns-in-Set-clause-found
returns-in-Set-clause-found c =
    placed_as (vals c.as_slice.result.now) (elements_of (val_of c.args.set.now)) (val_of c.args.v.now) c.place_among.result (c.as_slice.ensures.items ∙ sym (kept_elements c.args.set.now c.in-Set.elements c.in-Set.is))
    c.place_among.ensures

pub returns-in_default-clause-found : goal.returns-in_default-clause-found
returns-in_default-clause-found c = subst (λ (xs : List Val). IsBetween val_cmp xs (val_of c.args.v.now) 0) (sym (kept_none c.args.set.now c.in_default.not-Set)) (place_of_none (val_of c.args.v.now))

pub returns-in-Set-clause-ascends : goal.returns-in-Set-clause-ascends
returns-in-Set-clause-ascends c = subst (λ (xs : List Val). Ascends val_cmp xs) (sym (kept_elements c.args.set.now c.in-Set.elements c.in-Set.is)) c.as_slice.ensures.ascends

pub returns-in_default-clause-ascends : goal.returns-in_default-clause-ascends
returns-in_default-clause-ascends c = subst (λ (xs : List Val). Ascends val_cmp xs) (sym (kept_none c.args.set.now c.in_default.not-Set)) tt
