use Rattle.std.proofs.Common.{[], ◌∷◌, ◌∙◌, ap, map}
use Rattle.std.proofs.lemmas.List.{map-append}
use Rattle.da_values.specs.Value.{val_of, vals}
use Rattle.row_terms.specs.Told.{single}
use Rattle.row_terms.proofs.CanonLaws.{image_on}
use Rattle.row_terms.proofs.told.singles.Goals as goal

pub loop-v-preserved : goal.loop-v-preserved
loop-v-preserved c =
    image_on (λ v. single (val_of v)) (λ vs. map single (vals vs)) (λ xs x. ap (map single) (map-append val_of xs (x ∷ [])) ∙ map-append single (vals xs) (val_of x ∷ []))
    c.args.values.now c.loop-v.v-index c.v-item.result _ _ _ c.loop-v-test.true c.v-item.is c.in_ok-as_single.ensures c.in_ok-set_insert.ensures.ok c.loop-v.invariant
