use Rattle.std.specs.Prelude.{[], ◌∷◌}
use Rattle.std.proofs.Common.{ℕ, ◌+◌, List, slice_get, sym, ap, ◌∙◌, subst}
use Rattle.da_values.specs.Sets.{Has}
use Rattle.row_pool.specs.Cells.{count}
use Rattle.row_pool.proofs.CountLaws.{count_remove}
use Rattle.row_pool.proofs.NumberLaws.{place_within}
use Rattle.row_pool.proofs.index.drop_key.Goals as goal

pub remove-requires : goal.remove-requires
remove-requires c = place_within c.args.keys.now c.in-Some.place c.args.key (ap (λ (ks : List ℕ). slice_get ks c.in-Some.place) (sym c.as_slice.ensures) ∙ c.in-Some.ensures)

pub returns-in-Some : goal.returns-in-Some
returns-in-Some c = λ k.
    let at = ap (λ (ks : List ℕ). slice_get ks c.in-Some.place) (sym c.as_slice.ensures) ∙ c.in-Some.ensures in
    sym (ap (λ (ks : List ℕ). count k ks + count k (c.args.key ∷ [])) c.remove.ensures.rest ∙ count_remove c.args.keys.now c.in-Some.place c.args.key at k)

pub returns-in-None : goal.returns-in-None
returns-in-None c = absurd (c.in-None.ensures (subst (λ (ks : List ℕ). Has ks c.args.key) (sym c.as_slice.ensures) c.requires))
