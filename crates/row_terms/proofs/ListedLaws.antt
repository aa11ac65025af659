-- Ascending rows are ascending tuples, so what `show` lists is a set as it stands.
use Rattle.std.specs.Prelude.{◌≡◌, List, [], ◌∷◌, map, refl}
use Rattle.std.specs.Ordering.{ordering_then}
use Rattle.std.specs.declared.cmp.Ordering.{Ordering}
use Rattle.std.specs.declared.cmp.Ordering.TheVariants.{Less, Equal}
use Rattle.std.proofs.Common.{ap, ◌∙◌}
use Rattle.da_values.specs.declared.val.Val.{Val}
use Rattle.da_values.specs.declared.val.Val.TheVariants as val
use Rattle.da_values.specs.Order.{row_cmp, val_cmp}
use Rattle.da_values.specs.Sets.{Ascends, Below, set_image}
use Rattle.da_values.proofs.OrderAt.{val_cmp-Tuple}
use Rattle.da_values.proofs.OrderLaws.{val_order, same_from_val_cmp}
use Rattle.da_values.proofs.SetLaws.{Ascends-image, canon_itself}
use Rattle.da_lang.specs.declared.query.Shape.{Shape}
use Rattle.da_lang.specs.declared.query.Shape.TheVariants as shape
use Rattle.da_lang.specs.declared.query.Term.{Term}
use Rattle.da_lang.specs.Matching.{Row}
use Rattle.da_lang.specs.Queries.{term_set, value_at}
use Rattle.da_lang.specs.World.{Data}
use Rattle.row_terms.specs.Told.{single}
use Rattle.query_plan.specs.Told.{told_shown}

-- a function that keeps the order keeps ascending lists
module _ {A B : Type 0} (c : A → A → Ordering) (e : B → B → Ordering) (f : A → B) (keeps : (x y : A) → c x y ≡ Less → e (f x) (f y) ≡ Less) where
  map_below : (x : A) (ys : List A) → Below c x ys → Below e (f x) (map f ys)
  map_below x [] below = tt
  map_below x (y ∷ ys) below = (keeps x y below.0, map_below x ys below.1)

  pub map_ascends : (xs : List A) → Ascends c xs → Ascends e (map f xs)
  map_ascends [] up = tt
  map_ascends (x ∷ xs) up = (map_below x xs up.0, map_ascends xs up.1)

rows_less : (r s : Row) → row_cmp r s ≡ Less → val_cmp (val.Tuple r) (val.Tuple s) ≡ Less
rows_less r s less = val_cmp-Tuple r s ∙ less

singles_less : (x y : Val) → val_cmp x y ≡ Less → val_cmp (single x) (single y) ≡ Less
singles_less x y less = val_cmp-Tuple (x ∷ []) (y ∷ []) ∙ ap (λ o. ordering_then o Equal) less

pub listed_rows : (set : List Val) (rows : List Row) → Ascends row_cmp rows → set ≡ set_image val_cmp val.Tuple rows → set ≡ map val.Tuple rows
listed_rows set rows up made =
    made ∙ canon_itself val_cmp val_order same_from_val_cmp (map val.Tuple rows) (map_ascends row_cmp val_cmp val.Tuple rows_less rows up)

singles_as_tuples : (xs : List Val) → map single xs ≡ map val.Tuple (map (λ x. x ∷ []) xs)
singles_as_tuples [] = refl
singles_as_tuples (x ∷ xs) = ap (λ zs. single x ∷ zs) (singles_as_tuples xs)

pub listed_values : (d : Data) (t : Term) (rows : List Row) (values set : List Val) → values ≡ term_set d t rows → set ≡ set_image val_cmp single values → set ≡ map val.Tuple (map (λ x. x ∷ []) (term_set d t rows))
listed_values d t rows values set are made =
    made ∙ ap (set_image val_cmp single) are
    ∙ canon_itself val_cmp val_order same_from_val_cmp (map single (term_set d t rows))
    (map_ascends val_cmp val_cmp single singles_less (term_set d t rows) (Ascends-image val_cmp val_order same_from_val_cmp (λ r. value_at d r t) rows))
    ∙ singles_as_tuples (term_set d t rows)

-- of all other queries the rows themselves are listed
pub shown_rows : (d : Data) (s : Shape) (rows : List Row) → ((t : Term) → s ≡ shape.Comp t → ⊥) → told_shown d s rows ≡ rows
shown_rows d shape.Exists rows other = refl
shown_rows d shape.Each rows other = refl
shown_rows d (shape.Comp t) rows other = absurd (other t refl)
shown_rows d shape.Agg rows other = refl
