-- What `show` tells of a query is a set.
use Rattle.std.specs.Prelude.{◌≡◌, ℕ, true, false, not, List, [], ◌∷◌, map, Option, Some, None, refl}
use Rattle.std.specs.List.{filter}
use Rattle.std.specs.Ordering.{ordering_then}
use Rattle.std.specs.declared.cmp.Ordering.{Ordering}
use Rattle.std.specs.declared.cmp.Ordering.TheVariants.{Less, Equal}
use Rattle.std.proofs.Common.{ap, ◌∙◌}
use Rattle.da_values.specs.declared.val.Val.{Val}
use Rattle.da_values.specs.declared.val.Val.TheVariants as val
use Rattle.da_values.specs.Order.{val_cmp, row_cmp}
use Rattle.da_values.specs.Sets.{Below, Ascends}
use Rattle.da_values.proofs.OrderAt.{val_cmp-Tuple}
use Rattle.da_values.proofs.OrderLaws.{row_order, same_from_row_cmp, val_order, same_from_val_cmp}
use Rattle.da_values.proofs.SetLaws.{Ascends-canon, Ascends-image}
use Rattle.da_lang.specs.declared.query.Query.{Query}
use Rattle.da_lang.specs.declared.query.Query.TheVariants as query
use Rattle.da_lang.specs.Matching.{Row}
use Rattle.da_lang.specs.Queries.{holds_where, extensions, rows, term_set, value_at, shown_of_query, shown_of_numbered, shown, shown_set}
use Rattle.da_lang.specs.World.{Data, at_number}

-- rows of one part are ordered as their parts
alone_less : (x y : Val) (o : Ordering) → val_cmp x y ≡ o → o ≡ Less → row_cmp (x ∷ []) (y ∷ []) ≡ Less
alone_less x y o is less = ap (λ z. ordering_then z Equal) (is ∙ less)

alone_below : (x : Val) (xs : List Val) → Below val_cmp x xs → Below row_cmp (x ∷ []) (map (λ y. y ∷ []) xs)
alone_below x [] below = tt
alone_below x (y ∷ ys) below = (alone_less x y (val_cmp x y) refl below.0, alone_below x ys below.1)

alone_ascend : (xs : List Val) → Ascends val_cmp xs → Ascends row_cmp (map (λ y. y ∷ []) xs)
alone_ascend [] up = tt
alone_ascend (x ∷ xs) up = (alone_below x xs up.0, alone_ascend xs up.1)

-- and rows as tuples
tuple_below : (r : Row) (rs : List Row) → Below row_cmp r rs → Below val_cmp (val.Tuple r) (map val.Tuple rs)
tuple_below r [] below = tt
tuple_below r (s ∷ rs) below = (val_cmp-Tuple r s ∙ below.0, tuple_below r rs below.1)

tuples_ascend : (rs : List Row) → Ascends row_cmp rs → Ascends val_cmp (map val.Tuple rs)
tuples_ascend [] up = tt
tuples_ascend (r ∷ rs) up = (tuple_below r rs up.0, tuples_ascend rs up.1)

module _ (d : Data) where
  pub query_ascends : (q : Query) → Ascends row_cmp (shown_of_query d q)
  query_ascends (query.Quant true gens b) = Ascends-canon row_cmp row_order same_from_row_cmp (filter (λ r. not (holds_where d b r)) (extensions d gens []))
  query_ascends (query.Quant false gens b) = Ascends-canon row_cmp row_order same_from_row_cmp (filter (holds_where d b) (extensions d gens []))
  query_ascends (query.Comp t gens b) =
      alone_ascend (term_set d t (rows d gens b [])) (Ascends-image val_cmp val_order same_from_val_cmp (λ r. value_at d r t) (rows d gens b []))
  query_ascends (query.Agg a) = (tt, tt)

  numbered_ascends : (q : Option Query) → Ascends row_cmp (shown_of_numbered d q)
  numbered_ascends None = tt
  numbered_ascends (Some q) = query_ascends q

  pub shown_ascends : (queries : List Query) (n : ℕ) → Ascends row_cmp (shown queries n d)
  shown_ascends queries n = numbered_ascends (at_number queries n)

  pub shown_set_ascends : (queries : List Query) (n : ℕ) → Ascends val_cmp (shown_set queries n d)
  shown_set_ascends queries n = tuples_ascend (shown queries n d) (shown_ascends queries n)
