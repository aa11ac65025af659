-- Rows that are read one after the other, and what they tell.
use Rattle.std.specs.Prelude.{◌≡◌, ◌<◌, ◌+◌, ℕ, zero, suc, List, [], ◌∷◌, ◌++◌, get_or, length, map, nat_lt, option_map, slice_get, slice_index_or, sum, take, Option, Some, None, refl}
use Rattle.std.specs.List.{All}
use Rattle.std.proofs.Common.{ap, sym, ◌∙◌, arith}
use Rattle.std.proofs.lemmas.Bool.Decides.{nat_tests}
use Rattle.std.proofs.lemmas.List.{map_push, take_more}
use Rattle.std.proofs.lemmas.List.Elements.{All-head, All-tail}
use Rattle.std.proofs.lemmas.List.Sums.{sum_by_push}
use Rattle.std.proofs.lemmas.Option.{get_or_from_slice_get, none-some, slice_get-get_or, slice_get-map, slice_get_within}
use Rattle.da_values.specs.declared.val.Val.{Val}
use Rattle.da_values.specs.Order.{row_cmp}
use Rattle.da_values.specs.Sets.{Ascends}
use Rattle.da_lang.specs.declared.query.Shape.{Shape}
use Rattle.da_lang.specs.Matching.{Row}
use Rattle.da_lang.specs.Queries.{first}
use Rattle.da_lang.specs.World.{Data}
use Rattle.query_plan.specs.Told.{has_row, told_value}
use Rattle.row_pool.specs.Cells.{Cells}
use Rattle.answer_index.specs.Answers.{IsSet, rows_of}
use Rattle.answer_index.specs.declared.set.AnswerSet.{AnswerSet}
use Rattle.row_terms.specs.declared.locals.Locals.{Locals}
use Rattle.row_terms.specs.Locals.{data_of}
use Rattle.row_terms.proofs.LocalsLaws.{told_there}
use Rattle.delta_rules.specs.Keeping.{set_rows}

module _ (all : List Row) (i : ℕ) where
  pub read_one : (rows more : List Row) (row copy : Row) → Some row ≡ slice_get all i → copy ≡ row → more ≡ rows ++ copy ∷ [] → rows ≡ take i all → more ≡ take (i + 1) all
  read_one rows more row copy there same pushed so_far =
      let within : i < length all = slice_get_within all i row (sym there) in
      pushed ∙ ap (λ zs. zs ++ copy ∷ []) so_far
      ∙ ap (λ z. take i all ++ z ∷ []) (same ∙ sym (get_or_from_slice_get all i row row (sym there)))
      ∙ sym (take_more all i row within)

  pub read_none : None ≡ slice_get all i → i < length all → ⊥
  read_none none within = none-some (get_or all i []) (none ∙ slice_get-get_or all i [] within)

-- there is no first row
pub no_first : (all : List Row) → ◌≡◌ {A = Option Row} None (slice_get all 0) → ◌≡◌ {A = Option Row} None (first all)
no_first [] none = refl
no_first (row ∷ rows) none = absurd (cc none)

pub no_prefix : (all : List Row) → ◌≡◌ {A = Option Row} None (slice_get all 0) → [] ≡ take 1 all
no_prefix [] none = refl
no_prefix (row ∷ rows) none = absurd (cc none)

-- the rows of each set ascend
module _ (pool : Cells) where
  pub rows_ascend : (sets : List AnswerSet) → All (λ set. IsSet set pool) sets → (i : ℕ) → Ascends row_cmp (get_or (set_rows pool sets) i [])
  rows_ascend [] each i = tt
  rows_ascend (set ∷ sets) each zero = (All-head (λ z. IsSet z pool) set sets each).sorted.ascends
  rows_ascend (set ∷ sets) each (suc i) = rows_ascend sets (All-tail (λ z. IsSet z pool) set sets each) i

-- How many rows there are: in the sets so far and one more, and whether there is one at all.
module _ (pool : Cells) (sets : List AnswerSet) (place n : ℕ) (set : AnswerSet) (many : n ≡ length (rows_of set pool)) where
  pub kept_more : (total : ℕ) → place < length sets → set ≡ slice_index_or sets place set → total ≡ sum (map (length {A = Row}) (set_rows pool (take place sets)))
      → total + n ≡ sum (map (length {A = Row}) (set_rows pool (take (place + 1) sets)))
  kept_more total within is so_far =
      let grown : take (place + 1) sets ≡ take place sets ++ set ∷ [] = take_more sets place set within ∙ ap (λ z. take place sets ++ z ∷ []) (sym is) in
      let counts : map (length {A = Row}) (set_rows pool (take (place + 1) sets)) ≡ map (length {A = Row}) (set_rows pool (take place sets)) ++ length (rows_of set pool) ∷ [] =
      ap (λ zs. map (length {A = Row}) (set_rows pool zs)) grown
      ∙ ap (map (length {A = Row})) (map_push (λ z. rows_of z pool) (take place sets) set)
      ∙ map_push (length {A = Row}) (set_rows pool (take place sets)) (rows_of set pool) in
      ap (λ z. z + n) so_far
      ∙ ap (λ z. sum (map (length {A = Row}) (set_rows pool (take place sets))) + z) many
      ∙ sym (ap sum counts ∙ sum_by_push (λ x. x) (map (length {A = Row}) (set_rows pool (take place sets))) (length (rows_of set pool)))

-- The rows of the set that was found at a place.
module _ (pool : Cells) (sets : List AnswerSet) (place : ℕ) (set : AnswerSet) where
  pub set_there : (found : List AnswerSet) → found ≡ sets → (place < length found) × ((d' : AnswerSet) → set ≡ slice_index_or found place d') → get_or (set_rows pool sets) place [] ≡ rows_of set pool
  set_there found same there =
      let here : slice_get sets place ≡ Some set = ap (λ zs. slice_get zs place) (sym same) ∙ slice_get-get_or found place set there.0 ∙ ap Some (sym (there.1 set)) in
      get_or_from_slice_get (set_rows pool sets) place (rows_of set pool) [] (slice_get-map (λ z. rows_of z pool) sets place ∙ ap (option_map (λ z. rows_of z pool)) here)

-- whether there is a row, by how many there are
pub one_told : (rows : List Row) (n : ℕ) → n ≡ length rows → nat_lt 0 n ≡ has_row rows
one_told [] n is = ap (nat_lt 0) is
one_told (row ∷ rows) n is = ap (nat_lt 0) is ∙ grind (arith, nat_tests)

-- what is told of rows by the number and the slots alone
pub value_told : (locals : Locals) (d : Data) (s : Shape) (v : Val) (rows seen whole : List Row) → v ≡ told_value (data_of locals) s seen → seen ≡ rows → told_value d s rows ≡ told_value d s whole
    → d.me ≡ locals.me → d.slots ≡ locals.slots.now → v ≡ told_value d s whole
value_told locals d s v rows seen whole told same enough me slots =
    told ∙ told_there locals d (record { me = me; slots = slots }) s seen ∙ ap (told_value d s) same ∙ enough
