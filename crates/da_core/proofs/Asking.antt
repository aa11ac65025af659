-- What a process in code asks of the plan of its class.
use Rattle.std.proofs.Common.{◌≡◌, ℕ, ◌+◌, ◌-◌, ◌<◌, ◌≤◌, suc, List, [], ◌∷◌, ◌++◌, length, map, Option, sym, ap, ◌∙◌, subst, append-nil, arith}
use Rattle.std.specs.List.{range_with_len}
use Rattle.std.proofs.lemmas.Slice.Zip.{AllZip-long}
use Rattle.da_values.specs.declared.val.Val.{Val}
use Rattle.da_lang.specs.declared.event.Action.{Action}
use Rattle.da_lang.specs.declared.event.Action.TheVariants.{Answer}
use Rattle.da_lang.specs.declared.program.Class.{Class}
use Rattle.da_lang.specs.declared.program.Program.{Program}
use Rattle.da_lang.specs.Matching.{Row}
use Rattle.da_lang.specs.Queries.{least_row, query_value, shown_set}
use Rattle.da_lang.specs.World.{Data}
use Rattle.da_machine.specs.RunsTo.{AddsPrefix}
use Rattle.da_machine.proofs.Prefixes.{IsPart, part_prefix, part_then, part_whole}
use Rattle.query_plan.specs.Told.{IsPlanOf, TellsQuery}
use Rattle.quant_norm.proofs.ClassLaw.{class_law}
use Rattle.delta_rules.specs.Keeping.{Sees}
use Rattle.delta_rules.specs.Told.{asked, least_found, set_listed}
use Rattle.da_core.specs.declared.known.Known.{Known}
use Rattle.da_core.specs.Known.{Each, Knows}
use Rattle.da_core.specs.Told.{answers}
use Rattle.da_core.proofs.KnownLaws.{me_is, plan_is, told_by_plan}
use Rattle.da_core.proofs.PlanLaws.{row_found, set_shown, value_asked}

-- WHAT IT TELLS OF A QUERY

module _ (known : Known) (p : Program) (class : Class) (d : Data) (knows : Knows known p class d) where
  of_class : IsPlanOf class known.plan.now
  of_class = subst (IsPlanOf class) (sym (plan_is known p class d knows)) (class_law class)

  pub query_count : length known.plan.now.queries ≡ length class.queries
  query_count = AllZip-long (TellsQuery d known.plan.now.nodes) class.queries known.plan.now.queries (of_class.queries d)

  -- what its answers tell is so of the class
  module _ (q : ℕ) where
    pub value_told : (v : Val) → ((e : Data) → Sees known.answers known.pool known.stored.now known.plan.now.nodes e → v ≡ asked e known.plan.now q) → v ≡ query_value class.queries q d
    value_told v told = told_by_plan known p class d knows (λ e. v ≡ asked e known.plan.now q) told ∙ value_asked class known.plan.now of_class d q

    pub row_told : (row : Option Row) → ((e : Data) → Sees known.answers known.pool known.stored.now known.plan.now.nodes e → row ≡ least_found e known.plan.now q) → row ≡ least_row class.queries q d
    row_told row told = told_by_plan known p class d knows (λ e. row ≡ least_found e known.plan.now q) told ∙ row_found class known.plan.now of_class d q

    pub set_told : (set : List Val) → ((e : Data) → Sees known.answers known.pool known.stored.now known.plan.now.nodes e → set ≡ set_listed e known.plan.now q) → set ≡ shown_set class.queries q d
    set_told set told = told_by_plan known p class d knows (λ e. set ≡ set_listed e known.plan.now q) told ∙ set_shown class known.plan.now of_class d q

-- THE ANSWERS, ONE BY ONE

abbrev answer : Class → Data → ℕ → Action
answer class d n = Answer d.me n (shown_set class.queries n d)

-- those after so many queries
abbrev answers_left : Class → Data → ℕ → List Action
answers_left class d place = map (answer class d) (range_with_len (place + 1) (length class.queries - place))

-- so many queries are answered, and the others are due
abbrev pub HasAnswered : Known → List Action → List Action → ℕ → Type 0
HasAnswered known old now place = Each known (λ p class d. IsPart old now (answers d.me class.queries d) (answers_left class d place))

pub none_answered : (known : Known) (old : List Action) → HasAnswered known old old 0
none_answered known old p class d knows =
    let all : length class.queries - 0 ≡ length class.queries = omega arith in
    ([], sym (append-nil old), ap (λ count. map (answer class d) (range_with_len 1 count)) (sym all))

one_due : (class : Class) (d : Data) (place : ℕ) → place < length class.queries → answers_left class d place ≡ answer class d (place + 1) ∷ answers_left class d (place + 1)
one_due class d place there =
    let count : length class.queries - place ≡ suc (length class.queries - (place + 1)) = omega (arith, there) in
    ap (λ n. map (answer class d) (range_with_len (place + 1) n)) count

pub one_answered : (known : Known) (old now new : List Action) (place n : ℕ) (rows : List Val) → place < length known.plan.now.queries → n ≡ place + 1
    → Each known (λ p class d. rows ≡ shown_set class.queries n d) → new ≡ now ++ Answer known.answers.me n rows ∷ [] → HasAnswered known old now place
    → HasAnswered known old new (place + 1)
one_answered known old now new place n rows within number shown pushed so_far p class d knows =
    let there : place < length class.queries = omega (arith, within, query_count known p class d knows) in
    let told : Answer known.answers.me n rows ≡ answer class d (place + 1) =
    ap (λ me. Answer me n rows) (sym (me_is known p class d knows)) ∙ ap (Answer d.me n) (shown p class d knows) ∙ ap (answer class d) number in
    part_then old now new (answers d.me class.queries d) (answers_left class d place) (answers_left class d (place + 1)) (so_far p class d knows)
    (Answer known.answers.me n rows ∷ [], pushed, one_due class d place there ∙ ap (λ (a : Action). a ∷ answers_left class d (place + 1)) (sym told))

pub all_answered : (known : Known) (old now : List Action) (place : ℕ) → length known.plan.now.queries ≤ place → HasAnswered known old now place
    → Each known (λ p class d. now ≡ old ++ answers d.me class.queries d)
all_answered known old now place past so_far p class d knows =
    let none : length class.queries - place ≡ 0 = omega (arith, past, query_count known p class d knows) in
    part_whole old now now (answers d.me class.queries d) (answers_left class d place) (so_far p class d knows)
    (sym (append-nil now) ∙ sym (ap (λ n. now ++ map (answer class d) (range_with_len (place + 1) n)) none))

-- a prefix of them was told
abbrev pub AnswersPart : Known → List Action → List Action → Type 0
AnswersPart known old new = Each known (λ p class d. AddsPrefix old new (answers d.me class.queries d))

pub answers_prefix : (known : Known) (old now new : List Action) (place : ℕ) → new ≡ now → HasAnswered known old now place → AnswersPart known old new
answers_prefix known old now new place stays so_far p class d knows =
    let (told, is, whole) = so_far p class d knows in
    part_prefix old new (answers d.me class.queries d) (answers_left class d place) (told, stays ∙ is, whole)
