-- Slots have the types that are found by what stands for them after the headers of a class.
use Rattle.std.specs.Prelude.{◌≡◌, refl, ℕ, Bool, true, false, is_some, List, [], ◌∷◌, ◌++◌, Option, Some, None}
use Rattle.std.specs.List.{AllByRecursion}
use Rattle.std.proofs.Common.{◌∙◌, ap, sym, subst}
use Rattle.std.proofs.lemmas.Bool.{false≢true}
use Rattle.da_lang.specs.declared.query.Query.{Query}
use Rattle.da_lang.specs.declared.tree.MessageDecl.{MessageDecl}
use Rattle.da_lang.specs.declared.ty.Ty.{Ty}
use Rattle.da_lang.specs.QueryTypes.{given, holds_of, declared}
use Rattle.da_lang.specs.Types.{is_set, element_of}
use Rattle.da_lang.specs.Typing.{Slots, known, typed, with_type, with_row_types, found_row, handler_row}
use Rattle.da_lang.specs.World.{at_number}
use Rattle.type_table.specs.declared.scheme.Scheme.TheVariants as s
use Rattle.type_table.specs.Fits.{Meaning}
use Rattle.type_table.specs.Schemes.{stands}
use Rattle.type_demands.specs.declared.demand.Demand.TheVariants as d
use Rattle.type_demands.specs.declared.known.MessageScheme.{MessageScheme}
use Rattle.type_demands.specs.declared.known.SlotScheme.{SlotScheme}
use Rattle.type_demands.specs.Demands.{all_met}
use Rattle.type_demands.specs.Exprs.{expr_sym}
use Rattle.type_demands.specs.KnownView.{message_in}
use Rattle.type_demands.specs.Meets.{Means, RowAgrees}
use Rattle.type_demands.specs.Syms.{Sym, found}
use Rattle.type_demands.specs.Terms.{row_sym, element_sym}
use Rattle.type_demands.proofs.FoundLaws.{guard, test_found, element_found}
use Rattle.untyped_laws.specs.Flow.{Step, Loops, Finds, Takes, step_binds, bound, run_step, run_steps}
use Rattle.untyped_laws.proofs.FollowLaws.{with_none}
use Rattle.class_demands.specs.Heads.{context_in, step_row, after_step, after_steps, heads}
use Rattle.class_demands.specs.Prefix.{headed}
use Rattle.class_demands.proofs.Below.{Below}
use Rattle.class_demands.proofs.BindLaws.{Tied, after, open_still, row_ties, of_first, of_later}
use Rattle.class_demands.proofs.RuleLaws.{agrees, query_agrees, handler_agrees}

-- the elements of a set as a row
abbrev one_row : Option Ty → Option (List Ty)
one_row o = given (given o element_of) (λ ty. Some (ty ∷ []))

set_there : (o : Option Ty) (p : Option Ty) → given o element_of ≡ p → holds_of o is_set ≡ is_some p
set_there None None e = refl
set_there None (Some ty) e = absurd (cc)
set_there (Some x) p e = go (element_of x) p e
  where
    go : (q p : Option Ty) → q ≡ p → elim q [ Some element ↦ true | None ↦ false ] ≡ is_some p
    go None None e = refl
    go None (Some ty) e = absurd (cc)
    go (Some y) None e = absurd (cc)
    go (Some y) (Some ty) e = refl

of_guard : (b : Bool) (o : Option Ty) (ty : Ty) → guard b o ≡ Some ty → o ≡ Some ty
of_guard true o ty e = e
of_guard false o ty e = absurd (cc)

module _ (m : Meaning) (head : ℕ → Bool) where
  loop_agrees : (o : Option Ty) (y : Sym) → o ≡ found m head y → RowAgrees m head (one_row o) (row_sym (y.demands ++ d.Elements y.scheme ∷ []) (s.Element y.scheme ∷ []))
  loop_agrees o y is = go (given o element_of) refl
    where
      met : holds_of o is_set ≡ all_met m head (y.demands ++ d.Elements y.scheme ∷ [])
      met = ap (λ z. holds_of z is_set) is ∙ test_found m head y is_set (d.Elements y.scheme) refl

      element : given o element_of ≡ found m head (element_sym y)
      element = ap (λ z. given z element_of) is ∙ element_found m head y

      go : (p : Option Ty) → given o element_of ≡ p → RowAgrees m head (one_row o) (row_sym (y.demands ++ d.Elements y.scheme ∷ []) (s.Element y.scheme ∷ []))
      go None e =
          let unmet : all_met m head (y.demands ++ d.Elements y.scheme ∷ []) ≡ false = sym met ∙ set_there o None e in
          record { there = λ t. absurd (false≢true (sym unmet ∙ t)); missing = λ f. ap (λ (z : Option Ty). given z (λ ty. Some (ty ∷ []))) e }
      go (Some ty) e =
          let whole : all_met m head (y.demands ++ d.Elements y.scheme ∷ []) ≡ true = sym met ∙ set_there o (Some ty) e in
          let stand : stands m (s.Element y.scheme) ≡ Some ty = of_guard (all_met m head y.demands) (stands m (s.Element y.scheme)) ty (sym element ∙ e) in
          record { there = λ t. (ty ∷ [], ap (λ (z : Option Ty). given z (λ ty. Some (ty ∷ []))) e, (stand, tt)); missing = λ f. absurd (false≢true (sym f ∙ whole)) }

loop_types : (slot : ℕ) (o : Option Ty) (slots : Slots) → with_row_types (slot ∷ []) (given o (λ ty. Some (ty ∷ []))) slots ≡ with_type slot o slots
loop_types slot None slots = sym (with_none slot slots)
loop_types slot (Some ty) slots = refl

module _ (m : Meaning) (below : Below) (messages : List MessageDecl) (schemes_of : List MessageScheme) (queries : List Query) where
  -- messages have the types that are found, whichever slots are in use
  abbrev pub MessagesFound : Type 0
  MessagesFound = (head : ℕ → Bool) (tag : List ℕ) → declared messages tag ≡ found m head (message_in schemes_of tag)

  module _ (tagged : MessagesFound) where
    means_of : (head : ℕ → Bool) (slots : Slots) (schemes : List SlotScheme) (later : List ℕ) → Tied m head slots schemes later → Means m head (known messages queries slots) (context_in schemes_of schemes)
    means_of head slots schemes later t = record { slots = t.means; messages = tagged head }

    -- the row that a step brings
    abbrev row_of : Step → Slots → Option (List Ty)
    row_of (Loops slot x) slots = one_row (typed messages queries slots x).type_
    row_of (Finds binds found) slots = found_row messages queries found slots
    row_of (Takes h) slots = handler_row messages queries h slots

    runs : (step : Step) (slots : Slots) → with_row_types (step_binds step) (row_of step slots) slots ≡ run_step messages queries step slots
    runs (Loops slot x) slots = loop_types slot (given (typed messages queries slots x).type_ element_of) slots
    runs (Finds binds found) slots = refl
    runs (Takes h) slots = refl

    row_agrees : (head : ℕ → Bool) (slots : Slots) (schemes : List SlotScheme) → Means m head (known messages queries slots) (context_in schemes_of schemes) → (step : Step) → RowAgrees m head (row_of step slots) (step_row schemes_of queries step schemes)
    row_agrees head slots schemes means (Loops slot x) =
        loop_agrees m head (typed messages queries slots x).type_ (expr_sym (context_in schemes_of schemes) queries x).itself (agrees m head below messages queries slots (context_in schemes_of schemes) means x).types
    row_agrees head slots schemes means (Finds binds found) = query_agrees m head below messages queries slots (context_in schemes_of schemes) means (given found (at_number queries))
    row_agrees head slots schemes means (Takes h) = handler_agrees m head below messages queries slots (context_in schemes_of schemes) means h

    -- after all steps
    pub steps_tie : (steps : List Step) (before : ℕ → Bool) (slots : Slots) (schemes : List SlotScheme) → AllByRecursion (λ k. before k ≡ true) (bound steps) → Tied m before slots schemes (bound steps)
        → Tied m (headed m (heads schemes_of queries steps schemes) before) (run_steps messages queries steps slots) (after_steps schemes_of queries steps schemes) []
    steps_tie [] before slots schemes open_ t = t
    steps_tie (step ∷ steps) before slots schemes open_ t =
        let rows = step_row schemes_of queries step schemes in
        let fine = all_met m before rows.demands in
        let now = after m before (step_binds step) fine in
        let tied = row_ties m before (step_binds step) (row_of step slots) rows slots schemes (bound steps) (row_agrees before slots schemes (means_of before slots schemes (bound (step ∷ steps)) t) step) (of_first (λ k. before k ≡ true) (step_binds step) (bound steps) open_) t in
        steps_tie steps now (run_step messages queries step slots) (after_step schemes_of queries step schemes)
        (open_still m before (step_binds step) fine (bound steps) t.once (of_later (λ k. before k ≡ true) (step_binds step) (bound steps) open_))
        (subst (λ z. Tied m now z (after_step schemes_of queries step schemes) (bound steps)) (runs step slots) tied)
