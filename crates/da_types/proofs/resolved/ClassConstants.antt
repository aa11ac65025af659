-- A class becomes a good one, where what is written in it is fine.
use Rattle.std.specs.Prelude.{◌≡◌, refl, List, [], ◌∷◌, ◌++◌, map, length, Option, Some, None, flat_map, option_to_list}
use Rattle.std.specs.List.{AllByRecursion}
use Rattle.std.proofs.Common.{◌∙◌, ap, sym, subst, inl, inr}
use Rattle.std.proofs.lemmas.List.{append-nil}
use Rattle.da_values.specs.Sets.{Has, Distinct}
use Rattle.da_values.proofs.Members.{of_filter, of_map}
use Rattle.da_lang.specs.declared.program.Class.{Class}
use Rattle.da_lang.specs.declared.program.Handler.{Handler}
use Rattle.da_lang.specs.declared.program.Item.{Item}
use Rattle.da_lang.specs.declared.program.Program.{Program}
use Rattle.da_lang.specs.declared.query.Pattern.TheVariants as pa
use Rattle.da_lang.specs.declared.query.Query.{Query}
use Rattle.da_lang.specs.declared.tree.ClassTree.{ClassTree}
use Rattle.da_lang.specs.declared.tree.Expr.{Expr}
use Rattle.da_lang.specs.declared.tree.PatternTree.{PatternTree}
use Rattle.da_lang.specs.declared.tree.Stmt.{Stmt}
use Rattle.da_lang.specs.BodyMeaning.{next, named_slots, untyped, with_params, param_slots, class_slots, copies, body_of}
use Rattle.da_lang.specs.ClassParts.{Body, Place, InSetup, InRun, InMethod, InHandler, bodies, bodies_where, is_setup, is_run, is_handler, setup_of, run_of, params_if, stmts_if}
use Rattle.da_lang.specs.Deeds.{Deed, deeds}
use Rattle.da_lang.specs.ExprMeaning.{Meaning, Tables, matching, with_row}
use Rattle.da_lang.specs.Limits.{item_lists}
use Rattle.da_lang.specs.Resolution.{from_matching, message_matching, sender_matching, handler_binds, handler, handlers, class_tables, setup_items, run_items, resolved_class}
use Rattle.da_lang.specs.Scopes.{Scope}
use Rattle.da_types.specs.Constants.{AreFine, Notes, notes, pattern_notes, deed_notes, place_notes, body_notes, class_notes}
use Rattle.da_types.specs.QueryNotes.{AreThere, match_notes}
use Rattle.da_types.proofs.resolved.ConstantsFill.{GoodTables, GoodQuery, Grows, Onward, grown_not, onward, stays}
use Rattle.da_types.proofs.resolved.ExprConstants.{front_fine, back_fine, part_fine, fine_there, expr_good}
use Rattle.da_types.proofs.resolved.FoundSome.{range_distinct}
use Rattle.da_types.proofs.resolved.ItemConstants.{Ends, GoodBlock, GoodItems, PartGood, all_has, block_items, ends, named_good}
use Rattle.da_types.proofs.resolved.NotesKept.{Within, both_within, none_within, pattern_keeps}
use Rattle.da_types.proofs.resolved.QueryNotesAt.{match_notes-Any}
use Rattle.da_types.proofs.resolved.StatementConstants.{SaysGood, GoodDeeds, GoodBodies, body_good, class_names, copies_good, found_good}

module _ (p : Program) where
  says_good : (xs : List Expr) → AreFine (flat_map notes xs) → AllByRecursion (SaysGood p) xs
  says_good [] fine = tt
  says_good (x ∷ xs) fine = (expr_good p x (front_fine (notes x) (flat_map notes xs) fine), says_good xs (back_fine (notes x) (flat_map notes xs) fine))

  deeds_good : (ds : List Deed) → AreFine (flat_map deed_notes ds) → GoodDeeds p ds
  deeds_good [] fine = tt
  deeds_good (d ∷ ds) fine = (says_good d.says (front_fine (deed_notes d) (flat_map deed_notes ds) fine), deeds_good ds (back_fine (deed_notes d) (flat_map deed_notes ds) fine))

  pub bodies_good : (c : ClassTree) → AreFine (class_notes c) → GoodBodies p c
  bodies_good c fine b has = deeds_good (deeds b.stmts) (back_fine (place_notes b.place) (flat_map deed_notes (deeds b.stmts)) (part_fine body_notes (bodies c) b has fine))

  -- the patterns of a handler
  from_keeps : (q : Option PatternTree) (scope : Scope Meaning) → Within (match_notes ((from_matching q).pattern scope)) (flat_map pattern_notes (option_to_list q))
  from_keeps None scope = none_within _ [] match_notes-Any
  from_keeps (Some q) scope = subst (λ z. Within (match_notes ((matching q).pattern scope)) z) (sym (append-nil (pattern_notes q))) (pattern_keeps q scope)

  abbrev pub PatternsGood : Place → Type 0
  PatternsGood place = (scope behind : Scope Meaning) → AreThere p (match_notes ((message_matching place).pattern scope) ++ match_notes ((sender_matching place).pattern behind))

  none_there : (ns : Notes) → ns ≡ [] → AreFine [] → AreThere p ns
  none_there ns is fine = fine_there p ns [] (none_within ns [] is) fine

  nothing_matched : match_notes pa.Any ++ match_notes pa.Any ≡ []
  nothing_matched = ap (λ z. z ++ match_notes pa.Any) match_notes-Any ∙ match_notes-Any

  place_good : (place : Place) → AreFine (place_notes place) → PatternsGood place
  place_good InSetup fine scope behind = none_there _ nothing_matched fine
  place_good InRun fine scope behind = none_there _ nothing_matched fine
  place_good (InMethod name) fine scope behind = none_there _ nothing_matched fine
  place_good (InHandler message from labels) fine scope behind =
      fine_there p _ (pattern_notes message ++ flat_map pattern_notes (option_to_list from)) (both_within _ _ (pattern_notes message) _ (pattern_keeps message scope) (from_keeps from behind)) fine

  abbrev pub GoodPlaces : ClassTree → Type 0
  GoodPlaces c = (b : Body) → Has (bodies c) b → PatternsGood b.place

  pub places_good : (c : ClassTree) → AreFine (class_notes c) → GoodPlaces c
  places_good c fine b has = place_good b.place (front_fine (place_notes b.place) (flat_map deed_notes (deeds b.stmts)) (part_fine body_notes (bodies c) b has fine))

  module _ (qs : List Query) where
    pub record GoodHandler (h : Handler) : Type 0 where
      pub body : GoodBlock p qs h.body
      pub distinct : Distinct h.binds
      pub patterns : AreThere p (match_notes h.message ++ match_notes h.from)

    -- of a resolved class
    pub record GoodClass (d : Class) : Type 0 where
      pub items : (items : List Item) → Has (item_lists d) items → GoodItems p qs items
      pub handlers : (h : Handler) → Has d.handlers h → GoodHandler h
      pub queries : (q : Query) → Has d.queries q → GoodQuery p q
      pub params : Distinct d.params

  module _ (qs : List Query) (c : ClassTree) (good : GoodBodies p c) (places : GoodPlaces c) where
    stmts_good : (ss : List Stmt) → GoodDeeds p (deeds ss) → PartGood p qs (GoodBlock p qs) (body_of c ss)
    stmts_good ss ds = body_good p qs (copies (length c.members) c) (copies_good p qs (length c.members) c good) ss ds

    handlers_good : (bs : List Body) → ((b : Body) → Has bs b → GoodDeeds p (deeds b.stmts)) → ((b : Body) → Has bs b → PatternsGood b.place) → (tables : Tables) → GoodTables p tables → (Ends p qs (handlers c bs tables).1 → AllByRecursion (GoodHandler qs) (handlers c bs tables).0) × Onward p tables (handlers c bs tables).1
    handlers_good [] each found tables d = ((λ e. tt), stays p tables d)
    handlers_good (b ∷ bs) each found tables d =
        let names = handler_binds b.place in
        let mid = (handler c b tables).1 in
        let last = (handlers c bs mid).1 in
        let one = stmts_good b.stmts (each b (inl refl)) (named_slots names tables (class_slots c)) (untyped names tables) (named_good p qs (next tables) names (class_slots c) (class_names p qs c)) d in
        let first : Onward p tables mid = record { good = one.1.good; grows = one.1.grows } in
        let others = handlers_good bs (λ x h. each x (inr h)) (λ x h. found x (inr h)) mid one.1.good in
        ((λ e. (record { body = one.0 (ends p qs mid last others.1 e); distinct = range_distinct (next tables) (length names); patterns = found b (inl refl) (class_slots c) (with_row (message_matching b.place).binds (class_slots c)) }, others.0 e)), onward p tables mid last first others.1)

    bodies_of : (hs : List Handler) → AllByRecursion (GoodHandler qs) hs → (items : List Item) → Has (map (λ h. h.body) hs) items → GoodItems p qs items
    bodies_of hs each items h = let (x, has, is) = of_map (λ (h : Handler). h.body) hs items h in subst (GoodItems p qs) (sym is) (block_items p qs x.body (all_has (GoodHandler qs) hs x each has).body)

    lists_good : (setup run : List Item) (hs : List Handler) → GoodBlock p qs setup → GoodBlock p qs run → AllByRecursion (GoodHandler qs) hs → (items : List Item) → Has (setup ∷ run ∷ map (λ h. h.body) hs) items → GoodItems p qs items
    lists_good setup run hs first second third items (inl is) = subst (GoodItems p qs) (sym is) (block_items p qs setup first)
    lists_good setup run hs first second third items (inr (inl is)) = subst (GoodItems p qs) (sym is) (block_items p qs run second)
    lists_good setup run hs first second third items (inr (inr h)) = bodies_of hs third items h

    class_by : qs ≡ (resolved_class c).queries → GoodClass qs (resolved_class c)
    unfolding resolved_class
    class_by is =
        let setup = setup_items c in
        let run = run_items c setup.1 in
        let params = params_if (setup_of c) in
        let tables = with_params params (class_tables c) in
        let hs = handlers c (bodies_where is_handler c) run.1 in
        let set_up = stmts_good (stmts_if (setup_of c)) (found_good p qs c (λ b. is_setup b.place) (setup_of c) good refl) (param_slots params (class_tables c) (class_slots c)) tables (named_good p qs (next (class_tables c)) (map (λ q. q.name) params) (class_slots c) (class_names p qs c)) (λ q h. absurd h) in
        let has_run = stmts_good (stmts_if (run_of c)) (found_good p qs c (λ b. is_run b.place) (run_of c) good refl) (class_slots c) setup.1 (class_names p qs c) set_up.1.good in
        let handled = handlers_good (bodies_where is_handler c) (λ b h. good b (of_filter (λ (b : Body). is_handler b.place) (bodies c) b h).0) (λ b h. places b (of_filter (λ (b : Body). is_handler b.place) (bodies c) b h).0) run.1 has_run.1.good in
        let last : Ends p qs hs.1 = subst (λ z. Grows hs.1.queries z) (sym is) (grown_not hs.1.queries) in
        let after_run : Ends p qs run.1 = ends p qs run.1 hs.1 handled.1 last in
        record {
          items = lists_good setup.0 run.0 hs.0 (set_up.0 (ends p qs setup.1 run.1 has_run.1 after_run)) (has_run.0 after_run) (handled.0 last);
          handlers = λ h has. all_has (GoodHandler qs) hs.0 h (handled.0 last) has;
          queries = handled.1.good;
          params = range_distinct (next (class_tables c)) (length params);
        }

  pub class_good : (c : ClassTree) → GoodBodies p c → GoodPlaces c → GoodClass (resolved_class c).queries (resolved_class c)
  class_good c good places = class_by (resolved_class c).queries c good places refl
