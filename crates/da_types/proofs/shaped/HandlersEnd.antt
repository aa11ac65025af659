-- In an accepted program `setup` and handlers hold no yield point, so the run of a handler stops at none.
use Rattle.std.specs.Prelude.{◌≡◌, refl, ℕ, zero, suc, Bool, true, false, ◌||◌, if◌then◌else◌, List, [], ◌∷◌, map, length, zip, Option, Some, None, filter, find, flat_map}
use Rattle.std.specs.List.{list_any}
use Rattle.std.proofs.Common.{◌∙◌, ap, sym, subst, inl, inr, ⊎_elim}
use Rattle.std.proofs.lemmas.Bool.{cases_Bool, false≢true, true≢false, or_left, or_right}
use Rattle.da_values.specs.Sets.{Has}
use Rattle.da_values.proofs.Members.{Has-filter, Has-filter_map, any_from_has, of_filter, of_map}
use Rattle.da_lang.specs.declared.program.Class.{Class}
use Rattle.da_lang.specs.declared.program.Handler.{Handler}
use Rattle.da_lang.specs.declared.program.Program.{Program}
use Rattle.da_lang.specs.declared.program.RExpr.{RExpr}
use Rattle.da_lang.specs.declared.tree.ClassTree.{ClassTree}
use Rattle.da_lang.specs.declared.tree.Tree.{Tree}
use Rattle.da_lang.specs.Accepted.{IsAccepted}
use Rattle.da_lang.specs.BodyMeaning.{bind_arg, body_with, class_slots, copies, fresh, named_slots, param_slots, untyped, with_params}
use Rattle.da_lang.specs.Calls.{called, calls_in, deeds_in, is_yield, yields_within}
use Rattle.da_lang.specs.ClassParts.{Body, bodies, bodies_where, is_handler, is_setup, method_of, params_if, setup_of, stmts_if}
use Rattle.da_lang.specs.Deeds.{Deed, Doing, Sends, Outputs, Labels, Calls, Loops, Awaits, TimesOut, Other, deeds}
use Rattle.da_lang.specs.ExprMeaning.{Tables}
use Rattle.da_lang.specs.NameRules.{class_refusals, lines_where, name_refusals, yield_in, yields_by}
use Rattle.da_lang.specs.Resolution.{class_tables, handler, handler_binds, handlers, resolved, resolved_class, run_items, setup_items}
use Rattle.da_lang.specs.Typing.{filled, filled_class}
use Rattle.da_types.specs.KeepsShaped.{EndsWithoutYield, HasNoYield}
use Rattle.da_types.proofs.resolved.CallsAllowed.{map_none}
use Rattle.da_types.proofs.resolved.ClassesFill.{find_has}
use Rattle.da_types.proofs.shaped.EndedRuns.{body_run_ends}
use Rattle.da_types.proofs.shaped.NoYields.{DeedGoes, DeedsGo, KindGoes, block_goes, body_goes, call_goes, pass_goes}
use Rattle.da_types.proofs.totality.Awaits.{no_left, no_right, none_of}

-- METHODS THAT HOLD NO YIELD POINT
each_goes : (Ok : List ℕ → Type 0) (ds : List Deed) → ((d : Deed) → Has ds d → DeedGoes Ok d.does) → DeedsGo Ok ds
each_goes Ok [] each = tt
each_goes Ok (d ∷ ds) each = (each d (inl refl), each_goes Ok ds (λ e h. each e (inr h)))

-- a statement that is no yield point, and calls only such methods
by_doing : (Ok : List ℕ → Type 0) (does : Doing) → is_yield does ≡ false → ((name : List ℕ) → does ≡ Calls name → Ok name) → DeedGoes Ok does
by_doing Ok (Labels name) e calls = absurd (true≢false e)
by_doing Ok Awaits e calls = absurd (true≢false e)
by_doing Ok (Calls name) e calls = calls name refl
by_doing Ok Sends e calls = tt
by_doing Ok Outputs e calls = tt
by_doing Ok Loops e calls = tt
by_doing Ok TimesOut e calls = tt
by_doing Ok Other e calls = tt

none_any : {A : Type 0} (test : A → Bool) (xs : List A) (x : A) → list_any test xs ≡ false → Has xs x → test x ≡ false
none_any test xs x e h = ⊎_elim (λ yes_. absurd (true≢false (sym (any_from_has test xs x h yes_) ∙ e))) (λ no_. no_) (cases_Bool (test x))

neither : (a b : Bool) → (a || b) ≡ false → (a ≡ false) × (b ≡ false)
neither true b e = absurd (true≢false e)
neither false b e = (refl, e)

module _ (c : ClassTree) where
  abbrev Ends : ℕ → List ℕ → Type 0
  Ends most name = yields_within most c name ≡ false

  -- what a method that ends holds, and calls
  method_deeds : (most : ℕ) (name : List ℕ) → Ends (suc most) name → DeedsGo (Ends most) (deeds_in c name)
  unfolding yields_within
  method_deeds most name e =
      let (none, calls) = neither (list_any (λ (d : Deed). is_yield d.does) (deeds_in c name)) (list_any (yields_within most c) (calls_in c name)) e in
      each_goes (Ends most) (deeds_in c name)
      (λ d h. by_doing (Ends most) d.does (none_any (λ (d : Deed). is_yield d.does) (deeds_in c name) d none h)
      (λ next does. none_any (yields_within most c) (calls_in c name) next calls (Has-filter_map (λ (d : Deed). called d.does) (deeds_in c name) d next h (ap called does))))

  -- its copies hold none
  pub copies_go : (most : ℕ) (name : List ℕ) → Ends most name → (args : List RExpr) (tables : Tables) → KindGoes ((copies most c).call name args tables).0
  unfolding copies
  copies_go zero name e args tables = pass_goes
  copies_go (suc most) name e args tables =
      let method = method_of c name in
      let params = params_if method in
      let items = body_with (copies most c) (stmts_if method) (param_slots params tables (class_slots c)) (with_params params tables) in
      call_goes (map bind_arg (zip (fresh tables (length params)) args)) items.0
      (body_goes (Ends most) (copies most c) (copies_go most) (stmts_if method) (method_deeds most name e) (param_slots params tables (class_slots c)) (with_params params tables))

  -- BODIES IN WHICH NAMES ALLOW NONE
  none_where : (test : Deed → Bool) (ds : List Deed) (d : Deed) → lines_where test ds ≡ [] → Has ds d → test d ≡ false
  none_where test ds d e h =
      let none : filter test ds ≡ [] = map_none (λ (d : Deed). d.line) (filter test ds) e in
      ⊎_elim (λ yes_. absurd (subst (λ xs. Has xs d) none (Has-filter test ds d h yes_))) (λ no_. no_) (cases_Bool (test d))

  no_yield : (does : Doing) → yields_by c does ≡ false → DeedGoes (Ends (length c.members)) does
  no_yield (Labels name) e = absurd (true≢false e)
  no_yield Awaits e = absurd (true≢false e)
  no_yield (Calls name) e = e
  no_yield Sends e = tt
  no_yield Outputs e = tt
  no_yield Loops e = tt
  no_yield TimesOut e = tt
  no_yield Other e = tt

  deeds_end : (b : Body) (ends : Bool) → (is_handler b.place || is_setup b.place) ≡ ends → ends ≡ true → yield_in c b ≡ [] → DeedsGo (Ends (length c.members)) (deeds b.stmts)
  deeds_end b false is e none = absurd (false≢true e)
  deeds_end b true is e none =
      let lines : lines_where (λ (d : Deed). yields_by c d.does) (deeds b.stmts) ≡ [] = ap (λ z. if z then lines_where (λ (d : Deed). yields_by c d.does) (deeds b.stmts) else []) (sym is) ∙ none in
      each_goes (Ends (length c.members)) (deeds b.stmts) (λ d h. no_yield d.does (none_where (λ (d : Deed). yields_by c d.does) (deeds b.stmts) d lines h))

  module _ (allowed : flat_map (yield_in c) (bodies c) ≡ []) where
    body_ends : (b : Body) → Has (bodies c) b → (is_handler b.place || is_setup b.place) ≡ true → DeedsGo (Ends (length c.members)) (deeds b.stmts)
    body_ends b h e = deeds_end b (is_handler b.place || is_setup b.place) refl e (none_of (yield_in c) (bodies c) allowed b h)

    -- the handlers
    handlers_end : (bs : List Body) (tables : Tables) → ((b : Body) → Has bs b → DeedsGo (Ends (length c.members)) (deeds b.stmts)) → (h : Handler) → Has (handlers c bs tables).0 h → HasNoYield h.body
    handlers_end [] tables each h there = absurd there
    handlers_end (b ∷ bs) tables each h (inl is) =
        let binds = handler_binds b.place in
        let goes = body_goes (Ends (length c.members)) (copies (length c.members) c) (copies_go (length c.members)) b.stmts (each b (inl refl)) (named_slots binds tables (class_slots c)) (untyped binds tables) in
        subst (λ (z : Handler). HasNoYield z.body) (sym is) (block_goes (handler c b tables).0.body goes)
    handlers_end (b ∷ bs) tables each h (inr there) = handlers_end bs (handler c b tables).1 (λ a k. each a (inr k)) h there

    of_handlers : (b : Body) → Has (bodies_where is_handler c) b → DeedsGo (Ends (length c.members)) (deeds b.stmts)
    of_handlers b h =
        let (among, is) = of_filter (λ (b : Body). is_handler b.place) (bodies c) b h in
        body_ends b among (or_left (is_handler b.place) (is_setup b.place) is)

    -- `setup`
    of_setup : (found : Option Body) → find (λ (b : Body). is_setup b.place) (bodies c) ≡ found → DeedsGo (Ends (length c.members)) (deeds (stmts_if found))
    of_setup None is = tt
    of_setup (Some b) is =
        let (among, sets) = find_has (λ (b : Body). is_setup b.place) (bodies c) b is in
        body_ends b among (or_right (is_handler b.place) (is_setup b.place) sets)

    setup_ends : HasNoYield (setup_items c).0
    setup_ends =
        block_goes (setup_items c).0
        (body_goes (Ends (length c.members)) (copies (length c.members) c) (copies_go (length c.members)) (stmts_if (setup_of c)) (of_setup (setup_of c) refl) (param_slots (params_if (setup_of c)) (class_tables c) (class_slots c)) (with_params (params_if (setup_of c)) (class_tables c)))

    pub class_handler_ends : (h : Handler) → Has (resolved_class c).handlers h → HasNoYield h.body
    unfolding resolved_class
    class_handler_ends h there = handlers_end (bodies_where is_handler c) (run_items c (setup_items c).1).1 of_handlers h there

    pub class_setup_ends : HasNoYield (resolved_class c).setup
    unfolding resolved_class
    class_setup_ends = setup_ends

  -- from the refusals
  pub yields_refused : class_refusals c ≡ [] → flat_map (yield_in c) (bodies c) ≡ []
  yields_refused e = map_none _ _ (no_right _ _ (no_left _ _ (no_left _ _ (no_left _ _ e))))

-- THE PROGRAM
classes_named : (t : Tree) → name_refusals t ≡ [] → flat_map class_refusals t.classes ≡ []
unfolding name_refusals
classes_named t e = no_left _ _ (no_left _ _ e)

class_from : (t : Tree) (c : Class) → Has (filled (resolved t)).classes c → (ct : ClassTree) × Has t.classes ct × (c ≡ filled_class t.messages (resolved_class ct))
unfolding filled resolved
class_from t c h =
    let (r, among, is) = of_map (filled_class t.messages) (map resolved_class t.classes) c h in
    let (ct, inside, same) = of_map resolved_class t.classes r among in
    (ct, inside, is ∙ ap (filled_class t.messages) same)

module _ (p : Program) (accepted : IsAccepted p) where
  abbrev tree : Tree
  tree = accepted.resolved.tree

  program_is : p ≡ filled (resolved tree)
  program_is = accepted.typed.becomes ∙ ap filled accepted.resolved.resolves.becomes

  from_tree : (c : Class) → Has p.classes c → (ct : ClassTree) × (flat_map (yield_in ct) (bodies ct) ≡ []) × (c ≡ filled_class tree.messages (resolved_class ct))
  from_tree c h =
      let (ct, inside, is) = class_from tree c (subst (λ (q : Program). Has q.classes c) program_is h) in
      (ct, yields_refused ct (none_of class_refusals tree.classes (classes_named tree accepted.resolved.resolves.named) ct inside), is)

  pub setup_without_yield : (c : Class) → Has p.classes c → HasNoYield c.setup
  setup_without_yield c h = let (ct, allowed, is) = from_tree c h in subst (λ (z : Class). HasNoYield z.setup) (sym is) (class_setup_ends ct allowed)

  pub handler_without_yield : (c : Class) (h : Handler) → Has p.classes c → Has c.handlers h → HasNoYield h.body
  handler_without_yield c h among inside = let (ct, allowed, is) = from_tree c among in class_handler_ends ct allowed h (subst (λ (z : Class). Has z.handlers h) is inside)

  -- SETUP AND HANDLERS END AT NO YIELD POINT
  pub ends_without_yield : EndsWithoutYield p
  ends_without_yield = record {
    setup = setup_without_yield;
    handlers = handler_without_yield;
    handled = λ c h n d among inside. body_run_ends c n d h.body (handler_without_yield c h among inside);
  }
