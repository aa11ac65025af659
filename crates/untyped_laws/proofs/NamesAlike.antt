-- The refusals by names do not look at types.
use Rattle.std.specs.Prelude.{◌≡◌, refl, ℕ, ◌==◌, ◌||◌, Bool, false, not, if◌then◌else◌, List, [], ◌∷◌, ◌++◌, map, length, drop, Option, Some, None, is_none, option_to_list, option_and_then, flat_map, filter_map, bytes_eq}
use Rattle.std.specs.List.{list_any, list_all}
use Rattle.std.proofs.Common.{◌∙◌, ap, ap₂}
use Rattle.da_lang.specs.declared.refusal.ScopeKind.TheVariants as refusal
use Rattle.da_lang.specs.declared.tree.ClassTree.{ClassTree}
use Rattle.da_lang.specs.declared.tree.Expr.{Expr}
use Rattle.da_lang.specs.declared.tree.Expr.TheVariants as ex
use Rattle.da_lang.specs.declared.tree.MainLine.{MainLine}
use Rattle.da_lang.specs.declared.tree.MainLine.TheVariants as main_line
use Rattle.da_lang.specs.declared.tree.Tree.{Tree}
use Rattle.da_lang.specs.declared.ty.Ty.{Ty}
use Rattle.da_lang.specs.Calls.{deeds_in}
use Rattle.da_lang.specs.ClassParts.{Declared, Place, Body, bodies, bodies_where, variables, is_setup, is_run, is_handler, method_name, labels_at, class_of, setup_of, params_if}
use Rattle.da_lang.specs.Deeds.{deeds}
use Rattle.da_lang.specs.ExprNames.{Role, ClassVariable, Local, taken, refused_in, in_order}
use Rattle.da_lang.specs.LabelNames.{all_deeds}
use Rattle.da_lang.specs.NameRules.{lines_where, again, class_scope, patterns_at, locals_of, shadowed_params, doubled, scope_refusals, calls_none, labels_none, named_body, after_first, named_again, params_again, twice_in, leads_back, method_names, recursive_in, yields_by, yield_in, setup_in, no_run_in, misfits, class_refusals, first_class, class_made, made_scope, setup_misfits, setup_kinds, main_refusals_at, main_refusals, made_at, set_up_at, twice_of, name_refusals}
use Rattle.da_lang.specs.Scopes.{Scope, look, entered, at_line, at_lines}
use Rattle.da_lang.specs.StmtNames.{refused_in_body}
use Rattle.da_lang.specs.Written.{asks, reads_clock}
use Rattle.untyped_laws.specs.Alike.{ParamsAlike, VariablesAlike, BodiesAlike, MembersAlike, ClassesAlike, MessagesAlike, TreesAlike}
use Rattle.untyped_laws.specs.Beside.{Beside, Both}
use Rattle.untyped_laws.proofs.BesideLaws.{beside_length, map_equal, flat_equal, kept_equal, beside_drop, both_find}
use Rattle.untyped_laws.proofs.CallsAlike.{lines_same, deeds_in_equal, none_same, back_same, yield_same, misfit_same}
use Rattle.untyped_laws.proofs.ListLaws.{join, flat_same}
use Rattle.untyped_laws.proofs.MembersAlike.{bare_equal, param_names, bodies_alike, variables_alike, variable_names, setup_both, where_alike, deeds_equal, labels_equal, params_both}

module _ (R : Option Ty → Option Ty → Type 0) where
  params_same : (x y : Body) → BodiesAlike R x y → params_again x ≡ params_again y
  params_same x y m = ap again (map_equal {C = List ℕ × ℕ} (ParamsAlike R) (λ p. (p.name, x.line)) (λ p. (p.name, y.line)) (λ p q e. ap₂ {C = List ℕ × ℕ} (λ n l. (n, l)) e.name m.line) x.params y.params m.params)

  shadowed_same : (scope : Scope Role) (x y : Body) → BodiesAlike R x y → shadowed_params scope x ≡ shadowed_params scope y
  shadowed_same scope x y m = flat_equal (ParamsAlike R) (λ p. taken (look scope p.name)) (λ p. taken (look scope p.name)) (λ p q e. ap (λ n. taken (look scope n)) e.name) x.params y.params m.params

  locals_same : (x y : Body) → BodiesAlike R x y → locals_of x ≡ locals_of y
  locals_same x y m = join (param_names R x.params y.params m.params) (ap (λ p. flat_map (λ part. part.binds) (patterns_at p)) m.place)

  scope_same : (scope : Scope Role) (x y : Body) → BodiesAlike R x y → scope_refusals scope x ≡ scope_refusals scope y
  scope_same scope x y m =
      join (ap₂ (λ l ks. at_line l ks) m.line (join (join (shadowed_same scope x y m) (ap doubled (bare_equal R x y m))) (ap (λ p. in_order (patterns_at p) Local scope) m.place)))
      (ap₂ (λ ss ns. refused_in_body ss (entered Local ns scope)) m.stmts (locals_same x y m))

  module _ (c d : ClassTree) (all : Beside (MembersAlike R) c.members d.members) where
    abbrev bodies_beside : Beside (BodiesAlike R) (bodies c) (bodies d)
    bodies_beside = bodies_alike R c d all

    class_scope_equal : class_scope c ≡ class_scope d
    class_scope_equal = ap (λ ns. entered ClassVariable ns []) (variable_names R c d all)

    labels_none_same : (x y : Body) → BodiesAlike R x y → labels_none c x ≡ labels_none d y
    labels_none_same x y m =
        ap (λ (ls : List Declared). if list_all (λ name. list_any (λ l. bytes_eq l.0 name) ls) (labels_at x.place) then [] else x.line ∷ []) (labels_equal R c d all) ∙ ap (labels_none d) (bare_equal R x y m)

    declared_equal : map {B = List ℕ × ℕ} (λ v. (v.name, v.line)) (variables c) ≡ map {B = List ℕ × ℕ} (λ v. (v.name, v.line)) (variables d)
    declared_equal = map_equal {C = List ℕ × ℕ} (VariablesAlike R) (λ v. (v.name, v.line)) (λ v. (v.name, v.line)) (λ v w e. ap₂ {C = List ℕ × ℕ} (λ n l. (n, l)) e.name e.line) (variables c) (variables d) (variables_alike R c d all)

    after_equal : (test : Place → Bool) → after_first test c ≡ after_first test d
    after_equal test =
        map_equal (BodiesAlike R) (λ b. b.line) (λ b. b.line) (λ x y m. m.line) (drop 1 (bodies_where test c)) (drop 1 (bodies_where test d))
        (beside_drop (BodiesAlike R) 1 (bodies_where test c) (bodies_where test d) (where_alike R c d all test))

    twice_equal : twice_in c ≡ twice_in d
    twice_equal =
        join (join (join (join (join (join (ap again declared_equal)
        (ap again (kept_equal (BodiesAlike R) named_body named_body (λ x y m. ap named_body (bare_equal R x y m)) (bodies c) (bodies d) bodies_beside)))
        (after_equal is_setup))
        (after_equal is_run))
        (ap again (labels_equal R c d all)))
        (flat_equal (BodiesAlike R) named_again named_again (λ x y m. ap named_again (bare_equal R x y m)) (bodies c) (bodies d) bodies_beside))
        (flat_equal (BodiesAlike R) params_again params_again params_same (bodies c) (bodies d) bodies_beside)

    recursive_equal : (name : List ℕ) → recursive_in c name ≡ recursive_in d name
    recursive_equal name =
        lines_same (λ e. leads_back c name e.does) (λ e. leads_back d name e.does) (λ e. back_same R c d all name e.does) (deeds_in c name) ∙ ap (lines_where (λ e. leads_back d name e.does)) (deeds_in_equal R c d all name)

    yields_equal : (x y : Body) → BodiesAlike R x y → yield_in c x ≡ yield_in d y
    yields_equal x y m =
        ap (λ ls. if is_handler x.place || is_setup x.place then ls else []) (lines_same (λ e. yields_by c e.does) (λ e. yields_by d e.does) (λ e. yield_same R c d all e.does) (deeds x.stmts)) ∙ ap (yield_in d) (bare_equal R x y m)

    names_equal : method_names c ≡ method_names d
    names_equal = kept_equal (BodiesAlike R) (λ b. method_name b.place) (λ b. method_name b.place) (λ x y m. ap method_name m.place) (bodies c) (bodies d) bodies_beside

    no_run_equal : c.line ≡ d.line → no_run_in c ≡ no_run_in d
    no_run_equal line = ap₂ (λ n l. if n == 0 then l ∷ [] else []) (beside_length (BodiesAlike R) (bodies_where is_run c) (bodies_where is_run d) (where_alike R c d all is_run)) line

    -- every refusal by names in the class
    refusals_equal : c.line ≡ d.line → class_refusals c ≡ class_refusals d
    refusals_equal line =
        join (join (join (join (join (join (join (join
        (ap (at_lines refusal.Unknown) (lines_same (λ e. calls_none c e.does) (λ e. calls_none d e.does) (λ e. none_same R c d all e.does) (all_deeds c) ∙ ap (lines_where (λ e. calls_none d e.does)) (deeds_equal R c d all)))
        (ap (at_lines refusal.Unknown) (flat_equal (BodiesAlike R) (labels_none c) (labels_none d) labels_none_same (bodies c) (bodies d) bodies_beside)))
        (flat_equal (BodiesAlike R) (scope_refusals (class_scope c)) (scope_refusals (class_scope c)) (scope_same (class_scope c)) (bodies c) (bodies d) bodies_beside ∙ ap (λ scope. flat_map (scope_refusals scope) (bodies d)) class_scope_equal))
        (ap (at_lines refusal.Twice) twice_equal))
        (ap (at_lines refusal.Recursive) (flat_same (recursive_in c) (recursive_in d) recursive_equal (method_names c) ∙ ap (flat_map (recursive_in d)) names_equal)))
        (ap (at_lines refusal.Yield) (flat_equal (BodiesAlike R) (yield_in c) (yield_in d) yields_equal (bodies c) (bodies d) bodies_beside)))
        (ap (at_lines refusal.Setup) (flat_equal (BodiesAlike R) setup_in setup_in (λ x y m. ap setup_in (bare_equal R x y m)) (bodies c) (bodies d) bodies_beside)))
        (ap (at_lines refusal.NoRun) (no_run_equal line)))
        (ap (at_lines refusal.Arity) (lines_same (λ e. misfits c e e.does) (λ e. misfits d e e.does) (λ e. misfit_same R c d all e e.does) (all_deeds c) ∙ ap (lines_where (λ e. misfits d e e.does)) (deeds_equal R c d all)))

  class_equal : (c d : ClassTree) → ClassesAlike R c d → class_refusals c ≡ class_refusals d
  class_equal c d m = refusals_equal c d m.members m.line

  abbrev two_classes : Option ClassTree → Option ClassTree → Type 0
  two_classes = Both (ClassesAlike R)

  none_equal : (x y : Option ClassTree) → two_classes x y → is_none x ≡ is_none y
  none_equal None None m = refl
  none_equal None (Some y) m = absurd m
  none_equal (Some x) None m = absurd m
  none_equal (Some x) (Some y) m = refl

  misfits_equal : (xs : List Expr) (x y : Option ClassTree) → two_classes x y → list_any (setup_misfits xs) (option_to_list x) ≡ list_any (setup_misfits xs) (option_to_list y)
  misfits_equal xs None None m = refl
  misfits_equal xs None (Some y) m = absurd m
  misfits_equal xs (Some x) None m = absurd m
  misfits_equal xs (Some x) (Some y) m =
      ap (λ n. not (length xs == n) || false) (beside_length (ParamsAlike R) (params_if (setup_of x)) (params_if (setup_of y)) (params_both R (setup_of x) (setup_of y) (setup_both R x y m.members)))

  module _ (t u : Tree) (m : TreesAlike R t u) where
    class_both : (name : List ℕ) → two_classes (class_of t name) (class_of u name)
    class_both name = both_find (ClassesAlike R) (λ c. bytes_eq c.name name) (λ c. bytes_eq c.name name) (λ x y e. ap (λ n. bytes_eq n name) e.name) t.classes u.classes m.classes

    made_both : (found : Option (List ℕ)) → two_classes (option_and_then (class_of t) found) (option_and_then (class_of u) found)
    made_both None = tt
    made_both (Some name) = class_both name

    kinds_equal : (before : List MainLine) (name : List ℕ) (xs : List Expr) → setup_kinds t before name xs ≡ setup_kinds u before name xs
    kinds_equal before name xs =
        ap (λ b. flat_map (refused_in (made_scope before)) (ex.Name name ∷ xs) ++ (if list_any (λ x. asks x || reads_clock x) xs then refusal.Setup ∷ [] else []) ++ (if b then refusal.Arity ∷ [] else []))
        (misfits_equal xs (class_made t before name) (class_made u before name) (made_both (first_class before name)))

    line_equal : (before : List MainLine) (l : MainLine) → main_refusals_at t before l ≡ main_refusals_at u before l
    line_equal before (main_line.New name class count line) = ap (λ b. at_line line (if b then refusal.Unknown ∷ [] else [])) (none_equal (class_of t class) (class_of u class) (class_both class))
    line_equal before (main_line.Setup name xs line) = ap (at_line line) (kinds_equal before name xs)

    main_equal : (before ls : List MainLine) → main_refusals t before ls ≡ main_refusals u before ls
    main_equal before [] = refl
    main_equal before (l ∷ ls) = join (line_equal before l) (main_equal (before ++ l ∷ []) ls)

    twice_whole : twice_of t ≡ twice_of u
    twice_whole =
        join (join (join
        (ap again (map_equal {C = List ℕ × ℕ} (ClassesAlike R) (λ c. (c.name, c.line)) (λ c. (c.name, c.line)) (λ x y e. ap₂ {C = List ℕ × ℕ} (λ n l. (n, l)) e.name e.line) t.classes u.classes m.classes))
        (ap again (map_equal {C = List ℕ × ℕ} (MessagesAlike R) (λ x. (x.tag, x.line)) (λ x. (x.tag, x.line)) (λ x y e. ap₂ {C = List ℕ × ℕ} (λ n l. (n, l)) e.tag e.line) t.messages u.messages m.messages)))
        (ap (λ ls. again (filter_map made_at ls)) m.main))
        (ap (λ ls. again (filter_map set_up_at ls)) m.main)

    pub names_same : name_refusals t ≡ name_refusals u
    unfolding name_refusals
    names_same =
        join (join (flat_equal (ClassesAlike R) class_refusals class_refusals class_equal t.classes u.classes m.classes) (ap (at_lines refusal.Twice) twice_whole)) (main_equal [] t.main ∙ ap (main_refusals u []) m.main)
