-- What classes, and whole trees, become that are equal but for types.
use Rattle.std.specs.Prelude.{◌≡◌, refl, ℕ, zero, suc, ◌+◌, Bool, not, cond, nat_lt, List, [], ◌∷◌, map, length, replicate, zip, Option, Some, None, unwrap_or, flat_map, bytes_eq}
use Rattle.std.specs.List.{prefix_len}
use Rattle.std.proofs.Common.{◌∙◌, ap, ap₂, subst}
use Rattle.da_lang.specs.declared.program.Handler.{Handler}
use Rattle.da_lang.specs.declared.program.Item.{Item}
use Rattle.da_lang.specs.declared.program.ItemKind.TheVariants as it
use Rattle.da_lang.specs.declared.program.RExpr.{RExpr}
use Rattle.da_lang.specs.declared.tree.ClassTree.{ClassTree}
use Rattle.da_lang.specs.declared.tree.MainLine.{MainLine}
use Rattle.da_lang.specs.declared.tree.MainLine.TheVariants as main_line
use Rattle.da_lang.specs.declared.tree.Stmt.{Stmt}
use Rattle.da_lang.specs.declared.tree.Tree.{Tree}
use Rattle.da_lang.specs.declared.ty.Ty.{Ty}
use Rattle.da_lang.specs.BodyMeaning.{Copy, fresh, named_slots, untyped, with_params, param_slots, class_slots, bind_arg, copy_of, copies, body_of, body_with}
use Rattle.da_lang.specs.ClassParts.{Place, Body, bodies_where, is_handler, labels_at, setup_of, run_of, method_of, params_if, stmts_if}
use Rattle.da_lang.specs.ExprMeaning.{Meaning, Tables, with_row}
use Rattle.da_lang.specs.LabelNames.{label_number}
use Rattle.da_lang.specs.Resolution.{message_matching, sender_matching, handler_binds, handler, handlers, class_tables, setup_items, run_items, resolved_class, many, made, setup_call, first_call, place_of_class, procs_of, resolved}
use Rattle.da_lang.specs.Scopes.{Scope}
use Rattle.untyped_laws.specs.Alike.{ParamsAlike, BodiesAlike, MembersAlike, ClassesAlike, TreesAlike, ResolvedAlike, ProgramsAlike}
use Rattle.untyped_laws.specs.Beside.{Beside, Both}
use Rattle.untyped_laws.proofs.BesideLaws.{beside_length, beside_map}
use Rattle.untyped_laws.proofs.ListLaws.{ap₄, map_same, flat_same}
use Rattle.untyped_laws.proofs.MembersAlike.{bare_equal, param_names, param_types, params_both, stmts_both, as_many, variable_types, slots_equal, method_both, setup_both, run_both, where_alike, number_equal}
use Rattle.untyped_laws.proofs.StmtsAlike.{CopiesAlike, stmts_alike}
use Rattle.untyped_laws.proofs.TablesAlike.{TablesAlike, ComesAlike, GoesAlike, made_two, moved, fresh_equal, named_equal, more_slots, more_untyped}

module _ (R : Option Ty → Option Ty → Type 0) (r : R None None) where
  scope_moved : (names others : List (List ℕ)) (a b : Tables) (s u : Scope Meaning) → names ≡ others → s ≡ u → TablesAlike R a b → named_slots names a s ≡ named_slots others b u
  scope_moved names others a b s u e h l = named_equal R names a b s l ∙ ap₂ (λ ns z. named_slots ns b z) e h

  module _ (c d : ClassTree) (all : Beside (MembersAlike R) c.members d.members) where
    abbrev both : Option Body → Option Body → Type 0
    both = Both (BodiesAlike R)

    copied : (f g : Copy) → CopiesAlike R r f g → (x y : Option Body) → both x y → (args : List RExpr) (a b : Tables) → TablesAlike R a b → ComesAlike R (copy_of f c x args a) (copy_of g d y args b)
    copied f g p x y m args a b l =
        let ps = params_if x in
        let qs = params_if y in
        let params = params_both R x y m in
        let s = param_slots ps a (class_slots c) in
        let u = param_slots qs b (class_slots d) in
        let tables = more_slots R (map (λ p. Some p.ty) ps) (map (λ p. Some p.ty) qs) a b (param_types R ps qs params) l in
        let scopes : s ≡ u = scope_moved (map (λ p. p.name) ps) (map (λ p. p.name) qs) a b (class_slots c) (class_slots d) (param_names R ps qs params) (slots_equal R c d all) l in
        let slots : fresh a (length ps) ≡ fresh b (length qs) = fresh_equal R a b (length ps) l ∙ ap (fresh b) (beside_length (ParamsAlike R) ps qs params) in
        let items = stmts_alike R r f g p (stmts_if x) s (with_params ps a) (with_params qs b) tables in
        made_two R (λ bs is. it.Call (map bind_arg (zip bs args)) is) (fresh a (length ps)) (fresh b (length qs)) (body_with f (stmts_if x) s (with_params ps a)) (body_with g (stmts_if y) u (with_params qs b)) slots
        (moved R (λ ss z. body_with g ss z (with_params qs b)) (body_with f (stmts_if x) s (with_params ps a)) (stmts_if x) (stmts_if y) s u (stmts_both R x y m) scopes items)

    copies_alike : (most : ℕ) → CopiesAlike R r (copies most c) (copies most d)
    unfolding copies
    copies_alike zero = record { call = λ name args a b l. record { thing = refl; tables = l }; number = number_equal R c d all }
    copies_alike (suc most) = record {
      call = λ name args a b l. copied (copies most c) (copies most d) (copies_alike most) (method_of c name) (method_of d name) (method_both R c d all name) args a b l;
      number = number_equal R c d all;
    }

    body_alike : (ss : List Stmt) → GoesAlike R (body_of c ss) (body_of d ss)
    body_alike ss scope a b l =
        let most = length c.members in
        subst (λ n. ComesAlike R (body_of c ss scope a) (body_with (copies n d) ss scope b)) (as_many R c d all) (stmts_alike R r (copies most c) (copies most d) (copies_alike most) ss scope a b l)

    -- of a body that may be missing
    placed : (x y : Option Body) (s u : Scope Meaning) (a b : Tables) → both x y → s ≡ u → TablesAlike R a b → ComesAlike R (body_of c (stmts_if x) s a) (body_of d (stmts_if y) u b)
    placed x y s u a b m e l = moved R (λ ss z. body_of d ss z b) (body_of c (stmts_if x) s a) (stmts_if x) (stmts_if y) s u (stmts_both R x y m) e (body_alike (stmts_if x) s a b l)

    begun : TablesAlike R (class_tables c) (class_tables d)
    begun = record { slots = variable_types R c d all; queries = refl }

    setup_alike : ComesAlike R (setup_items c) (setup_items d)
    setup_alike =
        let ps = params_if (setup_of c) in
        let qs = params_if (setup_of d) in
        let params = params_both R (setup_of c) (setup_of d) (setup_both R c d all) in
        placed (setup_of c) (setup_of d) (param_slots ps (class_tables c) (class_slots c)) (param_slots qs (class_tables d) (class_slots d)) (with_params ps (class_tables c)) (with_params qs (class_tables d)) (setup_both R c d all)
        (scope_moved (map (λ p. p.name) ps) (map (λ p. p.name) qs) (class_tables c) (class_tables d) (class_slots c) (class_slots d) (param_names R ps qs params) (slots_equal R c d all) begun)
        (more_slots R (map (λ p. Some p.ty) ps) (map (λ p. Some p.ty) qs) (class_tables c) (class_tables d) (param_types R ps qs params) begun)

    run_alike : (a b : Tables) → TablesAlike R a b → ComesAlike R (run_items c a) (run_items d b)
    run_alike a b l = placed (run_of c) (run_of d) (class_slots c) (class_slots d) a b (run_both R c d all) (slots_equal R c d all) l

    abbrev handler_made : Place → ℕ → Scope Meaning → List ℕ → List ℕ → List Item → Handler
    handler_made place line scope at binds body = record {
      message = (message_matching place).pattern scope;
      from = (sender_matching place).pattern (with_row (message_matching place).binds scope);
      at = at;
      binds = binds;
      body = body;
      line = line;
    }

    -- the same body in the one class and in the other
    handler_same : (x : Body) (a b : Tables) → TablesAlike R a b → ComesAlike R (handler c x a) (handler d x b)
    handler_same x a b l =
        let names = handler_binds x.place in
        let s = named_slots names a (class_slots c) in
        let u = named_slots names b (class_slots d) in
        let scopes : s ≡ u = scope_moved names names a b (class_slots c) (class_slots d) refl (slots_equal R c d all) l in
        let items = moved R (λ (ss : List Stmt) z. body_of d ss z (untyped names b)) (body_of c x.stmts s (untyped names a)) x.stmts x.stmts s u refl scopes (body_alike x.stmts s (untyped names a) (untyped names b) (more_untyped R r names a b l)) in
        record {
          thing = ap₄ (handler_made x.place x.line) (slots_equal R c d all) (map_same (label_number c) (label_number d) (number_equal R c d all) (labels_at x.place)) (fresh_equal R a b (length names) l) items.thing;
          tables = items.tables;
        }

    handler_alike : (x y : Body) → BodiesAlike R x y → (a b : Tables) → TablesAlike R a b → ComesAlike R (handler c x a) (handler d y b)
    handler_alike x y m a b l = subst (λ z. ComesAlike R (handler c x a) (handler d z b)) (bare_equal R x y m) (handler_same x a b l)

    handlers_alike : (xs ys : List Body) → Beside (BodiesAlike R) xs ys → (a b : Tables) → TablesAlike R a b → ComesAlike R (handlers c xs a) (handlers d ys b)
    handlers_alike [] [] bs a b l = record { thing = refl; tables = l }
    handlers_alike [] (y ∷ ys) bs a b l = absurd bs
    handlers_alike (x ∷ xs) [] bs a b l = absurd bs
    handlers_alike (x ∷ xs) (y ∷ ys) bs a b l =
        let u = handler c x a in
        let v = handler d y b in
        let first = handler_alike x y bs.0 a b l in
        made_two R (λ z zs. z ∷ zs) u.0 v.0 (handlers c xs u.1) (handlers d ys v.1) first.thing (handlers_alike xs ys bs.1 u.1 v.1 first.tables)

    pub class_resolves : c.name ≡ d.name → c.line ≡ d.line → ResolvedAlike R (resolved_class c) (resolved_class d)
    unfolding resolved_class
    class_resolves name line =
        let run_c = run_items c (setup_items c).1 in
        let run_d = run_items d (setup_items d).1 in
        let run = run_alike (setup_items c).1 (setup_items d).1 setup_alike.tables in
        let handled = handlers_alike (bodies_where is_handler c) (bodies_where is_handler d) (where_alike R c d all is_handler) run_c.1 run_d.1 run.tables in
        let params = params_both R (setup_of c) (setup_of d) (setup_both R c d all) in
        record {
          name = name;
          slots = handled.tables.slots;
          params = fresh_equal R (class_tables c) (class_tables d) (length (params_if (setup_of c))) begun ∙ ap (fresh (class_tables d)) (beside_length (ParamsAlike R) (params_if (setup_of c)) (params_if (setup_of d)) params);
          setup = setup_alike.thing;
          run = run.thing;
          handlers = handled.thing;
          queries = handled.tables.queries;
          line = line;
        }

  pub class_alike : (c d : ClassTree) → ClassesAlike R c d → ResolvedAlike R (resolved_class c) (resolved_class d)
  class_alike c d m = class_resolves c d m.members m.name m.line

module _ (R : Option Ty → Option Ty → Type 0) where
  -- the place of a class by its name
  prefix_equal : (test : ClassTree → Bool) → ((x y : ClassTree) → ClassesAlike R x y → test x ≡ test y) → (xs ys : List ClassTree) → Beside (ClassesAlike R) xs ys → prefix_len test xs ≡ prefix_len test ys
  prefix_equal test same [] [] all = refl
  prefix_equal test same [] (y ∷ ys) all = absurd all
  prefix_equal test same (x ∷ xs) [] all = absurd all
  prefix_equal test same (x ∷ xs) (y ∷ ys) all = ap₂ (λ b n. cond b (1 + n) 0) (same x y all.0) (prefix_equal test same xs ys all.1)

  place_equal : (t u : Tree) → TreesAlike R t u → (name : List ℕ) → place_of_class t name ≡ place_of_class u name
  place_equal t u m name =
      ap₂ (λ n k. unwrap_or (cond (nat_lt n k) (Some n) None) 0)
      (prefix_equal (λ c. not (bytes_eq c.name name)) (λ x y e. ap (λ n. not (bytes_eq n name)) e.name) t.classes u.classes m.classes)
      (beside_length (ClassesAlike R) t.classes u.classes m.classes)

  procs_equal : (t u : Tree) → TreesAlike R t u → (l : MainLine) → procs_of t l ≡ procs_of u l
  procs_equal t u m (main_line.New name class count line) =
      ap₂ (λ place lines. replicate (many count) (record { class = place; setup = first_call (flat_map (setup_call (made 0 lines) name) lines) })) (place_equal t u m class) m.main
  procs_equal t u m (main_line.Setup name args line) = refl

pub tree_resolves : (R : Option Ty → Option Ty → Type 0) → R None None → (t u : Tree) → TreesAlike R t u → ProgramsAlike R (resolved t) (resolved u)
unfolding resolved
tree_resolves R r t u m = record {
  kind = m.kind;
  messages = m.messages;
  classes = beside_map (ClassesAlike R) (ResolvedAlike R) resolved_class resolved_class (class_alike R r) t.classes u.classes m.classes;
  procs = flat_same (procs_of t) (procs_of u) (procs_equal R t u m) t.main ∙ ap (flat_map (procs_of u)) m.main;
}
