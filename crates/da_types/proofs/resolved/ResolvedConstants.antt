-- The resolved program of a tree in which what is written is fine: its constants are values and processes that are there,
-- and its classes are good.
use Rattle.std.specs.Prelude.{◌≡◌, refl, ℕ, zero, suc, ◌+◌, ◌<◌, ◌≤◌, ◌^◌, nat_lt, nat_le, Bool, true, false, List, [], ◌∷◌, ◌++◌, map, length, replicate, Option, Some, None, flat_map, bytes_eq}
use Rattle.std.specs.List.{range_with_len}
use Rattle.std.proofs.Common.{◌∙◌, ap, sym, subst, inl, inr, ⊎_elim, arith, cond, length-append}
use Rattle.std.proofs.lemmas.Bool.{and_from, lt-ltb, le-leb}
use Rattle.da_values.specs.declared.value.Value.{Value}
use Rattle.da_values.specs.declared.value.Value.TheVariants as kept
use Rattle.da_values.specs.Proper.{IsValue}
use Rattle.da_values.specs.Sets.{Has}
use Rattle.da_values.proofs.Members.{Has-append_left, Has-append_right, Has-map, of_append, of_flat_map, of_map}
use Rattle.da_lang.specs.declared.program.Class.{Class}
use Rattle.da_lang.specs.declared.program.ProcDecl.{ProcDecl}
use Rattle.da_lang.specs.declared.program.Program.{Program}
use Rattle.da_lang.specs.declared.program.RExpr.{RExpr}
use Rattle.da_lang.specs.declared.program.SetupCall.{SetupCall}
use Rattle.da_lang.specs.declared.query.Agg.{Agg}
use Rattle.da_lang.specs.declared.query.Cond.TheViews.{out-Agg, roll-out-Agg}
use Rattle.da_lang.specs.declared.query.Query.{Query}
use Rattle.da_lang.specs.declared.query.Query.TheVariants as qu
use Rattle.da_lang.specs.declared.query.Term.{Term}
use Rattle.da_lang.specs.declared.tree.ClassTree.{ClassTree}
use Rattle.da_lang.specs.declared.tree.Expr.{Expr}
use Rattle.da_lang.specs.declared.tree.MainLine.{MainLine}
use Rattle.da_lang.specs.declared.tree.MainLine.TheVariants as main_line
use Rattle.da_lang.specs.declared.tree.Tree.{Tree}
use Rattle.da_lang.specs.ExprMeaning.{Meaning, meant}
use Rattle.da_lang.specs.Resolution.{made, made_as, many, first_call, procs_of, resolved, resolved_args, resolved_class, setup_call}
use Rattle.da_lang.specs.Scopes.{Scope, look}
use Rattle.da_lang.proofs.typing.ShapedAt.{has_processes-Proc}
use Rattle.da_types.specs.Constants.{ConstantsAreThere, AreFine, Literal, class_notes, line_notes, notes, tree_notes}
use Rattle.da_types.specs.QueryNotes.{agg_notes, other_notes, query_notes, ranges_notes, term_notes, where_notes}
use Rattle.da_types.specs.Totality.{IsConstant, constants, other_constants, query_constants}
use Rattle.da_types.proofs.resolved.ClassConstants.{GoodClass, bodies_good, class_good, places_good}
use Rattle.da_types.proofs.resolved.ConstantsFill.{AreGood, GoodExpr, GoodScope, MeansGood}
use Rattle.da_types.proofs.resolved.ExprConstants.{back_fine, expr_good, front_fine, part_fine}
use Rattle.da_types.proofs.resolved.FewProcesses.{made_length, procs_are}
use Rattle.da_types.proofs.resolved.QueryNotesAt.{agg_notes-of}

range_in : (a k n : ℕ) → Has (range_with_len a k) n → (a ≤ n) × (n < a + k)
range_in a zero n h = absurd h
range_in a (suc k) n (inl is) = (omega (arith, is), omega (arith, is))
range_in a (suc k) n (inr h) = let (low, high) = range_in (a + 1) k n h in (omega (arith, low), omega (arith, high))

in_replicate : {A : Type 0} (n : ℕ) (x y : A) → Has (replicate n x) y → y ≡ x
in_replicate zero x y h = absurd h
in_replicate (suc n) x y (inl is) = is
in_replicate (suc n) x y (inr h) = in_replicate n x y h

first_has : (calls : List SetupCall) (call : SetupCall) → first_call calls ≡ Some call → Has calls call
first_has [] call is = absurd (cc)
first_has (x ∷ calls) call is = inl (cc)

pub classes_are : (t : Tree) → (resolved t).classes ≡ map resolved_class t.classes
unfolding resolved
classes_are t = refl

-- the constants of which a query makes its value are among those that are noted of it
term_noted : (x : Term) (v : Value) → Has (constants x) v → Has (term_notes x) (Literal v)
term_noted x v h = Has-map Literal (constants x) v h

other_noted : (other : Option Term) (v : Value) → Has (other_constants other) v → Has (other_notes other) (Literal v)
other_noted None v h = absurd h
other_noted (Some x) v h = term_noted x v h

agg_noted : (a : Agg) → agg_notes a ≡ ranges_notes (out-Agg a).gens ++ where_notes (out-Agg a).cond ++ term_notes (out-Agg a).term ++ other_notes (out-Agg a).other
agg_noted a = ap agg_notes (sym (roll-out-Agg a)) ∙ agg_notes-of (out-Agg a).op (out-Agg a).gens (out-Agg a).cond (out-Agg a).term (out-Agg a).other

asked_noted : (q : Query) (v : Value) → Has (query_constants q) v → Has (query_notes q) (Literal v)
asked_noted (qu.Quant each gens b) v h = absurd h
asked_noted (qu.Comp x gens b) v h = Has-append_right (ranges_notes gens ++ where_notes b) (term_notes x) (Literal v) (term_noted x v h)
asked_noted (qu.Agg a) v h =
    let rows = ranges_notes (out-Agg a).gens ++ where_notes (out-Agg a).cond in
    let x = (out-Agg a).term in
    let other = (out-Agg a).other in
    subst (λ z. Has z (Literal v)) (sym (agg_noted a)) (⊎_elim
    (λ k. Has-append_left (rows ++ term_notes x) (other_notes other) (Literal v) (Has-append_right rows (term_notes x) (Literal v) (term_noted x v k)))
    (λ k. Has-append_right (rows ++ term_notes x) (other_notes other) (Literal v) (other_noted other v k))
    (of_append (constants x) (other_constants other) v h))

module _ (t : Tree) (p : Program) (few : length p.procs < 2 ^ 16) where
  process_good : (n : ℕ) → 0 < n → n ≤ length p.procs → IsConstant p (kept.Proc n)
  process_good n some inside = record {
    proper = IsValue.process n some (omega (arith, inside, few));
    processes = has_processes-Proc (length p.procs) n ∙ and_from (nat_lt 0 n) (nat_le n (length p.procs)) (lt-ltb 0 n some) (le-leb n (length p.procs) inside);
  }

  range_good : (a k : ℕ) → 0 < a → a + k ≤ length p.procs + 1 → AreGood p (map kept.Proc (range_with_len a k))
  range_good a k some inside v h =
      let (n, has, is) = of_map kept.Proc (range_with_len a k) v h in
      let (low, high) = range_in a k n has in
      subst (IsConstant p) (sym is) (process_good n (omega (arith, some, low)) (omega (arith, high, inside)))

  made_good : (count : Option ℕ) (before : ℕ) → before + many count ≤ length p.procs → MeansGood p (Some (made_as count before))
  made_good None before inside = process_good (suc before) (omega arith) (omega (arith, inside))
  made_good (Some count) before inside = range_good (suc before) count (omega arith) (omega (arith, inside))

  -- the names of `main`
  names_good : (before : ℕ) (ls : List MainLine) → before + length (flat_map (procs_of t) ls) ≤ length p.procs → GoodScope p (made before ls)
  names_good before [] inside name = tt
  names_good before (main_line.New made_name class count line ∷ ls) inside name =
      let size = length-append (procs_of t (main_line.New made_name class count line)) (flat_map (procs_of t) ls) in
      let own = made_length t (main_line.New made_name class count line) in
      go (bytes_eq made_name name) (made_good count before (omega (arith, inside, size, own))) (names_good (before + many count) ls (omega (arith, inside, size, own)) name)
    where
      go : (b : Bool) → MeansGood p (Some (made_as count before)) → MeansGood p (look (made (before + many count) ls) name) → MeansGood p (cond b (Some (made_as count before)) (look (made (before + many count) ls) name))
      go true first rest = first
      go false first rest = rest
  names_good before (main_line.Setup other args line ∷ ls) inside name = names_good (before + 0) ls (omega (arith, inside)) name

  -- lines of `setup`
  args_good : (scope : Scope Meaning) (args : List Expr) → GoodScope p scope → AreFine (flat_map notes args) → (x : RExpr) → Has (resolved_args scope args) x → GoodExpr p x
  args_good scope args names fine x h =
      let (a, has, is) = of_map (λ (a : Expr). ((meant a).outside scope (record { slots = []; queries = [] })).0) args x h in
      subst (GoodExpr p) (sym is) ((expr_good p a (part_fine notes args a has fine)).of_outside scope (record { slots = []; queries = [] }) names (λ q k. absurd k)).0

  line_good : (scope : Scope Meaning) (name : List ℕ) (l : MainLine) (call : SetupCall) → GoodScope p scope → AreFine (line_notes l) → Has (setup_call scope name l) call → (x : RExpr) → Has call.args x → GoodExpr p x
  line_good scope name (main_line.New other class count line) call names fine h x k = absurd h
  line_good scope name (main_line.Setup other args line) call names fine h x k = go (bytes_eq other name) h
    where
      go : (b : Bool) → Has (cond b (record { args = resolved_args scope args; line = line } ∷ []) []) call → GoodExpr p x
      go true (inl is) = args_good scope args names fine x (subst (λ (z : SetupCall). Has z.args x) is k)
      go true (inr none) = absurd none
      go false none = absurd none

  proc_good : (l : MainLine) (d : ProcDecl) (call : SetupCall) → GoodScope p (made 0 t.main) → AreFine (flat_map line_notes t.main) → Has (procs_of t l) d → d.setup ≡ Some call → (x : RExpr) → Has call.args x → GoodExpr p x
  proc_good (main_line.New name class count line) d call names fine h is x k =
      let same = in_replicate (many count) _ d h in
      let scope = made 0 t.main in
      let calls = flat_map (setup_call scope name) t.main in
      let has = first_has calls call (sym (ap (λ (z : ProcDecl). z.setup) same) ∙ is) in
      let (m, stands, own) = of_flat_map (setup_call scope name) t.main call has in
      line_good scope name m call names (part_fine line_notes t.main m stands fine) own x k
  proc_good (main_line.Setup name args line) d call names fine h is x k = absurd h

  in_classes : (writes : AreFine (tree_notes t)) (c : ClassTree) → Has t.classes c → AreFine (class_notes c)
  in_classes writes c has = part_fine class_notes t.classes c has (front_fine (flat_map class_notes t.classes) (flat_map line_notes t.main) writes)

  -- each class
  pub good_class : p ≡ resolved t → AreFine (tree_notes t) → (d : Class) → Has p.classes d → (c : ClassTree) × (d ≡ resolved_class c) × GoodClass p d.queries d
  good_class becomes writes d has =
      let (c, stands, is) = of_map resolved_class t.classes d (subst (λ z. Has z d) (ap (λ (z : Program). z.classes) becomes ∙ classes_are t) has) in
      (c, is, subst (λ (z : Class). GoodClass p z.queries z) (sym is) (class_good p c (bodies_good p c (in_classes writes c stands)) (places_good p c (in_classes writes c stands))))

  pub constants_by : p ≡ resolved t → AreFine (tree_notes t) → ConstantsAreThere p
  constants_by becomes writes =
      let procs : p.procs ≡ flat_map (procs_of t) t.main = ap (λ (z : Program). z.procs) becomes ∙ procs_are t in
      record {
        of_queries = λ d q v has own h. (let (c, is, good) = good_class becomes writes d has in (good.queries q own).constants v (asked_noted q v h));
        of_statements = λ d i x v has own k h. (
            let (c, is, good) = good_class becomes writes d has in
            let (items, among, within) = own in
            (good.items items among i within).exprs x k v h);
        of_setups = λ d call x v has is k h. (
            let (l, stands, own) = of_flat_map (procs_of t) t.main d (subst (λ z. Has z d) procs has) in
            let names = names_good 0 t.main (omega (arith, ap length procs)) in
            proc_good l d call names (back_fine (flat_map class_notes t.classes) (flat_map line_notes t.main) writes) own is x k v h);
      }
