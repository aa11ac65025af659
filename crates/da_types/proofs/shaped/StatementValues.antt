-- In what a process of a whole program knows, the values of a statement fit what it does with them.
use Rattle.std.specs.Prelude.{◌≡◌, refl, ℕ, Bool, true, List, [], ◌∷◌, map, Option, Some, None, Ok, Err, is_some, slice_get}
use Rattle.std.specs.List.{All}
use Rattle.std.proofs.Common.{◌∙◌, ap, sym, subst, inl, inr}
use Rattle.std.proofs.lemmas.Bool.{false≢true, and_parts, and_from}
use Rattle.da_values.specs.declared.val.Val.{Val}
use Rattle.da_values.specs.declared.val.Val.TheVariants as val
use Rattle.da_values.specs.Sets.{Has}
use Rattle.da_values.specs.Views.{elements_of}
use Rattle.da_values.proofs.Members.{Has-map}
use Rattle.da_values.proofs.ViewLaws.{elements_of-Set}
use Rattle.da_lang.specs.declared.program.Alt.{Alt}
use Rattle.da_lang.specs.declared.program.BindArg.{BindArg}
use Rattle.da_lang.specs.declared.program.Class.{Class}
use Rattle.da_lang.specs.declared.program.Handler.{Handler}
use Rattle.da_lang.specs.declared.program.Item.{Item}
use Rattle.da_lang.specs.declared.program.ItemKind.{ItemKind}
use Rattle.da_lang.specs.declared.program.ItemKind.TheOpen.{ItemKind-F}
use Rattle.da_lang.specs.declared.program.ItemKind.TheViews.{out-Alt, out-RBranch}
use Rattle.da_lang.specs.declared.program.ProcDecl.{ProcDecl}
use Rattle.da_lang.specs.declared.program.Program.{Program}
use Rattle.da_lang.specs.declared.program.RBranch.{RBranch}
use Rattle.da_lang.specs.declared.program.RExpr.{RExpr, out-RExpr}
use Rattle.da_lang.specs.declared.program.SetupCall.{SetupCall}
use Rattle.da_lang.specs.declared.ty.Ty.{Ty}
use Rattle.da_lang.specs.declared.ty.Ty.TheVariants as t
use Rattle.da_lang.specs.Arithmetic.{Outcome}
use Rattle.da_lang.specs.Evaluation.{Outcomes, in_order, with_first, eval, eval_all}
use Rattle.da_lang.specs.ExprTypes.{ExprType, truth}
use Rattle.da_lang.specs.Matching.{Row, matched_entry}
use Rattle.da_lang.specs.Queries.{least_row}
use Rattle.da_lang.specs.QueryTypes.{Known, given, is_typed, message_type, query_row, slot_type}
use Rattle.da_lang.specs.Shaped.{ShapedData, HasType, IsSetUp, IsItemOf, IsOf, IsEntry}
use Rattle.da_lang.specs.Turns.{kind_of, recipients, slot_of_arg, value_of_arg}
use Rattle.da_lang.specs.Types.{element_of, is_bool}
use Rattle.da_lang.specs.Typing.{typed, known, fits_slot, is_recipient, fits_params, found_row, has_type, have_found, have_types, handler_row, args_fit, item_breaks, message_tag}
use Rattle.da_lang.specs.World.{Data, Entry, at_number, class_of_decl}
use Rattle.da_types.specs.Constants.{exprs_in, exprs_of, expr_constants}
use Rattle.da_types.specs.KeepsShaped.{FitsSlot, FitsElement, FitSlots, MaySend}
use Rattle.da_types.proofs.shaped.DataKept.{row_fits_slots}
use Rattle.da_types.proofs.shaped.ExprValues.{AreThere, IsRight, expr_right}
use Rattle.da_types.proofs.shaped.Known.{IsWholeProgram, meets}
use Rattle.da_types.proofs.shaped.Messages.{message_nested, message_typed, receivers_there, value_tag}
use Rattle.da_types.proofs.shaped.Rules.{assign_rule, add_rule, del_rule, send_rule, output_rule, while_rule, for_rule, call_rule, branch_rule, alt_rule, handler_rule, args_rule}
use Rattle.da_types.proofs.shaped.Wholes.{WholeOf, WholeEach, Gives, as_is_of, all_are_of, set_parts}
use Rattle.da_types.proofs.totality.Awaits.{item_keeps}
use Rattle.da_types.proofs.totality.KindLaws.{given_parts, holds_parts, is_typed_parts, bool_of_type, bool_type, set_type}
use Rattle.da_types.proofs.totality.WholeValues.{whole_least, whole_handler}
use Rattle.da_types.proofs.totality.Worlds.{class_has, numbered_has}

-- the values of several expressions
with_first_parts : (v : Val) (os : Outcomes) (vs : List Val) → with_first v os ≡ Ok vs → (rest : List Val) × (os ≡ Ok rest) × (vs ≡ v ∷ rest)
with_first_parts v (Err kind) vs e = absurd (cc)
with_first_parts v (Ok rest) vs e = (rest, refl, cc)

in_order_parts : (o : Outcome) (os : List Outcome) (vs : List Val) → in_order (o ∷ os) ≡ Ok vs → (v : Val) × (rest : List Val) × (o ≡ Ok v) × (in_order os ≡ Ok rest) × (vs ≡ v ∷ rest)
in_order_parts (Err kind) os vs e = absurd (cc)
in_order_parts (Ok v) os vs e = let (rest, others, same) = with_first_parts v (in_order os) vs e in (v, rest, refl, others, same)

there_is : {A : Type 0} (x : Option A) → is_some x ≡ true → (a : A) × (x ≡ Some a)
there_is None e = absurd (false≢true e)
there_is (Some a) e = (a, refl)

set_up_parts : (found : Option ProcDecl) (call : SetupCall) → IsSetUp found call → (decl : ProcDecl) × (found ≡ Some decl) × (decl.setup ≡ Some call)
set_up_parts None call is = absurd is
set_up_parts (Some decl) call is = (decl, refl, is)

-- the elements of a whole set
all_in : (p : Program) (ty : Ty) (v : Val) (vs : List Val) → v ≡ val.Set vs → WholeEach p ty vs → All (IsOf p ty) (elements_of v)
all_in p ty v vs same each = subst (All (IsOf p ty)) {x = vs} (sym (ap elements_of same ∙ elements_of-Set vs)) (all_are_of p ty vs each)

elements_are : (p : Program) (ty : Ty) (v : Val) → WholeOf p (t.Set ty) v → All (IsOf p ty) (elements_of v)
elements_are p ty v one = let (vs, same, each, up) = set_parts p ty v one in all_in p ty v vs same each

module _ (p : Program) (c : Class) (d : Data) (f : IsWholeProgram p) (s : ShapedData p c d) where
  abbrev known_of : Known
  known_of = known p.messages c.queries c.slots

  abbrev type_of : RExpr → ExprType
  type_of x = typed p.messages c.queries c.slots x

  abbrev value : RExpr → Outcome
  value x = eval c.queries x d

  in_class : Has p.classes c
  in_class = class_has p d.me c s.is_class

  -- an expression whose constants are there
  right : (x : RExpr) → AreThere p (expr_constants x) → IsRight p (type_of x) (value x)
  right x there = expr_right p known_of c.queries d (meets p c d f s) x there

  found_value : (ty : Ty) (x : RExpr) (v : Val) → Gives p ty (value x) → value x ≡ Ok v → WholeOf p ty v
  found_value ty x v gives is = subst (Gives p ty) is gives

  of_type : (x : RExpr) (ty : Ty) (v : Val) → AreThere p (expr_constants x) → (type_of x).type_ ≡ Some ty → value x ≡ Ok v → WholeOf p ty v
  of_type x ty v there e is = found_value ty x v ((right x there).itself ty e) is

  of_fit : (x : RExpr) (ty : Ty) (v : Val) → AreThere p (expr_constants x) → (type_of x).fits ty ≡ true → value x ≡ Ok v → WholeOf p ty v
  of_fit x ty v there e is = found_value ty x v ((right x there).fitting ty e) is

  -- the value of an expression that fits a slot
  fits_slot_value : (slot : ℕ) (x : RExpr) (v : Val) → AreThere p (expr_constants x) → fits_slot p.messages c.queries c.slots slot x ≡ true → value x ≡ Ok v → FitsSlot p c slot v
  fits_slot_value slot x v there e is =
      let (ty, has, fits) = holds_parts (slot_type known_of slot) (type_of x).fits e in
      record { type' = ty; has = has; is = as_is_of p ty v (of_fit x ty v there fits is) }

  truth_value : (x : RExpr) (v : Val) → AreThere p (expr_constants x) → truth (type_of x) ≡ true → value x ≡ Ok v → (b : Bool) × (v ≡ val.Bool b)
  truth_value x v there e is =
      let (ty, has, bool) = holds_parts (type_of x).type_ is_bool e in
      bool_of_type v (of_type x t.Bool v there (has ∙ ap Some (bool_type ty bool)) is).0

  -- a row fits what a `some` binds
  row_of_found : (n : ℕ) (binds : List ℕ) (row : Row) → have_found p.messages c.queries c.slots (Some n) binds ≡ true → least_row c.queries n d ≡ Some row → FitSlots p c binds row
  row_of_found n binds row e is =
      let (types, found, have) = holds_parts (found_row p.messages c.queries (Some n) c.slots) (have_types p.messages c.queries c.slots binds) e in
      let (q, asks, over) = given_parts (at_number c.queries n) (query_row known_of) types found in
      row_fits_slots p c binds types row have (whole_least p f.few c d s n q types row asks over is)

  -- arguments fit their parameters
  fit_args : (slots : List ℕ) (xs : List RExpr) (vs : List Val) → ((x : RExpr) → Has xs x → AreThere p (expr_constants x)) → args_fit p.messages c slots xs ≡ true → eval_all c.queries xs d ≡ Ok vs → FitSlots p c slots vs
  fit_args [] xs vs there e is = tt
  fit_args (slot ∷ slots) [] vs there e is = let none : [] ≡ vs = cc in subst (FitSlots p c (slot ∷ slots)) none tt
  fit_args (slot ∷ slots) (x ∷ xs) vs there e is =
      let (v, rest, first, others, same) = in_order_parts (value x) (map value xs) vs is in
      let both = and_parts (fits_slot p.messages c.queries c.slots slot x) (args_fit p.messages c slots xs) e in
      subst (FitSlots p c (slot ∷ slots)) (sym same) (fits_slot_value slot x v (there x (inl refl)) both.0 first, fit_args slots xs rest (λ y h. there y (inr h)) both.1 others)

  params_args : (args : List BindArg) → fits_params p.messages c.queries c.slots args ≡ true → args_fit p.messages c (map slot_of_arg args) (map value_of_arg args) ≡ true
  params_args [] e = refl
  params_args (a ∷ args) e =
      let both = and_parts (fits_slot p.messages c.queries c.slots a.slot a.value) (fits_params p.messages c.queries c.slots args) e in
      and_from (fits_slot p.messages c.queries c.slots a.slot a.value) (args_fit p.messages c (map slot_of_arg args) (map value_of_arg args)) both.0 (params_args args both.1)

  -- those of the line that sets the process up
  pub setup_args_fit : (call : SetupCall) (vs : List Val) → IsSetUp (at_number p.procs d.me) call → eval_all c.queries call.args d ≡ Ok vs → FitSlots p c c.params vs
  setup_args_fit call vs is e =
      let (decl, there, set_up) = set_up_parts (at_number p.procs d.me) call is in
      let among = numbered_has p.procs d.me decl there in
      let class_is : slice_get p.classes decl.class ≡ Some c = ap (class_of_decl p) (sym there) ∙ s.is_class in
      fit_args c.params call.args vs (λ x h v among_it. f.constants.of_setups decl call x v among set_up h among_it) (args_rule p f.typed.keeps c decl call among class_is set_up) e

  -- the row that a handler's patterns take from a message fits its slots
  pub handler_row_fits : (h : Handler) (e : Entry) (row : Row) → Has c.handlers h → IsEntry p e → matched_entry d h.message h.from e.message e.peer [] ≡ Some row → FitSlots p c h.binds row
  handler_row_fits h e row among is found =
      let (types, over, have) = holds_parts (handler_row p.messages c.queries h c.slots) (have_types p.messages c.queries c.slots h.binds) (handler_rule p f.typed.keeps c h in_class among) in
      row_fits_slots p c h.binds types row have (whole_handler p f.few c d s h e types row is over found)

  -- A STATEMENT OF THE CLASS
  module _ (i : Item) (stands : IsItemOf c i) where
    keeps : item_breaks p.messages c.queries c.slots i ≡ []
    keeps = item_keeps p c f.typed.keeps in_class i stands

    there_in : (x : RExpr) → Has (exprs_of i) x → AreThere p (expr_constants x)
    there_in x h v among = f.constants.of_statements c i x v in_class stands h among

    there_by : (k : ItemKind-F ItemKind Alt Item RBranch) (x : RExpr) → kind_of i ≡ k → Has (exprs_in k) x → AreThere p (expr_constants x)
    there_by k x is h = there_in x (subst (λ z. Has (exprs_in z) x) (sym is) h)

    there_by_args : (args : List BindArg) (body : List Item) → kind_of i ≡ ItemKind-F.Call args body → (x : RExpr) → Has (map value_of_arg args) x → AreThere p (expr_constants x)
    there_by_args args body is x h = there_by (ItemKind-F.Call args body) x is h

    -- what is assigned to a slot is of its type
    pub assigned_fits : (slot : ℕ) (x : RExpr) (v : Val) → kind_of i ≡ ItemKind-F.Assign slot x → value x ≡ Ok v → FitsSlot p c slot v
    assigned_fits slot x v is e =
        fits_slot_value slot x v (there_by (ItemKind-F.Assign slot x) x is (inl refl)) (assign_rule p.messages c.queries c.slots i keeps slot x is) e

    -- what is added or deleted is of the type of the elements of its slot
    pub added_fits : (slot : ℕ) (x : RExpr) (v : Val) → kind_of i ≡ ItemKind-F.Add slot x → value x ≡ Ok v → FitsElement p c slot v
    added_fits slot x v is e =
        let (element, found, fits) = holds_parts (given (slot_type known_of slot) element_of) (type_of x).fits (add_rule p.messages c.queries c.slots i keeps slot x is) in
        let (ty, has, set) = given_parts (slot_type known_of slot) element_of element found in
        record { element = element; has = has ∙ ap Some (set_type ty element set); is = as_is_of p element v (of_fit x element v (there_by (ItemKind-F.Add slot x) x is (inl refl)) fits e) }

    pub deleted_fits : (slot : ℕ) (x : RExpr) (v : Val) → kind_of i ≡ ItemKind-F.Del slot x → value x ≡ Ok v → FitsElement p c slot v
    deleted_fits slot x v is e =
        let (element, found, fits) = holds_parts (given (slot_type known_of slot) element_of) (is_typed (type_of x).type_) (del_rule p.messages c.queries c.slots i keeps slot x is) in
        let (ty, has, set) = given_parts (slot_type known_of slot) element_of element found in
        record { element = element; has = has ∙ ap Some (set_type ty element set); is = as_is_of p element v (of_type x element v (there_by (ItemKind-F.Del slot x) x is (inl refl)) (is_typed_parts (type_of x).type_ element fits) e) }

    -- what is sent is a declared message, and goes to processes that are there
    pub sent_fits : (x to : RExpr) (m w : Val) → kind_of i ≡ ItemKind-F.Send x to → value x ≡ Ok m → value to ≡ Ok w → MaySend p m (recipients w)
    sent_fits x to m w is message receivers =
        let (first, second) = send_rule p.messages c.queries c.slots i keeps x to is in
        let (ty, found, fits) = holds_parts (given (message_tag (out-RExpr x)) (message_type known_of)) (type_of x).fits first in
        let (tag, tagged, over) = given_parts (message_tag (out-RExpr x)) (message_type known_of) ty found in
        let one = of_fit x ty m (there_by (ItemKind-F.Send x to) x is (inl refl)) fits message in
        let (to_type, has, goes) = holds_parts (type_of to).type_ (is_recipient p.messages c.queries c.slots) second in
        record {
          proper = one.1.0;
          typed = message_typed p known_of tag ty m refl over (value_tag c.queries d x tag m tagged message) one;
          nested = message_nested known_of tag ty m over one.0;
          receivers = receivers_there p to_type w goes (of_type to to_type w (there_by (ItemKind-F.Send x to) to is (inr (inl refl))) has receivers);
        }

    -- what is output is a value of some type
    pub output_whole : (x : RExpr) (v : Val) → kind_of i ≡ ItemKind-F.Output x → value x ≡ Ok v → (ty : Ty) × IsOf p ty v
    output_whole x v is e =
        let (ty, has) = there_is (type_of x).type_ (output_rule p.messages c.queries c.slots i keeps x is) in
        (ty, as_is_of p ty v (of_type x ty v (there_by (ItemKind-F.Output x) x is (inl refl)) has e))

    -- conditions are truth values
    pub while_truth : (x : RExpr) (body : List Item) (v : Val) → kind_of i ≡ ItemKind-F.While x body → value x ≡ Ok v → (b : Bool) × (v ≡ val.Bool b)
    while_truth x body v is e = truth_value x v (there_by (ItemKind-F.While x body) x is (inl refl)) (while_rule p.messages c.queries c.slots i keeps x body is) e

    pub branch_truth : (branches : List RBranch) (other : List Item) (b : RBranch) (v : Val) → kind_of i ≡ ItemKind-F.If branches other → Has branches b → value (out-RBranch b).cond ≡ Ok v → (truth' : Bool) × (v ≡ val.Bool truth')
    branch_truth branches other b v is h e =
        truth_value (out-RBranch b).cond v (there_by (ItemKind-F.If branches other) (out-RBranch b).cond is (Has-map (λ b. (out-RBranch b).cond) branches b h)) (branch_rule p.messages c.queries c.slots i keeps branches other b is h).0 e

    -- the row that a branch or an alternative binds fits its slots
    pub branch_row_fits : (branches : List RBranch) (other : List Item) (b : RBranch) (n : ℕ) (row : Row) → kind_of i ≡ ItemKind-F.If branches other → Has branches b → (out-RBranch b).found ≡ Some n → least_row c.queries n d ≡ Some row → FitSlots p c (out-RBranch b).binds row
    branch_row_fits branches other b n row is h finds found =
        row_of_found n (out-RBranch b).binds row (ap (λ z. have_found p.messages c.queries c.slots z (out-RBranch b).binds) (sym finds) ∙ (branch_rule p.messages c.queries c.slots i keeps branches other b is h).1) found

    pub alt_row_fits : (alts : List Alt) {timeout : Option (List Item)} {label : Option ℕ} (a : Alt) (n : ℕ) (row : Row) → kind_of i ≡ ItemKind-F.Await alts timeout label → Has alts a → (out-Alt a).found ≡ Some n → least_row c.queries n d ≡ Some row → FitSlots p c (out-Alt a).binds row
    alt_row_fits alts a n row is h finds found =
        row_of_found n (out-Alt a).binds row (ap (λ z. have_found p.messages c.queries c.slots z (out-Alt a).binds) (sym finds) ∙ (alt_rule p.messages c.queries c.slots i keeps alts a is h).1) found

    -- the elements that a loop goes through are of the type of its slot
    pub elements_fit : (slot : ℕ) (x : RExpr) (body : List Item) (v : Val) → kind_of i ≡ ItemKind-F.For slot x body → value x ≡ Ok v → (element : Ty) × HasType c slot element × All (IsOf p element) (elements_of v)
    elements_fit slot x body v is e =
        let (element, found, has) = holds_parts (given (type_of x).type_ element_of) (has_type p.messages c.queries c.slots slot) (for_rule p.messages c.queries c.slots i keeps slot x body is) in
        let (ty, own, set) = given_parts (type_of x).type_ element_of element found in
        (element, is_typed_parts (slot_type known_of slot) element has, elements_are p element v (of_type x (t.Set element) v (there_by (ItemKind-F.For slot x body) x is (inl refl)) (own ∙ ap Some (set_type ty element set)) e))

    -- the arguments of a call fit its parameters
    pub args_fit_params : (args : List BindArg) (body : List Item) (vs : List Val) → kind_of i ≡ ItemKind-F.Call args body → eval_all c.queries (map value_of_arg args) d ≡ Ok vs → FitSlots p c (map slot_of_arg args) vs
    args_fit_params args body vs is e =
        fit_args (map slot_of_arg args) (map value_of_arg args) vs (there_by_args args body is) (params_args args (call_rule p.messages c.queries c.slots i keeps args body is)) e
