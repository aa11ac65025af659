-- Of a statement of a whole program: its expressions have types, so that the slots and queries that they name are there, and
-- as many slots are bound as there are values.
use Rattle.std.specs.Prelude.{◌≡◌, refl, ℕ, suc, true, List, [], ◌∷◌, length, Option, Some, None, is_some, slice_get}
use Rattle.std.proofs.Common.{◌∙◌, ap, sym, subst, inl, inr, arith}
use Rattle.std.proofs.lemmas.Bool.{false≢true, and_parts}
use Rattle.da_values.specs.Sets.{Has}
use Rattle.da_values.proofs.Members.{each_from_all, of_map}
use Rattle.da_lang.specs.declared.program.Alt.{Alt}
use Rattle.da_lang.specs.declared.program.BindArg.{BindArg}
use Rattle.da_lang.specs.declared.program.Class.{Class}
use Rattle.da_lang.specs.declared.program.Handler.{Handler}
use Rattle.da_lang.specs.declared.program.Item.{Item}
use Rattle.da_lang.specs.declared.program.ItemKind.{ItemKind}
use Rattle.da_lang.specs.declared.program.ItemKind.TheOpen.{ItemKind-F}
use Rattle.da_lang.specs.declared.program.ItemKind.TheViews.{out-Alt, out-RBranch}
use Rattle.da_lang.specs.declared.program.ProcDecl.{ProcDecl}
use Rattle.da_lang.specs.declared.program.Program.{Program}
use Rattle.da_lang.specs.declared.program.RBranch.{RBranch}
use Rattle.da_lang.specs.declared.program.RExpr.{RExpr, out-RExpr}
use Rattle.da_lang.specs.declared.program.SetupCall.{SetupCall}
use Rattle.da_lang.specs.declared.ty.Ty.{Ty}
use Rattle.da_lang.specs.ExprTypes.{ExprType, truth}
use Rattle.da_lang.specs.Matching.{Row, matched_entry}
use Rattle.da_lang.specs.Queries.{least_row}
use Rattle.da_lang.specs.QueryTypes.{Known, given, is_typed, message_type, query_row, slot_type}
use Rattle.da_lang.specs.Shaped.{ShapedData, IsEntry, IsItemOf}
use Rattle.da_lang.specs.Turns.{kind_of}
use Rattle.da_lang.specs.Types.{element_of, is_bool}
use Rattle.da_lang.specs.Typing.{args_fit, fits_slot, found_row, handler_row, has_type, have_found, have_types, is_recipient, item_breaks, known, message_tag, typed}
use Rattle.da_lang.specs.World.{Data, Entry, at_number}
use Rattle.da_types.specs.Constants.{exprs_in, exprs_of}
use Rattle.da_types.specs.KeepsShaped.{IsTypable}
use Rattle.da_types.proofs.shaped.Known.{IsWholeProgram}
use Rattle.da_types.proofs.shaped.Rules.{assign_rule, add_rule, del_rule, send_rule, output_rule, while_rule, for_rule, call_rule, branch_rule, alt_rule, args_rule, handler_rule}
use Rattle.da_types.proofs.shaped.Wholes.{WholeRow}
use Rattle.da_types.proofs.totality.Awaits.{item_keeps}
use Rattle.da_types.proofs.totality.KindLaws.{given_parts, holds_parts, is_typed_parts}
use Rattle.da_types.proofs.totality.WholeValues.{whole_least, whole_handler}
use Rattle.da_types.proofs.totality.Worlds.{class_has}

by_some : (x : ExprType) → is_some x.type_ ≡ true → IsTypable x
by_some x e = go x.type_ refl e
  where
    go : (found : Option Ty) → x.type_ ≡ found → is_some found ≡ true → IsTypable x
    go None is e = absurd (false≢true e)
    go (Some ty) is e = (ty, inl is)

-- A STATEMENT OF A CLASS OF A WHOLE PROGRAM
module _ (p : Program) (c : Class) (f : IsWholeProgram p) (in_class : Has p.classes c) where
  abbrev known_of : Known
  known_of = known p.messages c.queries c.slots

  abbrev type_of : RExpr → ExprType
  type_of x = typed p.messages c.queries c.slots x

  of_truth : (x : RExpr) → truth (type_of x) ≡ true → IsTypable (type_of x)
  of_truth x e = let (ty, has, holds) = holds_parts (type_of x).type_ is_bool e in (ty, inl has)

  of_slot : (slot : ℕ) (x : RExpr) → fits_slot p.messages c.queries c.slots slot x ≡ true → IsTypable (type_of x)
  of_slot slot x e = let (ty, has, fits) = holds_parts (slot_type known_of slot) (type_of x).fits e in (ty, inr fits)

  only : (y x : RExpr) → Has (y ∷ []) x → IsTypable (type_of y) → IsTypable (type_of x)
  only y x (inl same) typable = subst (λ z. IsTypable (type_of z)) (sym same) typable
  only y x (inr none) typable = absurd none

  either : (y z x : RExpr) → Has (y ∷ z ∷ []) x → IsTypable (type_of y) → IsTypable (type_of z) → IsTypable (type_of x)
  either y z x (inl same) first second = only y x (inl same) first
  either y z x (inr h) first second = only z x h second

  -- the arguments of a line of `setup`, where they are as many as the parameters
  args_typable : (slots : List ℕ) (xs : List RExpr) → length xs ≡ length slots → args_fit p.messages c slots xs ≡ true → (x : RExpr) → Has xs x → IsTypable (type_of x)
  args_typable slots [] same e x h = absurd h
  args_typable [] (y ∷ ys) same e x h = absurd (omega (arith, same))
  args_typable (slot ∷ slots) (y ∷ ys) same e x h =
      let both = and_parts (fits_slot p.messages c.queries c.slots slot y) (args_fit p.messages c slots ys) e in
      elim h [ inl is ↦ only y x (inl is) (of_slot slot y both.0) | inr there ↦ args_typable slots ys (omega (arith, same)) both.1 x there ]

  pub setup_args_typable : (decl : ProcDecl) (call : SetupCall) → Has p.procs decl → slice_get p.classes decl.class ≡ Some c → decl.setup ≡ Some call → length call.args ≡ length c.params → (x : RExpr) → Has call.args x → IsTypable (type_of x)
  setup_args_typable decl call among class_is set_up same x h = args_typable c.params call.args same (args_rule p f.typed.keeps c decl call among class_is set_up) x h

  module _ (i : Item) (stands : IsItemOf c i) where
    keeps : item_breaks p.messages c.queries c.slots i ≡ []
    keeps = item_keeps p c f.typed.keeps in_class i stands

    of_kind : (k : ItemKind-F ItemKind Alt Item RBranch) → kind_of i ≡ k → (x : RExpr) → Has (exprs_in k) x → IsTypable (type_of x)
    of_kind (ItemKind-F.Assign slot y) is x h = only y x h (of_slot slot y (assign_rule p.messages c.queries c.slots i keeps slot y is))
    of_kind (ItemKind-F.Add slot y) is x h =
        let (element, found, fits) = holds_parts (given (slot_type known_of slot) element_of) (type_of y).fits (add_rule p.messages c.queries c.slots i keeps slot y is) in
        only y x h (element, inr fits)
    of_kind (ItemKind-F.Del slot y) is x h =
        let (element, found, fits) = holds_parts (given (slot_type known_of slot) element_of) (is_typed (type_of y).type_) (del_rule p.messages c.queries c.slots i keeps slot y is) in
        only y x h (element, inl (is_typed_parts (type_of y).type_ element fits))
    of_kind (ItemKind-F.Send y to) is x h =
        let (first, second) = send_rule p.messages c.queries c.slots i keeps y to is in
        let (ty, found, fits) = holds_parts (given (message_tag (out-RExpr y)) (message_type known_of)) (type_of y).fits first in
        let (to_type, has, goes) = holds_parts (type_of to).type_ (is_recipient p.messages c.queries c.slots) second in
        either y to x h (ty, inr fits) (to_type, inl has)
    of_kind (ItemKind-F.Output y) is x h = only y x h (by_some (type_of y) (output_rule p.messages c.queries c.slots i keeps y is))
    of_kind (ItemKind-F.If branches other) is x h =
        let (b, among, same) = of_map (λ b. (out-RBranch b).cond) branches x h in
        only (out-RBranch b).cond x (inl same) (of_truth (out-RBranch b).cond (branch_rule p.messages c.queries c.slots i keeps branches other b is among).0)
    of_kind (ItemKind-F.While y body) is x h = only y x h (of_truth y (while_rule p.messages c.queries c.slots i keeps y body is))
    of_kind (ItemKind-F.For slot y body) is x h =
        let (element, found, has) = holds_parts (given (type_of y).type_ element_of) (has_type p.messages c.queries c.slots slot) (for_rule p.messages c.queries c.slots i keeps slot y body is) in
        let (ty, own, set) = given_parts (type_of y).type_ element_of element found in
        only y x h (ty, inl own)
    of_kind (ItemKind-F.Call args body) is x h =
        let (a, among, same) = of_map (λ (a : BindArg). a.value) args x h in
        only a.value x (inl same) (of_slot a.slot a.value (each_from_all (λ (a : BindArg). fits_slot p.messages c.queries c.slots a.slot a.value) args a (call_rule p.messages c.queries c.slots i keeps args body is) among))
    of_kind (ItemKind-F.Await alts timeout label) is x h = absurd h
    of_kind (ItemKind-F.Label l) is x h = absurd h
    of_kind ItemKind-F.Pass is x h = absurd h

    -- each expression of the statement has a type, or fits one
    pub exprs_typable : (x : RExpr) → Has (exprs_of i) x → IsTypable (type_of x)
    exprs_typable x h = of_kind (kind_of i) refl x h

-- AS MANY SLOTS ARE BOUND AS A ROW HAS PARTS
as_many : (p : Program) (c : Class) (binds : List ℕ) (types : List Ty) (row : Row) → have_types p.messages c.queries c.slots binds types ≡ true → WholeRow p types row → length binds ≡ length row
as_many p c [] [] [] e fits = refl
as_many p c [] [] (v ∷ vs) e fits = absurd fits
as_many p c [] (ty ∷ types) row e fits = absurd (false≢true e)
as_many p c (s ∷ ss) [] row e fits = absurd (false≢true e)
as_many p c (s ∷ ss) (ty ∷ types) [] e fits = absurd fits
as_many p c (s ∷ ss) (ty ∷ types) (v ∷ vs) e fits = ap suc (as_many p c ss types vs (and_parts (has_type p.messages c.queries c.slots s ty) (have_types p.messages c.queries c.slots ss types) e).1 fits.1)

module _ (p : Program) (c : Class) (d : Data) (f : IsWholeProgram p) (s : ShapedData p c d) where
  size_of_found : (n : ℕ) (binds : List ℕ) (row : Row) → have_found p.messages c.queries c.slots (Some n) binds ≡ true → least_row c.queries n d ≡ Some row → length binds ≡ length row
  size_of_found n binds row e is =
      let (types, found, have) = holds_parts (found_row p.messages c.queries (Some n) c.slots) (have_types p.messages c.queries c.slots binds) e in
      let (q, asks, over) = given_parts (at_number c.queries n) (query_row (known p.messages c.queries c.slots)) types found in
      as_many p c binds types row have (whole_least p f.few c d s n q types row asks over is)

  pub handler_row_size : (h : Handler) (e : Entry) (row : Row) → Has c.handlers h → IsEntry p e → matched_entry d h.message h.from e.message e.peer [] ≡ Some row → length h.binds ≡ length row
  handler_row_size h e row among is found =
      let (types, over, have) = holds_parts (handler_row p.messages c.queries h c.slots) (have_types p.messages c.queries c.slots h.binds) (handler_rule p f.typed.keeps c h (class_has p d.me c s.is_class) among) in
      as_many p c h.binds types row have (whole_handler p f.few c d s h e types row is over found)

  module _ (i : Item) (stands : IsItemOf c i) where
    kept : item_breaks p.messages c.queries c.slots i ≡ []
    kept = item_keeps p c f.typed.keeps (class_has p d.me c s.is_class) i stands

    pub branch_row_size : (branches : List RBranch) (other : List Item) (b : RBranch) (n : ℕ) (row : Row) → kind_of i ≡ ItemKind-F.If branches other → Has branches b → (out-RBranch b).found ≡ Some n → least_row c.queries n d ≡ Some row → length (out-RBranch b).binds ≡ length row
    branch_row_size branches other b n row is h finds found =
        size_of_found n (out-RBranch b).binds row (ap (λ z. have_found p.messages c.queries c.slots z (out-RBranch b).binds) (sym finds) ∙ (branch_rule p.messages c.queries c.slots i kept branches other b is h).1) found

    pub alt_row_size : (alts : List Alt) {timeout : Option (List Item)} {label : Option ℕ} (a : Alt) (n : ℕ) (row : Row) → kind_of i ≡ ItemKind-F.Await alts timeout label → Has alts a → (out-Alt a).found ≡ Some n → least_row c.queries n d ≡ Some row → length (out-Alt a).binds ≡ length row
    alt_row_size alts a n row is h finds found =
        size_of_found n (out-Alt a).binds row (ap (λ z. have_found p.messages c.queries c.slots z (out-Alt a).binds) (sym finds) ∙ (alt_rule p.messages c.queries c.slots i kept alts a is h).1) found
