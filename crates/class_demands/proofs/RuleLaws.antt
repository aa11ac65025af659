-- The rules of single statements are what these demand.
use Rattle.std.specs.Prelude.{◌≡◌, refl, ℕ, Bool, true, false, ◌&&◌, is_some, List, [], ◌∷◌, ◌++◌, flat_map, Option, Some, None}
use Rattle.std.proofs.Common.{◌∙◌, ap, ap₂, sym}
use Rattle.std.proofs.lemmas.Bool.{false≢true}
use Rattle.da_lang.specs.declared.program.BindArg.{BindArg}
use Rattle.da_lang.specs.declared.program.ChainPart.{ChainPart}
use Rattle.da_lang.specs.declared.program.Handler.{Handler}
use Rattle.da_lang.specs.declared.program.RExpr.{RExpr, out-RExpr, roll-out-RExpr}
use Rattle.da_lang.specs.declared.program.RExpr.TheFolds.{map-RExpr}
use Rattle.da_lang.specs.declared.program.RExpr.TheOpen.{RExpr-F}
use Rattle.da_lang.specs.declared.query.Query.{Query}
use Rattle.da_lang.specs.declared.tree.MessageDecl.{MessageDecl}
use Rattle.da_lang.specs.declared.ty.Ty.{Ty}
use Rattle.da_lang.specs.declared.ty.Ty.TheVariants as t
use Rattle.da_lang.specs.ExprTypes.{ExprType, truth}
use Rattle.da_lang.specs.QueryTypes.{given, holds_of, is_typed, flat, slot_type, message_type, message_row, pattern_row, query_row}
use Rattle.da_lang.specs.Types.{is_flat, is_bool, element_of}
use Rattle.da_lang.specs.Typing as typing
use Rattle.da_lang.specs.Typing.{Slots, known, typed, message_tag, found_row, handler_row, is_recipient}
use Rattle.da_lang.specs.World.{at_number}
use Rattle.type_table.specs.declared.scheme.Scheme.{Scheme}
use Rattle.type_table.specs.declared.scheme.Scheme.TheVariants as s
use Rattle.type_table.specs.Fits.{Meaning}
use Rattle.type_table.specs.Schemes.{stands}
use Rattle.type_table.proofs.SchemeLaws.{stands_proc}
use Rattle.type_demands.specs.declared.demand.Demand.{Demand}
use Rattle.type_demands.specs.declared.demand.Demand.TheVariants as d
use Rattle.type_demands.specs.Demands.{all_met}
use Rattle.type_demands.specs.Exprs.{ExprSym, FurtherSym, expr_sym, expr_sym_step, further_sym, further_asks, is_one, right_asks, syms}
use Rattle.type_demands.specs.Meets.{Means, Agrees, Stand, RowAgrees}
use Rattle.type_demands.specs.Syms.{Sym, Context, found, demanding, flat_sym, same_as, tuple_sym, literal_sym}
use Rattle.type_demands.specs.Conds.{asked_sym}
use Rattle.type_demands.specs.Terms.{RowSym, message_sym, pattern_sym, element_sym}
use Rattle.type_demands.proofs.ExprsAt.{sym-layer}
use Rattle.type_demands.proofs.FoundLaws.{guard, and_false, met_both, met_last, tests_found, test_found, flat_found, same_found, element_found}
use Rattle.type_demands.proofs.RowLaws.{then_agrees}
use Rattle.class_demands.specs.Statements.{found_rows, handler_rows, fits_sym, fits_element, is_element, takes_elements, fits_message, fits_slot, fits_params, sends, have_types, have_row, have_found, args_fit}
use Rattle.class_demands.proofs.Below.{Below}

some_guard : {A : Type 0} (b : Bool) (x : A) → is_some (guard b (Some x)) ≡ b
some_guard true x = refl
some_guard false x = refl

none_guard : (b : Bool) → is_some (guard {A = Ty} b None) ≡ false
none_guard true = refl
none_guard false = refl

-- the arguments of a line of `setup` fit parameters
module _ (messages : List MessageDecl) (queries : List Query) (slots : Slots) where
  abbrev pub args_hold : List ℕ → List RExpr → Bool
  args_hold [] xs = true
  args_hold (param ∷ params) [] = true
  args_hold (param ∷ params) (x ∷ xs) = typing.fits_slot messages queries slots param x && args_hold params xs

module _ (m : Meaning) (headed : ℕ → Bool) where
  abbrev Met : List Demand → Bool
  Met ds = all_met m headed ds

  -- an expression fits what is found; fits its elements; is one of them
  fits_found : (o : Option Ty) (y : Sym) (e : ExprType) (x : ExprSym) → o ≡ found m headed y → Agrees m headed e x → holds_of o e.fits ≡ Met (fits_sym y x)
  fits_found o y e x is agrees = ap (λ z. holds_of z e.fits) is ∙ tests_found m headed y e.fits (x.fits y.scheme) (agrees.fits y.scheme)

  element_is : (o : Option Ty) (y : Sym) → o ≡ found m headed y → given o element_of ≡ found m headed (element_sym y)
  element_is o y is = ap (λ z. given z element_of) is ∙ element_found m headed y

  fits_elements : (o : Option Ty) (y : Sym) (e : ExprType) (x : ExprSym) → o ≡ found m headed y → Agrees m headed e x → holds_of (given o element_of) e.fits ≡ Met (fits_element y x)
  fits_elements o y e x is agrees = fits_found (given o element_of) (element_sym y) e x (element_is o y is) agrees

  same_of : (e : ExprType) (x : ExprSym) (asked : Scheme) → Agrees m headed e x → holds_of (stands m asked) (is_typed e.type_) ≡ Met (same_as asked x.itself)
  same_of e x asked agrees = ap (λ z. holds_of (stands m asked) (is_typed z)) agrees.types ∙ same_found m headed x.itself asked

  is_one_of : (o : Option Ty) (y : Sym) (e : ExprType) (x : ExprSym) → o ≡ found m headed y → Agrees m headed e x → holds_of (given o element_of) (is_typed e.type_) ≡ Met (is_element y x)
  is_one_of o y e x is agrees =
      ap (λ z. holds_of z (is_typed e.type_)) (element_is o y is)
      ∙ tests_found m headed (element_sym y) (is_typed e.type_) (same_as (s.Element y.scheme) x.itself) (same_of e x (s.Element y.scheme) agrees)

  -- what is found has the type of the elements
  takes_found : (o : Option Ty) (y : Sym) (e : ExprType) (x : ExprSym) → o ≡ found m headed y → Agrees m headed e x → holds_of (given e.type_ element_of) (λ ty. is_typed o ty) ≡ Met (takes_elements y x)
  takes_found o y e x is agrees =
      ap (λ z. holds_of z (λ ty. is_typed o ty)) (element_is e.type_ x.itself agrees.types)
      ∙ tests_found m headed (element_sym x.itself) (λ ty. is_typed o ty) (same_as (s.Element x.itself.scheme) y)
      (ap (λ z. holds_of (stands m (s.Element x.itself.scheme)) (is_typed z)) is ∙ same_found m headed y (s.Element x.itself.scheme))

  -- it has the type in a row
  typed_found : (o : Option Ty) (y : Sym) (asked : Scheme) (ty : Ty) → o ≡ found m headed y → stands m asked ≡ Some ty → is_typed o ty ≡ Met (same_as asked y)
  typed_found o y asked ty is stand = sym (ap (λ z. holds_of z (is_typed o)) stand) ∙ ap (λ z. holds_of (stands m asked) (is_typed z)) is ∙ same_found m headed y asked

  -- a type of at most 32 levels is there where its demands are met
  flat_there : (y : Sym) → is_some (found m headed (flat_sym y)) ≡ Met (flat_sym y).demands
  flat_there y = go (stands m y.scheme) refl
    where
      go : (o : Option Ty) → stands m y.scheme ≡ o → is_some (guard (all_met m headed (demanding d.Flat y)) (stands m y.scheme)) ≡ all_met m headed (demanding d.Flat y)
      go (Some ty) e = ap (λ z. is_some (guard (all_met m headed (demanding d.Flat y)) z)) e ∙ some_guard (all_met m headed (demanding d.Flat y)) ty
      go None e =
          ap (λ z. is_some (guard (all_met m headed (demanding d.Flat y)) z)) e ∙ none_guard (all_met m headed (demanding d.Flat y))
          ∙ sym (met_last m headed y.demands (d.Flat y.scheme) ∙ ap (λ z. all_met m headed y.demands && holds_of z is_flat) e ∙ and_false (all_met m headed y.demands))

  module _ (context : Context) (queries : List Query) where
    abbrev IsThere : Sym → Type 0
    IsThere y = is_some (found m headed y) ≡ Met y.demands

    layer_there : (x : RExpr-F ExprSym FurtherSym) → IsThere (expr_sym_step context queries x).itself
    layer_there (RExpr-F.Const value) = flat_there (literal_sym value)
    layer_there (RExpr-F.Procs processes) = flat_there (record { demands = []; scheme = s.Set s.Proc })
    layer_there RExpr-F.Me = flat_there (record { demands = []; scheme = s.Proc })
    layer_there (RExpr-F.Slot slot) = flat_there (context.slot slot)
    layer_there RExpr-F.Clock = flat_there (record { demands = []; scheme = s.Int })
    layer_there (RExpr-F.Ask query) = flat_there (asked_sym context (at_number queries query))
    layer_there (RExpr-F.Range x y) = flat_there (record { demands = is_one d.Int x ++ is_one d.Int y; scheme = s.Set s.Int })
    layer_there (RExpr-F.Tuple xs) = flat_there (tuple_sym (syms xs))
    layer_there (RExpr-F.SetOf []) = refl
    layer_there (RExpr-F.SetOf (x ∷ xs)) = flat_there (record { demands = x.itself.demands ++ flat_map (λ y. same_as x.itself.scheme y.itself) xs; scheme = s.Set x.itself.scheme })
    layer_there (RExpr-F.Or xs) = flat_there (record { demands = flat_map (is_one d.Truth) xs; scheme = s.Bool })
    layer_there (RExpr-F.And xs) = flat_there (record { demands = flat_map (is_one d.Truth) xs; scheme = s.Bool })
    layer_there (RExpr-F.Not x) = flat_there (record { demands = is_one d.Truth x; scheme = s.Bool })
    layer_there (RExpr-F.Cmp o x y) = flat_there (record { demands = x.itself.demands ++ right_asks o x.itself.scheme y; scheme = s.Bool })
    layer_there (RExpr-F.Member x y) = flat_there (record { demands = y.itself.demands ++ same_as (s.Element y.itself.scheme) x.itself; scheme = s.Bool })
    layer_there (RExpr-F.Chain x more) = flat_there (record { demands = x.itself.demands ++ flat_map (further_asks x.itself.scheme) more; scheme = x.itself.scheme })

    expr_there : (x : RExpr) → IsThere (expr_sym context queries x).itself
    expr_there x =
        let l = map-RExpr RExpr ChainPart ExprSym FurtherSym (expr_sym context queries) (further_sym context queries) (out-RExpr x) in
        let same : expr_sym context queries x ≡ expr_sym_step context queries l = ap (expr_sym context queries) (sym (roll-out-RExpr x)) ∙ sym-layer context queries (out-RExpr x) in
        ap (λ (y : ExprSym). is_some (found m headed y.itself)) same ∙ layer_there l ∙ sym (ap (λ (y : ExprSym). Met y.itself.demands) same)

  module _ (below : Below) (messages : List MessageDecl) (queries : List Query) (slots : Slots) (context : Context) (means : Means m headed (known messages queries slots) context) where
    abbrev T : RExpr → ExprType
    T x = typed messages queries slots x

    abbrev S : RExpr → ExprSym
    S x = expr_sym context queries x

    abbrev type_in : ℕ → Option Ty
    type_in slot = slot_type (known messages queries slots) slot

    pub agrees : (x : RExpr) → Agrees m headed (T x) (S x)
    agrees x = below.exprs m headed (known messages queries slots) context queries means x

    pub slot_met : (slot : ℕ) (x : RExpr) → typing.fits_slot messages queries slots slot x ≡ Met (fits_slot context queries slot x)
    slot_met slot x = fits_found (type_in slot) (context.slot slot) (T x) (S x) (means.slots slot) (agrees x)

    pub element_met : (slot : ℕ) (x : RExpr) → typing.fits_element messages queries slots slot x ≡ Met (fits_element (context.slot slot) (S x))
    element_met slot x = fits_elements (type_in slot) (context.slot slot) (T x) (S x) (means.slots slot) (agrees x)

    pub is_element_met : (slot : ℕ) (x : RExpr) → typing.is_element messages queries slots slot x ≡ Met (is_element (context.slot slot) (S x))
    is_element_met slot x = is_one_of (type_in slot) (context.slot slot) (T x) (S x) (means.slots slot) (agrees x)

    pub loop_met : (slot : ℕ) (x : RExpr) → typing.takes_elements messages queries slots slot x ≡ Met (takes_elements (context.slot slot) (S x))
    loop_met slot x = takes_found (type_in slot) (context.slot slot) (T x) (S x) (means.slots slot) (agrees x)

    pub truth_met : (x : RExpr) → truth (T x) ≡ Met (is_one d.Truth (S x))
    truth_met x = ap (λ z. holds_of z is_bool) (agrees x).types ∙ test_found m headed (S x).itself is_bool (d.Truth (S x).itself.scheme) refl

    pub output_met : (x : RExpr) → is_some (T x).type_ ≡ Met (S x).itself.demands
    output_met x = ap is_some (agrees x).types ∙ expr_there context queries x

    message_met : (x : RExpr) (tag : Option (List ℕ)) → holds_of (given tag (message_type (known messages queries slots))) (T x).fits ≡ Met (fits_message context tag (S x))
    message_met x None = refl
    message_met x (Some tag) =
        fits_found (message_type (known messages queries slots) tag) (flat_sym (context.message tag)) (T x) (S x)
        (ap (λ z. given z flat) (means.messages tag) ∙ flat_found m headed (context.message tag)) (agrees x)

    recipient_met : (x : RExpr) → holds_of (T x).type_ (is_recipient messages queries slots) ≡ Met (is_one d.Receives (S x))
    recipient_met x = ap (λ z. holds_of z (is_recipient messages queries slots)) (agrees x).types ∙ test_found m headed (S x).itself (is_recipient messages queries slots) (d.Receives (S x).itself.scheme) refl

    pub send_met : (x to : RExpr) → (typing.is_message messages queries slots x && holds_of (T to).type_ (is_recipient messages queries slots)) ≡ Met (sends context queries x to)
    send_met x to =
        ap₂ (λ a b. a && b) (message_met x (message_tag (out-RExpr x))) (recipient_met to)
        ∙ sym (met_both m headed (fits_message context (message_tag (out-RExpr x)) (S x)) (is_one d.Receives (S to)))

    pub params_met : (args : List BindArg) → typing.fits_params messages queries slots args ≡ Met (fits_params context queries args)
    params_met [] = refl
    params_met (a ∷ args) = ap₂ (λ b c. b && c) (slot_met a.slot a.value) (params_met args) ∙ sym (met_both m headed (fits_slot context queries a.slot a.value) (fits_params context queries args))

    pub args_met : (params : List ℕ) (xs : List RExpr) → args_hold messages queries slots params xs ≡ Met (args_fit context queries params xs)
    args_met [] xs = refl
    args_met (param ∷ params) [] = refl
    args_met (param ∷ params) (x ∷ xs) = ap₂ (λ b c. b && c) (slot_met param x) (args_met params xs) ∙ sym (met_both m headed (fits_slot context queries param x) (args_fit context queries params xs))

    -- slots have the types of a row
    types_met : (bs : List ℕ) (row : List Scheme) (types : List Ty) → Stand m headed row types → typing.have_types messages queries slots bs types ≡ Met (have_types context queries bs row)
    types_met [] [] [] so = refl
    types_met [] [] (ty ∷ types) so = absurd so
    types_met [] (x ∷ row) [] so = absurd so
    types_met [] (x ∷ row) (ty ∷ types) so = refl
    types_met (b ∷ bs) [] [] so = refl
    types_met (b ∷ bs) [] (ty ∷ types) so = absurd so
    types_met (b ∷ bs) (x ∷ row) [] so = absurd so
    types_met (b ∷ bs) (x ∷ row) (ty ∷ types) so =
        ap₂ (λ p q. p && q) (typed_found (type_in b) (context.slot b) x ty (means.slots b) so.0) (types_met bs row types so.1)
        ∙ sym (met_both m headed (same_as x (context.slot b)) (have_types context queries bs row))

    pub row_met : (bs : List ℕ) (o : Option (List Ty)) (rows : RowSym) → RowAgrees m headed o rows → holds_of o (typing.have_types messages queries slots bs) ≡ Met (have_row context queries bs rows)
    row_met bs o rows agree = go (Met rows.demands) refl
      where
        both : all_met m headed (rows.demands ++ have_types context queries bs rows.row) ≡ (all_met m headed rows.demands && all_met m headed (have_types context queries bs rows.row))
        both = met_both m headed rows.demands (have_types context queries bs rows.row)

        go : (b : Bool) → all_met m headed rows.demands ≡ b → holds_of o (typing.have_types messages queries slots bs) ≡ all_met m headed (have_row context queries bs rows)
        go true e =
            let (types, is, so) = agree.there e in
            ap (λ z. holds_of z (typing.have_types messages queries slots bs)) is ∙ types_met bs rows.row types so ∙ sym (both ∙ ap (λ b. b && all_met m headed (have_types context queries bs rows.row)) e)
        go false e = ap (λ z. holds_of z (typing.have_types messages queries slots bs)) (agree.missing e) ∙ sym (both ∙ ap (λ b. b && all_met m headed (have_types context queries bs rows.row)) e)

    pub query_agrees : (o : Option Query) → RowAgrees m headed (given o (query_row (known messages queries slots))) (found_rows context o)
    query_agrees None = record { there = λ e. absurd (false≢true e); missing = λ e. refl }
    query_agrees (Some query) = below.rows m headed (known messages queries slots) context means query

    pub found_met : (o : Option ℕ) (bs : List ℕ) → typing.have_found messages queries slots o bs ≡ Met (have_found context queries o bs)
    found_met None bs = refl
    found_met (Some query) bs = row_met bs (found_row messages queries (Some query) slots) (found_rows context (at_number queries query)) (query_agrees (at_number queries query))

    pub handler_agrees : (h : Handler) → RowAgrees m headed (handler_row messages queries h slots) (handler_rows context h)
    handler_agrees h =
        then_agrees m headed (message_row (known messages queries slots) h.message []) (pattern_row (known messages queries slots) h.from t.Proc) (message_sym context h.message []) (pattern_sym context h.from s.Proc)
        (below.tagged m headed (known messages queries slots) context means h.message [] [] tt)
        (λ types so. below.patterns m headed (known messages queries slots) context means h.from s.Proc t.Proc (message_sym context h.message []).row types (stands_proc m) so)
