-- What types promise of a line of `setup` of an accepted program, whichever process of the class evaluates it.
use Rattle.std.specs.Prelude.{◌≡◌, refl, ℕ, true, List, [], ◌∷◌, length, map, Option, Some, None, Ok, Err, slice_get}
use Rattle.std.proofs.Common.{◌∙◌, ap, sym, subst, inl, inr}
use Rattle.std.proofs.lemmas.Bool.{and_parts}
use Rattle.da_values.specs.declared.val.Val.{Val}
use Rattle.da_values.specs.Sets.{Has}
use Rattle.da_lang.specs.declared.program.Class.{Class}
use Rattle.da_lang.specs.declared.program.ProcDecl.{ProcDecl}
use Rattle.da_lang.specs.declared.program.Program.{Program}
use Rattle.da_lang.specs.declared.program.RExpr.{RExpr}
use Rattle.da_lang.specs.declared.program.SetupCall.{SetupCall}
use Rattle.da_lang.specs.Arithmetic.{Outcome}
use Rattle.da_lang.specs.Evaluation.{Outcomes, eval, eval_all, in_order, with_first}
use Rattle.da_lang.specs.QueryTypes.{Known, slot_type}
use Rattle.da_lang.specs.Shaped.{IsSetUp, ShapedData}
use Rattle.da_lang.specs.Typing.{args_fit, fits_slot, known, typed}
use Rattle.da_lang.specs.World.{Data, at_number, class_of, class_of_decl}
use Rattle.da_types.specs.Constants.{expr_constants}
use Rattle.da_types.specs.Sound.{IsSound}
use Rattle.da_types.proofs.shaped.ExprValues.{AreThere, expr_right}
use Rattle.da_types.proofs.shaped.Known.{IsWholeProgram, meets}
use Rattle.da_types.proofs.shaped.Rules.{args_rule}
use Rattle.da_types.proofs.shaped.StoreFacts.{setup_args_typable}
use Rattle.da_types.proofs.shaped.Wholes.{Gives, WholeOf, as_is_of}
use Rattle.da_types.proofs.totality.KindLaws.{holds_parts}
use Rattle.da_types.proofs.totality.Worlds.{class_has, numbered_has}
use Rattle.da_machine.specs.Conditions.{Takes, TakesAll}
use Rattle.da_machine.specs.Promises.{AllRead, IsEntered}
use Rattle.da_machine.proofs.promises.Reading.{all_typable_read}

-- the declaration of a process that is set up by a line
set_up_by : (found : Option ProcDecl) (call : SetupCall) → IsSetUp found call → (decl : ProcDecl) × (found ≡ Some decl) × (decl.setup ≡ Some call)
set_up_by None call is = absurd is
set_up_by (Some decl) call is = (decl, refl, is)

-- the values of several expressions are the first one and the others
first_of_values : (v : Val) (os : Outcomes) (vs : List Val) → with_first v os ≡ Ok vs → (rest : List Val) × (os ≡ Ok rest) × (vs ≡ v ∷ rest)
first_of_values v (Err kind) vs e = absurd (cc)
first_of_values v (Ok rest) vs e = (rest, refl, cc)

values_are : (o : Outcome) (os : List Outcome) (vs : List Val) → in_order (o ∷ os) ≡ Ok vs → (v : Val) × (rest : List Val) × (o ≡ Ok v) × (in_order os ≡ Ok rest) × (vs ≡ v ∷ rest)
values_are (Err kind) os vs e = absurd (cc)
values_are (Ok v) os vs e = let (rest, others, same) = first_of_values v (in_order os) vs e in (v, rest, refl, others, same)

module _ (p : Program) (class : Class) (whole : IsWholeProgram p) where
  abbrev known_of : Known
  known_of = known p.messages class.queries class.slots

  -- what a process of the class gives to arguments that fit the slots goes into them
  module _ (d : Data) (knows : ShapedData p class d) where
    arg_taken : (s : ℕ) (x : RExpr) (v : Val) → AreThere p (expr_constants x) → fits_slot p.messages class.queries class.slots s x ≡ true → eval class.queries x d ≡ Ok v → Takes p class s v
    arg_taken s x v there e is =
        let (ty, has, fits) = holds_parts (slot_type known_of s) (typed p.messages class.queries class.slots x).fits e in
        let one : WholeOf p ty v = subst (Gives p ty) is ((expr_right p known_of class.queries d (meets p class d whole knows) x there).fitting ty fits) in
        record { ty = ty; slot = has; fits = as_is_of p ty v one }

    args_taken : (slots : List ℕ) (xs : List RExpr) (vs : List Val) → ((x : RExpr) → Has xs x → AreThere p (expr_constants x)) → args_fit p.messages class slots xs ≡ true → eval_all class.queries xs d ≡ Ok vs → TakesAll p class slots vs
    args_taken [] xs vs there e is = tt
    args_taken (s ∷ ss) [] vs there e is = let none : [] ≡ vs = cc in subst (TakesAll p class (s ∷ ss)) none tt
    args_taken (s ∷ ss) (x ∷ xs) vs there e is =
        let (v, rest, first, others, same) = values_are (eval class.queries x d) (map (λ y. eval class.queries y d) xs) vs is in
        let both = and_parts (fits_slot p.messages class.queries class.slots s x) (args_fit p.messages class ss xs) e in
        subst (TakesAll p class (s ∷ ss)) (sym same) (arg_taken s x v (there x (inl refl)) both.0 first, args_taken ss xs rest (λ y h. there y (inr h)) both.1 others)

  -- A LINE THAT SETS A PROCESS OF THE CLASS UP
  module _ (sound : IsSound p) (me : ℕ) (call : SetupCall) (class_is : class_of p me ≡ Some class) (set_up : IsSetUp (at_number p.procs me) call) where
    declared : (decl : ProcDecl) × Has p.procs decl × (slice_get p.classes decl.class ≡ Some class) × (decl.setup ≡ Some call)
    declared =
        let (decl, there, is) = set_up_by (at_number p.procs me) call set_up in
        (decl, numbered_has p.procs me decl there, ap (class_of_decl p) (sym there) ∙ class_is, is)

    one_each : length call.args ≡ length class.params
    one_each = let (decl, among, of_class, is) = declared in sound.setups decl among class call of_class is

    -- the slots and queries of its arguments are there
    pub setup_line_reads : AllRead class call.args
    setup_line_reads =
        let (decl, among, of_class, is) = declared in
        all_typable_read p class call.args (setup_args_typable p class whole (class_has p me class class_is) decl call among of_class is one_each)

    -- its arguments enter the parameters of the class
    pub setup_line_enters : IsEntered p class call.args class.params
    setup_line_enters =
        let (decl, among, of_class, is) = declared in
        record {
          one_each = one_each;
          distinct = (sound.classes class (class_has p me class class_is)).params;
          takes = λ d vs knows values. args_taken d knows class.params call.args vs (λ x h v written. whole.constants.of_setups decl call x v among is h written) (args_rule p whole.typed.keeps class decl call among of_class is) values;
        }
