-- A typed expression outside queries faults, or gives a whole value of its type.
use Rattle.std.specs.Prelude.{◌≡◌, refl, ℕ, pos, ◌<◌, ◌^◌, ◌&&◌, not, Bool, true, false, if◌then◌else◌, List, [], ◌∷◌, ◌++◌, map, length, Option, Some, None, Ok, Err}
use Rattle.std.specs.List.{AllByRecursion, list_all}
use Rattle.std.proofs.Common.{◌∙◌, ap, sym, subst, inl, inr}
use Rattle.std.proofs.lemmas.Bool.{false≢true, and_parts, lt-ltb}
use Rattle.da_values.specs.declared.val.Val.{Val}
use Rattle.da_values.specs.declared.val.Val.TheVariants as val
use Rattle.da_values.specs.declared.value.Value.{Value}
use Rattle.da_values.specs.declared.value.Value.TheVariants as kept
use Rattle.da_values.specs.Order.{val_cmp}
use Rattle.da_values.specs.Sets.{Has, canon, set_has, set_image}
use Rattle.da_values.specs.Value.{val_of}
use Rattle.da_values.specs.Views.{truth_of, elements_of}
use Rattle.da_values.proofs.Members.{Has-append_left, Has-append_right, Has-map, of_map}
use Rattle.da_values.proofs.OrderLaws.{val_order, same_from_val_cmp}
use Rattle.da_values.proofs.SetLaws.{of_canon, Ascends-canon}
use Rattle.da_lang.specs.declared.program.ChainPart.{ChainPart, roll-ChainPart}
use Rattle.da_lang.specs.declared.program.Program.{Program}
use Rattle.da_lang.specs.declared.program.RExpr.{RExpr}
use Rattle.da_lang.specs.declared.program.RExpr.TheVariants as re
use Rattle.da_lang.specs.declared.query.Query.{Query}
use Rattle.da_lang.specs.declared.tree.ArithOp.{ArithOp}
use Rattle.da_lang.specs.declared.tree.CmpOp.{CmpOp}
use Rattle.da_lang.specs.declared.ty.Ty.{Ty}
use Rattle.da_lang.specs.declared.ty.Ty.TheVariants as t
use Rattle.da_lang.specs.Arithmetic.{Outcome, arithmetic}
use Rattle.da_lang.specs.Evaluation.{Outcomes, PartMeaning, after, after_all, in_order, with_first, all_true, some_true, asked, chained, eval}
use Rattle.da_lang.specs.ExprTypes.{ExprType, Further, by_itself, gives, int, parts_fit, all_typed, set_type, tuple_typing, set_typing, takes, chain_type, typing, part_typing}
use Rattle.da_lang.specs.Queries.{compares, query_value}
use Rattle.da_lang.specs.QueryTypes.{Known, given, holds_of, when, flat, all_types, is_typed, literal_type, slot_type, query_type}
use Rattle.da_lang.specs.Shaped.{IsProcess}
use Rattle.da_lang.specs.Types.{is_int, is_flat, parts_of, element_of}
use Rattle.da_lang.specs.World.{Data, at_number, slot_of}
use Rattle.da_lang.proofs.EvaluationLaws.{part_of, part_of-made, eval-Const, eval-Procs, eval-Me, eval-Slot, eval-Clock, eval-Ask, eval-Range, eval-Tuple, eval-SetOf, eval-Or, eval-And, eval-Not, eval-Cmp, eval-Member, eval-Chain}
use Rattle.da_lang.proofs.ExprInduction.{Cases, expr_induction}
use Rattle.da_lang.proofs.typing.ExprTypesAt.{typing-Const, typing-Procs, typing-Me, typing-Slot, typing-Clock, typing-Ask, typing-Range, typing-Tuple, typing-SetOf, typing-Or, typing-And, typing-Not, typing-Cmp, typing-Member, typing-Chain, part_typing-of}
use Rattle.da_types.specs.Constants.{Written, all, expr_constants, part_constants}
use Rattle.da_types.specs.Totality.{IsConstant}
use Rattle.da_types.proofs.resolved.ConstantsAt.{expr_constants-Const, expr_constants-Procs, expr_constants-Range, expr_constants-Tuple, expr_constants-SetOf, expr_constants-Chain, part_constants-of}
use Rattle.da_types.proofs.shaped.Operations.{arithmetic_gives, range_gives}
use Rattle.da_types.proofs.shaped.Wholes.{WholeOf, Gives, GivesRow, GivesEach, int_whole, truth_whole, process_whole_of, tuple_whole_of, set_whole_of}
use Rattle.da_types.proofs.totality.KindLaws.{given_parts, when_parts, holds_parts, is_typed_parts, int_type, tuple_type, set_type as is_set_type}
use Rattle.da_types.proofs.totality.TermLaws.{literal_fits, flat_is}
use Rattle.da_types.proofs.totality.Worlds.{literal_narrow}

-- the values that are written are there
abbrev pub AreThere : Program → Written → Type 0
AreThere p vs = (v : Value) → Has vs v → IsConstant p v

pub front_there : (p : Program) (xs ys : Written) → AreThere p (xs ++ ys) → AreThere p xs
front_there p xs ys there v h = there v (Has-append_left xs ys v h)

pub back_there : (p : Program) (xs ys : Written) → AreThere p (xs ++ ys) → AreThere p ys
back_there p xs ys there v h = there v (Has-append_right xs ys v h)

module _ (p : Program) where
  -- the outcome is of the type that the expression has by itself, and of each that it fits
  pub record IsRight (x : ExprType) (o : Outcome) : Type 0 where
    pub itself : (ty : Ty) → x.type_ ≡ Some ty → Gives p ty o
    pub fitting : (ty : Ty) → x.fits ty ≡ true → Gives p ty o

  itself_right : (found : Option Ty) (o : Outcome) → ((ty : Ty) → found ≡ Some ty → Gives p ty o) → IsRight (by_itself found) o
  itself_right found o right = record {
    itself = λ ty e. right ty (flat_is found ty e);
    fitting = λ ty e. right ty (flat_is found ty (is_typed_parts (given found flat) ty e));
  }

  -- of one type
  known_right : (ty : Ty) (o : Outcome) → Gives p ty o → IsRight (by_itself (Some ty)) o
  known_right ty o right = itself_right (Some ty) o (λ other e. let same : ty ≡ other = cc in subst (λ z. Gives p z o) same right)

  given_right : (b : Bool) (ty : Ty) (o : Outcome) → (b ≡ true → Gives p ty o) → IsRight (gives b ty) o
  given_right true ty o right = known_right ty o (right refl)
  given_right false ty o right = itself_right None o (λ other e. absurd (cc))

  -- one after the other
  after_gives : (asked ty : Ty) (o : Outcome) (go : Val → Outcome) → Gives p asked o → ((v : Val) → WholeOf p asked v → Gives p ty (go v)) → Gives p ty (after o go)
  after_gives asked ty (Err kind) go first second = tt
  after_gives asked ty (Ok v) go first second = second v first

  after_any : (ty : Ty) (o : Outcome) (go : Val → Outcome) → ((v : Val) → Gives p ty (go v)) → Gives p ty (after o go)
  after_any ty (Err kind) go second = tt
  after_any ty (Ok v) go second = second v

  chosen : (b : Bool) (ty : Ty) (x y : Outcome) → Gives p ty x → Gives p ty y → Gives p ty (if b then x else y)
  chosen true ty x y first second = first
  chosen false ty x y first second = second

  all_true_gives : (os : List Outcome) → Gives p t.Bool (all_true os)
  all_true_gives [] = truth_whole p true
  all_true_gives (Err kind ∷ os) = tt
  all_true_gives (Ok v ∷ os) = chosen (truth_of v) t.Bool (all_true os) (Ok (val.Bool false)) (all_true_gives os) (truth_whole p false)

  some_true_gives : (os : List Outcome) → Gives p t.Bool (some_true os)
  some_true_gives [] = truth_whole p false
  some_true_gives (Err kind ∷ os) = tt
  some_true_gives (Ok v ∷ os) = chosen (truth_of v) t.Bool (Ok (val.Bool true)) (some_true os) (truth_whole p true) (some_true_gives os)

  -- the parts of a tuple and the elements of a set
  first_of_row : (ty : Ty) (types : List Ty) (v : Val) (os : Outcomes) → WholeOf p ty v → GivesRow p types os → GivesRow p (ty ∷ types) (with_first v os)
  first_of_row ty types v (Err kind) one others = tt
  first_of_row ty types v (Ok vs) one others = (one, others)

  pub row_gives : (ty : Ty) (types : List Ty) (o : Outcome) (os : List Outcome) → Gives p ty o → GivesRow p types (in_order os) → GivesRow p (ty ∷ types) (in_order (o ∷ os))
  row_gives ty types (Err kind) os one others = tt
  row_gives ty types (Ok v) os one others = first_of_row ty types v (in_order os) one others

  first_of_each : (ty : Ty) (v : Val) (os : Outcomes) → WholeOf p ty v → GivesEach p ty os → GivesEach p ty (with_first v os)
  first_of_each ty v (Err kind) one others = tt
  first_of_each ty v (Ok vs) one others = λ u h. elim h [ inl is ↦ subst (WholeOf p ty) (sym is) one | inr there ↦ others u there ]

  each_gives : (ty : Ty) (o : Outcome) (os : List Outcome) → Gives p ty o → GivesEach p ty (in_order os) → GivesEach p ty (in_order (o ∷ os))
  each_gives ty (Err kind) os one others = tt
  each_gives ty (Ok v) os one others = first_of_each ty v (in_order os) one others

  tuple_gives : (types : List Ty) (os : Outcomes) → GivesRow p types os → Gives p (t.Tuple types) (after_all os (λ vs. Ok (val.Tuple vs)))
  tuple_gives types (Err kind) row = tt
  tuple_gives types (Ok vs) row = tuple_whole_of p types vs row

  set_gives : (ty : Ty) (os : Outcomes) → GivesEach p ty os → Gives p (t.Set ty) (after_all os (λ vs. Ok (val.Set (canon val_cmp vs))))
  set_gives ty (Err kind) each = tt
  set_gives ty (Ok vs) each =
      set_whole_of p ty (canon val_cmp vs) (λ v h. each v (of_canon val_cmp val_order same_from_val_cmp vs v h)) (Ascends-canon val_cmp val_order same_from_val_cmp vs)

  constant_gives : (c : Value) → IsConstant p c → (ty : Ty) → literal_type c ≡ Some ty → WholeOf p ty (val_of c)
  constant_gives c is ty e = (literal_fits c ty e, (is.proper, literal_narrow c ty e, is.processes))

  -- a set of processes that are there
  process_of : (ps : List ℕ) → AreThere p (map kept.Proc ps) → (v : Val) → Has (map val.Proc ps) v → WholeOf p t.Proc v
  process_of ps there v h =
      let (process, among, is) = of_map val.Proc ps v h in
      let constant = there (kept.Proc process) (Has-map kept.Proc ps process among) in
      subst (WholeOf p t.Proc) (sym is) (constant_gives (kept.Proc process) constant t.Proc refl)

-- what is known of the world: slots, the process itself and the clock are in range, and queries that are asked give values
-- of their types
pub record Meets (p : Program) (known : Known) (queries : List Query) (d : Data) : Type 0 where
  pub few : length p.procs < 2 ^ 16
  pub me : IsProcess p d.me
  pub slots : (slot : ℕ) (ty : Ty) → slot_type known slot ≡ Some ty → WholeOf p ty (slot_of d slot)
  pub clock : d.clock < 2 ^ 63
  pub asks : (n : ℕ) (ty : Ty) → given (at_number queries n) (query_type known) ≡ Some ty → Gives p ty (asked (query_value queries n d))

module _ (p : Program) (known : Known) (queries : List Query) (d : Data) (w : Meets p known queries d) where
  abbrev typed : RExpr → ExprType
  typed = typing known queries

  abbrev value : RExpr → Outcome
  value x = eval queries x d

  abbrev ExprRight : RExpr → Type 0
  ExprRight x = AreThere p (expr_constants x) → IsRight p (typed x) (value x)

  abbrev PartRight : ChainPart → Type 0
  PartRight q = AreThere p (part_constants q) → ((part_of queries q).op ≡ (part_typing known queries q).op) × IsRight p (part_typing known queries q).typing ((part_of queries q).operand d)

  as_right : (x : RExpr) (ty : ExprType) (o : Outcome) → typed x ≡ ty → value x ≡ o → IsRight p ty o → IsRight p (typed x) (value x)
  as_right x ty o a b right = subst (λ z. IsRight p z (value x)) (sym a) (subst (IsRight p ty) (sym b) right)

  -- the type by itself, where a test of it holds
  int_found : (x : ExprType) → int x ≡ true → x.type_ ≡ Some t.Int
  int_found x e = let (ty, is, holds) = holds_parts x.type_ is_int e in is ∙ ap Some (int_type ty holds)

  constant_case : (c : Value) → ExprRight (re.Const c)
  constant_case c there =
      let is = there c (subst (λ z. Has z c) (sym (expr_constants-Const c)) (inl refl)) in
      as_right (re.Const c) _ _ (typing-Const known queries c) (eval-Const queries d c) (itself_right p (literal_type c) (Ok (val_of c)) (constant_gives p c is))

  processes_case : (ps : List ℕ) → ExprRight (re.Procs ps)
  processes_case ps there =
      let each = process_of p ps (subst (AreThere p) (expr_constants-Procs ps) there) in
      let set = set_image val_cmp val.Proc ps in
      as_right (re.Procs ps) _ _ (typing-Procs known queries ps) (eval-Procs queries d ps)
      (known_right p (t.Set t.Proc) (Ok (val.Set set)) (set_whole_of p t.Proc set (λ v h. each v (of_canon val_cmp val_order same_from_val_cmp (map val.Proc ps) v h)) (Ascends-canon val_cmp val_order same_from_val_cmp (map val.Proc ps))))

  me_case : ExprRight re.Me
  me_case there = as_right re.Me _ _ (typing-Me known queries) (eval-Me queries d) (known_right p t.Proc (Ok (val.Proc d.me)) (process_whole_of p w.few d.me w.me))

  slot_case : (s : ℕ) → ExprRight (re.Slot s)
  slot_case s there = as_right (re.Slot s) _ _ (typing-Slot known queries s) (eval-Slot queries d s) (itself_right p (slot_type known s) (Ok (slot_of d s)) (w.slots s))

  clock_case : ExprRight re.Clock
  clock_case there = as_right re.Clock _ _ (typing-Clock known queries) (eval-Clock queries d) (known_right p t.Int (Ok (val.Int (pos d.clock))) (int_whole p (pos d.clock) (lt-ltb d.clock (2 ^ 63) w.clock)))

  ask_case : (n : ℕ) → ExprRight (re.Ask n)
  ask_case n there = as_right (re.Ask n) _ _ (typing-Ask known queries n) (eval-Ask queries d n) (itself_right p (given (at_number queries n) (query_type known)) (asked (query_value queries n d)) (w.asks n))

  range_case : (a b : RExpr) → ExprRight a → ExprRight b → ExprRight (re.Range a b)
  range_case a b first second there =
      let both = subst (AreThere p) (expr_constants-Range a b) there in
      let one = first (front_there p (expr_constants a) (expr_constants b) both) in
      let two = second (back_there p (expr_constants a) (expr_constants b) both) in
      as_right (re.Range a b) _ _ (typing-Range known queries a b) (eval-Range queries d a b)
      (given_right p (int (typed a) && int (typed b)) (t.Set t.Int) _
      (λ e. (let (ints_a, ints_b) = and_parts (int (typed a)) (int (typed b)) e in
      after_gives p t.Int (t.Set t.Int) (value a) _ (one.itself t.Int (int_found (typed a) ints_a))
      (λ v is_v. after_gives p t.Int (t.Set t.Int) (value b) _ (two.itself t.Int (int_found (typed b) ints_b)) (λ u is_u. range_gives p v u is_v is_u)))))

  -- these are truth values, whatever their parts are
  or_case : (es : List RExpr) → AllByRecursion ExprRight es → ExprRight (re.Or es)
  or_case es each there = as_right (re.Or es) _ _ (typing-Or known queries es) (eval-Or queries d es) (given_right p _ t.Bool _ (λ e. some_true_gives p (map value es)))

  and_case : (es : List RExpr) → AllByRecursion ExprRight es → ExprRight (re.And es)
  and_case es each there = as_right (re.And es) _ _ (typing-And known queries es) (eval-And queries d es) (given_right p _ t.Bool _ (λ e. all_true_gives p (map value es)))

  not_case : (a : RExpr) → ExprRight a → ExprRight (re.Not a)
  not_case a one there = as_right (re.Not a) _ _ (typing-Not known queries a) (eval-Not queries d a) (given_right p _ t.Bool _ (λ e. after_any p t.Bool (value a) _ (λ v. truth_whole p (not (truth_of v)))))

  cmp_case : (o : CmpOp) (a b : RExpr) → ExprRight a → ExprRight b → ExprRight (re.Cmp o a b)
  cmp_case o a b first second there =
      as_right (re.Cmp o a b) _ _ (typing-Cmp known queries o a b) (eval-Cmp queries d o a b)
      (given_right p _ t.Bool _ (λ e. after_any p t.Bool (value a) _ (λ v. after_any p t.Bool (value b) _ (λ u. truth_whole p (compares o (val_cmp v u))))))

  member_case : (a b : RExpr) → ExprRight a → ExprRight b → ExprRight (re.Member a b)
  member_case a b first second there =
      as_right (re.Member a b) _ _ (typing-Member known queries a b) (eval-Member queries d a b)
      (given_right p _ t.Bool _ (λ e. after_any p t.Bool (value a) _ (λ v. after_any p t.Bool (value b) _ (λ u. truth_whole p (set_has val_cmp (elements_of u) v)))))

  -- the parts of a tuple, by their own types and by those that are asked for
  own_parts : (es : List RExpr) → AllByRecursion ExprRight es → AreThere p (all (map expr_constants es)) → (types : List Ty) → all_types (map (λ (x : ExprType). x.type_) (map typed es)) ≡ Some types → GivesRow p types (in_order (map value es))
  own_parts [] each there types e = let same : [] ≡ types = cc in subst (λ z. GivesRow p z (Ok [])) same tt
  own_parts (x ∷ xs) each there types e =
      let (ty, is, more) = given_parts (typed x).type_ _ types e in
      let (others, are, last) = given_parts (all_types (map (λ (x : ExprType). x.type_) (map typed xs))) _ types more in
      let same : ty ∷ others ≡ types = cc in
      let one = (each.0 (front_there p (expr_constants x) (all (map expr_constants xs)) there)).itself ty is in
      let rest = own_parts xs each.1 (back_there p (expr_constants x) (all (map expr_constants xs)) there) others are in
      subst (λ z. GivesRow p z (in_order (map value (x ∷ xs)))) same (row_gives p ty others (value x) (map value xs) one rest)

  asked_parts : (es : List RExpr) → AllByRecursion ExprRight es → AreThere p (all (map expr_constants es)) → (types : List Ty) → parts_fit (map typed es) types ≡ true → GivesRow p types (in_order (map value es))
  asked_parts [] each there [] e = tt
  asked_parts [] each there (ty ∷ types) e = absurd (false≢true e)
  asked_parts (x ∷ xs) each there [] e = absurd (false≢true e)
  asked_parts (x ∷ xs) each there (ty ∷ types) e =
      let both = and_parts ((typed x).fits ty) (parts_fit (map typed xs) types) e in
      let one = (each.0 (front_there p (expr_constants x) (all (map expr_constants xs)) there)).fitting ty both.0 in
      let rest = asked_parts xs each.1 (back_there p (expr_constants x) (all (map expr_constants xs)) there) types both.1 in
      row_gives p ty types (value x) (map value xs) one rest

  tuple_case : (es : List RExpr) → AllByRecursion ExprRight es → ExprRight (re.Tuple es)
  tuple_case es each there =
      let parts = subst (AreThere p) (expr_constants-Tuple es) there in
      let o = after_all (in_order (map value es)) (λ vs. Ok (val.Tuple vs)) in
      as_right (re.Tuple es) (tuple_typing (map typed es)) o (typing-Tuple known queries es) (eval-Tuple queries d es)
      (record {
        itself = λ ty e. (let (types, are, deep) = given_parts (all_types (map (λ (x : ExprType). x.type_) (map typed es))) (λ types. flat (t.Tuple types)) ty e in
            let same = (when_parts (is_flat (t.Tuple types)) (t.Tuple types) ty deep).1 in
            subst (λ z. Gives p z o) same (tuple_gives p types (in_order (map value es)) (own_parts es each parts types are)));
        fitting = λ ty e. (let (deep, fit) = and_parts (is_flat ty) (holds_of (parts_of ty) (parts_fit (map typed es))) e in
            let (types, are, fits) = holds_parts (parts_of ty) (parts_fit (map typed es)) fit in
            subst (λ z. Gives p z o) (sym (tuple_type ty types are)) (tuple_gives p types (in_order (map value es)) (asked_parts es each parts types fits)));
      })

  -- the elements of a set
  own_elements : (es : List RExpr) → AllByRecursion ExprRight es → AreThere p (all (map expr_constants es)) → (ty : Ty) → all_typed (map typed es) ty ≡ true → GivesEach p ty (in_order (map value es))
  own_elements [] each there ty e = λ v h. absurd h
  own_elements (x ∷ xs) each there ty e =
      let both = and_parts (is_typed (typed x).type_ ty) (all_typed (map typed xs) ty) e in
      let one = (each.0 (front_there p (expr_constants x) (all (map expr_constants xs)) there)).itself ty (is_typed_parts (typed x).type_ ty both.0) in
      each_gives p ty (value x) (map value xs) one (own_elements xs each.1 (back_there p (expr_constants x) (all (map expr_constants xs)) there) ty both.1)

  asked_elements : (es : List RExpr) → AllByRecursion ExprRight es → AreThere p (all (map expr_constants es)) → (ty : Ty) → list_all (λ (x : ExprType). x.fits ty) (map typed es) ≡ true → GivesEach p ty (in_order (map value es))
  asked_elements [] each there ty e = λ v h. absurd h
  asked_elements (x ∷ xs) each there ty e =
      let both = and_parts ((typed x).fits ty) (list_all (λ (x : ExprType). x.fits ty) (map typed xs)) e in
      let one = (each.0 (front_there p (expr_constants x) (all (map expr_constants xs)) there)).fitting ty both.0 in
      each_gives p ty (value x) (map value xs) one (asked_elements xs each.1 (back_there p (expr_constants x) (all (map expr_constants xs)) there) ty both.1)

  set_found : (es : List RExpr) → AllByRecursion ExprRight es → AreThere p (all (map expr_constants es)) → (ty : Ty) → set_type (map typed es) ≡ Some ty → Gives p ty (after_all (in_order (map value es)) (λ vs. Ok (val.Set (canon val_cmp vs))))
  set_found [] each there ty e = absurd (cc)
  set_found (x ∷ xs) each there ty e =
      let es = x ∷ xs in
      let o = after_all (in_order (map value es)) (λ vs. Ok (val.Set (canon val_cmp vs))) in
      let (element, is, more) = given_parts (typed x).type_ (λ ty. given (when (all_typed (map typed xs) ty) (t.Set ty)) flat) ty e in
      let found = flat_is (when (all_typed (map typed xs) element) (t.Set element)) ty more in
      let (each_typed, same) = when_parts (all_typed (map typed xs) element) (t.Set element) ty found in
      let one = (each.0 (front_there p (expr_constants x) (all (map expr_constants xs)) there)).itself element is in
      let others = own_elements xs each.1 (back_there p (expr_constants x) (all (map expr_constants xs)) there) element each_typed in
      subst (λ z. Gives p z o) same (set_gives p element (in_order (map value es)) (each_gives p element (value x) (map value xs) one others))

  set_case : (es : List RExpr) → AllByRecursion ExprRight es → ExprRight (re.SetOf es)
  set_case es each there =
      let parts = subst (AreThere p) (expr_constants-SetOf es) there in
      let o = after_all (in_order (map value es)) (λ vs. Ok (val.Set (canon val_cmp vs))) in
      as_right (re.SetOf es) (set_typing (map typed es)) o (typing-SetOf known queries es) (eval-SetOf queries d es)
      (record {
        itself = λ ty e. set_found es each parts ty e;
        fitting = λ ty e. (let (deep, fit) = and_parts (is_flat ty) (holds_of (element_of ty) (λ element. list_all (λ (x : ExprType). x.fits element) (map typed es))) e in
            let (element, is, fits) = holds_parts (element_of ty) (λ element. list_all (λ (x : ExprType). x.fits element) (map typed es)) fit in
            subst (λ z. Gives p z o) (sym (is_set_type ty element is)) (set_gives p element (in_order (map value es)) (asked_elements es each parts element fits)));
      })

  part_case : (o : ArithOp) (a : RExpr) → ExprRight a → PartRight (roll-ChainPart (record { op = o; operand = a }))
  part_case o a one there =
      let right = one (subst (AreThere p) (part_constants-of o a) there) in
      let meaning = part_of-made queries o a in
      let type' = part_typing-of known queries o a in (
        ap (λ (z : PartMeaning). z.op) meaning ∙ sym (ap (λ (z : Further). z.op) type'),
        subst (λ (z : Further). IsRight p z.typing ((part_of queries (roll-ChainPart (record { op = o; operand = a }))).operand d)) (sym type') (subst (λ (z : PartMeaning). IsRight p (typed a) (z.operand d)) (sym meaning) right),
      )

  -- a chain, from its first value on
  chained_gives : (ty : Ty) (more : List ChainPart) → AllByRecursion PartRight more → AreThere p (all (map part_constants more)) → list_all (λ (y : Further). takes y.op ty && is_typed y.typing.type_ ty) (map (part_typing known queries) more) ≡ true
      → (v : Val) → WholeOf p ty v → Gives p ty (chained v (map (part_of queries) more) d)
  chained_gives ty [] each there e v one = one
  chained_gives ty (q ∷ qs) each there e v one =
      let y = part_typing known queries q in
      let m = part_of queries q in
      let (first, others) = and_parts (takes y.op ty && is_typed y.typing.type_ ty) (list_all (λ (y : Further). takes y.op ty && is_typed y.typing.type_ ty) (map (part_typing known queries) qs)) e in
      let (takes_it, of_type) = and_parts (takes y.op ty) (is_typed y.typing.type_ ty) first in
      let (same, right) = each.0 (front_there p (part_constants q) (all (map part_constants qs)) there) in
      let goes = subst (λ z. takes z ty ≡ true) (sym same) takes_it in
      after_gives p ty ty (m.operand d) _ (right.itself ty (is_typed_parts y.typing.type_ ty of_type))
      (λ u is_u. after_gives p ty ty (arithmetic m.op v u) _ (arithmetic_gives p m.op ty v u goes one is_u) (λ z is_z. chained_gives ty qs each.1 (back_there p (part_constants q) (all (map part_constants qs)) there) others z is_z))

  chain_case : (a : RExpr) (more : List ChainPart) → ExprRight a → AllByRecursion PartRight more → ExprRight (re.Chain a more)
  chain_case a more one each there =
      let both = subst (AreThere p) (expr_constants-Chain a more) there in
      let right = one (front_there p (expr_constants a) (all (map part_constants more)) both) in
      let rest = back_there p (expr_constants a) (all (map part_constants more)) both in
      let o = after (value a) (λ v. chained v (map (part_of queries) more) d) in
      as_right (re.Chain a more) _ o (typing-Chain known queries a more) (eval-Chain queries d a more)
      (itself_right p (chain_type (typed a) (map (part_typing known queries) more)) o
      (λ ty e. (let (first, is, holds) = given_parts (typed a).type_ _ ty e in
      let (fit, same) = when_parts (list_all (λ (y : Further). takes y.op first && is_typed y.typing.type_ first) (map (part_typing known queries) more)) first ty holds in
      subst (λ z. Gives p z o) same (after_gives p first first (value a) _ (right.itself first is) (λ v is_v. chained_gives first more each rest fit v is_v)))))

  abbrev cases : Cases
  cases = record {
    Of_expr = ExprRight;
    Of_part = PartRight;
    constant = constant_case;
    processes = processes_case;
    itself = me_case;
    slot = slot_case;
    clock = clock_case;
    question = ask_case;
    range = range_case;
    tuple = tuple_case;
    set_of = set_case;
    disjunction = or_case;
    conjunction = and_case;
    negation = not_case;
    comparison = cmp_case;
    membership = member_case;
    chain = chain_case;
    part = part_case;
  }

  -- the value of an expression that has a type, and of one that fits a type, is a whole one of it
  pub expr_right : (x : RExpr) → AreThere p (expr_constants x) → IsRight p (typed x) (value x)
  expr_right x = expr_induction cases x
