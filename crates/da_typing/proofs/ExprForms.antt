-- The types of expressions, and what they fit, by their forms.
use Rattle.std.specs.Prelude.{◌≡◌, refl, ℕ, Bool, true, false, ◌&&◌, if◌then◌else◌, List, [], ◌∷◌, map, Option, Some, None}
use Rattle.std.specs.List.{list_all}
use Rattle.std.proofs.Common.{◌∙◌, ap, sym}
use Rattle.std.proofs.lemmas.List.Folds.{list_all-map}
use Rattle.da_values.specs.declared.value.Value.{Value}
use Rattle.da_lang.specs.declared.program.ChainPart.{ChainPart, out-ChainPart, roll-out-ChainPart}
use Rattle.da_lang.specs.declared.program.RExpr.{RExpr}
use Rattle.da_lang.specs.declared.program.RExpr.TheVariants as re
use Rattle.da_lang.specs.declared.query.Query.{Query}
use Rattle.da_lang.specs.declared.tree.CmpOp.{CmpOp}
use Rattle.da_lang.specs.declared.ty.Ty.{Ty}
use Rattle.da_lang.specs.declared.ty.Ty.TheVariants as t
use Rattle.da_lang.specs.ExprTypes.{ExprType, Further, by_itself, parts_fit, set_type, int, truth, comparison, member, takes, typing, part_typing}
use Rattle.da_lang.specs.QueryTypes.{Known, given, holds_of, when, flat, all_types, is_typed, literal_type, slot_type, query_type}
use Rattle.da_lang.specs.Types.{is_flat, parts_of, element_of, same_type}
use Rattle.da_lang.specs.World.{at_number}
use Rattle.da_lang.proofs.typing.ExprTypesAt.{typing-Const, typing-Procs, typing-Me, typing-Slot, typing-Clock, typing-Ask, typing-Range, typing-Tuple, typing-SetOf, typing-Or, typing-And, typing-Not, typing-Cmp, typing-Member, typing-Chain, part_typing-of}
use Rattle.da_typing.specs.Chains.{chain_holds, chained, operand_holds, set_over}

and_false : (b : Bool) → (b && false) ≡ false
and_false true = refl
and_false false = refl

-- what comes after is the same
given_same : {A B : Type 0} (x : Option A) (f g : A → Option B) → ((a : A) → f a ≡ g a) → given x f ≡ given x g
given_same None f g same = refl
given_same (Some a) f g same = same a

holds_same : {A : Type 0} (x : Option A) (f g : A → Bool) → ((a : A) → f a ≡ g a) → holds_of x f ≡ holds_of x g
holds_same None f g same = refl
holds_same (Some a) f g same = same a

-- a test of what there may be, under another test
held_where : {A : Type 0} (b : Bool) (x : Option A) (f : A → Bool) → (b && holds_of x f) ≡ holds_of (if b then x else None) f
held_where true x f = refl
held_where false x f = refl

first_of_one : (first : Option Ty) (rest : Option (List Ty)) (ty : Ty) → (is_typed first ty && holds_of rest (list_all (λ other. same_type other ty))) ≡ holds_of (given first (λ one. given rest (λ others. Some (one ∷ others)))) (list_all (λ other. same_type other ty))
first_of_one None rest ty = refl
first_of_one (Some one) None ty = and_false (same_type one ty)
first_of_one (Some one) (Some others) ty = refl

set_first : (first : Option Ty) (rest : Option (List Ty)) → given first (λ ty. given (when (holds_of rest (list_all (λ other. same_type other ty))) (t.Set ty)) flat) ≡ given (given first (λ one. given rest (λ others. Some (one ∷ others)))) set_over
set_first None rest = refl
set_first (Some one) None = refl
set_first (Some one) (Some others) = refl

module _ (known : Known) (queries : List Query) where
  types_of : (xs : List RExpr) → map (λ (e : ExprType). e.type_) (map (typing known queries) xs) ≡ map (λ x. (typing known queries x).type_) xs
  types_of [] = refl
  types_of (x ∷ xs) = ap (λ (types : List (Option Ty)). (typing known queries x).type_ ∷ types) (types_of xs)

  part_is : (p : ChainPart) → part_typing known queries p ≡ record { op = (out-ChainPart p).op; typing = typing known queries (out-ChainPart p).operand }
  part_is p = ap (part_typing known queries) (sym (roll-out-ChainPart p)) ∙ part_typing-of known queries (out-ChainPart p).op (out-ChainPart p).operand

  chain_is : (ty : Ty) (more : List ChainPart) → list_all (λ (y : Further). takes y.op ty && is_typed y.typing.type_ ty) (map (part_typing known queries) more) ≡ chain_holds known queries ty more
  chain_is ty [] = refl
  chain_is ty (p ∷ more) =
      ap (λ (y : Further). (takes y.op ty && is_typed y.typing.type_ ty) && list_all (λ (y : Further). takes y.op ty && is_typed y.typing.type_ ty) (map (part_typing known queries) more)) (part_is p)
      ∙ ap (λ rest. operand_holds known queries ty p && rest) (chain_is ty more)

  pub type-Const : (value : Value) → (typing known queries (re.Const value)).type_ ≡ given (literal_type value) flat
  type-Const value = ap (λ (e : ExprType). e.type_) (typing-Const known queries value)

  pub type-Procs : (processes : List ℕ) → (typing known queries (re.Procs processes)).type_ ≡ given (Some (t.Set t.Proc)) flat
  type-Procs processes = ap (λ (e : ExprType). e.type_) (typing-Procs known queries processes)

  pub type-Me : (typing known queries re.Me).type_ ≡ given (Some t.Proc) flat
  type-Me = ap (λ (e : ExprType). e.type_) (typing-Me known queries)

  pub type-Slot : (slot : ℕ) → (typing known queries (re.Slot slot)).type_ ≡ given (slot_type known slot) flat
  type-Slot slot = ap (λ (e : ExprType). e.type_) (typing-Slot known queries slot)

  pub type-Clock : (typing known queries re.Clock).type_ ≡ given (Some t.Int) flat
  type-Clock = ap (λ (e : ExprType). e.type_) (typing-Clock known queries)

  pub type-Ask : (query : ℕ) → (typing known queries (re.Ask query)).type_ ≡ given (given (at_number queries query) (query_type known)) flat
  type-Ask query = ap (λ (e : ExprType). e.type_) (typing-Ask known queries query)

  pub type-Range : (x y : RExpr) → (typing known queries (re.Range x y)).type_ ≡ given (when (int (typing known queries x) && int (typing known queries y)) (t.Set t.Int)) flat
  type-Range x y = ap (λ (e : ExprType). e.type_) (typing-Range known queries x y)

  pub type-Not : (x : RExpr) → (typing known queries (re.Not x)).type_ ≡ given (when (truth (typing known queries x)) t.Bool) flat
  type-Not x = ap (λ (e : ExprType). e.type_) (typing-Not known queries x)

  pub type-Cmp : (o : CmpOp) (x y : RExpr) → (typing known queries (re.Cmp o x y)).type_ ≡ given (when (comparison o (typing known queries x) (typing known queries y)) t.Bool) flat
  type-Cmp o x y = ap (λ (e : ExprType). e.type_) (typing-Cmp known queries o x y)

  pub type-Member : (x y : RExpr) → (typing known queries (re.Member x y)).type_ ≡ given (when (member (typing known queries x) (typing known queries y)) t.Bool) flat
  type-Member x y = ap (λ (e : ExprType). e.type_) (typing-Member known queries x y)

  pub type-Or : (xs : List RExpr) → (typing known queries (re.Or xs)).type_ ≡ given (when (list_all (λ x. truth (typing known queries x)) xs) t.Bool) flat
  type-Or xs = ap (λ (e : ExprType). e.type_) (typing-Or known queries xs) ∙ ap (λ holds. given (when holds t.Bool) flat) (list_all-map truth (typing known queries) xs)

  pub type-And : (xs : List RExpr) → (typing known queries (re.And xs)).type_ ≡ given (when (list_all (λ x. truth (typing known queries x)) xs) t.Bool) flat
  type-And xs = ap (λ (e : ExprType). e.type_) (typing-And known queries xs) ∙ ap (λ holds. given (when holds t.Bool) flat) (list_all-map truth (typing known queries) xs)

  pub type-Tuple : (xs : List RExpr) → (typing known queries (re.Tuple xs)).type_ ≡ given (all_types (map (λ x. (typing known queries x).type_) xs)) (λ types. flat (t.Tuple types))
  type-Tuple xs = ap (λ (e : ExprType). e.type_) (typing-Tuple known queries xs) ∙ ap (λ found. given (all_types found) (λ types. flat (t.Tuple types))) (types_of xs)

  -- all of the type of the first, by the types of all
  all_of_one : (xs : List RExpr) (ty : Ty) → list_all (λ (e : ExprType). is_typed e.type_ ty) (map (typing known queries) xs) ≡ holds_of (all_types (map (λ x. (typing known queries x).type_) xs)) (list_all (λ other. same_type other ty))
  all_of_one [] ty = refl
  all_of_one (x ∷ xs) ty =
      ap (λ rest. is_typed (typing known queries x).type_ ty && rest) (all_of_one xs ty)
      ∙ first_of_one (typing known queries x).type_ (all_types (map (λ x. (typing known queries x).type_) xs)) ty

  set_is : (xs : List RExpr) → set_type (map (typing known queries) xs) ≡ given (all_types (map (λ x. (typing known queries x).type_) xs)) set_over
  set_is [] = refl
  set_is (x ∷ xs) =
      given_same (typing known queries x).type_ _ _ (λ ty. ap (λ holds. given (when holds (t.Set ty)) flat) (all_of_one xs ty))
      ∙ set_first (typing known queries x).type_ (all_types (map (λ x. (typing known queries x).type_) xs))

  pub type-SetOf : (xs : List RExpr) → (typing known queries (re.SetOf xs)).type_ ≡ given (all_types (map (λ x. (typing known queries x).type_) xs)) set_over
  type-SetOf xs = ap (λ (e : ExprType). e.type_) (typing-SetOf known queries xs) ∙ set_is xs

  chain_where : (found : Option Ty) (more : List ChainPart) → given (given found (λ ty. when (chain_holds known queries ty more) ty)) flat ≡ chained (holds_of found (λ ty. chain_holds known queries ty more)) found
  chain_where None more = refl
  chain_where (Some ty) more = refl

  pub type-Chain : (x : RExpr) (more : List ChainPart) → (typing known queries (re.Chain x more)).type_ ≡ chained (holds_of (typing known queries x).type_ (λ ty. chain_holds known queries ty more)) (typing known queries x).type_
  type-Chain x more =
      ap (λ (e : ExprType). e.type_) (typing-Chain known queries x more)
      ∙ ap (λ found. given found flat) (given_same (typing known queries x).type_ (λ ty. when (list_all (λ (y : Further). takes y.op ty && is_typed y.typing.type_ ty) (map (part_typing known queries) more)) ty) (λ ty. when (chain_holds known queries ty more) ty) (λ ty. ap (λ holds. when holds ty) (chain_is ty more)))
      ∙ chain_where (typing known queries x).type_ more

  -- an expression that has its type by itself fits that type alone
  own : (x : RExpr) (found : Option Ty) (asked : Ty) → typing known queries x ≡ by_itself found → (typing known queries x).fits asked ≡ is_typed (typing known queries x).type_ asked
  own x found asked is = ap (λ (e : ExprType). e.fits asked) is ∙ sym (ap (λ (e : ExprType). is_typed e.type_ asked) is)

  pub fit-Const : (value : Value) (asked : Ty) → (typing known queries (re.Const value)).fits asked ≡ is_typed (typing known queries (re.Const value)).type_ asked
  fit-Const value asked = own _ _ asked (typing-Const known queries value)

  pub fit-Procs : (processes : List ℕ) (asked : Ty) → (typing known queries (re.Procs processes)).fits asked ≡ is_typed (typing known queries (re.Procs processes)).type_ asked
  fit-Procs processes asked = own (re.Procs processes) (Some (t.Set t.Proc)) asked (typing-Procs known queries processes)

  pub fit-Me : (asked : Ty) → (typing known queries re.Me).fits asked ≡ is_typed (typing known queries re.Me).type_ asked
  fit-Me asked = own re.Me (Some t.Proc) asked (typing-Me known queries)

  pub fit-Slot : (slot : ℕ) (asked : Ty) → (typing known queries (re.Slot slot)).fits asked ≡ is_typed (typing known queries (re.Slot slot)).type_ asked
  fit-Slot slot asked = own _ _ asked (typing-Slot known queries slot)

  pub fit-Clock : (asked : Ty) → (typing known queries re.Clock).fits asked ≡ is_typed (typing known queries re.Clock).type_ asked
  fit-Clock asked = own re.Clock (Some t.Int) asked (typing-Clock known queries)

  pub fit-Ask : (query : ℕ) (asked : Ty) → (typing known queries (re.Ask query)).fits asked ≡ is_typed (typing known queries (re.Ask query)).type_ asked
  fit-Ask query asked = own _ _ asked (typing-Ask known queries query)

  pub fit-Range : (x y : RExpr) (asked : Ty) → (typing known queries (re.Range x y)).fits asked ≡ is_typed (typing known queries (re.Range x y)).type_ asked
  fit-Range x y asked = own _ _ asked (typing-Range known queries x y)

  pub fit-Or : (xs : List RExpr) (asked : Ty) → (typing known queries (re.Or xs)).fits asked ≡ is_typed (typing known queries (re.Or xs)).type_ asked
  fit-Or xs asked = own _ _ asked (typing-Or known queries xs)

  pub fit-And : (xs : List RExpr) (asked : Ty) → (typing known queries (re.And xs)).fits asked ≡ is_typed (typing known queries (re.And xs)).type_ asked
  fit-And xs asked = own _ _ asked (typing-And known queries xs)

  pub fit-Not : (x : RExpr) (asked : Ty) → (typing known queries (re.Not x)).fits asked ≡ is_typed (typing known queries (re.Not x)).type_ asked
  fit-Not x asked = own _ _ asked (typing-Not known queries x)

  pub fit-Cmp : (o : CmpOp) (x y : RExpr) (asked : Ty) → (typing known queries (re.Cmp o x y)).fits asked ≡ is_typed (typing known queries (re.Cmp o x y)).type_ asked
  fit-Cmp o x y asked = own _ _ asked (typing-Cmp known queries o x y)

  pub fit-Member : (x y : RExpr) (asked : Ty) → (typing known queries (re.Member x y)).fits asked ≡ is_typed (typing known queries (re.Member x y)).type_ asked
  fit-Member x y asked = own _ _ asked (typing-Member known queries x y)

  pub fit-Chain : (x : RExpr) (more : List ChainPart) (asked : Ty) → (typing known queries (re.Chain x more)).fits asked ≡ is_typed (typing known queries (re.Chain x more)).type_ asked
  fit-Chain x more asked = own _ _ asked (typing-Chain known queries x more)

  pub fit-Tuple : (xs : List RExpr) (asked : Ty) → (typing known queries (re.Tuple xs)).fits asked ≡ holds_of (if is_flat asked then parts_of asked else None) (parts_fit (map (typing known queries) xs))
  fit-Tuple xs asked = ap (λ (e : ExprType). e.fits asked) (typing-Tuple known queries xs) ∙ held_where (is_flat asked) (parts_of asked) (parts_fit (map (typing known queries) xs))

  pub fit-SetOf : (xs : List RExpr) (asked : Ty) → (typing known queries (re.SetOf xs)).fits asked ≡ holds_of (if is_flat asked then element_of asked else None) (λ element. list_all (λ x. (typing known queries x).fits element) xs)
  fit-SetOf xs asked =
      ap (λ (e : ExprType). e.fits asked) (typing-SetOf known queries xs)
      ∙ ap (λ rest. is_flat asked && rest) (holds_same (element_of asked) _ _ (λ element. list_all-map (λ (e : ExprType). e.fits element) (typing known queries) xs))
      ∙ held_where (is_flat asked) (element_of asked) (λ element. list_all (λ x. (typing known queries x).fits element) xs)

pub ruleset fit_rules = (fit-Const, fit-Procs, fit-Me, fit-Slot, fit-Clock, fit-Ask, fit-Range, fit-Or, fit-And, fit-Not, fit-Cmp, fit-Member, fit-Chain, fit-Tuple, fit-SetOf)
