-- What is made of one parameter, member or class where types may be missing, and what is noted of it.
use Rattle.std.proofs.Common.{◌≡◌, ℕ, Bool, true, false, if◌then◌else◌, List, [], ◌∷◌, ◌++◌, refl, sym, ap, ◌∙◌, append-nil}
use Rattle.std.specs.Prelude.{map}
use Rattle.da_lang.specs.declared.tree.ClassTree.{ClassTree}
use Rattle.da_lang.specs.declared.tree.Member.{Member}
use Rattle.da_lang.specs.declared.tree.Member.TheVariants as member
use Rattle.da_lang.specs.declared.tree.Param.{Param}
use Rattle.da_lang.specs.declared.tree.Stmt.{Stmt}
use Rattle.da_lang.specs.declared.tree.Tree.{Tree}
use Rattle.da_lang.specs.declared.ty.Ty.TheVariants as ty
use Rattle.da_parse.specs.declared.loose.LooseTree.{LooseTree}
use Rattle.da_parse.specs.declared.loose.OpenParam.{OpenParam}
use Rattle.da_parse.specs.Loose.{is_open, given_param, given_member, given_class, given_tree, place_at, open_param, open_params, params_of, open_classes, loose_of}

pub ruleset type_forms = (ty.outs-Int, ty.outs-Bool, ty.outs-Text, ty.outs-Proc, ty.outs-Tuple, ty.outs-Set)

pub place_same : {a b c x y z : ℕ} → a ≡ x → b ≡ y → c ≡ z → ◌≡◌ {A = OpenParam} (record { class = a; member = b; param = c }) (place_at x y z)
place_same {b = b} {c = c} {x = x} {y = y} p q r = ap (λ n. place_at n b c) p ∙ ap (λ n. place_at x n c) q ∙ ap (place_at x y) r

-- ---- parameters

typed_by : (b : Bool) (p : Param) → b ≡ false → p ≡ record { name = p.name; ty = if b then ty.Int else p.ty }
typed_by false p e = refl
typed_by true p e = absurd (cc)

open_by : (b : Bool) (p : Param) → b ≡ true → ◌≡◌ {A = Param} (record { name = p.name; ty = ty.Int }) (record { name = p.name; ty = if b then ty.Int else p.ty })
open_by true p e = refl
open_by false p e = absurd (cc)

none_by : (b : Bool) (place : OpenParam) (before : List OpenParam) → b ≡ false → before ≡ before ++ (if b then place ∷ [] else [])
none_by false place before e = sym (append-nil before)
none_by true place before e = absurd (cc)

one_by : (b : Bool) (place : OpenParam) (before : List OpenParam) → b ≡ true → before ++ place ∷ [] ≡ before ++ (if b then place ∷ [] else [])
one_by true place before e = refl
one_by false place before e = absurd (cc)

-- a parameter with its type
pub typed_kept : (p : Param) → is_open p.ty ≡ false → p ≡ given_param p
typed_kept p e = typed_by (is_open p.ty) p e

pub none_noted : (in_class in_member at : ℕ) (p : Param) (before : List OpenParam) → is_open p.ty ≡ false → before ≡ before ++ open_param in_class in_member at p
none_noted in_class in_member at p before e = none_by (is_open p.ty) (place_at in_class in_member at) before e

-- one without
pub open_given : (p : Param) → is_open p.ty ≡ true → ◌≡◌ {A = Param} (record { name = p.name; ty = ty.Int }) (given_param p)
open_given p e = open_by (is_open p.ty) p e

pub one_noted : (in_class in_member at : ℕ) (p : Param) (place : OpenParam) (before after : List OpenParam) → is_open p.ty ≡ true → place ≡ place_at in_class in_member at → after ≡ before ++ place ∷ []
    → after ≡ before ++ open_param in_class in_member at p
one_noted in_class in_member at p place before after e here pushed =
    pushed ∙ ap (λ x. before ++ x ∷ []) here ∙ one_by (is_open p.ty) (place_at in_class in_member at) before e

-- ---- members, classes, programs

abbrev pub NoSetup : Member → Type 0
NoSetup x = (params : List Param) (body : List Stmt) (line : ℕ) → x ≡ member.Setup params body line → ⊥

abbrev pub NoMethod : Member → Type 0
NoMethod x = (name : List ℕ) (params : List Param) (body : List Stmt) (line : ℕ) → x ≡ member.Method name params body line → ⊥

-- a member that has no parameters
pub others_kept : (x : Member) → NoSetup x → NoMethod x → x ≡ given_member x
others_kept (member.Setup params body line) no_setup no_method = absurd (no_setup params body line refl)
others_kept (member.Method name params body line) no_setup no_method = absurd (no_method name params body line refl)
others_kept (member.Var name type_ line) no_setup no_method = refl
others_kept (member.Run body line) no_setup no_method = refl
others_kept (member.Receive message peer labels body line) no_setup no_method = refl

no_params : (x : Member) → NoSetup x → NoMethod x → params_of x ≡ []
no_params (member.Setup params body line) no_setup no_method = absurd (no_setup params body line refl)
no_params (member.Method name params body line) no_setup no_method = absurd (no_method name params body line refl)
no_params (member.Var name type_ line) no_setup no_method = refl
no_params (member.Run body line) no_setup no_method = refl
no_params (member.Receive message peer labels body line) no_setup no_method = refl

pub others_noted : (in_class at : ℕ) (x : Member) (before : List OpenParam) → NoSetup x → NoMethod x → before ≡ before ++ open_params in_class at 0 (params_of x)
others_noted in_class at x before no_setup no_method = sym (append-nil before) ∙ ap (λ ps. before ++ open_params in_class at 0 ps) (sym (no_params x no_setup no_method))

-- a member with these parameters given
pub setup_given : (x : Member) (params given : List Param) (body : List Stmt) (line : ℕ) → x ≡ member.Setup params body line → given ≡ map given_param params → member.Setup given body line ≡ given_member x
setup_given x params given body line is all = ap (λ ps. member.Setup ps body line) all ∙ ap given_member (sym is)

pub setup_noted : (in_class at : ℕ) (x : Member) (params : List Param) (body : List Stmt) (line : ℕ) (before after : List OpenParam) → x ≡ member.Setup params body line → after ≡ before ++ open_params in_class at 0 params → after ≡ before ++ open_params in_class at 0 (params_of x)
setup_noted in_class at x params body line before after is all = all ∙ ap (λ y. before ++ open_params in_class at 0 (params_of y)) (sym is)

pub method_given : (x : Member) (name : List ℕ) (params given : List Param) (body : List Stmt) (line : ℕ) → x ≡ member.Method name params body line → given ≡ map given_param params → member.Method name given body line ≡ given_member x
method_given x name params given body line is all = ap (λ ps. member.Method name ps body line) all ∙ ap given_member (sym is)

pub method_noted : (in_class at : ℕ) (x : Member) (name : List ℕ) (params : List Param) (body : List Stmt) (line : ℕ) (before after : List OpenParam) → x ≡ member.Method name params body line → after ≡ before ++ open_params in_class at 0 params → after ≡ before ++ open_params in_class at 0 (params_of x)
method_noted in_class at x name params body line before after is all = all ∙ ap (λ y. before ++ open_params in_class at 0 (params_of y)) (sym is)

abbrev class_by : ClassTree → List Member → ClassTree
class_by c members = record c { members = members }

-- a class with these members given
pub class_given : (c : ClassTree) (members : List Member) → members ≡ map given_member c.members → ◌≡◌ {A = ClassTree} (record { name = c.name; members = members; line = c.line }) (given_class c)
class_given c members all = ap (class_by c) all

abbrev tree_by : Tree → List ClassTree → List OpenParam → LooseTree
tree_by t classes noted = record { tree = record t { classes = classes }; untyped = noted }

-- the program with these classes given
pub tree_given : (t : Tree) (classes : List ClassTree) (start noted : List OpenParam) → start ≡ [] → classes ≡ map given_class t.classes → noted ≡ start ++ open_classes 0 t.classes
    → ◌≡◌ {A = LooseTree} (record { tree = record t { classes = classes }; untyped = noted }) (loose_of t)
unfolding loose_of
tree_given t classes start noted empty all more =
    ap (λ cs. tree_by t cs noted) all ∙ ap (tree_by t (map given_class t.classes)) (more ∙ ap (λ ps. ps ++ open_classes 0 t.classes) empty)
