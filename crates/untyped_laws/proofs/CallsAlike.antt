-- Methods that are equal but for the types of parameters lead to the same ones.
use Rattle.std.specs.Prelude.{◌≡◌, refl, ℕ, zero, suc, ◌==◌, ◌||◌, Bool, false, not, List, map, length, Option, Some, None, is_none, option_to_list, filter_map, bytes_eq}
use Rattle.std.specs.List.{list_any}
use Rattle.std.proofs.Common.{◌∙◌, ap, ap₂}
use Rattle.da_lang.specs.declared.tree.ClassTree.{ClassTree}
use Rattle.da_lang.specs.declared.tree.Expr.{Expr}
use Rattle.da_lang.specs.declared.ty.Ty.{Ty}
use Rattle.da_lang.specs.Calls.{called, is_yield, deeds_in, calls_in, leads, leads_within, yields, yields_within}
use Rattle.da_lang.specs.ClassParts.{Body, method_of}
use Rattle.da_lang.specs.Deeds.{Doing, Calls, Deed, deeds}
use Rattle.da_lang.specs.NameRules.{lines_where, calls_none, leads_back, yields_by, misfits, fits_params}
use Rattle.untyped_laws.specs.Alike.{ParamsAlike, BodiesAlike, MembersAlike}
use Rattle.untyped_laws.specs.Beside.{Beside, Both}
use Rattle.untyped_laws.proofs.BesideLaws.{beside_length}
use Rattle.untyped_laws.proofs.ListLaws.{any_same, filter_same}
use Rattle.untyped_laws.proofs.MembersAlike.{stmts_both, as_many, method_both}

pub lines_same : (f g : Deed → Bool) → ((e : Deed) → f e ≡ g e) → (ds : List Deed) → lines_where f ds ≡ lines_where g ds
lines_same f g each ds = ap (map (λ e. e.line)) (filter_same f g each ds)

module _ (R : Option Ty → Option Ty → Type 0) (c d : ClassTree) (all : Beside (MembersAlike R) c.members d.members) where
  pub deeds_in_equal : (name : List ℕ) → deeds_in c name ≡ deeds_in d name
  deeds_in_equal name = ap deeds (stmts_both R (method_of c name) (method_of d name) (method_both R c d all name))

  calls_equal : (name : List ℕ) → calls_in c name ≡ calls_in d name
  calls_equal name = ap (filter_map (λ e. called e.does)) (deeds_in_equal name)

  leads_same : (most : ℕ) (name goal : List ℕ) → leads_within most c name goal ≡ leads_within most d name goal
  unfolding leads_within
  leads_same zero name goal = refl
  leads_same (suc most) name goal =
      ap (λ b. bytes_eq name goal || b)
      (any_same (λ next. leads_within most c next goal) (λ next. leads_within most d next goal) (λ next. leads_same most next goal) (calls_in c name) ∙ ap (list_any (λ next. leads_within most d next goal)) (calls_equal name))

  yields_same : (most : ℕ) (name : List ℕ) → yields_within most c name ≡ yields_within most d name
  unfolding yields_within
  yields_same zero name = ap (list_any (λ e. is_yield e.does)) (deeds_in_equal name)
  yields_same (suc most) name =
      ap₂ (λ x y. x || y) (ap (list_any (λ e. is_yield e.does)) (deeds_in_equal name))
      (any_same (yields_within most c) (yields_within most d) (yields_same most) (calls_in c name) ∙ ap (list_any (yields_within most d)) (calls_equal name))

  pub leads_equal : (name goal : List ℕ) → leads c name goal ≡ leads d name goal
  leads_equal name goal = leads_same (length c.members) name goal ∙ ap (λ n. leads_within n d name goal) (as_many R c d all)

  yields_equal : (name : List ℕ) → yields c name ≡ yields d name
  yields_equal name = yields_same (length c.members) name ∙ ap (λ n. yields_within n d name) (as_many R c d all)

  none_equal : (x y : Option Body) → Both (BodiesAlike R) x y → is_none x ≡ is_none y
  none_equal None None m = refl
  none_equal None (Some y) m = absurd m
  none_equal (Some x) None m = absurd m
  none_equal (Some x) (Some y) m = refl

  misfit_equal : (xs : List Expr) (x y : Option Body) → Both (BodiesAlike R) x y → list_any (λ b. not (fits_params xs b)) (option_to_list x) ≡ list_any (λ b. not (fits_params xs b)) (option_to_list y)
  misfit_equal xs None None m = refl
  misfit_equal xs None (Some y) m = absurd m
  misfit_equal xs (Some x) None m = absurd m
  misfit_equal xs (Some x) (Some y) m = ap (λ n. not (length xs == n) || false) (beside_length (ParamsAlike R) x.params y.params m.params)

  -- rules of one statement
  pub none_same : (does : Doing) → calls_none c does ≡ calls_none d does
  none_same (Calls name) = none_equal (method_of c name) (method_of d name) (method_both R c d all name)
  none_same _ = refl

  pub back_same : (holder : List ℕ) (does : Doing) → leads_back c holder does ≡ leads_back d holder does
  back_same holder (Calls name) = leads_equal name holder
  back_same holder _ = refl

  pub yield_same : (does : Doing) → yields_by c does ≡ yields_by d does
  yield_same (Calls name) = yields_equal name
  yield_same _ = refl

  pub misfit_same : (e : Deed) (does : Doing) → misfits c e does ≡ misfits d e does
  misfit_same e (Calls name) = misfit_equal e.says (method_of c name) (method_of d name) (method_both R c d all name)
  misfit_same e _ = refl
